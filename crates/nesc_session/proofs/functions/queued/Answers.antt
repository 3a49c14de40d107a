use Rattle.std.proofs.Common.{List, length, map, ap, subst, ◌∙◌, not, arith}
use Rattle.std.specs.List.{All}
use Rattle.std.proofs.lemmas.List.{take_all}
use Rattle.std.proofs.lemmas.List.Elements.{All-more}
use Rattle.nesc_session.specs.Requests.{IsClearWhereIdle, Requests}
use Rattle.nesc_session.proofs.Bits.{number_of, number_of-more_false, number_of-more_true}
use Rattle.nesc_session.proofs.FunctionBits.{is_queued, queued_functions}
use Rattle.nesc_session.proofs.Idle.{some_queued}
use Rattle.nesc_session.proofs.functions.queued.Goals.{then-not-is_empty, else-not-is_empty}
use Rattle.nesc_session.proofs.functions.queued.Goals as goal

pub loop-index-preserved : goal.loop-index-preserved
loop-index-preserved c =
    let all = c.args.requests.now in
    let item = c.index-requests-index.result in
    let at = c.index-requests-index.is in
    let within = c.loop-index-test.true in
    record {
      bits = elim c.if-not-is_empty.branch [
        | then-not-is_empty w ↦
            let some = some_queued item.queue.requests (c.is_empty.ensures.some w.if-not-is_empty.true) in
            w.bits-is ∙ number_of-more_true is_queued all c.loop-index.index item within at 16 c.loop-index.bits (omega (arith, within, c.requires)) c.loop-index.invariant.bits (ap not some)
        | else-not-is_empty w ↦
            let none = c.is_empty.ensures.none w.if-not-is_empty.false in
            w.bits-is ∙ number_of-more_false is_queued all c.loop-index.index item within at c.loop-index.bits c.loop-index.invariant.bits (ap is_queued none)
      ];
      clear = All-more IsClearWhereIdle all c.loop-index.index item within c.loop-index.invariant.clear (subst IsClearWhereIdle at (elim c.if-not-is_empty.branch [
        | then-not-is_empty w ↦ λ empty. absurd (omega (arith, ap length empty, c.is_empty.ensures.some w.if-not-is_empty.true))
        | else-not-is_empty w ↦ λ empty. c.is_empty.ensures.none w.if-not-is_empty.false
      ]));
    }

pub returns-clause-queued : goal.returns-clause-queued
returns-clause-queued c files as_many idle =
    let all = c.args.requests.now in
    let whole = take_all c.loop-index.index all c.loop-index-test.false in
    queued_functions files all c.loop-index.bits as_many idle (c.loop-index.invariant.bits ∙ ap (λ (those : List Requests). number_of (map is_queued those)) whole)

pub returns-clause-clear : goal.returns-clause-clear
returns-clause-clear c = subst (λ (those : List Requests). All IsClearWhereIdle those) (take_all c.loop-index.index c.args.requests.now c.loop-index-test.false) c.loop-index.invariant.clear
