use Rattle.std.proofs.Common.{List, map, sym, ap, subst, ◌∙◌, arith}
use Rattle.std.specs.List.{All}
use Rattle.std.proofs.lemmas.List.{take_all}
use Rattle.std.proofs.lemmas.List.Elements.{All-more}
use Rattle.nesc_session.specs.Requests.{IsClearWhereIdle, Requests}
use Rattle.nesc_session.proofs.Bits.{number_of, number_of-more_false, number_of-more_true}
use Rattle.nesc_session.proofs.FunctionBits.{pending_functions, waits}
use Rattle.nesc_session.proofs.Idle.{clear_sound}
use Rattle.nesc_session.proofs.functions.pending.Goals.{then-is_some, else-is_some}
use Rattle.nesc_session.proofs.functions.pending.Goals as goal

pub loop-index-preserved : goal.loop-index-preserved
loop-index-preserved c =
    let all = c.args.requests.now in
    let item = c.index-requests-index.result in
    let at = c.index-requests-index.is in
    let within = c.loop-index-test.true in
    let same = sym (ap waits c.requests.view_is) ∙ sym c.is_some.ensures in
    let clear = clear_sound c.requests.inside.queue c.requests.inside.waiting c.requests.invariant in
    record {
      bits = elim c.if-is_some.branch [
        | then-is_some w ↦ w.bits-is ∙ number_of-more_true waits all c.loop-index.index item within at 32 c.loop-index.bits (omega (arith, within, c.requires)) c.loop-index.invariant.bits (same ∙ w.if-is_some.true)
        | else-is_some w ↦ w.bits-is ∙ number_of-more_false waits all c.loop-index.index item within at c.loop-index.bits c.loop-index.invariant.bits (same ∙ w.if-is_some.false)
      ];
      clear = All-more IsClearWhereIdle all c.loop-index.index item within c.loop-index.invariant.clear
          (subst IsClearWhereIdle at (subst IsClearWhereIdle c.requests.view_is clear));
    }

pub returns : goal.returns
returns c files as_many idle =
    let all = c.args.requests.now in
    let whole = take_all c.loop-index.index all c.loop-index-test.false in
    c.loop-index.invariant.bits
    ∙ ap (λ (those : List Requests). number_of (map waits those)) whole
    ∙ sym (pending_functions files all as_many idle (subst (λ (those : List Requests). All IsClearWhereIdle those) whole c.loop-index.invariant.clear))
