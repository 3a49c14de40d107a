use Rattle.std.proofs.Common.{◌+◌, Some, drop, take, option_map, sym, ap, ◌∙◌}
use Rattle.nesc_session.specs.Requests.{position_ready}
use Rattle.nesc_session.proofs.Turns.{next_behind, next_up_to}
use Rattle.nesc_session.proofs.functions.next_index.Goals as goal

pub returns-in-Some-clause-next : goal.returns-in-Some-clause-next
returns-in-Some-clause-next c files as_many idle =
    let same = ap (λ k. position_ready (drop k c.args.requests.now)) (sym c.from.ensures) in
    ap (λ l. Some (l + c.in-Some.index + 1)) c.from-in-Some.ensures
    ∙ next_behind files c.args.requests.now as_many idle c.args.last c.in-Some.index c.requires (same ∙ ap position_ready (sym c.split_at.ensures.back) ∙ sym c.first_ready.ensures ∙ c.in-Some.is)

pub returns-in-None-clause-next : goal.returns-in-None-clause-next
returns-in-None-clause-next c files as_many idle =
    let same = ap (λ k. position_ready (drop k c.args.requests.now)) (sym c.from.ensures) in
    let front = ap (λ k. position_ready (take k c.args.requests.now)) c.from.ensures in
    ap (option_map (λ index. index + 1)) (c.first_ready-in-None.ensures ∙ ap position_ready c.split_at.ensures.front ∙ front)
    ∙ next_up_to files c.args.requests.now as_many idle c.args.last c.requires (same ∙ ap position_ready (sym c.split_at.ensures.back) ∙ sym c.first_ready.ensures ∙ c.in-None.is)
