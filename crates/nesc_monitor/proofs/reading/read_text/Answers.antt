use Rattle.std.proofs.Common.{◌+◌, ◌≤◌, length, rules}
use Rattle.nesc_monitor.proofs.ReadingLemmas.{TakesFront-more}
use Rattle.nesc_monitor.proofs.reading.read_text.Goals as goal

pub returns-then-n-eq0-clause-taken : goal.returns-then-n-eq0-clause-taken
returns-then-n-eq0-clause-taken g c =
    let within : length c.loop-chunk.text.items + c.in_ok-n.n ≤ 16777217 = search rules in
    λ sound. TakesFront-more _ _ _ _ _ _ within c.loop-chunk.invariant.front c.in_ok-n.ensures.first

pub returns-in_err-extend_from_slice-clause-taken : goal.returns-in_err-extend_from_slice-clause-taken
returns-in_err-extend_from_slice-clause-taken g c =
    let within : length c.loop-chunk.text.items + c.in_ok-n.n ≤ 16777217 = search rules in
    λ sound. TakesFront-more _ _ _ _ _ _ within c.loop-chunk.invariant.front c.in_ok-n.ensures.first
