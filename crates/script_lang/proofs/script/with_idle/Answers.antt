use Rattle.std.proofs.Common.{arith}
use Rattle.script_lang.specs.Kept.{IsIdle}
use Rattle.script_lang.proofs.GuestLemmas.{AddsIdle-more}
use Rattle.script_lang.proofs.script.with_idle.Goals as goal

pub loop-preserved : goal.loop-preserved
loop-preserved c =
    let idle : IsIdle c.new-in-loop.result = record { entries = rw c.new-in-loop.ensures.entries c.new.ensures.items; none = c.new-in-loop.ensures.back; inside = c.new-in-loop.ensures.inside } in
    rw c.in_ok-push.ensures.items (AddsIdle-more c.loop.counter c.args.named.items c.loop.guests.items c.new-in-loop.result (omega arith) idle c.loop.invariant)
