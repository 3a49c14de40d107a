use Rattle.script_lang.specs.Kept.{AddsIdle}
use Rattle.script_lang.proofs.script.with_idle.Given as goal

-- so many guests with no requests stand behind those that are named
abbrev pub invariant-loop : goal.invariant-loop
invariant-loop l = AddsIdle l.counter l.fn.named.items l.guests.items
