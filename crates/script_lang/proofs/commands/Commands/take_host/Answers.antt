use Rattle.std.proofs.lemmas.List.Elements.{All-rest}
use Rattle.script_lang.specs.Kept.{IsHostKept}
use Rattle.script_lang.proofs.LeftLemmas.{takes-command}
use Rattle.script_lang.proofs.commands.Commands.take_host.Goals as goal

pub invariant_of-self-2 : goal.invariant_of-self-2
invariant_of-self-2 c = record {
  is_machine = c.self.invariant.is_machine;
  is_host = All-rest (IsHostKept c.self.inside.machine.functions c.self.inside.store) c.in_ok-entry.entry c.pop_front.new.self.items c.self.inside.host.items c.in_ok-entry.ensures.items c.self.invariant.is_host;
  are_guests = c.self.invariant.are_guests;
  count = c.self.invariant.count;
}

pub returns-clause-next : goal.returns-clause-next
returns-clause-next c =
    rw (← c.self.view_is)
    (takes-command c.self.inside.machine c.self.inside.store c.self.inside.host.items c.pop_front.new.self.items c.self.inside.guests.items c.in_ok-entry.entry c.give.result c.in_ok-entry.ensures.items c.give.ensures.command)
