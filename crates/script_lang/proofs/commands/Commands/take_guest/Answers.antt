use Rattle.std.proofs.Common.{length, refl}
use Rattle.std.proofs.lemmas.Option.{slice_get_read}
use Rattle.script_lang.proofs.LeftLemmas.{IsGuestAt, kept_few-set, takes-buffer, takes-next, takes-none, takes-out}
use Rattle.script_lang.proofs.commands.Commands.take_guest.Goals as goal
use Rattle.script_lang.proofs.commands.Commands.take_guest.Goals.{After-take_request}

found : (c : After-take_request) → IsGuestAt c.self.inside.guests.items c.args.f.0 c.in_ok-place_of.field-0 c.in_ok-guest.guest.now
found c = record {
  number = c.in_ok-place_of.ensures.place;
  at = slice_get_read c.self.inside.guests.items (length c.self.inside.guests.items) c.in_ok-place_of.field-0 c.in_ok-guest.guest.now refl c.in_ok-guest.ensures.item.3.0 c.in_ok-guest.ensures.value;
}

pub returns-clause-next : goal.returns-clause-next
returns-clause-next c =
    rw (← c.self.view_is)
    (takes-next c.self.inside.machine c.self.inside.store c.self.inside.host.items _ _ _ _ (found (goal.at.returns-clause-next c).After-take_request) _ _ c.take_request.ensures.next c.take_request.ensures.out)

pub returns-clause-out : goal.returns-clause-out
returns-clause-out c =
    takes-out c.self.inside.machine c.self.inside.store c.self.inside.host.items _ _ _ _ (found (goal.at.returns-clause-out c).After-take_request) _ _ c.take_request.ensures.out

pub returns-clause-spare : goal.returns-clause-spare
returns-clause-spare c =
    rw (← c.self.view_is)
    (takes-buffer c.self.inside.machine c.self.inside.store c.self.inside.host.items _ _ _ _ (found (goal.at.returns-clause-spare c).After-take_request) _ _ _ _ c.take_request.ensures.spare)

pub returns-clause-few : goal.returns-clause-few
returns-clause-few c = kept_few-set _ c.self.inside.guests.items _ _ c.self.invariant.count

pub returns-clause-none : goal.returns-clause-none
returns-clause-none c =
    rw (← c.self.view_is)
    (takes-none c.self.inside.machine c.self.inside.store c.self.inside.host.items _ _ _ _ (found (goal.at.returns-clause-none c).After-take_request) _ _ _ _ c.take_request.ensures.none c.take_request.ensures.still)
