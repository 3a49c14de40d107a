use Rattle.std.proofs.Common.{◌≡◌, ◌-◌, true, ap, sym, subst, ◌∙◌}
use Rattle.script_lang.specs.Left.{Left, is_out}
use Rattle.script_lang.proofs.LeftLemmas.{IsGuestAt, IsGuestAt-out, kept_few-set, out-at, with_back-set}
use Rattle.script_lang.proofs.commands.Commands.give_back.Goals as goal

pub returns-clause-back : goal.returns-clause-back
returns-clause-back c =
    let machine = c.self.inside.machine in
    let store = c.self.inside.store in
    let host = c.self.inside.host.items in
    let guests = c.self.inside.guests.items in
    let guest = c.index_mut.result.now in
    let out = subst (λ (left : Left). is_out left c.args.f.0 ≡ true) (sym c.self.view_is) c.requires.out in
    let found : IsGuestAt guests c.args.f.0 (c.from-place.result - 1) guest = IsGuestAt-out machine store host guests _ _ _ out (ap (λ n. n - 1) c.from-place.ensures) c.index_mut.ensures.value in
    rw (← c.self.view_is) (with_back-set machine store host guests _ _ guest c.args.request found (sym (out-at machine store host guests _ _ guest found) ∙ out))

pub returns-clause-few : goal.returns-clause-few
returns-clause-few c = kept_few-set _ c.self.inside.guests.items _ _ c.self.invariant.count
