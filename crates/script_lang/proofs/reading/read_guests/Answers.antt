use Rattle.std.proofs.Common.{◌≡◌, ℕ, ◌+◌, List, [], ◌∷◌, drop, length, map, Some, Ok, refl, ap, sym, ◌∙◌, arith}
use Rattle.std.proofs.lemmas.List.{length-append}
use Rattle.nesc_requests.specs.declared.request.Request.{Request}
use Rattle.toml.specs.Data.{Items}
use Rattle.toml.specs.View.{items_view, view}
use Rattle.script_lang.specs.CommandsText.{guests_of, guests_said, items_in, requests_said, strings_of}
use Rattle.script_lang.specs.Entries.{request_in}
use Rattle.script_lang.specs.Kept.{IsFreshGuest, requests_left}
use Rattle.script_lang.proofs.GuestLemmas.{fresh-left, fresh-push, guests-front, guests-more, left-push}
use Rattle.script_lang.proofs.StepLemmas.{behind}
use Rattle.script_lang.proofs.StoreLemmas.{Grows-trans}
use Rattle.script_lang.proofs.reading.read_guests.Goals as goal

pub loop-value-preserved : goal.loop-value-preserved
loop-value-preserved c =
    let values = c.args.values.now in
    let i = c.loop-value.value-index in
    let f = c.loop-value.f in
    let old = c.loop-value.store in
    let new = c.read_requests.new.store in
    let grows = c.in_ok-entries.ensures.grows in
    let guests = c.loop-value.guests.items in
    let guest = c.new.result in
    let entries = c.in_ok-entries.entries.items in
    let done = map (requests_left old) guests in
    let texts = strings_of (items_in (Some (view c.value-item.result))) in
    let more = guests_of (items_view (drop (i + 1) values)) in
    let fresh : IsFreshGuest (length new) guest = record { entries = rw c.new.ensures.entries c.in_ok-entries.ensures.kept; none = c.new.ensures.back; inside = c.new.ensures.inside } in
    let same : requests_left new guest ≡ map (request_in new) entries = fresh-left new (length new) guest fresh ∙ rw c.new.ensures.entries refl in
    let gives : requests_said (f + 1) texts ≡ Ok (requests_left new guest) =
    ap (λ (items : Items). requests_said (f + 1) (strings_of items)) (sym c.list_in.ensures) ∙ c.in_ok-entries.ensures.read ∙ ap Ok (sym same) in
    rw c.in_ok-push.ensures.items (record {
      f = omega (arith, c.loop-value.invariant.f);
      count = omega (arith, c.loop-value.invariant.count, length-append guests (guest ∷ []));
      read =
          ap (λ (all : List (List Request)). behind all (guests_said (f + 1 + 1) more)) (left-push old new grows guests guest c.loop-value.invariant.fresh)
          ∙ sym (guests-more (f + 1) texts more (requests_left new guest) done gives)
          ∙ ap (λ (all : List (List (List ℕ))). behind done (guests_said (f + 1) all)) (sym (guests-front values i c.value-item.result c.loop-value-test.true c.value-item.is))
          ∙ c.loop-value.invariant.read;
      fresh = fresh-push old new grows guests guest c.loop-value.invariant.fresh fresh;
      grows = Grows-trans c.args.store.now old new c.loop-value.invariant.grows grows;
    })
