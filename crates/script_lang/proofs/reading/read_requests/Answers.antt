use Rattle.std.proofs.Common.{◌≡◌, ℕ, ◌+◌, List, [], ◌∷◌, ◌++◌, drop, length, map, Some, ap, sym, ◌∙◌, rules}
use Rattle.std.proofs.lemmas.List.{map-append}
use Rattle.std.proofs.lemmas.List.Elements.{All-push}
use Rattle.nesc_requests.specs.declared.request.Request.{Request}
use Rattle.toml.specs.View.{items_view}
use Rattle.script_lang.specs.CommandsText.{each_said, strings_of}
use Rattle.script_lang.specs.Entries.{IsGuestEntry, request_in}
use Rattle.script_lang.specs.GuestText.{request_of}
use Rattle.script_lang.proofs.EntryLemmas.{guests-grown, guests-still, said-end, said-more, strings-end, strings-front}
use Rattle.script_lang.proofs.StepLemmas.{behind}
use Rattle.script_lang.proofs.StoreLemmas.{Grows-trans}
use Rattle.script_lang.proofs.reading.read_requests.Goals as goal

pub loop-value-preserved : goal.loop-value-preserved
loop-value-preserved c =
    let f = c.args.f in
    let values = c.args.values.now in
    let i = c.loop-value.value-index in
    let old = c.loop-value.store in
    let new = c.guest_entry_of.new.store in
    let entries = c.loop-value.entries.items in
    let entry = c.in-Ok.entry in
    let done = map (request_in old) entries in
    let text = c.in-Some.text.now in
    let rest = strings_of (items_view (drop (i + 1) values)) in
    let grows = c.in-Ok.ensures.grows in
    let said : request_of text ≡ Some (request_in new entry) = ap request_of (sym c.as_bytes.ensures.value) ∙ c.in-Ok.ensures.read in
    let next : c.in_ok-index.index ≡ c.loop-value.index + 1 = search rules in
    rw c.in_ok-push_back-in-Ok.ensures.items (record {
      read =
          ap (λ (requests : List Request). behind requests (each_said request_of f (c.in_ok-index.index + 1) rest)) (map-append (request_in new) entries (entry ∷ []) ∙ ap (λ (requests : List Request). requests ++ request_in new entry ∷ []) (guests-grown old new grows entries c.loop-value.invariant.kept))
          ∙ ap (λ n. behind (done ++ request_in new entry ∷ []) (each_said request_of f (n + 1) rest)) next
          ∙ sym (said-more request_of f (c.loop-value.index + 1) text rest (request_in new entry) done said)
          ∙ ap (λ (texts : List (List ℕ)). behind done (each_said request_of f (c.loop-value.index + 1) texts)) (sym (strings-front values i c.value-item.result text c.loop-value-test.true c.value-item.is c.in-Some.ensures))
          ∙ c.loop-value.invariant.read;
      kept = All-push (IsGuestEntry (length new)) entries entry (guests-still old new grows entries c.loop-value.invariant.kept) c.in-Ok.ensures.kept;
      grows = Grows-trans c.args.store.now old new c.loop-value.invariant.grows grows;
    })

pub returns-clause-read : goal.returns-clause-read
returns-clause-read c =
    let f = c.args.f in
    let done = map (request_in c.loop-value.store) c.loop-value.entries.items in
    sym c.loop-value.invariant.read
    ∙ ap (λ (texts : List (List ℕ)). behind done (each_said request_of f (c.loop-value.index + 1) texts)) (strings-end c.args.values.now c.loop-value.value-index c.loop-value-test.false)
    ∙ said-end request_of f (c.loop-value.index + 1) done
