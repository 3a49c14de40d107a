-- Guests of which nothing was taken, one after another.
use Rattle.std.proofs.Common.{◌≡◌, ℕ, suc, ◌+◌, ◌<◌, ◌≤◌, List, [], ◌∷◌, ◌++◌, length, get_or, map, drop, Option, Some, Ok, option_to_list, refl, ap, sym, ◌∙◌, arith}
use Rattle.std.specs.List.{All}
use Rattle.std.proofs.lemmas.List.{length-append, map-append}
use Rattle.std.proofs.lemmas.List.Elements.{All-head, All-push, All-tail, All-weaker}
use mathlib.Core.List.{append_assoc}
use Rattle.toml.proofs.Views.{items_view-drop}
use Rattle.toml.specs.Data.{item}
use Rattle.toml.specs.View.{items_view, view}
use Rattle.toml.specs.declared.value.Value.{Value}
use Rattle.nesc_base.specs.declared.block.Block.{Block}
use Rattle.nesc_requests.specs.declared.request.Request.{Request}
use Rattle.script_lang.specs.CommandsText.{guests_of, guests_said, items_in, requests_said, strings_of}
use Rattle.script_lang.specs.Entries.{request_in}
use Rattle.script_lang.specs.Kept.{AddsIdle, IsFreshGuest, IsIdle, requests_left}
use Rattle.script_lang.specs.Stored.{Grows}
use Rattle.script_lang.specs.declared.guest.Guest.{Guest}
use Rattle.script_lang.proofs.EntryLemmas.{guests-grown, guests-still}
use Rattle.script_lang.proofs.StepLemmas.{behind, behind-append}

-- a guest has all that it keeps
pub fresh-left : (blocks : List Block) (count : ℕ) (guest : Guest) → IsFreshGuest count guest → requests_left blocks guest ≡ map (request_in blocks) guest.entries.items
fresh-left blocks count guest fresh = ap (λ (back : Option Request). option_to_list back ++ map (request_in blocks) guest.entries.items) fresh.none

module _ (old new : List Block) (grows : Grows old new) where
  one-grown : (guest : Guest) → IsFreshGuest (length old) guest → requests_left new guest ≡ requests_left old guest
  one-grown guest fresh = ap (λ (requests : List Request). option_to_list guest.back ++ requests) (guests-grown old new grows guest.entries.items fresh.entries)

  one-still : (guest : Guest) → IsFreshGuest (length old) guest → IsFreshGuest (length new) guest
  one-still guest fresh = record { entries = guests-still old new grows guest.entries.items fresh.entries; none = fresh.none; inside = fresh.inside }

  all-grown : (guests : List Guest) → All (IsFreshGuest (length old)) guests → map (requests_left new) guests ≡ map (requests_left old) guests
  all-grown [] fresh = refl
  all-grown (guest ∷ guests) fresh =
      ap (λ (requests : List Request). requests ∷ map (requests_left new) guests) (one-grown guest (All-head (IsFreshGuest (length old)) guest guests fresh))
      ∙ ap (λ (more : List (List Request)). requests_left old guest ∷ more) (all-grown guests (All-tail (IsFreshGuest (length old)) guest guests fresh))

  pub fresh-push : (guests : List Guest) (guest : Guest) → All (IsFreshGuest (length old)) guests → IsFreshGuest (length new) guest → All (IsFreshGuest (length new)) (guests ++ guest ∷ [])
  fresh-push guests guest fresh one = All-push (IsFreshGuest (length new)) guests guest (All-weaker (IsFreshGuest (length old)) (IsFreshGuest (length new)) one-still guests fresh) one

  pub left-push : (guests : List Guest) (guest : Guest) → All (IsFreshGuest (length old)) guests → map (requests_left new) (guests ++ guest ∷ []) ≡ map (requests_left old) guests ++ requests_left new guest ∷ []
  left-push guests guest fresh = map-append (requests_left new) guests (guest ∷ []) ∙ ap (λ (requests : List (List Request)). requests ++ requests_left new guest ∷ []) (all-grown guests fresh)

-- the guest of the value in front of those that are left
pub guests-front : (values : List Value) (i : ℕ) (value : Value) → i < length values → value ≡ get_or values i value
    → guests_of (items_view (drop i values)) ≡ strings_of (items_in (Some (view value))) ∷ guests_of (items_view (drop (i + 1) values))
guests-front values i value within is =
    ap guests_of (items_view-drop values i value within)
    ∙ ap (λ (v : Value). guests_of (item (view v) (items_view (drop (i + 1) values)))) (sym is)

-- what it says is done
pub guests-more : (f : ℕ) (texts : List (List ℕ)) (more : List (List (List ℕ))) (requests : List Request) (done : List (List Request)) → requests_said f texts ≡ Ok requests
    → behind done (guests_said f (texts ∷ more)) ≡ behind (done ++ requests ∷ []) (guests_said (f + 1) more)
guests-more f texts more requests done gives = rw gives (behind-append done (requests ∷ []) (guests_said (f + 1) more))

-- there are as many guests as there are values
pub guest_count : (values : List Value) → length (guests_of (items_view values)) ≡ length values
guest_count [] = refl
guest_count (value ∷ values) = ap suc (guest_count values)

-- Guests that have no requests

-- one more of them
pub AddsIdle-more : (n : ℕ) (named all : List Guest) (guest : Guest) → length named ≤ n → IsIdle guest → AddsIdle n named all → AddsIdle (n + 1) named (all ++ guest ∷ [])
AddsIdle-more n named all guest few idle adds = record {
  more = adds.more ++ guest ∷ [];
  result = ap (λ (guests : List Guest). guests ++ guest ∷ []) adds.result ∙ append_assoc named adds.more (guest ∷ []);
  count = omega (arith, length-append adds.more (guest ∷ []), adds.count);
  idle = All-push IsIdle adds.more guest adds.idle idle;
}
