-- What is kept stays the same where the store grows, and what strings say, one after another.
use Rattle.std.proofs.Common.{◌≡◌, ℕ, ◌+◌, ◌<◌, ◌≤◌, List, [], ◌∷◌, ◌++◌, length, get_or, map, drop, Option, Some, Ok, refl, ap, sym, ◌∙◌, arith}
use Rattle.std.specs.List.{All}
use Rattle.std.proofs.lemmas.List.{append-nil, drop_all, length-append}
use Rattle.std.proofs.lemmas.List.Elements.{All-head, All-tail, All-weaker}
use Rattle.toml.proofs.Views.{items_view-drop}
use Rattle.toml.specs.Data.{Data, string, integer, float, boolean, datetime, array, table, Items, item, as_str}
use Rattle.toml.specs.View.{items_view, view}
use Rattle.toml.specs.declared.value.Value.{Value}
use Rattle.nesc_base.specs.declared.block.Block.{Block}
use Rattle.nesc_requests.specs.declared.host.HostCommand.{HostCommand}
use Rattle.nesc_requests.specs.declared.host.HostCommand.TheVariants as host
use Rattle.nesc_requests.specs.declared.request.Request.{Request}
use Rattle.nesc_requests.specs.declared.request.Request.TheVariants as request
use Rattle.script_lang.specs.CommandsText.{each_said, strings_of}
use Rattle.script_lang.specs.Entries.{IsGuestEntry, IsHostEntry, command_in, request_in}
use Rattle.script_lang.specs.Stored.{Grows, IsStored}
use Rattle.script_lang.specs.declared.entries.GuestEntry.{GuestEntry}
use Rattle.script_lang.specs.declared.entries.GuestEntry.TheVariants.{Read, Write, Flush}
use Rattle.script_lang.specs.declared.entries.HostEntry.{HostEntry}
use Rattle.script_lang.specs.declared.entries.HostEntry.TheVariants.{Create, Delete, Resize, Put, Map, Get, Attach, Detach, Sync, Regs}
use Rattle.script_lang.specs.declared.store.StoredRun.{StoredRun}
use Rattle.script_lang.proofs.StepLemmas.{behind, behind-append}
use Rattle.script_lang.proofs.StoreLemmas.{blocks_at-grown}

-- Where the store grows

stored-grown : (old new : List Block) (run : StoredRun) → Grows old new → IsStored (length old) run → IsStored (length new) run
stored-grown old new run grows stored =
    let longer : length new ≡ length old + length grows.more = ap length grows.result ∙ length-append old grows.more in
    record { some = stored.some; few = stored.few; inside = omega (arith, stored.inside) }

module _ (old new : List Block) (grows : Grows old new) where
  host-grown : (entry : HostEntry) → IsHostEntry (length old) entry → command_in new entry ≡ command_in old entry
  host-grown (Put name run) kept = ap (λ (blocks : List Block). host.Put name run.v blocks) (blocks_at-grown old new run grows kept.inside)
  host-grown (Create name len) kept = refl
  host-grown (Delete name) kept = refl
  host-grown (Resize name len) kept = refl
  host-grown (Map name v n) kept = refl
  host-grown (Get name v n) kept = refl
  host-grown (Attach f name) kept = refl
  host-grown (Detach f) kept = refl
  host-grown Sync kept = refl
  host-grown (Regs f) kept = refl

  host-still : (entry : HostEntry) → IsHostEntry (length old) entry → IsHostEntry (length new) entry
  host-still (Put name run) kept = stored-grown old new run grows kept
  host-still (Create name len) kept = tt
  host-still (Delete name) kept = tt
  host-still (Resize name len) kept = tt
  host-still (Map name v n) kept = tt
  host-still (Get name v n) kept = kept
  host-still (Attach f name) kept = tt
  host-still (Detach f) kept = tt
  host-still Sync kept = tt
  host-still (Regs f) kept = tt

  guest-grown : (entry : GuestEntry) → IsGuestEntry (length old) entry → request_in new entry ≡ request_in old entry
  guest-grown (Read v n) kept = refl
  guest-grown (Write run) kept = ap (λ (blocks : List Block). request.Write run.v blocks) (blocks_at-grown old new run grows kept.inside)
  guest-grown Flush kept = refl

  guest-still : (entry : GuestEntry) → IsGuestEntry (length old) entry → IsGuestEntry (length new) entry
  guest-still (Read v n) kept = kept
  guest-still (Write run) kept = stored-grown old new run grows kept
  guest-still Flush kept = tt

  pub hosts-grown : (entries : List HostEntry) → All (IsHostEntry (length old)) entries → map (command_in new) entries ≡ map (command_in old) entries
  hosts-grown [] kept = refl
  hosts-grown (entry ∷ entries) kept =
      ap (λ (c : HostCommand). c ∷ map (command_in new) entries) (host-grown entry (All-head (IsHostEntry (length old)) entry entries kept))
      ∙ ap (λ (cs : List HostCommand). command_in old entry ∷ cs) (hosts-grown entries (All-tail (IsHostEntry (length old)) entry entries kept))

  pub guests-grown : (entries : List GuestEntry) → All (IsGuestEntry (length old)) entries → map (request_in new) entries ≡ map (request_in old) entries
  guests-grown [] kept = refl
  guests-grown (entry ∷ entries) kept =
      ap (λ (r : Request). r ∷ map (request_in new) entries) (guest-grown entry (All-head (IsGuestEntry (length old)) entry entries kept))
      ∙ ap (λ (rs : List Request). request_in old entry ∷ rs) (guests-grown entries (All-tail (IsGuestEntry (length old)) entry entries kept))

  pub hosts-still : (entries : List HostEntry) → All (IsHostEntry (length old)) entries → All (IsHostEntry (length new)) entries
  hosts-still entries kept = All-weaker (IsHostEntry (length old)) (IsHostEntry (length new)) host-still entries kept

  pub guests-still : (entries : List GuestEntry) → All (IsGuestEntry (length old)) entries → All (IsGuestEntry (length new)) entries
  guests-still entries kept = All-weaker (IsGuestEntry (length old)) (IsGuestEntry (length new)) guest-still entries kept

-- One string after another

string_is : (value : Data) (text : List ℕ) → Some text ≡ as_str value → value ≡ string text
string_is (string s) text is = cc
string_is (integer z) text is = cc
string_is (float x) text is = cc
string_is (boolean b) text is = cc
string_is (datetime dt) text is = cc
string_is (array more) text is = cc
string_is (table entries) text is = cc

-- the value in front of those that are left is a string
pub strings-front : (values : List Value) (i : ℕ) (value : Value) (text : List ℕ) → i < length values → value ≡ get_or values i value → Some text ≡ as_str (view value)
    → strings_of (items_view (drop i values)) ≡ text ∷ strings_of (items_view (drop (i + 1) values))
strings-front values i value text within is said =
    let rest : Items = items_view (drop (i + 1) values) in
    ap strings_of (items_view-drop values i value within)
    ∙ ap (λ (v : Value). strings_of (item (view v) rest)) (sym is)
    ∙ ap (λ (d : Data). strings_of (item d rest)) (string_is (view value) text said)

-- what it says is done
pub said-more : {C : Type 0} (said : List ℕ → Option C) (actor index : ℕ) (text : List ℕ) (texts : List (List ℕ)) (x : C) (done : List C) → said text ≡ Some x
    → behind done (each_said said actor index (text ∷ texts)) ≡ behind (done ++ x ∷ []) (each_said said actor (index + 1) texts)
said-more said actor index text texts x done gives = rw gives (behind-append done (x ∷ []) (each_said said actor (index + 1) texts))

-- none is left
pub strings-end : (values : List Value) (i : ℕ) → length values ≤ i → strings_of (items_view (drop i values)) ≡ []
strings-end values i over = ap (λ (vs : List Value). strings_of (items_view vs)) (drop_all i values over)

pub said-end : {C : Type 0} (said : List ℕ → Option C) (actor index : ℕ) (done : List C) → behind done (each_said said actor index []) ≡ Ok done
said-end said actor index done = ap Ok (append-nil done)
