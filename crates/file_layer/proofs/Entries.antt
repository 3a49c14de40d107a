-- The entries of a table, of which one changes.
use Rattle.std.proofs.Common.{◌≡◌, ◌≢◌, inl, inr, ℕ, zero, suc, ◌-◌, ◌<◌, ◌≤◌, ◌==◌, false, List, [], ◌∷◌, Option, None, Some, IsSome, length, option_map, slice_get, refl, sym, ap, ◌∙◌, subst, arith}
use Rattle.std.specs.Prelude.{if◌then◌else◌, slice_set, unwrap_or}
use Rattle.std.specs.List.{AllByRecursion}
use Rattle.std.proofs.lemmas.Bool.{cases_eq, false≢true}
use Rattle.std.proofs.lemmas.Bool.Decides.{Decides-eqb}
use Rattle.std.proofs.lemmas.List.{length-set}
use Rattle.std.proofs.lemmas.Option.{none-some, same_Some, slice_get-map, slice_get_within}
use Rattle.nesc_base.proofs.Differing.{slice_get-set_other, slice_get-set_same}
use Rattle.block_map.specs.Map.{StandsAt}
use Rattle.image_layout.specs.declared.table.TableEntry.{TableEntry}
use Rattle.image_layout.specs.Table as table
use Rattle.image_layout.specs.Table.{AreEntries}
use Rattle.file_layer.specs.Layer.{IsLayer, IsUsed, Layer, entry_of}

-- an item that is not nothing
value_there : {X : Type 0} (o : Option (Option X)) → IsSome (unwrap_or o None) → (x : X) × (o ≡ Some (Some x))
value_there None some = absurd (false≢true some)
value_there (Some None) some = absurd (false≢true some)
value_there (Some (Some x)) some = (x, refl)

-- The entry of a number

pub entry_at : (files : Layer) (n : ℕ) → 1 ≤ n → entry_of files n ≡ unwrap_or (slice_get files.table (n - 1)) None
entry_at files n numbered =
    let no : (n == 0) ≡ false = grind arith in
    ap (λ b. if b then None else unwrap_or (slice_get files.table (n - 1)) None) no

-- a number that is used is one of a file, and has an entry
pub record IsEntry (files : Layer) (n : ℕ) : Type 0 where
  pub numbered : 1 ≤ n
  pub among : n ≤ 32
  pub entry : TableEntry
  pub there : slice_get files.table (n - 1) ≡ Some (Some entry)
  pub used : entry_of files n ≡ Some entry

pub entry_if_used : (files : Layer) → length files.table ≡ 32 → (n : ℕ) → IsUsed files n → IsEntry files n
entry_if_used files count zero used = absurd (false≢true used)
entry_if_used files count (suc e) used =
    let at = entry_at files (suc e) (omega arith) in
    let item = value_there (slice_get files.table (suc e - 1)) (subst IsSome at used) in
    let within : suc e - 1 < length files.table = slice_get_within files.table (suc e - 1) (Some item.0) item.1 in
    record {
      numbered = omega arith;
      among = omega (arith, within, count);
      entry = item.0;
      there = item.1;
      used = at ∙ ap (λ o. unwrap_or o None) item.1;
    }

pub at_least_one : (n : ℕ) → n ≢ 0 → 1 ≤ n
at_least_one zero some = absurd (some refl)
at_least_one (suc n) some = omega arith

-- an item of which the length is known
length_there : (l : ℕ) (o : Option (Option TableEntry)) → option_map (option_map (λ (entry : TableEntry). entry.length)) o ≡ Some (Some l)
    → (entry : TableEntry) × (o ≡ Some (Some entry)) × (entry.length ≡ l)
length_there l None is = absurd (none-some (Some l) is)
length_there l (Some None) is = absurd (none-some l (same_Some None (Some l) is))
length_there l (Some (Some entry)) is = (entry, refl, same_Some entry.length l (same_Some (Some entry.length) (Some l) is))

-- a block that stands somewhere is one of a file
pub used_if_stands : (files : Layer) → IsLayer files → (n v at : ℕ) → StandsAt files.map n v at → (entry : TableEntry) × (entry_of files n ≡ Some entry) × (v < entry.length)
used_if_stands files layer n v at stands =
    let may = layer.may stands.0 stands.1 stands.2 in
    let length_of : TableEntry → ℕ = λ entry. entry.length in
    let item = length_there may.length (slice_get files.table (stands.1.0.0 - 1)) (sym (slice_get-map (option_map length_of) files.table (stands.1.0.0 - 1)) ∙ may.used) in
    let file = stands.3 in
    let block = stands.4 in
    let not_none = may.numbered in
    let numbered : 1 ≤ n = at_least_one n (λ none. not_none (file ∙ none)) in
    let below = may.below in
    let long = item.2 in
    (item.0, entry_at files n numbered ∙ ap (λ m. unwrap_or (slice_get files.table (m - 1)) None) (sym file) ∙ ap (λ o. unwrap_or o None) item.1, omega (arith, below, long, block))

-- One entry that changes

all_set : (P : Option TableEntry → Type 0) (xs : List (Option TableEntry)) (k : ℕ) (x : Option TableEntry) → AllByRecursion P xs → P x → AllByRecursion P (slice_set xs k x)
all_set P [] k x all here = tt
all_set P (y ∷ xs) zero x all here = (here, all.1)
all_set P (y ∷ xs) (suc k) x all here = (all.0, all_set P xs k x all.1 here)

-- no other entry has the name of this one
abbrev pub IsFresh : List (Option TableEntry) → ℕ → Option TableEntry → Type 0
IsFresh entries k entry = (j : ℕ) (one other : TableEntry) → j ≢ k → slice_get entries j ≡ Some (Some one) → entry ≡ Some other → one.name ≢ other.name

pub entries_set : (entries : List (Option TableEntry)) (k : ℕ) (entry : Option TableEntry) → AreEntries entries → k < 32 → table.Fits entry → IsFresh entries k entry → AreEntries (slice_set entries k entry)
entries_set entries k entry are within fits fresh =
    let new : List (Option TableEntry) = slice_set entries k entry in
    let count = are.count in
    let here : slice_get new k ≡ Some entry = slice_get-set_same entries k entry (omega (arith, within, count)) in
    let is_here : (j : ℕ) (one : TableEntry) → j ≡ k → slice_get new j ≡ Some (Some one) → entry ≡ Some one = λ j one same is. same_Some entry (Some one) (sym here ∙ sym (ap (slice_get new) same) ∙ is) in
    let is_other : (j : ℕ) (one : TableEntry) → j ≢ k → slice_get new j ≡ Some (Some one) → slice_get entries j ≡ Some (Some one) = λ j one other is. sym (slice_get-set_other entries k j entry other) ∙ is in
    record {
      count = length-set entries k entry ∙ count;
      fit = all_set table.Fits entries k entry are.fit fits;
      apart = λ i j one other first second same. elim (cases_eq i k) [
        | inl left ↦ elim (cases_eq j k) [
          | inl right ↦ left ∙ sym right
          | inr right ↦ absurd (fresh j other one right (is_other j other right second) (is_here i one left first) (sym same))
        ]
        | inr left ↦ elim (cases_eq j k) [
          | inl right ↦ absurd (fresh i one other left (is_other i one left first) (is_here j other right second) same)
          | inr right ↦ are.apart i j one other (is_other i one left first) (is_other j other right second) same
        ]
      ];
    }

module _ (files : Layer) (count : length files.table ≡ 32) (entries : List (Option TableEntry)) (n : ℕ) (entry : Option TableEntry) (numbered : 1 ≤ n) (among : n ≤ 32)
    (is : entries ≡ slice_set files.table (n - 1) entry) where
  -- the files with the new table
  abbrev pub tabled : Layer
  tabled = record files { table = entries }

  pub item_here : slice_get entries (n - 1) ≡ Some entry
  item_here = ap (λ (es : List (Option TableEntry)). slice_get es (n - 1)) is ∙ slice_get-set_same files.table (n - 1) entry (omega (arith, count, numbered, among))

  pub item_other : (m : ℕ) → 1 ≤ m → m ≢ n → slice_get entries (m - 1) ≡ slice_get files.table (m - 1)
  item_other m some apart =
      let other : (m - 1) ≢ (n - 1) = λ same. apart (omega (arith, same, some, numbered)) in
      ap (λ (es : List (Option TableEntry)). slice_get es (m - 1)) is ∙ slice_get-set_other files.table (n - 1) (m - 1) entry other

  pub entry_here : (m : ℕ) → m ≡ n → entry_of tabled m ≡ entry
  entry_here m same = ap (entry_of tabled) same ∙ entry_at tabled n numbered ∙ ap (λ o. unwrap_or o None) item_here

  pub entry_other : (m : ℕ) → m ≢ n → entry_of tabled m ≡ entry_of files m
  entry_other zero apart = refl
  entry_other (suc m) apart =
      entry_at tabled (suc m) (omega arith) ∙ ap (λ o. unwrap_or o None) (item_other (suc m) (omega arith) apart) ∙ sym (entry_at files (suc m) (omega arith))

  pub entry_tabled : (m : ℕ) → entry_of tabled m ≡ (if m == n then entry else entry_of files m)
  entry_tabled m = elim (cases_eq m n) [
    | inl same ↦ entry_here m same ∙ sym (ap (λ b. if b then entry else entry_of files m) ((Decides-eqb m n).1 same))
    | inr apart ↦ let no : (m == n) ≡ false = grind arith in entry_other m apart ∙ sym (ap (λ b. if b then entry else entry_of files m) no)
  ]
