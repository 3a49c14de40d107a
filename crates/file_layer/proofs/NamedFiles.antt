-- Which entry is that of which file.
use Rattle.std.proofs.Common.{◌≡◌, ◌≢◌, ℕ, ◌+◌, ◌-◌, ◌<◌, false, ◌==◌, List, length, Option, Some, None, inl, inr, option_map, slice_get, refl, sym, ap, ◌∙◌, arith}
use Rattle.std.specs.Prelude.{if◌then◌else◌, is_some, unwrap_or}
use Rattle.std.specs.FinMap.{get}
use Rattle.std.proofs.lemmas.Bool.{cases_eq}
use Rattle.std.proofs.lemmas.Option.{none-some, same_Some, slice_get_within}
use Rattle.nesc_base.specs.Files.{File, most_files}
use Rattle.nesc_base.specs.Places.{Places}
use Rattle.file_model.specs.Files.{HasName, IsUnnamed}
use Rattle.image_layout.specs.declared.table.TableEntry.{TableEntry}
use Rattle.file_layer.specs.Knowing.{FileSet, Knows, entry_for}
use Rattle.file_layer.specs.Layer.{IsUsed, Layer, entry_of}

-- what is made of a value is of that value
pub mapped : {X Y : Type 0} (f : X → Y) (o : Option X) (y : Y) → option_map f o ≡ Some y → (x : X) × (o ≡ Some x) × (f x ≡ y)
mapped f None y is = absurd (none-some y is)
mapped f (Some x) y is = (x, refl, same_Some (f x) y is)

-- an item that is not nothing stands there
unwrapped : {X : Type 0} (o : Option (Option X)) (x : X) → unwrap_or o None ≡ Some x → o ≡ Some (Some x)
unwrapped None x is = absurd (none-some x is)
unwrapped (Some y) x is = ap (λ z. Some z) is

-- Entries

-- an entry is that of its number
pub entry_got : (files : Layer) (n : ℕ) (o : Option TableEntry) → ¬ (n ≡ 0) → slice_get files.table (n - 1) ≡ Some o → entry_of files n ≡ o
entry_got files n o some at =
    let no : (n == 0) ≡ false = grind arith in
    ap (λ b. if b then None else unwrap_or (slice_get files.table (n - 1)) None) no ∙ ap (λ p. unwrap_or p None) at

pub entry_at_number : (files : Layer) (n : ℕ) (entry : TableEntry) → ¬ (n ≡ 0) → slice_get files.table (n - 1) ≡ Some (Some entry) → entry_of files n ≡ Some entry
entry_at_number files n entry some at = entry_got files n (Some entry) some at

-- and is the one before its number
pub number_of_entry : (files : Layer) (n : ℕ) (entry : TableEntry) → entry_of files n ≡ Some entry → (e : ℕ) × (n ≡ e + 1) × (slice_get files.table e ≡ Some (Some entry))
number_of_entry files n entry is = elim (cases_eq n 0) [
  | inl zero_number ↦ absurd (none-some entry (sym (ap (entry_of files) zero_number) ∙ is))
  | inr apart ↦
      let no : (n == 0) ≡ false = grind arith in
      let next : n ≡ n - 1 + 1 = omega (arith, apart) in
      let used : unwrap_or (slice_get files.table (n - 1)) None ≡ Some entry = sym (ap (λ b. if b then None else unwrap_or (slice_get files.table (n - 1)) None) no) ∙ is in
      (n - 1, next, unwrapped (slice_get files.table (n - 1)) entry used)
]

module _ (files : Layer) (set : FileSet) (places : Places) (knows : Knows files set places) where
  -- Files

  -- a file of an entry is there
  pub file_of_entry : (n : ℕ) (entry : TableEntry) → entry_of files n ≡ Some entry → (file : File) × (get set n ≡ Some file) × (entry_for file ≡ entry)
  file_of_entry n entry used = mapped entry_for (get set n) entry (knows.named n ∙ used)

  -- and one that is there has an entry
  pub entry_of_file : (n : ℕ) (file : File) → get set n ≡ Some file → entry_of files n ≡ Some (entry_for file)
  entry_of_file n file there = sym (knows.named n) ∙ ap (option_map entry_for) there

  -- Names

  pub found_by_name : (e : ℕ) (entry : TableEntry) (name : List ℕ) → slice_get files.table e ≡ Some (Some entry) → entry.name ≡ name → (file : File) × HasName set name (e + 1) file
  found_by_name e entry name at named =
      let before : e ≡ e + 1 - 1 = omega arith in
      let some : e + 1 ≢ 0 = λ none. omega (arith, none) in
      let file = file_of_entry (e + 1) entry (entry_at_number files (e + 1) entry some (ap (slice_get files.table) (sym before) ∙ at)) in
      (file.0, record { stands = file.1; named = ap (λ (x : TableEntry). x.name) file.2 ∙ named })

  pub none_of_name : (name : List ℕ) → length files.table ≡ most_files → ((e : ℕ) (entry : TableEntry) → e < most_files → slice_get files.table e ≡ Some (Some entry) → entry.name ≢ name) → IsUnnamed set name
  none_of_name name all none n file there =
      let entry = number_of_entry files n (entry_for file) (entry_of_file n file there) in
      none entry.0 (entry_for file) (omega (arith, all, slice_get_within files.table entry.0 (Some (entry_for file)) entry.2)) entry.2

-- an entry that is there is used
pub used_by_entry : (files : Layer) (e : ℕ) (entry : TableEntry) → slice_get files.table e ≡ Some (Some entry) → IsUsed files (e + 1)
used_by_entry files e entry at =
    let before : e ≡ e + 1 - 1 = omega arith in
    let some : e + 1 ≢ 0 = λ none. omega (arith, none) in
    ap is_some (entry_at_number files (e + 1) entry some (ap (slice_get files.table) (sym before) ∙ at))
