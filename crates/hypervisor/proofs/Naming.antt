-- A name is that of one file.
use Rattle.std.proofs.Common.{◌≡◌, ℕ, List, Option, Some, None, MatchOption, sym, ap, ◌∙◌, arith}
use Rattle.std.specs.FinMap.{get}
use Rattle.std.proofs.lemmas.Option.{MatchOption-at_none, MatchOption-at_some, same_Some}
use Rattle.nesc_base.specs.declared.numbers.FileNo.{FileNo}
use Rattle.nesc_base.specs.Files.{File}
use Rattle.nesc_base.specs.Places.{Places}
use Rattle.file_model.specs.Files.{HasName, IsUnnamed}
use Rattle.image_layout.specs.declared.table.TableEntry.{TableEntry}
use Rattle.file_layer.specs.Knowing.{FileSet, Knows, OfFiles}
use Rattle.file_layer.specs.Layer.{IsLayer, Layer}
use Rattle.file_layer.proofs.NamedFiles.{entry_of_file, file_of_entry, number_of_entry}
use Rattle.file_layer.proofs.SomeFiles.{some_known}
use Rattle.hypervisor.specs.Needing.{IsEntered}

-- two entries of one name are one
pub entries_apart : (files : Layer) (name : List ℕ) (m n : ℕ) → IsLayer files → IsEntered files name m → IsEntered files name n → m ≡ n
entries_apart files name m n layer first second =
    let one = number_of_entry files m first.0 first.1 in
    let other = number_of_entry files n second.0 second.1 in
    let same : one.0 ≡ other.0 = layer.entries.apart one.0 other.0 first.0 second.0 one.2 other.2 (first.2 ∙ sym second.2) in
    omega (arith, same, one.1, other.1)

module _ (files : Layer) (set : FileSet) (places : Places) (knows : Knows files set places) (name : List ℕ) where
  -- a file has the name of its entry
  pub named_entered : (n : ℕ) (file : File) → HasName set name n file → IsEntered files name n
  named_entered n file has = (record { name = file.name; length = file.length }, entry_of_file files set places knows n file has.stands, has.named)

  pub entered_named : (n : ℕ) → IsEntered files name n → (file : File) × HasName set name n file
  entered_named n entered =
      let file = file_of_entry files set places knows n entered.0 entered.1 in
      (file.0, record { stands = file.1; named = ap (λ (entry : TableEntry). entry.name) file.2 ∙ entered.2 })

  -- so two files of one name are one
  pub names_apart : (m n : ℕ) (one other : File) → IsLayer files → HasName set name m one → HasName set name n other → m ≡ n
  names_apart m n one other layer first second = entries_apart files name m n layer (named_entered m one first) (named_entered n other second)

  pub one_named : (m n : ℕ) (one other : File) → IsLayer files → HasName set name m one → HasName set name n other → one ≡ other
  one_named m n one other layer first second = same_Some one other (sym first.stands ∙ ap (get set) (names_apart m n one other layer first second) ∙ second.stands)

-- What is found by a name

-- the file that has the name, or that none has it
abbrev pub Finds : List ℕ → Option FileNo → FileSet → Places → Type 0
Finds name found set places = MatchOption found (IsUnnamed set name) (λ n. (file : File) × HasName set name n.0 file)

module _ (files : Layer) (name : List ℕ) (found : Option FileNo) (finds : OfFiles files (Finds name found)) where
  pub named_found : (n : FileNo) → found ≡ Some n → OfFiles files (λ set _. (file : File) × HasName set name n.0 file)
  named_found n is set places knows = MatchOption-at_some (IsUnnamed set name) (λ (k : FileNo). (file : File) × HasName set name k.0 file) n is (finds set places knows)

  pub unnamed_found : found ≡ None → OfFiles files (λ set _. IsUnnamed set name)
  unnamed_found none set places knows = MatchOption-at_none (IsUnnamed set name) (λ (k : FileNo). (file : File) × HasName set name k.0 file) none (finds set places knows)

  pub found_entered : IsLayer files → (n : FileNo) → found ≡ Some n → IsEntered files name n.0
  found_entered layer n is =
      let known = some_known files layer in
      let file = named_found n is known.0 known.1 known.2 in
      named_entered files known.0 known.1 known.2 name n.0 file.0 file.1

  pub none_entered : IsLayer files → found ≡ None → (k : ℕ) → ¬ IsEntered files name k
  none_entered layer none k entered =
      let known = some_known files layer in
      let file = entered_named files known.0 known.1 known.2 name k entered in
      unnamed_found none known.0 known.1 known.2 k file.0 file.1.stands file.1.named
