-- What is read of files over a disk that stays as it is.
use Rattle.std.proofs.Common.{◌≡◌, ℕ, ◌+◌, ◌<◌, ◌≤◌, zero, suc, true, inl, inr, List, length, Option, Some, None, slice_get, refl, sym, ap, ◌∙◌, subst, arith}
use Rattle.std.specs.Prelude.{option_map, slice_set, unwrap_or}
use Rattle.std.specs.FinMap.{get}
use Rattle.std.specs.List.{range_with_len}
use Rattle.std.proofs.lemmas.Bool.{cases_eq}
use Rattle.std.proofs.lemmas.Option.{slice_get-map}
use Rattle.nesc_base.specs.declared.block.Block.{Block}
use Rattle.nesc_base.specs.declared.geometry.Geometry.{Geometry}
use Rattle.nesc_base.specs.Block.{zero_block}
use Rattle.nesc_base.specs.Disk.{Goes, Known, Unchanged}
use Rattle.nesc_base.specs.Files.{File, file_at}
use Rattle.nesc_base.specs.Places.{Places}
use Rattle.nesc_base.proofs.Differing.{slice_get-set_other, slice_get-set_same}
use Rattle.slot_layout.specs.Slots.{AreClosed, StandsFor}
use Rattle.image_layout.proofs.OneReading.{same_items}
use Rattle.image_layout.proofs.OpenedFiles.{some_there}
use Rattle.block_map.specs.Map.{IsUnheld, StandsAt}
use Rattle.file_model.specs.Files.{read, read_from}
use Rattle.host_journal.specs.Journal.{Journal}
use Rattle.host_journal.specs.Kept.{IsKept, Rests}
use Rattle.host_journal.specs.Staged.{Staged, now_of}
use Rattle.file_layer.specs.Knowing.{FileSet}
use Rattle.file_layer.specs.Layer.{IsLayer, Layer}
use Rattle.file_layer.specs.Showing.{RestsOn, Shows}
use Rattle.file_layer.proofs.Known.{file_stands, held_alike, held_by_place, no_file, owns_where_stands}
use Rattle.file_layer.proofs.OwnedBlocks.{nothing}

-- A disk that stays as it is

-- has kept what it had
pub kept_before : (geometry : Geometry) (old new : Known) (kept : List Block) → old.tells ≡ true → Unchanged old new → IsKept geometry new kept → IsKept geometry old kept
kept_before geometry old new kept tells unchanged is = record {
  gates = is.gates;
  stands = subst (λ (blocks : List Block). StandsFor geometry blocks kept) (unchanged.contents tells) is.stands;
  settled = λ at unsynced. is.settled at ((unchanged.unsynced tells at).1 unsynced);
}

pub kept_on : (geometry : Geometry) (old new : Known) (kept : List Block) → old.tells ≡ true → Unchanged old new → IsKept geometry old kept → IsKept geometry new kept
kept_on geometry old new kept tells unchanged is = record {
  gates = is.gates;
  stands = subst (λ (blocks : List Block). StandsFor geometry blocks kept) (sym (unchanged.contents tells)) is.stands;
  settled = λ at unsynced. is.settled at ((unchanged.unsynced tells at).0 unsynced);
}

-- and belongs to its journal still
pub journal_rests_on : (journal : Journal) (old new : Known) → Goes old new → Unchanged old new → Rests journal old → Rests journal new
journal_rests_on journal old new goes unchanged rests = record {
  started = rests.started;
  sound = rests.sound;
  enough = omega (arith, rests.enough, goes.same_size);
  kept = λ tells.
      let told : old.tells ≡ true = sym goes.still_tells ∙ tells in
      let some = rests.kept told in
      (some.0, kept_on journal.geometry old new some.0 told unchanged some.1);
  closed = λ tells.
      let told : old.tells ≡ true = sym goes.still_tells ∙ tells in
      subst (λ (blocks : List Block). AreClosed journal.geometry blocks) (sym (unchanged.contents told)) (rests.closed told);
}

-- and to the files
pub files_rest_on : (files : Layer) (journal : Journal) (old new : Known) → Goes old new → Unchanged old new → RestsOn files journal old → RestsOn files journal new
files_rest_on files journal old new goes unchanged rests = record {
  fits = rests.fits;
  rests = journal_rests_on journal old new goes unchanged rests.rests;
  parts = λ tells kept is.
      let told : old.tells ≡ true = sym goes.still_tells ∙ tells in
      rests.parts told kept (kept_before journal.geometry old new kept told unchanged is);
}

-- One block

module _ (files : Layer) (staged : Staged) (kept : List Block) (set : FileSet) (places : Places) (layer : IsLayer files) (shows : Shows files staged kept set places) where
  -- what stands at the place of a block is read there
  pub reads_held : (n v at : ℕ) (block : Block) → StandsAt files.map n v at → slice_get (now_of staged kept) at ≡ Some block → block ≡ read (file_at set n) v
  reads_held n v at block stands is =
      let file = some_there (get set n) (file_stands files set places layer shows.knows n v at stands) in
      let owns = (owns_where_stands files set places layer shows.knows n v at).1 stands in
      let held : get file.0.body v ≡ Some block = shows.stands n v at file.0 file.1 owns ∙ is in
      sym (ap (λ o. read (unwrap_or o no_file) v) file.1 ∙ ap (λ o. unwrap_or o zero_block) held)

  -- and zeros where none stands
  pub reads_zeros : (n v : ℕ) → IsUnheld files.map n v → zero_block ≡ read (file_at set n) v
  reads_zeros n v unheld =
      let no_block = held_alike files set places layer shows.knows n v ∙ held_by_place files n v None unheld in
      sym (ap (λ o. unwrap_or o zero_block) (nothing (get (file_at set n).body v) no_block))

-- Many

-- one more is read
pub read_more : (file : File) (v k : ℕ) (blocks : List Block) (block : Block) → k < length blocks → ((j : ℕ) → j < k → slice_get blocks j ≡ Some (read file (v + j))) → block ≡ read file (v + k)
    → (j : ℕ) → j < k + 1 → slice_get (slice_set blocks k block) j ≡ Some (read file (v + j))
read_more file v k blocks block within before here j below = elim (cases_eq j k) [
  | inl same ↦
      ap (slice_get (slice_set blocks k block)) same ∙ slice_get-set_same blocks k block within ∙ ap Some here
      ∙ ap (λ i. Some (read file (v + i))) (sym same)
  | inr apart ↦ slice_get-set_other blocks k j block apart ∙ before j (omega (arith, below, apart))
]

slice_get-range : (a n k : ℕ) → k < n → slice_get (range_with_len a n) k ≡ Some (a + k)
slice_get-range a zero k below = absurd (omega arith)
slice_get-range a (suc n) zero below = let same : a ≡ a + 0 = omega arith in ap Some same
slice_get-range a (suc n) (suc k) below = let same : a + 1 + k ≡ a + suc k = omega arith in slice_get-range (a + 1) n k (omega arith) ∙ ap Some same

length-read_from : (file : File) (v n : ℕ) → length (read_from file v n) ≡ n
length-read_from file v zero = refl
length-read_from file v (suc n) = ap suc (length-read_from file (v + 1) n)

-- and then all are
pub read_all : (file : File) (v k : ℕ) (blocks : List Block) → length blocks ≤ k → ((j : ℕ) → j < k → slice_get blocks j ≡ Some (read file (v + j))) → blocks ≡ read_from file v (length blocks)
read_all file v k blocks all each = same_items blocks (read_from file v (length blocks)) (sym (length-read_from file v (length blocks))) (λ j below.
    each j (omega (arith, all, below)) ∙ sym (slice_get-map (read file) (range_with_len v (length blocks)) j ∙ ap (λ (o : Option ℕ). option_map (read file) o) (slice_get-range v (length blocks) j below)))
