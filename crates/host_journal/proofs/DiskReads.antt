-- What is read of a disk, block by block.
use Rattle.std.proofs.Common.{◌≡◌, ℕ, ◌+◌, ◌-◌, ◌<◌, ◌≤◌, true, inl, inr, Bool, List, Some, length, slice_get, sym, ap, ◌∙◌, arith}
use Rattle.std.specs.Prelude.{slice_set, unwrap_or}
use Rattle.std.proofs.lemmas.Bool.{cases_eq, cases_lt}
use Rattle.std.proofs.lemmas.Option.{slice_get_past}
use Rattle.nesc_base.specs.declared.block.Block.{Block}
use Rattle.nesc_base.specs.declared.geometry.Geometry.{Geometry}
use Rattle.nesc_base.specs.Block.{zero_block}
use Rattle.nesc_base.specs.Disk.{Known}
use Rattle.nesc_base.specs.Geometry.{slot_at}
use Rattle.nesc_base.proofs.Causes.{cause_on}
use Rattle.nesc_base.proofs.Differing.{same_by_places, slice_get-set_other, slice_get-set_same}
use Rattle.nesc_base.proofs.DiskCalls.{goes_itself, goes_on, unchanged_itself, unchanged_on}
use Rattle.slot_layout.specs.Gate.{is_open}
use Rattle.slot_layout.specs.Slots.{blocks_from, gate}
use Rattle.slot_layout.proofs.Alike.{slice_get-blocks_from, slice_get-blocks_from_past}
use Rattle.host_journal.specs.Replaying.{Reads}

-- reads that went well
abbrev pub HasRead : Known → Known → Type 0
HasRead old new = Reads old new ⊥

pub read_nothing : (disk : Known) → HasRead disk disk
read_nothing disk = record {
  goes = goes_itself disk;
  unchanged = unchanged_itself disk;
  cause = record { never_falls = omega arith; rose = λ none. absurd none };
}

pub read_well : (a b : Known) (failed : Type 0) → Reads a b failed → HasRead a b
read_well a b failed reads = record {
  goes = reads.goes;
  unchanged = reads.unchanged;
  cause = record { never_falls = reads.cause.never_falls; rose = λ none. absurd none };
}

-- one behind the other, of which the last may fail
pub reads_on : (a b c : Known) (early failed : Type 0) → Reads a b early → Reads b c failed → Reads a c failed
reads_on a b c early failed first second = record {
  goes = goes_on a b c first.goes second.goes;
  unchanged = unchanged_on a b c first.goes first.unchanged second.unchanged;
  cause = cause_on a.faults b.faults c.faults failed first.cause.never_falls second.cause;
}

-- the same reads, told in other words
pub reads_as : (a b : Known) (failed told : Type 0) → (told → failed) → Reads a b failed → Reads a b told
reads_as a b failed told means reads = record {
  goes = reads.goes;
  unchanged = reads.unchanged;
  cause = record { never_falls = reads.cause.never_falls; rose = λ is. reads.cause.rose (means is) };
}

-- a block that is read later was there at first
pub read_here : (old now : Known) (at : ℕ) (block : Block) → HasRead old now → old.tells ≡ true → (now.tells ≡ true → slice_get now.contents at ≡ Some block) → slice_get old.contents at ≡ Some block
read_here old now at block reads tells read =
    ap (λ (blocks : List Block). slice_get blocks at) (sym (reads.unchanged.contents tells)) ∙ read (reads.goes.still_tells ∙ tells)

-- one more block of a list is read
pub list_more : (list image : List Block) (at b : ℕ) (block : Block) → b < length list → ((i : ℕ) → i < b → slice_get list i ≡ slice_get image (at + i))
    → slice_get image (at + b) ≡ Some block → (i : ℕ) → i < b + 1 → slice_get (slice_set list b block) i ≡ slice_get image (at + i)
list_more list image at b block within before here i below = elim (cases_eq i b) [
  | inl same ↦ ap (slice_get (slice_set list b block)) same ∙ slice_get-set_same list b block within ∙ sym (ap (λ j. slice_get image (at + j)) same ∙ here)
  | inr apart ↦ slice_get-set_other list b i block apart ∙ before i (omega (arith, apart))
]

-- all of them are
pub list_all : (list image : List Block) (at n : ℕ) → length list ≡ n → ((i : ℕ) → i < n → slice_get list i ≡ slice_get image (at + i)) → list ≡ blocks_from image at n
list_all list image at n long read = same_by_places list (blocks_from image at n) (λ i. elim (cases_lt i n) [
  | inl below ↦ read i below ∙ sym (slice_get-blocks_from image at n i below)
  | inr past ↦ slice_get_past list i (omega arith) ∙ sym (slice_get-blocks_from_past image at n i past)
])

-- it is known of one more gate whether it is open
pub gates_more : (geometry : Geometry) (image : List Block) (gates : List Bool) (k place at : ℕ) (block : Block) (is : Bool) → length gates ≡ 4 → 1 ≤ k → k ≤ 4 → place + 1 ≡ k → at ≡ slot_at geometry k
    → is ≡ is_open block → ((i : ℕ) → 1 ≤ i → i < k → slice_get gates (i - 1) ≡ Some (is_open (gate geometry image i))) → slice_get image at ≡ Some block
    → (i : ℕ) → 1 ≤ i → i < k + 1 → slice_get (slice_set gates place is) (i - 1) ≡ Some (is_open (gate geometry image i))
gates_more geometry image gates k place at block is long some most this there told before here i from below = elim (cases_eq i k) [
  | inl same ↦
      let index : i - 1 ≡ place = omega arith in
      let read : gate geometry image k ≡ block = ap (λ o. unwrap_or o zero_block) (ap (slice_get image) (sym there) ∙ here) in
      ap (slice_get (slice_set gates place is)) index ∙ slice_get-set_same gates place is (omega arith)
      ∙ ap Some (told ∙ ap is_open (sym read) ∙ sym (ap (λ j. is_open (gate geometry image j)) same))
  | inr apart ↦ slice_get-set_other gates place (i - 1) is (λ equal. apart (omega (arith, equal))) ∙ before i from (omega (arith, apart))
]
