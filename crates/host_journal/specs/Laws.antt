-- What staging and forgetting make of the blocks that there are, and what keeps a journal and its disk together.
use Rattle.std.specs.Prelude.{◌≡◌, ◌≢◌, ℕ, ◌<◌, ◌≤◌, true, List, slice_get, slice_set}
use Rattle.std.specs.FinMap.{insert, remove}
use Rattle.nesc_base.specs.declared.block.Block.{Block}
use Rattle.nesc_base.specs.declared.geometry.Geometry.{Geometry}
use Rattle.nesc_base.specs.Disk.{Known}
use Rattle.nesc_base.specs.Geometry.{area_from}
use Rattle.slot_layout.specs.Slots.{AreClosed, Lays, StandsFor}
use Rattle.host_journal.specs.Journal.{IsJournal, Journal, forgetting, staging}
use Rattle.host_journal.specs.Kept.{IsKept, Rests}
use Rattle.host_journal.specs.Staged.{MayStage, Staged, now_of}

-- a block that is staged stands at its place, and every other where it stood
abbrev pub StagesOne : Staged → Type 0
StagesOne staged = (kept : List Block) (at : ℕ) (block : Block) →
    now_of (insert staged at block) kept ≡ slice_set (now_of staged kept) at block

-- where nothing is staged any more stands what is kept, and every other block where it stood
pub record ForgetsOne (staged : Staged) (kept : List Block) (at : ℕ) : Type 0 where
  pub here : slice_get (now_of (remove staged at) kept) at ≡ slice_get kept at
  pub others : (other : ℕ) → other ≢ at
      → slice_get (now_of (remove staged at) kept) other ≡ slice_get (now_of staged kept) other

-- no gate opens by what is staged
abbrev pub KeepsGates : Journal → Type 0
KeepsGates journal = IsJournal journal → (kept : List Block) → AreClosed journal.geometry kept
    → AreClosed journal.geometry (now_of journal.staged kept)

-- the change leaves a journal, which belongs to its disk as before
pub record StaysSound {D : Type 0} (known : D → Known) (old new : Journal) : Type 0 where
  pub sound : IsJournal old → IsJournal new
  pub rests : (disk : D) → Rests old (known disk) → Rests new (known disk)

-- so it is of a block that may be staged and has room, and of one that is forgotten
pub record ChangesStaySound {D : Type 0} (known : D → Known) (journal : Journal) (at : ℕ) : Type 0 where
  pub stage : (block : Block) → MayStage journal.geometry at
      → (area_from journal.geometry ≤ at → journal.count < journal.geometry.slack)
      → StaysSound known journal (staging journal at block)
  pub forget : StaysSound known journal (forgetting journal at)

-- what has been kept is so still, and what belonged together does
pub record KeepsAll (journal : Journal) (old new : Known) : Type 0 where
  pub kept : old.tells ≡ true → (kept : List Block) → IsKept journal.geometry old kept
      → IsKept journal.geometry new kept
  pub rests : Rests journal old → Rests journal new

-- an image that is laid stands for blocks in which every gate is closed
abbrev pub StandsForSome : Geometry → List Block → Type 0
StandsForSome geometry image = (laid : List Block) → Lays geometry image laid
    → (kept : List Block) × AreClosed geometry kept × StandsFor geometry image kept
