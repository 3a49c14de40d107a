-- What a disk has kept for a journal, and when the two belong together.
use Rattle.std.specs.Prelude.{◌≡◌, ◌⊎◌, ◌≤◌, true, List}
use Rattle.nesc_base.specs.declared.block.Block.{Block}
use Rattle.nesc_base.specs.declared.geometry.Geometry.{Geometry}
use Rattle.nesc_base.specs.Disk.{CouldLeave, IsSettled, Known, LeavesSince}
use Rattle.nesc_base.specs.Geometry.{total}
use Rattle.slot_layout.specs.Slots.{AreClosed, StandsFor}
use Rattle.host_journal.specs.Journal.{IsJournal, Journal}

-- The disk has kept these blocks, in which every gate is closed: what it reads as stands for them, and nothing on it is
-- unsynced, so that a stop now leaves just that.
pub record IsKept (geometry : Geometry) (disk : Known) (kept : List Block) : Type 0 where
  pub gates : AreClosed geometry kept
  pub stands : StandsFor geometry disk.contents kept
  pub settled : IsSettled disk

-- A started journal and a disk belong together: the disk has all blocks of the journal's image, and where it tells, it
-- has kept some, with every gate closed on the disk too.
pub record Rests (journal : Journal) (disk : Known) : Type 0 where
  pub started : journal.started ≡ true
  pub sound : IsJournal journal
  pub enough : total journal.geometry ≤ disk.size
  pub kept : disk.tells ≡ true → (kept : List Block) × IsKept journal.geometry disk kept
  pub closed : disk.tells ≡ true → AreClosed journal.geometry disk.contents

-- Each image that a stop has left since then, and each that it could leave now, has P.
pub record Leaves (P : List Block → Type 0) (old new : Known) : Type 0 where
  pub since : LeavesSince (λ _. P) old new
  pub now : old.tells ≡ true → (image : List Block) → CouldLeave new image → P image

-- the image stands for the one or for the other
abbrev pub StandsForEither : Geometry → List Block → List Block → List Block → Type 0
StandsForEither geometry one other image = StandsFor geometry image one ⊎ StandsFor geometry image other
