-- What is known of a disk, what its calls do to that, and which images a stop leaves.
use Rattle.std.specs.Prelude.{◌≡◌, ◌⊎◌, ◌↔◌, ℕ, ◌<◌, ◌≤◌, Bool, true, List, length, slice_get}
use Rattle.nesc_base.specs.declared.block.Block.{Block}
use Rattle.nesc_base.specs.Count.{count_end}

-- What is known of a disk. Where it does not tell what it holds, nothing is said of contents, left and unsynced.
pub record Known : Type 1 where
  pub size : ℕ  -- how many blocks it has
  pub tells : Bool  -- whether it tells what it holds and what a stop leaves
  pub contents : List Block  -- what it reads as
  pub clock : ℕ  -- rises as a write begins and as a sync ends
  pub left : ℕ → List Block → Type 0  -- a stop while the clock stood at this value could leave this image
  pub unsynced : ℕ → Type 0  -- this place was written since the last sync that succeeded
  pub faults : ℕ  -- how often it has failed

-- nothing is unsynced, so that a stop now leaves what the disk reads as, and nothing else
abbrev pub IsSettled : Known → Type 0
IsSettled disk = (at : ℕ) → ¬ disk.unsynced at

-- Blocks

-- as many blocks, which differ at these places alone
pub record DiffersAt (places : ℕ → Type 0) (one other : List Block) : Type 0 where
  pub whole : length other ≡ length one
  pub others : (at : ℕ) → ¬ places at → slice_get other at ≡ slice_get one at

-- what a stop could leave from now on, as long as nothing is written
abbrev pub CouldLeave : Known → List Block → Type 0
CouldLeave disk image = DiffersAt disk.unsynced disk.contents image

-- Calls, one or many

-- From old to new the disk was changed by its calls alone: what a stop could leave at a clock value that is over
-- stays what it was. At a clock value at which the clock stands still nothing is ever over.
pub record Goes (old new : Known) : Type 0 where
  pub same_size : new.size ≡ old.size
  pub still_tells : new.tells ≡ old.tells
  pub later : old.clock ≤ new.clock
  pub over : old.tells ≡ true → (k : ℕ) (image : List Block) → k ≤ old.clock → k < count_end
      → new.left k image ↔ old.left k image

-- nothing that is told has changed
pub record Unchanged (old new : Known) : Type 0 where
  pub clock : new.clock ≡ old.clock
  pub contents : old.tells ≡ true → new.contents ≡ old.contents
  pub left : old.tells ≡ true → (k : ℕ) (image : List Block) → new.left k image ↔ old.left k image
  pub unsynced : old.tells ≡ true → (at : ℕ) → new.unsynced at ↔ old.unsynced at

-- one of these places, or one that was unsynced
abbrev pub OrUnsynced : (ℕ → Type 0) → Known → ℕ → Type 0
OrUnsynced places disk at = places at ⊎ disk.unsynced at

-- From old to new blocks were written at no other places than these. What a stop leaves past the clock before differs
-- from what the disk read as before only there and where it was unsynced.
pub record WritesAt (places : ℕ → Type 0) (old new : Known) : Type 0 where
  pub contents : old.tells ≡ true → DiffersAt places old.contents new.contents
  pub unsynced : old.tells ≡ true → (at : ℕ) → new.unsynced at → OrUnsynced places old at
  pub left : old.tells ≡ true → (k : ℕ) (image : List Block) → old.clock < k → k < count_end → new.left k image
      → DiffersAt (OrUnsynced places old) old.contents image

-- this place alone, and none
abbrev pub here : ℕ → ℕ → Type 0
here at other = other ≡ at

abbrev pub nowhere : ℕ → Type 0
nowhere at = ⊥

-- every image that a stop has left since, the moment of the beginning included, has P, where the disk tells
abbrev pub LeavesSince : (ℕ → List Block → Type 0) → Known → Known → Type 0
LeavesSince P old new = old.tells ≡ true → (k : ℕ) (image : List Block) → old.clock ≤ k → k < count_end
    → new.left k image → P k image
