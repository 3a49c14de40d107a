-- What a new image is, and what it is to make one.
use Rattle.std.specs.Prelude.{◌≡◌, ◌⊎◌, ℕ, ◌-◌, ◌≤◌, List, [], ◌∷◌, ◌++◌, slice_set, true, Result, OnOk, IsErr}
use Rattle.std.specs.List.{range_with_len}
use Rattle.std.specs.FinMap.{empty}
use Rattle.nesc_base.specs.declared.block.Block.{Block}
use Rattle.nesc_base.specs.declared.disk.DiskFault.{DiskFault}
use Rattle.nesc_base.specs.declared.geometry.Geometry.{Geometry}
use Rattle.nesc_base.specs.Block.{zero_block}
use Rattle.nesc_base.specs.Disk.{Goes, IsSettled, Known, LeavesSince, WritesAt}
use Rattle.nesc_base.specs.Fault.{HasCause}
use Rattle.nesc_base.specs.Geometry.{map_at, map_blocks, slot_at, table_at, total}
use Rattle.image_layout.specs.Opens.{Opens}
use Rattle.slot_layout.specs.Slots.{block_at}
use Rattle.image_layout.specs.Super.{IsSuperblock, superblock}

-- the gates of the four slots
abbrev pub gates : Geometry → List ℕ
gates geometry = slot_at geometry 1 ∷ slot_at geometry 2 ∷ slot_at geometry 3 ∷ slot_at geometry 4 ∷ []

-- the blocks that have to be zeros: the four gates, the table, the map, and the last data block, so that the image is
-- as long as it says
abbrev pub cleared : Geometry → List ℕ
cleared geometry = gates geometry ++ table_at geometry ∷ range_with_len (map_at geometry) (map_blocks geometry)
    ++ (total geometry - 1) ∷ []

-- the image with zeros at these places
abbrev pub cleared_at : List ℕ → List Block → List Block
cleared_at [] image = image
cleared_at (at ∷ places) image = cleared_at places (slice_set image at zero_block)

-- the image that is made of this one: every other block stays
abbrev pub made : Geometry → List Block → List Block
made geometry image = slice_set (cleared_at (cleared geometry) image) 0 (superblock geometry)

-- a new image has no files
abbrev pub OpensAsNew : Geometry → List Block → Type 0
OpensAsNew geometry image = Opens image geometry empty empty

-- block 0 is as the disk read there before, unless it was unsynced then and may be anything
abbrev pub StartsAs : Known → List Block → Type 0
StartsAs old image = ¬ old.unsynced 0 → block_at image 0 ≡ block_at old.contents 0

-- while an image is made, a stop leaves one that starts as before, or that opens if it has the new superblock
abbrev pub OpensWhereMade : Geometry → Known → List Block → Type 0
OpensWhereMade geometry old image =
    StartsAs old image ⊎ (IsSuperblock (block_at image 0) geometry → OpensAsNew geometry image)

-- a block behind block 0
abbrev pub IsBehind : ℕ → Type 0
IsBehind at = 1 ≤ at

-- from old to new zeros were written at these places, all of them behind block 0, up to the first that failed
pub record Clears (places : List ℕ) (old new : Known) (result : Result (Unit {0}) DiskFault) : Type 0 where
  pub goes : Goes old new
  pub zeros : old.tells ≡ true → OnOk result (new.contents ≡ cleared_at places old.contents)
  pub writes : WritesAt IsBehind old new
  pub cause : HasCause old.faults new.faults (IsErr result)

-- from old to new an image was made, up to the first call that failed
pub record Makes (geometry : Geometry) (old new : Known) (result : Result (Unit {0}) DiskFault) : Type 0 where
  pub goes : Goes old new
  pub made : old.tells ≡ true → OnOk result (new.contents ≡ made geometry old.contents)
  pub settled : old.tells ≡ true → OnOk result (IsSettled new)
  pub opens : old.tells ≡ true → OnOk result (OpensAsNew geometry new.contents)
  pub any_moment : LeavesSince (λ _. OpensWhereMade geometry old) old new
  pub cause : HasCause old.faults new.faults (IsErr result)
