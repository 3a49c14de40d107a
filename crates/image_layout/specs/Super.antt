-- The superblock, block 0, which says how the image is divided.
use Rattle.std.specs.Prelude.{◌≡◌, ℕ, ◌++◌, codes}
use Rattle.nesc_base.specs.Block.{block_size}
use Rattle.nesc_base.specs.declared.block.Block.{Block}
use Rattle.nesc_base.specs.declared.geometry.Geometry.{Geometry}
use Rattle.nesc_base.specs.Geometry.{IsGeometry, total}
use Rattle.slot_layout.specs.Bytes.{block_of_bytes, four_bytes, padded}

-- at which bytes the version, the number of data blocks and the slack stand
abbrev pub version_at : ℕ
version_at = 8

abbrev pub blocks_at : ℕ
blocks_at = 12

abbrev pub slack_at : ℕ
slack_at = 16

unfoldable pub superblock : Geometry → Block
superblock geometry =
    block_of_bytes (padded block_size (codes "NESCHOST" ++ four_bytes geometry.version ++ four_bytes geometry.blocks
    ++ four_bytes geometry.slack ++ four_bytes (total geometry)))

-- the block is this spelling of sizes that there may be
pub record IsSuperblock (block : Block) (geometry : Geometry) : Type 0 where
  pub sizes : IsGeometry geometry
  pub spelling : block ≡ superblock geometry
