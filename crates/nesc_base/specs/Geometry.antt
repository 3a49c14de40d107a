-- How an image's blocks are divided. Each part stands behind the one before.
use Rattle.std.specs.Prelude.{◌≡◌, ℕ, ◌+◌, ◌-◌, ◌*◌, ◌/◌, ◌≤◌}
use Rattle.nesc_base.specs.Block.{block_size}
use Rattle.nesc_base.specs.declared.geometry.Geometry.{Geometry}

-- how few and how many data blocks there may be
abbrev pub least_blocks : ℕ
least_blocks = 16

abbrev pub most_blocks : ℕ
most_blocks = 65536

-- how few and how many data blocks may be changed between two commits
abbrev pub least_slack : ℕ
least_slack = 64

abbrev pub most_slack : ℕ
most_slack = 1024

-- the sizes that an image may have
pub record IsGeometry (geometry : Geometry) : Type 0 where
  pub version : geometry.version ≡ 1
  pub enough_blocks : least_blocks ≤ geometry.blocks
  pub few_blocks : geometry.blocks ≤ most_blocks
  pub enough_slack : least_slack ≤ geometry.slack
  pub little_slack : geometry.slack ≤ most_slack

-- how many wholes of this size hold so many
abbrev pub rounded_up : ℕ → ℕ → ℕ
rounded_up many size = (many + (size - 1)) / size

-- a table block has the entries of 32 files
abbrev pub table_blocks : Geometry → ℕ
table_blocks geometry = 1

-- how many data blocks a map block has the owners of
abbrev pub block_owners : ℕ
block_owners = 128

-- how many map blocks there are at most
abbrev pub most_map_blocks : ℕ
most_map_blocks = 512

abbrev pub map_blocks : Geometry → ℕ
map_blocks geometry = rounded_up geometry.blocks block_owners

-- a slot has room for the data blocks of the slack, for the whole map and for the whole table
abbrev pub slot_room : Geometry → ℕ
slot_room geometry = geometry.slack + map_blocks geometry + table_blocks geometry

-- its list is the number of its targets and the targets, each of four bytes
abbrev pub list_blocks : Geometry → ℕ
list_blocks geometry = rounded_up (4 + 4 * slot_room geometry) block_size

-- a slot is its gate, its list and its blocks
abbrev pub slot_blocks : Geometry → ℕ
slot_blocks geometry = 1 + list_blocks geometry + slot_room geometry

-- slots are numbered from 1, and the first stands behind the superblock
abbrev pub slot_at : Geometry → ℕ → ℕ
slot_at geometry k = 1 + (k - 1) * slot_blocks geometry

-- there are four slots
abbrev pub table_at : Geometry → ℕ
table_at geometry = 1 + 4 * slot_blocks geometry

abbrev pub map_at : Geometry → ℕ
map_at geometry = table_at geometry + table_blocks geometry

abbrev pub area_from : Geometry → ℕ
area_from geometry = map_at geometry + map_blocks geometry

abbrev pub total : Geometry → ℕ
total geometry = area_from geometry + geometry.blocks
