-- What is staged: a block for each of some places, and the blocks that there are with it.
use Rattle.std.specs.Prelude.{ℕ, ◌<◌, ◌≤◌, List}
use Rattle.std.specs.FinMap.{FinMap, keys, values}
use Rattle.std.specs.Ordering.{nat_cmp}
use Rattle.nesc_base.specs.declared.block.Block.{Block}
use Rattle.nesc_base.specs.declared.geometry.Geometry.{Geometry}
use Rattle.nesc_base.specs.Geometry.{table_at, total}
use Rattle.slot_layout.specs.Slots.{laid_over}

abbrev pub Staged : Type 0
Staged = FinMap nat_cmp Block

-- the places in rising order, and the block for each
abbrev pub targets_of : Staged → List ℕ
targets_of staged = keys staged

abbrev pub fresh_of : Staged → List Block
fresh_of staged = values staged

-- those that are kept, with what is staged laid over them
abbrev pub now_of : Staged → List Block → List Block
now_of staged kept = laid_over (targets_of staged) (fresh_of staged) kept

-- blocks are staged for the table, the map and the data blocks alone
abbrev pub MayStage : Geometry → ℕ → Type 0
MayStage geometry at = (table_at geometry ≤ at) × (at < total geometry)
