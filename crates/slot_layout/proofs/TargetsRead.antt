-- What is known of the list of a slot while it is read.
use Rattle.std.proofs.Common.{◌/◌, ◌≡◌, ℕ, ◌+◌, ◌*◌, ◌<◌, ◌≤◌, List, drop, slice_index}
use Rattle.byteorder.specs.Endian.{little_number}
use Rattle.nesc_base.specs.declared.block.Block.{Block}
use Rattle.nesc_base.specs.declared.geometry.Geometry.{Geometry}
use Rattle.nesc_base.specs.Geometry.{table_at, total}
use Rattle.slot_layout.specs.Bytes.{spelled}
use Rattle.slot_layout.specs.Whole.{AreWhole}

-- number k of the blocks, counted from 0
abbrev pub number : List Block → ℕ → ℕ
number blocks k = little_number 4 (drop (4 * k) (spelled (λ block. block.0) blocks))

-- i targets are read, and they may be targets; the next one is to be no less than `least`
pub record AreRead (geometry : Geometry) (blocks : List Block) (into : List ℕ) (i least : ℕ) : Type 0 where
  pub whole : AreWhole blocks (i / 256 + 1)
  pub filled : (k : ℕ) → k < i → slice_index into k ≡ number blocks (k + 1)
  pub rising : (j k : ℕ) → j < k → k < i → number blocks (j + 1) < number blocks (k + 1)
  pub from : (k : ℕ) → k < i → table_at geometry ≤ number blocks (k + 1)
  pub below : (k : ℕ) → k < i → number blocks (k + 1) < total geometry
  pub under : (k : ℕ) → k < i → number blocks (k + 1) < least
  pub least_from : table_at geometry ≤ least
  pub first : i ≡ 0 → least ≡ table_at geometry
  pub later : (k : ℕ) → i ≡ k + 1 → least ≡ number blocks (k + 1) + 1
