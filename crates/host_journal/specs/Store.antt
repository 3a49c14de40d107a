-- How what is staged stands in memory.
use Rattle.std.specs.Prelude.{◌≡◌, ℕ, ◌+◌, ◌-◌, ◌^◌, ◌<◌, ◌≤◌, List, length, Option, Some, slice_get, refl}
use Rattle.std.specs.Coded.{Coded, code_by, coded×, coded_ℕ}
use Rattle.std.specs.FinMap as finmap
use Rattle.std.specs.FinMap.{from_entries}
use Rattle.std.specs.List.{zip}
use Rattle.nesc_base.specs.declared.block.Block.{Block}
use Rattle.nesc_base.specs.declared.geometry.Geometry.{Geometry}
use Rattle.nesc_base.specs.Codes.{coded_block}
use Rattle.slot_layout.specs.Targets.{AreTargets}
use Rattle.host_journal.specs.Staged.{Staged, targets_of}

-- what is staged, for which places it can be, from the first on so many, and for how many blocks there is memory
pub record Store : Type 0 where
  pub staged : Staged
  pub from : ℕ
  pub places : ℕ
  pub room : ℕ

abbrev pub store_code : Coded Store
store_code =
    code_by (Staged × (ℕ × (ℕ × ℕ)))
    (coded× (finmap.code coded_ℕ coded_block) (coded× coded_ℕ (coded× coded_ℕ coded_ℕ)))
    (λ s. (s.staged, (s.from, (s.places, s.room))))
    (λ p. record { staged = p.0; from = p.1.0; places = p.1.1.0; room = p.1.1.1 })
    (λ _. refl)

-- a block can be staged for this place
abbrev pub IsPlaceOf : Store → ℕ → Type 0
IsPlaceOf store at = (store.from ≤ at) × (at < store.from + store.places)

-- The targets are those of all that is staged, in rising order: places that a slot of such an image may have blocks
-- for, each a place of the store.
pub record AreFor (geometry : Geometry) (store : Store) (targets : List ℕ) : Type 0 where
  pub all : targets ≡ targets_of store.staged
  pub good : AreTargets geometry targets
  pub places : (i at : ℕ) → slice_get targets i ≡ Some at → IsPlaceOf store at

-- each block for its target
abbrev pub staged_as : List ℕ → List Block → Staged
staged_as targets blocks = from_entries (zip targets blocks)

-- There is a block for each target, the index of each target's place says where the two stand, every other says that
-- there are none, and there is memory for as many as there is room for.
pub record AreStaged (from : ℕ) (index : List (Option ℕ)) (targets : List ℕ) (blocks : List Block)
    (room targets_capacity blocks_capacity : ℕ) : Type 0 where
  pub paired : length blocks ≡ length targets
  pub found : (i at : ℕ) → slice_get targets i ≡ Some at → (from ≤ at) × (slice_get index (at - from) ≡ Some (Some i))
  pub only : (place i : ℕ) → slice_get index place ≡ Some (Some i) → slice_get targets i ≡ Some (from + place)
  pub fits : from + length index < 2 ^ 32
  pub few : room < 2 ^ 16
  pub within : length targets ≤ room
  pub room_for_targets : room ≤ targets_capacity
  pub room_for_blocks : room ≤ blocks_capacity
