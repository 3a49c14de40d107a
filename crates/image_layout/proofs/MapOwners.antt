-- The owners of a whole map.
use Rattle.std.proofs.Common.{◌≡◌, ℕ, ◌/◌, ◌%◌, ◌<◌, List, Option, Some, length, slice_get, ◌∙◌, arith}
use Rattle.std.proofs.lemmas.Option.{slice_get_within}
use Rattle.nesc_base.specs.declared.block.Block.{Block}
use Rattle.nesc_base.specs.declared.geometry.Geometry.{Geometry}
use Rattle.nesc_base.specs.Places.{Owner}
use Rattle.image_layout.specs.declared.table.TableEntry.{TableEntry}
use Rattle.image_layout.specs.Opens.{IsMap, entries_in, lengths_of}
use Rattle.image_layout.specs.Owners.{MayOwn}
use Rattle.image_layout.proofs.OneMap.{slice_get-among}

-- each owner of a map may own
pub may_own : (geometry : Geometry) (laid : List Block) (entries : List (Option TableEntry)) (owners : List (Option Owner)) → IsMap geometry laid entries owners
    → (k : ℕ) (owner : Owner) → slice_get owners k ≡ Some (Some owner) → MayOwn (lengths_of entries) (entries_in geometry (k / 128)) (k % 128) owner
may_own geometry laid entries owners owned k owner at =
    let within : k < length owners = slice_get_within owners k (Some owner) at in
    let count = owned.count in
    (owned.each (k / 128) (omega arith)).good (k % 128) owner (slice_get-among owners k ∙ at)

-- and is that of a data block
pub owned_below : (geometry : Geometry) (laid : List Block) (entries : List (Option TableEntry)) (owners : List (Option Owner)) → IsMap geometry laid entries owners
    → (k : ℕ) (owner : Owner) → slice_get owners k ≡ Some (Some owner) → k < geometry.blocks
owned_below geometry laid entries owners owned k owner at =
    let among = (may_own geometry laid entries owners owned k owner at).among in
    omega arith
