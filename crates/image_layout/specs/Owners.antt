-- A block of the map of owners: one entry of 8 bytes for each of its data blocks.
use Rattle.std.specs.Prelude.{◌≡◌, ◌≢◌, ℕ, ◌-◌, ◌^◌, ◌<◌, List, ◌∷◌, ◌++◌}
use Rattle.std.specs.Prelude.{length, replicate, Option, Some, None, slice_get}
use Rattle.nesc_base.specs.declared.block.Block.{Block}
use Rattle.nesc_base.specs.Geometry.{block_owners}
use Rattle.nesc_base.specs.Places.{Owner}
use Rattle.slot_layout.specs.Bytes.{block_of_bytes, four_bytes, spelled, two_bytes}

-- how many bytes an entry has
abbrev pub owner_size : ℕ
owner_size = 8

-- a data block that is free has zeros, one that is held the file's number and the place
abbrev pub owner_bytes : Option Owner → List ℕ
owner_bytes None = replicate owner_size 0
owner_bytes (Some owner) = two_bytes owner.0.0 ++ 0 ∷ 0 ∷ four_bytes owner.1

unfoldable pub owner_block : List (Option Owner) → Block
owner_block owners = block_of_bytes (spelled owner_bytes owners)

-- the owner of entry k may be this one: the entry is one of the first so many, and the file of its number, from 1 on,
-- has the block; both numbers fit the bytes that they are spelled in
pub record MayOwn (lengths : List (Option ℕ)) (entries k : ℕ) (owner : Owner) : Type 0 where
  pub among : k < entries
  pub numbered : owner.0.0 ≢ 0
  pub in_two_bytes : owner.0.0 < 2 ^ 16
  pub in_four_bytes : owner.1 < 2 ^ 32
  pub length : ℕ
  pub used : slice_get lengths (owner.0.0 - 1) ≡ Some (Some length)
  pub below : owner.1 < length

-- the block is this spelling of all its entries, each free or of an owner that there may be
pub record AreOwners (lengths : List (Option ℕ)) (entries : ℕ) (block : Block)
    (owners : List (Option Owner)) : Type 0 where
  pub count : length owners ≡ block_owners
  pub good : (k : ℕ) (owner : Owner) → slice_get owners k ≡ Some (Some owner) → MayOwn lengths entries k owner
  pub spelling : block ≡ owner_block owners
