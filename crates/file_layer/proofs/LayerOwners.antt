-- The owners that the map blocks have: those of the data blocks, and none for the rest of the last map block.
use Rattle.std.proofs.Common.{◌≡◌, ℕ, ◌-◌, ◌*◌, ◌<◌, Option, Some, None, length, replicate, slice_get, arith, length-append}
use Rattle.std.proofs.lemmas.List.{length-replicate}
use Rattle.std.proofs.lemmas.Option.{slice_get_within}
use Rattle.nesc_base.specs.Geometry.{block_owners, map_blocks}
use Rattle.nesc_base.specs.Places.{Owner}
use Rattle.image_layout.specs.Opens.{Repeats}
use Rattle.file_layer.specs.Layer.{IsLayer, Layer, owners_of}
use Rattle.file_layer.proofs.Padded.{stands_in_front}

module _ (files : Layer) (layer : IsLayer files) where
  -- the map blocks are full
  pub length-owners_of : length (owners_of files) ≡ block_owners * map_blocks files.geometry
  length-owners_of =
      let none : ℕ = block_owners * map_blocks files.geometry - files.geometry.blocks in
      let count = layer.count in
      omega (arith, length-append files.map.owners (replicate none None), length-replicate {A = Option Owner} none None)

  pub owner_in_memory : (k : ℕ) (owner : Owner) → slice_get (owners_of files) k ≡ Some (Some owner) → slice_get files.map.owners k ≡ Some (Some owner)
  owner_in_memory k owner at = stands_in_front files.map.owners (block_owners * map_blocks files.geometry - files.geometry.blocks) k owner at

  -- an owner is that of a data block
  pub owner_within : (k : ℕ) (owner : Owner) → slice_get (owners_of files) k ≡ Some (Some owner) → k < files.geometry.blocks
  owner_within k owner at =
      let count = layer.count in
      omega (arith, slice_get_within files.map.owners k (Some owner) (owner_in_memory k owner at))

  -- and stands once
  pub owners_once : (k : ℕ) (owner : Owner) → ¬ Repeats (owners_of files) k owner
  owners_once k owner repeats =
      let before = repeats.1.1 in
      let same : repeats.1.0 ≡ k = layer.once repeats.1.0 k owner (owner_in_memory repeats.1.0 owner repeats.1.2) (owner_in_memory k owner repeats.0) in
      omega (arith, before, same)
