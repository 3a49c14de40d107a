-- When blocks that are laid over say what is in memory.
use Rattle.std.proofs.Common.{◌≡◌, ℕ, ◌+◌, ◌-◌, ◌*◌, ◌<◌, ◌≤◌, List, Option, Some, drop, length, slice_get, take, refl, sym, ap, ◌∙◌, subst, arith, length-drop, length-take}
use Rattle.std.specs.Prelude.{unwrap_or}
use Rattle.std.proofs.lemmas.Option.{slice_get_within}
use Rattle.nesc_base.specs.declared.block.Block.{Block}
use Rattle.nesc_base.specs.declared.geometry.Geometry.{Geometry}
use Rattle.nesc_base.specs.Block.{zero_block}
use Rattle.nesc_base.specs.Geometry.{area_from, block_owners, map_at, map_blocks, table_at}
use Rattle.nesc_base.specs.Places.{Owner}
use Rattle.image_layout.specs.declared.table.TableEntry.{TableEntry}
use Rattle.image_layout.specs.Opens.{HasParts, IsMapBlock, entries_in, lengths_of}
use Rattle.image_layout.specs.Owners.{AreOwners, MayOwn}
use Rattle.image_layout.specs.Table.{IsTable}
use Rattle.image_layout.proofs.OneMap.{slice_get-drop}
use Rattle.image_layout.proofs.TableLemmas.{slice_get-take}
use Rattle.slot_layout.specs.Slots.{block_at}
use Rattle.file_layer.specs.Layer.{IsLayer, Layer, owners_of}
use Rattle.file_layer.specs.Staging.{map_block}
use Rattle.file_layer.proofs.LayerOwners.{length-owners_of, owner_in_memory, owners_once}

-- an owner of one of all data blocks is one of the last of them too
may_own_behind : (lengths : List (Option ℕ)) (blocks before k at : ℕ) (owner : Owner) → at ≡ before + k → MayOwn lengths blocks at owner → MayOwn lengths (blocks - before) k owner
may_own_behind lengths blocks before k at owner same may = record {
  among = let among = may.among in omega (arith, among, same);
  numbered = may.numbered;
  in_two_bytes = may.in_two_bytes;
  in_four_bytes = may.in_four_bytes;
  length = may.length;
  used = may.used;
  below = may.below;
}

module _ (files : Layer) (layer : IsLayer files) where
  -- the owners of one map block
  abbrev pub owners_in : ℕ → List (Option Owner)
  owners_in b = take block_owners (drop (block_owners * b) (owners_of files))

  all_there : (b : ℕ) → b < map_blocks files.geometry → length (owners_in b) ≡ 128
  all_there b below =
      let all : List (Option Owner) = owners_of files in
      omega (arith, below, length-owners_of files layer, length-drop (128 * b) all, length-take 128 (drop (128 * b) all))

  -- each stands where it does among all
  among_all : (b k : ℕ) (owner : Owner) → b < map_blocks files.geometry → slice_get (owners_in b) k ≡ Some (Some owner) → slice_get (owners_of files) (128 * b + k) ≡ Some (Some owner)
  among_all b k owner below at =
      let within : k < 128 = omega (arith, slice_get_within (owners_in b) k (Some owner) at, all_there b below) in
      sym (slice_get-drop (128 * b) (owners_of files) k) ∙ sym (slice_get-take (drop (128 * b) (owners_of files)) 128 k within) ∙ at

  -- so it is one that there may be
  pub may_own_in : (b k : ℕ) (owner : Owner) → b < map_blocks files.geometry → slice_get (owners_in b) k ≡ Some (Some owner)
      → MayOwn (lengths_of files.table) (entries_in files.geometry b) k owner
  may_own_in b k owner below at =
      let there = among_all b k owner below at in
      may_own_behind (lengths_of files.table) files.geometry.blocks (128 * b) k (128 * b + k) owner refl (layer.may (128 * b + k) owner (owner_in_memory files layer (128 * b + k) owner there))

module _ (files : Layer) (layer : IsLayer files) (laid : List Block) where
  -- the block that spells the owners is a map block
  said_owners : (b : ℕ) → b < map_blocks files.geometry → block_at laid (map_at files.geometry + b) ≡ map_block files b
      → IsMapBlock files.geometry laid files.table b (take block_owners (drop (block_owners * b) (owners_of files)))
  said_owners b below spelled = record {
    count = all_there files layer b below;
    good = λ k owner at. may_own_in files layer b k owner below at;
    spelling = spelled;
  }

  -- blocks that have the table and the spelling of each map block say what is in memory
  pub parts_said : IsTable (block_at laid (table_at files.geometry)) files.table
      → ((b : ℕ) → b < map_blocks files.geometry → block_at laid (map_at files.geometry + b) ≡ map_block files b) → HasParts files.geometry laid files.table (owners_of files)
  parts_said table spelled = record {
    table = table;
    owned = record { count = length-owners_of files layer; each = λ b below. said_owners b below (spelled b below) };
    once = owners_once files layer;
  }

-- blocks that are alike in the table and the map say the same
pub parts_alike : (geometry : Geometry) (one other : List Block) (entries : List (Option TableEntry)) (owners : List (Option Owner))
    → ((at : ℕ) → table_at geometry ≤ at → at < area_from geometry → slice_get other at ≡ slice_get one at) → HasParts geometry one entries owners → HasParts geometry other entries owners
parts_alike geometry one other entries owners alike parts =
    let same : (at : ℕ) → table_at geometry ≤ at → at < area_from geometry → block_at one at ≡ block_at other at = λ at from below. sym (ap (λ o. unwrap_or o zero_block) (alike at from below)) in
    record {
      table = subst (λ (block : Block). IsTable block entries) (same (table_at geometry) (omega arith) (omega arith)) parts.table;
      owned = record {
        count = parts.owned.count;
        each = λ b below.
            subst (λ (block : Block). AreOwners (lengths_of entries) (entries_in geometry b) block (take block_owners (drop (block_owners * b) owners)))
            (same (map_at geometry + b) (omega arith) (omega (arith, below))) (parts.owned.each b below);
      };
      once = parts.once;
    }
