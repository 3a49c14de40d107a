-- What a map says whose map blocks are all read.
use Rattle.std.proofs.Common.{◌≡◌, ℕ, ◌-◌, ◌*◌, ◌/◌, ◌%◌, ◌<◌, ◌≤◌, List, ◌++◌, Option, Some, None, length, replicate, slice_get, sym, ap, ◌∙◌, subst, arith}
use Rattle.std.proofs.lemmas.Option.{slice_get_within}
use Rattle.nesc_base.specs.declared.geometry.Geometry.{Geometry}
use Rattle.nesc_base.specs.declared.numbers.FileNo.{FileNo}
use Rattle.nesc_base.specs.Disk.{Known}
use Rattle.nesc_base.specs.Geometry.{IsGeometry, block_owners, map_blocks, table_at}
use Rattle.nesc_base.specs.Places.{Owner}
use Rattle.block_map.specs.Map.{BlockMap}
use Rattle.image_layout.specs.declared.fault.ImageFault.TheVariants.{TwiceOwned}
use Rattle.image_layout.specs.declared.table.TableEntry.{TableEntry}
use Rattle.image_layout.specs.Opens.{HasParts, lengths_of}
use Rattle.image_layout.specs.Owners.{MayOwn}
use Rattle.image_layout.specs.Refusal.{HasNoFiles}
use Rattle.image_layout.specs.Table.{AreEntries, IsTable}
use Rattle.image_layout.proofs.OneMap.{slice_get-among}
use Rattle.slot_layout.specs.Slots.{block_at}
use Rattle.host_journal.specs.Journal.{Journal}
use Rattle.file_layer.specs.Layer.{AreApartOwners, IsLayer, Layer, owners_of}
use Rattle.file_layer.specs.Loading.{MapLoads, OfBlocks, padded}
use Rattle.file_layer.proofs.OwnersSet.{Owners, length-padded, once_apart, padded-held, padded-whole}

-- the files of a table and a map
abbrev pub layer_of : Geometry → List (Option TableEntry) → BlockMap → Layer
layer_of geometry entries map = record { geometry = geometry; table = entries; map = map }

module _ (geometry : Geometry) (journal : Journal) (disk : Known) (entries : List (Option TableEntry)) (map : BlockMap) where
  -- each owner of the map blocks may own
  may_all : (twice : Option Owner) (loads : MapLoads geometry journal disk entries (map_blocks geometry) map twice) (k : ℕ) (owner : Owner) → slice_get loads.owners k ≡ Some (Some owner)
      → MayOwn (lengths_of entries) geometry.blocks k owner
  may_all twice loads k owner at =
      let within : k < length loads.owners = slice_get_within loads.owners k (Some owner) at in
      let count = loads.count in
      let may = loads.may (k / 128) (omega arith) (k % 128) owner (slice_get-among loads.owners k ∙ at) in
      record {
        among = omega (arith, may.among);
        numbered = may.numbered;
        in_two_bytes = may.in_two_bytes;
        in_four_bytes = may.in_four_bytes;
        length = may.length;
        used = may.used;
        below = may.below;
      }

  module _ (loads : MapLoads geometry journal disk entries (map_blocks geometry) map None) where
    -- the map has them all
    owners_are : owners_of (layer_of geometry entries map) ≡ loads.owners
    owners_are =
        let many : geometry.blocks ≤ length loads.owners = omega (arith, loads.count) in
        ap (λ (owners : Owners). owners ++ replicate (block_owners * map_blocks geometry - geometry.blocks) None) loads.set.set
        ∙ ap (λ n. padded geometry.blocks loads.owners ++ replicate (n - geometry.blocks) None) (sym loads.count)
        ∙ padded-whole geometry.blocks loads.owners many (λ k owner at. (may_all None loads k owner at).among)

    -- so these are files
    pub layer_loaded : IsGeometry geometry → AreEntries entries → IsLayer (layer_of geometry entries map)
    layer_loaded sizes good = record {
      sizes = sizes;
      entries = good;
      from = loads.set.from;
      count = ap length loads.set.set ∙ length-padded geometry.blocks loads.owners;
      may = λ k owner at. may_all None loads k owner (padded-held geometry.blocks loads.owners k owner (sym (ap (λ (owners : Owners). slice_get owners k) loads.set.set) ∙ at));
      once = subst AreApartOwners (sym loads.set.set) (once_apart geometry.blocks loads.owners loads.set.once);
    }

    -- and those that the blocks say
    pub parts_loaded : OfBlocks journal disk (λ blocks. IsTable (block_at blocks (table_at geometry)) entries → HasParts geometry blocks entries (owners_of (layer_of geometry entries map)))
    parts_loaded tells kept is table = subst (HasParts geometry _ entries) (sym owners_are) (record {
      table = table;
      owned = record { count = loads.count; each = loads.each tells kept is };
      once = loads.set.once;
    })

  -- an owner that stands twice
  pub twice_loaded : (file : FileNo) (v : ℕ) → MapLoads geometry journal disk entries (map_blocks geometry) map (Some (file, v))
      → OfBlocks journal disk (λ blocks. IsTable (block_at blocks (table_at geometry)) entries → HasNoFiles geometry blocks (TwiceOwned file v))
  twice_loaded file v loads tells kept is table = record {
    entries = entries;
    table = table;
    owners = loads.owners;
    owned = record { count = loads.count; each = loads.each tells kept is };
    k = loads.set.0;
    repeats = loads.set.1;
    first = loads.set.2;
  }

-- files are those of their table and their map
pub layer_is : (files : Layer) (geometry : Geometry) (entries : List (Option TableEntry)) → files.geometry ≡ geometry → files.table ≡ entries → files ≡ layer_of geometry entries files.map
layer_is files geometry entries same_geometry table =
    ap (λ g. layer_of g files.table files.map) same_geometry ∙ ap (λ t. layer_of geometry t files.map) table
