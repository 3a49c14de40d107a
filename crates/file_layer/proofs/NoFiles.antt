-- No files are files as they may be in memory.
use Rattle.std.proofs.Common.{◌≡◌, ℕ, zero, suc, Option, Some, None, length, replicate, slice_get, refl, ap, ◌∙◌}
use Rattle.std.specs.List.{AllByRecursion}
use Rattle.std.proofs.lemmas.List.{length-replicate}
use Rattle.std.proofs.lemmas.Option.{none-some, same_Some}
use Rattle.nesc_base.specs.declared.geometry.Geometry.{Geometry}
use Rattle.nesc_base.specs.Files.{most_files}
use Rattle.nesc_base.specs.Geometry.{IsGeometry, area_from}
use Rattle.nesc_base.specs.Places.{Owner}
use Rattle.block_map.specs.Map.{BlockMap, cleared, empty_map}
use Rattle.image_layout.specs.declared.table.TableEntry.{TableEntry}
use Rattle.image_layout.specs.Table.{AreEntries, Fits}
use Rattle.file_layer.specs.Layer.{IsLayer, Layer, no_files}
use Rattle.file_layer.specs.Loading.{IsMapOf}
use Rattle.file_layer.proofs.MapLoaded.{layer_of}

-- where all are none, there is none
none_there : {X : Type 0} (n k : ℕ) (x : X) → ¬ (slice_get (replicate n None) k ≡ Some (Some x))
none_there zero k x at = none-some (Some x) at
none_there (suc n) zero x at = none-some x (same_Some None (Some x) at)
none_there (suc n) (suc k) x at = none_there n k x at

-- entries that are not used say what they may
all_fit : (n : ℕ) → AllByRecursion Fits (replicate n None)
all_fit zero = tt
all_fit (suc n) = (tt, all_fit n)

pub no_entries : AreEntries (replicate most_files None)
no_entries = record {
  count = length-replicate {A = Option TableEntry} most_files None;
  fit = all_fit most_files;
  apart = λ i j one other first second same. absurd (none_there most_files i one first);
}

pub no_files_layer : (geometry : Geometry) → IsGeometry geometry → IsLayer (no_files geometry)
no_files_layer geometry sizes = record {
  sizes = sizes;
  entries = no_entries;
  from = refl;
  count = length-replicate {A = Option Owner} geometry.blocks None;
  may = λ k owner at. absurd (none_there geometry.blocks k owner at);
  once = λ j k owner first second. absurd (none_there geometry.blocks j owner first);
}

-- the map of an image whose data blocks are all free
cleared_is : (geometry : Geometry) (map : BlockMap) → IsMapOf geometry map → cleared map ≡ empty_map geometry
cleared_is geometry map of =
    let made : ℕ → ℕ → BlockMap = λ from n. record { from = from; owners = replicate n None } in
    ap (λ from. made from (length map.owners)) of.from ∙ ap (made (area_from geometry)) of.count

-- so it is of files whose table is empty and whose map is cleared
pub emptied_is : (geometry : Geometry) (files : Layer) (map : BlockMap) → files.geometry ≡ geometry → files.table ≡ replicate most_files None → IsMapOf geometry map → files.map ≡ cleared map
    → files ≡ no_files geometry
emptied_is geometry files map same_geometry table of is =
    ap (λ g. layer_of g files.table files.map) same_geometry ∙ ap (λ t. layer_of geometry t files.map) table
    ∙ ap (layer_of geometry (replicate most_files None)) (is ∙ cleared_is geometry map of)
