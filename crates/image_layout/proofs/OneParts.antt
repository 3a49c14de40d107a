-- The parts of an image are read in one way, one behind the other.
use Rattle.std.proofs.Common.{◌≡◌, ℕ, List, Option, ap, ◌∙◌, subst}
use Rattle.nesc_base.specs.declared.block.Block.{Block}
use Rattle.nesc_base.specs.declared.geometry.Geometry.{Geometry}
use Rattle.nesc_base.specs.Geometry.{table_at}
use Rattle.nesc_base.specs.Places.{Owner}
use Rattle.image_layout.specs.declared.table.TableEntry.{TableEntry}
use Rattle.image_layout.specs.Opens.{IsDivided, IsMap, Repeats, Says}
use Rattle.slot_layout.specs.Slots.{Lays, block_at}
use Rattle.image_layout.specs.Table.{IsTable}
use Rattle.slot_layout.proofs.OneLaid.{one_laid}
use Rattle.image_layout.proofs.OneMap.{one_map}
use Rattle.image_layout.proofs.OneReading.{one_superblock, one_table}

-- what an image says: its division, itself with its slots laid over, its table and its map
abbrev pub Said : Type 0
Said = Geometry × List Block × List (Option TableEntry) × List (Option Owner)

-- an image that is divided
pub record Divided (image : List Block) : Type 0 where
  pub geometry : Geometry
  pub divided : IsDivided image geometry

-- and whose slots are laid over it
pub record Laid (image : List Block) : Type 0 where
  pub from : Divided image
  pub laid : List Block
  pub lays : Lays from.geometry image laid

-- and that has a table
pub record Tabled (image : List Block) : Type 0 where
  pub from : Laid image
  pub entries : List (Option TableEntry)
  pub table : IsTable (block_at from.laid (table_at from.from.geometry)) entries

-- and a map of owners
pub record Mapped (image : List Block) : Type 0 where
  pub from : Tabled image
  pub owners : List (Option Owner)
  pub owned : IsMap from.from.from.geometry from.from.laid from.entries owners

-- and whose map has no owner twice
pub record Single (image : List Block) : Type 0 where
  pub from : Mapped image
  pub once : (k : ℕ) (owner : Owner) → ¬ Repeats from.owners k owner

-- each of these is read in one way
module _ (image : List Block) where
  pub same_divided : (one other : Divided image) → one.geometry ≡ other.geometry
  same_divided one other = one_superblock (block_at image 0) one.geometry other.geometry one.divided.super other.divided.super

  pub same_laid : (one other : Laid image) → ◌≡◌ {A = Geometry × List Block} (one.from.geometry, one.laid) (other.from.geometry, other.laid)
  same_laid one other =
      let read : Geometry → List Block → Geometry × List Block = λ geometry laid. (geometry, laid) in
      let before = same_divided one.from other.from in
      let lays : Lays other.from.geometry image one.laid = subst (λ g. Lays g image one.laid) before one.lays in
      ap (λ g. read g one.laid) before
      ∙ ap (read other.from.geometry) (one_laid other.from.geometry image one.laid other.laid other.from.divided.super.sizes lays other.lays)

  pub same_tabled : (one other : Tabled image)
      → ◌≡◌ {A = Geometry × List Block × List (Option TableEntry)} (one.from.from.geometry, one.from.laid, one.entries) (other.from.from.geometry, other.from.laid, other.entries)
  same_tabled one other =
      let read : Geometry × List Block → List (Option TableEntry) → Geometry × List Block × List (Option TableEntry) = λ r entries. (r.0, r.1, entries) in
      let before = same_laid one.from other.from in
      let table : IsTable (block_at other.from.laid (table_at other.from.from.geometry)) one.entries =
      subst (λ (r : Geometry × List Block). IsTable (block_at r.1 (table_at r.0)) one.entries) before one.table in
      ap (λ r. read r one.entries) before
      ∙ ap (read (other.from.from.geometry, other.from.laid)) (one_table _ one.entries other.entries table other.table)

  pub same_mapped : (one other : Mapped image)
      → ◌≡◌ {A = Said} (one.from.from.from.geometry, one.from.from.laid, one.from.entries, one.owners) (other.from.from.from.geometry, other.from.from.laid, other.from.entries, other.owners)
  same_mapped one other =
      let read : Geometry × List Block × List (Option TableEntry) → List (Option Owner) → Said = λ r owners. (r.0, r.1, r.2, owners) in
      let before = same_tabled one.from other.from in
      let owned : IsMap other.from.from.from.geometry other.from.from.laid other.from.entries one.owners =
      subst (λ (r : Geometry × List Block × List (Option TableEntry)). IsMap r.0 r.1 r.2 one.owners) before one.owned in
      ap (λ r. read r one.owners) before
      ∙ ap (read (other.from.from.from.geometry, other.from.from.laid, other.from.entries)) (one_map _ _ _ one.owners other.owners owned other.owned)

  -- an image that says something has them all
  abbrev pub single_of : (geometry : Geometry) (laid : List Block) (entries : List (Option TableEntry)) (owners : List (Option Owner))
      → Says image geometry laid entries owners → Single image
  single_of geometry laid entries owners says = record {
    from = record {
      from = record { from = record { from = record { geometry = geometry; divided = says.divided }; laid = laid; lays = says.lays }; entries = entries; table = says.parts.table };
      owners = owners;
      owned = says.parts.owned;
    };
    once = says.parts.once;
  }
