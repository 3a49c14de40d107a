-- The map of an image while its map blocks are read, one after another.
use Rattle.std.proofs.Common.{◌≡◌, ℕ, ◌+◌, ◌*◌, ◌<◌, true, false, is_some, MatchOption, List, [], ◌++◌, Option, Some, None, length, replicate, take, refl, sym, ap, ◌∙◌, subst, arith, length-append}
use Rattle.std.proofs.lemmas.Bool.{false≢true}
use Rattle.std.proofs.lemmas.Option.{none-some}
use Rattle.nesc_base.specs.declared.block.Block.{Block}
use Rattle.nesc_base.specs.declared.geometry.Geometry.{Geometry}
use Rattle.nesc_base.specs.Disk.{Goes, Known, Unchanged}
use Rattle.nesc_base.specs.Geometry.{block_owners, map_at, map_blocks, table_at}
use Rattle.nesc_base.specs.Places.{Owner}
use Rattle.block_map.specs.Map.{BlockMap, cleared}
use Rattle.image_layout.specs.declared.fault.ImageFault.TheVariants.{BadOwner}
use Rattle.image_layout.specs.declared.table.TableEntry.{TableEntry}
use Rattle.image_layout.specs.Opens.{IsMapBlock, entries_in, lengths_of}
use Rattle.image_layout.specs.Owners.{AreOwners}
use Rattle.image_layout.specs.Refusal.{HasNoFiles}
use Rattle.image_layout.specs.Table.{IsTable}
use Rattle.image_layout.proofs.MapBlocks.{each_more}
use Rattle.slot_layout.specs.Slots.{block_at}
use Rattle.host_journal.specs.Journal.{Journal}
use Rattle.host_journal.specs.Staged.{now_of}
use Rattle.file_layer.specs.Loading.{HasOwners, IsBlockNow, IsFirstTwice, IsMapOf, MapLoads, MayOwnEach, OfBlocks, owners_before}
use Rattle.file_layer.proofs.BlocksRead.{kept_on}
use Rattle.file_layer.proofs.OwnersSet.{Owners, first_more, padded-none, take-padded}

-- what is read later of a journal was there at first
pub block_then : (journal : Journal) (old now : Known) (place at : ℕ) (block : Block) → Goes old now → Unchanged old now → place ≡ at
    → IsBlockNow journal now place block → IsBlockNow journal old at block
block_then journal old now place at block goes unchanged same is tells kept was =
    is (goes.still_tells ∙ tells) kept (kept_on journal.geometry old now kept tells unchanged was) ∙ ap (block_at (now_of journal.staged kept)) same

-- What stands twice so far

pub where_once : {X : Type 0} (P : Type 0) (Q : X → Type 0) (o : Option X) → is_some o ≡ false → MatchOption o P Q → P
where_once P Q None none holds = holds
where_once P Q (Some x) none holds = absurd (false≢true (sym none))

-- what is set of the next map block
pub set_more : (geometry : Geometry) (map new : BlockMap) (b : ℕ) (owners found : Owners) (next : Option Owner) → owners_before b map ≡ owners
    → MatchOption next (HasOwners geometry new (owners_before b map ++ found)) (IsFirstTwice (owners_before b map ++ found))
    → MatchOption next (HasOwners geometry new (owners ++ found)) (IsFirstTwice (owners ++ found))
set_more geometry map new b owners found next same set =
    subst (λ (before : Owners). MatchOption next (HasOwners geometry new (before ++ found)) (IsFirstTwice (before ++ found))) same set

-- nothing is, where an owner stands twice before
pub twice_more : (geometry : Geometry) (map : BlockMap) (owners found : Owners) (twice : Option Owner) → is_some twice ≡ true
    → MatchOption twice (HasOwners geometry map owners) (IsFirstTwice owners)
    → MatchOption twice (HasOwners geometry map (owners ++ found)) (IsFirstTwice (owners ++ found))
twice_more geometry map owners found None some set = absurd (false≢true some)
twice_more geometry map owners found (Some owner) some set = first_more owners found owner set

-- The owners of the map blocks so far

-- a map that has owners has them before the next map block
pub before_is : (geometry : Geometry) (map : BlockMap) (b : ℕ) (owners : Owners) → b < map_blocks geometry → length owners ≡ block_owners * b → HasOwners geometry map owners
    → owners_before b map ≡ owners
before_is geometry map b owners within count has =
    ap (λ (all : Owners). take (block_owners * b) all) has.set ∙ take-padded geometry.blocks owners (block_owners * b) count (omega (arith, within))

-- at first there are none
pub map_begins : (geometry : Geometry) (journal : Journal) (disk : Known) (entries : List (Option TableEntry)) (map new : BlockMap)
    → IsMapOf geometry map → new ≡ cleared map → MapLoads geometry journal disk entries 0 new None
map_begins geometry journal disk entries map new of is = record {
  owners = [];
  count = refl;
  may = λ c below. absurd (omega (arith, below));
  each = λ tells kept kept_is c below. absurd (omega (arith, below));
  set = record {
    from = ap (λ (m : BlockMap). m.from) is ∙ of.from;
    set = ap (λ (m : BlockMap). m.owners) is ∙ ap (λ n. replicate n None) of.count ∙ sym (padded-none geometry.blocks);
    once = λ k owner repeats. none-some (Some owner) repeats.0;
  };
}

module _ (geometry : Geometry) (journal : Journal) (disk : Known) (entries : List (Option TableEntry)) (b : ℕ) (map : BlockMap) (twice : Option Owner)
    (loads : MapLoads geometry journal disk entries b map twice) where
  -- where no owner stands twice, the map has those so far
  pub set_so_far : is_some twice ≡ false → HasOwners geometry map loads.owners
  set_so_far none = where_once _ _ twice none loads.set

  -- the next map block, with what is set of it
  pub map_more : (found : Owners) (new : BlockMap) (next : Option Owner) → length found ≡ block_owners → MayOwnEach entries (entries_in geometry b) found
      → OfBlocks journal disk (λ blocks. IsMapBlock geometry blocks entries b found)
      → MatchOption next (HasOwners geometry new (loads.owners ++ found)) (IsFirstTwice (loads.owners ++ found))
      → MapLoads geometry journal disk entries (b + 1) new next
  map_more found new next size may here set = record {
    owners = loads.owners ++ found;
    count = omega (arith, length-append loads.owners found, loads.count, size);
    may = each_more (λ c owners. MayOwnEach entries (entries_in geometry c) owners) b loads.owners found loads.count size loads.may may;
    each = λ tells kept is. each_more (λ c owners. IsMapBlock geometry (now_of journal.staged kept) entries c owners) b loads.owners found loads.count size
        (loads.each tells kept is) (here tells kept is);
    set = set;
  }

  -- a map block that is none
  pub map_lacks : (place : ℕ) (block : Block) → b < map_blocks geometry → place ≡ map_at geometry + b → IsBlockNow journal disk (map_at geometry + b) block
      → ¬ ((owners : Owners) × AreOwners (lengths_of entries) (entries_in geometry b) block owners)
      → OfBlocks journal disk (λ blocks. IsTable (block_at blocks (table_at geometry)) entries → HasNoFiles geometry blocks (BadOwner place))
  map_lacks place block within at here none tells kept is table = record {
    entries = entries;
    table = table;
    b = b;
    last = within;
    before = λ c below. (_, loads.each tells kept is c below);
    none = λ owners are. none (owners, subst (λ (there : Block). AreOwners (lengths_of entries) (entries_in geometry b) there owners) (sym (here tells kept is)) are);
    at = at;
  }
