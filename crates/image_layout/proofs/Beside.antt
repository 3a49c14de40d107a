-- What blocks that are laid over have is read beside the slots: blocks that are alike there have the same.
use Rattle.std.proofs.Common.{◌≡◌, ℕ, ◌+◌, ◌<◌, List, Option, inl, inr, refl, sym, ap, ◌∙◌, arith, subst}
use Rattle.std.specs.Prelude.{unwrap_or}
use Rattle.nesc_base.specs.Block.{zero_block}
use Rattle.nesc_base.specs.declared.block.Block.{Block}
use Rattle.nesc_base.specs.declared.geometry.Geometry.{Geometry}
use Rattle.nesc_base.specs.Geometry.{area_from, map_at, map_blocks, table_at}
use Rattle.nesc_base.specs.Places.{Owner}
use Rattle.image_layout.specs.declared.fault.ImageFault.{ImageFault}
use Rattle.image_layout.specs.declared.fault.ImageFault.TheVariants.{BadSuper, BadSize, BadList, BadTable, BadOwner, TwiceOwned}
use Rattle.image_layout.specs.declared.table.TableEntry.{TableEntry}
use Rattle.image_layout.specs.Laws.{HasFilesBesideSlots, HasNoFilesBesideSlots, IsDividedAsItStands, IsRefusedAsItStands, OpensAlone, OpensAsItStands, OpensBesideSlots}
use Rattle.image_layout.specs.Opens.{HasFiles, HasParts, IsDivided, IsHeld, IsMap, IsMapBlock, entries_in, lengths_of}
use Rattle.image_layout.specs.Owners.{AreOwners}
use Rattle.image_layout.specs.Refusal.{DoesNotOpen, HasNoFiles, LacksOwners, LacksTable, OwnsTwice}
use Rattle.image_layout.specs.Super.{IsSuperblock}
use Rattle.image_layout.specs.Table.{IsTable}
use Rattle.slot_layout.specs.Slots.{AreAlike, Lays, StandsFor, block_at}
use Rattle.slot_layout.proofs.Alike.{Lays-below, alike_back, alike_block, alike_enough, alike_some, first_closed, laid_alone, lays_itself, length-Lays}
use Rattle.image_layout.proofs.MapOwners.{owned_below}

module _ (geometry : Geometry) (one other : List Block) (alike : AreAlike geometry one other) where
  -- the table
  table_there : (entries : List (Option TableEntry)) → IsTable (block_at one (table_at geometry)) entries → IsTable (block_at other (table_at geometry)) entries
  table_there entries table =
      subst (λ block. IsTable block entries) (sym (alike_block geometry one other alike (table_at geometry) (inr (omega arith, omega arith)))) table

  -- the map
  map_block_there : (entries : List (Option TableEntry)) (b : ℕ) (owners : List (Option Owner)) → b < map_blocks geometry
      → IsMapBlock geometry one entries b owners → IsMapBlock geometry other entries b owners
  map_block_there entries b owners below is =
      subst (λ block. AreOwners (lengths_of entries) (entries_in geometry b) block owners)
      (sym (alike_block geometry one other alike (map_at geometry + b) (inr (omega arith, omega arith)))) is

  map_there : (entries : List (Option TableEntry)) (owners : List (Option Owner)) → IsMap geometry one entries owners → IsMap geometry other entries owners
  map_there entries owners owned = record {
    count = owned.count;
    each = λ b below. map_block_there entries b _ below (owned.each b below);
  }

  parts_there : (entries : List (Option TableEntry)) (owners : List (Option Owner)) → HasParts geometry one entries owners → HasParts geometry other entries owners
  parts_there entries owners parts = record {
    table = table_there entries parts.table;
    owned = map_there entries owners parts.owned;
    once = parts.once;
  }

  -- the data blocks that have owners
  held_there : (entries : List (Option TableEntry)) (owners : List (Option Owner)) → IsMap geometry one entries owners
      → (n v : ℕ) (block : Block) → IsHeld geometry one owners n v block → IsHeld geometry other owners n v block
  held_there entries owners owned n v block held =
      let below : held.k < geometry.blocks = owned_below geometry one entries owners owned held.k held.owner held.owned in
      record {
        k = held.k;
        owner = held.owner;
        owned = held.owned;
        file = held.file;
        place = held.place;
        stands = alike.each (area_from geometry + held.k) (inr (omega arith, omega arith)) ∙ held.stands;
      }

pub files_beside : (one other : List Block) → HasFilesBesideSlots one other
files_beside one other geometry files places alike has =
    let back : AreAlike geometry other one = alike_back geometry one other alike in
    let owned : IsMap geometry other has.entries has.owners = map_there geometry one other alike has.entries has.owners has.parts.owned in
    record {
      entries = has.entries;
      owners = has.owners;
      parts = parts_there geometry one other alike has.entries has.owners has.parts;
      are_files = record {
        none = has.are_files.none;
        named = has.are_files.named;
        held = λ n v file block at. (
          λ is. held_there geometry one other alike has.entries has.owners has.parts.owned n v block ((has.are_files.held n v file block at).0 is),
          λ held. (has.are_files.held n v file block at).1 (held_there geometry other one back has.entries has.owners owned n v block held),
        );
      };
      are_places = has.are_places;
    }

-- Causes for which there are none

module _ (geometry : Geometry) (one other : List Block) (alike : AreAlike geometry one other) where
  lacks_table : (place : ℕ) → LacksTable geometry one place → LacksTable geometry other place
  lacks_table place lacks = record {
    none = λ entries table. lacks.none entries (table_there geometry other one (alike_back geometry one other alike) entries table);
    at = lacks.at;
  }

  lacks_owners : (place : ℕ) → LacksOwners geometry one place → LacksOwners geometry other place
  lacks_owners place lacks =
      let last = lacks.last in
      record {
        entries = lacks.entries;
        table = table_there geometry one other alike lacks.entries lacks.table;
        b = lacks.b;
        last = last;
        before = λ c less. let before = lacks.before c less in (before.0, map_block_there geometry one other alike lacks.entries c before.0 (omega arith) before.1);
        none = λ owners is. lacks.none owners (map_block_there geometry other one (alike_back geometry one other alike) lacks.entries lacks.b owners last is);
        at = lacks.at;
      }

  owns_twice : (owner : Owner) → OwnsTwice geometry one owner → OwnsTwice geometry other owner
  owns_twice owner owns = record {
    entries = owns.entries;
    table = table_there geometry one other alike owns.entries owns.table;
    owners = owns.owners;
    owned = map_there geometry one other alike owns.entries owns.owners owns.owned;
    k = owns.k;
    repeats = owns.repeats;
    first = owns.first;
  }

pub no_files_beside : (one other : List Block) → HasNoFilesBesideSlots one other
no_files_beside one other geometry (BadSuper place) alike has = has
no_files_beside one other geometry (BadSize place) alike has = has
no_files_beside one other geometry (BadList place) alike has = has
no_files_beside one other geometry (BadTable place) alike has = lacks_table geometry one other alike place has
no_files_beside one other geometry (BadOwner place) alike has = lacks_owners geometry one other alike place has
no_files_beside one other geometry (TwiceOwned file v) alike has = owns_twice geometry one other alike (file, v) has

-- Images

-- an image that is alike to one that is divided is so too
divided_beside : (geometry : Geometry) (one other : List Block) → AreAlike geometry one other → IsDivided one geometry → IsDivided other geometry
divided_beside geometry one other alike divided = record {
  some = alike_some geometry one other alike divided.some;
  super = subst (λ block. IsSuperblock block geometry) (sym (alike_block geometry one other alike 0 (inl refl))) divided.super;
  enough = alike_enough geometry one other alike divided.enough;
}

pub images_beside : (one other : List Block) → OpensBesideSlots one other
images_beside one other geometry files places closed closed' alike opens =
    let alone : opens.laid ≡ one = laid_alone geometry one opens.laid (first_closed geometry one closed) opens.lays in
    record {
      laid = other;
      divided = divided_beside geometry one other alike opens.divided;
      lays = lays_itself geometry other (first_closed geometry other closed');
      has = files_beside one other geometry files places alike (subst (λ blocks. HasFiles geometry blocks files places) alone opens.has);
    }

pub opens_alone : (image : List Block) → OpensAlone image
opens_alone image geometry files places closed divided has = record {
  laid = image;
  divided = divided;
  lays = lays_itself geometry image (first_closed geometry image closed);
  has = has;
}

-- with its slots laid over an image is divided as it is
divided_over : (geometry : Geometry) (image laid : List Block) → Lays geometry image laid → IsDivided image geometry → IsDivided laid geometry
divided_over geometry image laid lays divided =
    let long = length-Lays geometry image laid lays in
    let first : block_at laid 0 ≡ block_at image 0 = ap (λ o. unwrap_or o zero_block) (Lays-below geometry image laid 0 lays (omega arith)) in
    let some = divided.some in
    let enough = divided.enough in
    record {
      some = omega arith;
      super = subst (λ block. IsSuperblock block geometry) (sym first) divided.super;
      enough = omega arith;
    }

pub divided_standing : (image blocks : List Block) → IsDividedAsItStands image blocks
divided_standing image blocks geometry stands divided =
    divided_beside geometry stands.laid blocks (alike_back geometry blocks stands.laid stands.alike)
    (divided_over geometry image stands.laid stands.lays divided)

-- and it is divided as what it stands for
divided_under : (geometry : Geometry) (image blocks : List Block) → StandsFor geometry image blocks → IsDivided blocks geometry → IsDivided image geometry
divided_under geometry image blocks stands divided =
    let over : IsDivided stands.laid geometry = divided_beside geometry blocks stands.laid stands.alike divided in
    let long = length-Lays geometry image stands.laid stands.lays in
    let first : block_at stands.laid 0 ≡ block_at image 0 = ap (λ o. unwrap_or o zero_block) (Lays-below geometry image stands.laid 0 stands.lays (omega arith)) in
    let some = over.some in
    let enough = over.enough in
    record {
      some = omega arith;
      super = subst (λ block. IsSuperblock block geometry) first over.super;
      enough = omega arith;
    }

pub opens_standing : (image blocks : List Block) → OpensAsItStands image blocks
opens_standing image blocks geometry files places closed stands opens =
    let alone : opens.laid ≡ blocks = laid_alone geometry blocks opens.laid (first_closed geometry blocks closed) opens.lays in
    record {
      laid = stands.laid;
      divided = divided_under geometry image blocks stands opens.divided;
      lays = stands.lays;
      has = files_beside blocks stands.laid geometry files places stands.alike (subst (λ bs. HasFiles geometry bs files places) alone opens.has);
    }

-- what it stands for has no files
does_not_open : (image blocks : List Block) (geometry : Geometry) (fault : ImageFault) → IsDivided image geometry → StandsFor geometry image blocks
    → HasNoFiles geometry blocks fault → DoesNotOpen image fault
does_not_open image blocks geometry fault divided stands has = record {
  geometry = geometry;
  divided = divided;
  laid = stands.laid;
  lays = stands.lays;
  has = no_files_beside blocks stands.laid geometry fault stands.alike has;
}

pub refused_standing : (image blocks : List Block) → IsRefusedAsItStands image blocks
refused_standing image blocks geometry (BadSuper place) divided stands has = absurd has
refused_standing image blocks geometry (BadSize place) divided stands has = absurd has
refused_standing image blocks geometry (BadList place) divided stands has = absurd has
refused_standing image blocks geometry (BadTable place) divided stands has = does_not_open image blocks geometry (BadTable place) divided stands has
refused_standing image blocks geometry (BadOwner place) divided stands has = does_not_open image blocks geometry (BadOwner place) divided stands has
refused_standing image blocks geometry (TwiceOwned file v) divided stands has = does_not_open image blocks geometry (TwiceOwned file v) divided stands has
