-- What blocks that show the files in memory have, as an opening judges it.
use Rattle.std.proofs.Common.{◌≡◌, ◌↔◌, ◌==◌, ℕ, zero, suc, ◌+◌, ◌-◌, ◌<◌, ◌≤◌, Bool, false, if◌then◌else◌, List, Option, Some, None, drop, get_or, length, option_map, slice_get, refl, sym, ap, ◌∙◌, subst, arith}
use Rattle.std.specs.Prelude.{IsSome, unwrap_or}
use Rattle.std.specs.FinMap.{get}
use Rattle.std.proofs.lemmas.Option.{slice_get-get_or}
use Rattle.nesc_base.specs.declared.block.Block.{Block}
use Rattle.nesc_base.specs.declared.geometry.Geometry.{Geometry}
use Rattle.nesc_base.specs.Block.{zero_block}
use Rattle.nesc_base.specs.Files.{File, Files}
use Rattle.nesc_base.specs.Geometry.{area_from, table_at, total}
use Rattle.nesc_base.specs.Numbered.{map_from}
use Rattle.nesc_base.specs.Places.{IsOwned, Owner, Owns, Places, place_of}
use Rattle.nesc_base.proofs.Numbered.{found, get_before, get_from}
use Rattle.image_layout.specs.declared.table.TableEntry.{TableEntry}
use Rattle.image_layout.specs.Opens.{AreFiles, ArePlaces, HasFiles, HasParts, IsHeld}
use Rattle.image_layout.proofs.Bodies.{IsOnce, belongs_if_held, held_if_belongs, held_of}
use Rattle.image_layout.proofs.MapOwners.{owned_below}
use Rattle.image_layout.proofs.OneMap.{one_map, slice_get-drop}
use Rattle.image_layout.proofs.OneReading.{one_table}
use Rattle.image_layout.proofs.OpenedFiles.{placed, places_from, some_there}
use Rattle.slot_layout.specs.Slots.{block_at}
use Rattle.slot_layout.proofs.Alike.{length-laid_over}
use Rattle.host_journal.specs.Staged.{Staged, fresh_of, now_of, targets_of}
use Rattle.file_layer.specs.Knowing.{FileSet, entry_for}
use Rattle.file_layer.specs.Layer.{Layer, entry_of, owners_of}
use Rattle.file_layer.specs.Showing.{FoundIsShown, Shows, ShowsFiles, ShowsSome}

-- an option with a value is some
pub is_some_at : {X : Type 0} (o : Option X) (x : X) → o ≡ Some x → IsSome o
is_some_at o x at = subst (λ (p : Option _). IsSome p) (sym at) refl

-- entry e is that of file e + 1
pub entry_numbered : (files : Layer) (e : ℕ) → entry_of files (e + 1) ≡ unwrap_or (slice_get files.table e) None
entry_numbered files e =
    let some : (e + 1 == 0) ≡ false = grind arith in
    let place : e + 1 - 1 ≡ e = omega arith in
    ap {A = Bool} {B = Option TableEntry} (λ b. if b then None else unwrap_or (slice_get files.table (e + 1 - 1)) None) some ∙ ap (λ k. unwrap_or (slice_get files.table k) None) place

-- Files that are shown

module _ (files : Layer) (staged : Staged) (kept : List Block) (set : FileSet) (places : Places) (shows : Shows files staged kept set places) where
  -- a block that a file holds stands in the data block that has its owner
  held_if_body : (n v : ℕ) (file : File) (block : Block) → get set n ≡ Some file → get file.body v ≡ Some block
      → IsHeld files.geometry (now_of staged kept) (owners_of files) n v block
  held_if_body n v file block at is =
      let place = some_there (place_of places n v) ((shows.knows.held n v file at).0 (is_some_at (get file.body v) block is)) in
      let owned : IsOwned (area_from files.geometry) (owners_of files) n v place.0 = (shows.knows.placed.each n v place.0 (is_some_at (get set n) file at)).0 place.1 in
      record {
        k = owned.0;
        owner = owned.1;
        owned = owned.2;
        file = owned.3;
        place = owned.4;
        stands = ap (slice_get (now_of staged kept)) (sym owned.5) ∙ sym (shows.stands n v place.0 file at place.1) ∙ is;
      }

  body_if_held : (n v : ℕ) (file : File) (block : Block) → get set n ≡ Some file
      → IsHeld files.geometry (now_of staged kept) (owners_of files) n v block → get file.body v ≡ Some block
  body_if_held n v file block at held =
      let place : ℕ = area_from files.geometry + held.k in
      let owns : Owns places n v place = (shows.knows.placed.each n v place (is_some_at (get set n) file at)).1 (held.k, held.owner, held.owned, held.file, held.place, refl) in
      shows.stands n v place file at owns ∙ held.stands

  are_files_shown : AreFiles files.geometry (now_of staged kept) files.table (owners_of files) set
  are_files_shown = record {
    none = no_entry (get set 0) (shows.knows.named 0);
    named = λ e. shows.knows.named (e + 1) ∙ entry_numbered files e;
    held = λ n v file block at. (held_if_body n v file block at, body_if_held n v file block at);
  }
    where
      no_entry : (o : Option File) → option_map entry_for o ≡ None → o ≡ None
      no_entry None none = refl
      no_entry (Some file) none = absurd cc

  pub has_files_shown : HasFiles files.geometry (now_of staged kept) set places
  has_files_shown = record {
    entries = files.table;
    owners = owners_of files;
    parts = shows.parts;
    are_files = are_files_shown;
    are_places = shows.knows.placed;
  }

pub shows_files : (files : Layer) (staged : Staged) (kept : List Block) (set : FileSet) (places : Places) → ShowsFiles files staged kept set places
shows_files files staged kept set places layer shows = has_files_shown files staged kept set places shows

-- Files that are found

module _ (files : Layer) (staged : Staged) (kept : List Block) (set : FileSet) (places : Places) (whole : total files.geometry ≤ length kept)
    (parts : HasParts files.geometry (now_of staged kept) files.table (owners_of files))
    (are : AreFiles files.geometry (now_of staged kept) files.table (owners_of files) set) (placed_so : ArePlaces files.geometry (owners_of files) set places) where
  -- what stands at the place of a block is what the file holds there
  body_at_place : (n v at : ℕ) (file : File) → get set n ≡ Some file → Owns places n v at → (block : Block) × (slice_get (now_of staged kept) at ≡ Some block) × (get file.body v ≡ Some block)
  body_at_place n v at file stands owns =
      let owned : IsOwned (area_from files.geometry) (owners_of files) n v at = (placed_so.each n v at (is_some_at (get set n) file stands)).0 owns in
      let below : owned.0 < files.geometry.blocks = owned_below files.geometry (now_of staged kept) files.table (owners_of files) parts.owned owned.0 owned.1 owned.2 in
      let place = owned.5 in
      let block : Block = get_or (now_of staged kept) at zero_block in
      let there : slice_get (now_of staged kept) at ≡ Some block =
      slice_get-get_or (now_of staged kept) at zero_block (omega (arith, whole, below, place, length-laid_over (targets_of staged) (fresh_of staged) kept)) in
      let held : IsHeld files.geometry (now_of staged kept) (owners_of files) n v block = record {
        k = owned.0;
        owner = owned.1;
        owned = owned.2;
        file = owned.3;
        place = owned.4;
        stands = ap (slice_get (now_of staged kept)) (sym place) ∙ there;
      } in
      (block, there, (are.held n v file block stands).1 held)

  owned_if_held : (n v : ℕ) (file : File) → get set n ≡ Some file → IsSome (get file.body v) → IsSome (place_of places n v)
  owned_if_held n v file stands some =
      let block = some_there (get file.body v) some in
      let held : IsHeld files.geometry (now_of staged kept) (owners_of files) n v block.0 = (are.held n v file block.0 stands).0 block.1 in
      let place : ℕ = area_from files.geometry + held.k in
      is_some_at (place_of places n v) place ((placed_so.each n v place (is_some_at (get set n) file stands)).1 (held.k, held.owner, held.owned, held.file, held.place, refl))

  held_if_owned : (n v : ℕ) (file : File) → get set n ≡ Some file → IsSome (place_of places n v) → IsSome (get file.body v)
  held_if_owned n v file stands some =
      let place = some_there (place_of places n v) some in
      let block = body_at_place n v place.0 file stands place.1 in
      is_some_at (get file.body v) block.0 block.2

  named_in_memory : (n : ℕ) → option_map entry_for (get set n) ≡ entry_of files n
  named_in_memory zero = ap (option_map entry_for) are.none
  named_in_memory (suc e) =
      let next : e + 1 ≡ suc e = omega arith in
      subst (λ n. option_map entry_for (get set n) ≡ entry_of files n) next (are.named e ∙ sym (entry_numbered files e))

  shown : Shows files staged kept set places
  shown = record {
    whole = whole;
    parts = parts;
    knows = record {
      named = named_in_memory;
      placed = placed_so;
      held = λ n v file stands. (owned_if_held n v file stands, held_if_owned n v file stands);
    };
    stands = λ n v at file stands owns. let block = body_at_place n v at file stands owns in block.2 ∙ sym block.1;
  }

-- the table and the map blocks are read in one way
pub found_is_shown : (files : Layer) (staged : Staged) (kept : List Block) (set : FileSet) (places : Places) → FoundIsShown files staged kept set places
found_is_shown files staged kept set places layer whole parts has =
    let laid : List Block = now_of staged kept in
    let entries : has.entries ≡ files.table = one_table (block_at laid (table_at files.geometry)) has.entries files.table has.parts.table parts.table in
    let owned = subst (λ (es : List (Option TableEntry)). HasParts files.geometry laid es has.owners) entries has.parts in
    let owners : has.owners ≡ owners_of files = one_map files.geometry laid files.table has.owners (owners_of files) owned.owned parts.owned in
    let are : AreFiles files.geometry laid files.table (owners_of files) set =
    subst (λ (os : List (Option Owner)). AreFiles files.geometry laid files.table os set) owners
    (subst (λ (es : List (Option TableEntry)). AreFiles files.geometry laid es has.owners set) entries has.are_files) in
    shown files staged kept set places whole parts are (subst (λ (os : List (Option Owner)). ArePlaces files.geometry os set places) owners has.are_places)

-- There are such files

-- a file of an entry, which holds what its owners say
abbrev file_from : Geometry → List Block → List (Option Owner) → ℕ → TableEntry → File
file_from geometry laid owners n entry = record { name = entry.name; length = entry.length; body = held_of n owners (drop (area_from geometry) laid) }

entry_back : (geometry : Geometry) (laid : List Block) (owners : List (Option Owner)) (n : ℕ) (entry : Option TableEntry)
    → option_map entry_for (option_map (file_from geometry laid owners n) entry) ≡ entry
entry_back geometry laid owners n None = refl
entry_back geometry laid owners n (Some entry) = refl

module _ (geometry : Geometry) (laid : List Block) (entries : List (Option TableEntry)) (owners : List (Option Owner)) (once : IsOnce owners) where
  abbrev files_from : Files
  files_from = map_from (file_from geometry laid owners) 1 entries

  held_as_owned : (n v : ℕ) (file : File) (block : Block) → get files_from n ≡ Some file → (get file.body v ≡ Some block) ↔ IsHeld geometry laid owners n v block
  held_as_owned n v file block at =
      let behind : List Block = drop (area_from geometry) laid in
      let body : held_of n owners behind ≡ file.body = ap (λ (f : File). f.body) (found (file_from geometry laid owners) 1 entries n file at).2.2 in (
        λ is.
            let held = belongs_if_held n owners behind v block (ap (λ b. get b v) body ∙ is) in
            record {
              k = held.k;
              owner = held.owner;
              owned = held.owned;
              file = held.at.0;
              place = held.at.1;
              stands = sym (slice_get-drop (area_from geometry) laid held.k) ∙ held.stands;
            },
        λ held. sym (ap (λ b. get b v) body)
            ∙ held_if_belongs n owners behind v block once held.k held.owner held.owned (held.file, held.place) (slice_get-drop (area_from geometry) laid held.k ∙ held.stands),
      )

  are_files_from : AreFiles geometry laid entries owners files_from
  are_files_from = record {
    none = get_before (file_from geometry laid owners) 1 entries 0 (omega arith);
    named = λ e.
        let next : e + 1 ≡ 1 + e = omega arith in
        ap (λ n. option_map entry_for (get files_from n)) next ∙ ap (option_map entry_for) (get_from (file_from geometry laid owners) 1 entries e)
        ∙ entry_back geometry laid owners (1 + e) (unwrap_or (slice_get entries e) None);
    held = held_as_owned;
  }

pub shows_some : (files : Layer) (staged : Staged) (kept : List Block) → ShowsSome files staged kept
shows_some files staged kept layer whole parts =
    let laid : List Block = now_of staged kept in
    let owners : List (Option Owner) = owners_of files in
    let are : AreFiles files.geometry laid files.table owners (files_from files.geometry laid files.table owners parts.once) = are_files_from files.geometry laid files.table owners parts.once in (
      files_from files.geometry laid files.table owners parts.once,
      places_from files.geometry files.table owners,
      shown files staged kept _ _ whole parts are (placed files.geometry laid files.table owners _ parts.once are),
    )
