-- What an image says opens as files, whose blocks stand at places.
use Rattle.std.proofs.Common.{◌≡◌, ℕ, zero, suc, ◌+◌, List, Option, Some, None, IsSome, drop, option_map, slice_get, refl, sym, ap, ◌∙◌, arith, subst}
use Rattle.std.specs.Prelude.{is_some, unwrap_or}
use Rattle.std.specs.Option.{option_and_then}
use Rattle.std.specs.FinMap.{get}
use Rattle.std.proofs.lemmas.Bool.{false≢true}
use Rattle.std.proofs.lemmas.Option.{same_Some}
use Rattle.nesc_base.specs.declared.block.Block.{Block}
use Rattle.nesc_base.specs.declared.geometry.Geometry.{Geometry}
use Rattle.nesc_base.specs.Files.{File, Files}
use Rattle.nesc_base.specs.Geometry.{area_from}
use Rattle.nesc_base.specs.Places.{HeldAt, Owner, Places, place_of}
use Rattle.image_layout.specs.declared.table.TableEntry.{TableEntry}
use Rattle.image_layout.specs.Laws.{OpensAsSaid}
use Rattle.image_layout.specs.Opens.{AreFiles, ArePlaces}
use Rattle.image_layout.proofs.Bodies.{IsOnce, belongs_if_held, held_if_belongs, held_of, numbered, slice_get-numbered}
use Rattle.nesc_base.specs.Numbered.{map_from}
use Rattle.nesc_base.proofs.Numbered.{found, get_before, get_from}
use Rattle.image_layout.proofs.OneFiles.{one_files}
use Rattle.image_layout.proofs.OneMap.{slice_get-drop}

-- an option that is some has a value
pub some_there : {X : Type 0} (o : Option X) → IsSome o → (x : X) × (o ≡ Some x)
some_there None some = absurd (false≢true some)
some_there (Some x) some = (x, refl)

-- the file of an entry and the places of its blocks, and those of all
abbrev file_from : Geometry → List Block → List (Option Owner) → ℕ → TableEntry → File
file_from geometry laid owners n entry = record { name = entry.name; length = entry.length; body = held_of n owners (drop (area_from geometry) laid) }

abbrev files_from : Geometry → List Block → List (Option TableEntry) → List (Option Owner) → Files
files_from geometry laid entries owners = map_from (file_from geometry laid owners) 1 entries

abbrev pub place_from : Geometry → List (Option Owner) → ℕ → TableEntry → HeldAt
place_from geometry owners n entry = held_of n owners (numbered (area_from geometry) owners)

abbrev pub places_from : Geometry → List (Option TableEntry) → List (Option Owner) → Places
places_from geometry entries owners = map_from (place_from geometry owners) 1 entries

-- an entry is that of its file
named_back : (geometry : Geometry) (laid : List Block) (owners : List (Option Owner)) (n : ℕ) (entry : Option TableEntry)
    → option_map (λ file. record { name = file.name; length = file.length }) (option_map (file_from geometry laid owners n) entry) ≡ entry
named_back geometry laid owners n None = refl
named_back geometry laid owners n (Some entry) = refl

-- what is made of an item is there if the item is
is_some-option_map : {X Y : Type 0} (f : X → Y) (o : Option X) → is_some (option_map f o) ≡ is_some o
is_some-option_map f None = refl
is_some-option_map f (Some x) = refl

module _ (geometry : Geometry) (laid : List Block) (entries : List (Option TableEntry)) (owners : List (Option Owner)) where
  -- they are the files of the entries, and hold what the owners say
  are_files : IsOnce owners → AreFiles geometry laid entries owners (files_from geometry laid entries owners)
  are_files once = record {
    none = get_before (file_from geometry laid owners) 1 entries 0 (omega arith);
    named = λ e.
        let next : e + 1 ≡ 1 + e = omega arith in
        ap (λ n. option_map (λ (file : File). record { name = file.name; length = file.length }) (get (files_from geometry laid entries owners) n)) next
        ∙ ap (option_map (λ (file : File). record { name = file.name; length = file.length })) (get_from (file_from geometry laid owners) 1 entries e)
        ∙ named_back geometry laid owners (1 + e) (unwrap_or (slice_get entries e) None);
    held = λ n v file block at.
        let body : held_of n owners (drop (area_from geometry) laid) ≡ file.body = ap (λ (f : File). f.body) (found (file_from geometry laid owners) 1 entries n file at).2.2 in (
          λ is.
              let held = belongs_if_held n owners (drop (area_from geometry) laid) v block (ap (λ b. get b v) body ∙ is) in
              record {
                k = held.k;
                owner = held.owner;
                owned = held.owned;
                file = held.at.0;
                place = held.at.1;
                stands = sym (slice_get-drop (area_from geometry) laid held.k) ∙ held.stands;
              },
          λ held. sym (ap (λ b. get b v) body)
              ∙ held_if_belongs n owners (drop (area_from geometry) laid) v block once held.k held.owner held.owned (held.file, held.place)
              (slice_get-drop (area_from geometry) laid held.k ∙ held.stands),
        );
  }

  -- there are places where there is a file
  filed_behind : (e : ℕ) → is_some (get (places_from geometry entries owners) (1 + e)) ≡ is_some (get (files_from geometry laid entries owners) (1 + e))
  filed_behind e =
      let entry : Option TableEntry = unwrap_or (slice_get entries e) None in
      ap is_some (get_from (place_from geometry owners) 1 entries e) ∙ is_some-option_map (place_from geometry owners (1 + e)) entry
      ∙ sym (ap is_some (get_from (file_from geometry laid owners) 1 entries e) ∙ is_some-option_map (file_from geometry laid owners (1 + e)) entry)

  filed : (n : ℕ) → is_some (get (places_from geometry entries owners) n) ≡ is_some (get (files_from geometry laid entries owners) n)
  filed zero =
      ap is_some (get_before (place_from geometry owners) 1 entries 0 (omega arith))
      ∙ sym (ap is_some (get_before (file_from geometry laid owners) 1 entries 0 (omega arith)))
  filed (suc e) =
      let next : 1 + e ≡ suc e = omega arith in
      subst (λ n. is_some (get (places_from geometry entries owners) n) ≡ is_some (get (files_from geometry laid entries owners) n)) next (filed_behind e)

  -- and they are those of the owners
  are_places : IsOnce owners → ArePlaces geometry owners (files_from geometry laid entries owners) (places_from geometry entries owners)
  are_places once = record {
    filed = filed;
    each = λ n v at some.
        let there = some_there (get (places_from geometry entries owners) n) (filed n ∙ some) in
        let these : held_of n owners (numbered (area_from geometry) owners) ≡ there.0 = (found (place_from geometry owners) 1 entries n there.0 there.1).2.2 in
        let same : place_of (places_from geometry entries owners) n v ≡ get (held_of n owners (numbered (area_from geometry) owners)) v =
        ap (option_and_then (λ (held : HeldAt). get held v)) there.1 ∙ sym (ap (λ (held : HeldAt). get held v) these) in (
          λ owns.
              let held = belongs_if_held n owners (numbered (area_from geometry) owners) v at (sym same ∙ owns) in
              let place : at ≡ area_from geometry + held.k =
              same_Some at (area_from geometry + held.k) (sym held.stands ∙ slice_get-numbered (area_from geometry) owners held.k (Some held.owner) held.owned) in
              (held.k, held.owner, held.owned, held.at.0, held.at.1, place),
          λ owned. same
              ∙ held_if_belongs n owners (numbered (area_from geometry) owners) v at once owned.0 owned.1 owned.2 (owned.3, owned.4)
              (slice_get-numbered (area_from geometry) owners owned.0 (Some owned.1) owned.2 ∙ ap (λ m. Some m) (sym owned.5)),
        );
  }

-- so are they of whatever files hold what the owners say
pub placed : (geometry : Geometry) (laid : List Block) (entries : List (Option TableEntry)) (owners : List (Option Owner)) (files : Files) → IsOnce owners → AreFiles geometry laid entries owners files
    → ArePlaces geometry owners files (places_from geometry entries owners)
placed geometry laid entries owners files once are =
    let same : files_from geometry laid entries owners ≡ files = one_files geometry laid entries owners (files_from geometry laid entries owners) files (are_files geometry laid entries owners once) are in
    subst (λ (f : Files). ArePlaces geometry owners f (places_from geometry entries owners)) same (are_places geometry laid entries owners once)

-- so the image opens as them
pub opens_as_said : (image : List Block) → OpensAsSaid image
opens_as_said image geometry laid entries owners says = (
  files_from geometry laid entries owners,
  places_from geometry entries owners,
  record {
    laid = laid;
    divided = says.divided;
    lays = says.lays;
    has = record {
      entries = entries;
      owners = owners;
      parts = says.parts;
      are_files = are_files geometry laid entries owners says.parts.once;
      are_places = are_places geometry laid entries owners says.parts.once;
    };
  },
)
