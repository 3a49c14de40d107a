-- Whatever is in memory, there are files that it is.
use Rattle.std.proofs.Common.{◌≡◌, ◌↔◌, ℕ, zero, suc, ◌+◌, ◌-◌, List, Option, None, Some, IsSome, map, option_map, slice_get, refl, sym, ap, ◌∙◌, subst, arith}
use Rattle.std.specs.Prelude.{is_some, unwrap_or}
use Rattle.std.specs.FinMap.{get}
use Rattle.std.specs.Option.{option_and_then}
use Rattle.std.proofs.lemmas.Option.{same_Some, slice_get-map}
use Rattle.nesc_base.specs.declared.block.Block.{Block}
use Rattle.nesc_base.specs.Block.{zero_block}
use Rattle.nesc_base.specs.Files.{File}
use Rattle.nesc_base.specs.Numbered.{map_from}
use Rattle.nesc_base.specs.Places.{HeldAt, Owner, Owns, Places, place_of}
use Rattle.nesc_base.proofs.Numbered.{found, get_before, get_from}
use Rattle.block_map.specs.Map.{StandsAt}
use Rattle.image_layout.specs.declared.table.TableEntry.{TableEntry}
use Rattle.image_layout.proofs.Bodies.{IsOnce, belongs_if_held, held_if_belongs, held_of, numbered, slice_get-numbered}
use Rattle.image_layout.proofs.OpenedFiles.{some_there}
use Rattle.file_layer.specs.Knowing.{FileSet, Knows, entry_for}
use Rattle.file_layer.specs.Layer.{IsLayer, Layer, entry_of}
use Rattle.file_layer.proofs.Entries.{entry_at}
use Rattle.file_layer.proofs.OwnersStanding.{placed_as_stands}

some_of : {X : Type 0} (o : Option X) (x : X) → o ≡ Some x → IsSome o
some_of o x is = subst IsSome (sym is) refl

there_alike : {X Y : Type 0} (f : X → Y) (o : Option X) → is_some (option_map f o) ≡ is_some o
there_alike f None = refl
there_alike f (Some x) = refl

module _ (files : Layer) (layer : IsLayer files) where
  abbrev owners : List (Option Owner)
  owners = files.map.owners

  -- each file holds zeros
  abbrev zeros : List Block
  zeros = map (λ (owner : Option Owner). zero_block) owners

  abbrev file_from : ℕ → TableEntry → File
  file_from n entry = record { name = entry.name; length = entry.length; body = held_of n owners zeros }

  abbrev held_from : ℕ → TableEntry → HeldAt
  held_from n entry = held_of n owners (numbered files.map.from owners)

  abbrev set : FileSet
  set = map_from file_from 1 files.table

  abbrev places : Places
  places = map_from held_from 1 files.table

  once : IsOnce owners
  once k owner repeats =
      let before = repeats.1.1 in
      let same : repeats.1.0 ≡ k = layer.once repeats.1.0 k owner repeats.1.2 repeats.0 in
      absurd (omega (arith, before, same))

  entry_back : (n : ℕ) (entry : Option TableEntry) → option_map entry_for (option_map (file_from n) entry) ≡ entry
  entry_back n None = refl
  entry_back n (Some entry) = refl

  named : (n : ℕ) → option_map entry_for (get set n) ≡ entry_of files n
  named zero = ap (option_map entry_for) (get_before file_from 1 files.table 0 (omega arith))
  named (suc e) =
      let next : suc e ≡ 1 + e = omega arith in
      let back : e ≡ suc e - 1 = omega arith in
      ap (λ n. option_map entry_for (get set n)) next ∙ ap (option_map entry_for) (get_from file_from 1 files.table e)
      ∙ entry_back (1 + e) (unwrap_or (slice_get files.table e) None) ∙ ap (λ k. unwrap_or (slice_get files.table k) None) back
      ∙ sym (entry_at files (suc e) (omega arith))

  filed : (n : ℕ) → is_some (get places n) ≡ is_some (get set n)
  filed zero = ap is_some (get_before held_from 1 files.table 0 (omega arith)) ∙ sym (ap is_some (get_before file_from 1 files.table 0 (omega arith)))
  filed (suc e) =
      let next : suc e ≡ 1 + e = omega arith in
      let entry : Option TableEntry = unwrap_or (slice_get files.table e) None in
      ap (λ n. is_some (get places n)) next ∙ ap is_some (get_from held_from 1 files.table e) ∙ there_alike (held_from (1 + e)) entry
      ∙ sym (ap (λ n. is_some (get set n)) next ∙ ap is_some (get_from file_from 1 files.table e) ∙ there_alike (file_from (1 + e)) entry)

  place_there : (n v : ℕ) → IsSome (get set n) → place_of places n v ≡ get (held_of n owners (numbered files.map.from owners)) v
  place_there n v some =
      let there = some_there (get places n) (filed n ∙ some) in
      let these : held_of n owners (numbered files.map.from owners) ≡ there.0 = (found held_from 1 files.table n there.0 there.1).2.2 in
      ap (option_and_then (λ (held : HeldAt). get held v)) there.1 ∙ sym (ap (λ (held : HeldAt). get held v) these)

  owns_as_stands : (n v at : ℕ) → IsSome (get set n) → Owns places n v at ↔ StandsAt files.map n v at
  owns_as_stands n v at some = (
    λ owns.
        let held = belongs_if_held n owners (numbered files.map.from owners) v at (sym (place_there n v some) ∙ owns) in
        let place : at ≡ files.map.from + held.k =
        same_Some at (files.map.from + held.k) (sym held.stands ∙ slice_get-numbered files.map.from owners held.k (Some held.owner) held.owned) in
        (held.k, held.owner, held.owned, held.at.0, held.at.1, place),
    λ stands. place_there n v some
        ∙ held_if_belongs n owners (numbered files.map.from owners) v at once stands.0 stands.1 stands.2 (stands.3, stands.4)
        (slice_get-numbered files.map.from owners stands.0 (Some stands.1) stands.2 ∙ ap Some (sym stands.5)),
  )

  held_as_placed : (n v : ℕ) (file : File) → get set n ≡ Some file → IsSome (get file.body v) ↔ IsSome (place_of places n v)
  held_as_placed n v file there =
      let some : IsSome (get set n) = some_of (get set n) file there in
      let body : held_of n owners zeros ≡ file.body = ap (λ (f : File). f.body) (found file_from 1 files.table n file there).2.2 in (
        λ is.
            let block = some_there (get file.body v) is in
            let held = belongs_if_held n owners zeros v block.0 (ap (λ b. get b v) body ∙ block.1) in
            some_of (place_of places n v) (files.map.from + held.k)
            ((owns_as_stands n v (files.map.from + held.k) some).1 (held.k, held.owner, held.owned, held.at.0, held.at.1, refl)),
        λ is.
            let at = some_there (place_of places n v) is in
            let stands = (owns_as_stands n v at.0 some).0 at.1 in
            some_of (get file.body v) zero_block
            (sym (ap (λ b. get b v) body)
            ∙ held_if_belongs n owners zeros v zero_block once stands.0 stands.1 stands.2 (stands.3, stands.4)
            (slice_get-map (λ (owner : Option Owner). zero_block) owners stands.0 ∙ ap (option_map (λ (owner : Option Owner). zero_block)) stands.2)),
      )

  pub some_known : (set : FileSet) × (places : Places) × Knows files set places
  some_known = (
    set,
    places,
    record {
      named = named;
      placed = placed_as_stands files set places layer.from filed owns_as_stands;
      held = held_as_placed;
    },
  )
