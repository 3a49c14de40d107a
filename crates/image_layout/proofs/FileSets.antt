-- The files as which an image opens are as files may be, and their blocks stand apart.
use Rattle.std.proofs.Common.{◌≡◌, ℕ, zero, suc, true, ◌+◌, ◌-◌, ◌<◌, List, Option, Some, None, option_map, slice_get, refl, sym, ap, ◌∙◌, arith, subst}
use Rattle.std.specs.Prelude.{IsSome, is_some, unwrap_or}
use Rattle.std.specs.FinMap.{get}
use Rattle.std.specs.Option.{option_and_then}
use Rattle.std.proofs.lemmas.Option.{none-some, same_Some, slice_get-map, slice_get_within}
use Rattle.nesc_base.specs.declared.block.Block.{Block}
use Rattle.nesc_base.specs.declared.geometry.Geometry.{Geometry}
use Rattle.nesc_base.specs.Files.{File, Files, IsFile, IsFileSet}
use Rattle.nesc_base.specs.Geometry.{area_from, table_at}
use Rattle.nesc_base.specs.Places.{AreApart, HeldAt, IsOwned, Owner, Owns, Places}
use Rattle.image_layout.specs.declared.table.TableEntry.{TableEntry}
use Rattle.image_layout.specs.Laws.{OpensAsFileSet}
use Rattle.image_layout.specs.Opens.{AreFiles, ArePlaces, HasFiles, HasParts, IsHeld, lengths_of}
use Rattle.image_layout.specs.Table.{Fits}
use Rattle.slot_layout.specs.Slots.{block_at}
use Rattle.image_layout.proofs.MapOwners.{may_own}
use Rattle.image_layout.proofs.OneFiles.{named_of}
use Rattle.image_layout.proofs.OpenedFiles.{some_there}
use Rattle.image_layout.proofs.TableLemmas.{entry_at}

-- an item that is not nothing stands there
unwrapped : {X : Type 0} (o : Option (Option X)) (x : X) → Some x ≡ unwrap_or o None → o ≡ Some (Some x)
unwrapped None x is = absurd (none-some x (sym is))
unwrapped (Some y) x is = ap (λ z. Some z) (sym is)

module _ (geometry : Geometry) (laid : List Block) (entries : List (Option TableEntry)) (owners : List (Option Owner)) (files : Files)
    (parts : HasParts geometry laid entries owners) (are : AreFiles geometry laid entries owners files) where
  -- each file is that of an entry
  entry_of : (n : ℕ) (file : File) → get files n ≡ Some file → (e : ℕ) × (n ≡ e + 1) × (slice_get entries e ≡ Some (Some (named_of file)))
  entry_of zero file at = absurd (none-some file (sym are.none ∙ at))
  entry_of (suc e) file at =
      let next : suc e ≡ e + 1 = omega arith in
      let here : get files (e + 1) ≡ Some file = sym (ap (get files) next) ∙ at in
      (e, next, unwrapped (slice_get entries e) (named_of file) (sym (ap (option_map named_of) here) ∙ are.named e))

  -- of one of the first 32
  entry_below : (e : ℕ) (entry : Option TableEntry) → slice_get entries e ≡ Some entry → e < 32
  entry_below e entry at = let count = parts.table.good.count in omega (arith, slice_get_within entries e entry at)

  -- which says what it may
  entry_fits : (e : ℕ) (entry : Option TableEntry) → slice_get entries e ≡ Some entry → Fits entry
  entry_fits e entry at =
      let there = entry_at (block_at laid (table_at geometry)) entries parts.table e (entry_below e entry at) in
      subst Fits (same_Some there.0 entry (sym there.1 ∙ at)) there.2

  -- a block that it holds is below its length
  held_below : (n v : ℕ) (file : File) → get files n ≡ Some file → IsSome (get file.body v) → v < file.length
  held_below n v file at some =
      let block = some_there (get file.body v) some in
      let held : IsHeld geometry laid owners n v block.0 = (are.held n v file block.0 at).0 block.1 in
      let entry = entry_of n file at in
      let may = may_own geometry laid entries owners parts.owned held.k held.owner held.owned in
      let number : held.owner.0.0 - 1 ≡ entry.0 = omega (arith, held.file, entry.1) in
      let used : Some (Some may.length) ≡ Some (Some file.length) =
      sym may.used ∙ ap (slice_get (lengths_of entries)) number ∙ slice_get-map (option_map (λ (e : TableEntry). e.length)) entries entry.0
      ∙ ap (option_map (option_map (λ (e : TableEntry). e.length))) entry.2 in
      let same : may.length ≡ file.length = same_Some may.length file.length (same_Some (Some may.length) (Some file.length) used) in
      omega (arith, may.below, held.place)

  is_file : (n : ℕ) (file : File) → get files n ≡ Some file → IsFile file
  is_file n file at =
      let entry = entry_of n file at in
      let fits : Fits (Some (named_of file)) = entry_fits entry.0 (Some (named_of file)) entry.2 in
      record { named = fits.0; short = fits.1; within = λ v some. held_below n v file at some }

  -- so they are as files may be
  file_set : IsFileSet files
  file_set = record {
    numbers = λ n some.
        let file = some_there (get files n) some in
        let entry = entry_of n file.0 file.1 in
        let below = entry_below entry.0 (Some (named_of file.0)) entry.2 in
        let number = entry.1 in
        (omega arith, omega arith);
    each = is_file;
    apart = λ m n one other at at' same.
        let first = entry_of m one at in
        let second = entry_of n other at' in
        let entry : first.0 ≡ second.0 = parts.table.good.apart first.0 second.0 (named_of one) (named_of other) first.2 second.2 same in
        omega (arith, first.1, second.1);
  }

-- where a block owns a place there are places for its file
owns_some : (held : Option HeldAt) (v at : ℕ) → option_and_then (λ (h : HeldAt). get h v) held ≡ Some at → is_some held ≡ true
owns_some None v at owns = absurd (none-some at owns)
owns_some (Some held) v at owns = refl

module _ (geometry : Geometry) (owners : List (Option Owner)) (files : Files) (places : Places) (are : ArePlaces geometry owners files places) where
  -- a place that is owned has an owner
  owned_if_owns : (n v at : ℕ) → Owns places n v at → IsOwned (area_from geometry) owners n v at
  owned_if_owns n v at owns =
      let filed : IsSome (get files n) = sym (are.filed n) ∙ owns_some (get places n) v at owns in
      (are.each n v at filed).0 owns

  -- and one alone
  are_apart : AreApart places
  are_apart m v n w at one_owns other_owns =
      let one = owned_if_owns m v at one_owns in
      let other = owned_if_owns n w at other_owns in
      let place : one.0 ≡ other.0 = omega (arith, one.5, other.5) in
      let same : one.1 ≡ other.1 = same_Some one.1 other.1 (same_Some (Some one.1) (Some other.1) (sym one.2 ∙ ap (slice_get owners) place ∙ other.2)) in
      (sym one.3 ∙ ap (λ (o : Owner). o.0.0) same ∙ other.3, sym one.4 ∙ ap (λ (o : Owner). o.1) same ∙ other.4)

pub opens_as_file_set : (image : List Block) → OpensAsFileSet image
opens_as_file_set image geometry files places opens =
    let has : HasFiles geometry opens.laid files places = opens.has in (
      file_set geometry opens.laid has.entries has.owners files has.parts has.are_files,
      are_apart geometry has.owners files places has.are_places,
    )
