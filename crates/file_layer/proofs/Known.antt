-- What files in memory say of the files that they are: which blocks are held, how many, and how many are free.
use Rattle.std.proofs.Common.{inl, inr, ◌≡◌, ◌↔◌, ℕ, ◌+◌, ◌-◌, ◌<◌, Bool, true, false, [], Option, Some, None, option_map, slice_get, refl, sym, ap, ◌∙◌, subst, arith}
use Rattle.std.specs.Prelude.{IsSome, is_some, nat_lt, not, unwrap_or}
use Rattle.std.specs.FinMap.{empty, entries, entries_sorted, get, get-empty, get-entries, len}
use Rattle.std.specs.List.{filter, range_with_len, sum_by}
use Rattle.std.specs.Ordering.{nat_cmp}
use Rattle.std.specs.Option.{MatchOption, option_and_then}
use Rattle.std.proofs.lemmas.Bool.{cases_Bool, false≢true}
use Rattle.std.proofs.lemmas.Option.{none-some, slice_get-map}
use Rattle.nesc_base.specs.declared.block.Block.{Block}
use Rattle.nesc_base.specs.Geometry.{area_from}
use Rattle.image_layout.proofs.OpenedFiles.{some_there}
use Rattle.nesc_base.specs.Files.{File, file_at}
use Rattle.nesc_base.specs.Places.{HeldAt, Owner, Owns, Places, place_of}
use Rattle.block_map.specs.Map.{IsUnheld, StandsAt, count_free, count_held}
use Rattle.file_model.specs.Files.{free, held_in, holds, unheld, unheld_below}
use Rattle.image_layout.specs.declared.table.TableEntry.{TableEntry}
use Rattle.image_layout.specs.Opens.{lengths_of}
use Rattle.image_layout.specs.Owners.{MayOwn}
use Rattle.file_layer.proofs.Padded.{stands_in_front, stands_with_more}
use Rattle.file_layer.specs.Knowing.{FileSet, Knows}
use Rattle.file_layer.specs.Layer.{IsLayer, Layer, entry_of, is_held, lacking, lacking_below}
use Rattle.file_layer.proofs.NamedFiles.{entry_at_number, file_of_entry, mapped}
use Rattle.file_layer.proofs.OwnedBlocks.{is_owned_if_there, len-owned, owned-and-free, owned_there, sums_alike}

-- the file of no blocks that stands for one that there is not
abbrev pub no_file : File
no_file = record { name = []; length = 0; body = empty }

-- a place in a map is one of a map that there is
owns_some : (held : Option HeldAt) (v at : ℕ) → option_and_then (λ (h : HeldAt). get h v) held ≡ Some at → is_some held ≡ true
owns_some None v at owns = absurd (none-some at owns)
owns_some (Some held) v at owns = refl

-- Owners

-- an owner is a file that has the block
pub owner_used : (files : Layer) → IsLayer files → (k : ℕ) (owner : Owner) → slice_get files.map.owners k ≡ Some (Some owner)
    → (entry : TableEntry) × (entry_of files owner.0.0 ≡ Some entry) × (owner.1 < entry.length)
owner_used files layer k owner at =
    let may : MayOwn (lengths_of files.table) files.geometry.blocks k owner = layer.may k owner at in
    let length_of : TableEntry → ℕ = λ entry. entry.length in
    let item = mapped (option_map length_of) (slice_get files.table (owner.0.0 - 1)) (Some may.length)
    (sym (slice_get-map (option_map length_of) files.table (owner.0.0 - 1)) ∙ may.used) in
    let entry = mapped length_of item.0 may.length item.2 in
    (entry.0, entry_at_number files owner.0.0 entry.0 may.numbered (item.1 ∙ ap Some entry.1), subst (λ l. owner.1 < l) (sym entry.2) may.below)

-- an option that has no value is nothing
nowhere : {X : Type 0} (o : Option X) → ((x : X) → ¬ (o ≡ Some x)) → o ≡ None
nowhere None no_value = refl
nowhere (Some x) no_value = absurd (no_value x refl)

same_tests : (a b : Bool) → (a ≡ true → b ≡ true) → (b ≡ true → a ≡ true) → a ≡ b
same_tests true b there back = sym (there refl)
same_tests false true there back = back refl
same_tests false false there back = refl

-- a block that is held stands somewhere
pub stands_if_held : (files : Layer) (n v : ℕ) → is_held files n v ≡ true → (at : ℕ) × StandsAt files.map n v at
stands_if_held files n v held =
    let there = owned_there n v files.map.owners held in
    (files.map.from + there.0, (there.0, there.1, there.2, there.3.0, there.3.1, refl))

pub held_if_stands : (files : Layer) (n v at : ℕ) → StandsAt files.map n v at → is_held files n v ≡ true
held_if_stands files n v at stands = is_owned_if_there n v files.map.owners stands.0 stands.1 stands.2 (stands.3, stands.4)

-- so a block that is found is held, and one that is not is not
pub held_by_place : (files : Layer) (n v : ℕ) (found : Option ℕ) → MatchOption found (IsUnheld files.map n v) (StandsAt files.map n v) → is_held files n v ≡ is_some found
held_by_place files n v None nowhere_held = elim (cases_Bool (is_held files n v)) [
  | inl held ↦ let stands = stands_if_held files n v held in absurd (nowhere_held stands.0 stands.1)
  | inr not_held ↦ not_held
]
held_by_place files n v (Some at) stands = held_if_stands files n v at stands

module _ (files : Layer) (set : FileSet) (places : Places) (layer : IsLayer files) (knows : Knows files set places) where
  -- a block that stands at a place is one of a file
  pub file_stands : (n v at : ℕ) → StandsAt files.map n v at → IsSome (get set n)
  file_stands n v at stands =
      let used = owner_used files layer stands.0 stands.1 stands.2 in
      let file = file_of_entry files set places knows stands.1.0.0 used.0 used.1 in
      subst (λ m. IsSome (get set m)) stands.3 (ap is_some file.1)

  pub owns_where_stands : (n v at : ℕ) → Owns places n v at ↔ StandsAt files.map n v at
  owns_where_stands n v at = (
    λ owns.
        let some : IsSome (get set n) = sym (knows.placed.filed n) ∙ owns_some (get places n) v at owns in
        let owned = (knows.placed.each n v at some).0 owns in
        let from = layer.from in
        let place : at ≡ files.map.from + owned.0 = omega (arith, owned.5) in
        (owned.0, owned.1, stands_in_front files.map.owners _ owned.0 owned.1 owned.2, owned.3, owned.4, place),
    λ stands.
        let from = layer.from in
        let place : at ≡ area_from files.geometry + stands.0 = omega (arith, stands.5) in
        (knows.placed.each n v at (file_stands n v at stands)).1
        (stands.0, stands.1, stands_with_more files.map.owners _ stands.0 (Some stands.1) stands.2, stands.3, stands.4, place),
  )

  -- what is held of a file that there is, and of one that there is not
  held_of_file : (n v : ℕ) (o : Option File) → get set n ≡ o → holds (unwrap_or o no_file) v ≡ is_held files n v
  held_of_file n v None none = same_tests _ _
      (λ held. absurd (false≢true (sym (ap is_some (get-empty {X = Block} nat_cmp v)) ∙ held)))
      (λ held. let stands = stands_if_held files n v held in absurd (false≢true (sym (ap is_some none) ∙ file_stands n v stands.0 stands.1)))
  held_of_file n v (Some file) there = same_tests _ _
      (λ held.
      let at = some_there (place_of places n v) ((knows.held n v file there).0 held) in
      held_if_stands files n v at.0 ((owns_where_stands n v at.0).0 at.1))
      (λ held.
      let stands = stands_if_held files n v held in
      (knows.held n v file there).1 (ap is_some ((owns_where_stands n v stands.0).1 stands.1)))

  pub held_alike : (n v : ℕ) → holds (file_at set n) v ≡ is_held files n v
  held_alike n v = held_of_file n v (get set n) refl

  pub unheld_alike : (n v count : ℕ) → unheld (file_at set n) v count ≡ lacking files n v count
  unheld_alike n v count i = filter (λ at. not (held_alike n at i)) (range_with_len v count)

  pub unheld_below_alike : (n v count : ℕ) (entry : TableEntry) → entry_of files n ≡ Some entry → unheld_below (file_at set n) v count ≡ lacking_below files n entry.length v count
  unheld_below_alike n v count entry used =
      let file = file_of_entry files set places knows n entry used in
      let length_at : (file_at set n).length ≡ entry.length = ap (λ o. (unwrap_or o no_file).length) file.1 ∙ ap (λ (e : TableEntry). e.length) file.2 in
      ap (λ l. filter (λ at. nat_lt at l) (unheld (file_at set n) v count)) length_at ∙ ap (filter (λ at. nat_lt at entry.length)) (unheld_alike n v count)

  pub held_count_alike : (n : ℕ) → len (file_at set n).body ≡ count_held n files.map.owners
  held_count_alike n = len-owned n files.map.owners (file_at set n).body layer.once (held_alike n)

  -- the files hold as many blocks as have an owner
  held_in_alike : held_in set ≡ sum_by (λ e. count_held e.0 files.map.owners) (entries set)
  held_in_alike = sums_alike (λ (file : File). len file.body) (λ n. count_held n files.map.owners) (entries set) (entries_sorted set)
      (λ n file found. ap (λ o. len (unwrap_or o no_file).body) (sym (get-entries set n ∙ found)) ∙ held_count_alike n)

  pub free_alike : free files.geometry.blocks set ≡ count_free files.map.owners
  free_alike =
      let all = owned-and-free (entries set) files.map.owners (entries_sorted set) (λ k owner at.
      subst IsSome (get-entries set owner.0.0) (file_stands owner.0.0 owner.1 (files.map.from + k) (k, owner, at, refl, refl, refl))) in
      omega (arith, held_in_alike, layer.count, all)

  -- a block stands at the place that is found, or is not held
  pub place_alike : (n v : ℕ) (found : Option ℕ) → MatchOption found (IsUnheld files.map n v) (StandsAt files.map n v) → found ≡ place_of places n v
  place_alike n v None nowhere_held = sym (nowhere (place_of places n v) (λ at owns. nowhere_held at ((owns_where_stands n v at).0 owns)))
  place_alike n v (Some at) stands = sym ((owns_where_stands n v at).1 stands)
