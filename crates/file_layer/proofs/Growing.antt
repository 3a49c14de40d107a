-- The files in memory with one more owner: they are a layer again, with one free data block less.
use Rattle.std.proofs.Common.{◌≡◌, ◌≢◌, ◌⊎◌, inl, inr, ℕ, zero, suc, ◌+◌, ◌-◌, ◌/◌, ◌<◌, ◌≤◌, Bool, true, false, cond, List, [], ◌∷◌, get_or, length, replicate, map, Option, Some, None, option_map, refl, sym, ap, ◌∙◌, subst, arith}
use Rattle.std.specs.Prelude.{IsSome, is_none, slice_get, slice_set, unwrap_or}
use Rattle.std.specs.List.{AllByRecursion}
use Rattle.std.proofs.lemmas.Bool.{cases_eq, false≢true, ne_eqb}
use Rattle.std.proofs.lemmas.List.{length-replicate, length-set}
use Rattle.std.proofs.lemmas.List.Sums.{sum_by-cons, sum_by-set}
use Rattle.std.proofs.lemmas.Option.{get_or_from_slice_get, none-some, same_Some, slice_get-map, slice_get_within}
use Rattle.nesc_base.specs.declared.numbers.FileNo.{FileNo}
use Rattle.nesc_base.specs.Files.{longest_file}
use Rattle.nesc_base.specs.Geometry.{area_from, block_owners}
use Rattle.nesc_base.specs.Places.{Owner}
use Rattle.nesc_base.proofs.Differing.{slice_get-set_other, slice_get-set_same}
use Rattle.block_map.specs.Map.{BlockMap, IsFreeAt, IsFull, IsUnheld, count_free, with_owner}
use Rattle.image_layout.specs.declared.table.TableEntry.{TableEntry}
use Rattle.image_layout.specs.Opens.{lengths_of}
use Rattle.image_layout.specs.Owners.{MayOwn}
use Rattle.image_layout.specs.Table.{Fits}
use Rattle.file_layer.specs.Changing.{ChangesOwner}
use Rattle.file_layer.specs.Filling.{Grows, IsGiven}
use Rattle.file_layer.specs.Layer.{IsLayer, IsUsed, Layer, entry_of}
use Rattle.file_layer.specs.Staging.{IsMarked, marking}

-- Entries of the table

all_at : {X : Type 0} (P : X → Type 0) (xs : List X) (k : ℕ) (x : X) → AllByRecursion P xs → slice_get xs k ≡ Some x → P x
all_at P [] k x all is = absurd (none-some x is)
all_at P (y ∷ ys) zero x all is = subst P (same_Some y x is) all.0
all_at P (y ∷ ys) (suc k) x all is = all_at P ys k x all.1 is

some_inside : {X : Type 0} (o : Option (Option X)) (x : X) → unwrap_or o None ≡ Some x → o ≡ Some (Some x)
some_inside None x is = absurd (none-some x is)
some_inside (Some o) x is = ap Some is

-- a number that is used has its entry in the table
pub entry_stands : (files : Layer) (n : ℕ) (entry : TableEntry) → entry_of files n ≡ Some entry → (n ≢ 0) × (slice_get files.table (n - 1) ≡ Some (Some entry))
entry_stands files zero entry is = absurd (none-some entry is)
entry_stands files (suc n) entry is =
    let there : Option TableEntry = unwrap_or (slice_get files.table (suc n - 1)) None in (
      λ same. omega arith,
      some_inside (slice_get files.table (suc n - 1)) entry (sym (ap {A = Bool} (λ b. cond b None there) (ne_eqb (suc n) 0 (λ same. omega arith))) ∙ is),
    )

-- and is not too long
pub entry_short : (files : Layer) (n : ℕ) (entry : TableEntry) → IsLayer files → entry_of files n ≡ Some entry → entry.length ≤ longest_file
entry_short files n entry layer used =
    (all_at Fits files.table (n - 1) (Some entry) layer.entries.fit (entry_stands files n entry used).1).1

-- Counts of what is free

abbrev one_if : Bool → ℕ
one_if b = cond b 1 0

pub count_free-given : (owners : List (Option Owner)) (k : ℕ) (owner : Owner) → slice_get owners k ≡ Some None → count_free (slice_set owners k (Some owner)) + 1 ≡ count_free owners
count_free-given owners k owner free =
    let changed = sum_by-set (λ (o : Option Owner). one_if (is_none o)) owners k (Some owner) None (slice_get_within owners k None free) in
    let there : one_if (is_none (get_or owners k None)) ≡ 1 = ap (λ (o : Option Owner). one_if (is_none o)) (get_or_from_slice_get owners k None None free) in
    omega (arith, changed, there)

pub count_none : (owners : List (Option Owner)) → ((k : ℕ) → ¬ (slice_get owners k ≡ Some None)) → count_free owners ≡ 0
count_none [] none = refl
count_none (None ∷ owners) none = absurd (none zero refl)
count_none (Some owner ∷ owners) none =
    omega (arith, sum_by-cons (λ (o : Option Owner). one_if (is_none o)) (Some owner) owners, count_none owners (λ k. none (suc k)))

-- where no data block is free, none is counted
pub full_counts : (files : Layer) → IsFull files.map → count_free files.map.owners ≡ 0
full_counts files full = count_none files.map.owners (λ k is.
    let there : files.map.from + k - files.map.from ≡ k = omega arith in
    let within : k < length files.map.owners = slice_get_within files.map.owners k None is in
    full (files.map.from + k) (record {
      place = (omega arith, omega arith);
      free = ap (slice_get files.map.owners) there ∙ is;
    }))

-- Marks

none_marked : (n b : ℕ) → ¬ (slice_get (replicate n false) b ≡ Some true)
none_marked zero b is = absurd (none-some true is)
none_marked (suc n) zero is = absurd (cc)
none_marked (suc n) (suc b) is = none_marked n b is

pub grows_begins : (marks : List Bool) (files : Layer) → IsLayer files → marks ≡ replicate 512 false → Grows 0 marks files files
grows_begins marks files layer none = record {
  layer = layer;
  geometry = refl;
  table = refl;
  stay = λ k owner is. is;
  fewer = omega arith;
  counted = ap length none ∙ length-replicate 512 false;
  marked = λ b is. absurd (none_marked 512 b (ap (λ (ms : List Bool). slice_get ms b) (sym none) ∙ is));
}

-- One more owner

-- the data block at a place gets an owner
abbrev pub given : Layer → FileNo → ℕ → ℕ → Layer
given files file v at = record files { map = with_owner files.map at (Some (file, v)) }

module _ (files : Layer) (file : FileNo) (v at : ℕ) (free : IsFreeAt files.map at) where
  abbrev place : ℕ
  place = at - files.map.from

  pub given_here : slice_get (given files file v at).map.owners place ≡ Some (Some (file, v))
  given_here = slice_get-set_same files.map.owners place (Some (file, v)) (slice_get_within files.map.owners place None free.free)

  pub given_other : (k : ℕ) → k ≢ place → slice_get (given files file v at).map.owners k ≡ slice_get files.map.owners k
  given_other k apart = slice_get-set_other files.map.owners place k (Some (file, v)) apart

  -- each owner that was stays
  pub given_stays : (k : ℕ) (owner : Owner) → slice_get files.map.owners k ≡ Some (Some owner) → slice_get (given files file v at).map.owners k ≡ Some (Some owner)
  given_stays k owner is = elim (cases_eq k place) [
    | inl same ↦ absurd (none-some owner (same_Some None (Some owner) (sym free.free ∙ ap (slice_get files.map.owners) (sym same) ∙ is)))
    | inr apart ↦ given_other k apart ∙ is
  ]

  -- the new owners are those that were, and one more
  pub given_was : (k : ℕ) (owner : Owner) → slice_get (given files file v at).map.owners k ≡ Some (Some owner)
      → ((k ≡ place) × (owner ≡ (file, v))) ⊎ (slice_get files.map.owners k ≡ Some (Some owner))
  given_was k owner is = elim (cases_eq k place) [
    | inl same ↦ inl (same, same_Some owner (file, v) (same_Some (Some owner) (Some (file, v)) (sym is ∙ ap (slice_get (given files file v at).map.owners) same ∙ given_here)))
    | inr apart ↦ inr (sym (given_other k apart) ∙ is)
  ]

  may_own : (entry : TableEntry) → IsLayer files → entry_of files file.0 ≡ Some entry → v < entry.length → MayOwn (lengths_of files.table) files.geometry.blocks place (file, v)
  may_own entry layer used below =
      let stands = entry_stands files file.0 entry used in
      let few = entry_short files file.0 entry layer used in
      let here : file.0 - 1 < length files.table = slice_get_within files.table (file.0 - 1) (Some entry) stands.1 in
      let within : place < length files.map.owners = slice_get_within files.map.owners place None free.free in
      record {
        among = omega (arith, within, layer.count);
        numbered = stands.0;
        in_two_bytes = omega (arith, here, layer.entries.count);
        in_four_bytes = omega (arith, few, below);
        length = entry.length;
        used = slice_get-map (option_map (λ entry. entry.length)) files.table (file.0 - 1) ∙ ap (λ o. option_map (option_map (λ entry. entry.length)) o) stands.1;
        below = below;
      }

  once_given : IsLayer files → IsUnheld files.map file.0 v → (j k : ℕ) (owner : Owner) → slice_get (given files file v at).map.owners j ≡ Some (Some owner)
      → slice_get (given files file v at).map.owners k ≡ Some (Some owner) → j ≡ k
  once_given layer unheld j k owner one other = elim (given_was j owner one) [
    | inl here ↦ elim (given_was k owner other) [
      | inl there ↦ here.0 ∙ sym there.0
      | inr was ↦ absurd (unheld (files.map.from + k) (k, owner, was, ap (λ (o : Owner). o.0.0) here.1, ap (λ (o : Owner). o.1) here.1, refl))
    ]
    | inr was ↦ elim (given_was k owner other) [
      | inl there ↦ absurd (unheld (files.map.from + j) (j, owner, was, ap (λ (o : Owner). o.0.0) there.1, ap (λ (o : Owner). o.1) there.1, refl))
      | inr is ↦ layer.once j k owner was is
    ]
  ]

  may_given : (entry : TableEntry) → IsLayer files → entry_of files file.0 ≡ Some entry → v < entry.length → (k : ℕ) (owner : Owner)
      → slice_get (given files file v at).map.owners k ≡ Some (Some owner) → MayOwn (lengths_of files.table) files.geometry.blocks k owner
  may_given entry layer used below k owner is = elim (given_was k owner is) [
    | inl here ↦ subst (λ (o : Owner). MayOwn (lengths_of files.table) files.geometry.blocks k o) (sym here.1)
        (subst (λ (j : ℕ). MayOwn (lengths_of files.table) files.geometry.blocks j (file, v)) (sym here.0) (may_own entry layer used below))
    | inr was ↦ layer.may k owner was
  ]

  -- they are a layer again
  pub layer_given : (entry : TableEntry) → IsLayer files → entry_of files file.0 ≡ Some entry → v < entry.length → IsUnheld files.map file.0 v → IsLayer (given files file v at)
  layer_given entry layer used below unheld = record {
    sizes = layer.sizes;
    entries = layer.entries;
    from = layer.from;
    count = length-set files.map.owners place (Some (file, v)) ∙ layer.count;
    may = may_given entry layer used below;
    once = once_given layer unheld;
  }

-- What has changed its owner

module _ (count : ℕ) (marks : List Bool) (old now : Layer) (file : FileNo) (v at : ℕ) (layer : IsLayer old) (grows : Grows count marks old now) (free : IsFreeAt now.map at) where
  same_from : now.map.from ≡ old.map.from
  same_from = grows.layer.from ∙ ap area_from grows.geometry ∙ sym layer.from

  -- it was free before
  changed_here : (at' : ℕ) → at' - now.map.from ≡ at - now.map.from → ChangesOwner old.map (given now file v at).map at'
  changed_here at' same is =
      let there : at' - old.map.from ≡ at - now.map.from = omega (arith, same, same_from) in
      let owned : slice_get old.map.owners (at - now.map.from) ≡ Some (Some (file, v)) =
      ap (slice_get old.map.owners) (sym there) ∙ is ∙ ap (slice_get (given now file v at).map.owners) same ∙ given_here now file v at free in
      none-some (file, v) (same_Some None (Some (file, v)) (sym free.free ∙ grows.stay (at - now.map.from) (file, v) owned))

  -- and what had changed has changed still
  pub given_more : (other : ℕ) → IsGiven old.geometry old.map now.map other → IsGiven old.geometry old.map (given now file v at).map other
  given_more other was = (
    was.0,
    elim (cases_eq (other - now.map.from) (at - now.map.from)) [
      | inl same ↦ changed_here other same
      | inr apart ↦ λ is. was.1 (is ∙ given_other now file v at free (other - now.map.from) apart)
    ],
  )

  pub is_given : IsGiven old.geometry old.map (given now file v at).map at
  is_given = (omega (arith, free.place.0, grows.layer.from, ap area_from grows.geometry), changed_here at refl)

  marked_more : (b : ℕ) → IsMarked (marking now.geometry marks at) b
      → (other : ℕ) × IsGiven old.geometry old.map (given now file v at).map other × (b ≡ (other - area_from old.geometry) / block_owners)
  marked_more b is = elim (cases_eq b ((at - area_from now.geometry) / block_owners)) [
    | inl same ↦ (at, is_given, same ∙ ap (λ g. (at - area_from g) / block_owners) grows.geometry)
    | inr apart ↦
        let was = grows.marked b (sym (slice_get-set_other marks ((at - area_from now.geometry) / block_owners) b true apart) ∙ is) in
        (was.0, given_more was.0 was.1, was.2)
  ]

  -- one data block more has an owner
  pub grows_more : IsLayer (given now file v at) → Grows (count + 1) (marking now.geometry marks at) old (given now file v at)
  grows_more again = record {
    layer = again;
    geometry = grows.geometry;
    table = grows.table;
    stay = λ k owner is. given_stays now file v at free k owner (grows.stay k owner is);
    fewer = omega (arith, grows.fewer, count_free-given now.map.owners (at - now.map.from) (file, v) free.free);
    counted = length-set marks ((at - area_from now.geometry) / block_owners) true ∙ grows.counted;
    marked = marked_more;
  }

some_there : {X : Type 0} (o : Option X) → IsSome o → (x : X) × (o ≡ Some x)
some_there None some = absurd (false≢true some)
some_there (Some x) some = (x, refl)

-- a number that is used has an entry
pub entry_there : (files : Layer) (n : ℕ) → IsUsed files n → (entry : TableEntry) × (entry_of files n ≡ Some entry)
entry_there files n used = some_there (entry_of files n) used

-- whatever the map is that has the new owner
pub layer_with : (files : Layer) (file : FileNo) (v at : ℕ) (map : BlockMap) → IsLayer files → IsUsed files file.0
    → ((entry : TableEntry) → entry_of files file.0 ≡ Some entry → v < entry.length) → IsUnheld files.map file.0 v → IsFreeAt files.map at
    → map ≡ with_owner files.map at (Some (file, v)) → IsLayer (record files { map = map })
layer_with files file v at map layer used below unheld free is =
    let entry = entry_there files file.0 used in
    subst (λ (map : BlockMap). IsLayer (record files { map = map })) (sym is) (layer_given files file v at free entry.0 layer entry.1 (below entry.0 entry.1) unheld)
