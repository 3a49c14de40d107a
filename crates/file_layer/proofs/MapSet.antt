-- The map of an image while the owners that its map blocks have are set, one after another.
use Rattle.std.proofs.Common.{◌≡◌, ℕ, zero, suc, true, false, is_some, MatchOption, ◌+◌, ◌-◌, ◌*◌, ◌<◌, ◌≤◌, List, [], ◌∷◌, ◌++◌, Option, Some, None, length, drop, map, option_map, take, slice_get, slice_set, refl, sym, ap, ◌∙◌, subst, arith, append_assoc, length-append}
use Rattle.std.specs.List.{AllByRecursion}
use Rattle.std.proofs.lemmas.Bool.{false≢true}
use Rattle.std.proofs.lemmas.List.{drop_more, length-map, length-take-le, take-append-drop, take_more}
use Rattle.std.proofs.lemmas.Option.{get_or_from_slice_get, none-some, same_Some, slice_get-map, slice_get_within}
use Rattle.nesc_base.specs.declared.geometry.Geometry.{Geometry}
use Rattle.nesc_base.specs.Geometry.{area_from, block_owners, map_blocks}
use Rattle.nesc_base.specs.Places.{Owner}
use Rattle.block_map.specs.Map.{BlockMap, IsFreeAt, IsUnheld, MayHold, StandsAt, with_owner}
use Rattle.image_layout.specs.declared.table.TableEntry.{TableEntry}
use Rattle.image_layout.specs.Opens.{lengths_of}
use Rattle.image_layout.specs.Owners.{MayOwn}
use Rattle.image_layout.specs.Table.{AreEntries, Fits}
use Rattle.image_layout.proofs.Bodies.{one_at}
use Rattle.file_layer.specs.Loading.{HasOwners, IsFirstTwice, IsMapOf, owners_before}
use Rattle.file_layer.proofs.OwnersSet.{Owners, first_here, length-padded, once_more, padded-free, padded-held, padded-past, padded-set, padded-there}

-- What may be held

-- an entry that is used says what it may
entry_fits : (entries : List (Option TableEntry)) (e : ℕ) (entry : Option TableEntry) → AllByRecursion Fits entries → slice_get entries e ≡ Some entry → Fits entry
entry_fits [] e entry fit at = absurd (none-some entry at)
entry_fits (first ∷ entries) zero entry fit at = subst Fits (same_Some first entry at) fit.0
entry_fits (first ∷ entries) (suc e) entry fit at = entry_fits entries e entry fit.1 at

-- a length that is there is that of an entry
length_of : (o : Option (Option TableEntry)) (length : ℕ) → option_map (option_map (λ (entry : TableEntry). entry.length)) o ≡ Some (Some length)
    → (entry : TableEntry) × (o ≡ Some (Some entry)) × (entry.length ≡ length)
length_of None length is = absurd (none-some (Some length) is)
length_of (Some None) length is = absurd (none-some length (same_Some None (Some length) is))
length_of (Some (Some entry)) length is = (entry, refl, same_Some entry.length length (same_Some (Some entry.length) (Some length) is))

-- an owner that there may be is a file that may hold the block
pub may_hold : (entries : List (Option TableEntry)) (blocks k : ℕ) (owner : Owner) → AreEntries entries → MayOwn (lengths_of entries) blocks k owner → MayHold owner.0.0 owner.1
may_hold entries blocks k owner are may =
    let all : length (lengths_of entries) ≡ length entries = length-map entries (option_map (λ (entry : TableEntry). entry.length)) in
    let within : owner.0.0 - 1 < length (lengths_of entries) = slice_get_within (lengths_of entries) (owner.0.0 - 1) (Some may.length) may.used in
    let numbered : 1 ≤ owner.0.0 = omega (arith, may.numbered) in
    let there = length_of (slice_get entries (owner.0.0 - 1)) may.length
    (sym (slice_get-map (option_map (λ (entry : TableEntry). entry.length)) entries (owner.0.0 - 1)) ∙ may.used) in
    let fits : Fits (Some there.0) = entry_fits entries (owner.0.0 - 1) (Some there.0) are.fit there.1 in
    record {
      numbered = numbered;
      among = omega (arith, all, within, are.count);
      below = omega (arith, may.below, there.2, fits.1);
    }

-- The front of the owners of a map block

-- one more of them
front_taken : (owners : Owners) (k : ℕ) (owner : Option Owner) → slice_get owners k ≡ Some owner → take (k + 1) owners ≡ take k owners ++ owner ∷ []
front_taken owners k owner at =
    take_more owners k None (slice_get_within owners k owner at) ∙ ap (λ (o : Option Owner). take k owners ++ o ∷ []) (get_or_from_slice_get owners k owner None at)

pub front_more : (before owners : Owners) (k : ℕ) (owner : Option Owner) → slice_get owners k ≡ Some owner → before ++ take (k + 1) owners ≡ (before ++ take k owners) ++ owner ∷ []
front_more before owners k owner at =
    ap (λ (front : Owners). before ++ front) (front_taken owners k owner at) ∙ sym (append_assoc before (take k owners) (owner ∷ []))

-- the rest stands behind
front_split : (owners : Owners) (k : ℕ) (owner : Option Owner) → slice_get owners k ≡ Some owner → owners ≡ take k owners ++ owner ∷ drop (k + 1) owners
front_split owners k owner at =
    sym (take-append-drop k owners)
    ∙ ap (λ (rest : Owners). take k owners ++ rest) (drop_more owners k None (slice_get_within owners k owner at) ∙ ap (λ (o : Option Owner). o ∷ drop (k + 1) owners) (get_or_from_slice_get owners k owner None at))

pub front_rest : (before owners : Owners) (k : ℕ) (owner : Option Owner) → slice_get owners k ≡ Some owner → before ++ owners ≡ (before ++ take k owners) ++ owner ∷ drop (k + 1) owners
front_rest before owners k owner at =
    ap (λ (rest : Owners). before ++ rest) (front_split owners k owner at) ∙ sym (append_assoc before (take k owners) (owner ∷ drop (k + 1) owners))

-- How many owners there are

-- a map that has owners is that of the image
pub has_map : (geometry : Geometry) (map : BlockMap) (owners : Owners) → HasOwners geometry map owners → IsMapOf geometry map
has_map geometry map owners has = record { from = has.from; count = ap length has.set ∙ length-padded geometry.blocks owners }

-- those of the data blocks before map block b, and the first so many of its own
pub count_before : (geometry : Geometry) (map : BlockMap) (b : ℕ) → b < map_blocks geometry → IsMapOf geometry map → length (owners_before b map) ≡ block_owners * b
count_before geometry map b within of =
    let size : block_owners * b ≤ length map.owners = omega (arith, of.count, within) in
    length-take-le (block_owners * b) map.owners size

pub count_so_far : (before owners : Owners) (b k : ℕ) → length before ≡ block_owners * b → length owners ≡ block_owners → k < block_owners → length (before ++ take k owners) ≡ block_owners * b + k
count_so_far before owners b k count size within =
    let front : length (take k owners) ≡ k = length-take-le k owners (omega arith) in
    omega (arith, length-append before (take k owners), front, count)

-- One more owner

module _ (geometry : Geometry) (map : BlockMap) (owners : Owners) (has : HasOwners geometry map owners) where
  -- a data block that is free
  pub has_free : HasOwners geometry map (owners ++ None ∷ [])
  has_free = record {
    from = has.from;
    set = has.set ∙ sym (padded-free geometry.blocks owners);
    once = once_more owners None has.once (λ k owner is. absurd (none-some owner is));
  }

  -- a data block behind them is free
  pub free_behind : (at : ℕ) → at ≡ area_from geometry + length owners → length owners < geometry.blocks → IsFreeAt map at
  free_behind at is within =
      let count = (has_map geometry map owners has).count in
      let here : at - map.from ≡ length owners = omega (arith, is, has.from) in
      record {
        place = (omega (arith, is, has.from), omega (arith, is, has.from, count, within));
        free = ap (slice_get map.owners) here ∙ ap (λ (all : Owners). slice_get all (length owners)) has.set
            ∙ padded-past geometry.blocks owners (length owners) (omega arith) within;
      }

  -- and is given an owner that no other has
  pub has_more : (at : ℕ) (owner : Owner) (new : BlockMap) → at ≡ area_from geometry + length owners → length owners < geometry.blocks → IsUnheld map owner.0.0 owner.1
      → new ≡ with_owner map at (Some owner) → HasOwners geometry new (owners ++ Some owner ∷ [])
  has_more at owner new is within unheld result =
      let here : at - map.from ≡ length owners = omega (arith, is, has.from) in
      record {
        from = ap (λ (m : BlockMap). m.from) result ∙ has.from;
        set = ap (λ (m : BlockMap). m.owners) result ∙ ap (λ (all : Owners). slice_set all (at - map.from) (Some owner)) has.set
            ∙ padded-set geometry.blocks owners (at - map.from) (Some owner) here (omega (arith, here, within));
        once = once_more owners (Some owner) has.once (λ k other same held.
            let one : owner ≡ other = same_Some owner other same in
            let before : k < length owners = slice_get_within owners k (Some other) held in
            let held_there : slice_get map.owners k ≡ Some (Some owner) =
            ap (λ (all : Owners). slice_get all k) has.set ∙ padded-there geometry.blocks owners k (Some other) held (omega (arith, before, within)) ∙ ap (λ (o : Owner). Some (Some o)) (sym one) in
            unheld (map.from + k) (k, owner, held_there, refl, refl, refl));
      }

  -- a block that stands somewhere is that of an earlier owner
  pub twice_there : (at : ℕ) (owner : Owner) (rest : Owners) → StandsAt map owner.0.0 owner.1 at → IsFirstTwice (owners ++ Some owner ∷ rest) owner
  twice_there at owner rest stands =
      let same : stands.1 ≡ owner = one_at stands.1 owner owner.0.0 owner.1 (stands.3, stands.4) (refl, refl) in
      let held : slice_get owners stands.0 ≡ Some (Some stands.1) =
      padded-held geometry.blocks owners stands.0 stands.1 (sym (ap (λ (all : Owners). slice_get all stands.0) has.set) ∙ stands.2) in
      first_here owners rest stands.0 owner has.once (held ∙ ap (λ (o : Owner). Some (Some o)) same)

-- What a search for a block answers

pub where_some : {X : Type 0} (P : Type 0) (Q : X → Type 0) (o : Option X) → is_some o ≡ true → MatchOption o P Q → (x : X) × Q x
where_some P Q None some holds = absurd (false≢true some)
where_some P Q (Some x) some holds = (x, holds)

pub where_none : {X : Type 0} (P : Type 0) (Q : X → Type 0) (o : Option X) → is_some o ≡ false → MatchOption o P Q → P
where_none P Q None none holds = holds
where_none P Q (Some x) none holds = absurd (false≢true (sym none))
