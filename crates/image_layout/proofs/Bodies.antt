-- What belongs to the data blocks of a file, by where they stand in it: the block itself, or its place on the disk.
use Rattle.std.proofs.Common.{◌≡◌, ◌⊎◌, ℕ, zero, suc, ◌+◌, false, cond, ◌==◌, List, [], ◌∷◌, Option, Some, None, inl, inr, slice_get, refl, sym, ap, ◌∙◌, arith}
use Rattle.std.specs.FinMap.{FinMap, empty, get, insert, get-empty}
use Rattle.std.specs.Ordering.{nat_cmp}
use Rattle.std.proofs.lemmas.Bool.{cases_eq}
use Rattle.std.proofs.lemmas.Bool.Decides.{Decides-eqb}
use Rattle.std.proofs.lemmas.Option.{none-some, same_Some}
use Rattle.image_layout.specs.Opens.{Repeats}
use Rattle.nesc_base.proofs.Maps.{get-insert_other, get-insert_same}
use Rattle.nesc_base.specs.Places.{Owner}

-- the owner is the block at v of file n
abbrev pub IsAt : Owner → ℕ → ℕ → Type 0
IsAt owner n v = (owner.0.0 ≡ n) × (owner.1 ≡ v)

-- it is that block or not
pub is_at_or_not : (owner : Owner) (n v : ℕ) → IsAt owner n v ⊎ (¬ IsAt owner n v)
is_at_or_not owner n v = elim (cases_eq owner.0.0 n) [
  | inl file ↦ elim (cases_eq owner.1 v) [ inl place ↦ inl (file, place) | inr other ↦ inr (λ at. other at.1) ]
  | inr other ↦ inr (λ at. other at.0)
]

-- such an owner is one
pub one_at : (one other : Owner) (n v : ℕ) → IsAt one n v → IsAt other n v → one ≡ other
one_at one other n v first second =
    let owner_of : ℕ → ℕ → Owner = λ m w. (record { 0 = m }, w) in
    ap (λ m. owner_of m one.1) (first.0 ∙ sym second.0) ∙ ap (owner_of other.0.0) (first.1 ∙ sym second.1)

-- no owner stands twice
abbrev pub IsOnce : List (Option Owner) → Type 0
IsOnce owners = (k : ℕ) (owner : Owner) → ¬ Repeats owners k owner

-- nor among those behind the first
once_behind : (x : Option Owner) (owners : List (Option Owner)) → IsOnce (x ∷ owners) → IsOnce owners
once_behind x owners once k owner repeats = once (suc k) owner (repeats.0, (suc repeats.1.0, (let less = repeats.1.1 in omega arith), repeats.1.2))

-- data block k is the block at v of file n, and this belongs to it
pub record Belongs {X : Type 0} (owners : List (Option Owner)) (xs : List X) (n v : ℕ) (x : X) : Type 0 where
  pub k : ℕ
  pub owner : Owner
  pub owned : slice_get owners k ≡ Some (Some owner)
  pub at : IsAt owner n v
  pub stands : slice_get xs k ≡ Some x

module _ {X : Type 0} where
  -- with one more data block, if that is of file n
  abbrev put_owned : ℕ → Owner → X → FinMap nat_cmp X → FinMap nat_cmp X
  put_owned n owner x held = cond (owner.0.0 == n) (insert held owner.1 x) held

  -- where the data block is the block at v, it stands there
  put_there : (n v : ℕ) (owner : Owner) (x : X) (held : FinMap nat_cmp X) → IsAt owner n v → get (put_owned n owner x held) v ≡ Some x
  put_there n v owner x held at =
      ap (λ b. get (cond b (insert held owner.1 x) held) v) ((Decides-eqb owner.0.0 n).1 at.0) ∙ ap (get (insert held owner.1 x)) (sym at.1)
      ∙ get-insert_same held owner.1 x

  -- and where it is not, what stood there does
  put_elsewhere : (n v : ℕ) (owner : Owner) (x : X) (held : FinMap nat_cmp X) → ¬ IsAt owner n v → get (put_owned n owner x held) v ≡ get held v
  put_elsewhere n v owner x held other = elim (cases_eq owner.0.0 n) [
    | inl file ↦
        ap (λ b. get (cond b (insert held owner.1 x) held) v) ((Decides-eqb owner.0.0 n).1 file)
        ∙ get-insert_other held owner.1 x v (λ same. other (file, sym same))
    | inr apart ↦ let no : (owner.0.0 == n) ≡ false = grind arith in ap (λ b. get (cond b (insert held owner.1 x) held) v) no
  ]

  -- what belongs to the data blocks of file n, by where they stand in it
  abbrev pub held_of : ℕ → List (Option Owner) → List X → FinMap nat_cmp X
  held_of n [] xs = empty
  held_of n (owner ∷ owners) [] = empty
  held_of n (None ∷ owners) (x ∷ xs) = held_of n owners xs
  held_of n (Some owner ∷ owners) (x ∷ xs) = put_owned n owner x (held_of n owners xs)

  -- so it is behind one more
  behind : (o : Option Owner) (owners : List (Option Owner)) (y : X) (xs : List X) (n v : ℕ) (x : X)
      → Belongs owners xs n v x → Belongs (o ∷ owners) (y ∷ xs) n v x
  behind o owners y xs n v x held = record { k = suc held.k; owner = held.owner; owned = held.owned; at = held.at; stands = held.stands }

  -- what is found belongs there
  pub belongs_if_held : (n : ℕ) (owners : List (Option Owner)) (xs : List X) (v : ℕ) (x : X)
      → get (held_of n owners xs) v ≡ Some x → Belongs owners xs n v x
  belongs_if_held n [] xs v x is = absurd (none-some x (sym (get-empty {X = X} nat_cmp v) ∙ is))
  belongs_if_held n (o ∷ owners) [] v x is = absurd (none-some x (sym (get-empty {X = X} nat_cmp v) ∙ is))
  belongs_if_held n (None ∷ owners) (y ∷ xs) v x is = behind None owners y xs n v x (belongs_if_held n owners xs v x is)
  belongs_if_held n (Some o ∷ owners) (y ∷ xs) v x is = elim (is_at_or_not o n v) [
    | inl at ↦ record {
      k = 0;
      owner = o;
      owned = refl;
      at = at;
      stands = sym (put_there n v o y (held_of n owners xs) at) ∙ is;
    }
    | inr other ↦
        behind (Some o) owners y xs n v x
        (belongs_if_held n owners xs v x (sym (put_elsewhere n v o y (held_of n owners xs) other) ∙ is))
  ]

  -- and what belongs there is found, where no owner stands twice
  pub held_if_belongs : (n : ℕ) (owners : List (Option Owner)) (xs : List X) (v : ℕ) (x : X) → IsOnce owners
      → (k : ℕ) (owner : Owner) → slice_get owners k ≡ Some (Some owner) → IsAt owner n v → slice_get xs k ≡ Some x → get (held_of n owners xs) v ≡ Some x
  held_if_belongs n [] xs v x once k owner owned at stands = absurd (none-some (Some owner) owned)
  held_if_belongs n (o ∷ owners) [] v x once k owner owned at stands = absurd (none-some x stands)
  held_if_belongs n (None ∷ owners) (y ∷ xs) v x once zero owner owned at stands = absurd (none-some owner (same_Some None (Some owner) owned))
  held_if_belongs n (None ∷ owners) (y ∷ xs) v x once (suc k) owner owned at stands =
      held_if_belongs n owners xs v x (once_behind None owners once) k owner owned at stands
  held_if_belongs n (Some o ∷ owners) (y ∷ xs) v x once zero owner owned at stands =
      let same : o ≡ owner = same_Some o owner (same_Some (Some o) (Some owner) owned) in
      put_there n v o y (held_of n owners xs) (ap (λ (w : Owner). w.0.0) same ∙ at.0, ap (λ (w : Owner). w.1) same ∙ at.1) ∙ stands
  held_if_belongs n (Some o ∷ owners) (y ∷ xs) v x once (suc k) owner owned at stands = elim (is_at_or_not o n v) [
    | inl too ↦ absurd (once (suc k) owner (owned, (0, omega arith, ap (λ w. Some (Some w)) (one_at o owner n v too at))))
    | inr other ↦
        put_elsewhere n v o y (held_of n owners xs) other
        ∙ held_if_belongs n owners xs v x (once_behind (Some o) owners once) k owner owned at stands
  ]

-- the places of data blocks, one for each, from this one on
abbrev pub numbered : {X : Type 0} → ℕ → List X → List ℕ
numbered at [] = []
numbered at (x ∷ xs) = at ∷ numbered (suc at) xs

pub slice_get-numbered : {X : Type 0} (at : ℕ) (xs : List X) (k : ℕ) (x : X) → slice_get xs k ≡ Some x → slice_get (numbered at xs) k ≡ Some (at + k)
slice_get-numbered at [] k x is = absurd (none-some x is)
slice_get-numbered at (y ∷ xs) zero x is = let same : at ≡ at + 0 = omega arith in ap (λ n. Some n) same
slice_get-numbered at (y ∷ xs) (suc k) x is = let same : suc at + k ≡ at + suc k = omega arith in slice_get-numbered (suc at) xs k x is ∙ ap (λ n. Some n) same
