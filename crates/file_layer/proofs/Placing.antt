-- Files and places with one block more, or another block.
use Rattle.std.proofs.Common.{◌≡◌, ◌≢◌, ◌⊎◌, inl, inr, ℕ, zero, suc, List, [], ◌∷◌, ◌++◌, replicate, Option, Some, None, IsSome, option_map, refl, sym, ap, ◌∙◌}
use Rattle.std.specs.Prelude.{is_some, slice_get, unwrap_or}
use Rattle.std.specs.FinMap.{empty, get, get-empty, insert}
use Rattle.std.specs.Option.{option_and_then}
use Rattle.std.specs.Ordering.{nat_cmp}
use Rattle.std.proofs.lemmas.Bool.{cases_eq}
use Rattle.std.proofs.lemmas.Option.{none-some, same_Some}
use Rattle.nesc_base.specs.declared.block.Block.{Block}
use Rattle.nesc_base.specs.Files.{File, Files}
use Rattle.nesc_base.specs.Places.{HeldAt, Owner, Places, place_of}
use Rattle.nesc_base.proofs.Maps.{get-insert_other, get-insert_same}
use Rattle.file_model.specs.Places.{held_at, with_place}
use Rattle.file_model.specs.Files.{with_block}

-- one pair of numbers or another
pub cases_both : (m n w v : ℕ) → ((m ≡ n) × (w ≡ v)) ⊎ (¬ ((m ≡ n) × (w ≡ v)))
cases_both m n w v = elim (cases_eq m n) [
  | inl file ↦ elim (cases_eq w v) [
    | inl place ↦ inl (file, place)
    | inr apart ↦ inr (λ same. apart same.1)
  ]
  | inr apart ↦ inr (λ same. apart same.0)
]

-- Places

held_among : (found : Option HeldAt) (w : ℕ) → get (unwrap_or found empty) w ≡ option_and_then (λ (held : HeldAt). get held w) found
held_among None w = get-empty nat_cmp w
held_among (Some held) w = refl

module _ (places : Places) (n v at : ℕ) where
  place_there : (w : ℕ) → place_of (with_place places n v at) n w ≡ get (insert (held_at places n) v at) w
  place_there w = ap (option_and_then (λ (held : HeldAt). get held w)) (get-insert_same places n (insert (held_at places n) v at))

  -- the block stands at its place
  pub place_of-with_same : place_of (with_place places n v at) n v ≡ Some at
  place_of-with_same = place_there v ∙ get-insert_same (held_at places n) v at

  -- and every other where it stood
  pub place_of-with_other : (m w : ℕ) → ¬ ((m ≡ n) × (w ≡ v)) → place_of (with_place places n v at) m w ≡ place_of places m w
  place_of-with_other m w other = elim (cases_eq m n) [
    | inl same ↦
        let apart : w ≢ v = λ e. other (same, e) in
        ap (λ k. place_of (with_place places n v at) k w) same ∙ place_there w ∙ get-insert_other (held_at places n) v at w apart
        ∙ held_among (get places n) w ∙ sym (ap (λ k. place_of places k w) same)
    | inr apart ↦ ap (option_and_then (λ (held : HeldAt). get held w)) (get-insert_other places n (insert (held_at places n) v at) m apart)
  ]

  -- a file that has places has them still
  pub with_place-filed : IsSome (get places n) → (m : ℕ) → is_some (get (with_place places n v at) m) ≡ is_some (get places m)
  with_place-filed some m = elim (cases_eq m n) [
    | inl same ↦
        ap (λ k. is_some (get (with_place places n v at) k)) same ∙ ap is_some (get-insert_same places n (insert (held_at places n) v at))
        ∙ sym some ∙ sym (ap (λ k. is_some (get places k)) same)
    | inr apart ↦ ap is_some (get-insert_other places n (insert (held_at places n) v at) m apart)
  ]

-- Files

module _ (set : Files) (n v : ℕ) (block : Block) (file : File) (stands : get set n ≡ Some file) where
  abbrev changed : Files
  changed = insert set n (with_block file v block)

  file_there : (f : File) → get changed n ≡ Some f → f ≡ with_block file v block
  file_there f is = same_Some f (with_block file v block) (sym is ∙ get-insert_same set n (with_block file v block))

  -- the block is that one
  pub block_here : (f : File) → get changed n ≡ Some f → get f.body v ≡ Some block
  block_here f is = ap (λ (g : File). get g.body v) (file_there f is) ∙ get-insert_same file.body v block

  -- and every other what it was
  pub block_other : (m w : ℕ) (f : File) → ¬ ((m ≡ n) × (w ≡ v)) → get changed m ≡ Some f → (g : File) × (get set m ≡ Some g) × (get f.body w ≡ get g.body w)
  block_other m w f other is = elim (cases_eq m n) [
    | inl same ↦
        let apart : w ≢ v = λ e. other (same, e) in (
          file,
          ap (get set) same ∙ stands,
          ap (λ (g : File). get g.body w) (file_there f (sym (ap (get changed) same) ∙ is)) ∙ get-insert_other file.body v block w apart,
        )
    | inr apart ↦ (f, sym (get-insert_other set n (with_block file v block) m apart) ∙ is, refl)
  ]

  -- the files are named as before
  pub changed-alike : {X : Type 0} (of : File → X) → of (with_block file v block) ≡ of file → (m : ℕ) → option_map of (get changed m) ≡ option_map of (get set m)
  changed-alike of same m = elim (cases_eq m n) [
    | inl e ↦
        ap (λ k. option_map of (get changed k)) e ∙ ap (option_map of) (get-insert_same set n (with_block file v block)) ∙ ap Some same
        ∙ sym (ap (option_map of) stands) ∙ sym (ap (λ k. option_map of (get set k)) e)
    | inr apart ↦ ap (option_map of) (get-insert_other set n (with_block file v block) m apart)
  ]

  pub changed-filed : (m : ℕ) → is_some (get changed m) ≡ is_some (get set m)
  changed-filed m = elim (cases_eq m n) [
    | inl e ↦
        ap (λ k. is_some (get changed k)) e ∙ ap is_some (get-insert_same set n (with_block file v block))
        ∙ sym (ap is_some stands) ∙ sym (ap (λ k. is_some (get set k)) e)
    | inr apart ↦ ap is_some (get-insert_other set n (with_block file v block) m apart)
  ]

-- Owners with free ones behind them

pub none_behind : (owners : List (Option Owner)) (more k : ℕ) (owner : Owner) → slice_get (owners ++ replicate more None) k ≡ Some (Some owner) → slice_get owners k ≡ Some (Some owner)
none_behind [] more k owner is = absurd (no_owner more k is)
  where
    no_owner : (more k : ℕ) → slice_get (replicate more None) k ≡ Some (Some owner) → ⊥
    no_owner zero k is = absurd (none-some (Some owner) is)
    no_owner (suc more) zero is = absurd (cc)
    no_owner (suc more) (suc k) is = no_owner more k is
none_behind (o ∷ owners) more zero owner is = is
none_behind (o ∷ owners) more (suc k) owner is = none_behind owners more k owner is

pub still_behind : (owners rest : List (Option Owner)) (k : ℕ) (o : Option Owner) → slice_get owners k ≡ Some o → slice_get (owners ++ rest) k ≡ Some o
still_behind [] rest k o is = absurd (none-some o is)
still_behind (first ∷ owners) rest zero o is = is
still_behind (first ∷ owners) rest (suc k) o is = still_behind owners rest k o is
