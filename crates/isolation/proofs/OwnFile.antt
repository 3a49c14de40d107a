-- Blocks that are a file's own, through what changes the file.
use Rattle.std.proofs.Common.{◌≡◌, ◌≢◌, ℕ, zero, suc, ◌+◌, ◌<◌, ◌≤◌, inl, List, [], ◌∷◌, ◌++◌, map, slice_get, slice_index_or, Option, Some, None, unwrap_or, refl, sym, ap, ◌∙◌, subst, ⊎_elim, arith}
use Rattle.std.specs.FinMap.{empty, get, insert, get-empty}
use Rattle.std.specs.List.{AllByRecursion, range_with_len}
use Rattle.std.specs.Ordering.{nat_cmp}
use Rattle.std.proofs.lemmas.Bool.{cases_eq, cases_lt}
use Rattle.std.proofs.lemmas.Option.{none-some, same_Some, unwrap_or-slice_get}
use Rattle.nesc_base.specs.declared.block.Block.{Block}
use Rattle.nesc_base.specs.Block.{zero_block}
use Rattle.nesc_base.specs.Files.{Body, File}
use Rattle.nesc_base.proofs.Maps.{get-insert_other, get-insert_same}
use Rattle.file_model.specs.Files.{Change, below, create, delete, hold, holding, put, read, resize, with_zeros}
use Rattle.file_model.proofs.BelowEnd.{get-below_gone, get-below_kept}
use Rattle.isolation.specs.History.{OwnEvent}
use Rattle.isolation.specs.Laws.{AreOwn, IsOwn}
use Rattle.isolation.specs.Solo.{file_after, file_after_all}

-- what is so of each of two lists is so of each of both
pub all_append : {X : Type 0} (P : X → Type 0) (xs ys : List X) → AllByRecursion P xs → AllByRecursion P ys → AllByRecursion P (xs ++ ys)
all_append P [] ys first second = second
all_append P (x ∷ xs) ys first second = (first.0, all_append P xs ys first.1 second)

module _ (file : Option File) (events : List OwnEvent) where
  -- each block that a body has
  abbrev pub HoldsOwn : Body → Type 0
  HoldsOwn body = (v : ℕ) (block : Block) → get body v ≡ Some block → IsOwn file events v block

  -- and each that a file holds, if there is one
  abbrev pub HoldsOwnIn : Option File → Type 0
  HoldsOwnIn None = Unit {0}
  HoldsOwnIn (Some now) = HoldsOwn now.body

  -- a block that is put
  abbrev pub PutsOwn : Change → Type 0
  PutsOwn (put n v block) = IsOwn file events v block
  PutsOwn change = Unit {0}

  -- zeros, where there is nothing
  own_or_zeros : (found : Option Block) (v : ℕ) → ((block : Block) → found ≡ Some block → IsOwn file events v block) → IsOwn file events v (unwrap_or found zero_block)
  own_or_zeros None v own = inl refl
  own_or_zeros (Some block) v own = own block refl

  -- What is read

  pub own_read : (now : File) (v : ℕ) → HoldsOwn now.body → IsOwn file events v (read now v)
  own_read now v own = own_or_zeros (get now.body v) v (own v)

  pub own_index : (first k : ℕ) (from : List Block) → AreOwn file events first from → IsOwn file events (first + k) (slice_index_or from k zero_block)
  own_index first k from own =
      subst (IsOwn file events (first + k)) (unwrap_or-slice_get from k zero_block) (own_or_zeros (slice_get from k) (first + k) (own k))

  pub own_range : (now : File) (v n : ℕ) → HoldsOwn now.body → AreOwn file events v (map (read now) (range_with_len v n))
  own_range now v zero own k block is = absurd (none-some block is)
  own_range now v (suc n) own zero block is =
      let here : v ≡ v + 0 = omega arith in
      subst (λ (at : ℕ). IsOwn file events at block) here (subst (IsOwn file events v) (same_Some (read now v) block is) (own_read now v own))
  own_range now v (suc n) own (suc k) block is =
      let there : v + 1 + k ≡ v + suc k = omega arith in
      subst (λ (at : ℕ). IsOwn file events at block) there (own_range now (v + 1) n own k block is)

  -- What is changed

  pub HoldsOwn-empty : HoldsOwn empty
  HoldsOwn-empty v block there = absurd (none-some block (sym (get-empty {X = Block} nat_cmp v) ∙ there))

  HoldsOwn-insert : (body : Body) (v : ℕ) (block : Block) → HoldsOwn body → IsOwn file events v block → HoldsOwn (insert body v block)
  HoldsOwn-insert body v block own one k other there =
      ⊎_elim (λ (here : k ≡ v).
      let same = same_Some block other (sym (get-insert_same body v block) ∙ sym (ap (get (insert body v block)) here) ∙ there) in
      subst (IsOwn file events k) same (subst (λ (at : ℕ). IsOwn file events at block) (sym here) one))
      (λ (apart : k ≢ v). own k other (sym (get-insert_other body v block k apart) ∙ there)) (cases_eq k v)

  HoldsOwn-with_zeros : (body : Body) (blocks : List ℕ) → HoldsOwn body → HoldsOwn (with_zeros body blocks)
  HoldsOwn-with_zeros body [] own = own
  HoldsOwn-with_zeros body (v ∷ blocks) own = HoldsOwn-with_zeros (insert body v zero_block) blocks (HoldsOwn-insert body v zero_block own (inl refl))

  HoldsOwn-below : (length : ℕ) (body : Body) → HoldsOwn body → HoldsOwn (below length body)
  HoldsOwn-below length body own v block there =
      ⊎_elim (λ (less : v < length). own v block (sym (get-below_kept body length v less) ∙ there))
      (λ (past : length ≤ v). absurd (none-some block (sym (get-below_gone body length v past) ∙ there))) (cases_lt v length)

  pub own_change : (change : Change) (now : Option File) → PutsOwn change → HoldsOwnIn now → HoldsOwnIn (file_after change now)
  own_change (create n name length) now puts own = HoldsOwn-empty
  own_change (delete n) now puts own = tt
  own_change (resize n length) None puts own = tt
  own_change (resize n length) (Some now) puts own = HoldsOwn-below length now.body own
  own_change (hold n blocks) None puts own = tt
  own_change (hold n blocks) (Some now) puts own = HoldsOwn-with_zeros now.body blocks own
  own_change (put n v block) None puts own = tt
  own_change (put n v block) (Some now) puts own = HoldsOwn-insert now.body v block own puts

  pub own_changes : (changes : List Change) (now : Option File) → AllByRecursion PutsOwn changes → HoldsOwnIn now → HoldsOwnIn (file_after_all changes now)
  own_changes [] now puts own = own
  own_changes (change ∷ changes) now puts own = own_changes changes (file_after change now) puts.1 (own_change change now puts.0 own)

  pub own_holding : (n : ℕ) (blocks : List ℕ) → AllByRecursion PutsOwn (holding n blocks)
  own_holding n [] = tt
  own_holding n (v ∷ blocks) = (tt, tt)
