-- The blocks by their places: what the map has at a place, before and after a block is staged or goes.
use Rattle.std.proofs.Common.{◌≡◌, ◌≢◌, ◌⊎◌, ℕ, zero, suc, ◌+◌, ◌-◌, ◌<◌, ◌≤◌, Bool, false, cond, ◌||◌, inl, inr, List, [], ◌∷◌, ◌++◌, length, take, get_or, Option, None, Some, is_some, slice_get, refl, sym, ap, subst, ◌∙◌, arith, eqb, T}
use Rattle.std.specs.Prelude.{slice_set, zip, swap_remove, IsPermutation, IsSorted}
use Rattle.std.specs.Cmp.{nat_cmp_total, nat_eq_equiv, unsigned_tied, eq_by_cmp_equiv}
use Rattle.std.specs.FinMap.{FinMap, entries, find, from_entries, get, contains_key, insert, keys, len, remove, entries_sorted, contains_key-keys, from_entries_push, get-from_entries, len-empty, len-insert, same_map, is_sorted}
use Rattle.std.specs.FinMap.Entries.{below_all, is_some-find}
use Rattle.std.specs.List.{AllByRecursion, IsDistinct, list_any}
use Rattle.std.specs.List.Sorted.{IsStrictlySortedBy}
use Rattle.std.specs.Map.{keys_of, lookup}
use Rattle.std.specs.Ordering.{nat_cmp, eq_by_cmp}
use Rattle.std.specs.declared.cmp.Ordering.TheVariants.{Less}
use Rattle.std.proofs.lemmas.Bool.{cases_eq, ne_eqb, eqb-true}
use Rattle.std.proofs.lemmas.List.{length-map, length-set, length-take, length_push}
use Rattle.std.proofs.lemmas.List.Sorted.{IsNonDecreasingBy-from_sort, list_any-IsPermutation}
use Rattle.std.proofs.lemmas.Map.Entries.{lookup_from_place, place_from_lookup}
use Rattle.std.proofs.lemmas.Map.Keys.{IsDistinct-from_apart, IsDistinct-head, IsDistinct-tail, IsDistinct-IsPermutation, IsStrictlyIncreasing-from_distinct, sorted_from_strictly_increasing}
use Rattle.std.proofs.lemmas.Map.Lookups.{btree_set_from_contains, exact_unsigned}
use Rattle.std.proofs.lemmas.Option.{none-some, same_Some, some_pair_parts, slice_get_within, slice_get-get_or, slice_get_read}
use Rattle.nesc_base.proofs.Differing.{slice_get-set_same, slice_get-set_other}
use Rattle.nesc_base.proofs.Maps.{get-remove_other, get-remove_same, get-insert_same, get-insert_other}
use Rattle.nesc_base.specs.declared.block.Block.{Block}
use Rattle.host_journal.specs.Staged.{Staged, targets_of}
use Rattle.host_journal.specs.Store.{AreStaged, IsPlaceOf, Store, staged_as}
use Rattle.host_journal.proofs.Keys.{back, front, less}

-- ---- two lists side by side

module _ {A B : Type 0} where
  slice_get-zip : (xs : List A) (ys : List B) (i : ℕ) (x : A) (y : B) → slice_get xs i ≡ Some x → slice_get ys i ≡ Some y → slice_get (zip xs ys) i ≡ Some (x, y)
  slice_get-zip [] ys i x y one other = absurd (none-some x one)
  slice_get-zip (a ∷ xs) [] i x y one other = absurd (none-some y other)
  slice_get-zip (a ∷ xs) (b ∷ ys) zero x y one other =
      let first : a ≡ x = same_Some a x one in
      let second : b ≡ y = same_Some b y other in
      λ i. Some (first i, second i)
  slice_get-zip (a ∷ xs) (b ∷ ys) (suc i) x y one other = slice_get-zip xs ys i x y one other

  parts_at : (xs : List A) (ys : List B) (i : ℕ) (x : A) (y : B) → slice_get (zip xs ys) i ≡ Some (x, y) → (slice_get xs i ≡ Some x) × (slice_get ys i ≡ Some y)
  parts_at [] ys i x y at = absurd (none-some (x, y) at)
  parts_at (a ∷ xs) [] i x y at = absurd (none-some (x, y) at)
  parts_at (a ∷ xs) (b ∷ ys) zero x y at = let parts = some_pair_parts a x b y at in (ap Some parts.0, ap Some parts.1)
  parts_at (a ∷ xs) (b ∷ ys) (suc i) x y at = parts_at xs ys i x y at

  keys_of-zip : (xs : List A) (ys : List B) → length ys ≡ length xs → keys_of (zip xs ys) ≡ xs
  keys_of-zip [] ys paired = refl
  keys_of-zip (x ∷ xs) [] paired = absurd (omega arith)
  keys_of-zip (x ∷ xs) (y ∷ ys) paired = ap (λ rest. x ∷ rest) (keys_of-zip xs ys (omega arith))

  zip_push : (xs : List A) (ys : List B) (x : A) (y : B) → length ys ≡ length xs → zip (xs ++ x ∷ []) (ys ++ y ∷ []) ≡ zip xs ys ++ (x, y) ∷ []
  zip_push [] [] x y paired = refl
  zip_push [] (b ∷ ys) x y paired = absurd (omega arith)
  zip_push (a ∷ xs) [] x y paired = absurd (omega arith)
  zip_push (a ∷ xs) (b ∷ ys) x y paired = ap (λ rest. (a, b) ∷ rest) (zip_push xs ys x y (omega arith))

-- ---- one list after a push and after a removal

module _ {A : Type 0} where
  pub push_old : (xs : List A) (y : A) (k : ℕ) (x : A) → slice_get xs k ≡ Some x → slice_get (xs ++ y ∷ []) k ≡ Some x
  push_old [] y k x at = absurd (none-some x at)
  push_old (a ∷ xs) y zero x at = at
  push_old (a ∷ xs) y (suc k) x at = push_old xs y k x at

  pub push_last : (xs : List A) (y : A) → slice_get (xs ++ y ∷ []) (length xs) ≡ Some y
  push_last [] y = refl
  push_last (a ∷ xs) y = push_last xs y

  pub push_cases : (xs : List A) (y : A) (k : ℕ) (x : A) → slice_get (xs ++ y ∷ []) k ≡ Some x → (slice_get xs k ≡ Some x) ⊎ ((k ≡ length xs) × (y ≡ x))
  push_cases [] y zero x at = inr (refl, same_Some y x at)
  push_cases [] y (suc k) x at = absurd (none-some x at)
  push_cases (a ∷ xs) y zero x at = inl at
  push_cases (a ∷ xs) y (suc k) x at = elim (push_cases xs y k x at) [
    | inl old ↦ inl old
    | inr last ↦ inr (ap suc last.0, last.1)
  ]

  pub slice_get-take : (n : ℕ) (xs : List A) (k : ℕ) → k < n → slice_get (take n xs) k ≡ slice_get xs k
  slice_get-take zero xs k below = absurd (omega arith)
  slice_get-take (suc n) [] k below = refl
  slice_get-take (suc n) (x ∷ xs) zero below = refl
  slice_get-take (suc n) (x ∷ xs) (suc k) below = slice_get-take n xs k (omega arith)

-- what is not the same does not stand at the same place
elsewhere : (xs : List ℕ) (i j x y : ℕ) → slice_get xs i ≡ Some x → slice_get xs j ≡ Some y → y ≢ x → j ≢ i
elsewhere xs i j x y one other differ same = differ (same_Some y x (sym other ∙ ap (slice_get xs) same ∙ one))

-- After the i-th of n has gone, and the last stands in its place, the one at k is the one that was at j.
pub record Moves (n i k j : ℕ) : Type 0 where
  pub below : k < n - 1
  pub other : j ≢ i
  pub was : ((k ≢ i) × (j ≡ k)) ⊎ ((k ≡ i) × (j ≡ n - 1))

Moves_back : (n i k : ℕ) → k < n - 1 → (j : ℕ) × Moves n i k j
Moves_back n i k below = elim (cases_eq k i) [
  | inl same ↦ (n - 1, record { below = below; other = λ e. omega (arith, e, same, below); was = inr (same, refl) })
  | inr other ↦ (k, record { below = below; other = other; was = inl (other, refl) })
]

Moves_forth : (n i j : ℕ) → i < n → j < n → j ≢ i → (k : ℕ) × Moves n i k j
Moves_forth n i j within there other = elim (cases_eq j (n - 1)) [
  | inl last ↦ (i, record { below = omega (arith, last, other); other = other; was = inr (refl, last) })
  | inr before ↦ (j, record { below = omega (arith, before); other = other; was = inl (other, refl) })
]

module _ {A : Type 0} (xs : List A) (i : ℕ) (d : A) (within : i < length xs) where
  length-swap_remove : length (swap_remove xs i d) ≡ length xs - 1
  length-swap_remove = omega (arith, length-take (length xs - 1) (slice_set xs i (get_or xs (length xs - 1) d)), length-set xs i (get_or xs (length xs - 1) d))

  slice_get-swap_remove : (n k j : ℕ) → n ≡ length xs → Moves n i k j → slice_get (swap_remove xs i d) k ≡ slice_get xs j
  slice_get-swap_remove n k j all moves =
      slice_get-take (length xs - 1) _ k (omega (arith, moves.below)) ∙ elim moves.was [
        | inl stays ↦ slice_get-set_other xs i k _ stays.0 ∙ ap (slice_get xs) (sym stays.1)
        | inr moved ↦ ap (slice_get _) moved.0 ∙ slice_get-set_same xs i _ within ∙ sym (slice_get-get_or xs (length xs - 1) d (omega arith)) ∙ ap (slice_get xs) (ap (λ m. m - 1) (sym all) ∙ sym moved.1)
      ]

  -- where the one at k was
  was_at : (k : ℕ) (x : A) → slice_get (swap_remove xs i d) k ≡ Some x → (j : ℕ) × Moves (length xs) i k j × (slice_get xs j ≡ Some x)
  was_at k x is =
      let moves = Moves_back (length xs) i k (omega (arith, length-swap_remove, slice_get_within (swap_remove xs i d) k x is)) in
      (moves.0, moves.1, sym (slice_get-swap_remove (length xs) k moves.0 refl moves.1) ∙ is)

-- ---- what a map of places and blocks has

module _ {X : Type 0} where
  same_answers : (one other : Option X) → ((x : X) → one ≡ Some x → other ≡ Some x) → ((x : X) → other ≡ Some x → one ≡ Some x) → one ≡ other
  same_answers None None forth back = refl
  same_answers None (Some y) forth back = back y refl
  same_answers (Some x) other forth back = sym (forth x refl)

  find_lookup : (es : List (ℕ × X)) (q : ℕ) → find nat_cmp q es ≡ lookup (eq_by_cmp nat_cmp q) es
  find_lookup [] q = refl
  find_lookup (e ∷ es) q = ap (cond (eq_by_cmp nat_cmp q e.0) (Some e.1)) (find_lookup es q)

  get_lookup : (es : List (ℕ × X)) (q : ℕ) → get (from_entries {R = nat_cmp} es) q ≡ lookup (eq_by_cmp nat_cmp q) es
  get_lookup es q = get-from_entries nat_cmp_total es q ∙ find_lookup es q

  contains_key-entries : (es : List (ℕ × X)) (q : ℕ) → contains_key (from_entries {R = nat_cmp} es) q ≡ list_any (eq_by_cmp nat_cmp q) (keys_of es)
  contains_key-entries es q = ap is_some (get-from_entries nat_cmp_total es q) ∙ is_some-find nat_cmp q es

no_key : {K : Type 0} (test : K → Bool) (ks : List K) → AllByRecursion (λ k. test k ≡ false) ks → list_any test ks ≡ false
no_key test [] none = refl
no_key test (k ∷ ks) none = ap (λ b. b || list_any test ks) none.0 ∙ no_key test ks none.1

module _ {X : Type 0} where
  -- entries whose keys differ are as many as what they make has
  count_of : (es : List (ℕ × X)) → IsDistinct (eq_by_cmp nat_cmp) (keys_of es) → len (from_entries {R = nat_cmp} es) ≡ length es
  count_of [] apart = len-empty nat_cmp X
  count_of (e ∷ es) apart =
      let rest : FinMap nat_cmp X = from_entries es in
      let absent : contains_key rest e.0 ≡ false = contains_key-entries es e.0 ∙ no_key (eq_by_cmp nat_cmp e.0) (keys_of es) (IsDistinct-head (eq_by_cmp nat_cmp) e.0 (keys_of es) apart) in
      let fewer : len rest ≡ length es = count_of es (IsDistinct-tail (eq_by_cmp nat_cmp) e.0 (keys_of es) apart) in
      len-insert nat_cmp_total rest e.0 e.1 ∙ ap (λ b. cond b (len rest) (len rest + 1)) absent ∙ omega (arith, fewer)

  all_above : (k : ℕ) (es : List (ℕ × X)) → T (below_all nat_cmp k es) → AllByRecursion (λ y. nat_cmp k y ≡ Less) (keys_of es)
  all_above k [] below = tt
  all_above k (e ∷ es) below = (less _ (front _ _ below), all_above k es (back _ _ below))

  keys_rise : (es : List (ℕ × X)) → T (is_sorted nat_cmp es) → IsStrictlySortedBy nat_cmp (keys_of es)
  unfolding IsStrictlySortedBy
  keys_rise [] rising = tt
  keys_rise (e ∷ es) rising = (all_above e.0 es (front _ _ rising), keys_rise es (back _ _ rising))

  -- numbers that rise are the keys of a map that has just these
  keys_are : (m : FinMap nat_cmp X) (ks : List ℕ) → IsStrictlySortedBy nat_cmp ks → ((q : ℕ) → contains_key m q ≡ list_any (eq_by_cmp nat_cmp q) ks) → keys m ≡ ks
  keys_are m ks rising same =
      btree_set_from_contains nat_cmp_total (record { keys = keys m }) (record { keys = ks }) (keys_rise (entries m) (entries_sorted m)) rising (λ q. sym (contains_key-keys m q) ∙ same q) exact_unsigned

-- maps that have the same at one place, and the same blocks at the others, are one
same_staged : (one other : Staged) (at : ℕ) → get one at ≡ get other at → ((q : ℕ) (block : Block) → q ≢ at → get one q ≡ Some block → get other q ≡ Some block) → ((q : ℕ) (block : Block) → q ≢ at → get other q ≡ Some block → get one q ≡ Some block) → one ≡ other
same_staged one other at here forth back = same_map nat_cmp_total exact_unsigned one other (λ q. elim (cases_eq q at) [
  | inl same ↦ ap (get one) same ∙ here ∙ sym (ap (get other) same)
  | inr apart ↦ same_answers (get one q) (get other q) (λ block. forth q block apart) (λ block. back q block apart)
])

-- where nothing is, there is nothing to remove
pub remove_none : (staged : Staged) (at : ℕ) → get staged at ≡ None → staged ≡ remove staged at
remove_none staged at none = same_staged staged (remove staged at) at (none ∙ sym (get-remove_same staged at))
    (λ q block away is. get-remove_other staged at q away ∙ is)
    (λ q block away is. sym (get-remove_other staged at q away) ∙ is)

-- ---- the map of the targets and blocks

-- no place stands twice
pub AreApart : List ℕ → Type 0
AreApart targets = (i j at : ℕ) → slice_get targets i ≡ Some at → slice_get targets j ≡ Some at → i ≡ j

pub AreApart-staged : {from room targets_capacity blocks_capacity : ℕ} {index : List (Option ℕ)} {targets : List ℕ} {blocks : List Block} → AreStaged from index targets blocks room targets_capacity blocks_capacity → AreApart targets
unfolding AreApart
AreApart-staged are i j at one other = same_Some i j (same_Some (Some i) (Some j) (sym (are.found i at one).1 ∙ (are.found j at other).1))

distinct : (e : ℕ → ℕ → Bool) → ((x y : ℕ) → x ≢ y → e x y ≡ false) → (targets : List ℕ) → AreApart targets → IsDistinct e targets
unfolding AreApart
distinct e differ targets apart = IsDistinct-from_apart e targets (λ i j d less within.
    let one = slice_get-get_or targets i d (omega arith) in
    let other = slice_get-get_or targets j d within in
    differ _ _ (λ same. let e : i ≡ j = apart i j (get_or targets j d) (one ∙ ap Some same) other in omega arith))

distinct_keys : (targets : List ℕ) → AreApart targets → IsDistinct (eq_by_cmp nat_cmp) targets
distinct_keys = distinct (eq_by_cmp nat_cmp) (λ x y apart. unsigned_tied x y ∙ ne_eqb x y apart)

module _ (targets : List ℕ) (blocks : List Block) where
  -- the block at a place stands where its target does
  pub standing : (at : ℕ) (block : Block) → get (staged_as targets blocks) at ≡ Some block → (i : ℕ) × (slice_get targets i ≡ Some at) × (slice_get blocks i ≡ Some block)
  standing at block is =
      let found = place_from_lookup (eq_by_cmp nat_cmp at) (zip targets blocks) block (sym (get_lookup (zip targets blocks) at) ∙ is) in
      let same : found.1 ≡ at = sym (eqb-true at found.1 (sym (unsigned_tied at found.1) ∙ found.3)) in
      let parts = parts_at targets blocks found.0 found.1 block found.2 in
      (found.0, parts.0 ∙ ap Some same, parts.1)

  pub none_stands : (at : ℕ) → ((i : ℕ) → slice_get targets i ≡ Some at → ⊥) → get (staged_as targets blocks) at ≡ None
  none_stands at none = same_answers _ None (λ block is. let stands = standing at block is in absurd (none stands.0 stands.1)) (λ block is. absurd (none-some block is))

  module _ (paired : length blocks ≡ length targets) (apart : AreApart targets) where
    keys_apart : IsDistinct (eq_by_cmp nat_cmp) (keys_of (zip targets blocks))
    keys_apart = subst (IsDistinct (eq_by_cmp nat_cmp)) (sym (keys_of-zip targets blocks paired)) (distinct_keys targets apart)

    -- and the other way round
    pub stands : (i at : ℕ) (block : Block) → slice_get targets i ≡ Some at → slice_get blocks i ≡ Some block → get (staged_as targets blocks) at ≡ Some block
    stands i at block target there =
        get_lookup (zip targets blocks) at
        ∙ lookup_from_place (eq_by_cmp_equiv nat_cmp_total) (zip targets blocks) i at block keys_apart (slice_get-zip targets blocks i at block target there)

    -- as many are staged as there are targets
    pub len-staged : len (staged_as targets blocks) ≡ length targets
    len-staged = count_of (zip targets blocks) keys_apart ∙ sym (length-map (zip targets blocks) (λ e. e.0)) ∙ ap length (keys_of-zip targets blocks paired)

    -- the places in rising order are the targets, sorted
    pub targets_of-sorted : (sorted : List ℕ) → IsPermutation targets sorted → IsSorted nat_cmp sorted → sorted ≡ targets_of (staged_as targets blocks)
    targets_of-sorted sorted moved rising = sym (keys_are (staged_as targets blocks) sorted strictly same)
      where
        strictly : IsStrictlySortedBy nat_cmp sorted
        strictly =
            let differ = IsDistinct-IsPermutation eqb nat_eq_equiv.symm targets sorted moved (distinct eqb ne_eqb targets apart) in
            sorted_from_strictly_increasing sorted (IsStrictlyIncreasing-from_distinct sorted (IsNonDecreasingBy-from_sort (λ x. x) sorted rising) differ)

        same : (q : ℕ) → contains_key (staged_as targets blocks) q ≡ list_any (eq_by_cmp nat_cmp q) sorted
        same q =
            contains_key-entries (zip targets blocks) q
            ∙ ap (list_any (eq_by_cmp nat_cmp q)) (keys_of-zip targets blocks paired)
            ∙ list_any-IsPermutation (eq_by_cmp nat_cmp q) targets sorted moved

-- ---- what is staged after a change

module _ {targets : List ℕ} {blocks : List Block} {from room targets_capacity blocks_capacity : ℕ} {index : List (Option ℕ)} (are : AreStaged from index targets blocks room targets_capacity blocks_capacity) where
  -- the block of a target
  pub staged_at : (i at : ℕ) (block : Block) → slice_get targets i ≡ Some at → slice_get blocks i ≡ Some block → get (staged_as targets blocks) at ≡ Some block
  staged_at = stands targets blocks are.paired (AreApart-staged are)

  -- a place has its target where its index says
  pub target_at : (at i : ℕ) → from ≤ at → slice_get index (at - from) ≡ Some (Some i) → slice_get targets i ≡ Some at
  target_at at i after is = are.only (at - from) i is ∙ ap Some (omega arith)

  -- and none where its index is none
  pub no_target : (at : ℕ) → slice_get index (at - from) ≡ Some None → (i : ℕ) → slice_get targets i ≡ Some at → ⊥
  no_target at is i target = none-some i (same_Some None (Some i) (sym is ∙ (are.found i at target).1))

  -- and what the index says is within both lists
  pub target_within : (at i : ℕ) → from ≤ at → slice_get index (at - from) ≡ Some (Some i) → i < length targets
  target_within at i after is = slice_get_within targets i at (target_at at i after is)

  pub block_within : (at i : ℕ) → from ≤ at → slice_get index (at - from) ≡ Some (Some i) → i < length blocks
  block_within at i after is = omega (arith, target_within at i after is, are.paired)

  -- the last target as it is read
  pub last_read : (i last count : ℕ) → i < length targets → count ≡ length targets → last ≡ get_or targets (count - 1) last → slice_get targets (length targets - 1) ≡ Some last
  last_read i last count within all is = slice_get_read targets (length targets) (length targets - 1) last refl (omega (arith, within)) (is ∙ ap (λ n. get_or targets (n - 1) last) all)

  -- there is space for one more where a place that has none may get one
  pub space_left : (at : ℕ) → slice_get index (at - from) ≡ Some None → {places : ℕ} {store : Store} → record { staged = staged_as targets blocks; from = from; places = places; room = room } ≡ store → (contains_key store.staged at ≡ false → len store.staged < store.room) → length targets < room
  space_left at none {store = store} view space =
      let absent : contains_key store.staged at ≡ false = ap (λ s. contains_key s.staged at) (sym view) ∙ ap is_some (none_stands targets blocks at (no_target at none)) in
      let count : length targets ≡ len store.staged = sym (len-staged targets blocks are.paired (AreApart-staged are)) ∙ ap (λ s. len s.staged) view in
      let fewer : len store.staged < store.room = space absent in
      let same : room ≡ store.room = ap (λ s. s.room) view in
      omega arith

  -- another block at a place that has one
  pub staged_as-over : (i at : ℕ) (block : Block) → slice_get targets i ≡ Some at → staged_as targets (slice_set blocks i block) ≡ insert (staged_as targets blocks) at block
  staged_as-over i at block target =
      same_staged (staged_as targets written) (insert staged at block) at (here ∙ sym (get-insert_same staged at block)) forth back
    where
      staged : Staged
      staged = staged_as targets blocks

      written : List Block
      written = slice_set blocks i block

      still : (j q : ℕ) (other : Block) → slice_get targets j ≡ Some q → slice_get written j ≡ Some other → get (staged_as targets written) q ≡ Some other
      still = stands targets written (length-set blocks i block ∙ are.paired) (AreApart-staged are)

      here : get (staged_as targets written) at ≡ Some block
      here = still i at block target (slice_get-set_same blocks i block (omega (arith, are.paired, slice_get_within targets i at target)))

      forth : (q : ℕ) (other : Block) → q ≢ at → get (staged_as targets written) q ≡ Some other → get (insert staged at block) q ≡ Some other
      forth q other away is =
          let new = standing targets written q other is in
          let stays = slice_get-set_other blocks i new.0 block (elsewhere targets i new.0 at q target new.1 away) in
          get-insert_other staged at block q away ∙ staged_at new.0 q other new.1 (sym stays ∙ new.2)

      back : (q : ℕ) (other : Block) → q ≢ at → get (insert staged at block) q ≡ Some other → get (staged_as targets written) q ≡ Some other
      back q other away is =
          let old = standing targets blocks q other (sym (get-insert_other staged at block q away) ∙ is) in
          let stays = slice_get-set_other blocks i old.0 block (elsewhere targets i old.0 at q target old.1 away) in
          still old.0 q other old.1 (stays ∙ old.2)

  -- a block at a place that had none
  module _ (at : ℕ) (block : Block) (none : slice_get index (at - from) ≡ Some None) where
    pub staged_as-new : staged_as (targets ++ at ∷ []) (blocks ++ block ∷ []) ≡ insert (staged_as targets blocks) at block
    staged_as-new =
        ap from_entries (zip_push targets blocks at block are.paired)
        ∙ from_entries_push nat_cmp_total exact_unsigned (zip targets blocks) at block
        (sym (get-from_entries nat_cmp_total (zip targets blocks) at) ∙ none_stands targets blocks at (no_target at none))

    pub AreStaged-new : from ≤ at → length targets < room → (targets_space blocks_space : ℕ) → room ≤ targets_space → room ≤ blocks_space → AreStaged from (slice_set index (at - from) (Some (length targets))) (targets ++ at ∷ []) (blocks ++ block ∷ []) room targets_space blocks_space
    AreStaged-new after space _ _ targets_fit blocks_fit = record {
      paired = omega (arith, length_push blocks block, length_push targets at, are.paired);
      found = λ i q is. found i q (push_cases targets at i q is);
      only = only;
      fits = omega (arith, length-set index (at - from) (Some (length targets)), are.fits);
      few = are.few;
      within = omega (arith, length_push targets at);
      room_for_targets = targets_fit;
      room_for_blocks = blocks_fit;
    }
      where
        new : List (Option ℕ)
        new = slice_set index (at - from) (Some (length targets))

        there : slice_get new (at - from) ≡ Some (Some (length targets))
        there = slice_get-set_same index (at - from) (Some (length targets)) (slice_get_within index (at - from) None none)

        found : (i q : ℕ) → (slice_get targets i ≡ Some q) ⊎ ((i ≡ length targets) × (at ≡ q)) → (from ≤ q) × (slice_get new (q - from) ≡ Some (Some i))
        found i q (inl old) =
            let was = are.found i q old in
            let away : q - from ≢ at - from = λ same. no_target at none i (old ∙ ap Some (omega (arith, was.0))) in
            (was.0, slice_get-set_other index (at - from) (q - from) _ away ∙ was.1)
        found i q (inr last) = (omega (arith, last.1), ap (λ p. slice_get new (p - from)) (sym last.1) ∙ there ∙ ap (λ n. Some (Some n)) (sym last.0))

        only : (place i : ℕ) → slice_get new place ≡ Some (Some i) → slice_get (targets ++ at ∷ []) i ≡ Some (from + place)
        only place i is = elim (cases_eq place (at - from)) [
          | inl here ↦
              let same : length targets ≡ i = same_Some _ _ (same_Some _ _ (sym there ∙ ap (slice_get new) (sym here) ∙ is)) in
              ap (slice_get (targets ++ at ∷ [])) (sym same) ∙ push_last targets at ∙ ap Some (omega arith)
          | inr away ↦ push_old targets at i (from + place) (are.only place i (sym (slice_get-set_other index (at - from) place _ away) ∙ is))
        ]

  -- a place and its block have gone, and the last have taken their places
  module _ (at i last d : ℕ) (e : Block) (after : from ≤ at) (here : slice_get index (at - from) ≡ Some (Some i)) (ends : slice_get targets (length targets - 1) ≡ Some last) where
    target : slice_get targets i ≡ Some at
    target = target_at at i after here

    within : i < length targets
    within = slice_get_within targets i at target

    within_blocks : i < length blocks
    within_blocks = omega (arith, within, are.paired)

    only_there : (j : ℕ) → slice_get targets j ≡ Some at → j ≡ i
    unfolding AreApart
    only_there j is = AreApart-staged are j i at is target

    only_last : (j : ℕ) → slice_get targets j ≡ Some last → j ≡ length targets - 1
    unfolding AreApart
    only_last j is = AreApart-staged are j (length targets - 1) last is ends

    last_after : from ≤ last
    last_after = (are.found (length targets - 1) last ends).0

    abbrev moved_index : List (Option ℕ)
    moved_index = slice_set index (last - from) (Some i)

    abbrev new_index : List (Option ℕ)
    new_index = slice_set moved_index (at - from) None

    abbrev targets_left : List ℕ
    targets_left = swap_remove targets i d

    abbrev blocks_left : List Block
    blocks_left = swap_remove blocks i e

    last_within : last - from < length index
    last_within = slice_get_within index (last - from) _ (are.found (length targets - 1) last ends).1

    last_moved : slice_get moved_index (last - from) ≡ Some (Some i)
    last_moved = slice_get-set_same index (last - from) (Some i) last_within

    gone : slice_get new_index (at - from) ≡ Some None
    gone = slice_get-set_same moved_index (at - from) None (omega (arith, length-set index (last - from) (Some i), slice_get_within index (at - from) (Some i) here))

    stays : (place : ℕ) → place ≢ last - from → slice_get moved_index place ≡ slice_get index place
    stays place apart = slice_get-set_other index (last - from) place (Some i) apart

    -- the index says k for what was at j and is at k now
    moved_to : (k j q : ℕ) → Moves (length targets) i k j → slice_get targets j ≡ Some q → from ≤ q → slice_get index (q - from) ≡ Some (Some j) → slice_get moved_index (q - from) ≡ Some (Some k)
    moved_to k j q moves is reach was = elim moves.was [
      | inl same ↦
          let apart : q - from ≢ last - from = λ e. omega (arith, only_last j (is ∙ ap Some (omega (arith, e, last_after))), same.1, moves.below) in
          stays (q - from) apart ∙ was ∙ ap (λ n. Some (Some n)) same.1
      | inr ending ↦
          let same : q ≡ last = same_Some q last (sym is ∙ ap (slice_get targets) ending.1 ∙ ends) in
          ap (λ p. slice_get moved_index (p - from)) same ∙ last_moved ∙ ap (λ n. Some (Some n)) (sym ending.0)
    ]

    found : (k q : ℕ) → slice_get targets_left k ≡ Some q → (from ≤ q) × (slice_get new_index (q - from) ≡ Some (Some k))
    found k q is =
        let was = was_at targets i d within k q is in
        let old = are.found was.0 q was.2 in
        let away : q - from ≢ at - from = λ same. was.1.other (only_there was.0 (was.2 ∙ ap Some (omega (arith, old.0)))) in
        (old.0, slice_get-set_other moved_index (at - from) (q - from) None away ∙ moved_to k was.0 q was.1 was.2 old.0 old.1)

    only : (place k : ℕ) → slice_get new_index place ≡ Some (Some k) → slice_get targets_left k ≡ Some (from + place)
    only place k is = elim (cases_eq place (at - from)) [
      | inl same ↦ absurd (none-some k (same_Some None (Some k) (sym gone ∙ ap (slice_get new_index) (sym same) ∙ is)))
      | inr away ↦
          let before : slice_get moved_index place ≡ Some (Some k) = sym (slice_get-set_other moved_index (at - from) place None away) ∙ is in
          elim (cases_eq place (last - from)) [
            | inl same ↦
                let first : i ≡ k = same_Some i k (same_Some (Some i) (Some k) (sym last_moved ∙ ap (slice_get moved_index) (sym same) ∙ before)) in
                let apart : length targets - 1 ≢ i = elsewhere targets i (length targets - 1) at last target ends (λ one. away (same ∙ ap (λ p. p - from) one)) in
                let moves : Moves (length targets) i k (length targets - 1) = record { below = omega (arith, first, apart, within); other = apart; was = inr (sym first, refl) } in
                slice_get-swap_remove targets i d within (length targets) k (length targets - 1) refl moves ∙ ends ∙ ap Some (omega (arith, same, last_after))
            | inr apart ↦
                let stood : slice_get targets k ≡ Some (from + place) = are.only place k (sym (stays place apart) ∙ before) in
                let other : k ≢ i = elsewhere targets i k at (from + place) target stood (λ one. away (omega (arith, one))) in
                let inner : k ≢ length targets - 1 = elsewhere targets (length targets - 1) k last (from + place) ends stood (λ one. apart (omega (arith, one))) in
                let moves : Moves (length targets) i k k = record { below = omega (arith, inner, slice_get_within targets k (from + place) stood); other = other; was = inl (other, refl) } in
                slice_get-swap_remove targets i d within (length targets) k k refl moves ∙ stood
          ]
    ]

    lengths : length blocks_left ≡ length targets_left
    lengths = length-swap_remove blocks i e within_blocks ∙ ap (λ n. n - 1) are.paired ∙ sym (length-swap_remove targets i d within)

    pub AreStaged-without : (targets_space blocks_space : ℕ) → room ≤ targets_space → room ≤ blocks_space → AreStaged from new_index targets_left blocks_left room targets_space blocks_space
    AreStaged-without _ _ targets_fit blocks_fit = record {
      paired = lengths;
      found = found;
      only = only;
      fits = omega (arith, length-set index (last - from) (Some i), length-set moved_index (at - from) None, are.fits);
      few = are.few;
      within = omega (arith, length-swap_remove targets i d within, are.within);
      room_for_targets = targets_fit;
      room_for_blocks = blocks_fit;
    }

    pub staged_as-without : staged_as targets_left blocks_left ≡ remove (staged_as targets blocks) at
    staged_as-without = same_staged (staged_as targets_left blocks_left) (remove staged at) at (none_stands targets_left blocks_left at nowhere ∙ sym (get-remove_same staged at)) forth back
      where
        staged : Staged
        staged = staged_as targets blocks

        nowhere : (k : ℕ) → slice_get targets_left k ≡ Some at → ⊥
        nowhere k is = let was = was_at targets i d within k at is in was.1.other (only_there was.0 was.2)

        forth : (q : ℕ) (block : Block) → q ≢ at → get (staged_as targets_left blocks_left) q ≡ Some block → get (remove staged at) q ≡ Some block
        forth q block away is =
            let new = standing targets_left blocks_left q block is in
            let was = was_at targets i d within new.0 q new.1 in
            let moved = slice_get-swap_remove blocks i e within_blocks (length targets) new.0 was.0 (sym are.paired) was.1 in
            get-remove_other staged at q away ∙ staged_at was.0 q block was.2 (sym moved ∙ new.2)

        still : AreApart targets_left
        still = AreApart-staged (AreStaged-without room room (omega arith) (omega arith))

        back : (q : ℕ) (block : Block) → q ≢ at → get (remove staged at) q ≡ Some block → get (staged_as targets_left blocks_left) q ≡ Some block
        back q block away is =
            let old = standing targets blocks q block (sym (get-remove_other staged at q away) ∙ is) in
            let moves = Moves_forth (length targets) i old.0 within (slice_get_within targets old.0 q old.1) (elsewhere targets i old.0 at q target old.1 away) in
            stands targets_left blocks_left lengths still moves.0 q block
            (slice_get-swap_remove targets i d within (length targets) moves.0 old.0 refl moves.1 ∙ old.1)
            (slice_get-swap_remove blocks i e within_blocks (length targets) moves.0 old.0 (sym are.paired) moves.1 ∙ old.2)

-- ---- an index whose places are cleared one after another

-- What is left in the index is where the targets from the k-th on stand.
pub record AreLeft (from : ℕ) (index : List (Option ℕ)) (targets : List ℕ) (k places : ℕ) : Type 0 where
  pub only : (place i : ℕ) → slice_get index place ≡ Some (Some i) → (k ≤ i) × (slice_get targets i ≡ Some (from + place))
  pub whole : length index ≡ places

module _ {from k places : ℕ} {index : List (Option ℕ)} {targets : List ℕ} (left : AreLeft from index targets k places) where
  pub AreLeft-more : (at : ℕ) → slice_get targets k ≡ Some at → AreLeft from (slice_set index (at - from) None) targets (k + 1) places
  AreLeft-more at target = record {
    only = λ place i is. elim (cases_eq place (at - from)) [
      | inl here ↦
          let within : at - from < length index = omega (arith, here, slice_get_within (slice_set index (at - from) None) place (Some i) is, length-set index (at - from) None) in
          absurd (none-some i (same_Some None (Some i) (sym (slice_get-set_same index (at - from) None within) ∙ ap (slice_get _) (sym here) ∙ is)))
      | inr away ↦
          let old = left.only place i (sym (slice_get-set_other index (at - from) place None away) ∙ is) in
          let other : i ≢ k = elsewhere targets k i at (from + place) target old.1 (λ one. away (omega (arith, one))) in
          (omega (arith, old.0, other), old.1)
    ];
    whole = length-set index (at - from) None ∙ left.whole;
  }

  -- past the last nothing is left
  pub AreStaged-none : {old : List (Option ℕ)} {old_targets : List ℕ} {blocks : List Block} {room targets_capacity blocks_capacity : ℕ} → AreStaged from old old_targets blocks room targets_capacity blocks_capacity → places ≡ length old → length targets ≤ k → (targets_space blocks_space : ℕ) → room ≤ targets_space → room ≤ blocks_space → AreStaged from index [] [] room targets_space blocks_space
  AreStaged-none are all past _ _ targets_fit blocks_fit = record {
    paired = refl;
    found = λ i at is. absurd (none-some at is);
    only = λ place i is. let old = left.only place i is in absurd (omega (arith, old.0, slice_get_within targets i (from + place) old.1));
    fits = omega (arith, left.whole, all, are.fits);
    few = are.few;
    within = omega arith;
    room_for_targets = targets_fit;
    room_for_blocks = blocks_fit;
  }

-- ---- what is known of a store whose fields these are

module _ {store : Store} {staged : Staged} {from places room : ℕ} (view : record { staged = staged; from = from; places = places; room = room } ≡ store) where
  -- what was read of the index at a place
  pub index_at : (index : List (Option ℕ)) → places ≡ length index → {at : ℕ} {read : Option ℕ} → IsPlaceOf store at → read ≡ get_or index (at - from) read → (from ≤ at) × (slice_get index (at - from) ≡ Some read)
  index_at index all {at} place is =
      let first : from ≡ store.from = ap (λ s. s.from) view in
      let many : places ≡ store.places = ap (λ s. s.places) view in
      (omega (arith, place.0), slice_get_read index (length index) (at - from) _ refl (omega (arith, place.0, place.1)) is)

  -- a change of what is staged alone
  pub changed : (f : Staged → Staged) {new : Staged} {new_places : ℕ} → new ≡ f staged → new_places ≡ places → record { staged = new; from = from; places = new_places; room = room } ≡ record store { staged = f store.staged }
  changed f is same = λ i. record {
    staged = (is ∙ ap (λ s. f s.staged) view) i;
    from = (view i).from;
    places = (same ∙ ap (λ s. s.places) view) i;
    room = (view i).room;
  }
