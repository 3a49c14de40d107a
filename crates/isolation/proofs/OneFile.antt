-- What changes of files make of one of them.
use Rattle.std.proofs.Common.{◌≡◌, ◌≢◌, ℕ, ◌+◌, ◌==◌, Bool, true, false, cond, List, [], ◌∷◌, filter, Option, Some, None, refl, sym, ap, ◌∙◌, subst, ⊎_elim, IsSome, IsSomeAnd}
use Rattle.std.specs.FinMap.{empty, get, insert, remove}
use Rattle.std.specs.List.{AllByRecursion}
use Rattle.std.proofs.lemmas.Bool.{cases_eq, cond-false, cond-true, eq-eqb, eqb-true, ne_eqb}
use Rattle.nesc_base.specs.declared.block.Block.{Block}
use Rattle.nesc_base.specs.Files.{File, Files}
use Rattle.nesc_base.proofs.Maps.{get-insert_other, get-insert_same, get-remove_other, get-remove_same}
use Rattle.file_model.specs.Files.{Change, Changes, LeadsTo, below, create, delete, hold, holding, put, puts_from, resize, with_block, with_zeros}
use Rattle.isolation.specs.History.{is_of}
use Rattle.isolation.specs.Solo.{CanHold, IsPossible, file_after, file_after_all}

-- a test passes or fails
pub by_test : (P : Bool → Type 0) (b : Bool) → (b ≡ true → P true) → (b ≡ false → P false) → P b
by_test P true passes fails = passes refl
by_test P false passes fails = fails refl

-- Changes of one file

-- all of the changes are of the file of this number
abbrev pub AreOf : ℕ → List Change → Type 0
AreOf n = AllByRecursion (λ change. is_of n change ≡ true)

pub are_of_holding : (n : ℕ) (blocks : List ℕ) → AreOf n (holding n blocks)
are_of_holding n [] = tt
are_of_holding n (v ∷ blocks) = (eq-eqb n n refl, tt)

pub are_of_puts : (n v : ℕ) (blocks : List Block) → AreOf n (puts_from n v blocks)
are_of_puts n v [] = tt
are_of_puts n v (block ∷ blocks) = (eq-eqb n n refl, are_of_puts n (v + 1) blocks)

pub filter_all : {X : Type 0} (p : X → Bool) (xs : List X) → AllByRecursion (λ x. p x ≡ true) xs → filter p xs ≡ xs
filter_all p [] all = refl
filter_all p (x ∷ xs) all = cond-true (p x) _ _ all.0 ∙ ap (λ rest. x ∷ rest) (filter_all p xs all.1)

pub filter_none : {X : Type 0} (p : X → Bool) (xs : List X) → AllByRecursion (λ x. p x ≡ false) xs → filter p xs ≡ []
filter_none p [] all = refl
filter_none p (x ∷ xs) all = cond-false (p x) _ _ all.0 ∙ filter_none p xs all.1

-- a change of one file is none of another
of_other : (m n : ℕ) → m ≢ n → (change : Change) → is_of m change ≡ true → is_of n change ≡ false
of_other m n apart change is = is_no change is
  where
    other : (k : ℕ) → (k == m) ≡ true → (k == n) ≡ false
    other k is = ne_eqb k n (λ same. apart (sym (eqb-true k m is) ∙ same))

    is_no : (change : Change) → is_of m change ≡ true → is_of n change ≡ false
    is_no (create k name length) is = other k is
    is_no (delete k) is = other k is
    is_no (resize k length) is = other k is
    is_no (hold k blocks) is = other k is
    is_no (put k v block) is = other k is

of_others : (m n : ℕ) → m ≢ n → (changes : List Change) → AreOf m changes → AllByRecursion (λ change. is_of n change ≡ false) changes
of_others m n apart [] all = tt
of_others m n apart (change ∷ changes) all = (of_other m n apart change all.0, of_others m n apart changes all.1)

pub none_of_other : (m n : ℕ) → m ≢ n → (changes : List Change) → AreOf m changes → filter (is_of n) changes ≡ []
none_of_other m n apart changes all = filter_none (is_of n) changes (of_others m n apart changes all)

pub all_of_same : (m n : ℕ) → m ≡ n → (changes : List Change) → AreOf m changes → filter (is_of n) changes ≡ changes
all_of_same m n same changes all = filter_all (is_of n) changes (subst (λ (k : ℕ). AreOf k changes) same all)

-- What one change makes of the file

module _ (old : Files) (m : ℕ) (way : Option File → Option File) (n : ℕ) where
  -- the file of a number is another now
  set_at : (new : Files) (after : File) → new ≡ insert old m after → way (get old m) ≡ Some after
      → get new n ≡ cond (m == n) (way (get old n)) (get old n)
  set_at new after is becomes =
      ⊎_elim (λ (same : m ≡ n).
      ap (λ (files : Files). get files n) is
      ∙ ap (get (insert old m after)) (sym same)
      ∙ get-insert_same old m after
      ∙ sym becomes
      ∙ ap (λ (k : ℕ). way (get old k)) same
      ∙ sym (cond-true (m == n) _ _ (eq-eqb m n same)))
      (λ (apart : m ≢ n).
      ap (λ (files : Files). get files n) is
      ∙ get-insert_other old m after n (λ same. apart (sym same))
      ∙ sym (cond-false (m == n) _ _ (ne_eqb m n apart))) (cases_eq m n)

  -- or is gone
  gone_at : (new : Files) → new ≡ remove old m → way (get old n) ≡ None → get new n ≡ cond (m == n) (way (get old n)) (get old n)
  gone_at new is goes =
      ⊎_elim (λ (same : m ≡ n).
      ap (λ (files : Files). get files n) is
      ∙ ap (get (remove old m)) (sym same)
      ∙ get-remove_same old m
      ∙ sym goes
      ∙ sym (cond-true (m == n) _ _ (eq-eqb m n same)))
      (λ (apart : m ≢ n).
      ap (λ (files : Files). get files n) is
      ∙ get-remove_other old m n (λ same. apart (sym same))
      ∙ sym (cond-false (m == n) _ _ (ne_eqb m n apart))) (cases_eq m n)

pub change_makes : (old : Files) (change : Change) (new : Files) (n : ℕ) → Changes old change new
    → get new n ≡ cond (is_of n change) (file_after change (get old n)) (get old n)
change_makes old (create m name length) new n changes =
    set_at old m (file_after (create m name length)) n new (record { name = name; length = length; body = empty }) changes.result refl
change_makes old (delete m) new n changes = gone_at old m (file_after (delete m)) n new changes.result refl
change_makes old (resize m length) new n changes =
    let file = changes.file in
    set_at old m (file_after (resize m length)) n new (record file { length = length; body = below length file.body }) changes.result
    (ap (file_after (resize m length)) changes.stands)
change_makes old (hold m blocks) new n changes =
    let file = changes.file in
    set_at old m (file_after (hold m blocks)) n new (record file { body = with_zeros file.body blocks }) changes.result
    (ap (file_after (hold m blocks)) changes.stands)
change_makes old (put m v block) new n changes =
    set_at old m (file_after (put m v block)) n new (with_block changes.file v block) changes.result (ap (file_after (put m v block)) changes.stands)

-- and several

first_makes : (b : Bool) (change : Change) (rest : List Change) (file : Option File)
    → file_after_all rest (cond b (file_after change file) file) ≡ file_after_all (cond b (change ∷ rest) rest) file
first_makes true change rest file = refl
first_makes false change rest file = refl

pub changes_make : (old : Files) (changes : List Change) (new : Files) (n : ℕ) → LeadsTo old changes new
    → get new n ≡ file_after_all (filter (is_of n) changes) (get old n)
changes_make old [] new n leads = ap (λ (files : Files). get files n) leads
changes_make old (change ∷ changes) new n leads =
    changes_make leads.0 changes new n leads.2
    ∙ ap (file_after_all (filter (is_of n) changes)) (change_makes old change leads.0 n leads.1)
    ∙ first_makes (is_of n change) change (filter (is_of n) changes) (get old n)

-- Changes that were made could be made of the file

possible_there : (m n : ℕ) → m ≡ n → (old : Files) (P : Option File → Type 0) → P (get old m) → P (get old n)
possible_there m n same old P is = subst (λ (k : ℕ). P (get old k)) same is

possible_at : (old : Files) (change : Change) (new : Files) (n : ℕ) → is_of n change ≡ true → Changes old change new → IsPossible change (get old n)
possible_at old (create m name length) new n is changes =
    possible_there m n (eqb-true m n is) old (λ file. file ≡ None) changes.lowest.unused
possible_at old (delete m) new n is changes = possible_there m n (eqb-true m n is) old IsSome changes.stands
possible_at old (resize m length) new n is changes =
    possible_there m n (eqb-true m n is) old IsSome (subst IsSome (sym changes.stands) refl)
possible_at old (hold m blocks) new n is changes =
    possible_there m n (eqb-true m n is) old (λ file. IsSomeAnd file (CanHold blocks))
    (subst (λ file. IsSomeAnd file (CanHold blocks)) (sym changes.stands) (record { below = changes.below; fresh = changes.fresh; apart = changes.apart }))
possible_at old (put m v block) new n is changes =
    possible_there m n (eqb-true m n is) old (λ file. IsSomeAnd file (λ stands. IsSome (get stands.body v)))
    (subst (λ file. IsSomeAnd file (λ stands. IsSome (get stands.body v))) (sym changes.stands) changes.held)

-- one after another
abbrev pub ArePossible : List Change → Option File → Type 0
ArePossible [] file = Unit {0}
ArePossible (change ∷ changes) file = IsPossible change file × ArePossible changes (file_after change file)

possible_first : (b : Bool) (change : Change) (rest : List Change) (file next : Option File) → next ≡ cond b (file_after change file) file
    → (b ≡ true → IsPossible change file) → ArePossible rest next → ArePossible (cond b (change ∷ rest) rest) file
possible_first true change rest file next is possible later = (possible refl, subst (ArePossible rest) is later)
possible_first false change rest file next is possible later = subst (ArePossible rest) is later

pub changes_possible : (old : Files) (changes : List Change) (new : Files) (n : ℕ) → LeadsTo old changes new
    → ArePossible (filter (is_of n) changes) (get old n)
changes_possible old [] new n leads = tt
changes_possible old (change ∷ changes) new n leads =
    possible_first (is_of n change) change (filter (is_of n) changes) (get old n) (get leads.0 n) (change_makes old change leads.0 n leads.1)
    (λ is. possible_at old change leads.0 n is leads.1) (changes_possible leads.0 changes new n leads.2)
