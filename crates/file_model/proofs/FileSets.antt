-- Files stay as files may be.
use Rattle.std.proofs.Common.{◌≡◌, ◌≢◌, ℕ, ◌<◌, ◌≤◌, List, [], ◌∷◌, Option, Some, None, IsSome, IsTrue, refl, sym, ap, ◌∙◌, subst, ⊎_elim, inl, inr}
use Rattle.std.specs.FinMap.{empty, get, insert, remove, get-empty}
use Rattle.std.specs.List.{AllByRecursion}
use Rattle.std.specs.Ordering.{nat_cmp}
use Rattle.std.proofs.lemmas.Bool.{cases_eq, cases_lt, false≢true}
use Rattle.nesc_base.specs.declared.block.Block.{Block}
use Rattle.nesc_base.specs.Block.{zero_block}
use Rattle.nesc_base.specs.Files.{Body, File, Files, IsFile, IsFileSet, longest_file}
use Rattle.nesc_base.specs.Name.{is_name}
use Rattle.file_model.specs.Files.{Change, create, delete, hold, put, resize, Creates, Deletes, Holds, LeadsTo, Puts, Changes, MayChange, Resizes, below, with_zeros}
use Rattle.file_model.proofs.BelowEnd.{get-below_gone}
use Rattle.nesc_base.proofs.Maps.{get-insert_same, get-insert_other, get-remove_same, get-remove_other}

-- the blocks of a body lie below a length
abbrev pub IsHeldBelow : ℕ → Body → Type 0
IsHeldBelow length body = (v : ℕ) → IsSome (get body v) → v < length

-- nothing is in an empty map
pub nowhere : (X : Type 0) (k : ℕ) → IsSome (get (empty {X = X} {R = nat_cmp}) k) → ⊥
nowhere X k some = let none : IsSome {T = X} None = subst IsSome (get-empty {X = X} nat_cmp k) some in false≢true none

pub IsSome-from_Some : {X : Type 0} (o : Option X) (x : X) → o ≡ Some x → IsSome o
IsSome-from_Some o x e = subst IsSome (sym e) refl

pub IsFileSet-empty : IsFileSet empty
IsFileSet-empty = record {
  numbers = λ n some. absurd (nowhere File n some);
  each = λ n file stands. absurd (nowhere File n (IsSome-from_Some _ file stands));
  apart = λ m n one other stands. absurd (nowhere File m (IsSome-from_Some _ one stands));
}

-- what stands in files after one of them was set is that one, or stood before
data Stood (files : Files) (n : ℕ) (file : File) (m : ℕ) (other : File) : Type 0 where
  here : m ≡ n → file ≡ other → Stood files n file m other
  before : m ≢ n → get files m ≡ Some other → Stood files n file m other

stood : (files : Files) (n : ℕ) (file : File) (m : ℕ) (other : File) → get (insert files n file) m ≡ Some other → Stood files n file m other
stood files n file m other stands =
    ⊎_elim (λ (e : m ≡ n). let one : Some file ≡ Some other = sym (get-insert_same files n file) ∙ sym (ap (get (insert files n file)) e) ∙ stands in here e cc)
    (λ (apart : m ≢ n). before apart (sym (get-insert_other files n file m apart) ∙ stands)) (cases_eq m n)

-- A file takes a number. Its name is that of no file of another number.
pub IsFileSet-insert : (files : Files) (n : ℕ) (file : File) → IsFileSet files → (1 ≤ n) × (n ≤ 32) → IsFile file
    → ((m : ℕ) (other : File) → m ≢ n → get files m ≡ Some other → other.name ≢ file.name) → IsFileSet (insert files n file)
IsFileSet-insert files n file set range good fresh = record {
  numbers = λ m some. ⊎_elim (λ (e : m ≡ n). subst (λ k. (1 ≤ k) × (k ≤ 32)) (sym e) range) (λ (apart : m ≢ n). set.numbers m (subst IsSome (get-insert_other files n file m apart) some)) (cases_eq m n);
  each = λ m other stands. elim (stood files n file m other stands) [
    | here e same ↦ subst IsFile same good
    | before apart was ↦ set.each m other was
  ];
  apart = λ l m one other first second named. elim (stood files n file l one first) [
    | here e same ↦ elim (stood files n file m other second) [
      | here e' same' ↦ e ∙ sym e'
      | before apart was ↦ absurd (fresh m other apart was (sym named ∙ sym (ap (λ (f : File). f.name) same)))
    ]
    | before apart was ↦ elim (stood files n file m other second) [
      | here e' same' ↦ absurd (fresh l one apart was (named ∙ sym (ap (λ (f : File). f.name) same')))
      | before apart' was' ↦ set.apart l m one other was was' named
    ]
  ];
}

-- what stands once one of the files was removed stood before
still_there : (files : Files) (n m : ℕ) → IsSome (get (remove files n) m) → get (remove files n) m ≡ get files m
still_there files n m some =
    ⊎_elim (λ (e : m ≡ n). let none : IsSome {T = File} None = subst IsSome (ap (get (remove files n)) e ∙ get-remove_same files n) some in absurd (false≢true none))
    (λ (apart : m ≢ n). get-remove_other files n m apart) (cases_eq m n)

pub IsFileSet-remove : (files : Files) (n : ℕ) → IsFileSet files → IsFileSet (remove files n)
IsFileSet-remove files n set =
    let before : (m : ℕ) (file : File) → get (remove files n) m ≡ Some file → get files m ≡ Some file =
    λ m file stands. sym (still_there files n m (IsSome-from_Some _ file stands)) ∙ stands in
    record {
      numbers = λ m some. set.numbers m (subst IsSome (still_there files n m some) some);
      each = λ m file stands. set.each m file (before m file stands);
      apart = λ l m one other first second named. set.apart l m one other (before l one first) (before m other second) named;
    }

-- a file that stands takes other blocks below its length
pub IsFileSet-with_body : (files : Files) (n : ℕ) (file : File) (body : Body) → IsFileSet files → get files n ≡ Some file → IsHeldBelow file.length body → IsFileSet (insert files n (record file { body = body }))
IsFileSet-with_body files n file body set stands within =
    let good = set.each n file stands in
    IsFileSet-insert files n (record file { body = body }) set (set.numbers n (IsSome-from_Some _ file stands)) (record { named = good.named; short = good.short; within = within })
    (λ m other apart was named. apart (set.apart m n other file was stands named))

IsHeldBelow-insert : (length : ℕ) (body : Body) (v : ℕ) (block : Block) → IsHeldBelow length body → v < length → IsHeldBelow length (insert body v block)
IsHeldBelow-insert length body v block within below k some =
    ⊎_elim (λ (e : k ≡ v). subst (λ (n : ℕ). n < length) (sym e) below)
    (λ (apart : k ≢ v). within k (subst IsSome (get-insert_other body v block k apart) some)) (cases_eq k v)

IsHeldBelow-with_zeros : (length : ℕ) (body : Body) (blocks : List ℕ) → IsHeldBelow length body → AllByRecursion (λ v. v < length) blocks → IsHeldBelow length (with_zeros body blocks)
IsHeldBelow-with_zeros length body [] within below = within
IsHeldBelow-with_zeros length body (v ∷ blocks) within below =
    IsHeldBelow-with_zeros length (insert body v zero_block) blocks (IsHeldBelow-insert length body v zero_block within below.0) below.1

IsHeldBelow-below : (length : ℕ) (body : Body) → IsHeldBelow length (below length body)
IsHeldBelow-below length body v some = elim (cases_lt v length) [
  | inl less ↦ less
  | inr past ↦ let none : IsSome {T = Block} None = subst IsSome (get-below_gone body length v past) some in absurd (false≢true none)
]

pub IsFileSet-Creates : (old : Files) (n : ℕ) (name : List ℕ) (length : ℕ) (new : Files) → IsTrue (is_name name) → length ≤ longest_file → IsFileSet old → Creates old n name length new → IsFileSet new
IsFileSet-Creates old n name length new named short set made = subst IsFileSet (sym made.result)
    (IsFileSet-insert old n (record { name = name; length = length; body = empty }) set (made.lowest.first, made.lowest.among)
    (record { named = named; short = short; within = λ v some. absurd (nowhere Block v some) }) (λ m other apart stands. made.unnamed m other stands))

pub IsFileSet-Deletes : (old : Files) (n : ℕ) (new : Files) → IsFileSet old → Deletes old n new → IsFileSet new
IsFileSet-Deletes old n new set gone = subst IsFileSet (sym gone.result) (IsFileSet-remove old n set)

pub IsFileSet-Resizes : (old : Files) (n length : ℕ) (new : Files) → length ≤ longest_file → IsFileSet old → Resizes old n length new → IsFileSet new
IsFileSet-Resizes old n length new short set sized =
    let file = sized.file in
    subst IsFileSet (sym sized.result)
    (IsFileSet-insert old n (record file { length = length; body = below length file.body }) set (set.numbers n (IsSome-from_Some _ file sized.stands))
    (record { named = (set.each n file sized.stands).named; short = short; within = IsHeldBelow-below length file.body })
    (λ m other apart was named. apart (set.apart m n other file was sized.stands named)))

pub IsFileSet-Holds : (old : Files) (n : ℕ) (blocks : List ℕ) (new : Files) → IsFileSet old → Holds old n blocks new → IsFileSet new
IsFileSet-Holds old n blocks new set held = subst IsFileSet (sym held.result)
    (IsFileSet-with_body old n held.file (with_zeros held.file.body blocks) set held.stands
    (IsHeldBelow-with_zeros held.file.length held.file.body blocks (set.each n held.file held.stands).within held.below))

pub IsFileSet-Puts : (old : Files) (n v : ℕ) (block : Block) (new : Files) → IsFileSet old → Puts old n v block new → IsFileSet new
IsFileSet-Puts old n v block new set puts = subst IsFileSet (sym puts.result)
    (IsFileSet-with_body old n puts.file (insert puts.file.body v block) set puts.stands
    (IsHeldBelow-insert puts.file.length puts.file.body v block (set.each n puts.file puts.stands).within ((set.each n puts.file puts.stands).within v puts.held)))

pub IsFileSet-Changes : (old : Files) (change : Change) (new : Files) → MayChange change → IsFileSet old → Changes old change new → IsFileSet new
IsFileSet-Changes old (create n name length) new may set changes = IsFileSet-Creates old n name length new may.0 may.1 set changes
IsFileSet-Changes old (delete n) new may set changes = IsFileSet-Deletes old n new set changes
IsFileSet-Changes old (resize n length) new may set changes = IsFileSet-Resizes old n length new may set changes
IsFileSet-Changes old (hold n blocks) new may set changes = IsFileSet-Holds old n blocks new set changes
IsFileSet-Changes old (put n v block) new may set changes = IsFileSet-Puts old n v block new set changes

pub IsFileSet-LeadsTo : (old : Files) (changes : List Change) (new : Files) → AllByRecursion MayChange changes → IsFileSet old → LeadsTo old changes new → IsFileSet new
IsFileSet-LeadsTo old [] new may set same = subst IsFileSet (sym same) set
IsFileSet-LeadsTo old (change ∷ changes) new may set leads =
    IsFileSet-LeadsTo leads.0 changes new may.1 (IsFileSet-Changes old change leads.0 may.0 set leads.1) leads.2
