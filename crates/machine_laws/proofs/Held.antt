-- What the blocks are that a file comes to hold, and that it holds them then.
use Rattle.std.proofs.Common.{◌≡◌, ◌≢◌, ℕ, zero, suc, nat_eq, ◌+◌, ◌<◌, ◌≤◌, Bool, true, false, not, cond, List, [], ◌∷◌, Option, Some, None, IsSome, IsSomeAnd, refl, sym, ap, ◌∙◌, subst, ⊎_elim, arith}
use Rattle.std.specs.FinMap.{get, insert}
use Rattle.std.specs.List.{AllByRecursion, IsDistinct, filter, range_with_len}
use Rattle.std.specs.Option.{is_some}
use Rattle.std.proofs.lemmas.Bool.{cases_eq, not-false, not-true}
use Rattle.nesc_base.specs.Block.{zero_block}
use Rattle.nesc_base.specs.Files.{Body, File, Files}
use Rattle.nesc_base.specs.declared.block.Block.{Block}
use Rattle.nesc_base.proofs.Maps.{get-insert_same}
use Rattle.file_model.specs.Files.{Holds, Puts, holds, unheld, with_block, with_zeros}
use Rattle.file_model.proofs.Writing.{IsSome-insert}
use Rattle.machine_laws.proofs.Ranges.{all_filtered}

-- the file that also holds a block of zeros at those of n blocks from v on that it did not hold
abbrev pub with_held : File → ℕ → ℕ → File
with_held file v n = record file { body = with_zeros file.body (unheld file v n) }

-- the file of this number holds each of n blocks from v on
abbrev pub AreHeld : Files → ℕ → ℕ → ℕ → Type 0
AreHeld files number v n = (k : ℕ) → v ≤ k → k < v + n → IsSomeAnd (get files number) (λ file. IsSome (get file.body k))

-- what does not have a value has nothing
pub none_from_is_some : {X : Type 0} (o : Option X) → is_some o ≡ false → o ≡ None
none_from_is_some None h = refl
none_from_is_some (Some x) h = cc

IsDistinct-kept : (a : ℕ) (rest : List ℕ) (b : Bool) → AllByRecursion (λ y. nat_eq a y ≡ false) rest → IsDistinct nat_eq rest
    → IsDistinct nat_eq (cond b (a ∷ rest) rest)
unfolding IsDistinct
IsDistinct-kept a rest true here later = (here, later)
IsDistinct-kept a rest false here later = later

-- no number of a range is kept twice
pub IsDistinct-filter_range : (p : ℕ → Bool) (a n : ℕ) → IsDistinct nat_eq (filter p (range_with_len a n))
unfolding IsDistinct
IsDistinct-filter_range p a zero = tt
IsDistinct-filter_range p a (suc n) =
    IsDistinct-kept a (filter p (range_with_len (a + 1) n)) (p a)
    (all_filtered (λ y. nat_eq a y ≡ false) p (a + 1) n (λ k from to passes. let apart : a ≢ k = omega arith in grind arith))
    (IsDistinct-filter_range p (a + 1) n)

-- the file comes to hold those of n blocks from v on that it did not hold
pub Holds-with_held : (files : Files) (number : ℕ) (file : File) (v n : ℕ) → get files number ≡ Some file
    → ((k : ℕ) → v ≤ k → k < v + n → k < file.length) → Holds files number (unheld file v n) (insert files number (with_held file v n))
Holds-with_held files number file v n stands below = record {
  file = file;
  stands = stands;
  below = all_filtered (λ k. k < file.length) (λ at. not (holds file at)) v n (λ k low high _. below k low high);
  fresh = all_filtered (λ k. get file.body k ≡ None) (λ at. not (holds file at)) v n
      (λ k low high free. none_from_is_some _ (not-true (holds file k) free));
  apart = IsDistinct-filter_range (λ at. not (holds file at)) v n;
  result = refl;
}

-- what is held still is where blocks of zeros come
zeros_keep : (body : Body) (blocks : List ℕ) (k : ℕ) → IsSome (get body k) → IsSome (get (with_zeros body blocks) k)
zeros_keep body [] k some = some
zeros_keep body (v ∷ blocks) k some = zeros_keep (insert body v zero_block) blocks k (IsSome-insert body v zero_block k some)

-- One block of a range is held where a block of zeros comes if the test passes, and else where it is held already.
zeros_one : (body : Body) (a : ℕ) (rest : List ℕ) (b : Bool) (k : ℕ)
    → ((other : Body) → ((j : ℕ) → IsSome (get body j) → IsSome (get other j)) → k ≢ a → IsSome (get (with_zeros other rest) k))
    → (b ≡ false → IsSome (get body a)) → IsSome (get (with_zeros body (cond b (a ∷ rest) rest)) k)
zeros_one body a rest true k later here =
    let more = insert body a zero_block in
    ⊎_elim (λ (e : k ≡ a). zeros_keep more rest k (subst IsSome (sym (ap (get more) e ∙ get-insert_same body a zero_block)) refl))
    (λ (apart : k ≢ a). later more (λ j. IsSome-insert body a zero_block j) apart) (cases_eq k a)
zeros_one body a rest false k later here =
    ⊎_elim (λ (e : k ≡ a). zeros_keep body rest k (subst (λ (j : ℕ). IsSome (get body j)) (sym e) (here refl)))
    (λ (apart : k ≢ a). later body (λ j some. some) apart) (cases_eq k a)

-- blocks of zeros come at each number of a range that passes, and the others are held: then all of them are
zeros_all : (p : ℕ → Bool) (body : Body) (a n : ℕ) → ((k : ℕ) → p k ≡ false → IsSome (get body k)) → (k : ℕ) → a ≤ k → k < a + n
    → IsSome (get (with_zeros body (filter p (range_with_len a n))) k)
zeros_all p body a zero held k low high = absurd (omega arith)
zeros_all p body a (suc n) held k low high =
    zeros_one body a (filter p (range_with_len (a + 1) n)) (p a) k
    (λ other keeps apart.
    let later : a + 1 ≤ k = omega arith in
    let within : k < a + 1 + n = omega arith in
    zeros_all p other (a + 1) n (λ j fails. keeps j (held j fails)) k later within)
    (held a)

-- the file holds each of the blocks that it came to hold
pub AreHeld-Holds : (old : Files) (number : ℕ) (file : File) (v n : ℕ) (new : Files) → get old number ≡ Some file
    → Holds old number (unheld file v n) new → AreHeld new number v n
AreHeld-Holds old number file v n new stands held k low high =
    let same : held.file ≡ file = cc (sym held.stands ∙ stands) in
    let after = record held.file { body = with_zeros held.file.body (unheld file v n) } in
    let found = ap (λ (files : Files). get files number) held.result ∙ get-insert_same old number after in
    let inside = zeros_all (λ at. not (holds file at)) file.body v n (λ j fails. not-false (holds file j) fails) k low high in
    subst (λ (o : Option File). IsSomeAnd o (λ f. IsSome (get f.body k))) (sym found)
    (subst (λ (f : File). IsSome (get (with_zeros f.body (unheld file v n)) k)) (sym same) inside)

-- what was held is held after a block was written
pub AreHeld-Puts : (old : Files) (number v n at : ℕ) (block : Block) (new : Files) → AreHeld old number v n → Puts old number at block new
    → AreHeld new number v n
AreHeld-Puts old number v n at block new held puts k low high =
    let before = subst (λ (o : Option File). IsSomeAnd o (λ file. IsSome (get file.body k))) puts.stands (held k low high) in
    let after = with_block puts.file at block in
    let stands = ap (λ (files : Files). get files number) puts.result ∙ get-insert_same old number after in
    subst (λ (o : Option File). IsSomeAnd o (λ file. IsSome (get file.body k))) (sym stands) (IsSome-insert puts.file.body at block k before)
