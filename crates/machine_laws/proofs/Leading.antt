-- Changes that can be made.
use Rattle.std.proofs.Common.{◌≡◌, ℕ, zero, suc, nat_eq, nat_lt, ltb-true, le-ltb, ◌+◌, ◌<◌, ◌≤◌, Bool, true, false, not, cond, ◌&&◌, List, [], ◌∷◌, ◌++◌, length, take, Option, Some, None, IsSome, IsSomeAnd, refl, sym, ap, ◌∙◌, subst, arith, filter}
use Rattle.std.specs.FinMap.{empty, get, insert}
use Rattle.std.specs.List.{AllByRecursion, IsDistinct, range_with_len}
use Rattle.std.specs.Option.{unwrap_or}
use Rattle.std.proofs.lemmas.Bool.{and_parts, not-true}
use Rattle.nesc_base.specs.Files.{File, Files, file_at}
use Rattle.nesc_base.specs.declared.block.Block.{Block}
use Rattle.nesc_base.proofs.Maps.{insert_there}
use Rattle.nesc_requests.specs.declared.request.Miss.{Miss}
use Rattle.file_model.specs.Files.{Change, Holds, LeadsTo, Puts, holding, holds, puts_from, unheld, with_block, with_zeros}
use Rattle.file_model.proofs.FileSets.{nowhere}
use Rattle.file_model.proofs.Writing.{leads_then}
use Rattle.plain_machine.specs.Handlings.{wanted}
use Rattle.machine_laws.proofs.Ranges.{all_filtered, none_filtered}
use Rattle.machine_laws.proofs.Held.{AreHeld, AreHeld-Holds, AreHeld-Puts, Holds-with_held, IsDistinct-filter_range, none_from_is_some, with_held}

-- the changes lead somewhere
abbrev pub CanLead : Files → List Change → Type 0
CanLead files changes = (new : Files) × LeadsTo files changes new

-- Puts

-- a block that is held
can_put_found : (files : Files) (n v : ℕ) (block : Block) (found : Option File) → get files n ≡ found
    → IsSomeAnd found (λ file. IsSome (get file.body v)) → (new : Files) × Puts files n v block new
can_put_found files n v block None missing held = absurd held
can_put_found files n v block (Some file) stands held =
    (insert files n (with_block file v block), record { file = file; stands = stands; held = held; result = refl })

-- a file that holds a block stands
stands_where_held : (found : Option File) (v : ℕ) → holds (unwrap_or found (record { name = []; length = 0; body = empty })) v ≡ true
    → IsSomeAnd found (λ file. IsSome (get file.body v))
stands_where_held None v held = nowhere Block v held
stands_where_held (Some file) v held = held

pub can_put : (files : Files) (n v : ℕ) (block : Block) → holds (file_at files n) v ≡ true → (new : Files) × Puts files n v block new
can_put files n v block held = can_put_found files n v block (get files n) refl (stands_where_held (get files n) v held)

-- blocks that are held, one after another
can_put_each : (old : Files) (n v : ℕ) (blocks : List Block) → AreHeld old n v (length blocks) → CanLead old (puts_from n v blocks)
can_put_each old n v [] held = (old, refl)
can_put_each old n v (block ∷ blocks) held =
    let low : v ≤ v = omega arith in
    let high : v < v + length (block ∷ blocks) = omega arith in
    let one = can_put_found old n v block (get old n) refl (held v low high) in
    let others = can_put_each one.0 n (v + 1) blocks (λ k from to.
    let after : v ≤ k = omega arith in
    let before : k < v + length (block ∷ blocks) = omega arith in
    AreHeld-Puts old n v (length (block ∷ blocks)) v block one.0 held one.1 k after before) in
    (others.0, (one.0, one.1, others.1))

-- no blocks are held, so nothing changed
holds_none : (old : Files) (n : ℕ) (new : Files) → Holds old n [] new → new ≡ old
holds_none old n new held = held.result ∙ insert_there old n held.file held.stands

leads_holding : (old : Files) (n : ℕ) (blocks : List ℕ) (new : Files) → Holds old n blocks new → LeadsTo old (holding n blocks) new
leads_holding old n [] new held = holds_none old n new held
leads_holding old n (v ∷ blocks) new held = (new, held, refl)

-- blocks within a file that it did not hold
pub can_map : (old : Files) (v n number : ℕ) (file : File) → get old number ≡ Some file → v + n ≤ file.length
    → CanLead old (holding number (unheld file v n))
can_map old v n number file stands within =
    let held = insert old number (with_held file v n) in
    (held, leads_holding old number (unheld file v n) held (Holds-with_held old number file v n stands (λ k low high. omega arith)))

-- and blocks within a file, which come to be held first
pub can_write : (old : Files) (v : ℕ) (blocks : List Block) (n : ℕ) (file : File) → get old n ≡ Some file
    → v + length blocks ≤ file.length → CanLead old (holding n (unheld file v (length blocks)) ++ puts_from n v blocks)
can_write old v blocks n file stands within =
    let places = unheld file v (length blocks) in
    let held = insert old n (with_held file v (length blocks)) in
    let holds = Holds-with_held old n file v (length blocks) stands (λ k low high. omega arith) in
    let puts = can_put_each held n v blocks (AreHeld-Holds old n file v (length blocks) held stands holds) in
    (puts.0, leads_then old (holding n places) (puts_from n v blocks) held puts.0 (leads_holding old n places held holds) puts.1)

-- Holds

-- what is so of each of a list is so of the first of them
All-take : (P : ℕ → Type 0) (n : ℕ) (xs : List ℕ) → AllByRecursion P xs → AllByRecursion P (take n xs)
All-take P zero xs all = tt
All-take P (suc n) [] all = tt
All-take P (suc n) (x ∷ xs) all = (all.0, All-take P n xs all.1)

IsDistinct-take : (n : ℕ) (xs : List ℕ) → IsDistinct nat_eq xs → IsDistinct nat_eq (take n xs)
unfolding IsDistinct
IsDistinct-take zero xs apart = tt
IsDistinct-take (suc n) [] apart = tt
IsDistinct-take (suc n) (x ∷ xs) apart = (All-take (λ y. nat_eq x y ≡ false) n xs apart.0, IsDistinct-take n xs apart.1)

filter_one : (p : ℕ → Bool) (x : ℕ) (b : Bool) (rest kept : List ℕ) → filter p rest ≡ kept
    → filter p (cond b (x ∷ rest) rest) ≡ cond (b && p x) (x ∷ kept) kept
filter_one p x true rest kept e = ap (λ (others : List ℕ). cond (p x) (x ∷ others) others) e
filter_one p x false rest kept e = e

-- those that pass one test and then another pass both
filter_both : (p q : ℕ → Bool) (xs : List ℕ) → filter p (filter q xs) ≡ filter (λ x. q x && p x) xs
filter_both p q [] = refl
filter_both p q (x ∷ xs) = filter_one p x (q x) (filter q xs) (filter (λ x. q x && p x) xs) (filter_both p q xs)

-- a block is wanted: it is not held, and lies below the length
abbrev is_wanted_at : File → ℕ → Bool
is_wanted_at file at = not (holds file at) && nat_lt at file.length

wanted_in_range : (file : File) (miss : Miss) → wanted file miss ≡ filter (is_wanted_at file) (range_with_len miss.v miss.n)
wanted_in_range file miss = filter_both (λ at. nat_lt at file.length) (λ at. not (holds file at)) (range_with_len miss.v miss.n)

-- the first blocks of a file that stands
can_hold : (files : Files) (n : ℕ) (file : File) (miss : Miss) (count : ℕ) → get files n ≡ Some file
    → CanLead files (holding n (take count (wanted file miss)))
can_hold files n file miss count stands =
    let all = filter (is_wanted_at file) (range_with_len miss.v miss.n) in
    let blocks = take count all in
    let parts = λ (k : ℕ) (passes : is_wanted_at file k ≡ true). and_parts (not (holds file k)) (nat_lt k file.length) passes in
    let below = all_filtered (λ v. v < file.length) (is_wanted_at file) miss.v miss.n (λ k low high passes. ltb-true _ _ (parts k passes).1) in
    let fresh = all_filtered (λ v. get file.body v ≡ None) (is_wanted_at file) miss.v miss.n
    (λ k low high passes. none_from_is_some _ (not-true _ (parts k passes).0)) in
    let held = insert files n (record file { body = with_zeros file.body blocks }) in
    subst (λ (wanted : List ℕ). CanLead files (holding n (take count wanted))) (sym (wanted_in_range file miss)) (
      held,
      leads_holding files n blocks held (record {
        file = file;
        stands = stands;
        below = All-take (λ v. v < file.length) count all below;
        fresh = All-take (λ v. get file.body v ≡ None) count all fresh;
        apart = IsDistinct-take count all (IsDistinct-filter_range (is_wanted_at file) miss.v miss.n);
        result = refl;
      }),
    )

take_none : (count : ℕ) → take {A = ℕ} count [] ≡ []
take_none zero = refl
take_none (suc count) = refl

-- there is a file or not, which then has no blocks
can_hold_found : (files : Files) (n : ℕ) (found : Option File) (miss : Miss) (count : ℕ) → get files n ≡ found
    → CanLead files (holding n (take count (wanted (unwrap_or found (record { name = []; length = 0; body = empty })) miss)))
can_hold_found files n None miss count missing =
    let file : File = record { name = []; length = 0; body = empty } in
    let past = all_filtered (λ at. nat_lt at 0 ≡ false) (λ at. not (holds file at)) miss.v miss.n (λ at low high _. le-ltb at 0 (omega arith)) in
    let none = ap (take count) (none_filtered (λ at. nat_lt at 0) (unheld file miss.v miss.n) past) ∙ take_none count in
    subst (λ (blocks : List ℕ). CanLead files (holding n blocks)) (sym none) (files, refl)
can_hold_found files n (Some file) miss count stands = can_hold files n file miss count stands

pub can_hold_wanted : (files : Files) (n : ℕ) (miss : Miss) (count : ℕ) → CanLead files (holding n (take count (wanted (file_at files n) miss)))
can_hold_wanted files n miss count = can_hold_found files n (get files n) miss count refl
