-- How many data blocks are staged where blocks come to be held, and where they are put.
use Rattle.std.proofs.Common.{◌≡◌, ℕ, suc, zero, ◌+◌, ◌<◌, ◌≤◌, Bool, true, false, cond, not, List, [], ◌∷◌, ◌++◌, length, inl, inr, refl, ap, ◌∙◌, arith}
use Rattle.std.specs.Prelude.{◌==◌, ◌&&◌, ◌||◌}
use Rattle.std.specs.List.{filter, range_with_len}
use Rattle.std.proofs.lemmas.Bool.{cases_eq}
use Rattle.std.proofs.lemmas.Bool.Decides.{nat_tests}
use Rattle.nesc_base.specs.declared.block.Block.{Block}
use Rattle.nesc_base.specs.Files.{File}
use Rattle.file_model.specs.Files.{Change, holding, holds, is_put, puts_from, staged, unheld}

-- Blocks that are put

pub staged_puts : (n v : ℕ) (blocks : List Block) → staged (puts_from n v blocks) ≡ length blocks
staged_puts n v [] = refl
staged_puts n v (block ∷ blocks) = omega (arith, staged_puts n (v + 1) blocks)

-- each of them is put
put_at : (n v at : ℕ) (blocks : List Block) → v ≤ at → at < v + length blocks → is_put n at (puts_from n v blocks) ≡ true
put_at n v at [] from below = absurd (omega arith)
put_at n v at (block ∷ blocks) from below = elim (cases_eq v at) [
  | inl here ↦ let yes : (v == at) ≡ true = grind (arith, nat_tests) in let same : (n == n) ≡ true = grind (arith, nat_tests) in ap (λ b. (b && (v == at)) || is_put n at (puts_from n (v + 1) blocks)) same ∙ ap (λ b. b || is_put n at (puts_from n (v + 1) blocks)) yes
  | inr apart ↦
      let rest = put_at n (v + 1) at blocks (omega arith) (omega arith) in
      let no : (v == at) ≡ false = grind (arith, nat_tests) in
      let same : (n == n) ≡ true = grind (arith, nat_tests) in
      ap (λ b. (b && (v == at)) || is_put n at (puts_from n (v + 1) blocks)) same ∙ ap (λ b. b || is_put n at (puts_from n (v + 1) blocks)) no ∙ rest
]

-- Blocks that come to be held

all_kept : (xs : List ℕ) → length (filter (λ v. true) xs) ≡ length xs
all_kept [] = refl
all_kept (x ∷ xs) = omega (arith, all_kept xs)

pub staged_holding : (n : ℕ) (blocks : List ℕ) → staged (holding n blocks) ≡ length blocks
staged_holding n [] = refl
staged_holding n (v ∷ blocks) = omega (arith, all_kept (v ∷ blocks))

-- and something else is done
staged_after : (n : ℕ) (blocks : List ℕ) (changes : List Change) → staged (holding n blocks ++ changes) ≡ length (filter (λ v. not (is_put n v changes)) blocks) + staged changes
staged_after n [] changes = omega arith
staged_after n (v ∷ blocks) changes = refl

-- none of a range passes
passed_over : (q : ℕ → Bool) (b : Bool) (v : ℕ) (rest : List ℕ) → q v ≡ false → length (filter q (cond b (v ∷ rest) rest)) ≡ length (filter q rest)
passed_over q true v rest out = ap (λ d. length (cond d (v ∷ filter q rest) (filter q rest))) out
passed_over q false v rest out = refl

none_pass : (p q : ℕ → Bool) (v n : ℕ) → ((at : ℕ) → v ≤ at → at < v + n → q at ≡ false) → length (filter q (filter p (range_with_len v n))) ≡ 0
none_pass p q v zero none = refl
none_pass p q v (suc n) none =
    passed_over q (p v) v (filter p (range_with_len (v + 1) n)) (none v (omega arith) (omega arith)) ∙ none_pass p q (v + 1) n (λ at from below. none at (omega arith) (omega arith))

-- so a put stages as many blocks as it brings
pub staged_put : (file : File) (n v : ℕ) (blocks : List Block) → staged (holding n (unheld file v (length blocks)) ++ puts_from n v blocks) ≡ length blocks
staged_put file n v blocks =
    let none = none_pass (λ at. not (holds file at)) (λ at. not (is_put n at (puts_from n v blocks))) v (length blocks) (λ at from below. ap not (put_at n v at blocks from below)) in
    omega (arith, staged_after n (unheld file v (length blocks)) (puts_from n v blocks), none, staged_puts n v blocks)
