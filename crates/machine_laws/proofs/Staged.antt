-- How many data blocks lists of changes stage.
use Rattle.std.proofs.Common.{◌≡◌, ◌≢◌, ℕ, ◌+◌, ◌<◌, ◌≤◌, ◌==◌, ◌&&◌, ⊎_elim, Bool, true, false, not, List, [], ◌∷◌, ◌++◌, length, refl, ap, ◌∙◌, arith}
use Rattle.std.specs.List.{AllByRecursion}
use Rattle.std.proofs.lemmas.Bool.{cases_eq, eq-eqb, or_left, or_right}
use Rattle.nesc_base.specs.Files.{File}
use Rattle.nesc_base.specs.declared.block.Block.{Block}
use Rattle.file_model.specs.Files.{Change, holding, holds, is_put, puts_from, staged, unheld}
use Rattle.machine_laws.proofs.Ranges.{all_filtered, each_filtered, none_filtered}

pub none_staged : (changes : List Change) → changes ≡ [] → staged changes ≡ 0
none_staged changes none = ap staged none

-- Puts

staged_puts : (n v : ℕ) (blocks : List Block) → staged (puts_from n v blocks) ≡ length blocks
staged_puts n v [] = refl
staged_puts n v (block ∷ blocks) = omega (arith, staged_puts n (v + 1) blocks)

-- one of the puts is the block's
put_here : (n v : ℕ) (block : Block) (blocks : List Block) (at : ℕ) → v ≡ at → is_put n at (puts_from n v (block ∷ blocks)) ≡ true
put_here n v block blocks at same =
    or_left (n == n && v == at) _ (ap (λ (b : Bool). b && v == at) (eq-eqb n n refl) ∙ eq-eqb v at same)

is_put_among : (n v : ℕ) (blocks : List Block) (at : ℕ) → v ≤ at → at < v + length blocks → is_put n at (puts_from n v blocks) ≡ true
is_put_among n v [] at low high = absurd (omega arith)
is_put_among n v (block ∷ blocks) at low high =
    ⊎_elim (put_here n v block blocks at)
    (λ (apart : v ≢ at).
    let later : v + 1 ≤ at = omega arith in
    let within : at < v + 1 + length blocks = omega arith in
    or_right (n == n && v == at) _ (is_put_among n (v + 1) blocks at later within)) (cases_eq v at)

-- Holds

-- blocks that are held and not put count
pub staged_holding : (n : ℕ) (blocks : List ℕ) → staged (holding n blocks) ≡ length blocks
staged_holding n [] = refl
staged_holding n (v ∷ blocks) = omega (arith, each_filtered (v ∷ blocks))

-- and those that are put too count with the puts
staged_holding_put : (n : ℕ) (blocks : List ℕ) (changes : List Change) → AllByRecursion (λ v. not (is_put n v changes) ≡ false) blocks
    → staged (holding n blocks ++ changes) ≡ staged changes
staged_holding_put n [] changes put = refl
staged_holding_put n (v ∷ blocks) changes put =
    omega (arith, ap length (none_filtered (λ v. not (is_put n v changes)) (v ∷ blocks) put))

-- so many blocks are written, whichever of them were held
pub staged_write : (n : ℕ) (file : File) (v : ℕ) (blocks : List Block)
    → staged (holding n (unheld file v (length blocks)) ++ puts_from n v blocks) ≡ length blocks
staged_write n file v blocks =
    let put = all_filtered (λ at. not (is_put n at (puts_from n v blocks)) ≡ false) (λ at. not (holds file at)) v (length blocks)
    (λ at low high _. ap not (is_put_among n v blocks at low high)) in
    staged_holding_put n (unheld file v (length blocks)) (puts_from n v blocks) put ∙ staged_puts n v blocks
