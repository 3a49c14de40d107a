-- An image stands for one image with its slots laid over it.
use Rattle.std.proofs.Common.{◌≡◌, ⊎_elim, inl, inr, ℕ, zero, suc, ◌+◌, ◌<◌, ◌≤◌, List, false, sym, ◌∙◌, ap, arith, subst}
use Rattle.std.proofs.lemmas.Bool.{cases_lt, false≢true}
use Rattle.nesc_base.specs.declared.block.Block.{Block}
use Rattle.nesc_base.specs.declared.geometry.Geometry.{Geometry}
use Rattle.nesc_base.specs.Geometry.{IsGeometry}
use Rattle.slot_layout.specs.Gate.{is_open}
use Rattle.slot_layout.specs.Slots.{AreOpen, AreReplayed, LaidOver, Lays, gate, laid_over, list_of, slot_data}
use Rattle.slot_layout.specs.Targets.{IsListOf}
use Rattle.slot_layout.proofs.OneList.{one_list}

-- where a gate is open the slots to be replayed don't end before it
not_before : (geometry : Geometry) (image : List Block) (m n : ℕ) → AreReplayed geometry image m → AreReplayed geometry image n → m < n → ⊥
not_before geometry image m n first second less =
    ⊎_elim (λ (all : m ≡ 4). omega (arith, all, second.most, less))
    (λ (closed : is_open (gate geometry image (m + 1)) ≡ false).
    let open_too = second.opened (m + 1) (omega arith) (omega (arith, less)) in
    false≢true (sym closed ∙ open_too)) first.closed

-- so they are one number
one_count : (geometry : Geometry) (image : List Block) (m n : ℕ) → AreReplayed geometry image m → AreReplayed geometry image n → m ≡ n
one_count geometry image m n first second =
    ⊎_elim (λ (less : m < n). absurd (not_before geometry image m n first second less))
    (λ (high : n ≤ m). ⊎_elim (λ (less : n < m). absurd (not_before geometry image n m second first less)) (λ (low : m ≤ n). omega (arith, high, low)) (cases_lt n m)) (cases_lt m n)

-- and the image with them laid over is one
one_laid_over : (geometry : Geometry) (image : List Block) → IsGeometry geometry → (n : ℕ) (one other : List Block) → LaidOver geometry image n one → LaidOver geometry image n other → one ≡ other
one_laid_over geometry image sizes zero one other first second = first ∙ sym second
one_laid_over geometry image sizes (suc n) one other first second =
    let before = one_laid_over geometry image sizes n first.0 second.0 first.2 second.2 in
    let targets = one_list geometry (list_of geometry image (suc n)) first.1 second.1 sizes first.3 second.3 in
    first.4 ∙ ap (λ (ts : List ℕ). laid_over ts (slot_data geometry image (suc n)) first.0) targets ∙ ap (λ (b : List Block). laid_over second.1 (slot_data geometry image (suc n)) b) before ∙ sym second.4

-- so it is laid in one way
pub one_laid : (geometry : Geometry) (image one other : List Block) → IsGeometry geometry → Lays geometry image one → Lays geometry image other → one ≡ other
one_laid geometry image one other sizes first second =
    let count = one_count geometry image first.slots second.slots first.replayed second.replayed in
    one_laid_over geometry image sizes second.slots one other (subst (λ (n : ℕ). LaidOver geometry image n one) count first.over) second.over

-- each slot that is laid over has a list
pub list_before : (geometry : Geometry) (image : List Block) (n : ℕ) (laid : List Block) → LaidOver geometry image n laid
    → (k : ℕ) → k < n → (targets : List ℕ) × IsListOf geometry (list_of geometry image (k + 1)) targets
list_before geometry image zero laid over k below = absurd (omega arith)
list_before geometry image (suc n) laid over k below = elim (cases_lt k n) [
  | inl less ↦ list_before geometry image n over.0 over.2 k less
  | inr last ↦
      let same : suc n ≡ k + 1 = omega arith in
      (over.1, subst (λ (m : ℕ). IsListOf geometry (list_of geometry image m) over.1) same over.3)
]

-- so has a slot where the gates are open up to it
pub list_there : (geometry : Geometry) (image laid : List Block) → Lays geometry image laid → (k : ℕ) → k < 4 → AreOpen geometry image (k + 1)
    → (targets : List ℕ) × IsListOf geometry (list_of geometry image (k + 1)) targets
list_there geometry image laid lays k most opened = elim (cases_lt k lays.slots) [
  | inl less ↦ list_before geometry image lays.slots laid lays.over k less
  | inr high ↦ absurd (elim lays.replayed.closed [
    | inl all ↦ omega (arith, all)
    | inr closed ↦ false≢true (sym closed ∙ opened (lays.slots + 1) (omega arith) (omega arith))
  ])
]
