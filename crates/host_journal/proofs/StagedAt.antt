-- The blocks that are staged, by where their places stand among the targets.
use Rattle.std.proofs.Common.{◌≡◌, ℕ, zero, suc, ◌<◌, cond, List, [], ◌∷◌, Option, Some, None, length, map, get_or, slice_get, refl, sym, ap, ◌∙◌, subst, arith, Bor}
use Rattle.std.specs.Cmp.{unsigned_tied}
use Rattle.std.specs.FinMap.{entries, find, get, get-entries}
use Rattle.std.specs.Option.{option_copied}
use Rattle.std.specs.Ordering.{nat_cmp}
use Rattle.std.proofs.lemmas.Bool.{eq-eqb, ne_eqb}
use Rattle.std.proofs.lemmas.List.{length-map}
use Rattle.std.proofs.lemmas.Option.{none-some, same_Some, slice_get-get_or}
use Rattle.nesc_base.specs.declared.block.Block.{Block}
use Rattle.nesc_base.specs.declared.geometry.Geometry.{Geometry}
use Rattle.slot_layout.specs.Targets.{AreTargets}
use Rattle.host_journal.specs.Staged.{Staged, fresh_of, targets_of}

-- where the keys rise, the value of the entry at i is found by its key
find_at : {X : Type 0} (es : List (ℕ × X)) → ((i j a b : ℕ) → i < j → slice_get (map (λ e. e.0) es) i ≡ Some a → slice_get (map (λ e. e.0) es) j ≡ Some b → a < b)
    → (i at : ℕ) → slice_get (map (λ e. e.0) es) i ≡ Some at → find nat_cmp at es ≡ slice_get (map (λ e. e.1) es) i
find_at [] rising i at is = absurd (none-some at is)
find_at (e ∷ es) rising zero at is =
    ap (λ b. cond b (Some e.1) (find nat_cmp at es)) (unsigned_tied at e.0 ∙ eq-eqb at e.0 (sym (same_Some e.0 at is)))
find_at (e ∷ es) rising (suc i) at is =
    let less : e.0 < at = rising zero (suc i) e.0 at (omega arith) refl is in
    ap (λ b. cond b (Some e.1) (find nat_cmp at es)) (unsigned_tied at e.0 ∙ ne_eqb at e.0 (λ same. omega (arith, same, less)))
    ∙ find_at es (λ i j a b before one other. rising (suc i) (suc j) a b (omega arith) one other) i at is

-- there are as many places as blocks
pub paired : (staged : Staged) → length (targets_of staged) ≡ length (fresh_of staged)
paired staged = length-map (entries staged) (λ e. e.0) ∙ sym (length-map (entries staged) (λ e. e.1))

-- a value behind a reference that is there
copied_some : {X : Type 0} (r : Option (Bor X)) (x : X) → option_copied r ≡ Some x → (b : Bor X) × (r ≡ Some b) × (b.now ≡ x)
copied_some None x is = absurd (none-some x is)
copied_some (Some b) x is = (b, refl, same_Some b.now x is)

-- the block that is found for the target at i is the one at i
pub found_at : (geometry : Geometry) (staged : Staged) (targets : List ℕ) (i : ℕ) (r : Option (Bor Block)) (d : Block) → targets ≡ targets_of staged → AreTargets geometry targets → i < length targets
    → option_copied r ≡ get staged (get_or targets i 0) → (b : Bor Block) × (r ≡ Some b) × (b.now ≡ get_or (fresh_of staged) i d)
found_at geometry staged targets i r d all good within is =
    let keys : List ℕ = targets_of staged in
    let rising : AreTargets geometry keys = subst (AreTargets geometry) all good in
    let many : i < length keys = omega (arith, ap length all, within) in
    let there : slice_get keys i ≡ Some (get_or targets i 0) = slice_get-get_or keys i 0 many ∙ ap (λ (ts : List ℕ). Some (get_or ts i 0)) (sym all) in
    copied_some r (get_or (fresh_of staged) i d) (
    is ∙ get-entries staged (get_or targets i 0) ∙ find_at (entries staged) rising.rising i (get_or targets i 0) there
    ∙ slice_get-get_or (fresh_of staged) i d (omega (arith, many, paired staged)))
