-- Lists of blocks that differ at some places alone.
use Rattle.std.proofs.Common.{◌≡◌, ◌≢◌, ℕ, zero, suc, ◌<◌, inl, inr, List, [], ◌∷◌, get_or, length, slice_get, Some, refl, sym, ap, ◌∙◌, arith}
use Rattle.std.specs.Prelude.{slice_set}
use Rattle.std.proofs.lemmas.List.{length-set}
use Rattle.std.proofs.lemmas.Option.{none-some, same_Some, slice_get-get_or}
use Rattle.std.proofs.lemmas.Bool.{cases_eq}
use Rattle.nesc_base.specs.declared.block.Block.{Block}
use Rattle.nesc_base.specs.Block.{zero_block}
use Rattle.nesc_base.specs.Disk.{DiffersAt, here, nowhere}

pub differs_itself : (P : ℕ → Type 0) (blocks : List Block) → DiffersAt P blocks blocks
differs_itself P blocks = record { whole = refl; others = λ at other. refl }

pub differs_wider : (P Q : ℕ → Type 0) (one other : List Block) → ((at : ℕ) → P at → Q at) → DiffersAt P one other → DiffersAt Q one other
differs_wider P Q one other wider differs = record { whole = differs.whole; others = λ at none. differs.others at (λ place. none (wider at place)) }

pub differs_on : (P : ℕ → Type 0) (a b c : List Block) → DiffersAt P a b → DiffersAt P b c → DiffersAt P a c
differs_on P a b c first second = record {
  whole = second.whole ∙ first.whole;
  others = λ at none. second.others at none ∙ first.others at none;
}

-- lists that are alike at all places are one
pub same_by_places : {X : Type 0} (one other : List X) → ((at : ℕ) → slice_get one at ≡ slice_get other at) → one ≡ other
same_by_places [] [] alike = refl
same_by_places [] (y ∷ ys) alike = absurd (none-some y (alike zero))
same_by_places (x ∷ xs) [] alike = absurd (none-some x (sym (alike zero)))
same_by_places (x ∷ xs) (y ∷ ys) alike =
    let first : x ≡ y = same_Some x y (alike zero) in
    let rest : xs ≡ ys = same_by_places xs ys (λ at. alike (suc at)) in
    cc

-- what was put stands there, and nothing else has changed
pub slice_get-set_same : {X : Type 0} (xs : List X) (at : ℕ) (x : X) → at < length xs → slice_get (slice_set xs at x) at ≡ Some x
slice_get-set_same [] at x within = absurd (omega arith)
slice_get-set_same (y ∷ ys) zero x within = refl
slice_get-set_same (y ∷ ys) (suc at) x within = slice_get-set_same ys at x (omega arith)

pub slice_get-set_other : {X : Type 0} (xs : List X) (at other : ℕ) (x : X) → other ≢ at → slice_get (slice_set xs at x) other ≡ slice_get xs other
slice_get-set_other [] at other x apart = refl
slice_get-set_other (y ∷ ys) zero zero x apart = absurd (apart refl)
slice_get-set_other (y ∷ ys) zero (suc other) x apart = refl
slice_get-set_other (y ∷ ys) (suc at) zero x apart = refl
slice_get-set_other (y ∷ ys) (suc at) (suc other) x apart = slice_get-set_other ys at other x (λ same. apart (ap suc same))

-- one block that was put
pub differs_set : (blocks : List Block) (at : ℕ) (block : Block) → DiffersAt (here at) blocks (slice_set blocks at block)
differs_set blocks at block = record {
  whole = length-set blocks at block;
  others = λ other apart. slice_get-set_other blocks at other block apart;
}

pub differs_nowhere : (one other : List Block) → DiffersAt nowhere one other → other ≡ one
differs_nowhere one other differs = same_by_places other one (λ at. differs.others at (λ none. none))

-- lists that differ at one place alone are alike but for the block there
pub differs_here : (at : ℕ) (one other : List Block) → at < length one → DiffersAt (here at) one other → (block : Block) × (other ≡ slice_set one at block)
differs_here at one other within differs =
    let block : Block = get_or other at zero_block in
    let there : slice_get other at ≡ Some block = slice_get-get_or other at zero_block (omega (arith, within, differs.whole)) in (
      block,
      same_by_places other (slice_set one at block) (λ i. elim (cases_eq i at) [
        | inl same ↦ ap (slice_get other) same ∙ there ∙ sym (slice_get-set_same one at block within) ∙ ap (slice_get (slice_set one at block)) (sym same)
        | inr apart ↦ differs.others i apart ∙ sym (slice_get-set_other one at i block apart)
      ]),
    )
