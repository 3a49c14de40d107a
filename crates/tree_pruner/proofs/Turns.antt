-- Whose turn it is to give up its tree, and the functions' bits.
use Rattle.std.proofs.Common.{◌≡◌, inl, inr, ℕ, zero, suc, ◌+◌, ◌-◌, ◌%◌, ◌^◌, ◌<◌, List, [], ◌∷◌, ◌++◌, length, drop, sym, ap, ◌∙◌, arith, length-append}
use Rattle.std.specs.Prelude.{slice_index}
use Rattle.std.specs.List.{range_with_len}
use Rattle.std.proofs.lemmas.Bool.{cases_lt}
use Rattle.std.proofs.lemmas.List.{drop_more, get_or-append_right, get_or_append_left}
use Rattle.std.proofs.lemmas.Grind.{pow_more}
use Rattle.std.proofs.lemmas.List.FromFn.{get_or-range_with_len, length-range_with_len}
use Rattle.nesc_requests.specs.Machine.{most_functions}
use Rattle.tree_pruner.specs.Reclaiming.{mask_of, turn_of}
use Rattle.tree_pruner.specs.Roots.{IsFunction}

-- Turns

pub turns : (f : ℕ) → IsFunction f → length (turn_of f) ≡ most_functions
turns f function =
    let last = function.last in
    let after = length-range_with_len (f + 1) (16 - f) in
    let around = length-range_with_len 1 f in
    let both = length-append (range_with_len (f + 1) (16 - f)) (range_with_len 1 f) in
    omega arith

-- the function after so many others, by its number
pub turn_at : (f turn : ℕ) → IsFunction f → turn < most_functions → slice_index (turn_of f) turn ≡ (f + turn) % 16 + 1
turn_at f turn function among =
    let last = function.last in
    let after = length-range_with_len (f + 1) (16 - f) in
    elim (cases_lt turn (16 - f)) [
      | inl before ↦
          get_or_append_left (range_with_len (f + 1) (16 - f)) (range_with_len 1 f) 0 turn (omega arith)
          ∙ get_or-range_with_len (f + 1) (16 - f) turn 0 before ∙ omega arith
      | inr past ↦
          get_or-append_right (range_with_len (f + 1) (16 - f)) (range_with_len 1 f) (16 - f) turn 0 after past
          ∙ get_or-range_with_len 1 f (turn - (16 - f)) 0 (omega arith) ∙ omega arith
    ]

-- the turns from one on are this one and the later ones
pub turns_from : (f turn g : ℕ) → IsFunction f → turn < most_functions → g ≡ slice_index (turn_of f) turn
    → drop turn (turn_of f) ≡ g ∷ drop (turn + 1) (turn_of f)
turns_from f turn g function among is =
    let many = turns f function in
    drop_more (turn_of f) turn 0 (omega arith) ∙ ap (λ (h : ℕ). h ∷ drop (turn + 1) (turn_of f)) (sym is)

-- Bits

pub mask_append : (one other : List ℕ) → mask_of (one ++ other) ≡ mask_of one + mask_of other
mask_append [] other = omega arith
mask_append (g ∷ others) other = let rest = mask_append others other in omega arith

-- the bits of so many functions in a row
mask_row : (a n : ℕ) → mask_of (range_with_len (a + 1) n) + 2 ^ a ≡ 2 ^ (a + n)
mask_row a zero =
    let at : a ≡ a + 0 = omega arith in
    let same : 2 ^ a ≡ 2 ^ (a + 0) = ap (λ (i : ℕ). 2 ^ i) at in
    omega arith
mask_row a (suc n) =
    let rest = mask_row (a + 1) n in
    let twice = pow_more 2 a in
    let here : a + 1 - 1 ≡ a = omega arith in
    let there : a + 1 + n ≡ a + suc n = omega arith in
    let own : 2 ^ (a + 1 - 1) ≡ 2 ^ a = ap (λ (i : ℕ). 2 ^ i) here in
    let end : 2 ^ (a + 1 + n) ≡ 2 ^ (a + suc n) = ap (λ (i : ℕ). 2 ^ i) there in
    omega arith

-- all of them are bits of a word of sixteen
pub mask_all : (f : ℕ) → IsFunction f → mask_of (turn_of f) < 2 ^ 16
mask_all f function =
    let last = function.last in
    let both = mask_append (range_with_len (f + 1) (16 - f)) (range_with_len 1 f) in
    let after = mask_row f (16 - f) in
    let around = mask_row 0 f in
    let at : f + (16 - f) ≡ 16 = omega arith in
    let from : 0 + f ≡ f = omega arith in
    let end : 2 ^ (f + (16 - f)) ≡ 2 ^ 16 = ap (λ (i : ℕ). 2 ^ i) at in
    let start : 2 ^ (0 + f) ≡ 2 ^ f = ap (λ (i : ℕ). 2 ^ i) from in
    omega arith
