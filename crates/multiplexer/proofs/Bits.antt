-- The bits of functions in a mask that is moved, and in one that is cut behind the last function.
use Rattle.std.proofs.Common.{◌≡◌, ℕ, ◌+◌, ◌-◌, ◌*◌, ◌/◌, ◌%◌, ◌<◌, ◌≤◌, ◌^◌, false, nat_eq, bit_and, min, arith, ap, sym, ◌∙◌, w32}
use Rattle.std.specs.Int.{bit_at, trailing_zeros}
use Rattle.std.proofs.lemmas.Nat.{one_shl, shr-shr}
use Rattle.std.proofs.lemmas.Nat.Bits.{bit_at-zero, bit_at-trailing_zeros, bit_at_and, bit_at_ones, bit_at_ones_above, bit_at-lt}
use Rattle.multiplexer.specs.Turns.{IsFirstAfter, IsNoneAfter, is_set}

-- a bit of a mask that is moved down
moved : (bits last k : ℕ) → bit_at (bits / 2 ^ last) k ≡ bit_at bits (last + k)
moved bits last k = ap (λ n. n % 2) (shr-shr bits last k)

is_moved : (bits last f : ℕ) → last < f → is_set bits f ≡ nat_eq (bit_at (bits / 2 ^ last) (f - 1 - last)) 1
is_moved bits last f after =
    let place : f - 1 ≡ last + (f - 1 - last) = omega arith in
    ap (λ k. nat_eq (bit_at bits k) 1) place ∙ ap (λ b. nat_eq b 1) (sym (moved bits last (f - 1 - last)))

-- where nothing is left of it, no function is after the last
pub none_after : (last bits : ℕ) → bits / 2 ^ last ≡ 0 → IsNoneAfter last bits
none_after last bits none f after =
    is_moved bits last f after ∙ ap (λ n. nat_eq (bit_at n (f - 1 - last)) 1) none ∙ ap (λ b. nat_eq b 1) (bit_at-zero (f - 1 - last))

-- else the lowest bit that is left is that of the first after it
pub first_is : (last bits : ℕ) → 0 < bits / 2 ^ last → bits / 2 ^ last < 2 ^ 32 → IsFirstAfter last bits (last + trailing_zeros w32 (bits / 2 ^ last) + 1)
first_is last bits some short =
    let k : ℕ = trailing_zeros w32 (bits / 2 ^ last) in
    let low = bit_at-trailing_zeros w32 (bits / 2 ^ last) some short in
    let place : last + k + 1 - 1 - last ≡ k = omega arith in
    record {
      after = omega arith;
      set = is_moved bits last (last + k + 1) (omega arith) ∙ ap (λ i. nat_eq (bit_at (bits / 2 ^ last) i) 1) place ∙ ap (λ b. nat_eq b 1) low.1;
      first = λ g after before. is_moved bits last g after ∙ ap (λ b. nat_eq b 1) (low.2 (g - 1 - last) (omega arith));
    }

-- the bits of the first so many functions stay where a mask is cut behind them
pub cut_inside : (bits count f : ℕ) → 1 ≤ f → f ≤ count → is_set (bit_and bits (2 ^ count - 1)) f ≡ is_set bits f
cut_inside bits count f some within =
    let below : f - 1 < count = omega arith in
    let same : min (bit_at bits (f - 1)) 1 ≡ bit_at bits (f - 1) = omega (arith, bit_at-lt bits (f - 1)) in
    ap (λ b. nat_eq b 1) (bit_at_and bits (2 ^ count - 1) (f - 1) ∙ ap (λ b. min (bit_at bits (f - 1)) b) (bit_at_ones count (f - 1) below) ∙ same)

-- and no other is set
pub cut_past : (bits count f : ℕ) → count < f → is_set (bit_and bits (2 ^ count - 1)) f ≡ false
cut_past bits count f past =
    let above : count ≤ f - 1 = omega arith in
    let none : min (bit_at bits (f - 1)) 0 ≡ 0 = omega arith in
    ap (λ b. nat_eq b 1) (bit_at_and bits (2 ^ count - 1) (f - 1) ∙ ap (λ b. min (bit_at bits (f - 1)) b) (bit_at_ones_above count (f - 1) above) ∙ none)

-- the mask, as the code cuts it
pub as_cut : (given bits count : ℕ) → given ≡ bits → count ≤ 16 → bit_and given (1 * 2 ^ count % 2 ^ 32 - 1) ≡ bit_and bits (2 ^ count - 1)
as_cut given bits count same few = λ i. bit_and (same i) (one_shl count 32 (omega arith) i - 1)
