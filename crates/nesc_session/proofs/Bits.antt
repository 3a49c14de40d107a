-- Numbers whose bits are given, the lowest first.
use Rattle.std.proofs.Common.{◌≡◌, ℕ, zero, suc, ◌+◌, ◌*◌, ◌/◌, ◌%◌, ◌^◌, ◌<◌, Bool, true, false, cond, List, [], ◌∷◌, ◌++◌, length, get_or, map, take, bit_or, sym, ap, ◌∙◌, subst, arith}
use Rattle.std.specs.Int.{bit_at}
use Rattle.std.proofs.Math.Nat.{add_comm, pow-suc}
use Rattle.std.proofs.lemmas.List.{length-map, length-take-le, map-append, take_more}
use Rattle.std.proofs.lemmas.Nat.{one_shl, or_comm, or_shifted}
use Rattle.std.proofs.lemmas.Nat.Bits.{bit_at-suc, bit_at-zero, bit_at_lowest}

abbrev pub bit_of : Bool → ℕ
bit_of bit = cond bit 1 0

abbrev pub number_of : List Bool → ℕ
number_of [] = 0
number_of (bit ∷ bits) = bit_of bit + 2 * number_of bits

few : (bit : Bool) → bit_of bit < 2
few true = omega arith
few false = omega arith

number_below : (bits : List Bool) → number_of bits < 2 ^ length bits
number_below [] = omega arith
number_below (bit ∷ bits) = omega (arith, few bit, number_below bits, pow-suc 2 (length bits))

number_push : (bits : List Bool) (bit : Bool) → number_of (bits ++ bit ∷ []) ≡ number_of bits + bit_of bit * 2 ^ length bits
number_push [] bit = omega arith
number_push (one ∷ bits) bit =
    let twice : bit_of bit * 2 ^ suc (length bits) ≡ bit_of bit * (2 ^ length bits * 2) = ap (λ n. bit_of bit * n) (pow-suc 2 (length bits)) in
    omega (arith, number_push bits bit, twice)

-- each of its bits
pub bit_at-number_of : (bits : List Bool) (k : ℕ) → bit_at (number_of bits) k ≡ bit_of (get_or bits k false)
bit_at-number_of [] k = bit_at-zero k
bit_at-number_of (bit ∷ bits) zero = let odd : (bit_of bit + 2 * number_of bits) % 2 ≡ bit_of bit = omega (arith, few bit) in bit_at_lowest (bit_of bit + 2 * number_of bits) ∙ odd
bit_at-number_of (bit ∷ bits) (suc k) =
    let half : (bit_of bit + 2 * number_of bits) / 2 ≡ number_of bits = omega (arith, few bit) in
    bit_at-suc (bit_of bit + 2 * number_of bits) k ∙ ap (λ n. bit_at n k) half ∙ bit_at-number_of bits k

-- One more element of a list is tested
module _ {A : Type 0} (p : A → Bool) (xs : List A) (i : ℕ) (x : A) (within : i < length xs) (at : x ≡ get_or xs i x) where
  abbrev passed : List Bool
  passed = map p (take i xs)

  many : length passed ≡ i
  many = length-map (take i xs) p ∙ length-take-le i xs (omega (arith, within))

  pushed : map p (take (i + 1) xs) ≡ passed ++ p x ∷ []
  pushed = ap (map p) (take_more xs i x within) ∙ map-append p (take i xs) (get_or xs i x ∷ []) ∙ ap (λ y. passed ++ p y ∷ []) (sym at)

  more : (bit : Bool) → p x ≡ bit → number_of passed + bit_of bit * 2 ^ i ≡ number_of (map p (take (i + 1) xs))
  more bit is = sym (ap number_of pushed ∙ number_push passed (p x) ∙ (λ k. number_of passed + bit_of (is k) * 2 ^ many k))

  -- it does not pass
  pub number_of-more_false : (n : ℕ) → n ≡ number_of passed → p x ≡ false → n ≡ number_of (map p (take (i + 1) xs))
  number_of-more_false n so_far is = so_far ∙ omega arith ∙ more false is

  -- it does, and its bit is set
  pub number_of-more_true : (w n : ℕ) → i < w → n ≡ number_of passed → p x ≡ true → bit_or n (1 * 2 ^ i % 2 ^ w) ≡ number_of (map p (take (i + 1) xs))
  number_of-more_true w n fits so_far is =
      let below : number_of passed < 2 ^ i = subst (λ k. number_of passed < 2 ^ k) many (number_below passed) in
      let one : 2 ^ i ≡ 1 * 2 ^ i = omega arith in
      ap (bit_or n) (one_shl i w fits)
      ∙ or_comm n (2 ^ i)
      ∙ (λ k. bit_or (one k) (so_far k))
      ∙ or_shifted 1 i (number_of passed) below
      ∙ add_comm (1 * 2 ^ i) (number_of passed)
      ∙ more true is
