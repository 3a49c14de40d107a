-- The mask of functions that wait.
use Rattle.std.proofs.Common.{◌≡◌, ◌≢◌, ℕ, zero, suc, ◌+◌, ◌-◌, ◌*◌, ◌/◌, ◌%◌, ◌<◌, ◌≤◌, inl, inr, Bool, true, false, List, [], ◌∷◌, length, set, replicate, slice_get, is_some, refl, sym, ap, subst, ◌∙◌, arith}
use Rattle.std.specs.Prelude.{if◌then◌else◌}
use Rattle.std.specs.Int.{bit_at}
use Rattle.std.specs.Option.{option_and_then}
use Rattle.std.proofs.lemmas.Bool.{cases_eq}
use Rattle.std.proofs.lemmas.List.{length-replicate, length-set}
use Rattle.std.proofs.lemmas.Nat.Bits.{bit_at-suc, bit_at-zero, bit_at_lowest, same_from_bits}
use Rattle.vf_registers.specs.declared.function.Function.{Function}
use Rattle.vf_registers.specs.Registers.{AgreesWithMisses, DeviceRegisters, IsSound, pending, quiet}

abbrev pub bit_of : Bool → ℕ
bit_of bit = if bit then 1 else 0

few : (bit : Bool) → bit_of bit < 2
few true = omega arith
few false = omega arith

-- the function at an index waits
abbrev pub waits : List Function → ℕ → Bool
waits functions k = is_some (option_and_then (λ (function : Function). function.miss) (slice_get functions k))

pub bit_at-pending : (functions : List Function) (k : ℕ) → bit_at (pending functions) k ≡ bit_of (waits functions k)
bit_at-pending [] k = bit_at-zero k
bit_at-pending (function ∷ functions) zero =
    let odd : (bit_of (is_some function.miss) + 2 * pending functions) % 2 ≡ bit_of (is_some function.miss) = omega (arith, few (is_some function.miss)) in
    bit_at_lowest (bit_of (is_some function.miss) + 2 * pending functions) ∙ odd
bit_at-pending (function ∷ functions) (suc k) =
    let half : (bit_of (is_some function.miss) + 2 * pending functions) / 2 ≡ pending functions = omega (arith, few (is_some function.miss)) in
    bit_at-suc (bit_of (is_some function.miss) + 2 * pending functions) k ∙ ap (λ n. bit_at n k) half ∙ bit_at-pending functions k

pub pending_agrees : (registers : DeviceRegisters) → AgreesWithMisses registers (pending registers.functions)
pending_agrees registers zero some = absurd (omega arith)
pending_agrees registers (suc k) some =
    let place : suc k - 1 ≡ k = omega arith in
    ap (bit_at (pending registers.functions)) place ∙ bit_at-pending registers.functions k

waits_same : (functions : List Function) (i : ℕ) (function : Function) → i < length functions → waits (set functions i function) i ≡ is_some function.miss
waits_same [] i function within = absurd (omega arith)
waits_same (x ∷ functions) zero function within = refl
waits_same (x ∷ functions) (suc i) function within = waits_same functions i function (omega arith)

waits_other : (functions : List Function) (i k : ℕ) (function : Function) → k ≢ i → waits (set functions i function) k ≡ waits functions k
waits_other [] i k function apart = refl
waits_other (x ∷ functions) zero zero function apart = absurd (apart refl)
waits_other (x ∷ functions) zero (suc k) function apart = refl
waits_other (x ∷ functions) (suc i) zero function apart = refl
waits_other (x ∷ functions) (suc i) (suc k) function apart = waits_other functions i k function (λ same. apart (ap suc same))

-- one function becomes another, and its bit follows
pub pending-set : (functions : List Function) (i : ℕ) (function : Function) (bits after : ℕ) → i < length functions → bits ≡ pending functions
    → bit_at after i ≡ bit_of (is_some function.miss) → ((k : ℕ) → k ≢ i → bit_at after k ≡ bit_at bits k) → after ≡ pending (set functions i function)
pending-set functions i function bits after within were there others = same_from_bits after (pending (set functions i function)) each
  where
    each : (k : ℕ) → bit_at after k ≡ bit_at (pending (set functions i function)) k
    each k = elim (cases_eq k i) [
      | inl same ↦
          ap (bit_at after) same ∙ there ∙ ap bit_of (sym (waits_same functions i function within))
          ∙ sym (bit_at-pending (set functions i function) i) ∙ ap (bit_at (pending (set functions i function))) (sym same)
      | inr apart ↦
          others k apart ∙ ap (λ n. bit_at n k) were ∙ bit_at-pending functions k ∙ ap bit_of (sym (waits_other functions i k function apart))
          ∙ sym (bit_at-pending (set functions i function) k)
    ]

pending-quiet : (count : ℕ) → pending (replicate count quiet) ≡ 0
pending-quiet zero = refl
pending-quiet (suc count) = omega (arith, pending-quiet count)

-- at first none waits
pub sound_at_first : (functions : List Function) (count : ℕ) → functions ≡ replicate count quiet → count ≤ 16 → IsSound functions 0
sound_at_first functions count are within = record {
  few = omega (arith, ap length are, length-replicate count quiet);
  mask = sym (ap pending are ∙ pending-quiet count);
}

-- one function becomes another, and its bit follows
pub sound_after : (functions : List Function) (i : ℕ) (function : Function) (bits after : ℕ) → i < length functions → IsSound functions bits
    → bit_at after i ≡ bit_of (is_some function.miss) → ((k : ℕ) → k ≢ i → bit_at after k ≡ bit_at bits k) → IsSound (set functions i function) after
sound_after functions i function bits after within sound there others = record {
  few = omega (arith, length-set functions i function, sound.few);
  mask = pending-set functions i function bits after within sound.mask there others;
}

-- the mask that is read agrees with what functions wait for
pub agrees_as_read : (kept now : DeviceRegisters) (bits given : ℕ) → kept ≡ now → given ≡ bits → bits ≡ pending kept.functions → AgreesWithMisses now given
agrees_as_read kept now bits given same read mask =
    subst (λ (registers : DeviceRegisters). AgreesWithMisses registers given) same
    (subst (λ (n : ℕ). AgreesWithMisses kept n) (sym (read ∙ mask)) (pending_agrees kept))
