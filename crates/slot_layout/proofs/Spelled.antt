-- Lists of numbers as they are spelled, each in four bytes.
use Rattle.std.proofs.Common.{◌/◌, ◌%◌, ◌≡◌, ℕ, zero, suc, ◌+◌, ◌-◌, ◌*◌, ◌<◌, ◌≤◌, min, List, [], ◌∷◌, ◌++◌, length, take, drop, slice_index, refl, sym, ap, ◌∙◌, arith, length-drop}
use Rattle.std.proofs.lemmas.List.{take_min, take_more}
use Rattle.byteorder.specs.Endian.{little_number}
use Rattle.slot_layout.specs.Bytes.{four_bytes, spelled}

pub length-numbers : (ns : List ℕ) → length (spelled four_bytes ns) ≡ 4 * length ns
length-numbers [] = omega arith
length-numbers (n ∷ ns) = let rest = length-numbers ns in omega arith

pub drop-numbers : (k : ℕ) (ns : List ℕ) → drop (4 * k) (spelled four_bytes ns) ≡ spelled four_bytes (drop k ns)
drop-numbers zero ns = refl
drop-numbers (suc k) [] =
    let step : 4 * suc k ≡ suc (suc (suc (suc (4 * k)))) = omega arith in
    rw step refl
drop-numbers (suc k) (n ∷ ns) =
    let step : 4 * suc k ≡ suc (suc (suc (suc (4 * k)))) = omega arith in
    ap (λ i. drop i (spelled four_bytes (n ∷ ns))) step ∙ drop-numbers k ns

pub take-numbers : (k : ℕ) (ns : List ℕ) → take (4 * k) (spelled four_bytes ns) ≡ spelled four_bytes (take k ns)
take-numbers zero ns = refl
take-numbers (suc k) [] =
    let step : 4 * suc k ≡ suc (suc (suc (suc (4 * k)))) = omega arith in
    rw step refl
take-numbers (suc k) (n ∷ ns) =
    let step : 4 * suc k ≡ suc (suc (suc (suc (4 * k)))) = omega arith in
    ap (λ i. take i (spelled four_bytes (n ∷ ns))) step ∙ ap (λ (bs : List ℕ). four_bytes n ++ bs) (take-numbers k ns)

numbers-append : (ms ns : List ℕ) → spelled four_bytes (ms ++ ns) ≡ spelled four_bytes ms ++ spelled four_bytes ns
numbers-append [] ns = refl
numbers-append (m ∷ ms) ns = ap (λ (bs : List ℕ). four_bytes m ++ bs) (numbers-append ms ns)

-- one number more
pub numbers_more : (ns : List ℕ) (i : ℕ) → i < length ns → spelled four_bytes (take (i + 1) ns) ≡ spelled four_bytes (take i ns) ++ four_bytes (slice_index ns i)
numbers_more ns i below = ap (spelled four_bytes) (take_more ns i 0 below) ∙ numbers-append (take i ns) (slice_index ns i ∷ [])

-- the bytes of a block of a list are those of its numbers
pub numbers_of_block : (ns : List ℕ) (from at count : ℕ) → at ≡ 4 * from → count ≡ min (length ns - from) 256
    → spelled four_bytes (take count (drop from ns)) ≡ take 1024 (drop at (spelled four_bytes ns))
numbers_of_block ns from at count at_is count_is =
    let left : length (drop from ns) ≡ length ns - from = length-drop from ns in
    let size : min (length ns - from) 256 ≡ min 256 (length (drop from ns)) = omega arith in
    ap (λ n. spelled four_bytes (take n (drop from ns))) (count_is ∙ size) ∙ ap (spelled four_bytes) (take_min 256 (drop from ns)) ∙ sym (take-numbers 256 (drop from ns))
    ∙ ap (take 1024) (sym (drop-numbers from ns)) ∙ ap (λ n. take 1024 (drop n (spelled four_bytes ns))) (sym at_is)

-- the first n of these are bytes
pub record AreBytes (xs : List ℕ) (n : ℕ) : Type 0 where
  pub some : n ≤ length xs
  pub each : (k : ℕ) → k < n → slice_index xs k < 256

-- four bytes are the spelling of the number in them
four_bytes-number : (a b c d : ℕ) (rest : List ℕ) → a < 256 → b < 256 → c < 256 → d < 256 → four_bytes (little_number 4 (a ∷ b ∷ c ∷ d ∷ rest)) ≡ a ∷ b ∷ c ∷ d ∷ []
four_bytes-number a b c d rest a_fits b_fits c_fits d_fits =
    let n : ℕ = a + 256 * (b + 256 * (c + 256 * (d + 0))) in
    let first : n % 256 ≡ a = omega arith in
    let second : n / 256 % 256 ≡ b = omega arith in
    let third : n / 65536 % 256 ≡ c = omega arith in
    let fourth : n / 16777216 % 256 ≡ d = omega arith in
    ap (λ w. w ∷ n / 256 % 256 ∷ n / 65536 % 256 ∷ n / 16777216 % 256 ∷ []) first
    ∙ ap (λ w. a ∷ w ∷ n / 65536 % 256 ∷ n / 16777216 % 256 ∷ []) second
    ∙ ap (λ w. a ∷ b ∷ w ∷ n / 16777216 % 256 ∷ []) third
    ∙ ap (λ w. a ∷ b ∷ c ∷ w ∷ []) fourth

-- bytes are the spelling of the numbers in them
pub spelled_numbers : (ns xs : List ℕ) → AreBytes xs (4 * length ns) → ((k : ℕ) → k < length ns → little_number 4 (drop (4 * k) xs) ≡ slice_index ns k)
    → take (4 * length ns) xs ≡ spelled four_bytes ns
spelled_numbers [] xs bytes each = refl
spelled_numbers (n ∷ ns) [] bytes each = absurd (let some = bytes.some in omega arith)
spelled_numbers (n ∷ ns) (a ∷ []) bytes each = absurd (let some = bytes.some in omega arith)
spelled_numbers (n ∷ ns) (a ∷ b ∷ []) bytes each = absurd (let some = bytes.some in omega arith)
spelled_numbers (n ∷ ns) (a ∷ b ∷ c ∷ []) bytes each = absurd (let some = bytes.some in omega arith)
spelled_numbers (n ∷ ns) (a ∷ b ∷ c ∷ d ∷ xs) bytes each =
    let all : List ℕ = a ∷ b ∷ c ∷ d ∷ xs in
    let some = bytes.some in
    let size : 4 * length (n ∷ ns) ≡ suc (suc (suc (suc (4 * length ns)))) = omega arith in
    let step : (k : ℕ) → 4 * suc k ≡ suc (suc (suc (suc (4 * k)))) = λ k. omega arith in
    let number : little_number 4 all ≡ n = each 0 (omega arith) in
    let first : a ∷ b ∷ c ∷ d ∷ [] ≡ four_bytes n =
    sym (four_bytes-number a b c d xs (bytes.each 0 (omega arith)) (bytes.each 1 (omega arith)) (bytes.each 2 (omega arith)) (bytes.each 3 (omega arith))) ∙ ap four_bytes number in
    let behind : AreBytes xs (4 * length ns) = record { some = omega arith; each = λ k below. bytes.each (suc (suc (suc (suc k)))) (omega arith) } in
    let others : take (4 * length ns) xs ≡ spelled four_bytes ns =
    spelled_numbers ns xs behind (λ k below. ap (λ i. little_number 4 (drop i all)) (sym (step k)) ∙ each (suc k) (omega arith)) in
    ap (λ i. take i all) size ∙ ap (λ (bs : List ℕ). bs ++ take (4 * length ns) xs) first ∙ ap (λ (bs : List ℕ). four_bytes n ++ bs) others
