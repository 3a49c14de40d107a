-- What number a text writes, digit by digit.
use Rattle.std.proofs.Common.{◌≡◌, ℕ, ◌+◌, ◌-◌, ◌*◌, ◌^◌, ◌<◌, ◌≤◌, ◌&&◌, nat_le, nat_lt, true, Bool, List, length, take, get_or, Some, None, arith, sym, ap, ◌∙◌}
use Rattle.std.proofs.lemmas.Bool.{cond-false, false_from_ne_true, and_parts, leb-true, ltb-true}
use Rattle.std.proofs.lemmas.List.{take_all}
use Rattle.std.proofs.lemmas.Bool.Decides.{nat_tests}
use Rattle.std.proofs.lemmas.Int.Digits.{digits_value_more, digits_more}
use Rattle.std.proofs.lemmas.Str.Parse.{digit_at, digits_value-take-le, numerals_by_value, tells_all_ascii_digits, IsNumeralModel}
use Rattle.std.proofs.lemmas.Fmt.{decimal_is_IsNumeral, length-decimal-le}
use Rattle.std.specs.Fmt.{decimal}
use Rattle.std.specs.Char.{digit_value, IsAsciiDigit}
use Rattle.std.specs.Str.{all_ascii_digits}
use Rattle.std.specs.Str.Parse.{digits_value, AllDigits}
use Rattle.text_kit.specs.Number.{number_of}

-- a text that writes a number
pub record IsNumber (text : List ℕ) : Type 0 where
  pub some : 1 ≤ length text
  pub few : length text ≤ 20
  pub digits : AllDigits 10 text
  pub fits : digits_value 10 text < 2 ^ 64

-- std's lemmas on numerals, at the words of `number_of`
own : IsNumeralModel (λ ds. all_ascii_digits ds ≡ true) (digits_value 10)
own = numerals_by_value _ tells_all_ascii_digits

-- the value of a decimal digit
digit_value-digit : (c : ℕ) → IsAsciiDigit c → digit_value c ≡ c - 48
digit_value-digit c digit = grind (arith, nat_tests)

-- the test of `number_of`
abbrev is_number : List ℕ → Bool
is_number text = nat_le 1 (length text) && nat_le (length text) 20 && all_ascii_digits text && nat_lt (digits_value 10 text) (2 ^ 64)

is_number-IsNumber : (text : List ℕ) → is_number text ≡ true → IsNumber text
is_number-IsNumber text test =
    let few = and_parts _ _ test in
    let digits = and_parts _ _ few.0 in
    let lengths = and_parts _ _ digits.0 in
    record {
      some = leb-true _ _ lengths.0;
      few = leb-true _ _ lengths.1;
      digits = own.to text digits.1;
      fits = ltb-true _ _ few.1;
    }

-- such a text writes its value, and any other writes none
pub number_of-number : (text : List ℕ) → IsNumber text → number_of text ≡ Some (digits_value 10 text)
unfolding number_of
number_of-number text is =
    let digits : all_ascii_digits text ≡ true = own.from text is.digits in
    grind (arith, nat_tests)

pub number_of-other : (text : List ℕ) → (IsNumber text → ⊥) → number_of text ≡ None
unfolding number_of
number_of-other text not =
    cond-false (is_number text) (Some (digits_value 10 text)) None (false_from_ne_true _ (λ test. not (is_number-IsNumber text test)))

-- a text whose next byte continues no number writes none
pub number_of-stops : (text : List ℕ) (i value : ℕ) → i < length text → value ≡ digits_value 10 (take i text) → (IsAsciiDigit (get_or text i 0) × (value * 10 + (get_or text i 0 - 48) < 2 ^ 64) → ⊥) → number_of text ≡ None
number_of-stops text i value within so_far stops = number_of-other text (λ is.
    let digit : IsAsciiDigit (get_or text i 0) = digit_at text i is.digits within in
    let below : digits_value 10 (take (i + 1) text) ≤ digits_value 10 text = digits_value-take-le 10 text (i + 1) (omega arith) in
    let more : digits_value 10 (take (i + 1) text) ≡ digits_value 10 (take i text) * 10 + digit_value (get_or text i 0) = digits_value_more 10 text i within in
    let same : digit_value (get_or text i 0) ≡ get_or text i 0 - 48 = digit_value-digit _ digit in
    let fits : digits_value 10 text < 2 ^ 64 = is.fits in
    stops (digit, omega arith))

-- the first i bytes are digits, and this is their value
pub record HasRead (text : List ℕ) (i value : ℕ) : Type 0 where
  pub digits : AllDigits 10 (take i text)
  pub same : value ≡ digits_value 10 (take i text)
  pub fits : value < 2 ^ 64

-- the next digit continues the number
pub HasRead-more : (text : List ℕ) (i value new : ℕ) → i < length text → HasRead text i value → (IsAsciiDigit (get_or text i 0) × (value * 10 + (get_or text i 0 - 48) < 2 ^ 64)) × (new ≡ value * 10 + (get_or text i 0 - 48)) → HasRead text (i + 1) new
HasRead-more text i value new within so_far next =
    let digit : digit_value (get_or text i 0) ≡ get_or text i 0 - 48 = digit_value-digit _ next.0.0 in
    let before : value ≡ digits_value 10 (take i text) = so_far.same in
    let is : new ≡ value * 10 + (get_or text i 0 - 48) = next.1 in
    record {
      digits = digits_more 10 text i within so_far.digits (omega (arith, next.0.0));
      same = omega (arith, digits_value_more 10 text i within);
      fits = omega (arith, next.0.1);
    }

-- a text that has been read to its end writes the number
pub number_of-end : (text : List ℕ) (i value : ℕ) → length text ≤ i → 1 ≤ length text → length text ≤ 20 → HasRead text i value → Some value ≡ number_of text
number_of-end text i value end some few so_far =
    let whole : take i text ≡ text = take_all i text end in
    let same : value ≡ digits_value 10 text = rw whole at so_far.same in
    let fits : digits_value 10 text < 2 ^ 64 = omega (arith, so_far.fits) in
    rw same (sym (number_of-number text (record { some = some; few = few; digits = rw whole at so_far.digits; fits = fits })))

-- the decimal digits of a number write it
pub number_of-decimal : (n : ℕ) → n < 2 ^ 64 → number_of (decimal n) ≡ Some n
number_of-decimal n fits =
    let numeral = decimal_is_IsNumeral n fits in
    let same : digits_value 10 (decimal n) ≡ n = numeral.1 in
    number_of-number (decimal n) (record {
      some = numeral.0.0;
      few = length-decimal-le 20 n (omega arith) (omega arith) fits;
      digits = numeral.0.1;
      fits = omega arith;
    })
    ∙ ap Some same
