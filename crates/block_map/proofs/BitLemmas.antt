-- What becomes of the bits where a word is written.
use Rattle.std.proofs.Common.{◌≡◌, ℕ, ◌+◌, ◌-◌, ◌*◌, ◌/◌, ◌%◌, ◌<◌, ◌≤◌, ◌^◌, ◌≢◌, inl, inr, Bool, true, false, nat_eq, Some, slice_get, List, replicate, length, get_or, set, bit_and, bit_or, arith, ap, refl, sym, ◌∙◌, get_or-set_other, get_or-set_same, w64}
use Rattle.std.proofs.lemmas.Bool.{cases_eq, cases_lt, cases_Bool, false≢true}
use Rattle.std.proofs.lemmas.List.{ext_get_or, length-set, get_or_default, length-replicate, get_or-replicate}
use Rattle.std.proofs.lemmas.List.FromFn.{length-map-range_with_len, get_or-map-range_with_len}
use Rattle.std.proofs.lemmas.Option.{slice_get-get_or, slice_get_within, same_Some}
use Rattle.std.proofs.lemmas.Nat.{one_shl}
use Rattle.std.proofs.lemmas.Nat.Bits.{bit_at_set_same, bit_at_set_other, bit_at_clear_same, bit_at_clear_other, bit_at-trailing_zeros, bit_at_ones, bit_at_ones_above}
use Rattle.std.specs.Int.{bit_at as bit_of_word, bit_not, trailing_zeros}
use Rattle.block_map.specs.Bits.{AreBits, AreClear, IsLowestSet, bit_at, bits_of}

-- Word w is v now. The bits in it are those of v, and the others are as before.
pub written : (words : List ℕ) (w v k : ℕ) → w < length words → k / 64 ≡ w → bit_at (set words w v) k ≡ nat_eq (bit_of_word v (k % 64)) 1
written words w v k h e = rw (e, get_or-set_same) refl

pub kept : (words : List ℕ) (w v k : ℕ) → k / 64 ≢ w → bit_at (set words w v) k ≡ bit_at words k
kept words w v k ne = rw get_or-set_other refl

-- One bit is b now, and the others are as before.
pub record IsEdit (before after : List ℕ) (k : ℕ) (b : Bool) : Type 0 where
  pub long : length after ≡ length before
  pub there : bit_at after k ≡ b
  pub others : (j : ℕ) → j ≢ k → bit_at after j ≡ bit_at before j

-- An element of the list of bits, at any default.
pub bit_in_view : (words : List ℕ) (len k : ℕ) (d : Bool) → k < len → get_or (bits_of words len) k d ≡ bit_at words k
bit_in_view words len k d h = get_or-map-range_with_len (bit_at words) 0 len k k d h (omega arith)

pub length_view : (words : List ℕ) (len : ℕ) → length (bits_of words len) ≡ len
length_view words len = length-map-range_with_len (bit_at words) 0 len

-- One element of the list after an edit.
element : (before after : List ℕ) (len k : ℕ) (b : Bool) → k < len → IsEdit before after k b → (j : ℕ) → j < len → bit_at after j ≡ get_or (set (bits_of before len) k b) j false
element before after len k b h e j inside =
    let bits : List Bool = bits_of before len in
    let n : k < length bits = omega (arith, length_view before len) in
    elim (cases_eq j k) [
      | inl same ↦ ap (bit_at after) same ∙ (e.there ∙ (sym (get_or-set_same bits k b false n) ∙ ap (λ (i : ℕ). get_or (set bits k b) i false) (sym same)))
      | inr ne ↦ e.others j ne ∙ (sym (bit_in_view before len j false inside) ∙ sym (get_or-set_other bits k j b false ne))
    ]

-- The list of bits shows such an edit as a write of one element.
pub view_of_edit : (before after : List ℕ) (len k : ℕ) (b : Bool) → k < len → IsEdit before after k b → bits_of after len ≡ set (bits_of before len) k b
view_of_edit before after len k b h e =
    let bits : List Bool = bits_of before len in
    ext_get_or false (bits_of after len) (set bits k b)
    (length_view after len ∙ (sym (length_view before len) ∙ sym (length-set bits k b)))
    (λ j below.
    let inside : j < len = omega (arith, length_view after len) in
    bit_in_view after len j false inside ∙ element before after len k b h e j inside)

-- An edit keeps what is said of the bits, where the hint does not pass a bit that it sets.
pub bits_after_edit : (before after : List ℕ) (len hint k : ℕ) (b : Bool) (hint' : ℕ) → AreBits before len hint → k < len → IsEdit before after k b → hint' ≤ hint → (b ≡ true → hint' ≤ k / 64) → AreBits after len hint'
bits_after_edit before after len hint k b hint' bits h e lower low = record {
  enough = omega (arith, bits.enough, e.long);
  fits = omega (arith, bits.fits, e.long);
  behind = λ j past. let ne : j ≢ k = omega arith in e.others j ne ∙ bits.behind j past;
  before = λ j first. let old : j < 64 * hint = omega arith in
      elim (cases_eq j k) [
        | inl same ↦ ap (bit_at after) same ∙ (e.there ∙ elim (cases_Bool b) [
          | inl on ↦ absurd (omega (arith, low on))
          | inr off ↦ off
        ])
        | inr ne ↦ e.others j ne ∙ bits.before j old
      ];
}

-- A word of which one bit is written is such an edit.
edit_of_word : (words : List ℕ) (k v : ℕ) (b : Bool) → k < 64 * length words → nat_eq (bit_of_word v (k % 64)) 1 ≡ b → ((i : ℕ) → i < 64 → i ≢ k % 64 → bit_of_word v i ≡ bit_of_word (get_or words (k / 64) 0) i) → IsEdit words (set words (k / 64) v) k b
edit_of_word words k v b h same others =
    let within : k / 64 < length words = omega arith in
    record {
      long = length-set words (k / 64) v;
      there = written words (k / 64) v k within refl ∙ same;
      others = λ j ne. elim (cases_eq (j / 64) (k / 64)) [
        | inl here ↦
            let other : j % 64 ≢ k % 64 = omega arith in
            let small : j % 64 < 64 = omega arith in
            written words (k / 64) v j within here ∙ (ap (λ (b : ℕ). nat_eq b 1) (others (j % 64) small other) ∙ ap (λ (w : ℕ). nat_eq (bit_of_word (get_or words w 0) (j % 64)) 1) (sym here))
        | inr away ↦ kept words (k / 64) v j away
      ];
    }

-- The edit that `clear` makes, of the word as it was read.
pub edit_by_clear : (words : List ℕ) (k word : ℕ) → k < 64 * length words → word ≡ get_or words (k / 64) word → IsEdit words (set words (k / 64) (bit_and word (bit_not w64 (1 * 2 ^ (k % 64) % 2 ^ 64)))) k false
edit_by_clear words k word h read =
    let within : k / 64 < length words = omega arith in
    let small : k % 64 < 64 = omega arith in
    let is : word ≡ get_or words (k / 64) 0 = read ∙ get_or_default words (k / 64) word 0 within in
    edit_of_word words k (bit_and word (bit_not w64 (1 * 2 ^ (k % 64) % 2 ^ 64))) false h
    (ap (λ (b : ℕ). nat_eq b 1) (bit_at_clear_same w64 word (k % 64) small))
    (λ i l ne. bit_at_clear_other w64 word (k % 64) small i l ne ∙ ap (λ (w : ℕ). bit_of_word w i) is)

-- The edit that `set` makes.
pub edit_by_set : (words : List ℕ) (k word : ℕ) → k < 64 * length words → word ≡ get_or words (k / 64) word → IsEdit words (set words (k / 64) (bit_or word (1 * 2 ^ (k % 64) % 2 ^ 64))) k true
edit_by_set words k word h read =
    let within : k / 64 < length words = omega arith in
    let small : k % 64 < 64 = omega arith in
    let is : word ≡ get_or words (k / 64) 0 = read ∙ get_or_default words (k / 64) word 0 within in
    edit_of_word words k (bit_or word (1 * 2 ^ (k % 64) % 2 ^ 64)) true h
    (ap (λ (b : ℕ). nat_eq b 1) (bit_at_set_same w64 word (k % 64) small))
    (λ i l ne. bit_at_set_other w64 word (k % 64) small i ne ∙ ap (λ (w : ℕ). bit_of_word w i) is)

-- A bit of the list, where a word is known that was read.
in_word : (words : List ℕ) (w word k r : ℕ) → w < length words → word ≡ get_or words w word → k / 64 ≡ w → k % 64 ≡ r → bit_at words k ≡ nat_eq (bit_of_word word r) 1
in_word words w word k r h read here place =
    let is : word ≡ get_or words w 0 = read ∙ get_or_default words w word 0 h in
    ap (λ (i : ℕ). nat_eq (bit_of_word (get_or words i 0) (k % 64)) 1) here
    ∙ ap (λ (i : ℕ). nat_eq (bit_of_word (get_or words w 0) i) 1) place
    ∙ ap (λ (v : ℕ). nat_eq (bit_of_word v r) 1) (sym is)

-- An element of the list of bits, as `slice_get` gives it.
pub entry : (words : List ℕ) (len k : ℕ) → k < len → slice_get (bits_of words len) k ≡ Some (bit_at words k)
entry words len k h =
    let within : k < length (bits_of words len) = omega (arith, length_view words len) in
    slice_get-get_or (bits_of words len) k false within ∙ ap (λ (b : Bool). Some b) (bit_in_view words len k false h)

-- No bit of the list is set where none of the words is.
pub view_clear : (words : List ℕ) (len : ℕ) → ((k : ℕ) → k < len → bit_at words k ≡ false) → AreClear (bits_of words len)
view_clear words len none k h =
    let within : k < len = omega (arith, slice_get_within (bits_of words len) k true h, length_view words len) in
    false≢true (sym (none k within) ∙ same_Some (bit_at words k) true (sym (entry words len k within) ∙ h))

-- The lowest bit of the first word that is not 0 is the lowest of all.
pub lowest_of_word : (words : List ℕ) (len hint w word : ℕ) → AreBits words len hint → w < length words → word ≡ get_or words w word → 0 < word → word < 2 ^ 64 → ((k : ℕ) → k < 64 * w → bit_at words k ≡ false) → IsLowestSet (bits_of words len) (w * 64 + trailing_zeros w64 word)
lowest_of_word words len hint w word bits h read some short below =
    let k : ℕ = w * 64 + trailing_zeros w64 word in
    let low = bit_at-trailing_zeros w64 word some short in
    let small : trailing_zeros w64 word < 64 = low.0 in
    let here : k / 64 ≡ w = omega arith in
    let place : k % 64 ≡ trailing_zeros w64 word = omega arith in
    let on : bit_at words k ≡ true = in_word words w word k (trailing_zeros w64 word) h read here place ∙ ap (λ (b : ℕ). nat_eq b 1) low.1 in
    let inside : k < len = elim (cases_lt k len) [ inl l ↦ l | inr past ↦ absurd (false≢true (sym (bits.behind k past) ∙ on)) ] in
    record {
      set = entry words len k inside ∙ ap (λ (b : Bool). Some b) on;
      lowest = λ j l.
          let l' : j < k = l in
          let j_in : j < len = omega arith in
          entry words len j j_in ∙ ap (λ (b : Bool). Some b) (elim (cases_lt j (64 * w)) [
            | inl first ↦ below j first
            | inr in_it ↦
                let same : j / 64 ≡ w = omega arith in
                let under : j % 64 < trailing_zeros w64 word = omega arith in
                in_word words w word j (j % 64) h read same refl ∙ ap (λ (b : ℕ). nat_eq b 1) (low.2 (j % 64) under)
          ]);
    }

-- The hint may rise to the word of the lowest bit that is set.
pub bits_at_lowest : (words : List ℕ) (len hint k : ℕ) → AreBits words len hint → IsLowestSet (bits_of words len) k → AreBits words len (k / 64)
bits_at_lowest words len hint k bits low =
    let within : k < len = omega (arith, slice_get_within (bits_of words len) k true low.set, length_view words len) in
    record {
      enough = bits.enough;
      fits = bits.fits;
      behind = bits.behind;
      before = λ j h.
          let under : j < k = omega arith in
          let inside : j < len = omega arith in
          same_Some (bit_at words j) false (sym (entry words len j inside) ∙ low.lowest j under);
    }

-- The first w words have all their bits set, and the others are as before.
pub record HasFull (before after : List ℕ) (w : ℕ) : Type 0 where
  pub long : length after ≡ length before
  pub full : (i : ℕ) → i < w → get_or after i 0 ≡ 2 ^ 64 - 1
  pub rest : (i : ℕ) → w ≤ i → get_or after i 0 ≡ get_or before i 0

-- The first bits are set, so many, and no other is.
pub record AreFirstSet (words : List ℕ) (len : ℕ) : Type 0 where
  pub each : (k : ℕ) → k < len → bit_at words k ≡ true
  pub behind : (k : ℕ) → len ≤ k → bit_at words k ≡ false

-- A bit in one of the words that are full.
in_full : (before after : List ℕ) (w k : ℕ) → HasFull before after w → k / 64 < w → bit_at after k ≡ true
in_full before after w k so_far h =
    let small : k % 64 < 64 = omega arith in
    ap (λ (v : ℕ). nat_eq (bit_of_word v (k % 64)) 1) (so_far.full (k / 64) h) ∙ ap (λ (b : ℕ). nat_eq b 1) (bit_at_ones 64 (k % 64) small)

-- A bit behind the last, in a word that is as before.
behind_full : (before after : List ℕ) (len hint w k : ℕ) → AreBits before len hint → HasFull before after w → w ≤ k / 64 → len ≤ k → bit_at after k ≡ false
behind_full before after len hint w k bits so_far h past =
    ap (λ (v : ℕ). nat_eq (bit_of_word v (k % 64)) 1) (so_far.rest (k / 64) h) ∙ bits.behind k past

-- The full words are all that is to be set.
pub first_set_whole : (before after : List ℕ) (len hint w : ℕ) → AreBits before len hint → HasFull before after w → w ≡ len / 64 → len % 64 ≡ 0 → AreFirstSet after len
first_set_whole before after len hint w bits so_far whole none = record {
  each = λ k h. let below : k / 64 < w = omega arith in in_full before after w k so_far below;
  behind = λ k h. let past : w ≤ k / 64 = omega arith in behind_full before after len hint w k bits so_far past h;
}

-- One more word has the rest of them.
pub first_set_rest : (before after : List ℕ) (len hint w : ℕ) → AreBits before len hint → HasFull before after w → w ≡ len / 64 → len / 64 < length after → AreFirstSet (set after (len / 64) (1 * 2 ^ (len % 64) % 2 ^ 64 - 1)) len
first_set_rest before after len hint w bits so_far whole within =
    let v : ℕ = 1 * 2 ^ (len % 64) % 2 ^ 64 - 1 in
    let small : len % 64 < 64 = omega arith in
    let is : v ≡ 2 ^ (len % 64) - 1 = ap (λ (n : ℕ). n - 1) (one_shl (len % 64) 64 small) in
    record {
      each = λ k h. elim (cases_eq (k / 64) (len / 64)) [
        | inl here ↦
            let under : k % 64 < len % 64 = omega arith in
            written after (len / 64) v k within here
            ∙ ap (λ (n : ℕ). nat_eq (bit_of_word n (k % 64)) 1) is
            ∙ ap (λ (b : ℕ). nat_eq b 1) (bit_at_ones (len % 64) (k % 64) under)
        | inr away ↦
            let below : k / 64 < w = omega arith in
            kept after (len / 64) v k away ∙ in_full before after w k so_far below
      ];
      behind = λ k h. elim (cases_eq (k / 64) (len / 64)) [
        | inl here ↦
            let above : len % 64 ≤ k % 64 = omega arith in
            written after (len / 64) v k within here
            ∙ ap (λ (n : ℕ). nat_eq (bit_of_word n (k % 64)) 1) is
            ∙ ap (λ (b : ℕ). nat_eq b 1) (bit_at_ones_above (len % 64) (k % 64) above)
        | inr away ↦
            let past : w ≤ k / 64 = omega arith in
            kept after (len / 64) v k away ∙ behind_full before after len hint w k bits so_far past h
      ];
    }

-- What is said of the bits holds of those, with the hint at the first word.
pub bits_first_set : (before after : List ℕ) (len hint len' hint' : ℕ) → AreBits before len hint → length after ≡ length before → len' ≡ len → hint' ≡ 0 → AreFirstSet after len → AreBits after len' hint'
bits_first_set before after len hint len' hint' bits long same first all = record {
  enough = omega (arith, bits.enough, long);
  fits = omega (arith, bits.fits, long);
  behind = λ k h. let past : len ≤ k = omega arith in all.behind k past;
  before = λ k h. absurd (omega arith);
}

-- The list shows them so.
pub view_first_set : (words : List ℕ) (len : ℕ) → AreFirstSet words len → bits_of words len ≡ replicate len true
view_first_set words len all =
    ext_get_or false (bits_of words len) (replicate len true)
    (length_view words len ∙ sym (length-replicate len true))
    (λ k below.
    let inside : k < len = omega (arith, length_view words len) in
    bit_in_view words len k false inside ∙ (all.each k inside ∙ sym (get_or-replicate len k true false inside)))
