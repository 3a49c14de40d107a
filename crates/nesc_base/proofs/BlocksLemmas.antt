-- How the blocks of a request are kept: each change leaves them in order, and is the change of one block.
use Rattle.std.proofs.Common.{◌≡◌, ◌≢◌, ◌⊎◌, inl, inr, ℕ, zero, suc, ◌+◌, ◌*◌, ◌<◌, ◌≤◌, Bool, true, cond, List, [], ◌∷◌, ◌++◌, length, map, replicate, take, Option, Some, None, option_map, slice_get, get_or, refl, sym, ap, ◌∙◌, arith}
use Rattle.std.proofs.lemmas.List.{length-map}
use Rattle.std.proofs.Math.Seq.{get_or-append_seam}
use Rattle.std.specs.Prelude.{slice_set}
use Rattle.std.specs.List.{count_by}
use Rattle.std.proofs.lemmas.Bool.{cases_eq, cases_Bool, cond-true, cond-false}
use Rattle.std.proofs.lemmas.Slice.Eq.{bytes_eq-Decides}
use Rattle.std.specs.Str.{bytes_eq}
use Rattle.std.proofs.lemmas.List.Folds.{sum_by-replicate}
use Rattle.std.proofs.lemmas.List.Sums.{sum_by-set}
use Rattle.std.proofs.lemmas.List.{get_or-set_same, get_or-set_other, get_or_append_left, length-set, map-set}
use Rattle.std.proofs.lemmas.Option.{none-some, same_Some, slice_get-map, slice_get_within}
use Rattle.nesc_base.specs.declared.block.Block.{Block}
use Rattle.nesc_base.specs.declared.blocks.Form.{Form}
use Rattle.nesc_base.specs.declared.blocks.Form.TheVariants.{Repeats, Full}
use Rattle.nesc_base.specs.Block.{zero_block}
use Rattle.nesc_base.specs.BlockText.{period_of, repeated}
use Rattle.nesc_base.specs.Blocks.{AreKept, block_in, blocks_in, most_in_request, repeats, zero_form}
use Rattle.nesc_base.proofs.Differing.{same_by_places, slice_get-set_same, slice_get-set_other}

-- Blocks of zeros

zeros_repeat : repeated (replicate 8 0) ≡ zero_block
unfolding repeated zero_block
zeros_repeat = refl

each_zero : (n : ℕ) (full : List Block) → blocks_in (replicate n zero_form) full ≡ replicate n zero_block
each_zero zero full = refl
each_zero (suc n) full = ap (λ (block : Block). block ∷ map (block_in full) (replicate n zero_form)) zeros_repeat ∙ ap (λ (blocks : List Block). zero_block ∷ blocks) (each_zero n full)

pub blocks_in-zeros : (forms : List Form) (full : List Block) (n : ℕ) → forms ≡ replicate n zero_form → blocks_in forms full ≡ replicate n zero_block
blocks_in-zeros forms full n are = ap (λ (fs : List Form). blocks_in fs full) are ∙ each_zero n full

count-zeros : (n : ℕ) → count_by repeats (replicate n zero_form) ≡ n
count-zeros n = let one : n * 1 ≡ n = omega arith in sum_by-replicate (λ form. cond (repeats form) 1 0) n zero_form ∙ one

length-zeros : (n : ℕ) → length (replicate {A = Form} n zero_form) ≡ n
length-zeros zero = refl
length-zeros (suc n) = let rest = length-zeros n in omega arith

none_full : (n k i : ℕ) → slice_get (replicate n zero_form) k ≡ Some (Full i) → ⊥
none_full zero k i is = cc
none_full (suc n) zero i is = cc
none_full (suc n) (suc k) i is = none_full n k i is

pub AreKept-zeros : (forms : List Form) (full : List Block) (n form_capacity full_capacity : ℕ) → forms ≡ replicate n zero_form → full ≡ [] → 1 ≤ n → n ≤ most_in_request
    → most_in_request ≤ form_capacity → most_in_request ≤ full_capacity → AreKept forms full form_capacity full_capacity
AreKept-zeros forms full n form_capacity full_capacity are none some within room_for_forms room_for_full =
    let size : length forms ≡ n = ap length are ∙ length-zeros n in
    record {
      some = omega (arith, size, some);
      within = omega (arith, size, within);
      counted = omega (arith, size, ap (count_by repeats) are, count-zeros n, ap length none);
      room_for_forms = room_for_forms;
      room_for_full = room_for_full;
      inside = λ k i is. absurd (none_full n k i (ap (λ fs. slice_get fs k) (sym are) ∙ is));
      apart = λ j k i first second. absurd (none_full n j i (ap (λ fs. slice_get fs j) (sym are) ∙ first));
    }

-- One form in place of another

-- what stands there now stood there before, or is what was put
was_there : (forms : List Form) (k m : ℕ) (put form : Form) → slice_get (slice_set forms k put) m ≡ Some form → ((m ≡ k) × (put ≡ form)) ⊎ ((m ≢ k) × (slice_get forms m ≡ Some form))
was_there forms k m put form is = elim (cases_eq m k) [
  | inl here ↦
      let within : m < length (slice_set forms k put) = slice_get_within (slice_set forms k put) m form is in
      let there : k < length forms = omega (arith, within, here, length-set forms k put) in
      let put_there : slice_get (slice_set forms k put) m ≡ Some put = ap (slice_get (slice_set forms k put)) here ∙ slice_get-set_same forms k put there in
      inl (here, same_Some put form (sym put_there ∙ is))
  | inr other ↦ inr (other, sym (slice_get-set_other forms k m put other) ∙ is)
]

counts : (b : Bool) → b ≡ true → ◌≡◌ {A = ℕ} (cond b 1 0) 1
counts b is = ap {A = Bool} {B = ℕ} (λ t. cond t 1 0) is

-- a form in place of one that repeats, where what it keeps in full is kept behind the others
AreKept-put : (forms : List Form) (full more : List Block) (form_capacity full_capacity k : ℕ) (put d : Form) → k < length forms → repeats (get_or forms k d) ≡ true
    → cond (repeats put) 1 0 + length more ≡ length full + 1 → length full ≤ length more → ((i : ℕ) → put ≡ Full i → (length full ≤ i) × (i < length more))
    → AreKept forms full form_capacity full_capacity → AreKept (slice_set forms k put) more form_capacity full_capacity
AreKept-put forms full more form_capacity full_capacity k put d within was counted longer behind kept =
    let size : length (slice_set forms k put) ≡ length forms = length-set forms k put in
    let one = counts (repeats (get_or forms k d)) was in
    let many = sum_by-set (λ form. cond (repeats form) 1 0) forms k put d within in
    record {
      some = omega (arith, size, kept.some);
      within = omega (arith, size, kept.within);
      counted = omega (arith, size, one, many, counted, kept.counted);
      room_for_forms = kept.room_for_forms;
      room_for_full = kept.room_for_full;
      inside = λ m i is. elim (was_there forms k m put (Full i) is) [
        | inl here ↦ (behind i here.1).1
        | inr there ↦ omega (arith, kept.inside m i there.1, longer)
      ];
      apart = λ j m i first second. elim (was_there forms k j put (Full i) first) [
        | inl here ↦ elim (was_there forms k m put (Full i) second) [
          | inl too ↦ here.0 ∙ sym too.0
          | inr there ↦ absurd (omega (arith, (behind i here.1).0, kept.inside m i there.1))
        ]
        | inr there ↦ elim (was_there forms k m put (Full i) second) [
          | inl here ↦ absurd (omega (arith, (behind i here.1).0, kept.inside j i there.1))
          | inr too ↦ kept.apart j m i there.1 too.1
        ]
      ];
    }

-- a form that repeats in place of another that does
pub AreKept-repeats : (forms : List Form) (full : List Block) (form_capacity full_capacity k : ℕ) (bytes : List ℕ) (d : Form) → k < length forms → repeats (get_or forms k d) ≡ true → AreKept forms full form_capacity full_capacity → AreKept (slice_set forms k (Repeats bytes)) full form_capacity full_capacity
AreKept-repeats forms full form_capacity full_capacity k bytes d within was kept =
    AreKept-put forms full full form_capacity full_capacity k (Repeats bytes) d within was (omega arith) (omega arith) (λ i is. absurd (let other = is in cc)) kept

-- a block that is kept in full, behind the others, in place of one that repeats
pub AreKept-full : (forms : List Form) (full more : List Block) (form_capacity full_capacity k n : ℕ) (d : Form) → k < length forms → repeats (get_or forms k d) ≡ true → n ≡ length full → length more ≡ n + 1
    → AreKept forms full form_capacity full_capacity → AreKept (slice_set forms k (Full n)) more form_capacity full_capacity
AreKept-full forms full more form_capacity full_capacity k n d within was number longer kept =
    AreKept-put forms full more form_capacity full_capacity k (Full n) d within was (omega (arith, number, longer)) (omega (arith, number, longer))
    (λ i is. let same : n ≡ i = let e = is in cc in (omega (arith, same, number), omega (arith, same, number, longer))) kept

-- The blocks that they are

-- a block is the same where the one that it is among those in full is
alike_at : (full other : List Block) (o : Option Form) → ((i : ℕ) → o ≡ Some (Full i) → get_or other i zero_block ≡ get_or full i zero_block) → option_map (block_in other) o ≡ option_map (block_in full) o
alike_at full other None alike = refl
alike_at full other (Some (Repeats bytes)) alike = refl
alike_at full other (Some (Full i)) alike = ap (λ (block : Block). Some block) (alike i refl)

pub set-repeats : (forms : List Form) (full : List Block) (k : ℕ) (bytes : List ℕ) (block : Block) → block ≡ repeated bytes → blocks_in (slice_set forms k (Repeats bytes)) full ≡ slice_set (blocks_in forms full) k block
set-repeats forms full k bytes block is = map-set (block_in full) forms k (Repeats bytes) ∙ ap (slice_set (blocks_in forms full) k) (sym is)

-- more blocks in full change none that were kept
more_full : (forms : List Form) (full : List Block) (form_capacity full_capacity : ℕ) (block : Block) → AreKept forms full form_capacity full_capacity → blocks_in forms (full ++ block ∷ []) ≡ blocks_in forms full
more_full forms full form_capacity full_capacity block kept = same_by_places _ _ (λ at.
    slice_get-map (block_in (full ++ block ∷ [])) forms at
    ∙ alike_at full (full ++ block ∷ []) (slice_get forms at) (λ i is. get_or_append_left full (block ∷ []) zero_block i (kept.inside at i is))
    ∙ sym (slice_get-map (block_in full) forms at))

pub set-full : (forms : List Form) (full : List Block) (form_capacity full_capacity k n : ℕ) (block : Block) → n ≡ length full → AreKept forms full form_capacity full_capacity
    → blocks_in (slice_set forms k (Full n)) (full ++ block ∷ []) ≡ slice_set (blocks_in forms full) k block
set-full forms full form_capacity full_capacity k n block number kept =
    let more : List Block = full ++ block ∷ [] in
    let last : get_or more n zero_block ≡ block = ap (λ i. get_or more i zero_block) number ∙ get_or-append_seam full block [] zero_block in
    map-set (block_in more) forms k (Full n)
    ∙ ap (slice_set (blocks_in forms more) k) last
    ∙ ap (λ (blocks : List Block). slice_set blocks k block) (more_full forms full form_capacity full_capacity block kept)

-- a block in full in place of another
pub set-in_full : (forms : List Form) (full : List Block) (form_capacity full_capacity k i : ℕ) (block : Block) → slice_get forms k ≡ Some (Full i) → AreKept forms full form_capacity full_capacity
    → blocks_in forms (slice_set full i block) ≡ slice_set (blocks_in forms full) k block
set-in_full forms full form_capacity full_capacity k i block stands kept =
    let other : List Block = slice_set full i block in
    let inside : i < length full = kept.inside k i stands in
    let within : k < length forms = slice_get_within forms k (Full i) stands in
    same_by_places _ _ (λ at. elim (cases_eq at k) [
      | inl here ↦
          ap (slice_get (blocks_in forms other)) here
          ∙ slice_get-map (block_in other) forms k
          ∙ ap (option_map (block_in other)) stands
          ∙ ap (λ (b : Block). Some b) (get_or-set_same full i block zero_block inside)
          ∙ sym (slice_get-set_same (blocks_in forms full) k block (omega (arith, within, length-map forms (block_in full))))
          ∙ ap (slice_get (slice_set (blocks_in forms full) k block)) (sym here)
      | inr apart ↦
          slice_get-map (block_in other) forms at
          ∙ alike_at full other (slice_get forms at) (λ j is. get_or-set_other full i j block zero_block (λ same. apart (kept.apart at k i (is ∙ ap (λ m. Some (Full m)) same) stands)))
          ∙ sym (slice_get-map (block_in full) forms at)
          ∙ sym (slice_get-set_other (blocks_in forms full) k at block apart)
    ])

-- there are as many forms as blocks
pub form_within : (forms : List Form) (full blocks : List Block) (k : ℕ) → blocks_in forms full ≡ blocks → k < length blocks → k < length forms
form_within forms full blocks k is within = omega (arith, ap length is, within, length-map forms (block_in full))

-- a form that is not in full repeats
pub repeats_there : (form : Form) → ((i : ℕ) → form ≡ Full i → ⊥) → repeats form ≡ true
repeats_there (Repeats bytes) other = refl
repeats_there (Full i) other = absurd (other i refl)

-- what repeats a block's eight bytes is the block
pub period-repeated : (block : Block) (bytes : List ℕ) → period_of block ≡ Some bytes → block ≡ repeated bytes
period-repeated block bytes is = elim (cases_Bool (bytes_eq block.0 (repeated (take 8 block.0)).0)) [
  | inl so ↦
      let front : take 8 block.0 ≡ bytes = same_Some (take 8 block.0) bytes (sym (cond-true (bytes_eq block.0 (repeated (take 8 block.0)).0) _ _ so) ∙ is) in
      let all : block.0 ≡ (repeated (take 8 block.0)).0 = (bytes_eq-Decides block.0 (repeated (take 8 block.0)).0).0 so in
      ap (λ (bs : List ℕ). record { 0 = bs }) all ∙ ap repeated front
  | inr not_so ↦ absurd (none-some bytes (sym (cond-false (bytes_eq block.0 (repeated (take 8 block.0)).0) _ _ not_so) ∙ is))
]
