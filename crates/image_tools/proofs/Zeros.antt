-- Zeros at some places of an image.
use Rattle.std.proofs.Common.{◌≡◌, ◌≢◌, ℕ, zero, suc, ◌+◌, ◌<◌, List, [], ◌∷◌, ◌++◌, length, get_or, refl, sym, ap, ◌∙◌, arith}
use Rattle.std.specs.Prelude.{slice_set}
use Rattle.std.specs.List.{range_with_len}
use Rattle.std.proofs.Math.ListN.{length-set}
use Rattle.std.proofs.lemmas.List.{get_or-set_same, get_or-set_other}
use Rattle.std.proofs.lemmas.Option.{unwrap_or-slice_get}
use Rattle.nesc_base.specs.declared.block.Block.{Block}
use Rattle.nesc_base.specs.Block.{zero_block}
use Rattle.slot_layout.specs.Slots.{block_at}
use Rattle.image_tools.specs.Make.{cleared_at}

-- the block that was put there
pub block_at-set_same : (image : List Block) (at : ℕ) (block : Block) → at < length image → block_at (slice_set image at block) at ≡ block
block_at-set_same image at block within = unwrap_or-slice_get (slice_set image at block) at zero_block ∙ get_or-set_same image at block zero_block within

-- any other stays
pub block_at-set_other : (image : List Block) (at other : ℕ) (block : Block) → other ≢ at → block_at (slice_set image at block) other ≡ block_at image other
block_at-set_other image at other block apart =
    unwrap_or-slice_get (slice_set image at block) other zero_block ∙ get_or-set_other image at other block zero_block apart ∙ sym (unwrap_or-slice_get image other zero_block)

-- places behind places
pub cleared_at-append : (places others : List ℕ) (image : List Block) → cleared_at (places ++ others) image ≡ cleared_at others (cleared_at places image)
cleared_at-append [] others image = refl
cleared_at-append (at ∷ places) others image = cleared_at-append places others (slice_set image at zero_block)

pub length-cleared_at : (places : List ℕ) (image : List Block) → length (cleared_at places image) ≡ length image
length-cleared_at [] image = refl
length-cleared_at (at ∷ places) image = length-cleared_at places (slice_set image at zero_block) ∙ length-set image at zero_block

-- zeros that are put somewhere leave zeros zeros
zeros_stay : (image : List Block) (at other : ℕ) → get_or image at zero_block ≡ zero_block → get_or (slice_set image other zero_block) at zero_block ≡ zero_block
zeros_stay [] at other zeros = zeros
zeros_stay (block ∷ image) zero zero zeros = refl
zeros_stay (block ∷ image) zero (suc other) zeros = zeros
zeros_stay (block ∷ image) (suc at) zero zeros = zeros
zeros_stay (block ∷ image) (suc at) (suc other) zeros = zeros_stay image at other zeros

zeros_put : (image : List Block) (at : ℕ) → get_or (slice_set image at zero_block) at zero_block ≡ zero_block
zeros_put [] at = refl
zeros_put (block ∷ image) zero = refl
zeros_put (block ∷ image) (suc at) = zeros_put image at

zeros_last : (places : List ℕ) (image : List Block) (at : ℕ) → get_or image at zero_block ≡ zero_block → get_or (cleared_at places image) at zero_block ≡ zero_block
zeros_last [] image at zeros = zeros
zeros_last (other ∷ places) image at zeros = zeros_last places (slice_set image other zero_block) at (zeros_stay image at other zeros)

zeros_there : (places : List ℕ) (image : List Block) (i : ℕ) → i < length places → get_or (cleared_at places image) (get_or places i 0) zero_block ≡ zero_block
zeros_there [] image i within = absurd (omega arith)
zeros_there (at ∷ places) image zero within = zeros_last places (slice_set image at zero_block) at (zeros_put image at)
zeros_there (at ∷ places) image (suc i) within = zeros_there places (slice_set image at zero_block) i (omega arith)

-- at each of the places are zeros
pub block_at-cleared_at : (places : List ℕ) (image : List Block) (i at : ℕ) → i < length places → get_or places i 0 ≡ at → block_at (cleared_at places image) at ≡ zero_block
block_at-cleared_at places image i at within is =
    unwrap_or-slice_get (cleared_at places image) at zero_block ∙ ap (λ p. get_or (cleared_at places image) p zero_block) (sym is) ∙ zeros_there places image i within

one_more : (a n : ℕ) → range_with_len a (suc n) ≡ range_with_len a n ++ (a + n) ∷ []
one_more a zero = let same : a ≡ a + 0 = omega arith in ap (λ k. k ∷ []) same
one_more a (suc n) =
    let same : a + 1 + n ≡ a + suc n = omega arith in
    ap (λ ks. a ∷ ks) (one_more (a + 1) n ∙ ap (λ k. range_with_len (a + 1) n ++ k ∷ []) same)

-- one number more
pub range_with_len-more : (a n m at : ℕ) → m ≡ n + 1 → a + n ≡ at → range_with_len a m ≡ range_with_len a n ++ at ∷ []
range_with_len-more a n m at next here =
    let more : m ≡ suc n = omega arith in
    ap (range_with_len a) more ∙ one_more a n ∙ ap (λ k. range_with_len a n ++ k ∷ []) here
