-- Blocks of a store, one after another.
use Rattle.std.proofs.Common.{◌≡◌, ℕ, ◌+◌, ◌<◌, ◌≤◌, List, [], ◌∷◌, ◌++◌, length, take, drop, get_or, slice_set, refl, ap, sym, ◌∙◌, arith}
use Rattle.std.specs.List.{All}
use Rattle.std.proofs.lemmas.List.{drop-append-le, get_or-drop, get_or-map, get_or-take, get_or_append_left, length-drop, length-map, length-set, length-take-le, map-append, take-append-le, take_more, take_more_set}
use Rattle.std.proofs.lemmas.List.Elements.{All-head, All-tail}
use mathlib.Core.List.{append_assoc}
use Rattle.nesc_base.specs.Block.{zero_block}
use Rattle.nesc_base.specs.declared.block.Block.{Block}
use Rattle.script_lang.specs.Stored.{Grows, IsKeptAmong, blocks_at, kept_block, kept_blocks}
use Rattle.script_lang.specs.declared.store.Kept.{Kept}
use Rattle.script_lang.specs.declared.store.Kept.TheVariants.{Repeats, Full}
use Rattle.script_lang.specs.declared.store.StoredRun.{StoredRun}

-- a list that grows twice grows
pub Grows-trans : (old mid new : List Block) → Grows old mid → Grows mid new → Grows old new
Grows-trans old mid new one two =
    record { more = one.more ++ two.more; result = two.result ∙ ap (λ (blocks : List Block). blocks ++ two.more) one.result ∙ append_assoc old one.more two.more }

-- a block that is kept stays the same where more are kept in full
kept_block-more : (full more : List Block) (kept : Kept) → IsKeptAmong (length full) kept → kept_block (full ++ more) kept ≡ kept_block full kept
kept_block-more full more (Repeats bytes) among = refl
kept_block-more full more (Full i) among = get_or_append_left full more zero_block i among

kept_blocks-more : (full more : List Block) (kept : List Kept) → All (IsKeptAmong (length full)) kept → kept_blocks (full ++ more) kept ≡ kept_blocks full kept
kept_blocks-more full more [] among = refl
kept_blocks-more full more (first ∷ rest) among =
    ap (λ block. block ∷ kept_blocks (full ++ more) rest) (kept_block-more full more first (All-head (IsKeptAmong (length full)) first rest among))
    ∙ ap (λ (blocks : List Block). kept_block full first ∷ blocks) (kept_blocks-more full more rest (All-tail (IsKeptAmong (length full)) first rest among))

pub kept_blocks-grown : (full grown : List Block) (kept : List Kept) → Grows full grown → All (IsKeptAmong (length full)) kept → kept_blocks grown kept ≡ kept_blocks full kept
kept_blocks-grown full grown kept grows among = ap (λ (blocks : List Block). kept_blocks blocks kept) grows.result ∙ kept_blocks-more full grows.more kept among

-- one block more at the end
pub kept_blocks-push : (full grown : List Block) (kept : List Kept) (last : Kept) → Grows full grown → All (IsKeptAmong (length full)) kept → kept_blocks grown (kept ++ last ∷ []) ≡ kept_blocks full kept ++ kept_block grown last ∷ []
kept_blocks-push full grown kept last grows among =
    map-append (kept_block grown) kept (last ∷ []) ∙ ap (λ (blocks : List Block). blocks ++ kept_block grown last ∷ []) (kept_blocks-grown full grown kept grows among)

-- a block of a run
run_at : (full : List Block) (kept : List Kept) (run : StoredRun) (k : ℕ) (d : Kept) → k < run.count → run.first + run.count ≤ length kept
    → get_or (blocks_at (kept_blocks full kept) run) k (kept_block full d) ≡ kept_block full (get_or kept (run.first + k) d)
run_at full kept run k d within inside =
    get_or-take run.count (drop run.first (kept_blocks full kept)) k (kept_block full d) within
    ∙ get_or-drop run.first (kept_blocks full kept) k (kept_block full d)
    ∙ get_or-map (kept_block full) kept (run.first + k) d (kept_block full d) (omega arith)

-- there are as many blocks in a run as it says
pub length-blocks_at : (blocks : List Block) (run : StoredRun) → run.first + run.count ≤ length blocks → length (blocks_at blocks run) ≡ run.count
length-blocks_at blocks run inside = length-take-le run.count (drop run.first blocks) (omega (arith, length-drop run.first blocks))

-- a run stays the same where more blocks come behind it
pub blocks_at-grown : (old new : List Block) (run : StoredRun) → Grows old new → run.first + run.count ≤ length old → blocks_at new run ≡ blocks_at old run
blocks_at-grown old new run grows inside =
    ap (λ (blocks : List Block). blocks_at blocks run) grows.result
    ∙ ap (take run.count) (drop-append-le run.first old grows.more (omega arith))
    ∙ take-append-le run.count (drop run.first old) grows.more (omega (arith, length-drop run.first old))

-- one block more of a run is in the buffer
pub filled-more : (full : List Block) (kept : List Kept) (run : StoredRun) (k : ℕ) (d : Kept) (into mid : List Block) (block : Block)
    → k < run.count → run.first + run.count ≤ length kept → d ≡ get_or kept (run.first + k) d → kept_block full d ≡ block → mid ≡ slice_set into k block
    → length into ≡ run.count → take k into ≡ take k (blocks_at (kept_blocks full kept) run)
    → (length mid ≡ run.count) × (take (k + 1) mid ≡ take (k + 1) (blocks_at (kept_blocks full kept) run))
filled-more full kept run k d into mid block within inside is same set count filled =
    let target : List Block = blocks_at (kept_blocks full kept) run in
    let all : length target ≡ run.count = length-blocks_at (kept_blocks full kept) run (omega (arith, length-map kept (kept_block full))) in
    let at : get_or target k (kept_block full d) ≡ block = run_at full kept run k d within inside ∙ ap (kept_block full) (sym is) ∙ same in (
      ap length set ∙ length-set into k block ∙ count,
      ap (take (k + 1)) set
          ∙ take_more_set into k block (omega arith)
          ∙ ap (λ (blocks : List Block). blocks ++ block ∷ []) filled
          ∙ ap (λ (b : Block). take k target ++ b ∷ []) (sym at)
          ∙ sym (take_more target k (kept_block full d) (omega arith)),
    )
