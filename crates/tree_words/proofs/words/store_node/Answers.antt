use Rattle.std.proofs.Common.{◌≡◌, ◌+◌, ◌<◌, ◌≤◌, ℕ, List, length, get_or, ap, ◌∙◌, arith}
use Rattle.std.specs.Prelude.{slice_set}
use Rattle.nesc_base.specs.Memory.{KnownMemory}
use Rattle.tree_words.proofs.Places.{with_more}
use Rattle.tree_words.proofs.words.store_node.Goals as goal

pub loop-at-preserved : goal.loop-at-preserved
loop-at-preserved g c =
    let old : KnownMemory = g.M.Memory.known c.args.memory.now in
    let put : List ℕ = c.args.words.now in
    let i : ℕ = c.loop-at.at in
    let word : ℕ = get_or put i 0 in
    let size : length put ≡ 32 = omega arith in
    let there = c.requires.within in
    let within : i < length put = omega arith in
    let fits : c.args.node + length put ≤ length old.words = omega arith in
    c.store.ensures
    ∙ ap (λ (m : KnownMemory). let after : KnownMemory = record m { words = slice_set m.words (c.args.node + i) word } in after) c.loop-at.invariant
    ∙ ap (λ (words : List ℕ). let after : KnownMemory = record old { words = words } in after) (with_more old.words c.args.node put i 0 within fits)
