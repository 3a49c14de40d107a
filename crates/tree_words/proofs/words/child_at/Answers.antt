use Rattle.std.proofs.Common.{◌≡◌, ◌+◌, ◌*◌, ◌<◌, ℕ, List, slice_get, ap, ◌∙◌, arith}
use Rattle.tree_words.proofs.Places.{node_at_word}
use Rattle.tree_words.proofs.words.child_at.Goals as goal

pub returns : goal.returns
returns g c =
    let words : List ℕ = (g.M.Memory.known c.args.memory.now).words in
    let within : 4 + 3 * c.args.i < 32 = omega arith in
    let place : c.args.node + (4 + 3 * c.args.i) ≡ c.args.node + 4 + 3 * c.args.i = omega arith in
    node_at_word words c.args.node (4 + 3 * c.args.i) c.requires.node within
    ∙ ap (λ (n : ℕ). slice_get words n) place ∙ c.load.ensures
