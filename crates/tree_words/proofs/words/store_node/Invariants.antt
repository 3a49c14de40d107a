-- The first words are put.
use Rattle.std.proofs.Common.{◌≡◌, take}
use Rattle.tree_words.specs.Changed.{with_words}
use Rattle.tree_words.proofs.words.store_node.Given as goal

abbrev pub invariant-loop-at : goal.invariant-loop-at
invariant-loop-at g l =
    let old = g.M.Memory.known l.initial.memory in
    g.M.Memory.known l.memory ≡ record old { words = with_words old.words l.node (take l.at l.words) }
