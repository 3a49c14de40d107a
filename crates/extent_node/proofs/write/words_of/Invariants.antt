use Rattle.std.proofs.Common.{◌≡◌, ◌<◌, ◌≤◌, ℕ, Some, length, slice_get}
use Rattle.nesc_base.specs.Memory.{node_size}
use Rattle.extent_node.specs.Words.{entry_at, first_word, kind_word, word}
use Rattle.extent_node.specs.declared.entries.Entry.{Entry}
use Rattle.extent_node.proofs.write.words_of.Given as goal

abbrev pub invariant-loop-k : goal.invariant-loop-k
invariant-loop-k l =
    (length l.words ≡ node_size)
    × (word l.words 0 ≡ kind_word l.fn.kind)
    × (word l.words 1 ≡ length l.entries)
    × ((j : ℕ) (entry : Entry) → j < l.k → slice_get l.entries j ≡ Some entry → entry_at l.words j ≡ entry)
    × ((i : ℕ) → first_word l.k ≤ i → word l.words i ≡ 0)
