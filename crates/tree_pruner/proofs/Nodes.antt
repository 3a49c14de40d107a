-- The words of a node, looked at in the memory and by what the tree says of it.
use Rattle.std.proofs.Common.{◌≡◌, ℕ, ◌+◌, ◌<◌, List, Some, slice_get, ap, ◌∙◌, arith}
use Rattle.std.proofs.lemmas.List.{get_or-drop, get_or-take}
use Rattle.std.proofs.lemmas.Option.{get_or_from_slice_get}
use Rattle.nesc_base.specs.Memory.{node_at, node_size}
use Rattle.extent_node.specs.Words.{word}

-- a word of a node is one of the memory
pub word_in : (words : List ℕ) (node i w : ℕ) → i < node_size → slice_get words (node + i) ≡ Some w → word (node_at words node) i ≡ w
word_in words node i w within is = get_or-take 32 _ i 0 within ∙ get_or-drop node words i 0 ∙ get_or_from_slice_get words (node + i) w 0 is

pub first_in : (words : List ℕ) (node w : ℕ) → slice_get words node ≡ Some w → word (node_at words node) 0 ≡ w
first_in words node w is = word_in words node 0 w (omega arith) (ap (λ (i : ℕ). slice_get words i) (omega arith) ∙ is)
