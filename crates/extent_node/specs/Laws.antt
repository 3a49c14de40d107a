-- What is so of nodes and of words that are none, by their definitions alone.
use Rattle.std.specs.Prelude.{◌≡◌, ℕ, List, length}
use Rattle.nesc_base.specs.declared.runs.Area.{Area}
use Rattle.nesc_base.specs.Memory.{node_size}
use Rattle.extent_node.specs.declared.entries.Entry.{Entry}
use Rattle.extent_node.specs.declared.node.Kind.{Kind}
use Rattle.extent_node.specs.Rules.{AreEntries, HasHolding, IsFirstBad, IsNode, KeepAllRules}
use Rattle.extent_node.specs.Words.{node_words}

-- no word of a node is wrong
abbrev pub HaveNoBadWord : List ℕ → ℕ → Area → Type 0
HaveNoBadWord words memory_words area =
    (kind : Kind) (entries : List Entry) → IsNode words memory_words area kind entries
    → KeepAllRules words memory_words area × ((i : ℕ) → ¬ IsFirstBad words memory_words area i)

-- words none of which is wrong are a node's
abbrev pub AreSomeNode : List ℕ → ℕ → Area → Type 0
AreSomeNode words memory_words area =
    length words ≡ node_size → KeepAllRules words memory_words area
    → (kind : Kind) × (entries : List Entry) × IsNode words memory_words area kind entries

-- words are those of one node alone
abbrev pub AreOneNode : List ℕ → Type 0
AreOneNode words =
    (kind other : Kind) (entries others : List Entry)
    → words ≡ node_words kind entries → words ≡ node_words other others
    → (kind ≡ other) × (entries ≡ others)

-- a block stands in one entry of a node alone
abbrev pub HoldOnce : Kind → List Entry → ℕ → Type 0
HoldOnce kind entries v =
    (entry other : Entry) → AreEntries kind entries
    → HasHolding entries v entry → HasHolding entries v other → entry ≡ other

-- one word is the first wrong one
abbrev pub HaveOneFirstBad : List ℕ → ℕ → Area → Type 0
HaveOneFirstBad words memory_words area =
    (i j : ℕ) → IsFirstBad words memory_words area i → IsFirstBad words memory_words area j → i ≡ j
