-- The words of a node in a host's memory.
use Rattle.std.specs.Prelude.{ℕ, ◌+◌, ◌-◌, ◌*◌, ◌^◌, ◌<◌, ◌≤◌, List, [], ◌∷◌, ◌++◌, length, replicate, slice_index}
use Rattle.extent_node.specs.Entries.{most_entries}
use Rattle.extent_node.specs.declared.entries.Entry.{Entry}
use Rattle.extent_node.specs.declared.node.Kind.{Kind}
use Rattle.extent_node.specs.declared.node.Kind.TheVariants.{Inner, Leaf}
use Rattle.extent_node.specs.declared.node.Node.{Node}
use Rattle.extent_node.specs.declared.node.Node.TheVariants as node

-- the word that says what a node is
abbrev pub kind_word : Kind → ℕ
kind_word Leaf = 1
kind_word Inner = 2

-- three words for each entry
abbrev pub entry_words : List Entry → List ℕ
entry_words [] = []
entry_words (entry ∷ entries) = entry.first ∷ entry.count ∷ entry.place ∷ entry_words entries

-- its kind, how many entries it has, their words, and zeros up to its end
abbrev pub node_words : Kind → List Entry → List ℕ
node_words kind entries =
    kind_word kind ∷ length entries ∷ (entry_words entries ++ replicate (30 - 3 * length entries) 0)

-- what a node is, and its entries
abbrev pub kind_of : Node → Kind
kind_of (node.Leaf entries) = Leaf
kind_of (node.Inner entries) = Inner

abbrev pub entries_of : Node → List Entry
entries_of (node.Leaf entries) = entries
entries_of (node.Inner entries) = entries

-- Words, looked at one by one

abbrev pub word : List ℕ → ℕ → ℕ
word words i = slice_index words i

-- where the three words of entry k stand
abbrev pub first_word : ℕ → ℕ
first_word k = 2 + 3 * k

abbrev pub count_word : ℕ → ℕ
count_word k = 3 + 3 * k

abbrev pub place_word : ℕ → ℕ
place_word k = 4 + 3 * k

-- what they say
abbrev pub entry_at : List ℕ → ℕ → Entry
entry_at words k = record {
  first = word words (first_word k);
  count = word words (count_word k);
  place = word words (place_word k);
}

-- entries can be read out of the words: there are not too many, and each word is a number of 32 bits
pub record AreReadable (words : List ℕ) : Type 0 where
  pub few : word words 1 ≤ most_entries
  pub small : (i : ℕ) → word words i < 2 ^ 32
