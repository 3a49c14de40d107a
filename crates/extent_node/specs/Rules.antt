-- Which words are a node, and which of them is the first that is wrong where they are none.
use Rattle.std.specs.Prelude.{◌≡◌, ◌⊎◌, ℕ, ◌+◌, ◌<◌, ◌≤◌, ◌≢◌, ◌%◌, List, length, slice_get, Some}
use Rattle.nesc_base.specs.declared.runs.Area.{Area}
use Rattle.nesc_base.specs.Files.{longest_file}
use Rattle.nesc_base.specs.Memory.{node_size}
use Rattle.extent_node.specs.declared.entries.Entry.{Entry}
use Rattle.extent_node.specs.declared.node.Kind.{Kind}
use Rattle.extent_node.specs.declared.node.Kind.TheVariants.{Inner, Leaf}
use Rattle.extent_node.specs.Entries.{most_entries}
use Rattle.extent_node.specs.Words.{count_word, first_word, kind_word, node_words, place_word, word}

-- What a list of entries keeps

-- the entry has a block, and its blocks are a file's
pub record IsRange (first count : ℕ) : Type 0 where
  pub some : 1 ≤ count
  pub filed : first + count ≤ longest_file

-- the blocks on the disk are data blocks
pub record LiesIn (area : Area) (place count : ℕ) : Type 0 where
  pub from : area.from ≤ place
  pub to : place + count ≤ area.to

-- a node may stand there in a memory of so many words
pub record IsAddressIn (memory_words address : ℕ) : Type 0 where
  pub some : address ≢ 0
  pub aligned : address % node_size ≡ 0
  pub within : address + node_size ≤ memory_words

-- a leaf's entries: each at or behind the end of the one before
pub record AreLeafEntries (entries : List Entry) : Type 0 where
  pub few : length entries ≤ most_entries
  pub each : (k : ℕ) (entry : Entry) → slice_get entries k ≡ Some entry → IsRange entry.first entry.count
  pub rising : (k : ℕ) (entry next : Entry) → slice_get entries k ≡ Some entry → slice_get entries (k + 1) ≡ Some next
      → entry.first + entry.count ≤ next.first

-- an inner node's entries: each begins where the one before ends
pub record AreInnerEntries (entries : List Entry) : Type 0 where
  pub some : 1 ≤ length entries
  pub few : length entries ≤ most_entries
  pub each : (k : ℕ) (entry : Entry) → slice_get entries k ≡ Some entry → IsRange entry.first entry.count
  pub joined : (k : ℕ) (entry next : Entry) → slice_get entries k ≡ Some entry → slice_get entries (k + 1) ≡ Some next
      → entry.first + entry.count ≡ next.first

abbrev pub AreEntries : Kind → List Entry → Type 0
AreEntries Leaf entries = AreLeafEntries entries
AreEntries Inner entries = AreInnerEntries entries

-- no node, or one that may stand there
abbrev pub IsChildIn : ℕ → ℕ → Type 0
IsChildIn memory_words address = (address ≡ 0) ⊎ IsAddressIn memory_words address

-- where an entry leads: a leaf's run into the data area, an inner node's to nothing or to a node in the memory
abbrev pub LeadsInside : Kind → ℕ → Area → ℕ → ℕ → Type 0
LeadsInside Leaf memory_words area place count = LiesIn area place count
LeadsInside Inner memory_words area place count = IsChildIn memory_words place

abbrev pub LeadInside : Kind → ℕ → Area → List Entry → Type 0
LeadInside kind memory_words area entries =
    (k : ℕ) (entry : Entry) → slice_get entries k ≡ Some entry
    → LeadsInside kind memory_words area entry.place entry.count

-- these are the words of a node with these entries, and it keeps the rules
pub record IsNode (words : List ℕ) (memory_words : ℕ) (area : Area) (kind : Kind) (entries : List Entry) : Type 0 where
  pub says : words ≡ node_words kind entries
  pub are : AreEntries kind entries
  pub inside : LeadInside kind memory_words area entries

-- these are the words of a node with these entries, wherever they lead inside
abbrev pub ReadAs : List ℕ → Kind → List Entry → Type 0
ReadAs words kind entries =
    (memory_words : ℕ) (area : Area) → LeadInside kind memory_words area entries
    → IsNode words memory_words area kind entries

-- The rule of each word, given the words below it

-- word 0
abbrev pub KindRule : List ℕ → Type 0
KindRule words = (word words 0 ≡ kind_word Leaf) ⊎ (word words 0 ≡ kind_word Inner)

-- word 1: the number of entries
pub record NumberRule (words : List ℕ) : Type 0 where
  pub few : word words 1 ≤ most_entries
  pub some : word words 0 ≡ kind_word Inner → 1 ≤ word words 1

-- the first word of entry k: nothing for entry 0
pub record FirstRule (words : List ℕ) (k : ℕ) : Type 0 where
  pub rising : (before : ℕ) → k ≡ before + 1 → word words 0 ≡ kind_word Leaf
      → word words (first_word before) + word words (count_word before) ≤ word words (first_word k)
  pub joined : (before : ℕ) → k ≡ before + 1 → word words 0 ≡ kind_word Inner
      → word words (first_word before) + word words (count_word before) ≡ word words (first_word k)

-- its second word
abbrev pub CountRule : List ℕ → ℕ → Type 0
CountRule words k = IsRange (word words (first_word k)) (word words (count_word k))

-- its third word
pub record PlaceRule (words : List ℕ) (memory_words : ℕ) (area : Area) (k : ℕ) : Type 0 where
  pub in_area : word words 0 ≡ kind_word Leaf → LiesIn area (word words (place_word k)) (word words (count_word k))
  pub in_memory : word words 0 ≡ kind_word Inner → IsChildIn memory_words (word words (place_word k))

-- word i keeps the rule of where it stands; words that stand for nothing are 0
pub record KeepsRule (words : List ℕ) (memory_words : ℕ) (area : Area) (i : ℕ) : Type 0 where
  pub kind : i ≡ 0 → KindRule words
  pub number : i ≡ 1 → NumberRule words
  pub first : (k : ℕ) → k < word words 1 → i ≡ first_word k → FirstRule words k
  pub count : (k : ℕ) → k < word words 1 → i ≡ count_word k → CountRule words k
  pub place : (k : ℕ) → k < word words 1 → i ≡ place_word k → PlaceRule words memory_words area k
  pub other : first_word (word words 1) ≤ i → word words i ≡ 0

-- all words below this one do
abbrev pub KeepBelow : List ℕ → ℕ → Area → ℕ → Type 0
KeepBelow words memory_words area i = (j : ℕ) → j < i → KeepsRule words memory_words area j

-- word i is the first that breaks its rule
pub record IsFirstBad (words : List ℕ) (memory_words : ℕ) (area : Area) (i : ℕ) : Type 0 where
  pub among : i < node_size
  pub below : KeepBelow words memory_words area i
  pub breaks : ¬ KeepsRule words memory_words area i

-- no word does
abbrev pub KeepAllRules : List ℕ → ℕ → Area → Type 0
KeepAllRules words memory_words area = KeepBelow words memory_words area node_size

-- What a node says of a block

-- the entry has block v
pub record Holds (entry : Entry) (v : ℕ) : Type 0 where
  pub from : entry.first ≤ v
  pub below : v < entry.first + entry.count

-- it is one of these entries, and it has block v
abbrev pub HasHolding : List Entry → ℕ → Entry → Type 0
HasHolding entries v entry = (k : ℕ) × (slice_get entries k ≡ Some entry) × Holds entry v

-- none of them has it
abbrev pub HoldsNone : List Entry → ℕ → Type 0
HoldsNone entries v = (k : ℕ) (entry : Entry) → slice_get entries k ≡ Some entry → ¬ Holds entry v
