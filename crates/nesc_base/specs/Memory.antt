-- What is known of a memory of words, and what its calls do to that.
use Rattle.std.specs.Prelude.{◌≡◌, ◌⊎◌, ℕ, ◌+◌, ◌≤◌, ◌%◌, List, [], ◌∷◌, ◌++◌}
use Rattle.std.specs.Prelude.{length, take, drop, slice_set, Option, Some, IfSome}
use Rattle.nesc_base.specs.Fault.{Rose}

pub record KnownMemory : Type 0 where
  pub words : List ℕ  -- what it holds
  pub fetched : Option (List ℕ)  -- from where nodes were fetched, in order, where it tells that
  pub bent : ℕ  -- how many fetches gave other words than it holds

-- how many words a node has
abbrev pub node_size : ℕ
node_size = 32

-- the words of the node at an address
abbrev pub node_at : List ℕ → ℕ → List ℕ
node_at words node = take node_size (drop node words)

-- a node may be fetched there: its address is a multiple of its size, and all its words are in the memory
pub record IsNodeOf (words : List ℕ) (node : ℕ) : Type 0 where
  pub aligned : node % node_size ≡ 0
  pub within : node + node_size ≤ length words

-- the word at an address is this one now, and nothing else has changed
abbrev pub Stores : ℕ → ℕ → KnownMemory → KnownMemory → Type 0
Stores at word old new = new ≡ record old { words = slice_set old.words at word }

-- Where it tells now from where nodes were fetched, it told before, and these addresses came behind.
abbrev pub Lists : List ℕ → Option (List ℕ) → Option (List ℕ) → Type 0
Lists more old new = IfSome new (λ addresses. (before : List ℕ) × (old ≡ Some before) × (addresses ≡ before ++ more))

-- The node at an address was fetched: these are its words, or the count of bent fetches rose and they may be any.
pub record Fetches (node : ℕ) (given : List ℕ) (old new : KnownMemory) : Type 0 where
  pub words : new.words ≡ old.words
  pub listed : Lists (node ∷ []) old.fetched new.fetched
  pub never_falls : old.bent ≤ new.bent
  pub gives : (given ≡ node_at old.words node) ⊎ Rose old.bent new.bent
