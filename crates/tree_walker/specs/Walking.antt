-- A walk from the root of a tree in a host's memory to what the tree says of a block.
use Rattle.std.specs.Prelude.{◌≡◌, ◌≢◌, ◌⊎◌, ℕ, ◌+◌, ◌-◌, ◌<◌, ◌≤◌, [], ◌∷◌}
use Rattle.std.specs.Prelude.{List, MatchOption, None, Option, Some, length, map}
use Rattle.nesc_base.specs.declared.runs.Area.{Area}
use Rattle.nesc_base.specs.declared.runs.Run.{Run}
use Rattle.nesc_base.specs.Fault.{Rose}
use Rattle.nesc_base.specs.Memory.{IsNodeOf, KnownMemory, Lists, node_at}
use Rattle.extent_node.specs.declared.entries.Entry.{Entry}
use Rattle.extent_node.specs.declared.node.Kind.TheVariants.{Inner, Leaf}
use Rattle.extent_node.specs.Rules.{HasHolding, HoldsNone, IsFirstBad, IsNode, IsRange, LiesIn}
use Rattle.tree_walker.specs.declared.found.Found.{Found}
use Rattle.tree_walker.specs.declared.found.Found.TheVariants.{Bad, Hole, Mapped, Pruned}
use Rattle.tree_walker.specs.declared.found.Verdict.{Verdict}
use Rattle.tree_walker.specs.declared.found.Verdict.TheVariants.{Ends, GoesOn}
use Rattle.tree_walker.specs.declared.found.WalkEnd.{WalkEnd}

-- how many nodes a walk fetches at most
abbrev pub most_fetches : ℕ
most_fetches = 5

-- no node, or one that may be fetched
abbrev pub IsRoot : List ℕ → ℕ → Type 0
IsRoot words root = (root ≡ 0) ⊎ IsNodeOf words root

-- a fetch: its address, and the words that it gave
pub record Fetch : Type 0 where
  pub address : ℕ
  pub given : List ℕ

-- What fetched words say

abbrev pub run_of : Entry → Run
run_of entry = record { first = entry.first; count = entry.count; place = entry.place }

-- that this word of the node is wrong
abbrev pub bad_at : ℕ → ℕ → Found
bad_at address word = Bad (record { address = address; word = word })

-- the entry that has block v, or none where none has it
abbrev pub IsHolder : List Entry → ℕ → Option Entry → Type 0
IsHolder entries v holder = MatchOption holder (HoldsNone entries v) (λ entry. HasHolding entries v entry)

-- what a leaf says by the entry that has the block
abbrev pub leaf_says : Option Entry → Found
leaf_says (Some entry) = Mapped (run_of entry)
leaf_says None = Hole

-- what the inner node at an address does
abbrev pub inner_says : ℕ → Option Entry → Verdict
inner_says address (Some entry) = GoesOn entry.place
inner_says address None = Ends (bad_at address 1)

-- In a memory of so many words, the words that the fetch gave say of block v that the walk ends here, or where it
-- goes on.
pub data Says (memory_words : ℕ) (area : Area) (v : ℕ) (fetch : Fetch) (verdict : Verdict) : Type 0 where
  no_node : (word : ℕ) → IsFirstBad fetch.given memory_words area word → verdict ≡ Ends (bad_at fetch.address word)
      → Says memory_words area v fetch verdict
  leaf : (entries : List Entry) (holder : Option Entry) → IsNode fetch.given memory_words area Leaf entries
      → IsHolder entries v holder → verdict ≡ Ends (leaf_says holder) → Says memory_words area v fetch verdict
  inner : (entries : List Entry) (holder : Option Entry) → IsNode fetch.given memory_words area Inner entries
      → IsHolder entries v holder → verdict ≡ inner_says fetch.address holder → Says memory_words area v fetch verdict

-- The walk

-- A walk that may fetch so many nodes ends at this address without a fetch: there is no node, or one too many.
pub data EndsAt (left address : ℕ) (found : Found) : Type 0 where
  pruned : address ≡ 0 → found ≡ Pruned → EndsAt left address found
  too_deep : address ≢ 0 → left ≡ 0 → found ≡ bad_at address 0 → EndsAt left address found

-- such a walk fetches the node at this address
pub record IsFetched (left address : ℕ) (fetch : Fetch) : Type 0 where
  pub stands : address ≢ 0
  pub one_left : 1 ≤ left
  pub there : fetch.address ≡ address

-- it makes no more fetches, or it goes on
abbrev pub Follows : Verdict → (ℕ → Type 0) → List Fetch → Found → Type 0
Follows (Ends end) on later found = (later ≡ []) × (found ≡ end)
Follows (GoesOn address) on later found = on address

-- A walk to block v that may fetch so many nodes makes these fetches from this address on, and finds this.
abbrev pub WalksOn : ℕ → Area → ℕ → ℕ → ℕ → List Fetch → Found → Type 0
WalksOn memory_words area v left address [] found = EndsAt left address found
WalksOn memory_words area v left address (fetch ∷ later) found =
    (verdict : Verdict) × IsFetched left address fetch × Says memory_words area v fetch verdict
    × Follows verdict (λ next. WalksOn memory_words area v (left - 1) next later found) later found

-- a fetch that gives what stands in the memory
abbrev pub standing : List ℕ → ℕ → Fetch
standing words address = record { address = address; given = node_at words address }

-- The walk over the words of a memory, from this root to block v: it fetches the nodes at these addresses, and finds
-- this.
abbrev pub WalkOf : List ℕ → ℕ → ℕ → Area → Found → List ℕ → Type 0
WalkOf words root v area found addresses =
    WalksOn (length words) area v most_fetches root (map (standing words) addresses) found

-- What a walk does to a memory

abbrev pub addresses_of : List Fetch → List ℕ
addresses_of fetches = map (λ (fetch : Fetch). fetch.address) fetches

-- These fetches were made one after the other. They gave what stands in the memory, unless the count of bent fetches
-- rose.
pub record AreFetched (fetches : List Fetch) (old new : KnownMemory) : Type 0 where
  pub words : new.words ≡ old.words
  pub listed : Lists (addresses_of fetches) old.fetched new.fetched
  pub never_falls : old.bent ≤ new.bent
  pub gave : ¬ Rose old.bent new.bent → fetches ≡ map (standing old.words) (addresses_of fetches)

-- A walk that may fetch so many nodes ended so: as words at the addresses that it fetched say. They are those that
-- stand there, unless the count of bent fetches rose.
pub record Walks (left address v : ℕ) (area : Area) (end : WalkEnd) (old new : KnownMemory) : Type 0 where
  pub fetches : List Fetch
  pub made : AreFetched fetches old new
  pub walks : WalksOn (length old.words) area v left address fetches end.found
  pub counted : end.fetched ≡ length fetches

-- it ended as the words of the memory say
pub record WalksOver (root v : ℕ) (area : Area) (end : WalkEnd) (old new : KnownMemory) : Type 0 where
  pub addresses : List ℕ
  pub walk : WalkOf old.words root v area end.found addresses
  pub listed : Lists addresses old.fetched new.fetched
  pub counted : end.fetched ≡ length addresses

-- a run that was found has the block, has blocks of a file alone, and lies in the area
pub record MapsInto (area : Area) (v : ℕ) (run : Run) : Type 0 where
  pub from : run.first ≤ v
  pub below : v < run.first + run.count
  pub range : IsRange run.first run.count
  pub inside : LiesIn area run.place run.count

abbrev pub IsMappedInto : Area → ℕ → Found → Type 0
IsMappedInto area v (Mapped run) = MapsInto area v run
IsMappedInto area v Hole = Unit {0}
IsMappedInto area v Pruned = Unit {0}
IsMappedInto area v (Bad bad) = Unit {0}
