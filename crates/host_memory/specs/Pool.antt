-- A pool of nodes as its callers see it: which of its nodes are taken.
use Rattle.std.specs.Prelude.{◌≡◌, ◌↔◌, ◌≢◌, ℕ, ◌+◌, ◌*◌, ◌≤◌, ◌%◌, Bool, true, false, not, refl}
use Rattle.std.specs.Prelude.{List, length, Some, slice_get, slice_set, replicate}
use Rattle.std.specs.Coded.{Coded, code_by, coded_bool, coded_list}
use Rattle.std.specs.List.{count_by}
use Rattle.nesc_base.specs.Memory.{node_size}

-- whether each node is taken
pub record Pool : Type 0 where
  pub taken : List Bool

-- how a proof keeps such a value
abbrev pub pool_code : Coded Pool
pool_code =
    code_by (List Bool) (coded_list coded_bool) (λ pool. pool.taken) (λ marks. record { taken = marks }) (λ _. refl)

-- so many nodes, each of them free
abbrev pub all_free : ℕ → Pool
all_free nodes = record { taken = replicate nodes false }

-- Addresses

-- where node k has its words, the first being node 0
abbrev pub address_of : ℕ → ℕ
address_of k = node_size * (k + 1)

-- at this address is a node of the pool, which is taken
abbrev pub IsTaken : Pool → ℕ → Type 0
IsTaken pool address = (k : ℕ) × (address ≡ address_of k) × (slice_get pool.taken k ≡ Some true)

-- which is free
abbrev pub IsFree : Pool → ℕ → Type 0
IsFree pool address = (k : ℕ) × (address ≡ address_of k) × (slice_get pool.taken k ≡ Some false)

-- how many nodes are free
abbrev pub free_of : Pool → ℕ
free_of pool = count_by not pool.taken

-- no node is free
abbrev pub IsUsedUp : Pool → Type 0
IsUsedUp pool = free_of pool ≡ 0

-- What the calls do

-- the node at this address was free and is taken now, and nothing else has changed
pub record Takes (old : Pool) (address : ℕ) (new : Pool) : Type 0 where
  pub k : ℕ
  pub at : address ≡ address_of k
  pub was_free : slice_get old.taken k ≡ Some false
  pub marks : new.taken ≡ slice_set old.taken k true

-- the node at this address was taken and is free now, and nothing else has changed
pub record GivesBack (old : Pool) (address : ℕ) (new : Pool) : Type 0 where
  pub k : ℕ
  pub at : address ≡ address_of k
  pub was_taken : slice_get old.taken k ≡ Some true
  pub marks : new.taken ≡ slice_set old.taken k false

-- What follows from that: the laws in proofs/PoolLaws.antt

-- each other address is taken, or free, exactly as before
pub record IsKeptBut (address : ℕ) (old new : Pool) : Type 0 where
  pub taken : (other : ℕ) → other ≢ address → IsTaken old other ↔ IsTaken new other
  pub free : (other : ℕ) → other ≢ address → IsFree old other ↔ IsFree new other

-- after `take`
pub record HasTaken (old : Pool) (address : ℕ) (new : Pool) : Type 0 where
  pub before : IsFree old address
  pub after : IsTaken new address
  pub others : IsKeptBut address old new
  pub one_less : free_of new + 1 ≡ free_of old
  pub as_many : length new.taken ≡ length old.taken

-- after `give_back`
pub record HasGivenBack (old : Pool) (address : ℕ) (new : Pool) : Type 0 where
  pub before : IsTaken old address
  pub after : IsFree new address
  pub others : IsKeptBut address old new
  pub one_more : free_of new ≡ free_of old + 1
  pub as_many : length new.taken ≡ length old.taken

-- an address of a pool of so many nodes
pub record IsAddress (nodes : ℕ) (address : ℕ) : Type 0 where
  pub aligned : address % node_size ≡ 0
  pub from : node_size ≤ address
  pub to : address ≤ node_size * nodes

-- a memory of so many words has room for the nodes of this pool, which begin behind its first 32 words
abbrev pub HasRoom : ℕ → Pool → Type 0
HasRoom words pool = node_size * (length pool.taken + 1) ≤ words
