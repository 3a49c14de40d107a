-- What is known of a memory of words that is the machine's own: it gives what it holds.
use Rattle.std.specs.Prelude.{◌≡◌, ℕ, List, [], ◌∷◌, Option, Some, replicate, refl}
use Rattle.std.specs.Coded.{Coded, code_by, coded×, coded_list, coded_option, coded_ℕ}
use Rattle.nesc_base.specs.Memory.{KnownMemory, Lists, node_at}

pub record WordMemory : Type 0 where
  pub words : List ℕ  -- what it holds
  pub fetched : Option (List ℕ)  -- from where nodes were fetched, in order, while there was memory to keep that

-- how a proof keeps such a value
abbrev pub memory_code : Coded WordMemory
memory_code =
    code_by (List ℕ × Option (List ℕ)) (coded× (coded_list coded_ℕ) (coded_option (coded_list coded_ℕ)))
    (λ memory. (memory.words, memory.fetched))
    (λ p. record { words = p.0; fetched = p.1 })
    (λ _. refl)

-- what is known of it: no fetch is bent
abbrev pub known_of : WordMemory → KnownMemory
known_of memory = record { words = memory.words; fetched = memory.fetched; bent = 0 }

-- so many words of 0, and no node fetched
abbrev pub zeros : ℕ → WordMemory
zeros words = record { words = replicate words 0; fetched = Some [] }

-- What a memory that never bends does in a fetch: these are the node's words, and the list, where it is told still, has
-- the address behind.
pub record FetchesExactly (node : ℕ) (given : List ℕ) (old new : KnownMemory) : Type 0 where
  pub gives : given ≡ node_at old.words node
  pub words : new.words ≡ old.words
  pub bent : new.bent ≡ old.bent
  pub listed : Lists (node ∷ []) old.fetched new.fetched

-- a fetch at this address, and then what comes after
pub record FetchesThen (node : ℕ) (after : KnownMemory → Type 0) (old : KnownMemory) : Type 0 where
  pub given : List ℕ
  pub next : KnownMemory
  pub fetches : FetchesExactly node given old next
  pub rest : after next

-- fetches at these addresses, one after the other
abbrev pub FetchesAll : List ℕ → KnownMemory → KnownMemory → Type 0
FetchesAll [] old new = new ≡ old
FetchesAll (node ∷ nodes) old new = FetchesThen node (λ next. FetchesAll nodes next new) old

-- The law `listed` in proofs/WordLaws.antt says of these: the addresses stand behind those of before, where the list is
-- told still, and nothing else has changed.
pub record HasFetched (nodes : List ℕ) (old new : KnownMemory) : Type 0 where
  pub words : new.words ≡ old.words
  pub bent : new.bent ≡ old.bent
  pub listed : Lists nodes old.fetched new.fetched
