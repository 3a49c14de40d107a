-- A file's runs, a pool, a memory, and the part of the file's tree that stands there.
use Rattle.std.specs.Prelude.{◌≡◌, ◌⊎◌, ℕ, ◌+◌, ◌*◌, ◌<◌, ◌≤◌, List, None, Some, length}
use Rattle.nesc_base.specs.Files.{longest_file}
use Rattle.nesc_base.specs.Memory.{node_size}
use Rattle.nesc_base.specs.Runs.{AreRuns}
use Rattle.nesc_base.specs.declared.runs.Area.{Area}
use Rattle.nesc_base.specs.declared.runs.Run.{Run}
use Rattle.host_memory.specs.Pool.{HasRoom, Pool, all_free, free_of}
use Rattle.host_memory.specs.Words.{WordMemory, known_of, zeros}
use Rattle.tree_words.specs.Pools.{AreTaken}
use Rattle.tree_words.specs.Shown.{Layout, Shows}
use Rattle.tree_walker.specs.Walking.{WalksOver}
use Rattle.tree_walker.specs.declared.found.WalkEnd.{WalkEnd}
use Rattle.tree_builder.specs.Building.{BuildsPath, NeedsIn}
use Rattle.tree_builder.specs.declared.building.Built.{Built}
use Rattle.tree_pruner.specs.Dropping.{DropsTree}
use Rattle.tree_pruner.specs.Pruning.{PrunesLeaf}
use Rattle.tree_pruner.specs.declared.pruning.Pruned.{Pruned}

pub record Plot : Type 0 where
  pub runs : List Run
  pub pool : Pool
  pub memory : WordMemory
  pub root : ℕ

-- nothing of the tree stands yet, and the memory has room for so many nodes
abbrev pub bare : List Run → ℕ → Plot
bare runs nodes = record { runs = runs; pool = all_free nodes; memory = zeros (node_size * (nodes + 1)); root = 0 }

-- The words show some part of the tree of these runs, its nodes are taken, and the memory has room for all nodes.
pub record IsPlanted (plot : Plot) : Type 0 where
  pub are_runs : AreRuns plot.runs
  pub layout : Layout
  pub shows : Shows plot.memory.words plot.root plot.runs layout
  pub taken : AreTaken plot.pool layout
  pub room : HasRoom (length plot.memory.words) plot.pool

-- so many nodes of the path to block v do not stand
abbrev pub NeedsHere : Plot → ℕ → ℕ → Type 0
NeedsHere plot v needed = NeedsIn plot.memory.words plot.root plot.runs v needed

-- The path to block v cannot be built: no file has such a block, or it stands already, or too few nodes are free.
abbrev pub CannotBuild : Plot → ℕ → Type 0
CannotBuild plot v =
    (longest_file ≤ v) ⊎ NeedsHere plot v 0 ⊎ ((needed : ℕ) × NeedsHere plot v needed × (free_of plot.pool < needed))

pub record BuildsHere (v : ℕ) (old new : Plot) (built : Built) : Type 0 where
  pub filed : v < longest_file
  pub builds : BuildsPath old.runs old.root v old.pool new.pool (known_of old.memory) (known_of new.memory) built
  pub root : new.root ≡ built.root
  pub runs : new.runs ≡ old.runs

pub record PrunesHere (v : ℕ) (old new : Plot) (pruned : Pruned) : Type 0 where
  pub prunes : PrunesLeaf old.root v old.pool new.pool (known_of old.memory) (known_of new.memory) (Some pruned)
  pub root : new.root ≡ pruned.root
  pub runs : new.runs ≡ old.runs

-- the leaf over block v does not stand
abbrev pub CannotPrune : Plot → ℕ → Type 0
CannotPrune plot v = PrunesLeaf plot.root v plot.pool plot.pool (known_of plot.memory) (known_of plot.memory) None

pub record DropsHere (count : ℕ) (old new : Plot) : Type 0 where
  pub drops : DropsTree old.memory.words old.root count old.pool new.pool
  pub root : new.root ≡ 0
  pub memory : new.memory ≡ old.memory
  pub runs : new.runs ≡ old.runs

-- a walk changes nothing but the list of fetches
pub record WalksHere (v : ℕ) (area : Area) (end : WalkEnd) (old new : Plot) : Type 0 where
  pub walks : WalksOver old.root v area end (known_of old.memory) (known_of new.memory)
  pub rest : new ≡ record old { memory = record old.memory { fetched = new.memory.fetched } }
