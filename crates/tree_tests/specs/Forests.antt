-- The trees of all functions over files with the same runs, in one memory and with one pool.
use Rattle.std.specs.Prelude.{◌≡◌, ℕ, ◌+◌, ◌*◌, List, length}
use Rattle.nesc_base.specs.Memory.{node_size}
use Rattle.nesc_base.specs.declared.runs.Run.{Run}
use Rattle.nesc_requests.specs.Machine.{most_functions}
use Rattle.host_memory.specs.Pool.{HasRoom, Pool, all_free}
use Rattle.host_memory.specs.Words.{WordMemory, zeros}
use Rattle.tree_words.specs.Shown.{Layout}
use Rattle.tree_pruner.specs.Reclaiming.{AreTrees}
use Rattle.tree_pruner.specs.Roots.{Roots, no_roots, root_of}
use Rattle.tree_tests.specs.Planted.{Plot}

pub record Woods : Type 0 where
  pub runs : List Run
  pub nodes : ℕ
  pub pool : Pool
  pub memory : WordMemory
  pub roots : Roots

-- no function has a tree, and the memory has room for so many nodes
abbrev pub bare_forest : List Run → ℕ → Woods
bare_forest runs nodes =
    record {
      runs = runs;
      nodes = nodes;
      pool = all_free nodes;
      memory = zeros (node_size * (nodes + 1));
      roots = no_roots;
    }

-- The words show some part of the tree of each function, no two share a node, and no other node is taken. The memory
-- has room for all nodes.
pub record IsForest (woods : Woods) : Type 0 where
  pub layouts : ℕ → Layout
  pub trees : AreTrees woods.pool woods.memory.words woods.roots (λ _. woods.runs) layouts
  pub rooted : length woods.roots ≡ most_functions
  pub room : HasRoom (length woods.memory.words) woods.pool
  pub many : length woods.pool.taken ≡ woods.nodes

-- the tree of one function alone
abbrev pub plot_of : Woods → ℕ → Plot
plot_of woods f = record { runs = woods.runs; pool = woods.pool; memory = woods.memory; root = root_of woods.roots f }
