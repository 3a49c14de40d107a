-- The numbers of the machine.
use Rattle.std.specs.Prelude.{ℕ, ◌≤◌}
use Rattle.nesc_requests.specs.declared.machine.Machine.{Machine}

-- how many functions there are at most, and how many requests wait for one at most
abbrev pub most_functions : ℕ
most_functions = 16

abbrev pub most_queued : ℕ
most_queued = 64

-- how few and how many nodes of trees there are, and how many translations the cache has at most
abbrev pub fewest_nodes : ℕ
fewest_nodes = 8

abbrev pub most_nodes : ℕ
most_nodes = 4096

abbrev pub most_translations : ℕ
most_translations = 64

-- the numbers that a machine may have
pub record IsMachine (machine : Machine) : Type 0 where
  pub some_functions : 1 ≤ machine.functions
  pub few_functions : machine.functions ≤ most_functions
  pub some_queued : 1 ≤ machine.queue
  pub few_queued : machine.queue ≤ most_queued
  pub some_nodes : fewest_nodes ≤ machine.pool
  pub few_nodes : machine.pool ≤ most_nodes
  pub some_translations : 1 ≤ machine.btlb
  pub few_translations : machine.btlb ≤ most_translations

-- those of the machine that is not named
abbrev pub default_machine : Machine
default_machine = record { functions = 1; queue = 4; pool = 8; btlb = 4 }
