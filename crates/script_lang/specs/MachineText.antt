-- The numbers of the machine, as the table `machine` gives them.
use Rattle.std.specs.Prelude.{ℕ, ℤ, pos, ◌&&◌, nat_le, if◌then◌else◌, List}
use Rattle.std.specs.Prelude.{codes, Result, Ok, Err, option_and_then, unwrap_or}
use Rattle.toml.specs.Data.{Members, as_integer, get_member}
use Rattle.nesc_requests.specs.Machine.{default_machine, fewest_nodes, most_functions}
use Rattle.nesc_requests.specs.Machine.{most_nodes, most_queued, most_translations}
use Rattle.nesc_requests.specs.declared.machine.Machine.{Machine}
use Rattle.script_lang.specs.Keys.{bad_key}
use Rattle.script_lang.specs.Reads.{unless, ◌>>=◌}
use Rattle.script_lang.specs.declared.fault.InputFault.{InputFault}
use Rattle.script_lang.specs.declared.fault.InputFault.TheVariants.{OverLimit}
use Rattle.script_lang.specs.declared.fault.Limit.{Limit}
use Rattle.script_lang.specs.declared.fault.Limit.TheVariants.{Functions, Queue, Pool, Btlb}
use Rattle.script_lang.specs.declared.keys.Level.TheVariants as level

-- the number at a key of the table, or what it is where the key is absent
abbrev pub number_at : List ℕ → ℕ → Members → ℤ
number_at key other members = unwrap_or (option_and_then as_integer (get_member key members)) (pos other)

-- the number, if it is one of these
abbrev pub between : Limit → ℕ → ℕ → ℤ → Result ℕ InputFault
between limit least most (pos n) = if nat_le least n && nat_le n most then Ok n else Err (OverLimit limit (pos n))
between limit least most z = Err (OverLimit limit z)

-- the four numbers, each within its limits
abbrev pub machine_of : Members → Result Machine InputFault
machine_of members = do
  functions ← between Functions 1 most_functions (number_at (codes "functions") default_machine.functions members)
  queue ← between Queue 1 most_queued (number_at (codes "queue") default_machine.queue members)
  pool ← between Pool fewest_nodes most_nodes (number_at (codes "pool") default_machine.pool members)
  btlb ← between Btlb 1 most_translations (number_at (codes "btlb") default_machine.btlb members)
  Ok (record { functions = functions; queue = queue; pool = pool; btlb = btlb })

-- so it is once the keys of the table are judged
abbrev pub machine_said : Members → Result Machine InputFault
machine_said numbers = unless (bad_key level.Machine numbers) numbers >>= machine_of
