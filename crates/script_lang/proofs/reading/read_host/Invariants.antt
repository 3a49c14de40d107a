use Rattle.std.proofs.Common.{◌≡◌, ◌+◌, drop, length, map}
use Rattle.std.specs.List.{All}
use Rattle.toml.specs.View.{items_view}
use Rattle.script_lang.specs.CommandsText.{each_said, host_said, strings_of}
use Rattle.script_lang.specs.Entries.{IsHostEntry, command_in}
use Rattle.script_lang.specs.HostText.{host_command_of}
use Rattle.script_lang.specs.Stored.{Grows}
use Rattle.script_lang.proofs.StepLemmas.{behind}
use Rattle.script_lang.proofs.reading.read_host.Given as goal

-- the commands so far and those of the values that are left are those of all values
abbrev pub invariant-loop-value : goal.invariant-loop-value
invariant-loop-value l = record {
  read : behind (map (command_in l.store) l.entries.items) (each_said (host_command_of l.functions) 0 (l.index + 1) (strings_of (items_view (drop l.value-index l.values)))) ≡ host_said l.functions (strings_of (items_view l.values));
  kept : All (IsHostEntry (length l.store)) l.entries.items;
  grows : Grows l.fn.store l.store;
}
