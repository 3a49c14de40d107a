use Rattle.std.proofs.Common.{◌≡◌, map}
use Rattle.std.specs.List.{sum_by}
use Rattle.script_lang.specs.Entries.{host_entry_blocks}
use Rattle.script_lang.proofs.script.blocks_of_host.Given as goal

-- the sum over the entries so far
abbrev pub invariant-loop-entry : goal.invariant-loop-entry
invariant-loop-entry l = l.blocks ≡ sum_by host_entry_blocks (map (λ entry. entry.now) l.yielded)
