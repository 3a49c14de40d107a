use Rattle.std.proofs.Common.{◌≡◌, take}
use Rattle.std.specs.List.{sum_by}
use Rattle.script_lang.specs.Entries.{guest_entry_blocks}
use Rattle.script_lang.proofs.script.blocks_of_guests.Given as goal

-- the sum over the guests so far
abbrev pub invariant-loop-guest : goal.invariant-loop-guest
invariant-loop-guest l = l.blocks ≡ sum_by (λ guest. sum_by guest_entry_blocks guest.entries.items) (take l.guest-index l.guests)
