use Rattle.std.proofs.Common.{◌≡◌, ◌+◌, drop, length, map}
use Rattle.std.specs.List.{All}
use Rattle.toml.specs.View.{items_view}
use Rattle.script_lang.specs.CommandsText.{each_said, requests_said, strings_of}
use Rattle.script_lang.specs.Entries.{IsGuestEntry, request_in}
use Rattle.script_lang.specs.GuestText.{request_of}
use Rattle.script_lang.specs.Stored.{Grows}
use Rattle.script_lang.proofs.StepLemmas.{behind}
use Rattle.script_lang.proofs.reading.read_requests.Given as goal

-- the requests so far and those of the values that are left are those of all values
abbrev pub invariant-loop-value : goal.invariant-loop-value
invariant-loop-value l = record {
  read : behind (map (request_in l.store) l.entries.items) (each_said request_of l.f (l.index + 1) (strings_of (items_view (drop l.value-index l.values)))) ≡ requests_said l.f (strings_of (items_view l.values));
  kept : All (IsGuestEntry (length l.store)) l.entries.items;
  grows : Grows l.fn.store l.store;
}
