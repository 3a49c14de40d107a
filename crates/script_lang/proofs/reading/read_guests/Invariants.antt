use Rattle.std.proofs.Common.{◌≡◌, ◌+◌, drop, length, map}
use Rattle.std.specs.List.{All}
use Rattle.toml.specs.View.{items_view}
use Rattle.script_lang.specs.CommandsText.{guests_of, guests_said}
use Rattle.script_lang.specs.Kept.{IsFreshGuest, requests_left}
use Rattle.script_lang.specs.Stored.{Grows}
use Rattle.script_lang.proofs.StepLemmas.{behind}
use Rattle.script_lang.proofs.reading.read_guests.Given as goal

-- the guests so far and those of the values that are left are those of all values
abbrev pub invariant-loop-value : goal.invariant-loop-value
invariant-loop-value l = record {
  f : l.f ≡ l.value-index;
  count : length l.guests.items ≡ l.value-index;
  read : behind (map (requests_left l.store) l.guests.items) (guests_said (l.f + 1) (guests_of (items_view (drop l.value-index l.values)))) ≡ guests_said 1 (guests_of (items_view l.values));
  fresh : All (IsFreshGuest (length l.store)) l.guests.items;
  grows : Grows l.fn.store l.store;
}
