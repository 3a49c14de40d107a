use Rattle.std.proofs.Common.{◌≡◌, ℕ, ◌<◌, Some, slice_get}
use Rattle.image_layout.specs.declared.table.TableEntry.{TableEntry}
use Rattle.image_layout.proofs.table.has_name.Given as goal

-- no entry so far has the name
abbrev pub invariant-loop-entry : goal.invariant-loop-entry
invariant-loop-entry l = (k : ℕ) (entry : TableEntry) → k < l.entry-index → slice_get l.entries k ≡ Some (Some entry) → entry.name ≡ l.name → ⊥
