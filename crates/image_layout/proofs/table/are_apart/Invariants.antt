use Rattle.std.proofs.Common.{◌≡◌, ℕ, ◌<◌, Some, slice_get}
use Rattle.image_layout.specs.declared.table.TableEntry.{TableEntry}
use Rattle.image_layout.proofs.table.are_apart.Given as goal

-- no two entries so far have one name
abbrev pub invariant-loop-e : goal.invariant-loop-e
invariant-loop-e l = (i j : ℕ) (one other : TableEntry) → i < l.e → j < l.e → slice_get l.entries i ≡ Some (Some one) → slice_get l.entries j ≡ Some (Some other) → one.name ≡ other.name → i ≡ j
