use Rattle.std.proofs.Common.{◌≡◌, ℕ, ◌<◌, Some, slice_get}
use Rattle.image_layout.specs.declared.table.TableEntry.{TableEntry}
use Rattle.file_layer.proofs.files.Files.find.Given as goal

-- no entry so far has the name
abbrev pub invariant-loop-e : goal.invariant-loop-e
invariant-loop-e l = (k : ℕ) (entry : TableEntry) → k < l.e → slice_get l.entries k ≡ Some (Some entry) → entry.name ≡ l.name → ⊥
