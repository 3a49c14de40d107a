use Rattle.std.proofs.Common.{◌-◌, ◌*◌}
use Rattle.file_layer.specs.Layer.{owners_of}
use Rattle.file_layer.proofs.CopiedOwners.{AreCopied}
use Rattle.file_layer.proofs.files.Files.map_block.Given as goal

abbrev pub invariant-loop-k : goal.invariant-loop-k
invariant-loop-k l = AreCopied (owners_of l.self) (128 * l.b) (l.k - 128 * l.b) l.owners
