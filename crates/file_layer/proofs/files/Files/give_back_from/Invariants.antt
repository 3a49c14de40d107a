-- What holds after each turn.
use Rattle.std.proofs.Common.{◌≡◌, ◌+◌, length}
use Rattle.block_map.specs.Map.{count_held}
use Rattle.file_layer.specs.Layer.{Fits}
use Rattle.file_layer.specs.TakingBack.{GivesBack}
use Rattle.file_layer.proofs.files.Files.give_back_from.Given as goal

-- so many blocks were given back, one in each turn
pub record Turned (l : goal.Live-loop) : Type 0 where
  pub fits : Fits l.self l.journal
  pub gives : GivesBack l.file.0 l.from l.fn.self l.fn.journal l.self l.journal l.touched.marks
  pub marks : length l.touched.marks ≡ 512
  pub left : l.count + count_held l.file.0 l.self.map.owners ≡ count_held l.file.0 l.fn.self.map.owners
  pub turns : l.count ≡ l.counter

abbrev pub invariant-loop : goal.invariant-loop
invariant-loop l = Turned l
