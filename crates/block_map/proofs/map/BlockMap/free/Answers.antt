use Rattle.std.proofs.Common.{subst}
use Rattle.block_map.specs.Map.{IsMap}
use Rattle.block_map.proofs.SoundMap.{IsMap-sound}
use Rattle.block_map.proofs.map.BlockMap.free.Goals as goal

pub returns-clause-sound : goal.returns-clause-sound
returns-clause-sound c = subst IsMap c.self.view_is (IsMap-sound c.self.invariant)
