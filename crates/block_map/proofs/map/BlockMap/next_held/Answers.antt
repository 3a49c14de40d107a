use Rattle.block_map.proofs.Among.{next_held}
use Rattle.block_map.proofs.map.BlockMap.next_held.Goals as goal

pub returns : goal.returns
returns c =
    next_held c.args.self.now c.args.file.0 c.args.from c.max-v.result c.in_ok-run.run' c.max-v.ensures c.in_ok-run.ensures
