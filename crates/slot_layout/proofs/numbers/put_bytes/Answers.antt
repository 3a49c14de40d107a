use Rattle.std.proofs.Common.{◌+◌, ◌-◌, length, ap, arith}
use Rattle.nesc_base.specs.declared.block.Block.{Block}
use Rattle.slot_layout.specs.Bytes.{block_of_bytes}
use Rattle.slot_layout.proofs.Padding.{put_mid-padded}
use Rattle.slot_layout.proofs.numbers.put_bytes.Goals as goal

pub returns : goal.returns
returns c = λ front at before.
    ap block_of_bytes (put_mid-padded 1024 c.args.at (c.args.at + length c.args.bytes.now - c.args.at) front c.args.block.now.0 c.args.bytes.now c.copy_from_slice.new.self
    at (omega arith) c.requires (ap (λ (b : Block). b.0) before) c.copy_from_slice.ensures.after)
