-- No owner that was read is file 0.
use Rattle.image_layout.proofs.owners.tests.map_blocks.Goals as goal

pub owner_block-requires : goal.owner_block-requires
owner_block-requires g c k owner is = (c.in-Some.ensures.good k owner is).numbered
