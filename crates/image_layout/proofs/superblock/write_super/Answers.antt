use Rattle.std.proofs.Common.{◌≡◌, [], ◌++◌, codes, refl, ap, ◌∙◌}
use Rattle.nesc_base.specs.Block.{zero_block}
use Rattle.slot_layout.specs.Bytes.{block_of_bytes, four_bytes, padded}
use Rattle.image_layout.specs.Super.{superblock}
use Rattle.image_layout.proofs.superblock.write_super.Goals as goal

pub returns : goal.returns
unfolding superblock zero_block
returns c =
    let name = codes "NESCHOST" in
    let version = name ++ four_bytes c.args.geometry.version in
    let blocks = version ++ four_bytes c.args.geometry.blocks in
    let slack = blocks ++ four_bytes c.args.geometry.slack in
    let named : c.put_bytes.new.block ≡ block_of_bytes (padded 1024 name) = c.put_bytes.ensures [] refl c.zero-block.ensures in
    let with_version : c.put_number.new.block ≡ block_of_bytes (padded 1024 version) = c.put_number.ensures name refl named in
    let with_blocks : c.put_number-2.new.block ≡ block_of_bytes (padded 1024 blocks) = c.put_number-2.ensures version refl with_version in
    let with_slack : c.put_number-3.new.block ≡ block_of_bytes (padded 1024 slack) = c.put_number-3.ensures blocks refl with_blocks in
    let with_total : c.put_number-4.new.block ≡ block_of_bytes (padded 1024 (slack ++ four_bytes c.total.result)) = c.put_number-4.ensures slack refl with_slack in
    record {
      sizes = c.requires;
      spelling = with_total ∙ ap (λ total. block_of_bytes (padded 1024 (slack ++ four_bytes total))) c.total.ensures;
    }
