use Rattle.std.proofs.Common.{◌≡◌, IsOk, Some, ap, sym, rules}
use Rattle.std.specs.Prelude.{slice_get, unwrap_or}
use Rattle.nesc_base.specs.Block.{zero_block}
use Rattle.host_journal.specs.Staged.{now_of}
use Rattle.file_layer.proofs.BlocksRead.{where_ok}
use Rattle.file_layer.proofs.loading.read_block.Goals as goal

pub returns-clause-block : goal.returns-clause-block
returns-clause-block g c tells kept is =
    let ok : IsOk c.read.result = search rules in
    let there : slice_get (now_of c.args.journal.now.staged kept) c.args.at ≡ Some c.read.new.into = where_ok c.read.result ok (c.read.ensures.block tells kept is) in
    sym (ap (λ o. unwrap_or o zero_block) there)
