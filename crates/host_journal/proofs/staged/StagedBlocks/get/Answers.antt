use Rattle.std.proofs.Common.{Some, length, refl, sym, ap, ◌∙◌, arith}
use Rattle.std.specs.FinMap.{get}
use Rattle.std.specs.Option.{option_copied}
use Rattle.std.proofs.lemmas.Option.{slice_get_read}
use Rattle.host_journal.proofs.Stored.{block_within, index_at, no_target, none_stands, staged_at, target_at}
use Rattle.host_journal.proofs.staged.StagedBlocks.get.Goals as goal

pub returns-in_err-i : goal.returns-in_err-i
returns-in_err-i c =
    let here = index_at c.self.view_is _ refl c.requires c.index.ensures in
    ap option_copied c.from_residual.ensures
    ∙ sym (none_stands _ _ c.args.at (no_target c.self.invariant c.args.at (here.1 ∙ ap Some c.in_err-i.was)))
    ∙ ap (λ s. get s.staged c.args.at) c.self.view_is

pub index-requires-2 : goal.index-requires-2
index-requires-2 c =
    let here = index_at c.self.view_is _ refl c.requires c.index.ensures in
    omega (arith, block_within c.self.invariant c.args.at c.in_ok-i.i here.0 (here.1 ∙ ap Some c.in_ok-i.was))

pub returns : goal.returns
returns c =
    let here = index_at c.self.view_is _ refl c.requires c.index.ensures in
    let there = here.1 ∙ ap Some c.in_ok-i.was in
    let target = target_at c.self.invariant c.args.at c.in_ok-i.i here.0 there in
    let within = block_within c.self.invariant c.args.at c.in_ok-i.i here.0 there in
    let blocks = c.self.inside.blocks.items in
    let read = slice_get_read blocks (length blocks) c.from.result c.index-2.result.now refl (omega (arith, within)) c.index-2.ensures in
    sym (staged_at c.self.invariant c.in_ok-i.i c.args.at c.index-2.result.now target (rw c.from.ensures at read))
    ∙ ap (λ s. get s.staged c.args.at) c.self.view_is
