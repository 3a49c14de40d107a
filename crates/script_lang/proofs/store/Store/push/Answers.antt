use Rattle.std.proofs.Common.{List, [], ◌∷◌, ◌++◌, ap, ◌∙◌}
use Rattle.nesc_base.specs.declared.block.Block.{Block}
use Rattle.script_lang.specs.Stored.{kept_block, kept_blocks}
use Rattle.script_lang.proofs.StoreLemmas.{kept_blocks-push}
use Rattle.script_lang.proofs.store.Store.push.Goals as goal

pub returns : goal.returns
returns c =
    let full = c.self.inside.full.items in
    let grown = c.keep.new.full.items in
    let kept = c.self.inside.kept.items in
    let last = c.in_ok-kept.kept in
    ap (kept_blocks grown) c.in_ok-push.ensures.items
    ∙ kept_blocks-push full grown kept last c.keep.ensures.grows c.self.invariant
    ∙ ap (λ (blocks : List Block). blocks ++ kept_block grown last ∷ []) c.self.view_is
    ∙ ap (λ (block : Block). c.args.self.now ++ block ∷ []) c.in_ok-kept.ensures.kept
