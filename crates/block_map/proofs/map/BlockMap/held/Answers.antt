use Rattle.std.proofs.Common.{ℕ, Option, get_or, sym, ap, ◌∙◌, arith}
use Rattle.std.specs.Prelude.{unwrap_or}
use Rattle.std.proofs.lemmas.Option.{unwrap_or-slice_get}
use Rattle.block_map.specs.Map.{BlockMap, count_held}
use Rattle.block_map.proofs.Sounding.{held_share}
use Rattle.block_map.proofs.map.BlockMap.held.Goals as goal

pub returns : goal.returns
returns c =
    let n = c.args.file.0 in
    let held = c.self.inside.held in
    c.unwrap_or.ensures
    ∙ ap (λ (o : Option ℕ). unwrap_or o 0) c.copied.ensures
    ∙ c.get.ensures.lookup.4 (omega arith) 0
    ∙ ap (λ k. get_or held k 0) c.from.ensures
    ∙ sym (unwrap_or-slice_get held n 0)
    ∙ held_share c.self.invariant n
    ∙ ap (λ (m : BlockMap). count_held n m.owners) c.self.view_is
