use Rattle.std.proofs.Common.{List, set, ap, ◌∙◌, arith, ◌+◌}
use Rattle.block_map.specs.declared.held_runs.HeldRun.{HeldRun}
use Rattle.block_map.specs.declared.held_runs.HeldRuns.{HeldRuns}
use Rattle.block_map.proofs.Parts.{set_over, set_over_two}
use Rattle.block_map.proofs.held_runs.HeldRuns.put_over.Goals.{then-from-to-2, else-from-to-2}
use Rattle.block_map.proofs.held_runs.HeldRuns.put_over.Goals as goal

pub returns-clause-items : goal.returns-clause-items
returns-clause-items c =
    let old = c.args.self.now.runs.items in
    let from = c.args.from in
    let held = c.args.held in
    elim c.if-from-to-2.branch [
      | then-from-to-2 w ↦ (
          let two = w.if-from-to-2.true in
          ap (λ (s : HeldRuns). set s.runs.items from held) w.self-is ∙ ap (λ (xs : List HeldRun). set xs from held) w.remove.ensures.items
          ∙ set_over_two old from (from + 1) c.args.to held (omega arith) (omega arith) c.requires.within)
      | else-from-to-2 w ↦ (
          let one = w.if-from-to-2.false in
          ap (λ (s : HeldRuns). set s.runs.items from held) w.self-is ∙ set_over old from c.args.to held (omega arith) c.requires.within)
    ]
