use Rattle.std.proofs.Common.{◌+◌, ◌<◌, ◌≤◌, length, ap, sym, subst, ◌∙◌, arith}
use Rattle.std.proofs.lemmas.List.{get_or_read, length-map}
use Rattle.nesc_base.specs.Block.{zero_block}
use Rattle.nesc_base.specs.BlockText.{repeated}
use Rattle.script_lang.specs.Stored.{IsKeptAmong, kept_block}
use Rattle.script_lang.proofs.StoreLemmas.{filled-more}
use Rattle.script_lang.proofs.store.Store.fill.Goals as goal
use Rattle.script_lang.proofs.store.Store.fill.Goals.{in-Repeats, in-Full}

pub loop-k-preserved : goal.loop-k-preserved
loop-k-preserved c =
    let full = c.self.inside.full.items in
    let kept = c.self.inside.kept.items in
    let run = c.args.run in
    let k = c.loop-k.k in
    let one = c.index.result.now in
    let inside : run.first + run.count ≤ length kept = omega (arith, c.requires.inside, ap length c.self.view_is, length-map kept (kept_block full)) in
    elim c.match-index.branch [
      | in-Repeats w ↦
          let more = filled-more full kept run k one c.loop-k.into c.match-index.into (repeated w.in-Repeats.bytes) (omega arith) inside c.index.ensures (ap (kept_block full) w.in-Repeats.is) (w.into-is ∙ w.set_repeated.ensures)
          c.loop-k.invariant.count c.loop-k.invariant.filled in
          record { count = more.0; filled = more.1 }
      | in-Full w ↦
          let among : w.in-Full.i < length full = subst (IsKeptAmong (length full)) (sym c.index.ensures ∙ w.in-Full.is) (c.self.invariant (run.first + k) one (omega arith)) in
          let block = w.index-in-Full.result.now in
          let same = ap (kept_block full) w.in-Full.is ∙ sym (get_or_read full w.in-Full.i block among w.index-in-Full.ensures zero_block) in
          let more = filled-more full kept run k one c.loop-k.into c.match-index.into block (omega arith) inside c.index.ensures same (w.into-is ∙ w.set.ensures) c.loop-k.invariant.count c.loop-k.invariant.filled in
          record { count = more.0; filled = more.1 }
    ]
