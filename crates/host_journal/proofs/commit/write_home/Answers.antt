use Rattle.std.proofs.Common.{◌≡◌, ◌<◌, Ok, Err, length, get_or, refl, sym, ap, ◌∙◌, arith}
use Rattle.std.proofs.lemmas.List.{get_or_default}
use Rattle.std.proofs.lemmas.List.Elements.{All-from_recursion, All-get_or}
use Rattle.std.proofs.lemmas.Option.{same_Some}
use Rattle.nesc_base.specs.Block.{zero_block}
use Rattle.nesc_base.specs.Geometry.{total}
use Rattle.host_journal.specs.Staged.{fresh_of}
use Rattle.host_journal.proofs.StagedAt.{found_at, paired}
use Rattle.host_journal.proofs.Writing.{WritesOut-all, WritesOut-failed, WritesOut-more}
use Rattle.host_journal.proofs.commit.write_home.Goals.{in-Some+in_ok-write, in_default}
use Rattle.host_journal.proofs.commit.write_home.Goals as goal

pub write-requires : goal.write-requires
write-requires g c =
    let targets = c.args.targets.now in
    let size = c.loop-at.invariant.writes_out.goes.same_size in
    let below : get_or targets c.loop-at.at-index 0 < total c.args.geometry =
    All-get_or (λ at. at < total c.args.geometry) targets c.loop-at.at-index 0 (omega arith) (All-from_recursion (λ at. at < total c.args.geometry) targets c.requires.staged.good.below) in
    omega arith

pub returns-in_err-write-clause-writes_out : goal.returns-in_err-write-clause-writes_out
returns-in_err-write-clause-writes_out g c =
    let targets = c.args.targets.now in
    let staged = c.args.staged.now.staged in
    let i = c.loop-at.at-index in
    let at = get_or targets i 0 in
    let call = c.in_err-write.ensures in
    WritesOut-failed _ _ _ targets (fresh_of staged) i (ap length c.requires.staged.all ∙ paired staged) at c.in-Some.block.now (Err c.in_err-write.field-0.0) _
    (omega arith) (get_or_default targets i at 0 (omega arith)) refl c.from_residual.ensures.0 c.loop-at.invariant.writes_out
    (record { goes = call.goes; written = call.written; writes = call.writes; cause = call.cause })

pub loop-at-preserved : goal.loop-at-preserved
loop-at-preserved g c =
    let targets = c.args.targets.now in
    let staged = c.args.staged.now.staged in
    let i = c.loop-at.at-index in
    let at = get_or targets i 0 in
    elim c.match-get.branch [
      | in-Some+in_ok-write w ↦
          let block = w.in-Some.block in
          let call = w.in_ok-write.ensures in
          let found = found_at c.args.geometry staged targets i c.get.result block.now c.requires.staged.all c.requires.staged.good (omega arith) c.get.ensures in
          let same : found.0 ≡ block = same_Some found.0 block (sym found.1 ∙ w.in-Some.is) in
          let here : get_or (fresh_of staged) i block.now ≡ block.now = sym found.2 ∙ ap (λ b. b.now) same in
          rw w.disk-is (record {
            writes_out = WritesOut-more _ _ _ targets (fresh_of staged) i (ap length c.requires.staged.all ∙ paired staged) at block.now (Ok tt)
                (omega arith) (get_or_default targets i at 0 (omega arith)) here c.loop-at.invariant.writes_out
                (record { goes = call.goes; written = call.written; writes = call.writes; cause = call.cause });
            keeps = g.met.D.Disk.keeps_on _ _ _ c.loop-at.invariant.keeps call.keeps;
          })
      | in_default w ↦
          let found = found_at c.args.geometry staged targets i c.get.result zero_block c.requires.staged.all c.requires.staged.good (omega arith) c.get.ensures in
          absurd (w.in_default.not-Some found.0 found.1)
    ]

pub returns-clause-writes_out : goal.returns-clause-writes_out
returns-clause-writes_out g c =
    let staged = c.args.staged.now.staged in
    WritesOut-all _ _ c.args.targets.now (fresh_of staged) c.loop-at.at-index (ap length c.requires.staged.all ∙ paired staged) (omega arith) c.loop-at.invariant.writes_out
