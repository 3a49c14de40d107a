use Rattle.std.proofs.Common.{◌≡◌, ℕ, ◌+◌, ◌<◌, Ok, Err, length, get_or, refl, sym, ap, ◌∙◌, arith}
use Rattle.std.proofs.lemmas.List.FromFn.{get_or-range_with_len, length-range_with_len}
use Rattle.std.proofs.lemmas.Option.{same_Some}
use Rattle.nesc_base.specs.Block.{zero_block}
use Rattle.nesc_base.specs.Geometry.{list_blocks}
use Rattle.nesc_base.specs.declared.geometry.Geometry.{Geometry}
use Rattle.slot_layout.specs.Slots.{list_at}
use Rattle.host_journal.specs.Committing.{data_places}
use Rattle.host_journal.specs.Staged.{fresh_of}
use Rattle.host_journal.proofs.StagedAt.{found_at, paired}
use Rattle.host_journal.proofs.Writing.{WritesOut-all, WritesOut-failed, WritesOut-more}
use Rattle.host_journal.proofs.commit.write_slot.Goals.{in-Some+in_ok-write, in_default}
use Rattle.host_journal.proofs.commit.write_slot.Goals as goal

many : (geometry : Geometry) (count : ℕ) → length (data_places geometry count) ≡ count
many geometry count = length-range_with_len (list_at geometry 1 + list_blocks geometry) count

place_at : (geometry : Geometry) (count i at : ℕ) → i < count → at ≡ list_at geometry 1 + list_blocks geometry + i → get_or (data_places geometry count) i at ≡ at
place_at geometry count i at below is = get_or-range_with_len (list_at geometry 1 + list_blocks geometry) count i at below ∙ sym is

pub write-requires : goal.write-requires
write-requires g c =
    let size = c.loop-i.invariant.writes_out.goes.same_size in
    let room = c.requires.staged.good.room in
    omega arith

pub returns-in_err-write-clause-writes_out : goal.returns-in_err-write-clause-writes_out
returns-in_err-write-clause-writes_out g c =
    let geometry = c.args.geometry in
    let count = length c.args.targets.now in
    let staged = c.args.staged.now.staged in
    let i = c.loop-i.i in
    let at = c.slot_at.result + 1 + c.list_blocks.result + i in
    let call = c.in_err-write.ensures in
    WritesOut-failed _ _ _ (data_places geometry count) (fresh_of staged) i (many geometry count ∙ ap length c.requires.staged.all ∙ paired staged) at c.in-Some.block.now (Err c.in_err-write.field-0.0) _
    (omega (arith, many geometry count)) (place_at geometry count i at (omega arith) (omega arith)) refl c.from_residual.ensures.0 c.loop-i.invariant.writes_out
    (record { goes = call.goes; written = call.written; writes = call.writes; cause = call.cause })

pub loop-i-preserved : goal.loop-i-preserved
loop-i-preserved g c =
    let geometry = c.args.geometry in
    let targets = c.args.targets.now in
    let count = length targets in
    let staged = c.args.staged.now.staged in
    let i = c.loop-i.i in
    let at = c.slot_at.result + 1 + c.list_blocks.result + i in
    elim c.match-get.branch [
      | in-Some+in_ok-write w ↦
          let block = w.in-Some.block in
          let call = w.in_ok-write.ensures in
          let found = found_at geometry staged targets i c.get.result block.now c.requires.staged.all c.requires.staged.good (omega arith) c.get.ensures in
          let same : found.0 ≡ block = same_Some found.0 block (sym found.1 ∙ w.in-Some.is) in
          let here : get_or (fresh_of staged) i block.now ≡ block.now = sym found.2 ∙ ap (λ b. b.now) same in
          rw w.disk-is (record {
            writes_out = WritesOut-more _ _ _ (data_places geometry count) (fresh_of staged) i (many geometry count ∙ ap length c.requires.staged.all ∙ paired staged) at block.now (Ok tt)
                (omega (arith, many geometry count)) (place_at geometry count i at (omega arith) (omega arith)) here c.loop-i.invariant.writes_out
                (record { goes = call.goes; written = call.written; writes = call.writes; cause = call.cause });
            keeps = g.met.D.Disk.keeps_on _ _ _ c.loop-i.invariant.keeps call.keeps;
          })
      | in_default w ↦
          let found = found_at geometry staged targets i c.get.result zero_block c.requires.staged.all c.requires.staged.good (omega arith) c.get.ensures in
          absurd (w.in_default.not-Some found.0 found.1)
    ]

pub returns-clause-writes_out : goal.returns-clause-writes_out
returns-clause-writes_out g c =
    let count = length c.args.targets.now in
    let staged = c.args.staged.now.staged in
    WritesOut-all _ _ (data_places c.args.geometry count) (fresh_of staged) c.loop-i.i (many c.args.geometry count ∙ ap length c.requires.staged.all ∙ paired staged)
    (omega (arith, many c.args.geometry count)) c.loop-i.invariant.writes_out
