use Rattle.std.proofs.Common.{◌≡◌, ◌+◌, ◌-◌, ℕ, List, true, subst, sym, ◌∙◌, arith, rules}
use Rattle.std.specs.Prelude.{IsErrOf}
use Rattle.std.proofs.lemmas.Option.{get_or_from_slice_get}
use Rattle.nesc_base.specs.declared.block.Block.{Block}
use Rattle.nesc_base.specs.declared.geometry.Geometry.{Geometry}
use Rattle.nesc_base.specs.Disk.{Known}
use Rattle.slot_layout.specs.Gate.{is_open}
use Rattle.slot_layout.specs.Slots.{AreOpen, gate}
use Rattle.slot_layout.proofs.SlotLemmas.{AreOpen-more}
use Rattle.host_journal.specs.Replaying.{AreLaid}
use Rattle.host_journal.specs.declared.journal.StartFault.TheVariants as fault
use Rattle.host_journal.proofs.DiskReads.{read_well, reads_on}
use Rattle.host_journal.proofs.replay.Replay.judge.Goals as goal

pub returns-in_err-judge_slot-clause-lacks : goal.returns-in_err-judge_slot-clause-lacks
returns-in_err-judge_slot-clause-lacks g c tells block is =
    let geometry : Geometry = c.args.self.now.geometry in
    let image : List Block = (g.D.Disk.known c.args.disk.now).contents in
    let k : ℕ = c.loop-k.k in
    let this : k - 1 + 1 ≡ k = omega arith in
    let opened : AreOpen geometry image k = subst (AreOpen geometry image) this
    (AreOpen-more geometry image (k - 1) k (sym this) (c.loop-k.invariant.opened tells) (sym (get_or_from_slice_get c.args.opened.now (k - 1) (is_open (gate geometry image k)) _ (c.requires.gates tells k (omega arith) (omega arith))) ∙ c.if-not-opened-k.false)) in
    let lacks = rw (c.loop-k.invariant.reads.unchanged.contents tells, c.loop-k.invariant.geometry) at (c.judge_slot.ensures.lacks (c.loop-k.invariant.reads.goes.still_tells ∙ tells)) in
    let same : IsErrOf c.judge_slot.result (fault.BadList block) = search rules in
    lacks opened (c.loop-k.invariant.laid tells) block same

pub loop-k-preserved : goal.loop-k-preserved
loop-k-preserved g c =
    let old : Known = g.D.Disk.known c.args.disk.now in
    let now : Known = g.D.Disk.known c.loop-k.disk in
    let new : Known = g.D.Disk.known c.judge_slot.new.disk in
    let geometry : Geometry = c.args.self.now.geometry in
    let image : List Block = old.contents in
    let k : ℕ = c.loop-k.k in
    let this : k - 1 + 1 ≡ k = omega arith in
    let next : k ≡ k + 1 - 1 = omega arith in
    let opened : old.tells ≡ true → AreOpen geometry image k = λ tells. subst (AreOpen geometry image) this
    (AreOpen-more geometry image (k - 1) k (sym this) (c.loop-k.invariant.opened tells) (sym (get_or_from_slice_get c.args.opened.now (k - 1) (is_open (gate geometry image k)) _ (c.requires.gates tells k (omega arith) (omega arith))) ∙ c.if-not-opened-k.false)) in
    record {
      geometry = c.in_ok-judge_slot.ensures.geometry ∙ c.loop-k.invariant.geometry;
      ready = c.in_ok-judge_slot.ensures.ready;
      low = rw c.loop-k.invariant.geometry at c.in_ok-judge_slot.ensures.low;
      opened = λ tells. subst (AreOpen geometry image) next (opened tells);
      laid = λ tells.
          let judged = rw (c.loop-k.invariant.reads.unchanged.contents tells, c.loop-k.invariant.geometry) at (c.in_ok-judge_slot.ensures.judged (c.loop-k.invariant.reads.goes.still_tells ∙ tells)) in
          subst (λ (n : ℕ). AreLaid geometry image n c.judge_slot.new.self.sources.items) next (judged (opened tells) (c.loop-k.invariant.laid tells));
      reads = read_well old new _ (reads_on old now new _ _ c.loop-k.invariant.reads c.in_ok-judge_slot.ensures.reads);
      keeps = g.met.D.Disk.keeps_on _ _ _ c.loop-k.invariant.keeps c.in_ok-judge_slot.ensures.keeps;
    }
