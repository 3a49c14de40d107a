use Rattle.std.proofs.Common.{◌≡◌, true, false, inl, inr, [], ◌∷◌, slice_set, sym, ◌∙◌, rules, refl, arith}
use Rattle.std.proofs.lemmas.Grind.{common_steps}
use Rattle.std.proofs.lemmas.List.{set-get_or, append-nil}
use Rattle.nesc_base.specs.Disk.{here}
use Rattle.nesc_fakes.specs.MemDisk.{MemDiskState}
use Rattle.nesc_fakes.specs.contracts.mem_disk.MemDisk.{the_view}
use Rattle.nesc_fakes.proofs.Images.{Comes, write_call, goes, follows_none, writes_none, same_by_none, follows_write, writes_here, unsynced_by_write}
use Rattle.nesc_fakes.proofs.mem_disk.MemDiskDisk.write.Goals as goal
use Rattle.nesc_fakes.proofs.mem_disk.MemDiskDisk.write.Goals.{After-is_err, then-is_err-via-then-is_err, then-is_err-via-else-is_err+then-contains}

-- what came of the list of calls: it is as it was, or has the write behind it
lost : (c : After-is_err) → c.is_err.result ≡ true → Comes (the_view c.self.inside) c.saturating_add-self-inside.result c.push.new.self.items []
lost c full =
    let same : c.push.new.self.items ≡ c.self.inside.calls.items = search rules in
    record { sound = c.self.invariant; bound = omega (arith, c.self.ranges); rises = search rules; adds = same ∙ sym (append-nil c.self.inside.calls.items) }

kept : (c : After-is_err) → c.is_err.result ≡ false → Comes (the_view c.self.inside) c.saturating_add-self-inside.result c.push.new.self.items (write_call (the_view c.self.inside) c.args.at c.args.from.now ∷ [])
kept c ample = record { sound = c.self.invariant; bound = omega (arith, c.self.ranges); rises = search rules; adds = grind (arith, common_steps) }

pub returns-then-is_err-clause-writes : goal.returns-then-is_err-clause-writes
returns-then-is_err-clause-writes c =
    let after = (goal.at.returns-then-is_err-clause-writes c).After-is_err in
    let same = sym (set-get_or c.self.inside.blocks.items c.args.at c.args.from.now) in
    elim c.then-is_err.branch [
      | then-is_err-via-then-is_err w ↦ rw (← c.self.view_is) (writes_none _ _ (lost after w.if-is_err.true) refl (here c.args.at))
      | then-is_err-via-else-is_err+then-contains w ↦ rw (← c.self.view_is) (writes_here _ _ c.args.at _ c.args.from.now (kept after w.if-is_err.false) same)
    ]

pub returns-then-is_err-clause-unsynced : goal.returns-then-is_err-clause-unsynced
returns-then-is_err-clause-unsynced c =
    let after = (goal.at.returns-then-is_err-clause-unsynced c).After-is_err in
    let same = sym (set-get_or c.self.inside.blocks.items c.args.at c.args.from.now) in
    let old = the_view c.self.inside in
    let new : MemDiskState = record old { clock = c.saturating_add-self-inside.result; calls = c.push.new.self.items } in
    elim c.then-is_err.branch [
      | then-is_err-via-then-is_err w ↦
          let full : old.room ≡ 0 = search rules in
          rw (← c.self.view_is) (inr (refl, (full, same_by_none old new (lost after w.if-is_err.true) refl)))
      | then-is_err-via-else-is_err+then-contains w ↦ rw (← c.self.view_is) (inl (unsynced_by_write old new c.args.at _ c.args.from.now (kept after w.if-is_err.false) same))
    ]

pub returns-then-is_err-clause-goes : goal.returns-then-is_err-clause-goes
returns-then-is_err-clause-goes c =
    let after = (goal.at.returns-then-is_err-clause-goes c).After-is_err in
    let same = sym (set-get_or c.self.inside.blocks.items c.args.at c.args.from.now) in
    elim c.then-is_err.branch [
      | then-is_err-via-then-is_err w ↦ rw (← c.self.view_is) (goes _ _ [] (follows_none _ _ (lost after w.if-is_err.true) refl))
      | then-is_err-via-else-is_err+then-contains w ↦ rw (← c.self.view_is) (goes _ _ _ (follows_write _ _ c.args.at _ c.args.from.now (kept after w.if-is_err.false) same))
    ]

pub returns-then-is_err-clause-only : goal.returns-then-is_err-clause-only
returns-then-is_err-clause-only c =
    elim c.then-is_err.branch [
      | then-is_err-via-then-is_err w ↦ search rules
      | then-is_err-via-else-is_err+then-contains w ↦ search rules
    ]

pub returns-clause-writes : goal.returns-clause-writes
returns-clause-writes c =
    let comes = kept (goal.at.returns-clause-writes c).After-is_err c.if-is_err.false in
    rw (← c.self.view_is) (writes_here _ _ c.args.at c.args.from.now c.args.from.now comes refl)

pub returns-clause-unsynced : goal.returns-clause-unsynced
returns-clause-unsynced c =
    let comes = kept (goal.at.returns-clause-unsynced c).After-is_err c.if-is_err.false in
    let old = the_view c.self.inside in
    let new : MemDiskState = record old {
      blocks = slice_set old.blocks c.args.at c.args.from.now;
      clock = c.saturating_add-self-inside.result;
      calls = c.push.new.self.items;
    } in
    rw (← c.self.view_is) (inl (unsynced_by_write old new c.args.at c.args.from.now c.args.from.now comes refl))

pub returns-clause-goes : goal.returns-clause-goes
returns-clause-goes c =
    let comes = kept (goal.at.returns-clause-goes c).After-is_err c.if-is_err.false in
    rw (← c.self.view_is) (goes _ _ _ (follows_write _ _ c.args.at c.args.from.now c.args.from.now comes refl))
