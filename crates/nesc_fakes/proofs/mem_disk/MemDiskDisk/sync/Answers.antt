use Rattle.std.proofs.Common.{◌≡◌, true, false, not, [], ◌∷◌, sym, ◌∙◌, rules, refl, arith}
use Rattle.std.proofs.lemmas.List.{append-nil}
use Rattle.nesc_base.specs.Count.{risen}
use Rattle.nesc_base.specs.Disk.{nowhere}
use Rattle.nesc_fakes.specs.MemDisk.{MemDiskState}
use Rattle.nesc_fakes.specs.contracts.mem_disk.MemDisk.{the_view}
use Rattle.nesc_fakes.specs.declared.mem_disk.Call.TheVariants.{Sync}
use Rattle.nesc_fakes.proofs.Images.{Comes, goes, follows_none, writes_none, same_by_none, follows_sync, writes_nowhere, settled_by_sync, same_by_sync}
use Rattle.nesc_fakes.proofs.mem_disk.MemDiskDisk.sync.Goals as goal
use Rattle.nesc_fakes.proofs.mem_disk.MemDiskDisk.sync.Goals.{After-is_err, then-is_err-via-then-is_err, then-is_err-via-else-is_err+then-not-done}

-- what came of the list of calls: it is as it was, or has the sync behind it
lost : (c : After-is_err) → c.is_err.result ≡ true → Comes (the_view c.self.inside) c.saturating_add-self-inside.result c.push.new.self.items []
lost c full =
    let same : c.push.new.self.items ≡ c.self.inside.calls.items = search rules in
    record { sound = c.self.invariant; bound = omega (arith, c.self.ranges); rises = search rules; adds = same ∙ sym (append-nil c.self.inside.calls.items) }

kept : (c : After-is_err) → c.is_err.result ≡ false → Comes (the_view c.self.inside) c.saturating_add-self-inside.result c.push.new.self.items (Sync (risen c.self.inside.clock) (not c.contains-done.result) ∷ [])
kept c ample = record { sound = c.self.invariant; bound = omega (arith, c.self.ranges); rises = search rules; adds = search rules }

pub returns-then-is_err-clause-writes : goal.returns-then-is_err-clause-writes
returns-then-is_err-clause-writes c =
    let after = (goal.at.returns-then-is_err-clause-writes c).After-is_err in
    elim c.then-is_err.branch [
      | then-is_err-via-then-is_err w ↦ rw (← c.self.view_is) (writes_none _ _ (lost after w.if-is_err.true) refl nowhere)
      | then-is_err-via-else-is_err+then-not-done w ↦ rw (← c.self.view_is) (writes_nowhere _ _ _ (kept after w.if-is_err.false) refl)
    ]

pub returns-then-is_err-clause-unsynced : goal.returns-then-is_err-clause-unsynced
returns-then-is_err-clause-unsynced c =
    let after = (goal.at.returns-then-is_err-clause-unsynced c).After-is_err in
    let old = the_view c.self.inside in
    let new : MemDiskState = record old { clock = c.saturating_add-self-inside.result; calls = c.push.new.self.items } in
    elim c.then-is_err.branch [
      | then-is_err-via-then-is_err w ↦ rw (← c.self.view_is) (same_by_none old new (lost after w.if-is_err.true) refl)
      | then-is_err-via-else-is_err+then-not-done w ↦
          let undone : not c.contains-done.result ≡ false = search rules in
          rw (← c.self.view_is) (same_by_sync old new (not c.contains-done.result) (kept after w.if-is_err.false) refl undone)
    ]

pub returns-then-is_err-clause-goes : goal.returns-then-is_err-clause-goes
returns-then-is_err-clause-goes c =
    let after = (goal.at.returns-then-is_err-clause-goes c).After-is_err in
    elim c.then-is_err.branch [
      | then-is_err-via-then-is_err w ↦ rw (← c.self.view_is) (goes _ _ [] (follows_none _ _ (lost after w.if-is_err.true) refl))
      | then-is_err-via-else-is_err+then-not-done w ↦ rw (← c.self.view_is) (goes _ _ _ (follows_sync _ _ _ (kept after w.if-is_err.false) refl))
    ]

pub returns-then-is_err-clause-only : goal.returns-then-is_err-clause-only
returns-then-is_err-clause-only c =
    elim c.then-is_err.branch [
      | then-is_err-via-then-is_err w ↦ search rules
      | then-is_err-via-else-is_err+then-not-done w ↦ search rules
    ]

pub returns-clause-settled : goal.returns-clause-settled
returns-clause-settled c =
    let comes = kept (goal.at.returns-clause-settled c).After-is_err c.if-is_err.false in
    let old = the_view c.self.inside in
    let new : MemDiskState = record old { clock = c.saturating_add-self-inside.result; calls = c.push.new.self.items } in
    let done : not c.contains-done.result ≡ true = search rules in
    settled_by_sync old new (not c.contains-done.result) comes refl done

pub returns-clause-writes : goal.returns-clause-writes
returns-clause-writes c =
    rw (← c.self.view_is) (writes_nowhere _ _ _ (kept (goal.at.returns-clause-writes c).After-is_err c.if-is_err.false) refl)

pub returns-clause-goes : goal.returns-clause-goes
returns-clause-goes c =
    rw (← c.self.view_is) (goes _ _ _ (follows_sync _ _ _ (kept (goal.at.returns-clause-goes c).After-is_err c.if-is_err.false) refl))
