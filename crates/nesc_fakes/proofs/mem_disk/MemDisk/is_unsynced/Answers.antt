use Rattle.std.proofs.Common.{◌≡◌, List, [], Contains, take, ◌∙◌, subst}
use Rattle.std.specs.Bool.{Decides}
use Rattle.std.proofs.lemmas.List.{take_all}
use Rattle.nesc_fakes.specs.declared.mem_disk.Call.{Call}
use Rattle.nesc_fakes.specs.MemDisk.{unsynced}
use Rattle.nesc_fakes.proofs.Images.{none_in}
use Rattle.nesc_fakes.proofs.Leavable.{unsynced_at_call}
use Rattle.nesc_fakes.proofs.mem_disk.MemDisk.is_unsynced.Goals as goal

pub loop-call-init : goal.loop-call-init
loop-call-init c = (λ yes. absurd (cc), λ found. absurd (none_in c.args.at found))

pub loop-call-preserved : goal.loop-call-preserved
loop-call-preserved c =
    unsynced_at_call c.args.k c.args.at c.loop-call.call-index c.deref-call-items.result.now _ c.loop-call-test.true _ _ c.leaves_unsynced-unsynced.ensures c.loop-call.invariant

pub returns : goal.returns
returns c =
    let calls = c.deref-call-items.result.now in
    let all : take c.loop-call.call-index calls ≡ c.self.inside.calls.items = take_all c.loop-call.call-index calls c.loop-call-test.false ∙ c.deref-call-items.ensures.value in
    rw (← c.self.view_is) (subst (λ (cs : List Call). Decides c.loop-call.unsynced (Contains (unsynced c.args.k cs []) c.args.at)) all c.loop-call.invariant)
