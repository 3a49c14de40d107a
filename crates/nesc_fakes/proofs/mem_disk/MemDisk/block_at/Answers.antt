use Rattle.std.proofs.Common.{◌<◌, List, length, slice_get, refl, sym, ◌∙◌, ap}
use Rattle.std.proofs.lemmas.List.{drop_all}
use Rattle.std.proofs.lemmas.Option.{slice_get_read}
use Rattle.nesc_fakes.specs.declared.mem_disk.Call.{Call}
use Rattle.nesc_fakes.specs.MemDisk.{taken_back}
use Rattle.nesc_fakes.specs.contracts.mem_disk.MemDisk.{the_view}
use Rattle.nesc_fakes.proofs.Leavable.{same_at_call, found_at_call, contents_at_past}
use Rattle.nesc_fakes.proofs.mem_disk.MemDisk.block_at.Goals as goal

pub loop-call-preserved : goal.loop-call-preserved
loop-call-preserved c =
    λ blocks. c.loop-call.invariant blocks ∙ same_at_call c.args.k c.args.at c.loop-call.call-index c.deref-call-items.result.now _ c.loop-call-test.true c.in_default.ensures blocks

pub returns-in-Some : goal.returns-in-Some
returns-in-Some c =
    let blocks = c.self.inside.blocks.items in
    let calls = c.deref-call-items.result.now in
    let inside : c.args.at < length blocks = rw (← c.self.view_is) at c.requires in
    rw (← c.self.view_is, contents_at_past (the_view c.self.inside) c.args.k c.if-k-self.false)
    (ap (λ (cs : List Call). slice_get (taken_back c.args.k cs blocks) c.args.at) (sym c.deref-call-items.ensures.value)
    ∙ c.loop-call.invariant blocks
    ∙ found_at_call c.args.k c.args.at c.loop-call.call-index calls _ c.loop-call-test.true c.in-Some.before c.in-Some.ensures blocks inside)

pub returns : goal.returns
returns c =
    let blocks = c.self.inside.blocks.items in
    let calls = c.deref-call-items.result.now in
    let inside : c.args.at < length blocks = rw (← c.self.view_is) at c.requires in
    rw (← c.self.view_is, contents_at_past (the_view c.self.inside) c.args.k c.if-k-self.false)
    (ap (λ (cs : List Call). slice_get (taken_back c.args.k cs blocks) c.args.at) (sym c.deref-call-items.ensures.value)
    ∙ c.loop-call.invariant blocks
    ∙ ap (λ (cs : List Call). slice_get (taken_back c.args.k cs blocks) c.args.at) (drop_all c.loop-call.call-index calls c.loop-call-test.false)
    ∙ slice_get_read blocks (length blocks) c.args.at c.index-now.result.now refl inside c.index-now.ensures)
