use Rattle.std.proofs.Common.{◌≡◌, ◌+◌, ◌-◌, ◌<◌, ◌≤◌, ℕ, List, ◌++◌, Some, length, drop, slice_get, take, refl, sym, ap, ◌∙◌, subst, arith}
use Rattle.std.proofs.lemmas.List.{length-set, length-take-le, take_all}
use Rattle.std.proofs.lemmas.Option.{slice_get_read}
use Rattle.nesc_base.specs.declared.block.Block.{Block}
use Rattle.nesc_base.specs.declared.geometry.Geometry.{Geometry}
use Rattle.nesc_base.specs.Geometry.{list_blocks, slot_room, table_at}
use Rattle.slot_layout.specs.Slots.{blocks_from, list_at, list_of}
use Rattle.slot_layout.specs.Targets.{AreTargets, IsListOf}
use Rattle.slot_layout.proofs.Alike.{slot_below}
use Rattle.host_journal.proofs.Stored.{slice_get-take}
use Rattle.host_journal.proofs.Sources.{low_more, take-written, taken_all, taken_more, target_below, target_from}
use Rattle.host_journal.proofs.replay.Replay.judge_slot.Goals as goal

pub loop-i-preserved : goal.loop-i-preserved
loop-i-preserved g c =
    let geometry : Geometry = c.args.self.now.geometry in
    let before : List ℕ = c.args.self.now.targets.items in
    let into : List ℕ = c.list_of.new.into in
    let held : List ℕ = take c.args.self.now.targets.len (into ++ drop (length into) before) in
    let whole : held ≡ into = take-written into before c.args.self.now.targets.len (c.list_of.auto.into ∙ ap length c.deref_mut-2.ensures.value) (omega (arith, c.args.self.now.targets.ok.0)) in
    let count : ℕ = c.in-Some.count in
    let targets : List ℕ = take count held in
    let i : ℕ = c.loop-i.i in
    let target : ℕ = c.index-target.result.now in
    let place : ℕ = target - c.table_at-table_at.result in
    let source : ℕ = c.slot_at-list_at.result + 1 + c.list_blocks.result + i in
    let sources : List ℕ = c.loop-i.self.sources.items in
    let few : count ≤ length held = omega (arith, c.in-Some.ensures.0, ap length whole) in
    let items : c.loop-i.self.targets.items ≡ held = ap (λ v. v.items) c.loop-i.invariant.targets in
    let within : i < length held = omega (arith, few) in
    let is : slice_get targets i ≡ Some target = slice_get-take count held i (omega arith) ∙ slice_get_read held (length held) i target refl within (rw items at c.index-target.ensures) in
    let good : AreTargets geometry targets = subst (λ (ts : List ℕ). AreTargets geometry (take count ts)) (sym whole) c.in-Some.ensures.1.good in
    let from = target_from geometry targets i target good is in
    let below = target_below geometry targets i target good is in
    let room : i < slot_room geometry = omega (arith, good.room, length-take-le count held few) in
    let low : source < table_at geometry = omega (arith, room, slot_below geometry c.args.k c.requires.some c.requires.within, c.slot_at-list_at.ensures, c.list_blocks.ensures) in
    record {
      geometry = c.loop-i.invariant.geometry;
      list = c.loop-i.invariant.list;
      targets = c.loop-i.invariant.targets;
      long = length-set sources place source ∙ c.loop-i.invariant.long;
      low = low_more geometry sources place source (omega (arith, from, below, c.loop-i.invariant.long, c.requires.ready.sources, c.table_at-table_at.ensures)) c.loop-i.invariant.low low;
      taken = taken_more geometry c.args.k i (i + 1) target source place targets c.args.self.now.sources.items sources c.requires.some c.requires.within refl is
          (omega (arith, c.slot_at-list_at.ensures, c.list_blocks.ensures)) (omega (arith, c.table_at-table_at.ensures)) (c.loop-i.invariant.long ∙ c.requires.ready.sources) c.loop-i.invariant.taken;
    }

pub returns-clause-judged : goal.returns-clause-judged
returns-clause-judged g c tells opened so_far =
    let geometry : Geometry = c.args.self.now.geometry in
    let image : List Block = (g.D.Disk.known c.args.disk.now).contents in
    let k : ℕ = c.args.k in
    let before : List ℕ = c.args.self.now.targets.items in
    let into : List ℕ = c.list_of.new.into in
    let held : List ℕ = take c.args.self.now.targets.len (into ++ drop (length into) before) in
    let whole : held ≡ into = take-written into before c.args.self.now.targets.len (c.list_of.auto.into ∙ ap length c.deref_mut-2.ensures.value) (omega (arith, c.args.self.now.targets.ok.0)) in
    let count : ℕ = c.in-Some.count in
    let targets : List ℕ = take count held in
    let few : count ≤ length held = omega (arith, c.in-Some.ensures.0, ap length whole) in
    let at : c.slot_at-list_at.result + 1 ≡ list_at geometry k = omega (arith, c.slot_at-list_at.ensures) in
    let many : length c.deref_mut.result.now ≡ list_blocks geometry = ap length c.deref_mut.ensures.value ∙ c.requires.ready.list in
    let read : c.deref.result.now ≡ list_of geometry image k =
    c.deref.ensures.value
    ∙ take-written c.read_list.new.list c.args.self.now.list.items c.args.self.now.list.len (c.read_list.auto.list ∙ ap length c.deref_mut.ensures.value) (omega (arith, c.args.self.now.list.ok.0))
    ∙ c.in_ok-read_list.ensures.list tells ∙ ap (λ n. blocks_from image n (length c.deref_mut.result.now)) at ∙ ap (blocks_from image (list_at geometry k)) many in
    let list : IsListOf geometry (list_of geometry image k) targets = subst (λ (blocks : List Block). IsListOf geometry blocks targets) read
    (subst (λ (ts : List ℕ). IsListOf geometry c.deref.result.now (take count ts)) (sym whole) c.in-Some.ensures.1) in
    let all : take c.loop-i.i targets ≡ targets = take_all c.loop-i.i targets (omega (arith, length-take-le count held few)) in
    taken_all geometry image k c.loop-i.i targets c.args.self.now.sources.items c.loop-i.self.sources.items c.requires.some (omega (arith, g.met.D.Disk.reads_whole c.args.disk.now tells, c.requires.enough))
    opened list all c.loop-i.invariant.taken so_far
