use Rattle.std.proofs.Common.{◌≡◌, ℕ, ◌+◌, ◌<◌, List, Ok, Err, length, get_or, refl, sym, ◌∙◌, arith}
use Rattle.std.proofs.lemmas.List.FromFn.{get_or-map-range_with_len, get_or-range_with_len, length-map-range_with_len, length-range_with_len}
use Rattle.nesc_base.specs.declared.geometry.Geometry.{Geometry}
use Rattle.slot_layout.specs.Slots.{list_at}
use Rattle.slot_layout.specs.Targets.{blocks_needed, list_block}
use Rattle.host_journal.specs.Committing.{blocks_of_list, list_places}
use Rattle.host_journal.proofs.Writing.{WritesOut-all, WritesOut-failed, WritesOut-more}
use Rattle.host_journal.proofs.commit.write_list.Goals as goal

-- there is a block for each place of the list
many : (geometry : Geometry) (targets : List ℕ) → length (list_places geometry targets) ≡ blocks_needed (length targets)
many geometry targets = length-range_with_len (list_at geometry 1) (blocks_needed (length targets))

paired : (geometry : Geometry) (targets : List ℕ) → length (list_places geometry targets) ≡ length (blocks_of_list targets)
paired geometry targets = many geometry targets ∙ sym (length-map-range_with_len (list_block targets) 0 (blocks_needed (length targets)))

place_at : (geometry : Geometry) (targets : List ℕ) (b at : ℕ) → b < blocks_needed (length targets) → at ≡ list_at geometry 1 + b → get_or (list_places geometry targets) b at ≡ at
place_at geometry targets b at below is = get_or-range_with_len (list_at geometry 1) (blocks_needed (length targets)) b at below ∙ sym is

pub write-requires : goal.write-requires
write-requires g c =
    let size = c.loop-b.invariant.writes_out.goes.same_size in
    let room = c.requires.targets.room in
    omega arith

pub returns-in_err-write-clause-writes_out : goal.returns-in_err-write-clause-writes_out
returns-in_err-write-clause-writes_out g c =
    let geometry = c.args.geometry in
    let targets = c.args.targets.now in
    let b = c.loop-b.b in
    let below : b < blocks_needed (length targets) = omega arith in
    let call = c.in_err-write.ensures in
    WritesOut-failed _ _ _ (list_places geometry targets) (blocks_of_list targets) b (paired geometry targets) (c.slot_at.result + 1 + b) c.list_block.result (Err c.in_err-write.field-0.0) _
    (omega (arith, below, many geometry targets)) (place_at geometry targets b (c.slot_at.result + 1 + b) below (omega arith)) refl c.from_residual.ensures.0 c.loop-b.invariant.writes_out
    (record { goes = call.goes; written = call.written; writes = call.writes; cause = call.cause })

pub loop-b-preserved : goal.loop-b-preserved
loop-b-preserved g c =
    let geometry = c.args.geometry in
    let targets = c.args.targets.now in
    let b = c.loop-b.b in
    let below : b < blocks_needed (length targets) = omega arith in
    let call = c.in_ok-write.ensures in
    let block : get_or (blocks_of_list targets) b c.list_block.result ≡ c.list_block.result =
    get_or-map-range_with_len (list_block targets) 0 (blocks_needed (length targets)) b b c.list_block.result below (omega arith) ∙ sym {b = list_block targets b} c.list_block.ensures in
    record {
      writes_out = WritesOut-more _ _ _ (list_places geometry targets) (blocks_of_list targets) b (paired geometry targets) (c.slot_at.result + 1 + b) c.list_block.result (Ok tt)
          (omega (arith, below, many geometry targets)) (place_at geometry targets b (c.slot_at.result + 1 + b) below (omega arith)) block c.loop-b.invariant.writes_out
          (record { goes = call.goes; written = call.written; writes = call.writes; cause = call.cause });
      keeps = g.met.D.Disk.keeps_on _ _ _ c.loop-b.invariant.keeps call.keeps;
    }

pub returns-clause-writes_out : goal.returns-clause-writes_out
returns-clause-writes_out g c =
    let geometry = c.args.geometry in
    let targets = c.args.targets.now in
    WritesOut-all _ _ (list_places geometry targets) (blocks_of_list targets) c.loop-b.b (paired geometry targets) (omega (arith, many geometry targets)) c.loop-b.invariant.writes_out
