use Rattle.std.proofs.Common.{◌≡◌, ◌<◌, ◌≤◌, length, slice_get, sym, ap, ◌∙◌, arith, true}
use Rattle.std.proofs.lemmas.List.{length-set}
use Rattle.nesc_base.specs.Disk.{Known}
use Rattle.nesc_base.specs.Files.{file_at}
use Rattle.nesc_base.proofs.DiskCalls.{goes_on, unchanged_on}
use Rattle.file_model.specs.Files.{read_from}
use Rattle.file_layer.proofs.ReadBlocks.{files_rest_on, kept_on, read_all, read_more}
use Rattle.file_layer.proofs.Spaces.{is_past, is_within}
use Rattle.file_layer.proofs.files.Files.get.Goals as goal

pub returns-then-length-v-clause-answers : goal.returns-then-length-v-clause-answers
returns-then-length-v-clause-answers g c set places knows =
    is_past set c.args.file.0 c.in_ok-length.length c.args.v (length c.args.into.now) (sym (c.length.ensures.answers set places knows) ∙ c.in_ok-length.ensures.ok_part)
    (omega (arith, c.if-length-v.true, c.len.ensures.count))

pub returns-in_default-clause-answers : goal.returns-in_default-clause-answers
returns-in_default-clause-answers g c set places knows =
    is_within set c.args.file.0 c.in_ok-length.length c.args.v (length c.args.into.now) (sym (c.length.ensures.answers set places knows) ∙ c.in_ok-length.ensures.ok_part)
    (omega (arith, c.if-length-v.false, c.len.ensures.count))

pub loop-k-preserved : goal.loop-k-preserved
loop-k-preserved g c =
    let first : Known = g.D.Disk.known c.args.disk.now in
    let old : Known = g.D.Disk.known c.loop-k.disk in
    let new : Known = g.D.Disk.known c.read_block.new.disk in
    let before = c.loop-k.invariant in
    let call = c.read_block.ensures in
    record {
      rests = files_rest_on c.args.self.now c.args.journal.now old new call.goes call.unchanged before.rests;
      whole = ap length c.set.ensures ∙ length-set c.loop-k.into c.loop-k.k c.in-Ok.block ∙ before.whole;
      blocks = λ tells kept set places is shows j below.
          let told : old.tells ≡ true = before.goes.still_tells ∙ tells in
          let within : c.loop-k.k < length c.loop-k.into = omega (arith, c.loop-k-test.true, c.len-k-end.ensures.count, before.whole) in
          let read_now = c.in-Ok.ensures.block told kept set places (kept_on c.args.journal.now.geometry first old kept tells before.unchanged is) shows in
          ap (λ blocks. slice_get blocks j) c.set.ensures
          ∙ read_more (file_at set c.args.file.0) c.args.v c.loop-k.k c.loop-k.into c.in-Ok.block within (before.blocks tells kept set places is shows) read_now j below;
      never_falls = omega (arith, before.never_falls, call.cause.never_falls);
      unchanged = unchanged_on first old new before.goes before.unchanged call.unchanged;
      goes = goes_on first old new before.goes call.goes;
      keeps = g.met.D.Disk.keeps_on _ _ _ before.keeps call.keeps;
    }

pub returns-clause-answers : goal.returns-clause-answers
returns-clause-answers g c set places knows =
    is_within set c.args.file.0 c.in_ok-length.length c.args.v (length c.args.into.now) (sym (c.length.ensures.answers set places knows) ∙ c.in_ok-length.ensures.ok_part)
    (omega (arith, c.if-length-v.false, c.len.ensures.count))

pub returns-clause-blocks : goal.returns-clause-blocks
returns-clause-blocks g c tells kept set places is shows =
    let all : length c.loop-k.into ≤ c.loop-k.k = omega (arith, c.loop-k-test.false, c.len-k-end.ensures.count, c.loop-k.invariant.whole) in
    read_all (file_at set c.args.file.0) c.args.v c.loop-k.k c.loop-k.into all (c.loop-k.invariant.blocks tells kept set places is shows)
    ∙ ap (read_from (file_at set c.args.file.0) c.args.v) c.loop-k.invariant.whole
