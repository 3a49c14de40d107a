use Rattle.std.proofs.Common.{ap, arith}
use Rattle.block_map.specs.Map.{IsUnheld, StandsAt}
use Rattle.file_layer.specs.declared.staging.Touched.{Touched}
use Rattle.file_layer.proofs.SoFar.{count_all, count_full, holds_begins, holds_next, holds_skips, if_none, if_some, room_there, shows_all, shows_full}
use Rattle.file_layer.proofs.files.Files.hold_each.Goals as goal

pub loop-at-init : goal.loop-at-init
loop-at-init c = record {
  so_far = holds_begins c.args.file.0 c.args.v c.args.touched.now.marks c.args.self.now c.args.journal.now c.requires.fits.layer c.requires.fits.sound c.requires.marks;
  inside = λ below. omega arith;
}

pub loop-at-preserved-then-is_some : goal.loop-at-preserved-then-is_some
loop-at-preserved-then-is_some c =
    let stands = if_some c.place.result (IsUnheld c.loop-at.self.map c.args.file.0 c.loop-at.at) (StandsAt c.loop-at.self.map c.args.file.0 c.loop-at.at) c.place.ensures (cc) in
    record {
      so_far = holds_skips c.args.file.0 c.args.v c.loop-at.at c.loop-at.count stands.0 c.loop-at.touched.marks c.args.self.now c.loop-at.self c.args.journal.now c.loop-at.journal c.requires.fits.layer c.loop-at.invariant.so_far stands.1;
      inside = λ _. omega arith;
    }

pub give-requires-clause-unheld : goal.give-requires-clause-unheld
give-requires-clause-unheld c =
    if_none c.place.result (IsUnheld c.loop-at.self.map c.args.file.0 c.loop-at.at) (StandsAt c.loop-at.self.map c.args.file.0 c.loop-at.at) c.place.ensures (cc)

pub returns-in_default-clause-count : goal.returns-in_default-clause-count
returns-in_default-clause-count c =
    count_full c.args.file.0 c.args.v c.loop-at.at c.args.end c.loop-at.count c.loop-at.touched.marks c.args.self.now c.loop-at.self c.args.journal.now c.loop-at.journal c.requires.fits.layer c.loop-at.invariant.so_far
    c.loop-at-test.true
    (if_none c.place.result (IsUnheld c.loop-at.self.map c.args.file.0 c.loop-at.at) (StandsAt c.loop-at.self.map c.args.file.0 c.loop-at.at) c.place.ensures (cc))
    c.in_default.ensures.given.0

pub returns-in_default-clause-shows : goal.returns-in_default-clause-shows
returns-in_default-clause-shows c =
    shows_full c.args.file.0 c.args.v c.loop-at.at c.args.end c.loop-at.count c.loop-at.touched.marks c.args.self.now c.loop-at.self c.args.journal.now c.loop-at.journal c.requires.fits.layer c.loop-at.invariant.so_far
    c.give.new.touched.marks c.give.new.self c.loop-at-test.true c.in_default.ensures.given.1 (ap (λ (t : Touched). t.marks) c.in_default.ensures.marked)

pub stage-requires-clause-room : goal.stage-requires-clause-room
stage-requires-clause-room c _ =
    room_there c.args.file c.args.v c.loop-at.at c.args.end c.loop-at.count c.in-Some.place c.loop-at.touched.marks c.args.self.now c.loop-at.self c.args.journal.now c.loop-at.journal c.requires.fits c.loop-at.invariant.so_far
    c.in-Some.ensures.given.0 c.loop-at-test.true
    (if_none c.place.result (IsUnheld c.loop-at.self.map c.args.file.0 c.loop-at.at) (StandsAt c.loop-at.self.map c.args.file.0 c.loop-at.at) c.place.ensures (cc))
    c.requires.room

pub loop-at-preserved : goal.loop-at-preserved
loop-at-preserved c = record {
  so_far = holds_next c.args.file c.args.v c.loop-at.at c.args.end c.loop-at.count c.in-Some.place c.loop-at.touched.marks c.args.self.now c.loop-at.self c.args.journal.now c.loop-at.journal c.requires.fits
      c.loop-at.invariant.so_far c.in-Some.ensures.given.0 c.give.new.touched.marks c.give.new.self c.stage.new.self c.zero.result c.loop-at-test.true
      (if_none c.place.result (IsUnheld c.loop-at.self.map c.args.file.0 c.loop-at.at) (StandsAt c.loop-at.self.map c.args.file.0 c.loop-at.at) c.place.ensures (cc))
      c.requires.used c.requires.within c.requires.room c.in-Some.ensures.given.1 c.in-Some.ensures.marked c.stage.ensures c.zero.ensures;
  inside = λ _. omega arith;
}

pub returns-clause-count : goal.returns-clause-count
returns-clause-count c =
    count_all c.args.file.0 c.args.v c.loop-at.at c.args.end c.loop-at.count c.loop-at.touched.marks c.args.self.now c.loop-at.self c.args.journal.now c.loop-at.journal c.requires.fits.layer c.loop-at.invariant.so_far
    c.loop-at-test.false c.loop-at.invariant.inside

pub returns-clause-shows : goal.returns-clause-shows
returns-clause-shows c =
    shows_all c.args.file.0 c.args.v c.loop-at.at c.args.end c.loop-at.count c.loop-at.touched.marks c.args.self.now c.loop-at.self c.args.journal.now c.loop-at.journal c.requires.fits.layer c.loop-at.invariant.so_far
    c.loop-at-test.false c.loop-at.invariant.inside
