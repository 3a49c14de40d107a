use Rattle.std.proofs.Common.{◌≡◌, arith}
use Rattle.block_map.specs.Map.{IsUnheld, StandsAt}
use Rattle.file_layer.proofs.SoFar.{gives_all, gives_begins, gives_next, gives_skips, if_none, if_some}
use Rattle.file_layer.proofs.files.Files.give_each.Goals as goal

pub loop-at-init : goal.loop-at-init
loop-at-init c = record {
  so_far = gives_begins c.args.file.0 c.args.v c.args.end c.args.touched.now.marks c.args.self.now c.requires.layer c.requires.marks;
  inside = λ below. omega arith;
}

pub loop-at-preserved-then-is_some : goal.loop-at-preserved-then-is_some
loop-at-preserved-then-is_some c =
    let stands = if_some c.place.result (IsUnheld c.loop-at.self.map c.args.file.0 c.loop-at.at) (StandsAt c.loop-at.self.map c.args.file.0 c.loop-at.at) c.place.ensures (cc) in
    record {
      so_far = gives_skips c.args.file.0 c.args.v c.args.end c.loop-at.at stands.0 c.loop-at.touched.marks c.args.self.now c.loop-at.self c.requires.layer c.loop-at.invariant.so_far stands.1;
      inside = λ _. omega arith;
    }

pub give-place-requires-clause-unheld : goal.give-place-requires-clause-unheld
give-place-requires-clause-unheld c =
    if_none c.place.result (IsUnheld c.loop-at.self.map c.args.file.0 c.loop-at.at) (StandsAt c.loop-at.self.map c.args.file.0 c.loop-at.at) c.place.ensures (cc)

pub loop-at-preserved : goal.loop-at-preserved
loop-at-preserved c = record {
  so_far = gives_next c.args.file c.args.v c.args.end c.loop-at.at c.loop-at.touched.marks c.give-place.new.touched.marks c.args.self.now c.loop-at.self c.give-place.new.self c.requires.layer
      c.loop-at.invariant.so_far c.loop-at-test.true
      (if_none c.place.result (IsUnheld c.loop-at.self.map c.args.file.0 c.loop-at.at) (StandsAt c.loop-at.self.map c.args.file.0 c.loop-at.at) c.place.ensures (cc))
      c.requires.used c.requires.within c.requires.enough c.give-place.result c.give-place.ensures.given (c.give-place.new.touched ≡ c.loop-at.touched) c.give-place.ensures.marked;
  inside = λ _. omega arith;
}

pub returns-clause-shows : goal.returns-clause-shows
returns-clause-shows c =
    gives_all c.args.file.0 c.args.v c.args.end c.loop-at.at c.loop-at.touched.marks c.args.self.now c.loop-at.self c.loop-at.invariant.so_far c.loop-at-test.false c.loop-at.invariant.inside
