-- One block is given back in each turn, until none is left.
use Rattle.std.proofs.Common.{false, length, refl, ap, ◌∙◌, arith}
use Rattle.std.proofs.lemmas.List.{length-replicate}
use Rattle.file_layer.proofs.GivingBack.{gives_none, gives_more, gives_same, held_less, holds_none, marks_room}
use Rattle.file_layer.proofs.files.Files.give_back_from.Goals as goal

pub loop-init : goal.loop-init
loop-init c = record {
  fits = c.requires.fits;
  gives = gives_none c.args.file.0 c.args.from 512 c.args.self.now c.args.journal.now c.args.touched.now.marks c.requires.none;
  marks = ap length c.requires.none ∙ length-replicate 512 false;
  left = omega arith;
  turns = refl;
}

pub loop-preserved : goal.loop-preserved
loop-preserved c =
    let now = c.loop.invariant in
    let taken = c.if-not-give_back_last.ensures.taken in
    let less = held_less c.args.file.0 c.args.from taken.0 c.args.self.now c.loop.self c.give_back_last.new.self c.args.journal.now c.loop.journal c.give_back_last.new.journal c.loop.touched.marks c.give_back_last.new.touched.marks now.fits.layer now.marks now.gives taken.1 taken.2 in
    record {
      fits = c.if-not-give_back_last.ensures.fits;
      gives = gives_more c.args.file.0 c.args.from taken.0 c.args.self.now c.loop.self c.give_back_last.new.self c.args.journal.now c.loop.journal c.give_back_last.new.journal c.loop.touched.marks c.give_back_last.new.touched.marks now.fits.layer now.marks now.gives taken.1 taken.2;
      marks = marks_room c.args.file.0 c.args.from taken.0 c.args.self.now c.loop.self c.give_back_last.new.self c.args.journal.now c.loop.journal c.give_back_last.new.journal c.loop.touched.marks c.give_back_last.new.touched.marks now.fits.layer now.marks now.gives taken.1 taken.2;
      left = omega (arith, less, now.left);
      turns = omega (arith, now.turns);
    }

pub returns-then-not-give_back_last-clause-gives :
    goal.returns-then-not-give_back_last-clause-gives
returns-then-not-give_back_last-clause-gives c =
    let none = c.if-not-give_back_last.ensures.none in
    gives_same c.args.file.0 c.args.from c.args.self.now c.loop.self c.give_back_last.new.self c.args.journal.now c.loop.journal c.give_back_last.new.journal c.loop.touched.marks c.give_back_last.new.touched.marks none.1 none.2 none.3 c.loop.invariant.gives

pub returns-clause-gives : goal.returns-clause-gives
returns-clause-gives c = c.loop.invariant.gives

pub returns-clause-gone : goal.returns-clause-gone
returns-clause-gone c = holds_none c.loop.self.map c.args.file.0 c.args.from (omega (arith, c.loop.invariant.left, c.loop.invariant.turns, c.loop-test.false, c.held-end.ensures))
