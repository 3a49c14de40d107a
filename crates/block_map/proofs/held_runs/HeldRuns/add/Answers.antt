use Rattle.std.proofs.Common.{◌-◌, sym, subst, arith, refl}
use Rattle.block_map.specs.Runs.{AddsOne, AreHeldRuns}
use Rattle.block_map.proofs.Joining.{PutsIn, adds_in, sound_in}
use Rattle.block_map.proofs.RunLists.{length_within}
use Rattle.block_map.proofs.held_runs.HeldRuns.add.Goals as goal

pub put_over-requires-clause-room : goal.put_over-requires-clause-room
put_over-requires-clause-room c none =
    let few = length_within c.args.self.now.runs.items c.requires.sound.each in
    let room = c.requires.room in
    omega arith

-- the run that is put over what the block joins
puts : (c : goal.After-put_over) → PutsIn c.args.self.now.runs.items c.position-k.result c.args.file.0 c.args.v c.args.at c.begin-from.result.0 c.end-to.result.0
    (record { file = c.args.file; run = record { first = c.begin-from.result.1; count = c.end-to.result.1 - c.begin-from.result.1; place = c.begin-from.result.2 } })
    c.begin-from.result.1 c.begin-from.result.2 c.end-to.result.1
puts c = record {
  precede = record { are = c.requires.sound; within = c.position-k.ensures.within; by = c.position-k.ensures.by; unheld = c.requires.unheld };
  past = c.position-k.ensures.past;
  filed = c.requires.filed;
  placed = c.requires.placed;
  begin = c.begin-from.ensures;
  end_is = c.end-to.ensures;
  file = refl;
  begins = refl;
  stands = refl;
  count = refl;
}

pub returns-clause-sound : goal.returns-clause-sound
returns-clause-sound c = subst AreHeldRuns (sym c.put_over.ensures.items) (sound_in _ _ _ _ _ _ _ _ _ _ _ (puts c))

pub returns-clause-adds : goal.returns-clause-adds
returns-clause-adds c = subst (AddsOne c.args.self.now.runs.items c.args.file.0 c.args.v c.args.at) (sym c.put_over.ensures.items) (adds_in _ _ _ _ _ _ _ _ _ _ _ (puts c))
