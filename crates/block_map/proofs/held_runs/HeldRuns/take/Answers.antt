use Rattle.std.proofs.Common.{◌≡◌, ◌<◌, Some, length, slice_get, refl, sym, subst, arith, rules}
use Rattle.std.proofs.lemmas.Option.{slice_get_read}
use Rattle.block_map.specs.Runs.{AreHeldRuns, TakesOne}
use Rattle.block_map.proofs.Cutting.{room_without, sound_without, takes_without}
use Rattle.block_map.proofs.held_runs.HeldRuns.take.Goals as goal

pub cut-requires-clause-room : goal.cut-requires-clause-room
cut-requires-clause-room c three =
    let runs = c.args.self.now.runs.items in
    let k = c.in_ok-k.k in
    let held = c.index.result.now in
    let low : k < length runs = search rules in
    let stands : slice_get runs k ≡ Some held = slice_get_read runs (length runs) k held refl low c.index.ensures in
    let within = (c.in_ok-at.ensures).1 in
    let less = room_without runs k held c.args.v c.in_ok-at.at c.requires.sound stands within three in
    let room = c.requires.room in
    omega arith

pub returns-clause-taken : goal.returns-clause-taken
returns-clause-taken c =
    let runs = c.args.self.now.runs.items in
    let k = c.in_ok-k.k in
    let held = c.index.result.now in
    let v = c.args.v in
    let at = c.in_ok-at.at in
    let low : k < length runs = search rules in
    let stands : slice_get runs k ≡ Some held = slice_get_read runs (length runs) k held refl low c.index.ensures in
    let holds = c.in_ok-at.ensures in
    let takes : TakesOne runs held.file.0 v c.cut.new.self.runs.items =
    subst (TakesOne runs held.file.0 v) (sym c.cut.ensures.items) (takes_without runs k held v at c.requires.sound stands holds.1) in (
      record { k = k; held = held; stands = stands; file = holds.0; within = holds.1 },
      subst (λ n. TakesOne runs n v c.cut.new.self.runs.items) holds.0 takes,
    )

pub returns-clause-sound : goal.returns-clause-sound
returns-clause-sound c =
    let runs = c.args.self.now.runs.items in
    let k = c.in_ok-k.k in
    let held = c.index.result.now in
    let low : k < length runs = search rules in
    let stands : slice_get runs k ≡ Some held = slice_get_read runs (length runs) k held refl low c.index.ensures in
    subst AreHeldRuns (sym c.cut.ensures.items) (sound_without runs k held c.args.v c.in_ok-at.at c.requires.sound stands (c.in_ok-at.ensures).1)
