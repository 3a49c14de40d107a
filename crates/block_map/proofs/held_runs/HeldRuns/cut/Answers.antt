use Rattle.std.proofs.Common.{◌≡◌, ◌+◌, ◌-◌, set, ap, ◌∙◌, arith, rules}
use Rattle.std.specs.List.{insert}
use Rattle.std.proofs.lemmas.List.{length-set}
use Rattle.std.proofs.lemmas.Option.{get_or_from_slice_get, slice_get_within}
use Rattle.block_map.specs.declared.held_runs.HeldRun.{HeldRun}
use Rattle.block_map.specs.Runs.{parts_around}
use Rattle.block_map.proofs.Cutting.{both_parts, front_of, only_front, only_rest, rest_of}
use Rattle.block_map.proofs.Parts.{insert_parts, set_parts}
use Rattle.block_map.proofs.held_runs.HeldRuns.cut.Goals as goal

pub index_mut-requires-then-before-eq0-2 : goal.index_mut-requires-then-before-eq0-2
index_mut-requires-then-before-eq0-2 c =
    let within = slice_get_within c.args.self.now.runs.items c.args.k c.args.held c.requires.stands in
    omega (arith, c.args.self.now.runs.ok.0)

pub index_mut-requires-else-before-eq0-2 : goal.index_mut-requires-else-before-eq0-2
index_mut-requires-else-before-eq0-2 c =
    let within = slice_get_within c.args.self.now.runs.items c.args.k c.args.held c.requires.stands in
    omega (arith, c.args.self.now.runs.ok.0)

pub overflow_add-k : goal.overflow_add-k
overflow_add-k c =
    let within = slice_get_within c.args.self.now.runs.items c.args.k c.args.held c.requires.stands in
    let room = c.args.self.now.runs.ok in
    search rules

pub insert-requires-clause-within : goal.insert-requires-clause-within
insert-requires-clause-within c =
    let within = slice_get_within c.args.self.now.runs.items c.args.k c.args.held c.requires.stands in
    omega (arith, length-set {A = HeldRun})

pub returns-else-before-eq0-clause-items : goal.returns-else-before-eq0-clause-items
returns-else-before-eq0-clause-items c =
    let old = c.args.self.now.runs.items in
    let k = c.args.k in
    let held = c.args.held in
    let v = c.args.v in
    let read = c.index_mut.result.now in
    let same : read ≡ held = c.index_mut.ensures.value ∙ get_or_from_slice_get old k held read c.requires.stands in
    ap (λ (r : HeldRun). set old k (record { file = r.file; run = record { first = r.run.first; count = v - held.run.first; place = r.run.place } })) same
    ∙ set_parts old (parts_around held v) k (front_of held v) (slice_get_within old k held c.requires.stands)
    (only_front held v (let some = c.if-before-eq0.false in omega arith) (let none = c.if-behind-eq0.true in omega arith))

pub returns-then-before-eq0-2-clause-items : goal.returns-then-before-eq0-2-clause-items
returns-then-before-eq0-2-clause-items c =
    let old = c.args.self.now.runs.items in
    let k = c.args.k in
    let held = c.args.held in
    let v = c.args.v in
    let rest = rest_of held v c.args.at in
    let read = c.index_mut-then-before-eq0-2.result.now in
    let same : read ≡ held = c.index_mut-then-before-eq0-2.ensures.value ∙ get_or_from_slice_get old k held read c.requires.stands in
    ap (λ (r : HeldRun). set old k (record { file = r.file; run = rest.run })) same
    ∙ set_parts old (parts_around held v) k rest (slice_get_within old k held c.requires.stands)
    (only_rest held v c.args.at (let none = c.if-before-eq0-2.true in omega arith) (let some = c.if-behind-eq0.false in omega arith) c.requires.within.place)

pub returns-else-before-eq0-2-clause-items : goal.returns-else-before-eq0-2-clause-items
returns-else-before-eq0-2-clause-items c =
    let old = c.args.self.now.runs.items in
    let k = c.args.k in
    let held = c.args.held in
    let v = c.args.v in
    let rest = rest_of held v c.args.at in
    let read = c.index_mut-else-before-eq0-2.result.now in
    let same : read ≡ held = c.index_mut-else-before-eq0-2.ensures.value ∙ get_or_from_slice_get old k held read c.requires.stands in
    c.insert.ensures.items
    ∙ ap (λ (r : HeldRun). insert (set old k (record { file = r.file; run = record { first = r.run.first; count = v - held.run.first; place = r.run.place } })) (k + 1) rest) same
    ∙ insert_parts old (parts_around held v) k (front_of held v) rest (slice_get_within old k held c.requires.stands)
    (both_parts held v c.args.at (let some = c.if-before-eq0-2.false in omega arith) (let more = c.if-behind-eq0.false in omega arith) c.requires.within.place)
