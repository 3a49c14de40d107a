use Rattle.std.proofs.Common.{◌≡◌, ◌+◌, ◌-◌, ◌<◌, ◌∙◌, ap, arith, length, sym, take}
use Rattle.std.specs.List.{flat_map, range_with_len}
use Rattle.std.proofs.lemmas.List.FromFn.{length-range_with_len}
use Rattle.nesc_requests.specs.Machine.{most_functions}
use Rattle.text_kit.proofs.WritesLemmas.{Writes-nothing, Writes-same}
use Rattle.trace_text.specs.Behind.{drop_of}
use Rattle.trace_text.proofs.TraceLemmas.{Writes-broken, Writes-more, drops-each, function-at}
use Rattle.trace_text.proofs.trace.write_drops.Goals as goal

pub returns-then-bits-eq0 : goal.returns-then-bits-eq0
returns-then-bits-eq0 g c =
    rw c.if-bits-eq0.true (Writes-same _ _ _ _ _ _ _ _ (sym (drops-each 0)) (Writes-nothing g.K.Sink.taken g.K.Sink.faults g.K.Sink.lent c.args.sink.now))

pub returns-in_err-write_drop : goal.returns-in_err-write_drop
returns-in_err-write_drop g c =
    let bits = c.args.bits in
    let functions = range_with_len 1 most_functions in
    let f = c.loop-f.f in
    let within : f - 1 < length functions = omega (arith, c.loop-f-test.true, length-range_with_len 1 most_functions) in
    let here = function-at most_functions f c.loop-f.auto.f (omega (arith, c.loop-f-test.true)) in
    Writes-same _ _ _ _ _ _ _ _ (sym (drops-each bits))
    (Writes-broken (drop_of bits) functions (f - 1) f within here c.loop-f.invariant c.from_residual.result c.from_residual.ensures.0 c.in_err-write_drop.ensures)

pub loop-f-preserved : goal.loop-f-preserved
loop-f-preserved g c =
    let bits = c.args.bits in
    let functions = range_with_len 1 most_functions in
    let f = c.loop-f.f in
    let within : f - 1 < length functions = omega (arith, c.loop-f-test.true, length-range_with_len 1 most_functions) in
    let here = function-at most_functions f c.loop-f.auto.f (omega (arith, c.loop-f-test.true)) in
    let next : f - 1 + 1 ≡ f + 1 - 1 = omega (arith, c.loop-f.auto.f) in
    Writes-same _ _ _ _ _ _ _ _ (ap (λ k. flat_map (drop_of bits) (take k functions)) next)
    (Writes-more (drop_of bits) functions (f - 1) f within here c.loop-f.invariant c.in_ok-write_drop.ensures)

pub returns : goal.returns
returns g c =
    let bits = c.args.bits in
    let all : c.loop-f.f - 1 ≡ most_functions = omega arith in
    Writes-same _ _ _ _ _ _ _ _ (ap (λ k. flat_map (drop_of bits) (take k (range_with_len 1 most_functions))) all ∙ sym (drops-each bits)) c.loop-f.invariant
