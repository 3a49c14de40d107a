use Rattle.std.proofs.Common.{◌≡◌, ◌-◌, cond, ℕ, length, not, ap, ◌∙◌, arith}
use Rattle.file_layer.specs.Layer.{is_held, lacking}
use Rattle.file_layer.proofs.Known.{held_by_place}
use Rattle.file_layer.proofs.Passing.{count_more}
use Rattle.file_layer.proofs.files.Files.count_lacking.Goals as goal
use Rattle.file_layer.proofs.files.Files.count_lacking.Goals.{then-is_none, else-is_none}

pub loop-at-preserved : goal.loop-at-preserved
loop-at-preserved c =
    let files = c.args.self.now in
    let n = c.args.file.0 in
    let v = c.args.v in
    let at = c.loop-at.at in
    let before = c.loop-at.invariant in
    let more = count_more (λ w. not (is_held files n w)) v at c.loop-at.auto.at in
    let held : is_held files n at ≡ not c.is_none.result = held_by_place files n at c.place.result c.place.ensures ∙ c.is_none.ensures in
    elim c.if-is_none.branch [
      | then-is_none w ↦
          let one : cond {A = ℕ} (not (is_held files n at)) 1 0 ≡ 1 = ap (λ b. cond {A = ℕ} (not b) 1 0) (held ∙ ap not w.if-is_none.true) in
          record {
            counted = omega (arith, w.count-is, before.counted, more, one);
            few = omega (arith, w.count-is, before.few, c.loop-at.auto.at);
            within = omega (arith, c.loop-at-test.true, c.loop-at.auto.at);
          }
      | else-is_none w ↦
          let none : cond {A = ℕ} (not (is_held files n at)) 1 0 ≡ 0 = ap (λ b. cond {A = ℕ} (not b) 1 0) (held ∙ ap not w.if-is_none.false) in
          record {
            counted = omega (arith, w.count-is, before.counted, more, none);
            few = omega (arith, w.count-is, before.few, c.loop-at.auto.at);
            within = omega (arith, c.loop-at-test.true, c.loop-at.auto.at);
          }
    ]

pub returns : goal.returns
returns c =
    let all : c.loop-at.at - c.args.v ≡ c.args.end - c.args.v = omega (arith, c.loop-at.invariant.within, c.loop-at-test.false) in
    c.loop-at.invariant.counted ∙ ap (λ k. length (lacking c.args.self.now c.args.file.0 c.args.v k)) all
