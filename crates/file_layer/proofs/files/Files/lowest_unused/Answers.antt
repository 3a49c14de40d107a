use Rattle.std.proofs.Common.{◌≡◌, ◌≢◌, ◌-◌, inl, inr, ap, sym, ◌∙◌, subst, slice_get, Some, arith}
use Rattle.std.specs.Prelude.{is_some}
use Rattle.std.proofs.lemmas.Bool.{cases_lt}
use Rattle.file_layer.specs.Layer.{IsUsed}
use Rattle.file_layer.proofs.OwnedBlocks.{nothing}
use Rattle.file_layer.proofs.NamedFiles.{entry_got}
use Rattle.file_layer.proofs.files.Files.lowest_unused.Goals as goal

pub returns-then-is_none : goal.returns-then-is_none
returns-then-is_none c =
    let some : c.loop-n.n ≢ 0 = λ none. omega (arith, none, c.loop-n.auto.n) in
    let at : slice_get c.args.self.now.table (c.loop-n.n - 1) ≡ Some c.get.result = ap (slice_get c.args.self.now.table) (sym c.from.ensures) ∙ c.get.ensures.entry in (
      omega (arith, c.loop-n.auto.n),
      omega (arith, c.loop-n-test.true),
      entry_got c.args.self.now c.loop-n.n c.get.result some at ∙ nothing c.get.result c.if-is_none.ensures,
      c.loop-n.invariant,
    )

pub loop-n-preserved : goal.loop-n-preserved
loop-n-preserved c m from below = elim (cases_lt m c.loop-n.n) [
  | inl lower ↦ c.loop-n.invariant m from lower
  | inr higher ↦
      let here : c.loop-n.n ≡ m = omega arith in
      let some : c.loop-n.n ≢ 0 = λ none. omega (arith, none, c.loop-n.auto.n) in
      let at : slice_get c.args.self.now.table (c.loop-n.n - 1) ≡ Some c.get.result = ap (slice_get c.args.self.now.table) (sym c.from.ensures) ∙ c.get.ensures.entry in
      subst (IsUsed c.args.self.now) here (ap is_some (entry_got c.args.self.now c.loop-n.n c.get.result some at) ∙ c.if-is_none.ensures)
]

pub returns : goal.returns
returns c n from to = c.loop-n.invariant n from (omega (arith, c.loop-n-test.false))
