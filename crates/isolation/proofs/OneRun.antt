-- The machine of one file and one function has no choice.
use Rattle.std.proofs.Common.{◌≡◌, ℕ, List, [], ◌∷◌, ◌++◌, sym, ◌∙◌, subst}
use Rattle.nesc_base.specs.declared.numbers.FnNo.{FnNo}
use Rattle.isolation.specs.History.{OwnEvent, OwnLine, asked, attached, changed, detached, got, handled, kept, restarted, ticked}
use Rattle.isolation.specs.Laws.{HasOneSoloRun}
use Rattle.isolation.specs.Solo.{Solo, SoloRun, SoloStep}
use Rattle.isolation.proofs.OneTurn.{handles_one, ticks_one}

module _ (f : FnNo) (n : ℕ) where
  step_one : (old : Solo) (event : OwnEvent) (here there : List OwnLine) (first second : Solo) → SoloStep f n old event here first
      → SoloStep f n old event there second → (here ≡ there) × (first ≡ second)
  step_one old (changed change) here there first second one other = (one.0 ∙ sym other.0, one.2 ∙ sym other.2)
  step_one old (got v count failed) here there first second one other = (one.0 ∙ sym other.0, one.1 ∙ sym other.1)
  step_one old attached here there first second one other = (one.0 ∙ sym other.0, one.1 ∙ sym other.1)
  step_one old detached here there first second one other = (one.0 ∙ sym other.0, one.1 ∙ sym other.1)
  step_one old (asked id request) here there first second one other = (one.0 ∙ sym other.0, one.1 ∙ sym other.1)
  step_one old (ticked line clock failed) here there first second one other = ticks_one f old line clock failed here there first second one other
  step_one old (handled did) here there first second one other = handles_one f old did here there first second one other
  step_one old kept here there first second one other = (one.0 ∙ sym other.0, one.1 ∙ sym other.1)
  step_one old restarted here there first second one other = (one.0 ∙ sym other.0, one.1 ∙ sym other.1)

  pub one_solo_run : HasOneSoloRun f n
  one_solo_run old [] here there first second one other = (one.0 ∙ sym other.0, one.1 ∙ sym other.1)
  one_solo_run old (event ∷ events) here there first second one other =
      let same = step_one old event one.1 other.1 one.0 other.0 one.3 other.3 in
      let goes_on = subst (λ (from : Solo). SoloRun f n from events one.2 first) same.1 one.4 in
      let rest = one_solo_run other.0 events one.2 other.2 first second goes_on other.4 in
      (one.5 ∙ (λ i. same.0 i ++ rest.0 i) ∙ sym other.5, rest.1)
