use Rattle.std.proofs.Common.{◌≡◌, true, None, Err, inl, inr, refl, sym, ap, ◌∙◌, arith, rules}
use Rattle.nesc_base.specs.Sink.{Appends}
use Rattle.text_kit.specs.Known.{AppendsPrefix}
use Rattle.text_kit.proofs.WritesLemmas.{Grows-then}
use Rattle.nesc_monitor.specs.Steps.{with_back}
use Rattle.nesc_monitor.specs.declared.fault.RunFault.TheVariants as run
use Rattle.nesc_monitor.proofs.DrawLemmas.{comes_back, same_machine}
use Rattle.nesc_monitor.proofs.SpareLemmas.{one_spare, still_has}
use Rattle.nesc_monitor.proofs.TellLemmas.{keeps_appends, keeps_prefix}
use Rattle.nesc_monitor.proofs.WordLemmas.{comes_of_fault, handed_or_nothing, handed_where_asked, tells_end, tells_step}
use Rattle.nesc_monitor.proofs.steps.take_word.Goals as goal

pub draw-requires : goal.draw-requires
draw-requires g c = record { some = one_spare _ _ _ c.requires.under_way.rests.sound c.requires.under_way.buffers }

pub hand_back-requires-clause-back : goal.hand_back-requires-clause-back
hand_back-requires-clause-back g c =
    comes_back c.draw.new.commands c.args.commands.now.script c.args.word c.in-Some.event c.in_ok-outcome.outcome.answer (sym c.in-Some.ensures.event) c.in-Some.ensures.out c.in-Some.ensures.fits
    c.in_ok-outcome.ensures.back

-- Nothing was left to give

pub returns-in_default-clause-comes : goal.returns-in_default-clause-comes
returns-in_default-clause-comes g c tells kept state placed is =
    let none : c.draw.result ≡ None = search rules in
    tells_end Appends _ state placed kept _ _ _ _ _ _ _ is (sym c.draw.ensures.event ∙ none) (ap (λ left. left.script) c.in_default.ensures.none.0) c.in_ok-write_end.ensures.all

pub returns-in_err-write_end-clause-comes : goal.returns-in_err-write_end-clause-comes
returns-in_err-write_end-clause-comes g c tells kept state placed is =
    let none : c.draw.result ≡ None = search rules in
    let failed : c.from_residual.result ≡ Err (run.Write c.in_err-write_end.field-0.0) = search rules in
    rw failed (inr (tells_end AppendsPrefix _ state placed kept _ _ _ _ _ _ _ is (sym c.draw.ensures.event ∙ none) (ap (λ left. left.script) c.in_default.ensures.none.0) c.in_err-write_end.ensures.first))

-- The step was not taken

pub returns-in_err-hand_on_before-clause-comes : goal.returns-in_err-hand_on_before-clause-comes
returns-in_err-hand_on_before-clause-comes g c tells kept state placed is =
    let failed : c.from_residual-in_err-hand_on_before.result ≡ Err (run.Write c.in_err-hand_on_before.field-0.0) = search rules in
    rw failed (inl (record { is_in = is; same = c.hand_on_before.ensures.keeps }))

pub returns-in_err-outcome-clause-comes : goal.returns-in_err-outcome-clause-comes
returns-in_err-outcome-clause-comes g c tells kept state placed is =
    let failed : c.from_residual-in_err-outcome.result ≡ Err (run.Step c.in_err-outcome.field-0.0) = search rules in
    let call = c.in_err-outcome.ensures in
    rw failed (comes_of_fault c.args.session.now state placed kept _ _ c.in-Some.event c.in_err-outcome.field-0.0 c.step.new.self _ _ c.draw.new.commands.script _ _ tells is (sym c.in-Some.ensures.event) call.asks
    (handed_where_asked c.args.session.now c.in-Some.event _ _ _ c.in_ok-hand_on_before.ensures.in_time (call.asked (refl {a = true})) c.hand_on_before.ensures.keeps)
    (record { never_falls = call.cause.never_falls; rose = λ is. call.cause.rose (ap Err is) }) call.leaves (λ image is. call.opens tells image (ap Err is)))

-- The step was taken

pub returns-clause-under_way : goal.returns-clause-under_way
returns-clause-under_way g c =
    let has = c.requires.under_way.buffers in
    let step = c.in_ok-outcome.ensures in
    let script = c.hand_back.ensures.script ∙ ap (λ script. with_back script c.args.word c.in_ok-outcome.outcome.answer) c.in-Some.ensures.rest in
    let machine = ap (λ script. script.machine) script ∙ same_machine c.args.commands.now.script c.args.word c.in-Some.event c.in_ok-outcome.outcome.answer in
    record {
      rests = step.rests;
      buffers = still_has c.args.commands.now _ c.args.spare.now _ c.args.session.now _ has step.setting machine c.hand_back.ensures.few
          (omega (arith, c.in-Some.ensures.buffers, step.buffers, c.hand_back.ensures.buffers)) (c.hand_back.ensures.room ∙ step.room ∙ c.in-Some.ensures.room);
    }

pub returns-clause-comes : goal.returns-clause-comes
returns-clause-comes g c tells kept state placed is =
    let step = c.in_ok-outcome.ensures in
    let left = c.hand_back.ensures.script ∙ ap (λ script. with_back script c.args.word c.in_ok-outcome.outcome.answer) c.in-Some.ensures.rest in
    let told = handed_or_nothing _ _ _ _ c.in_ok-hand_on_before.ensures.in_time c.hand_on_before.ensures.keeps c.write_step-told.ensures.stays_lent.more in
    tells_step Appends c.args.session.now state placed _ _ c.in-Some.event c.in_ok-outcome.outcome _ _ _ _ _ _ (step.steps tells kept state placed is) (sym c.in-Some.ensures.event) left
    step.media step.quiet told (keeps_appends _ _ _ _ c.hand_on_before.ensures.keeps c.in_ok-told.ensures.all)

pub returns-in_err-told-clause-comes : goal.returns-in_err-told-clause-comes
returns-in_err-told-clause-comes g c tells kept state placed is =
    let failed : c.from_residual-in_err-told.result ≡ Err (run.Write c.in_err-told.field-0.0) = search rules in
    let step = c.in_ok-outcome.ensures in
    let left = c.hand_back.ensures.script ∙ ap (λ script. with_back script c.args.word c.in_ok-outcome.outcome.answer) c.in-Some.ensures.rest in
    let told = handed_or_nothing _ _ _ _ c.in_ok-hand_on_before.ensures.in_time c.hand_on_before.ensures.keeps c.write_step-told.ensures.stays_lent.more in
    rw failed (inr (tells_step AppendsPrefix c.args.session.now state placed _ _ c.in-Some.event c.in_ok-outcome.outcome _ _ _ _ _ _ (step.steps tells kept state placed is) (sym c.in-Some.ensures.event) left
    step.media step.quiet told (keeps_prefix _ _ _ _ c.hand_on_before.ensures.keeps c.in_err-told.ensures.first)))

pub returns-clause-grows : goal.returns-clause-grows
returns-clause-grows g c = Grows-then _ _ _ c.hand_on_before.ensures.grows c.write_step-told.ensures.stays_lent.more

pub returns-in_err-told-clause-grows : goal.returns-in_err-told-clause-grows
returns-in_err-told-clause-grows g c = Grows-then _ _ _ c.hand_on_before.ensures.grows c.write_step-told.ensures.stays_lent.more
