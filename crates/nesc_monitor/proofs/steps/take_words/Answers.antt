use Rattle.std.proofs.Common.{◌≡◌, ℕ, [], Err, length, inr, refl, ap, ◌∙◌, subst, arith, rules}
use Rattle.nesc_base.specs.Sink.{Appends}
use Rattle.nesc_base.proofs.DiskCalls.{goes_itself, goes_on}
use Rattle.plain_machine.specs.Lines.{done_text}
use Rattle.plain_machine.specs.declared.setting.Setting.{Setting}
use Rattle.text_kit.specs.Buffered.{pending_of, shown, sink_of}
use Rattle.text_kit.specs.Known.{AppendsPrefix}
use Rattle.text_kit.proofs.KnownLemmas.{Appends-append, AppendsPrefix-right}
use Rattle.text_kit.proofs.WritesLemmas.{Grows-then}
use Rattle.nesc_monitor.specs.Steps.{ComesOfWord, TellsWordBy, out_of}
use Rattle.nesc_monitor.specs.declared.fault.RunFault.TheVariants as run
use Rattle.nesc_monitor.proofs.StepsLemmas.{first_more, first_none, runs_by_fault, runs_short, runs_to_end}
use Rattle.nesc_monitor.proofs.TellLemmas.{appends_keeps, appends_prefix, shown_handed}
use Rattle.nesc_monitor.proofs.steps.take_words.Goals as goal

pub loop-word-init : goal.loop-word-init
loop-word-init g c = record {
  under_way = c.requires.under_way;
  setting = refl;
  first = λ tells kept state placed is. first_none _ _ _ _ _ _ _ _ placed kept is;
  lent = refl;
  goes = goes_itself _;
  keeps = g.met.D.Disk.keeps_itself _;
  disk_faults = omega arith;
  sink_faults = omega arith;
}

pub loop-word-preserved : goal.loop-word-preserved
loop-word-preserved g c =
    let before = c.loop-word.invariant in
    let call = c.in_ok-take_word.ensures in
    record {
      under_way = call.under_way;
      setting = call.setting ∙ before.setting;
      first = λ tells kept state placed is.
          let first = before.first tells kept state placed is in
          let told = call.comes (before.goes.still_tells ∙ tells) first.kept first.now first.moved first.is_in in
          let Tells : Setting → Type 0 = λ setting. TellsWordBy Appends setting first.now c.loop-word.commands.script c.in-Some.word c.take_word.new.session (g.D.Disk.known c.loop-word.disk) (g.D.Disk.known c.take_word.new.disk)
          c.take_word.new.commands.script (out_of g.K.Sink.taken c.loop-word.buffered) (out_of g.K.Sink.taken c.take_word.new.buffered) in
          first_more _ _ _ _ _ _ _ _ _ _ _ _ first (shown_handed _ _ c.requires.empty) Appends Appends-append _ _ _ _ _ _ c.in-Some.ensures.next call.device.never_falls call.grows
          (subst Tells before.setting told);
      lent = call.lent ∙ before.lent;
      goes = goes_on _ _ _ before.goes call.goes;
      keeps = g.met.D.Disk.keeps_on _ _ _ before.keeps call.keeps;
      disk_faults = omega (arith, before.disk_faults, call.device.never_falls);
      sink_faults = omega (arith, before.sink_faults, call.write.never_falls);
    }

pub returns-in_err-take_word-clause-runs : goal.returns-in_err-take_word-clause-runs
returns-in_err-take_word-clause-runs g c tells kept state placed is =
    let before = c.loop-word.invariant in
    let call = c.in_err-take_word.ensures in
    let fault = c.in_err-take_word.field-0.0 in
    let first = before.first tells kept state placed is in
    let failed : c.from_residual.result ≡ Err fault = search rules in
    let told = call.comes (before.goes.still_tells ∙ tells) first.kept first.now first.moved first.is_in in
    let Comes : Setting → Type 0 = λ setting. ComesOfWord setting first.now first.moved first.kept c.loop-word.commands.script c.in-Some.word c.take_word.new.session (g.D.Disk.known c.loop-word.disk)
    (g.D.Disk.known c.take_word.new.disk) c.take_word.new.commands.script (out_of g.K.Sink.taken c.loop-word.buffered) (out_of g.K.Sink.taken c.take_word.new.buffered) (Err fault) in
    rw failed
    (runs_by_fault _ _ _ _ _ _ _ _ _ _ _ _ first (shown_handed _ _ c.requires.empty) c.in-Some.word _ c.in-Some.ensures.next c.take_word.new.session _ c.take_word.new.commands.script
    (out_of g.K.Sink.taken c.take_word.new.buffered) (pending_of c.take_word.new.buffered) refl (call.setting ∙ before.setting) call.device.never_falls call.grows fault (λ write is. call.rests (ap Err is))
    (subst Comes before.setting told))

-- No word is left

pub returns-in_err-write_done-clause-runs : goal.returns-in_err-write_done-clause-runs
returns-in_err-write_done-clause-runs g c tells kept state placed is =
    let before = c.loop-word.invariant in
    let none : c.loop-word.schedule ≡ [] = search rules in
    let first = before.first tells kept state placed is in
    let failed : c.from_residual-in_err-write_done.result ≡ Err (run.Write c.in_err-write_done.field-0.0) = search rules in
    let call = c.write_done.ensures in
    let told = c.write_done.new.sink in
    let Begun : ℕ → Type 0 = λ n. AppendsPrefix (shown g.K.Sink.taken c.loop-word.buffered) (shown g.K.Sink.taken told) (done_text n) in
    let begun = subst Begun (c.from-steps.ensures ∙ c.steps.ensures) call.first in
    rw failed
    (runs_short _ _ _ _ _ _ _ Appends _ _ _ _ _ first (shown_handed _ _ c.requires.empty) before.under_way.rests before.setting (done_text (length c.args.schedule.now)) (g.K.Sink.taken (sink_of told)) (pending_of told)
    (inr (none, refl)) call.stays_lent.more (AppendsPrefix-right _ _ _ _ _ first.all begun))

pub returns-in_err-flush-clause-runs : goal.returns-in_err-flush-clause-runs
returns-in_err-flush-clause-runs g c tells kept state placed is =
    let before = c.loop-word.invariant in
    let none : c.loop-word.schedule ≡ [] = search rules in
    let first = before.first tells kept state placed is in
    let failed : c.from_residual-in_err-flush.result ≡ Err (run.Write c.in_err-flush.field-0.0) = search rules in
    let call = c.in_ok-write_done.ensures in
    let told = c.flush.new.self in
    let Done : ℕ → Type 0 = λ n. Appends (shown g.K.Sink.taken c.loop-word.buffered) (shown g.K.Sink.taken c.write_done.new.sink) (done_text n) in
    let done = subst Done (c.from-steps.ensures ∙ c.steps.ensures) call.all in
    let all = appends_keeps _ _ _ _ (Appends-append _ _ _ _ _ first.all done) c.flush.ensures.keeps in
    rw failed
    (runs_short _ _ _ _ _ _ _ Appends _ _ _ _ _ first (shown_handed _ _ c.requires.empty) before.under_way.rests before.setting (done_text (length c.args.schedule.now)) (g.K.Sink.taken (sink_of told)) (pending_of told)
    (inr (none, refl)) (Grows-then _ _ _ call.stays_lent.more c.flush.ensures.more) (appends_prefix _ _ _ all))

pub returns-clause-runs : goal.returns-clause-runs
returns-clause-runs g c tells kept state placed is =
    let before = c.loop-word.invariant in
    let none : c.loop-word.schedule ≡ [] = search rules in
    let first = before.first tells kept state placed is in
    let call = c.in_ok-write_done.ensures in
    let told = c.flush.new.self in
    let Done : ℕ → Type 0 = λ n. Appends (shown g.K.Sink.taken c.loop-word.buffered) (shown g.K.Sink.taken c.write_done.new.sink) (done_text n) in
    let done = subst Done (c.from-steps.ensures ∙ c.steps.ensures) call.all in
    runs_to_end _ _ _ _ _ _ _ _ _ _ _ _ first (shown_handed _ _ c.requires.empty) _ (g.K.Sink.taken (sink_of told)) (pending_of told) before.under_way.rests before.setting none done c.flush.ensures.keeps
    c.in_ok-flush.ensures.empty
