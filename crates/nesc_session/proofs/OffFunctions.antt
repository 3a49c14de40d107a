-- What a step comes to for a function without a file.
use Rattle.std.proofs.Common.{◌≡◌, ℕ, List, [], None, refl, sym, ap, ◌∙◌}
use Rattle.std.specs.Option.{option_and_then}
use Rattle.std.proofs.lemmas.Option.{none-some}
use Rattle.nesc_base.specs.declared.numbers.FnNo.{FnNo}
use Rattle.nesc_base.specs.Files.{Files, file_at}
use Rattle.file_model.specs.Files.{Change}
use Rattle.plain_machine.specs.Functions.{Attached, Function, file_number, waiting_of}
use Rattle.plain_machine.specs.Handlings.{FindsSpace, Handles, HandlesSo}
use Rattle.plain_machine.specs.declared.outcome.Answer.TheVariants.{Handled}
use Rattle.plain_machine.specs.declared.outcome.Handled as declared
use Rattle.plain_machine.specs.declared.outcome.Handled.TheVariants as handled
use Rattle.plain_machine.specs.declared.outcome.Outcome.{Outcome}

module _ (function : Function) (off : function.attached ≡ None) where
  -- it waits for nothing
  waits_not : waiting_of function ≡ None
  waits_not = ap (option_and_then (λ (attached : Attached). attached.waiting)) off

  -- so nothing is done where it is handled
  pub handled_off : (set : Files) (f : FnNo) (outcome : Outcome) (changes : List Change) (new : Function) → Handles set f function outcome changes new → changes ≡ []
  handled_off set f outcome changes new handles = at handles.did handles.handles
    where
      at : (did : declared.Handled) → HandlesSo (file_at set (file_number function)) f function did outcome.reply changes new → changes ≡ []
      at handled.None so = so.2
      at handled.Built so = so.unchanged
      at (handled.Held count) so = absurd (none-some so.attached (sym off ∙ so.on))
      at handled.NoSpace so = so.unchanged

  pub handles_off : (set : Files) (f : FnNo) → Handles set f function (record { before = None; answer = Handled f handled.None; drops = 0; built = None; after = None; reply = None }) [] function
  handles_off set f = record { did = handled.None; handles = (waits_not, refl, refl, refl); told = refl; no_commit = refl }

  pub finds_off : (free : ℕ) (set : Files) (f : FnNo) → FindsSpace free set function (Handled f handled.None)
  finds_off free set f miss waits = absurd (none-some miss (sym waits_not ∙ waits))
