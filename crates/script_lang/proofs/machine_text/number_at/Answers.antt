use Rattle.std.proofs.Common.{ℤ, pos, Option, option_and_then, unwrap_or, ap, ◌∙◌, rules}
use Rattle.std.proofs.lemmas.Int.{to_z-of_z}
use Rattle.std.specs.Int.{w64}
use Rattle.std.specs.Prelude.{FitsSigned}
use Rattle.toml.specs.Data.{Data, as_integer}
use Rattle.script_lang.proofs.machine_text.number_at.Goals as goal

pub returns-in-Some : goal.returns-in-Some
returns-in-Some c =
    let fits : FitsSigned w64 c.unwrap_or.result = search rules in
    let other : FitsSigned w64 c.from.result = search rules in
    to_z-of_z w64 c.unwrap_or.result fits
    ∙ c.unwrap_or.ensures
    ∙ ap (unwrap_or c.as_integer.result) (to_z-of_z w64 c.from.result other ∙ c.from.ensures)
    ∙ ap (λ (found : Option ℤ). unwrap_or found (pos c.args.other)) (c.as_integer.ensures ∙ ap (λ (value : Option Data). option_and_then as_integer value) c.in-Some.ensures)

pub returns-in-None : goal.returns-in-None
returns-in-None c =
    let fits : FitsSigned w64 c.from-in-None.result = search rules in
    to_z-of_z w64 c.from-in-None.result fits
    ∙ c.from-in-None.ensures
    ∙ ap (λ (value : Option Data). unwrap_or (option_and_then as_integer value) (pos c.args.other)) c.in-None.ensures
