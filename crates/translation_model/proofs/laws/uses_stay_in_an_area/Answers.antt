use Rattle.translation_model.specs.Translations.{Entry, LiesIn}
use Rattle.translation_model.proofs.Translating.{forget_each, keep_each, look_each}
use Rattle.translation_model.proofs.laws.uses_stay_in_an_area.Goals as goal

pub returns : goal.returns
returns c = λ area cache lie.
    let Lies : Entry → Type 0 = λ entry. LiesIn area entry.run in
    record {
      look = λ f v. look_each Lies f v cache lie;
      keep = λ entry lies. keep_each Lies entry cache lies lie;
      forget = λ f. forget_each Lies f cache lie;
      clear = tt;
    }
