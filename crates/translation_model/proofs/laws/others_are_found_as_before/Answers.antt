use Rattle.translation_model.proofs.Translating.{forget_of, forgotten_not_found, others_found}
use Rattle.translation_model.proofs.laws.others_are_found_as_before.Goals as goal

pub returns : goal.returns
returns c = λ f cache. record { no_entry = forget_of f cache; nothing = λ v. forgotten_not_found f v cache; others = λ g v other. others_found f g v cache other }
