use Rattle.std.proofs.Common.{◌≡◌, ◌⊎◌, inl, inr, Contains, refl}
use Rattle.std.specs.List.{AllByRecursion}
use Rattle.translation_model.specs.Translations.{Entry, after_forget, after_keep, after_look}
use Rattle.translation_model.proofs.Lists.{all_contained, all_like, contained_of_all}
use Rattle.translation_model.proofs.Translating.{forget_each, keep_each, look_each}
use Rattle.translation_model.proofs.laws.uses_bring_no_entry.Goals as goal

pub returns : goal.returns
returns c = λ cache.
    let Was : Entry → Type 0 = λ entry. Contains cache.entries entry in
    let Now : Entry → Entry → Type 0 = λ kept entry. (kept ≡ entry) ⊎ Contains cache.entries entry in
    let all : AllByRecursion Was cache.entries = all_contained cache.entries in
    record {
      look = λ f v entry among. contained_of_all Was (after_look f v cache).entries entry (look_each Was f v cache all) among;
      keep = λ kept entry among.
          contained_of_all (Now kept) (after_keep kept cache).entries entry
          (keep_each (Now kept) kept cache (inl refl) (all_like Was (Now kept) (λ other was. inr was) cache.entries all)) among;
      forget = λ f entry among. contained_of_all Was (after_forget f cache).entries entry (forget_each Was f cache all) among;
    }
