use Rattle.std.proofs.Common.{Contains}
use Rattle.translation_model.specs.Translations.{Entry, translates}
use Rattle.translation_model.proofs.Lists.{all_contained, find_all, find_none, none_found}
use Rattle.translation_model.proofs.laws.what_has_the_block_is_found.Goals as goal

pub returns : goal.returns
returns c = λ f v cache.
    let Among : Entry → Type 0 = λ entry. Contains cache.entries entry in
    record {
      one = λ entry is. find_all (translates f v) Among cache.entries entry (all_contained cache.entries) is;
      none = (none_found (translates f v) cache.entries, find_none (translates f v) cache.entries);
    }
