use Rattle.std.proofs.Common.{length, ap, ◌∙◌}
use Rattle.std.specs.Prelude.{is_some}
use Rattle.std.specs.List.{count_by}
use Rattle.translation_model.specs.Translations.{Cache}
use Rattle.btlb_cache.proofs.Caches.{count_is}
use Rattle.btlb_cache.proofs.btlb.Btlb.len.Goals as goal

pub returns-clause-count : goal.returns-clause-count
returns-clause-count c =
    c.used.ensures ∙ ap (count_by is_some) c.deref.ensures.value ∙ count_is c.self.inside.slots.items c.self.inside.order.entries c.self.invariant
    ∙ ap (λ (cache : Cache). length cache.entries) c.self.view_is
