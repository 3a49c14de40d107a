use Rattle.translation_model.proofs.Translating.{clear_leaves, empty_is, forget_leaves, keep_leaves, look_leaves}
use Rattle.translation_model.proofs.laws.uses_leave_caches.Goals as goal

pub returns : goal.returns
returns c = record { new = empty_is; look = look_leaves; keep = keep_leaves; forget = forget_leaves; clear = clear_leaves }
