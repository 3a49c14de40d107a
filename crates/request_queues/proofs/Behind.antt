-- A request comes behind the others.
use Rattle.std.proofs.Common.{◌≡◌, ℕ, ◌<◌, List, [], ◌∷◌, ◌++◌, length, refl, ◌∙◌, subst, sym, arith}
use Rattle.std.proofs.lemmas.List.{length-append}
use Rattle.circular_buffer.specs.Buffer.{Buffer, buffer}
use Rattle.nesc_base.specs.Count.{risen}
use Rattle.nesc_requests.specs.declared.request.Queued.{Queued}
use Rattle.nesc_requests.specs.declared.request.Request.{Request}
use Rattle.request_queues.specs.Queue.{AreRising, IsQueue, MayBeDone, first_number, queue_of}

-- as it waits under its number
abbrev numbered : ℕ → Request → Queued
numbered number request = record { id = number; request = request }

same_first : (requests : List Queued) (next : ℕ) (request : Request) → first_number (requests ++ numbered next request ∷ []) (risen next) ≡ first_number requests next
same_first [] next request = refl
same_first (head ∷ rest) next request = refl

rising_behind : (requests : List Queued) (next : ℕ) (request : Request) → AreRising requests next → AreRising (requests ++ numbered next request ∷ []) (risen next)
rising_behind [] next request rising = (refl, tt)
rising_behind (head ∷ rest) next request rising = (same_first rest next request ∙ rising.0, rising_behind rest next request rising.1)

under_way_behind : (requests : List Queued) (done : ℕ) (queued : Queued) → MayBeDone requests done → MayBeDone (requests ++ queued ∷ []) done
under_way_behind [] done queued under_way = omega (arith, under_way)
under_way_behind (head ∷ rest) done queued under_way = under_way

pub queue_behind : (kept new : Buffer Queued) (done next later : ℕ) (request : Request) → IsQueue (queue_of kept done next) → length kept.items < kept.capacity
    → new ≡ buffer (kept.items ++ numbered next request ∷ []) kept.capacity → later ≡ risen next → IsQueue (queue_of new done later)
queue_behind kept new done next later request sound room new_is later_is =
    subst (λ (those : Buffer Queued). IsQueue (queue_of those done later)) (sym new_is)
    (subst (λ (number : ℕ). IsQueue (queue_of (buffer (kept.items ++ numbered next request ∷ []) kept.capacity) done number)) (sym later_is)
    (record {
      shallow = sound.shallow;
      within = omega (arith, room, length-append kept.items (numbered next request ∷ []));
      under_way = under_way_behind kept.items done (numbered next request) sound.under_way;
      rising = rising_behind kept.items next request sound.rising;
    }))
