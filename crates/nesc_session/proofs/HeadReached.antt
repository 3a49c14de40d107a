-- The first request of a queue is reached at its next block.
use Rattle.std.proofs.Common.{◌≡◌, ℕ, true, List, [], ◌∷◌, length, Some, slice_set, refl, sym, ap, subst, ◌∙◌, length-set}
use Rattle.std.proofs.lemmas.Option.{none-some, same_Some}
use Rattle.nesc_base.specs.declared.block.Block.{Block}
use Rattle.nesc_base.specs.Disk.{Known}
use Rattle.nesc_requests.specs.Buffers.{request_buffers}
use Rattle.nesc_requests.specs.Requests.{block_count, is_write}
use Rattle.nesc_requests.specs.Script.{IsFew, MayAsk}
use Rattle.nesc_requests.specs.declared.request.Queued.{Queued}
use Rattle.nesc_requests.specs.declared.request.Request.{Request}
use Rattle.nesc_requests.specs.declared.request.Request.TheVariants.{Read}
use Rattle.request_queues.specs.Queue.{Queue, first_request, with_block, with_first_block, with_read}
use Rattle.file_layer.specs.Layer.{Layer}
use Rattle.host_journal.specs.Journal.{Journal}
use Rattle.plain_machine.specs.Machine.{starts_with_write}
use Rattle.plain_machine.specs.declared.outcome.How.{How}
use Rattle.nesc_session.specs.Serving.{ReachesHead, ReachesOnDisk}
use Rattle.nesc_session.specs.declared.serving.Reached.{Reached}
use Rattle.nesc_session.specs.declared.serving.Reached.TheVariants.{Missed, Served}

module _ (disk : Known) (files : Layer) (before : Journal) (n v : ℕ) (queue : Queue) (head : Queued) (rest : List Queued) (is : queue.requests ≡ head ∷ rest)
    (request : Request) (first : first_request queue.requests ≡ Some request) where
  pub head_is : request ≡ head.request
  head_is = same_Some request head.request (sym first ∙ ap first_request is)

  -- it stays as it is
  pub stays_head : (way : Reached) (after : Journal) → (way ≡ Missed → is_write request ≡ true) → ReachesOnDisk disk files before n v queue.done request way request after
      → ReachesHead disk files before n v queue head rest way queue after
  stays_head way after missed reaches = record {
    later = head.request;
    queue = λ i. record queue { requests = is i };
    reaches = subst (λ (r : Request). ReachesOnDisk disk files before n v queue.done r way r after) head_is reaches;
    may = λ may. may;
    same_count = refl;
    same_buffers = refl;
    missed = λ so. (ap is_write (sym head_is) ∙ missed so, refl);
  }

-- its block is read
module _ (disk : Known) (files : Layer) (before : Journal) (n v : ℕ) (queue : Queue) (head : Queued) (rest : List Queued) (is : queue.requests ≡ head ∷ rest)
    (at : ℕ) (into : List Block) (first : first_request queue.requests ≡ Some (Read at into)) where
  pub reads_head : (how : How) (block : Block) (new : Queue) (after : Journal) → new ≡ with_read queue block
      → ReachesOnDisk disk files before n v queue.done (Read at into) (Served how) (Read at (slice_set into queue.done block)) after
      → ReachesHead disk files before n v queue head rest (Served how) new after
  reads_head how block new after new_is reaches =
      let read : Read at into ≡ head.request = head_is disk files before n v queue head rest is (Read at into) first in
      let count : length (slice_set into queue.done block) ≡ length into = length-set into queue.done block in
      record {
        later = Read at (slice_set into queue.done block);
        queue = new_is ∙ (λ i. record queue { requests = with_first_block (is i) queue.done block })
            ∙ (λ i. record queue { requests = (record head { request = with_block (sym read i) queue.done block }) ∷ rest });
        reaches = subst (λ (r : Request). ReachesOnDisk disk files before n v queue.done r (Served how) (Read at (slice_set into queue.done block)) after) read reaches;
        may = λ may. let (below, few) = subst MayAsk (sym read) may in (below, subst IsFew (sym count) few);
        same_count = count ∙ ap block_count read;
        same_buffers = ap request_buffers read;
        missed = λ so. absurd (cc);
      }

-- it is a write
pub writes_first : (requests : List Queued) (request : Request) → first_request requests ≡ Some request → is_write request ≡ true → starts_with_write requests ≡ true
writes_first [] request first write = absurd (none-some request first)
writes_first (head ∷ rest) request first write = ap is_write (same_Some head.request request first) ∙ write
