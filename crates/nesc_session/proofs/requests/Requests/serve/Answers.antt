use Rattle.std.proofs.Common.{◌≡◌, ◌+◌, ◌-◌, ◌<◌, None, Some, [], ◌∷◌, refl, sym, ap, subst, ◌∙◌, arith}
use Rattle.nesc_base.specs.Files.{file_at}
use Rattle.nesc_requests.specs.Requests.{block_count}
use Rattle.nesc_requests.specs.declared.request.End.TheVariants as end
use Rattle.nesc_requests.specs.declared.request.Kind.TheVariants.{Unmapped}
use Rattle.plain_machine.specs.declared.outcome.Answer.TheVariants.{Served}
use Rattle.plain_machine.specs.declared.outcome.How.TheVariants.{Walk}
use Rattle.request_queues.specs.Queue.{Queue, with_served}
use Rattle.nesc_session.specs.Buffers.{outcome_buffers}
use Rattle.nesc_session.specs.Requests.{IsSound, Requests, starts_with_flush}
use Rattle.nesc_session.specs.Serving.{ReachesHead}
use Rattle.nesc_session.specs.declared.serving.Reached.TheVariants as reached
use Rattle.nesc_session.proofs.Carried.{carries_none}
use Rattle.nesc_session.proofs.HeadServed.{IsFound, StaysSound, found_first, sound_ended, sound_missed, sound_more, still_to_do}
use Rattle.nesc_session.proofs.Served.{below_longest, ends_left, ends_told, length_found, none_waits, over, plain, serves_failed, serves_last, serves_missed, serves_more, serves_past}
use Rattle.nesc_session.proofs.requests.Requests.serve.Given.{Over}
use Rattle.nesc_session.proofs.requests.Requests.serve.Goals as goal

-- At or past the length

module _ (g : Over) (c : goal.After-end g) where
  past_found : IsFound c.self.inside.queue (c.first.result + c.head_done-done.result) c.blocks-blocks.result
  past_found =
      found_first c.self.inside.queue c.in-Some.head.now (sym c.in-Some.ensures) c.self.invariant.under_way
      (ap (λ (r : Requests). starts_with_flush r.queue.requests) c.self.view_is ∙ c.requires.blocks) c.first.result c.head_done-done.result c.blocks-blocks.result c.first.ensures
      c.head_done-done.ensures c.blocks-blocks.ensures.count c.blocks-blocks.ensures.some

  past_idle : c.args.self.now.waiting ≡ None
  past_idle = none_waits _ c.args.self.now.waiting c.requires.ready

  past_waits : c.self.inside.waiting ≡ None
  past_waits = ap (λ (r : Requests). r.waiting) c.self.view_is ∙ past_idle

  past_queue_is : c.args.self.now.queue ≡ c.self.inside.queue
  past_queue_is = sym (ap (λ (r : Requests). r.queue) c.self.view_is)

pub returns-then-unwrap_or-v-clause-serves : goal.returns-then-unwrap_or-v-clause-serves
returns-then-unwrap_or-v-clause-serves g c tells kept set places is shows =
    let queue : Queue = c.self.inside.queue in
    let found = past_found g c in
    let long : c.unwrap_or.result ≡ (file_at set c.args.file.0).length = length_found set c.args.file.0 c.length.result c.unwrap_or.result c.unwrap_or.ensures (c.length.ensures.answers set places shows.knows) in
    let split : queue ≡ record queue { requests = found.head ∷ found.rest } = λ i. record queue { requests = found.split i } in
    let told = ends_told c.args.f _ end.Range queue queue c.end.result c.end.new.queue found.head found.rest queue.done c.end.ensures split in
    let left = ends_left c.args.f _ end.Range queue queue c.end.result c.end.new.queue found.head found.rest queue.done c.end.ensures split in
    over c.args.files.now c.args.journal.now c.args.journal.now kept set places c.args.f c.args.file c.args.self.now _ _ [] [] refl
    (serves_past set c.args.f c.args.file c.args.self.now c.self.inside.queue found.head found.rest (c.first.result + c.head_done-done.result) (past_queue_is g c) (past_idle g c) found.split found.at found.for_blocks (omega (arith, long, c.if-unwrap_or-v.true)) c.end.result _
    (told ∙ ap (λ answer. plain answer (Some (record { f = c.args.f; id = found.head.id; end = end.Range; done = queue.done; request = found.head.request }))) c.served.ensures) left (past_waits g c))
    (carries_none c.args.files.now c.args.journal.now kept set places shows)

-- A write waits

module _ (g : Over) (c : goal.After-told-in-Missed g) where
  missed_found : IsFound c.self.inside.queue (c.first.result + c.head_done-done.result) c.blocks-blocks.result
  missed_found =
      found_first c.self.inside.queue c.in-Some.head.now (sym c.in-Some.ensures) c.self.invariant.under_way
      (ap (λ (r : Requests). starts_with_flush r.queue.requests) c.self.view_is ∙ c.requires.blocks) c.first.result c.head_done-done.result c.blocks-blocks.result c.first.ensures
      c.head_done-done.ensures c.blocks-blocks.ensures.count c.blocks-blocks.ensures.some

  missed_idle : c.args.self.now.waiting ≡ None
  missed_idle = none_waits _ c.args.self.now.waiting c.requires.ready

  missed_waits : c.self.inside.waiting ≡ None
  missed_waits = ap (λ (r : Requests). r.waiting) c.self.view_is ∙ missed_idle

  missed_queue_is : c.args.self.now.queue ≡ c.self.inside.queue
  missed_queue_is = sym (ap (λ (r : Requests). r.queue) c.self.view_is)

  missed_head : ReachesHead (g.D.Disk.known c.args.disk.now) c.args.files.now c.args.journal.now c.args.file.0 (c.first.result + c.head_done-done.result) c.self.inside.queue missed_found.head missed_found.rest reached.Missed c.reach.new.queue c.reach.new.journal
  missed_head = c.in-Missed.ensures.head missed_found.head missed_found.rest missed_found.split

  missed_miss : c.unmapped-miss.result ≡ record { v = c.first.result + c.head_done-done.result; n = block_count missed_found.head.request - c.self.inside.queue.done; kind = Unmapped }
  missed_miss = c.unmapped-miss.ensures ∙ (λ i. record { v = c.first.result + c.head_done-done.result; n = missed_found.counted i - c.head_done-done.ensures i; kind = Unmapped })

  missed_stays : StaysSound c.self.inside.queue c.reach.new.queue (Some c.unmapped-miss.result) (outcome_buffers c.told-in-Missed.result)
  missed_stays =
      let (write, same) = missed_head.missed refl in
      let below = below_longest c.length.result (c.first.result + c.head_done-done.result) (omega arith) (c.length.ensures.short c.requires.rests.fits.layer) in
      sound_missed c.self.inside.queue c.self.inside.waiting c.self.invariant missed_found.head missed_found.rest missed_found.split missed_head.later missed_head.same_buffers c.reach.new.queue same write missed_found.more
      missed_head.queue c.unmapped-miss.result _ missed_found.at below missed_miss _ (ap outcome_buffers (c.told-in-Missed.ensures ∙ ap (λ answer. plain answer None) c.missed.ensures))

  missed_after : StaysSound c.args.self.now.queue c.reach.new.queue (Some c.unmapped-miss.result) (outcome_buffers c.told-in-Missed.result)
  missed_after = subst (λ (r : Requests). StaysSound r.queue c.reach.new.queue (Some c.unmapped-miss.result) (outcome_buffers c.told-in-Missed.result)) c.self.view_is missed_stays

pub invariant_of-self-in-Missed : goal.invariant_of-self-in-Missed
invariant_of-self-in-Missed g c = (missed_stays g c).sound

pub returns-in-Missed-clause-depth : goal.returns-in-Missed-clause-depth
returns-in-Missed-clause-depth g c = (missed_after g c).depth

pub returns-in-Missed-clause-few : goal.returns-in-Missed-clause-few
returns-in-Missed-clause-few g c = (missed_after g c).few

pub returns-in-Missed-clause-buffers : goal.returns-in-Missed-clause-buffers
returns-in-Missed-clause-buffers g c = (missed_after g c).buffers

pub returns-in-Missed-clause-serves : goal.returns-in-Missed-clause-serves
returns-in-Missed-clause-serves g c tells kept set places is shows =
    let queue : Queue = c.self.inside.queue in
    let found = missed_found g c in
    let head = missed_head g c in
    let (changes, (write, unheld, same, none), carries) = head.reaches tells kept set places is shows in
    let long : c.unwrap_or.result ≡ (file_at set c.args.file.0).length = length_found set c.args.file.0 c.length.result c.unwrap_or.result c.unwrap_or.ensures (c.length.ensures.answers set places shows.knows) in
    over c.args.files.now c.args.journal.now c.reach.new.journal kept set places c.args.f c.args.file c.args.self.now _ _ changes [] none
    (serves_missed set c.args.f c.args.file c.args.self.now c.self.inside.queue found.head found.rest (c.first.result + c.head_done-done.result) (missed_queue_is g c) (missed_idle g c) found.split found.at (omega (arith, long)) head.later write unheld c.unmapped-miss.result (missed_miss g c) c.told-in-Missed.result _
    (c.told-in-Missed.ensures ∙ ap (λ answer. plain answer None) c.missed.ensures) (head.queue ∙ (λ i. record queue { requests = (record found.head { request = same i }) ∷ found.rest }) ∙ (λ i. record queue { requests = sym found.split i })) refl)
    carries

-- A block could not be read

module _ (g : Over) (c : goal.After-end-in-Failed g) where
  failed_found : IsFound c.self.inside.queue (c.first.result + c.head_done-done.result) c.blocks-blocks.result
  failed_found =
      found_first c.self.inside.queue c.in-Some.head.now (sym c.in-Some.ensures) c.self.invariant.under_way
      (ap (λ (r : Requests). starts_with_flush r.queue.requests) c.self.view_is ∙ c.requires.blocks) c.first.result c.head_done-done.result c.blocks-blocks.result c.first.ensures
      c.head_done-done.ensures c.blocks-blocks.ensures.count c.blocks-blocks.ensures.some

  failed_idle : c.args.self.now.waiting ≡ None
  failed_idle = none_waits _ c.args.self.now.waiting c.requires.ready

  failed_waits : c.self.inside.waiting ≡ None
  failed_waits = ap (λ (r : Requests). r.waiting) c.self.view_is ∙ failed_idle

  failed_queue_is : c.args.self.now.queue ≡ c.self.inside.queue
  failed_queue_is = sym (ap (λ (r : Requests). r.queue) c.self.view_is)

  failed_head : ReachesHead (g.D.Disk.known c.args.disk.now) c.args.files.now c.args.journal.now c.args.file.0 (c.first.result + c.head_done-done.result) c.self.inside.queue failed_found.head failed_found.rest reached.Failed c.reach.new.queue c.reach.new.journal
  failed_head = c.in-Failed.ensures.head failed_found.head failed_found.rest failed_found.split

  failed_told : c.end-in-Failed.result ≡ plain (Served c.args.f (c.first.result + c.head_done-done.result) (Walk 0)) (Some (record { f = c.args.f; id = failed_found.head.id; end = end.Media; done = c.self.inside.queue.done; request = failed_head.later }))
  failed_told =
      ends_told c.args.f c.served-in-Failed.result end.Media c.reach.new.queue c.self.inside.queue c.end-in-Failed.result c.end-in-Failed.new.queue (record failed_found.head { request = failed_head.later }) failed_found.rest
      c.self.inside.queue.done c.end-in-Failed.ensures failed_head.queue
      ∙ ap (λ answer. plain answer (Some (record { f = c.args.f; id = failed_found.head.id; end = end.Media; done = c.self.inside.queue.done; request = failed_head.later }))) c.served-in-Failed.ensures

  failed_left : c.end-in-Failed.new.queue ≡ record c.self.inside.queue { requests = failed_found.rest; done = 0 }
  failed_left =
      ends_left c.args.f c.served-in-Failed.result end.Media c.reach.new.queue c.self.inside.queue c.end-in-Failed.result c.end-in-Failed.new.queue (record failed_found.head { request = failed_head.later }) failed_found.rest
      c.self.inside.queue.done c.end-in-Failed.ensures failed_head.queue

  failed_stays : StaysSound c.self.inside.queue c.end-in-Failed.new.queue None (outcome_buffers c.end-in-Failed.result)
  failed_stays =
      sound_ended c.self.inside.queue c.self.inside.waiting c.self.invariant failed_found.head failed_found.rest failed_found.split failed_head.later failed_head.same_buffers c.end-in-Failed.new.queue failed_left _
      (omega (arith, ap outcome_buffers failed_told))

  failed_after : StaysSound c.args.self.now.queue c.end-in-Failed.new.queue None (outcome_buffers c.end-in-Failed.result)
  failed_after = subst (λ (r : Requests). StaysSound r.queue c.end-in-Failed.new.queue None (outcome_buffers c.end-in-Failed.result)) c.self.view_is failed_stays

pub invariant_of-self-in-Failed : goal.invariant_of-self-in-Failed
invariant_of-self-in-Failed g c = subst (IsSound c.end-in-Failed.new.queue) (sym (failed_waits g c)) (failed_stays g c).sound

pub returns-in-Failed-clause-depth : goal.returns-in-Failed-clause-depth
returns-in-Failed-clause-depth g c = (failed_after g c).depth

pub returns-in-Failed-clause-few : goal.returns-in-Failed-clause-few
returns-in-Failed-clause-few g c = (failed_after g c).few

pub returns-in-Failed-clause-buffers : goal.returns-in-Failed-clause-buffers
returns-in-Failed-clause-buffers g c = (failed_after g c).buffers

pub returns-in-Failed-clause-serves : goal.returns-in-Failed-clause-serves
returns-in-Failed-clause-serves g c tells kept set places is shows =
    let found = failed_found g c in
    let head = failed_head g c in
    let (changes, (reads, held, same, none), carries) = head.reaches tells kept set places is shows in
    let long : c.unwrap_or.result ≡ (file_at set c.args.file.0).length = length_found set c.args.file.0 c.length.result c.unwrap_or.result c.unwrap_or.ensures (c.length.ensures.answers set places shows.knows) in
    over c.args.files.now c.args.journal.now c.reach.new.journal kept set places c.args.f c.args.file c.args.self.now _ _ changes [] none
    (serves_failed set c.args.f c.args.file c.args.self.now c.self.inside.queue found.head found.rest (c.first.result + c.head_done-done.result) (failed_queue_is g c) (failed_idle g c) found.split found.at (omega (arith, long)) head.later same reads held c.end-in-Failed.result _ (failed_told g c) (failed_left g c) (failed_waits g c))
    carries

-- The last block of a request

module _ (g : Over) (c : goal.After-end-in-Served g) where
  last_found : IsFound c.self.inside.queue (c.first.result + c.head_done-done.result) c.blocks-blocks.result
  last_found =
      found_first c.self.inside.queue c.in-Some.head.now (sym c.in-Some.ensures) c.self.invariant.under_way
      (ap (λ (r : Requests). starts_with_flush r.queue.requests) c.self.view_is ∙ c.requires.blocks) c.first.result c.head_done-done.result c.blocks-blocks.result c.first.ensures
      c.head_done-done.ensures c.blocks-blocks.ensures.count c.blocks-blocks.ensures.some

  last_idle : c.args.self.now.waiting ≡ None
  last_idle = none_waits _ c.args.self.now.waiting c.requires.ready

  last_waits : c.self.inside.waiting ≡ None
  last_waits = ap (λ (r : Requests). r.waiting) c.self.view_is ∙ last_idle

  last_queue_is : c.args.self.now.queue ≡ c.self.inside.queue
  last_queue_is = sym (ap (λ (r : Requests). r.queue) c.self.view_is)

  last_head : ReachesHead (g.D.Disk.known c.args.disk.now) c.args.files.now c.args.journal.now c.args.file.0 (c.first.result + c.head_done-done.result) c.self.inside.queue last_found.head last_found.rest (reached.Served c.in-Served.how) c.reach.new.queue c.reach.new.journal
  last_head = c.in-Served.ensures.head last_found.head last_found.rest last_found.split

  last_was : c.served-in-Served.new.self ≡ record c.self.inside.queue { requests = (record last_found.head { request = last_head.later }) ∷ last_found.rest; done = c.self.inside.queue.done + 1 }
  last_was = c.served-in-Served.ensures ∙ ap with_served last_head.queue

  last_told : c.end-in-Served.result ≡ plain (Served c.args.f (c.first.result + c.head_done-done.result) c.in-Served.how) (Some (record { f = c.args.f; id = last_found.head.id; end = end.Ok; done = c.self.inside.queue.done + 1; request = last_head.later }))
  last_told =
      ends_told c.args.f c.served-in-Served-2.result end.Ok c.served-in-Served.new.self c.self.inside.queue c.end-in-Served.result c.end-in-Served.new.queue (record last_found.head { request = last_head.later }) last_found.rest
      (c.self.inside.queue.done + 1) c.end-in-Served.ensures last_was
      ∙ ap (λ answer. plain answer (Some (record { f = c.args.f; id = last_found.head.id; end = end.Ok; done = c.self.inside.queue.done + 1; request = last_head.later }))) c.served-in-Served-2.ensures

  last_left : c.end-in-Served.new.queue ≡ record c.self.inside.queue { requests = last_found.rest; done = 0 }
  last_left =
      ends_left c.args.f c.served-in-Served-2.result end.Ok c.served-in-Served.new.self c.self.inside.queue c.end-in-Served.result c.end-in-Served.new.queue (record last_found.head { request = last_head.later }) last_found.rest
      (c.self.inside.queue.done + 1) c.end-in-Served.ensures last_was

  last_stays : StaysSound c.self.inside.queue c.end-in-Served.new.queue None (outcome_buffers c.end-in-Served.result)
  last_stays =
      sound_ended c.self.inside.queue c.self.inside.waiting c.self.invariant last_found.head last_found.rest last_found.split last_head.later last_head.same_buffers c.end-in-Served.new.queue last_left _
      (omega (arith, ap outcome_buffers last_told))

  last_after : StaysSound c.args.self.now.queue c.end-in-Served.new.queue None (outcome_buffers c.end-in-Served.result)
  last_after = subst (λ (r : Requests). StaysSound r.queue c.end-in-Served.new.queue None (outcome_buffers c.end-in-Served.result)) c.self.view_is last_stays

pub served-requires-in-Served : goal.served-requires-in-Served
served-requires-in-Served g c =
    let found =
    found_first c.self.inside.queue c.in-Some.head.now (sym c.in-Some.ensures) c.self.invariant.under_way
    (ap (λ (r : Requests). starts_with_flush r.queue.requests) c.self.view_is ∙ c.requires.blocks) c.first.result c.head_done-done.result c.blocks-blocks.result c.first.ensures
    c.head_done-done.ensures c.blocks-blocks.ensures.count c.blocks-blocks.ensures.some in
    let head = c.in-Served.ensures.head found.head found.rest found.split in
    still_to_do c.self.inside.queue found.head found.rest head.later c.reach.new.queue head.queue (omega (arith, found.more, head.same_count))

pub invariant_of-self-then-blocks-done : goal.invariant_of-self-then-blocks-done
invariant_of-self-then-blocks-done g c = subst (IsSound c.end-in-Served.new.queue) (sym (last_waits g c)) (last_stays g c).sound

pub returns-in-Served-clause-depth : goal.returns-in-Served-clause-depth
returns-in-Served-clause-depth g c = (last_after g c).depth

pub returns-in-Served-clause-few : goal.returns-in-Served-clause-few
returns-in-Served-clause-few g c = (last_after g c).few

pub returns-in-Served-clause-buffers : goal.returns-in-Served-clause-buffers
returns-in-Served-clause-buffers g c = (last_after g c).buffers

pub returns-in-Served-clause-serves : goal.returns-in-Served-clause-serves
returns-in-Served-clause-serves g c tells kept set places is shows =
    let found = last_found g c in
    let head = last_head g c in
    let (changes, (reached, made), carries) = head.reaches tells kept set places is shows in
    let long : c.unwrap_or.result ≡ (file_at set c.args.file.0).length = length_found set c.args.file.0 c.length.result c.unwrap_or.result c.unwrap_or.ensures (c.length.ensures.answers set places shows.knows) in
    over c.args.files.now c.args.journal.now c.reach.new.journal kept set places c.args.f c.args.file c.args.self.now _ _ changes _ made
    (serves_last set c.args.f c.args.file c.args.self.now c.self.inside.queue found.head found.rest (c.first.result + c.head_done-done.result) (last_queue_is g c) (last_idle g c) found.split found.at (omega (arith, long)) head.later c.in-Served.how reached
    (omega (arith, found.counted, c.head_done-done.ensures, c.if-blocks-done.true)) c.end-in-Served.result _ (last_told g c) (last_left g c) (last_waits g c))
    carries

-- and any other

module _ (g : Over) (c : goal.After-told-in-Served-2 g) where
  more_found : IsFound c.self.inside.queue (c.first.result + c.head_done-done.result) c.blocks-blocks.result
  more_found =
      found_first c.self.inside.queue c.in-Some.head.now (sym c.in-Some.ensures) c.self.invariant.under_way
      (ap (λ (r : Requests). starts_with_flush r.queue.requests) c.self.view_is ∙ c.requires.blocks) c.first.result c.head_done-done.result c.blocks-blocks.result c.first.ensures
      c.head_done-done.ensures c.blocks-blocks.ensures.count c.blocks-blocks.ensures.some

  more_idle : c.args.self.now.waiting ≡ None
  more_idle = none_waits _ c.args.self.now.waiting c.requires.ready

  more_waits : c.self.inside.waiting ≡ None
  more_waits = ap (λ (r : Requests). r.waiting) c.self.view_is ∙ more_idle

  more_queue_is : c.args.self.now.queue ≡ c.self.inside.queue
  more_queue_is = sym (ap (λ (r : Requests). r.queue) c.self.view_is)

  more_head : ReachesHead (g.D.Disk.known c.args.disk.now) c.args.files.now c.args.journal.now c.args.file.0 (c.first.result + c.head_done-done.result) c.self.inside.queue more_found.head more_found.rest (reached.Served c.in-Served.how) c.reach.new.queue c.reach.new.journal
  more_head = c.in-Served.ensures.head more_found.head more_found.rest more_found.split

  more_left : c.served-in-Served-2-2.new.self ≡ record c.self.inside.queue { requests = (record more_found.head { request = more_head.later }) ∷ more_found.rest; done = c.self.inside.queue.done + 1 }
  more_left = c.served-in-Served-2-2.ensures ∙ ap with_served more_head.queue

  more_told : c.told-in-Served-2.result ≡ plain (Served c.args.f (c.first.result + c.head_done-done.result) c.in-Served.how) None
  more_told = c.told-in-Served-2.ensures ∙ ap (λ answer. plain answer None) c.served-in-Served-2-3.ensures

  more_blocks : c.self.inside.queue.done + 1 < block_count more_found.head.request
  more_blocks = omega (arith, more_found.counted, c.head_done-done.ensures, c.if-blocks-done.false)

  more_stays : StaysSound c.self.inside.queue c.served-in-Served-2-2.new.self None (outcome_buffers c.told-in-Served-2.result)
  more_stays =
      sound_more c.self.inside.queue c.self.inside.waiting c.self.invariant more_found.head more_found.rest more_found.split more_head.later more_head.same_buffers c.served-in-Served-2-2.new.self more_head.may
      (omega (arith, more_blocks, more_head.same_count)) more_left _ (ap outcome_buffers more_told)

  more_after : StaysSound c.args.self.now.queue c.served-in-Served-2-2.new.self None (outcome_buffers c.told-in-Served-2.result)
  more_after = subst (λ (r : Requests). StaysSound r.queue c.served-in-Served-2-2.new.self None (outcome_buffers c.told-in-Served-2.result)) c.self.view_is more_stays

pub served-requires-in-Served-2-2 : goal.served-requires-in-Served-2-2
served-requires-in-Served-2-2 g c =
    let found =
    found_first c.self.inside.queue c.in-Some.head.now (sym c.in-Some.ensures) c.self.invariant.under_way
    (ap (λ (r : Requests). starts_with_flush r.queue.requests) c.self.view_is ∙ c.requires.blocks) c.first.result c.head_done-done.result c.blocks-blocks.result c.first.ensures
    c.head_done-done.ensures c.blocks-blocks.ensures.count c.blocks-blocks.ensures.some in
    let head = c.in-Served.ensures.head found.head found.rest found.split in
    still_to_do c.self.inside.queue found.head found.rest head.later c.reach.new.queue head.queue (omega (arith, found.more, head.same_count))

pub invariant_of-self-in-Served-2 : goal.invariant_of-self-in-Served-2
invariant_of-self-in-Served-2 g c = subst (IsSound c.served-in-Served-2-2.new.self) (sym (more_waits g c)) (more_stays g c).sound

pub returns-in-Served-2-clause-depth : goal.returns-in-Served-2-clause-depth
returns-in-Served-2-clause-depth g c = (more_after g c).depth

pub returns-in-Served-2-clause-few : goal.returns-in-Served-2-clause-few
returns-in-Served-2-clause-few g c = (more_after g c).few

pub returns-in-Served-2-clause-buffers : goal.returns-in-Served-2-clause-buffers
returns-in-Served-2-clause-buffers g c = (more_after g c).buffers

pub returns-in-Served-2-clause-serves : goal.returns-in-Served-2-clause-serves
returns-in-Served-2-clause-serves g c tells kept set places is shows =
    let found = more_found g c in
    let head = more_head g c in
    let (changes, (reached, made), carries) = head.reaches tells kept set places is shows in
    let long : c.unwrap_or.result ≡ (file_at set c.args.file.0).length = length_found set c.args.file.0 c.length.result c.unwrap_or.result c.unwrap_or.ensures (c.length.ensures.answers set places shows.knows) in
    over c.args.files.now c.args.journal.now c.reach.new.journal kept set places c.args.f c.args.file c.args.self.now _ _ changes _ made
    (serves_more set c.args.f c.args.file c.args.self.now c.self.inside.queue found.head found.rest (c.first.result + c.head_done-done.result) (more_queue_is g c) (more_idle g c) found.split found.at (omega (arith, long)) head.later c.in-Served.how reached (more_blocks g c) c.told-in-Served-2.result _ (more_told g c) (more_left g c) (more_waits g c))
    carries
