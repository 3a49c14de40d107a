use Rattle.std.proofs.Common.{◌<◌, Some, slice_get, refl, sym, ap, ◌∙◌}
use Rattle.nesc_base.specs.Block.{zero_block}
use Rattle.file_layer.proofs.BlocksRead.{where_ok}
use Rattle.file_layer.proofs.ShownOpens.{stays_on}
use Rattle.request_queues.specs.Queue.{with_read}
use Rattle.nesc_session.proofs.HeadReached.{reads_head, stays_head, writes_first}
use Rattle.nesc_session.proofs.Reaching.{fails_to_read, found_nowhere, found_there, misses, reaches_hole, reaches_read, reaches_write}
use Rattle.nesc_session.proofs.StagedBlocks.{fits_staged, goes_staged, stays_staged}
use Rattle.nesc_session.proofs.serving.reach.Goals as goal

pub returns-then-is_err-clause-head : goal.returns-then-is_err-clause-head
returns-then-is_err-clause-head g c head rest is =
    let files = c.args.files.now in
    let journal = c.args.journal.now in
    let n = c.args.file.0 in
    let stands = found_there files n c.args.v c.place.result c.place.ensures.stands c.in-Read-Some.at c.in-Read-Some.is-1 in
    stays_head (g.D.Disk.known c.args.disk.now) files journal n c.args.v c.args.queue.now head rest is _ (sym c.in-Some.ensures ∙ ap Some c.in-Read-Some.is-0) _ journal (λ so. absurd (cc))
    (λ tells kept set places kept_so shows. fails_to_read files journal kept set places shows c.requires.rests.fits n c.args.v c.args.queue.now.done _ _ c.in-Read-Some.at stands)

pub returns-in-Read-None-clause-head : goal.returns-in-Read-None-clause-head
returns-in-Read-None-clause-head g c head rest is =
    let files = c.args.files.now in
    let journal = c.args.journal.now in
    let n = c.args.file.0 in
    let unheld = found_nowhere files n c.args.v c.place.result c.place.ensures.stands c.in-Read-None.is-1 in
    reads_head (g.D.Disk.known c.args.disk.now) files journal n c.args.v c.args.queue.now head rest is _ _ (sym c.in-Some.ensures ∙ ap Some c.in-Read-None.is-0) _ zero_block _ journal
    (c.read_into.ensures ∙ ap (with_read c.args.queue.now) c.zero.ensures)
    (λ tells kept set places kept_so shows. reaches_hole files journal kept set places shows c.requires.rests.fits n c.args.v c.args.queue.now.done _ _ unheld)

pub returns-else-is_err-clause-head : goal.returns-else-is_err-clause-head
returns-else-is_err-clause-head g c head rest is =
    let files = c.args.files.now in
    let journal = c.args.journal.now in
    let n = c.args.file.0 in
    let stands = found_there files n c.args.v c.place.result c.place.ensures.stands c.in-Read-Some.at c.in-Read-Some.is-1 in
    reads_head (g.D.Disk.known c.args.disk.now) files journal n c.args.v c.args.queue.now head rest is _ _ (sym c.in-Some.ensures ∙ ap Some c.in-Read-Some.is-0) _ c.read.new.into _ journal
    c.read_into-in-Read-Some.ensures
    (λ tells kept set places kept_so shows. reaches_read files journal kept set places shows c.requires.rests.fits n c.args.v c.args.queue.now.done _ _ c.in-Read-Some.at c.read.new.into stands
    (where_ok c.read.result c.if-is_err.ensures.negation (c.read.ensures.block tells kept kept_so)))

pub returns-in-Write-Some-clause-head : goal.returns-in-Write-Some-clause-head
returns-in-Write-Some-clause-head g c head rest is =
    let files = c.args.files.now in
    let journal = c.args.journal.now in
    let n = c.args.file.0 in
    let stands = found_there files n c.args.v c.place.result c.place.ensures.stands c.in-Write-Some.at c.in-Write-Some.is-1 in
    let gets = ap (slice_get c.in-Write-Some.from) (sym c.head_done-done.ensures) ∙ c.get.ensures in
    rw c.stage.ensures
    (stays_head (g.D.Disk.known c.args.disk.now) files journal n c.args.v c.args.queue.now head rest is _ (sym c.in-Some.ensures ∙ ap Some c.in-Write-Some.is-0) _ _ (λ so. absurd (cc))
    (λ tells kept set places kept_so shows. reaches_write files journal kept set places shows c.requires.rests.fits n c.args.v c.args.queue.now.done _ _ c.in-Write-Some.at c.get.result stands gets))

pub returns-in-Write-Some-clause-rests : goal.returns-in-Write-Some-clause-rests
returns-in-Write-Some-clause-rests g c =
    let fits = c.requires.rests.fits in
    let files = c.args.files.now in
    let journal = c.args.journal.now in
    let n = c.args.file.0 in
    let at = c.in-Write-Some.at in
    let stands = found_there files n c.args.v c.place.result c.place.ensures.stands at c.in-Write-Some.is-1 in
    let room : journal.count < journal.geometry.slack = c.requires.room (writes_first c.args.queue.now.requests _ (sym c.in-Some.ensures ∙ ap Some c.in-Write-Some.is-0) refl) in
    rw c.stage.ensures
    (stays_on files files journal _ _ (g.met.D.Disk.reads_whole c.args.disk.now) (goes_staged files journal n c.args.v at c.get.result fits stands room)
    (fits_staged files journal n c.args.v at c.get.result fits stands room) (stays_staged files journal n c.args.v at c.get.result fits stands) c.requires.rests)

pub returns-in-Write-Some-clause-goes_on : goal.returns-in-Write-Some-clause-goes_on
returns-in-Write-Some-clause-goes_on g c =
    let files = c.args.files.now in
    let n = c.args.file.0 in
    let stands = found_there files n c.args.v c.place.result c.place.ensures.stands c.in-Write-Some.at c.in-Write-Some.is-1 in
    rw c.stage.ensures
    (goes_staged files c.args.journal.now n c.args.v c.in-Write-Some.at c.get.result c.requires.rests.fits stands
    (c.requires.room (writes_first c.args.queue.now.requests _ (sym c.in-Some.ensures ∙ ap Some c.in-Write-Some.is-0) refl)))

pub returns-in_default-2-clause-head : goal.returns-in_default-2-clause-head
returns-in_default-2-clause-head g c head rest is =
    let files = c.args.files.now in
    let journal = c.args.journal.now in
    let n = c.args.file.0 in
    let unheld = found_nowhere files n c.args.v c.place.result c.place.ensures.stands c.in_default-2.is-1 in
    stays_head (g.D.Disk.known c.args.disk.now) files journal n c.args.v c.args.queue.now head rest is _ (sym c.in-Some.ensures ∙ ap Some c.in_default-2.is-0) _ journal (λ so. refl)
    (λ tells kept set places kept_so shows. misses files journal kept set places shows c.requires.rests.fits n c.args.v c.args.queue.now.done c.in_default-2.field-0-0 c.in_default-2.field-1-0 unheld)
