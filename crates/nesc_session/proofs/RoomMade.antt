-- What an event needs room for, and whether it keeps all files, does not hang on the journal; and an event that keeps them needs
-- none.
use Rattle.std.proofs.Common.{◌≡◌, ℕ, ◌≤◌, false, true, List, [], ◌∷◌, Option, None, Some, refl, arith}
use Rattle.std.proofs.lemmas.Bool.{false≢true}
use Rattle.nesc_requests.specs.declared.event.Event.{Event}
use Rattle.nesc_requests.specs.declared.event.Event.TheVariants.{Evict, Handle, Host, Prune, PruneAt, Restart, Submit, Tick}
use Rattle.nesc_requests.specs.declared.host.HostCommand.TheVariants.{Sync}
use Rattle.nesc_requests.specs.declared.request.Queued.{Queued}
use Rattle.nesc_requests.specs.declared.request.Request.{Request}
use Rattle.nesc_requests.specs.declared.request.Request.TheVariants.{Flush, Read, Write}
use Rattle.nesc_requests.specs.Requests.{is_flush, is_write}
use Rattle.host_journal.specs.Journal.{Journal}
use Rattle.plain_machine.specs.Machine.{starts_with_write}
use Rattle.nesc_session.specs.Requests.{starts_with_flush}
use Rattle.nesc_session.specs.Resting.{IsSession}
use Rattle.nesc_session.specs.Stepping.{HasRoomFor, KeepsFor, made_room}
use Rattle.nesc_session.specs.declared.session.Session.{Session}
use Rattle.nesc_session.proofs.NextFunction.{needs_next}
use Rattle.nesc_session.proofs.SessionFunctions.{as_many}
use Rattle.nesc_session.proofs.Turns.{next_ready}

pub room_made : (clock : Option ℕ) (session : Session) (event : Event) (journal : Journal) → HasRoomFor session event journal → HasRoomFor (made_room clock session) event journal
room_made None session event journal room = room
room_made (Some clock) session (Submit f request) journal room = room
room_made (Some clock) session Tick journal room = room
room_made (Some clock) session (Host command) journal room = room
room_made (Some clock) session (Handle f) journal room = room
room_made (Some clock) session (Prune f) journal room = room
room_made (Some clock) session (PruneAt f v) journal room = room
room_made (Some clock) session Evict journal room = room
room_made (Some clock) session Restart journal room = room

pub keeps_before : (clock : Option ℕ) (session : Session) (event : Event) → KeepsFor (made_room clock session) event → KeepsFor session event
keeps_before None session event keeps = keeps
keeps_before (Some clock) session (Host Sync) keeps = keeps
keeps_before (Some clock) session Tick keeps = keeps
keeps_before (Some clock) session event keeps = absurd keeps

-- a flush is no write
no_write : (queue : List Queued) → starts_with_flush queue ≡ true → starts_with_write queue ≡ false
no_write [] flush = refl
no_write (head ∷ rest) flush = at head.request flush
  where
    at : (request : Request) → is_flush request ≡ true → is_write request ≡ false
    at (Read v into) is = refl
    at (Write v from) is = absurd (false≢true is)
    at Flush is = refl

pub keeps_in_room : (session : Session) → IsSession session → (event : Event) (journal : Journal) → journal.count ≤ journal.geometry.slack → KeepsFor session event → HasRoomFor session event journal
keeps_in_room session is (Host Sync) journal few keeps = tt
keeps_in_room session is Tick journal few keeps =
    let ready = next_ready session.attachments session.requests.items (as_many session is) is.idle session.last keeps.0 keeps.1 in
    let none = needs_next session is keeps.0 ready.0 keeps.1 ready.1 false (no_write ready.0.queue.requests (keeps.2 ready.0 ready.1)) in
    omega (arith, none)
keeps_in_room session is event journal few keeps = absurd keeps
