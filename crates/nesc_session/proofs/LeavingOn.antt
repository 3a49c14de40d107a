-- What stops leave in a step, from what they leave in the commit that comes before it and in the event.
use Rattle.std.proofs.Common.{ℕ, Some, inl, inr, ◌∙◌}
use Rattle.nesc_base.specs.Disk.{Goes, Known}
use Rattle.host_journal.proofs.Stretches.{leaves_on}
use Rattle.nesc_session.specs.Stepping.{LeavesBoth, LeavesBy, MakesRoom, made_room}
use Rattle.nesc_session.specs.declared.session.Session.{Session}
use Rattle.nesc_session.proofs.Leaving.{leaves_wider}

-- for a lesser cause
pub leaves_by_wider : (P Q : Type 0) (session : Session) (before after : Known) → (P → Q) → LeavesBy P session before after → LeavesBy Q session before after
leaves_by_wider P Q session before after wider leaves tells kept state placed is = leaves_wider _ _ before after (λ _ image opens. elim opens [
  | inl old ↦ inl old
  | inr new ↦ inr (wider new.0, new.1)
]) (leaves tells kept state placed is)

-- a commit comes, and then the event
pub leaves_behind : (P Q : Type 0) (session : Session) (clock : ℕ) (before between after : Known) → P → Goes before between → Goes between after → LeavesBoth session before between
    → MakesRoom session before (Some clock) (made_room (Some clock) session) between → LeavesBy Q (made_room (Some clock) session) between after → LeavesBy P session before after
leaves_behind P Q session clock before between after cause first second early makes late tells kept state placed is =
    let after_that = makes tells kept state placed is in
    leaves_on _ before between after first
    (leaves_wider _ _ before between (λ _ image opens. elim opens [
      | inl old ↦ inl old
      | inr new ↦ inr (cause, new.1)
    ]) (early tells kept state placed is))
    second
    (leaves_wider _ _ between after (λ _ image opens. elim opens [
      | inl old ↦ inr (cause, old)
      | inr new ↦ inr (cause, new.1)
    ]) (late (first.still_tells ∙ tells) after_that.0 _ _ after_that.1))
