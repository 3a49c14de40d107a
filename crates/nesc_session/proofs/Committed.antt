-- After a commit the session goes with its disk, in the state in which the files are kept.
use Rattle.std.proofs.Common.{◌≡◌, inl, inr, ℕ, ◌≤◌, List, length, true, refl, sym, ◌∙◌, subst}
use Rattle.std.specs.Prelude.{Err, IfOk, Ok, OnOk, Result}
use Rattle.nesc_base.specs.declared.block.Block.{Block}
use Rattle.nesc_base.specs.declared.disk.DiskFault.{DiskFault}
use Rattle.nesc_base.specs.declared.geometry.Geometry.{Geometry}
use Rattle.nesc_base.specs.Disk.{Known}
use Rattle.nesc_base.specs.Files.{Files}
use Rattle.nesc_base.specs.Geometry.{total}
use Rattle.nesc_base.specs.Places.{Places}
use Rattle.slot_layout.specs.Slots.{AreClosed}
use Rattle.image_layout.specs.Opens.{Opens}
use Rattle.image_layout.proofs.Beside.{opens_standing}
use Rattle.host_journal.specs.Committing.{Commits}
use Rattle.host_journal.specs.Journal.{Journal, started_anew}
use Rattle.host_journal.specs.Kept as journal
use Rattle.host_journal.specs.Staged.{now_of}
use Rattle.host_journal.proofs.Overlaid.{keeps_gates}
use Rattle.file_layer.specs.Showing.{Shows}
use Rattle.file_layer.proofs.ShownFiles.{shows_some}
use Rattle.file_layer.proofs.StillTogether.{commits_on}
use Rattle.nesc_session.specs.Resting.{IsSession, Rests}
use Rattle.nesc_session.specs.Stepping.{KeepsFiles, LeavesBoth}
use Rattle.nesc_session.specs.declared.session.Session.{Session}
use Rattle.nesc_session.proofs.Leaving.{leaves_wider, one_division, opens_as}
use Rattle.nesc_session.proofs.StillOpens.{opens_kept, opens_now, shows_anew}

-- the session with another journal
abbrev pub with_journal : Session → Journal → Session
with_journal session other = record session { journal = other }

-- what it is in itself does not hang on its journal
pub same_session : (session : Session) (other : Journal) → IsSession session → IsSession (with_journal session other)
same_session session other is = record {
  machine = is.machine;
  division = is.division;
  attachments = is.attachments;
  functions = is.functions;
  last = is.last;
  used = is.used;
  idle = is.idle;
  few = is.few;
}

module _ (old : Session) (before after : Known) (rests : Rests old before) where
  -- what is kept now opens, with what is staged, as some files
  some_now : before.tells ≡ true → (kept : List Block) × journal.IsKept old.journal.geometry before kept × ((files : Files) × (places : Places) × Opens (now_of old.journal.staged kept) old.journal.geometry files places)
  some_now tells =
      let geometry : Geometry = old.journal.geometry in
      let some = rests.rests.rests.kept tells in
      let kept : List Block = some.0 in
      let opened = rests.opens tells in
      let opens = opens_kept geometry before.contents kept opened.0 opened.1 (rests.rests.rests.closed tells) some.1.gates some.1.stands opened.2 in
      let enough : total old.files.geometry ≤ length kept = subst (λ g. total g ≤ length kept) rests.rests.fits.same opens.divided.enough in
      let shown = shows_some old.files old.journal.staged kept rests.rests.fits.layer enough (rests.rests.parts tells kept some.1) in
      (kept, some.1, (shown.0, shown.1, opens_now old.files old.journal kept shown.0 shown.1 rests.rests.fits some.1.gates opens.divided shown.2))

  module _ (clock : ℕ) (commits : Commits old.journal.geometry old.journal.staged before after (Ok clock)) where
    pub committed_rests : journal.Rests (started_anew old.journal) after → Rests (with_journal old (started_anew old.journal)) after
    committed_rests anew = record {
      sound = same_session old (started_anew old.journal) rests.sound;
      rests = commits_on old.files old.journal before after clock rests.rests commits anew;
      opens = λ tells.
          let told : before.tells ≡ true = sym commits.goes.still_tells ∙ tells in
          let some = some_now told in
          let stood = commits.kept told (rests.rests.rests.closed told) some.0 some.1 in
          (some.2.0, some.2.1, opens_standing after.contents (now_of old.journal.staged some.0) old.journal.geometry some.2.0 some.2.1 stood.gates stood.stands some.2.2);
    }

    pub committed_keeps : KeepsFiles old before clock (with_journal old (started_anew old.journal)) after
    committed_keeps tells kept state placed is =
        let now : List Block = now_of old.journal.staged kept in
        let shown : Shows old.files old.journal.staged kept state.now placed.now = is.stands.now in (
          now,
          record {
            has_kept = commits.kept tells (rests.rests.rests.closed tells) kept is.has_kept;
            stands = record {
              now = shows_anew old.files old.journal.staged kept state.now placed.now shown;
              kept_files = opens_now old.files old.journal kept state.now placed.now rests.rests.fits is.has_kept.gates is.stands.kept_files.divided shown;
              functions = is.stands.functions;
              last = is.stands.last;
              count = refl;
            };
          },
        )

  -- every image on the way opens as the files of before or of after
  pub committed_leaves : {T : Type 0} (result : Result T DiskFault) → Commits old.journal.geometry old.journal.staged before after result → LeavesBoth old before after
  committed_leaves result commits tells kept state placed is =
      let geometry : Geometry = old.journal.geometry in
      let same = one_division old before rests in
      let now : List Block = now_of old.journal.staged kept in
      let closed : AreClosed geometry now = keeps_gates old.journal rests.rests.fits.sound kept is.has_kept.gates in
      let opens : Opens now geometry state.now placed.now = opens_now old.files old.journal kept state.now placed.now rests.rests.fits is.has_kept.gates is.stands.kept_files.divided is.stands.now in
      leaves_wider _ _ before after (λ _ image either. elim either [
        | inl stands ↦ inl (opens_as geometry old.setting.geometry image kept state.kept placed.kept same is.has_kept.gates is.stands.kept_files stands)
        | inr stands ↦ inr (tt, opens_as geometry old.setting.geometry image now state.now placed.now same closed opens stands)
      ]) (commits.leaves tells (rests.rests.rests.closed tells) kept is.has_kept)

-- what the journal says of a commit, said of the session
pub commit_done : (old : Session) (before after : Known) → Rests old before → (result : Result ℕ DiskFault) (other : Journal) → Commits old.journal.geometry old.journal.staged before after result
    → OnOk result (other ≡ started_anew old.journal) → OnOk result (journal.Rests other after)
    → IfOk result (λ clock. Rests (with_journal old other) after × KeepsFiles old before clock (with_journal old other) after)
commit_done old before after rests (Ok clock) other commits started anew =
    subst (λ (j : Journal). Rests (with_journal old j) after × KeepsFiles old before clock (with_journal old j) after) (sym started)
    (committed_rests old before after rests clock commits (subst (λ (j : Journal). journal.Rests j after) started anew), committed_keeps old before after rests clock commits)
commit_done old before after rests (Err fault) other commits started anew = tt
