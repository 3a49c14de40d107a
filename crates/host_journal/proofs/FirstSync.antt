-- A start is a sync and a replay behind it, or the sync alone, where it failed.
use Rattle.std.proofs.Common.{◌≡◌, inl, inr, ℕ, ◌≤◌, List, Result, Ok, Err, refl, sym, ap, ◌∙◌, subst}
use Rattle.std.specs.Prelude.{IsErr, true}
use Rattle.std.specs.Result.{IsErrAnd}
use Rattle.std.proofs.lemmas.Result.{on_ok_weaker}
use Rattle.nesc_base.specs.declared.block.Block.{Block}
use Rattle.nesc_base.specs.declared.disk.DiskFault.{DiskFault}
use Rattle.nesc_base.specs.declared.geometry.Geometry.{Geometry}
use Rattle.nesc_base.specs.Disk.{DiffersAt, Goes, IsSettled, Known, LeavesSince, OrUnsynced, WritesAt, nowhere}
use Rattle.nesc_base.specs.Fault.{HasCause}
use Rattle.nesc_base.proofs.Causes.{cause_on}
use Rattle.nesc_base.proofs.Differing.{differs_nowhere, differs_wider}
use Rattle.nesc_base.proofs.DiskCalls.{could_leave_before, goes_on, settled_left, since_on, since_wider, since_written, writes_on, writes_wider}
use Rattle.slot_layout.specs.Slots.{LacksList, StandsFor}
use Rattle.host_journal.specs.Replays.{AreZeroed, IsWrittenByReplay, Replays}
use Rattle.host_journal.specs.Starting.{IsSynced, Starts}
use Rattle.host_journal.proofs.Stretches.{LeftNow}
use Rattle.host_journal.specs.declared.journal.StartFault.{StartFault}
use Rattle.host_journal.specs.declared.journal.StartFault.TheVariants as fault

-- what is said of where a disk is written has to be said of one that tells alone
pub writes_where_told : (P : ℕ → Type 0) (old new : Known) → (old.tells ≡ true → WritesAt P old new) → WritesAt P old new
writes_where_told P old new told = record {
  contents = λ tells. (told tells).contents tells;
  unsynced = λ tells. (told tells).unsynced tells;
  left = λ tells. (told tells).left tells;
}

-- from a settled moment on, while nothing is written, every image is what the disk read as
same_image : (old : Known) → IsSettled old → (image : List Block) → DiffersAt (OrUnsynced nowhere old) old.contents image → image ≡ old.contents
same_image old settled image differs = differs_nowhere old.contents image (differs_wider (OrUnsynced nowhere old) nowhere old.contents image only differs)
  where
    only : (at : ℕ) → OrUnsynced nowhere old at → nowhere at
    only at (inl none) = none
    only at (inr unsynced) = settled at unsynced

pub since_settled : (P : List Block → Type 0) (old new : Known) → LeftNow old → Goes old new → WritesAt nowhere old new → (old.tells ≡ true → IsSettled old) → P old.contents → LeavesSince (λ _. P) old new
since_settled P old new left_now goes writes settled is =
    since_wider (λ _. DiffersAt (OrUnsynced nowhere old) old.contents) (λ _. P) old new
    (λ tells k image differs. subst P (sym (same_image old (settled tells) image differs)) is)
    (since_written nowhere old new left_now goes writes)

module _ {D : Type 0} (known : D → Known) (geometry : Geometry) (old new : D) (left_now : LeftNow (known old)) where
  -- the sync failed
  pub sync_failed : (found : DiskFault) → Goes (known old) (known new) → WritesAt nowhere (known old) (known new) → HasCause (known old).faults (known new).faults (IsErr {T = Unit {0}} (Err found))
      → Starts known geometry old new (Err (fault.Disk found))
  sync_failed found goes writes cause = record {
    stands = λ tells. tt;
    kept = λ tells kept gates is. tt;
    closed = λ tells. tt;
    bad_list = λ tells block lacks. inr refl;
    no_other = λ tells block is. absurd (let other = is in cc);
    unwritten = λ block is. writes;
    unwritten_where_bad = λ tells block lacks. writes;
    leaves = λ tells kept is. inr (refl, writes);
    leaves_settled = λ tells settled kept is. record {
      since = since_settled (λ image. StandsFor geometry image kept) (known old) (known new) left_now goes writes (λ _. settled) is;
      now = λ _ image could. subst (λ (blocks : List Block). StandsFor geometry blocks kept) (sym (settled_left (known old) image (could_leave_before (known old) (known new) image tells writes could) settled)) is;
    };
    writes = writes_wider nowhere (IsWrittenByReplay geometry (known old).contents) (known old) (known new) (λ at none. absurd none) writes;
    zeroed = λ tells. tt;
    goes = goes;
    cause = record { never_falls = cause.never_falls; rose = λ is. cause.rose refl };
  }

  module _ (mid : D) (result : Result (Unit {0}) StartFault) (synced : IsSynced (known old) (known mid)) (never_falls : (known old).faults ≤ (known mid).faults) (replays : Replays geometry (known mid) (known new) result) where
    told : (known old).tells ≡ true → (known mid).tells ≡ true
    told tells = synced.goes.still_tells ∙ tells

    -- what the disk stood for it stands for
    stood : (known old).tells ≡ true → (kept : List Block) → StandsFor geometry (known old).contents kept → StandsFor geometry (known mid).contents kept
    stood tells kept is = subst (λ (blocks : List Block). StandsFor geometry blocks kept) (sym (synced.contents tells)) is

    lacked : (known old).tells ≡ true → (block : ℕ) → LacksList geometry (known old).contents block → LacksList geometry (known mid).contents block
    lacked tells block lacks = subst (λ (blocks : List Block). LacksList geometry blocks block) (sym (synced.contents tells)) lacks

    none_written : WritesAt nowhere (known mid) (known new) → WritesAt nowhere (known old) (known new)
    none_written writes = writes_on nowhere (known old) (known mid) (known new) synced.goes synced.writes replays.goes writes

    pub sync_and_replay : Starts known geometry old new result
    sync_and_replay = record {
      stands = λ tells. on_ok_weaker result (λ some. (some.0, some.1, subst (λ (blocks : List Block). StandsFor geometry blocks some.0) (synced.contents tells) some.2)) (replays.stands (told tells));
      kept = λ tells kept gates is. replays.kept (told tells) (synced.settled tells) kept gates (stood tells kept is);
      closed = λ tells. replays.closed (told tells);
      bad_list = λ tells block lacks. replays.bad_list (told tells) block (lacked tells block lacks);
      no_other = λ tells block is. subst (λ (blocks : List Block). LacksList geometry blocks block) (synced.contents tells) (replays.no_other (told tells) block is);
      unwritten = λ block is. none_written (replays.unwritten block is);
      unwritten_where_bad = λ tells block lacks. none_written (replays.unwritten_where_bad (told tells) block (lacked tells block lacks));
      leaves = λ tells kept is. inl (record { synced = mid; sync = synced; goes = replays.goes; leaves = replays.leaves (told tells) (synced.settled tells) kept (stood tells kept is) });
      leaves_settled = λ tells settled kept is.
          let after = replays.leaves (told tells) (synced.settled tells) kept (stood tells kept is) in
          let before : LeavesSince (λ _ image. StandsFor geometry image kept) (known old) (known mid) =
          since_settled (λ image. StandsFor geometry image kept) (known old) (known mid) left_now synced.goes synced.writes (λ _. settled) is in
          record {
            since = since_on (λ _ image. StandsFor geometry image kept) (known old) (known mid) (known new) synced.goes before replays.goes after.since;
            now = λ tells image could. after.now (told tells) image could;
          };
      writes = writes_where_told (IsWrittenByReplay geometry (known old).contents) (known old) (known new) (λ tells.
          writes_on (IsWrittenByReplay geometry (known old).contents) (known old) (known mid) (known new) synced.goes
          (writes_wider nowhere (IsWrittenByReplay geometry (known old).contents) (known old) (known mid) (λ at none. absurd none) synced.writes)
          replays.goes
          (subst (λ (blocks : List Block). WritesAt (IsWrittenByReplay geometry blocks) (known mid) (known new)) (synced.contents tells) replays.writes));
      zeroed = λ tells. on_ok_weaker result (λ zeroed. subst (λ (blocks : List Block). AreZeroed geometry blocks (known new).contents) (synced.contents tells) zeroed) (replays.zeroed (told tells));
      goes = goes_on (known old) (known mid) (known new) synced.goes replays.goes;
      cause = cause_on (known old).faults (known mid).faults (known new).faults _ never_falls replays.cause;
    }

-- what an error became
pub err_of : {T E : Type 0} (result : Result T E) (P : E → Type 0) (found : E) → ((e : E) → P e → e ≡ found) → IsErr result × IsErrAnd result P → result ≡ Err found
err_of (Ok answer) P found is told = absurd (let other = told.0 in cc)
err_of (Err e) P found is told = ap (λ (x : _). Err x) (is e told.1)
