-- What stops leave while the machine is opened: what stands for the same as before.
use Rattle.std.proofs.Common.{◌≡◌, ◌⊎◌, inl, inr, ℕ, List, true, sym, ap, ◌∙◌, subst}
use Rattle.std.specs.Prelude.{IsErr, IsErrOf, IsOk, Result}
use Rattle.std.specs.Result.{is_ok}
use Rattle.std.proofs.lemmas.Bool.{false≢true}
use Rattle.nesc_base.specs.declared.block.Block.{Block}
use Rattle.nesc_base.specs.declared.geometry.Geometry.{Geometry}
use Rattle.nesc_base.specs.Disk.{Goes, IsSettled, Known, Unchanged, WritesAt, nowhere}
use Rattle.nesc_base.proofs.DiskCalls.{goes_on, writes_none, writes_on}
use Rattle.slot_layout.specs.Slots.{StandsFor}
use Rattle.image_layout.specs.declared.fault.ImageFault.{ImageFault}
use Rattle.image_layout.specs.declared.fault.OpenFault.{OpenFault}
use Rattle.image_layout.specs.declared.fault.OpenFault.TheVariants.{Image}
use Rattle.image_layout.specs.Opens.{IsDivided}
use Rattle.image_layout.proofs.OneReading.{one_superblock}
use Rattle.slot_layout.specs.Slots.{block_at}
use Rattle.host_journal.specs.declared.journal.StartFault.{StartFault}
use Rattle.host_journal.specs.declared.journal.StartFault.TheVariants.{BadList, Disk}
use Rattle.host_journal.specs.Kept.{Leaves}
use Rattle.host_journal.specs.Starting.{LeavesFromSync, Starts}
use Rattle.host_journal.proofs.Stretches.{LeftByNow, LeftNow, leaves_on}
use Rattle.nesc_session.specs.Opening.{IsBeforeReplay, LeavesOpened}
use Rattle.nesc_session.proofs.Leaving.{leaves_read, leaves_settled}

-- an image is divided in one way
one_way : (image : List Block) (one other : Geometry) → IsDivided image one → IsDivided image other → one ≡ other
one_way image one other first second = one_superblock (block_at image 0) one other first.super second.super

failed_not_ok : {T : Type 0} (started : Result T StartFault) → IsOk started → ¬ IsErrOf started (Disk _)
failed_not_ok started ok is = false≢true (sym (ap is_ok is) ∙ ok)

module _ {D : Type 0} (known : D → Known) (old read : D) (goes : Goes (known old) (known read)) (unchanged : Unchanged (known old) (known read))
    (left_now : LeftNow (known old)) (by_now : LeftByNow (known old)) where
  unwritten : WritesAt nowhere (known old) (known read)
  unwritten = writes_none nowhere (known old) (known read) by_now unchanged

  -- It was only read.
  pub leaves_where_read : {T : Type 0} (result : Result T OpenFault) → IsErr result → LeavesOpened known old read result
  leaves_where_read result failed = record {
    synced = λ tells geometry kept divided stands. inr (failed, unwritten);
    settled = λ tells geometry kept divided settled stands. leaves_settled (λ image. StandsFor geometry image kept) (known old) (known read) left_now goes unwritten settled stands;
    unwritten = λ fault is early. unwritten;
  }

  module _ (geometry : Geometry) (divided : (known old).tells ≡ true → IsDivided (known old).contents geometry) (new : D) (started : Result (Unit {0}) StartFault)
      (starts : Starts known geometry read new started) where
    told : (known old).tells ≡ true → (known read).tells ≡ true
    told tells = goes.still_tells ∙ tells

    stood : (known old).tells ≡ true → (kept : List Block) → StandsFor geometry (known old).contents kept → StandsFor geometry (known read).contents kept
    stood tells kept stands = subst (λ (blocks : List Block). StandsFor geometry blocks kept) (sym (unchanged.contents tells)) stands

    -- from the end of the first sync on, or the disk failed before anything was written
    from_sync : (known old).tells ≡ true → (kept : List Block) → StandsFor geometry (known old).contents kept
        → LeavesFromSync known geometry kept old new ⊎ (IsErrOf started (Disk _) × WritesAt nowhere (known old) (known new))
    from_sync tells kept stands = elim (starts.leaves (told tells) kept (stood tells kept stands)) [
      | inl leaves ↦ inl (record {
        synced = leaves.synced;
        sync = record {
          goes = goes_on (known old) (known read) (known leaves.synced) goes leaves.sync.goes;
          contents = λ tells. leaves.sync.contents (told tells) ∙ unchanged.contents tells;
          settled = λ tells. leaves.sync.settled (told tells);
          writes = writes_on nowhere (known old) (known read) (known leaves.synced) goes unwritten leaves.sync.goes leaves.sync.writes;
        };
        goes = leaves.goes;
        leaves = leaves.leaves;
      })
      | inr failed ↦ inr (failed.0, writes_on nowhere (known old) (known read) (known new) goes unwritten starts.goes failed.1)
    ]

    -- all the way, where nothing was unsynced
    from_settled : (known old).tells ≡ true → IsSettled (known old) → (kept : List Block) → StandsFor geometry (known old).contents kept
        → Leaves (λ image. StandsFor geometry image kept) (known old) (known new)
    from_settled tells settled kept stands =
        leaves_on (λ image. StandsFor geometry image kept) (known old) (known read) (known new) goes
        (leaves_settled (λ image. StandsFor geometry image kept) (known old) (known read) left_now goes unwritten settled stands)
        starts.goes
        (starts.leaves_settled (told tells) (λ at is. settled at ((unchanged.unsynced tells at).0 is)) kept (stood tells kept stands))

    -- The journal was not started, and what the machine is refused for is its list, where that is an image's fault.
    pub leaves_where_not_started : {T : Type 0} (result : Result T OpenFault) → IsErr result → ((fault : ImageFault) → IsErrOf result (Image fault) → (block : ℕ) × IsErrOf started (BadList block))
        → LeavesOpened known old new result
    leaves_where_not_started result failed of_list = record {
      synced = λ tells other kept apart stands.
          let same : geometry ≡ other = one_way (known old).contents geometry other (divided tells) apart in
          elim (from_sync tells kept (subst (λ g. StandsFor g (known old).contents kept) (sym same) stands)) [
            | inl leaves ↦ inl (subst (λ g. LeavesFromSync known g kept old new) same leaves)
            | inr not ↦ inr (failed, not.1)
          ];
      settled = λ tells other kept apart settled stands.
          let same : geometry ≡ other = one_way (known old).contents geometry other (divided tells) apart in
          subst (λ g. Leaves (λ image. StandsFor g image kept) (known old) (known new)) same
          (from_settled tells settled kept (subst (λ g. StandsFor g (known old).contents kept) (sym same) stands));
      unwritten = λ fault is early.
          let bad = of_list fault is in
          writes_on nowhere (known old) (known read) (known new) goes unwritten starts.goes (starts.unwritten bad.0 bad.1);
    }

    -- It was, and then the files were read.
    module _ (ok : IsOk started) (last : D) (on : Goes (known new) (known last)) (still : Unchanged (known new) (known last)) (left_then : LeftNow (known new)) (by_then : LeftByNow (known new)) where
      pub leaves_where_loaded : {T : Type 0} (result : Result T OpenFault) → ((known old).tells ≡ true → (fault : ImageFault) → IsErrOf result (Image fault) → ¬ IsBeforeReplay fault)
          → LeavesOpened known old last result
      leaves_where_loaded result late = record {
        synced = λ tells other kept apart stands.
            let same : geometry ≡ other = one_way (known old).contents geometry other (divided tells) apart in
            elim (from_sync tells kept (subst (λ g. StandsFor g (known old).contents kept) (sym same) stands)) [
              | inl leaves ↦ inl (subst (λ g. LeavesFromSync known g kept old last) same (record {
                synced = leaves.synced;
                sync = leaves.sync;
                goes = goes_on (known leaves.synced) (known new) (known last) leaves.goes on;
                leaves = leaves_read (λ image. StandsFor geometry image kept) (known leaves.synced) (known new) (known last) left_then by_then leaves.goes leaves.leaves on still;
              }))
              | inr not ↦ absurd (failed_not_ok started ok not.0)
            ];
        settled = λ tells other kept apart settled stands.
            let same : geometry ≡ other = one_way (known old).contents geometry other (divided tells) apart in
            subst (λ g. Leaves (λ image. StandsFor g image kept) (known old) (known last)) same
            (leaves_read (λ image. StandsFor geometry image kept) (known old) (known new) (known last) left_then by_then (goes_on (known old) (known read) (known new) goes starts.goes)
            (from_settled tells settled kept (subst (λ g. StandsFor g (known old).contents kept) (sym same) stands)) on still);
        unwritten = λ fault is early. record {
          contents = λ tells. absurd (late tells fault is early);
          unsynced = λ tells at unsynced. absurd (late tells fault is early);
          left = λ tells k image past before left. absurd (late tells fault is early);
        };
      }
