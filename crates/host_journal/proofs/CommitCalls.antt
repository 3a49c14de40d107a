-- A commit call by call.
use Rattle.std.proofs.Common.{◌≡◌, ◌⊎◌, inl, inr, ℕ, ◌≤◌, true, false, List, [], ◌∷◌, Result, Ok, length, refl, sym, ap, ◌∙◌, subst, arith}
use Rattle.std.specs.Prelude.{Contains, IsErr, OnOk, slice_set}
use Rattle.std.proofs.lemmas.Bool.{cases_lt}
use Rattle.std.proofs.lemmas.Result.{IfOk-from_err, on_ok_weaker}
use Rattle.nesc_base.specs.declared.block.Block.{Block}
use Rattle.nesc_base.specs.declared.disk.DiskFault.{DiskFault}
use Rattle.nesc_base.specs.declared.geometry.Geometry.{Geometry}
use Rattle.nesc_base.specs.Block.{zero_block}
use Rattle.nesc_base.specs.Disk.{DiffersAt, Goes, IsSettled, Known, WritesAt, here}
use Rattle.nesc_base.specs.Fault.{HasCause}
use Rattle.nesc_base.specs.Geometry.{slot_at, total}
use Rattle.nesc_base.proofs.Causes.{cause_on}
use Rattle.nesc_base.proofs.Differing.{differs_wider}
use Rattle.nesc_base.proofs.DiskCalls.{goes_on, writes_on, writes_wider}
use Rattle.slot_layout.specs.Gate.{is_open, open_gate}
use Rattle.slot_layout.specs.Slots.{AreAlike, AreClosed, gate, laid_over}
use Rattle.slot_layout.specs.Targets.{AreTargets}
use Rattle.slot_layout.proofs.Alike.{alike_on, alike_where_closed, first_closed, stands_for_alike, zero_gate}
use Rattle.host_journal.specs.Committing.{Commits, IsWrittenByCommit, WritesOut, blocks_of_list, data_places, list_places}
use Rattle.host_journal.specs.Kept.{IsKept, Leaves, StandsForEither}
use Rattle.host_journal.specs.Staged.{Staged, fresh_of, now_of, targets_of}
use Rattle.host_journal.specs.Store.{AreFor, Store}
use Rattle.host_journal.proofs.CommitImages.{IsGateOrTarget, IsLoaded, contains_one, first_alike, first_gate, gate_alike, kept_alike, kept_either, loaded_either, loaded_on, loaded_open, over_alike, over_closed, put_gate, targets_gate}
use Rattle.host_journal.proofs.SlotWritten.{IsInFirst, IsReady, data_inside, list_inside, ready_written}
use Rattle.host_journal.proofs.StagedAt.{paired}
use Rattle.host_journal.proofs.Stretches.{LeftNow, Stretch, Syncs, leaves_on, leaves_stretch, on_both, stretch_on, stretch_out, stretch_synced}

-- the gates
opened_gate : is_open open_gate ≡ true
unfolding is_open open_gate
opened_gate = refl

-- How far a commit has come

-- each image since stands for what is kept or for that with what is staged
abbrev pub LeavesEither : Geometry → Staged → Known → Known → Type 0
LeavesEither geometry staged old new =
    old.tells ≡ true → AreClosed geometry old.contents → (kept : List Block) → IsKept geometry old kept → Leaves (StandsForEither geometry kept (now_of staged kept)) old new

-- It has come this far, and what it wrote lasts: the first slot is written, and what is said of the image then holds.
pub record Reaches (geometry : Geometry) (staged : Staged) (IsSo : List Block → List Block → Type 0) (old new : Known) : Type 0 where
  pub goes : Goes old new
  pub writes : WritesAt (IsWrittenByCommit geometry staged) old new
  pub never_falls : old.faults ≤ new.faults
  pub settled : old.tells ≡ true → IsSettled new
  pub loaded : old.tells ≡ true → IsLoaded geometry (targets_of staged) (fresh_of staged) old.contents new.contents
  pub so : old.tells ≡ true → IsSo old.contents new.contents
  pub leaves : LeavesEither geometry staged old new

-- the slot is written
abbrev pub IsFilled : Geometry → List Block → List Block → Type 0
IsFilled geometry first image = AreAlike geometry first image × (AreClosed geometry first → is_open (gate geometry image 1) ≡ false)

-- its gate is open
abbrev pub IsOpened : Geometry → List Block → List Block → Type 0
IsOpened geometry first image = is_open (gate geometry image 1) ≡ true

-- what is staged stands where it belongs
abbrev pub IsHome : Geometry → Staged → List Block → List Block → Type 0
IsHome geometry staged first image = AreAlike geometry (now_of staged first) image

-- the blocks of the first slot behind its gate that a commit writes
abbrev pub IsFilling : Geometry → List ℕ → ℕ → Type 0
IsFilling geometry targets at = Contains (list_places geometry targets) at ⊎ Contains (data_places geometry (length targets)) at

-- what was written for some targets was written for these, which are the same
of_list : (geometry : Geometry) (targets others : List ℕ) (a b : Known) (result : Result (Unit {0}) DiskFault) → targets ≡ others
    → WritesOut (list_places geometry targets) (blocks_of_list targets) a b result → WritesOut (list_places geometry others) (blocks_of_list others) a b result
of_list geometry targets others a b result same writes = subst (λ (ts : List ℕ). WritesOut (list_places geometry ts) (blocks_of_list ts) a b result) same writes

of_data : (geometry : Geometry) (targets others : List ℕ) (blocks : List Block) (a b : Known) (result : Result (Unit {0}) DiskFault) → targets ≡ others
    → WritesOut (data_places geometry (length targets)) blocks a b result → WritesOut (data_places geometry (length others)) blocks a b result
of_data geometry targets others blocks a b result same writes = subst (λ (ts : List ℕ). WritesOut (data_places geometry (length ts)) blocks a b result) same writes

of_targets : (targets others : List ℕ) (blocks : List Block) (a b : Known) (result : Result (Unit {0}) DiskFault) → targets ≡ others
    → WritesOut targets blocks a b result → WritesOut others blocks a b result
of_targets targets others blocks a b result same writes = subst (λ (ts : List ℕ). WritesOut ts blocks a b result) same writes

-- so it is with the gate
of_gate : (geometry : Geometry) (at : ℕ) (block other : Block) (a b : Known) (result : Result (Unit {0}) DiskFault) → at ≡ slot_at geometry 1 → block ≡ other
    → WritesOut (at ∷ []) (block ∷ []) a b result → WritesOut (slot_at geometry 1 ∷ []) (other ∷ []) a b result
of_gate geometry at block other a b result at_is block_is writes =
    subst (λ (n : ℕ). WritesOut (n ∷ []) (other ∷ []) a b result) at_is (subst (λ (x : Block). WritesOut (at ∷ []) (x ∷ []) a b result) block_is writes)

module _ (geometry : Geometry) (store : Store) (targets : List ℕ) (are : AreFor geometry store targets) (old : Known) (whole : old.tells ≡ true → length old.contents ≡ old.size) (room : total geometry ≤ old.size) where
  -- so it is for the places in what is staged, and the disk has all blocks of the image
  good : AreTargets geometry (targets_of store.staged)
  good = subst (AreTargets geometry) are.all are.good

  enough : old.tells ≡ true → total geometry ≤ length old.contents
  enough tells = omega (arith, whole tells, room)

  -- each place of a stretch is where it belongs, and one that a commit writes
  filling_inside : (at : ℕ) → IsFilling geometry (targets_of store.staged) at → IsInFirst geometry at
  filling_inside at (inl listed) = list_inside geometry (targets_of store.staged) at good listed
  filling_inside at (inr held) = data_inside geometry (targets_of store.staged) at good held

  filling_written : (at : ℕ) → IsFilling geometry (targets_of store.staged) at → IsWrittenByCommit geometry store.staged at
  filling_written at (inl listed) = inr (inl listed)
  filling_written at (inr held) = inr (inr (inl held))

  gate_written : (at : ℕ) → Contains (slot_at geometry 1 ∷ []) at → IsWrittenByCommit geometry store.staged at
  gate_written at held = inl (contains_one (slot_at geometry 1) at held)

  target_written : (at : ℕ) → Contains (targets_of store.staged) at → IsWrittenByCommit geometry store.staged at
  target_written at held = inr (inr (inr held))

  gate_either : (at : ℕ) → Contains (slot_at geometry 1 ∷ []) at → IsGateOrTarget geometry (targets_of store.staged) at
  gate_either at held = inl (contains_one (slot_at geometry 1) at held)

  target_either : (at : ℕ) → Contains (targets_of store.staged) at → IsGateOrTarget geometry (targets_of store.staged) at
  target_either at held = inr held

  -- where the gate alone was written, all beside the slots is as before
  gate_leaves : (one other : List Block) → DiffersAt (Contains (slot_at geometry 1 ∷ [])) one other → AreAlike geometry one other
  gate_leaves one other differs =
      gate_alike geometry one other (differs_wider (Contains (slot_at geometry 1 ∷ [])) (here (slot_at geometry 1)) one other (λ at held. contains_one (slot_at geometry 1) at held) differs)

  -- The images of the four stretches

  -- they stand for what is kept or now, if they do so for the first image
  leaves_kept : (P : ℕ → Type 0) (mid new : Known) → LeftNow mid → old.tells ≡ true → mid.tells ≡ true → IsSettled mid → Goes mid new → WritesAt P mid new → AreClosed geometry old.contents
      → ((image : List Block) → DiffersAt P mid.contents image → StandsForEither geometry old.contents (now_of store.staged old.contents) image)
      → (kept : List Block) → IsKept geometry old kept → Leaves (StandsForEither geometry kept (now_of store.staged kept)) mid new
  leaves_kept P mid new left_now tells told settled goes writes closed each kept is =
      let alike : AreAlike geometry kept old.contents = alike_where_closed geometry old.contents kept (first_closed geometry old.contents closed) is.stands in
      leaves_stretch P (StandsForEither geometry kept (now_of store.staged kept)) mid new left_now told settled goes writes (λ image differs.
      kept_either geometry (targets_of store.staged) (fresh_of store.staged) old.contents kept good (paired store.staged) (enough tells) alike image (each image differs))

  -- the slot is filled: its gate is closed
  leaves_filling : (new : Known) → LeftNow old → Goes old new → WritesAt (IsFilling geometry (targets_of store.staged)) old new → LeavesEither geometry store.staged old new
  leaves_filling new left_now goes writes tells closed kept is =
      leaves_kept (IsFilling geometry (targets_of store.staged)) old new left_now tells tells is.settled goes writes closed (λ image differs.
      let inside : DiffersAt (IsInFirst geometry) old.contents image = differs_wider (IsFilling geometry (targets_of store.staged)) (IsInFirst geometry) old.contents image filling_inside differs in
      inl (stands_for_alike geometry image old.contents
      (first_gate geometry old.contents image inside 1 (omega arith) ∙ first_closed geometry old.contents closed) (first_alike geometry old.contents image inside))) kept is

  -- each later stretch writes the first gate and the targets alone
  leaves_later : (IsSo : List Block → List Block → Type 0) (P : ℕ → Type 0) (mid new : Known) → LeftNow mid → Reaches geometry store.staged IsSo old mid → Goes mid new → WritesAt P mid new
      → ((at : ℕ) → P at → IsGateOrTarget geometry (targets_of store.staged) at)
      → (old.tells ≡ true → AreClosed geometry old.contents → (image : List Block) → IsLoaded geometry (targets_of store.staged) (fresh_of store.staged) old.contents image → DiffersAt P mid.contents image
      → StandsForEither geometry old.contents (now_of store.staged old.contents) image)
      → LeavesEither geometry store.staged old new
  leaves_later IsSo P mid new left_now reaches goes writes inside each tells closed kept is =
      leaves_on (StandsForEither geometry kept (now_of store.staged kept)) old mid new reaches.goes (reaches.leaves tells closed kept is) goes
      (leaves_kept P mid new left_now tells (reaches.goes.still_tells ∙ tells) (reaches.settled tells) goes writes closed (λ image differs.
      each tells closed image
      (loaded_on geometry (targets_of store.staged) (fresh_of store.staged) old.contents good mid.contents image (reaches.loaded tells)
      (differs_wider P (IsGateOrTarget geometry (targets_of store.staged)) mid.contents image inside differs)) differs)
      kept is)

  -- the gate opens: while it is closed nothing is laid over
  leaves_opening : (mid new : Known) → LeftNow mid → Reaches geometry store.staged (IsFilled geometry) old mid → Goes mid new → WritesAt (Contains (slot_at geometry 1 ∷ [])) mid new
      → LeavesEither geometry store.staged old new
  leaves_opening mid new left_now reaches goes writes =
      leaves_later (IsFilled geometry) (Contains (slot_at geometry 1 ∷ [])) mid new left_now reaches goes writes gate_either (λ tells closed image loaded differs.
      loaded_either geometry (targets_of store.staged) (fresh_of store.staged) old.contents good (paired store.staged) closed (enough tells) image loaded (λ shut.
      inl (stands_for_alike geometry image old.contents shut
      (alike_on geometry old.contents mid.contents image (reaches.so tells).0 (gate_leaves mid.contents image differs)))))

  -- the targets are written: the gate is open
  leaves_homing : (mid new : Known) → LeftNow mid → Reaches geometry store.staged (IsOpened geometry) old mid → Goes mid new → WritesAt (Contains (targets_of store.staged)) mid new
      → LeavesEither geometry store.staged old new
  leaves_homing mid new left_now reaches goes writes =
      leaves_later (IsOpened geometry) (Contains (targets_of store.staged)) mid new left_now reaches goes writes target_either (λ tells closed image loaded differs.
      inr (loaded_open geometry (targets_of store.staged) (fresh_of store.staged) old.contents good (paired store.staged) closed (enough tells) image loaded
      (targets_gate geometry (targets_of store.staged) mid.contents image good differs ∙ reaches.so tells)))

  -- the gate closes: what is staged stands where it belongs
  leaves_closing : (mid new : Known) → LeftNow mid → Reaches geometry store.staged (IsHome geometry store.staged) old mid → Goes mid new → WritesAt (Contains (slot_at geometry 1 ∷ [])) mid new
      → LeavesEither geometry store.staged old new
  leaves_closing mid new left_now reaches goes writes =
      leaves_later (IsHome geometry store.staged) (Contains (slot_at geometry 1 ∷ [])) mid new left_now reaches goes writes gate_either (λ tells closed image loaded differs.
      loaded_either geometry (targets_of store.staged) (fresh_of store.staged) old.contents good (paired store.staged) closed (enough tells) image loaded (λ shut.
      inr (stands_for_alike geometry image (now_of store.staged old.contents) shut
      (alike_on geometry (now_of store.staged old.contents) mid.contents image (reaches.so tells) (gate_leaves mid.contents image differs)))))

  -- The first three stretches, done

  -- the list alone, and the blocks behind it
  filling_list : (one : Known) (result : Result (Unit {0}) DiskFault) → WritesOut (list_places geometry targets) (blocks_of_list targets) old one result
      → Stretch (IsFilling geometry (targets_of store.staged)) old one result
  filling_list one result writes =
      let keys : List ℕ = targets_of store.staged in
      stretch_out (IsFilling geometry keys) old one (list_places geometry keys) (blocks_of_list keys) result (λ at is. inl is) (of_list geometry targets keys old one result are.all writes)

  filling_data : (one two : Known) (result : Result (Unit {0}) DiskFault) → WritesOut (list_places geometry targets) (blocks_of_list targets) old one (Ok tt)
      → WritesOut (data_places geometry (length targets)) (fresh_of store.staged) one two result → Stretch (IsFilling geometry (targets_of store.staged)) old two result
  filling_data one two result listed writes =
      let keys : List ℕ = targets_of store.staged in
      stretch_on (IsFilling geometry keys) old one two result (filling_list one (Ok tt) listed)
      (stretch_out (IsFilling geometry keys) one two (data_places geometry (length keys)) (fresh_of store.staged) result (λ at is. inr is)
      (of_data geometry targets keys (fresh_of store.staged) one two result are.all writes))

  -- the slot is written and lasts
  pub filled : (one two new : Known) → LeftNow old → WritesOut (list_places geometry targets) (blocks_of_list targets) old one (Ok tt)
      → WritesOut (data_places geometry (length targets)) (fresh_of store.staged) one two (Ok tt) → Syncs two new (Ok tt) → Reaches geometry store.staged (IsFilled geometry) old new
  filled one two new left_now list_out data_out syncs =
      let keys : List ℕ = targets_of store.staged in
      let fresh : List Block = fresh_of store.staged in
      let F : ℕ → Type 0 = IsFilling geometry keys in
      let listed : WritesOut (list_places geometry keys) (blocks_of_list keys) old one (Ok tt) = of_list geometry targets keys old one (Ok tt) are.all list_out in
      let held : WritesOut (data_places geometry (length keys)) fresh one two (Ok tt) = of_data geometry targets keys fresh one two (Ok tt) are.all data_out in
      let stretch : Stretch F old new (Ok tt) = stretch_synced F old two new (Ok tt) (filling_data one two (Ok tt) list_out data_out) syncs in
      let told_one : (old.tells ≡ true → one.tells ≡ true) = λ tells. listed.goes.still_tells ∙ tells in
      let told_two : (old.tells ≡ true → two.tells ≡ true) = λ tells. held.goes.still_tells ∙ told_one tells in
      let contents : (old.tells ≡ true → new.contents ≡ laid_over (data_places geometry (length keys)) fresh (laid_over (list_places geometry keys) (blocks_of_list keys) old.contents)) =
      λ tells. syncs.contents (told_two tells) ∙ held.laid (told_one tells) ∙ ap (laid_over (data_places geometry (length keys)) fresh) (listed.laid tells) in
      let inside : (old.tells ≡ true → DiffersAt (IsInFirst geometry) old.contents new.contents) =
      λ tells. differs_wider F (IsInFirst geometry) old.contents new.contents filling_inside (stretch.writes.contents tells) in
      record {
        goes = stretch.goes;
        writes = writes_wider F (IsWrittenByCommit geometry store.staged) old new filling_written stretch.writes;
        never_falls = stretch.cause.never_falls;
        settled = λ tells. syncs.settled (told_two tells);
        loaded = λ tells. record {
          ready = subst (IsReady geometry keys fresh) (sym (contents tells)) (ready_written geometry keys fresh good old.contents (enough tells) (paired store.staged));
          later = λ closed k from to. first_gate geometry old.contents new.contents (inside tells) k (omega arith) ∙ closed k (omega arith) to;
          others = λ at beside none. (first_alike geometry old.contents new.contents (inside tells)).each at beside;
        };
        so = λ tells. (
          first_alike geometry old.contents new.contents (inside tells),
          λ closed. first_gate geometry old.contents new.contents (inside tells) 1 (omega arith) ∙ first_closed geometry old.contents closed,
        );
        leaves = leaves_filling new left_now stretch.goes stretch.writes;
      }

  -- its gate is open and lasts
  pub opened : (mid new : Known) (at : ℕ) (block : Block) → LeftNow mid → Reaches geometry store.staged (IsFilled geometry) old mid → at ≡ slot_at geometry 1 → block ≡ open_gate
      → WritesOut (at ∷ []) (block ∷ []) mid new (Ok tt) → (mid.tells ≡ true → IsSettled new) → Reaches geometry store.staged (IsOpened geometry) old new
  opened mid new at block left_now reaches at_is block_is out settled =
      let put : WritesOut (slot_at geometry 1 ∷ []) (open_gate ∷ []) mid new (Ok tt) = of_gate geometry at block open_gate mid new (Ok tt) at_is block_is out in
      let told : (old.tells ≡ true → mid.tells ≡ true) = λ tells. reaches.goes.still_tells ∙ tells in
      record {
        goes = goes_on old mid new reaches.goes put.goes;
        writes = writes_on (IsWrittenByCommit geometry store.staged) old mid new reaches.goes reaches.writes put.goes
            (writes_wider (Contains (slot_at geometry 1 ∷ [])) (IsWrittenByCommit geometry store.staged) mid new gate_written put.writes);
        never_falls = omega (arith, reaches.never_falls, put.cause.never_falls);
        settled = λ tells. settled (told tells);
        loaded = λ tells.
            loaded_on geometry (targets_of store.staged) (fresh_of store.staged) old.contents good mid.contents new.contents (reaches.loaded tells)
            (differs_wider (Contains (slot_at geometry 1 ∷ [])) (IsGateOrTarget geometry (targets_of store.staged)) mid.contents new.contents gate_either (put.writes.contents (told tells)));
        so = λ tells.
            ap (λ (image : List Block). is_open (gate geometry image 1)) (put.laid (told tells))
            ∙ ap is_open (put_gate geometry mid.contents open_gate (reaches.loaded tells).ready.enough) ∙ opened_gate;
        leaves = leaves_opening mid new left_now reaches put.goes put.writes;
      }

  -- the targets are written
  homing : (mid late : Known) (result : Result (Unit {0}) DiskFault) → WritesOut targets (fresh_of store.staged) mid late result → Stretch (Contains (targets_of store.staged)) mid late result
  homing mid late result out =
      let keys : List ℕ = targets_of store.staged in
      stretch_out (Contains keys) mid late keys (fresh_of store.staged) result (λ at is. is) (of_targets targets keys (fresh_of store.staged) mid late result are.all out)

  -- and last
  pub home : (mid late new : Known) → LeftNow mid → Reaches geometry store.staged (IsOpened geometry) old mid → WritesOut targets (fresh_of store.staged) mid late (Ok tt) → Syncs late new (Ok tt)
      → Reaches geometry store.staged (IsHome geometry store.staged) old new
  home mid late new left_now reaches out syncs =
      let keys : List ℕ = targets_of store.staged in
      let fresh : List Block = fresh_of store.staged in
      let put : WritesOut keys fresh mid late (Ok tt) = of_targets targets keys fresh mid late (Ok tt) are.all out in
      let stretch : Stretch (Contains keys) mid new (Ok tt) = stretch_synced (Contains keys) mid late new (Ok tt) (homing mid late (Ok tt) out) syncs in
      let told : (old.tells ≡ true → mid.tells ≡ true) = λ tells. reaches.goes.still_tells ∙ tells in
      let told_late : (old.tells ≡ true → late.tells ≡ true) = λ tells. put.goes.still_tells ∙ told tells in
      let contents : (old.tells ≡ true → new.contents ≡ laid_over keys fresh mid.contents) = λ tells. syncs.contents (told_late tells) ∙ put.laid (told tells) in
      record {
        goes = goes_on old mid new reaches.goes stretch.goes;
        writes = writes_on (IsWrittenByCommit geometry store.staged) old mid new reaches.goes reaches.writes stretch.goes
            (writes_wider (Contains keys) (IsWrittenByCommit geometry store.staged) mid new target_written stretch.writes);
        never_falls = omega (arith, reaches.never_falls, stretch.cause.never_falls);
        settled = λ tells. syncs.settled (told_late tells);
        loaded = λ tells.
            loaded_on geometry keys fresh old.contents good mid.contents new.contents (reaches.loaded tells)
            (differs_wider (Contains keys) (IsGateOrTarget geometry keys) mid.contents new.contents target_either (stretch.writes.contents (told tells)));
        so = λ tells.
            let loaded : IsLoaded geometry keys fresh old.contents mid.contents = reaches.loaded tells in
            subst (AreAlike geometry (now_of store.staged old.contents)) (sym (contents tells))
            (over_alike geometry keys fresh old.contents mid.contents (paired store.staged) good.below (enough tells) loaded.ready.enough loaded.others);
        leaves = leaves_homing mid new left_now reaches stretch.goes stretch.writes;
      }

  -- The whole

  -- a call failed on the way: no clause on what is done speaks
  Commits-failed : (new : Known) (answer : Result (Unit {0}) DiskFault) → IsErr answer → Goes old new → WritesAt (IsWrittenByCommit geometry store.staged) old new
      → HasCause old.faults new.faults (IsErr answer) → LeavesEither geometry store.staged old new → Commits geometry store.staged old new answer
  Commits-failed new answer told goes writes cause leaves = record {
    goes = goes;
    kept = λ tells closed kept is. IfOk-from_err answer _ told;
    closed = λ tells closed. IfOk-from_err answer _ told;
    leaves = leaves;
    slot = λ tells some. IfOk-from_err answer _ told;
    writes = writes;
    cause = cause;
  }

  -- before the slot was sure to last
  Commits-not_filled : (new : Known) (result answer : Result (Unit {0}) DiskFault) → LeftNow old → IsErr result → IsErr answer → Stretch (IsFilling geometry (targets_of store.staged)) old new result
      → Commits geometry store.staged old new answer
  Commits-not_filled new result answer left_now failed told stretch =
      Commits-failed new answer told stretch.goes (writes_wider (IsFilling geometry (targets_of store.staged)) (IsWrittenByCommit geometry store.staged) old new filling_written stretch.writes)
      (record { never_falls = stretch.cause.never_falls; rose = λ _. stretch.cause.rose failed })
      (leaves_filling new left_now stretch.goes stretch.writes)

  -- at the list, at the blocks behind it, and at the sync
  pub Commits-not_listed : (new : Known) (result answer : Result (Unit {0}) DiskFault) → LeftNow old → IsErr result → IsErr answer → WritesOut (list_places geometry targets) (blocks_of_list targets) old new result
      → Commits geometry store.staged old new answer
  Commits-not_listed new result answer left_now failed told listed = Commits-not_filled new result answer left_now failed told (filling_list new result listed)

  pub Commits-not_held : (one new : Known) (result answer : Result (Unit {0}) DiskFault) → LeftNow old → IsErr result → IsErr answer → WritesOut (list_places geometry targets) (blocks_of_list targets) old one (Ok tt)
      → WritesOut (data_places geometry (length targets)) (fresh_of store.staged) one new result → Commits geometry store.staged old new answer
  Commits-not_held one new result answer left_now failed told listed held = Commits-not_filled new result answer left_now failed told (filling_data one new result listed held)

  pub Commits-not_sure : (one two new : Known) (result answer : Result (Unit {0}) DiskFault) → LeftNow old → IsErr result → IsErr answer → WritesOut (list_places geometry targets) (blocks_of_list targets) old one (Ok tt)
      → WritesOut (data_places geometry (length targets)) (fresh_of store.staged) one two (Ok tt) → Syncs two new result → Commits geometry store.staged old new answer
  Commits-not_sure one two new result answer left_now failed told listed held syncs =
      Commits-not_filled new result answer left_now failed told
      (stretch_synced (IsFilling geometry (targets_of store.staged)) old two new result (filling_data one two (Ok tt) listed held) syncs)

  -- behind what it has reached
  Commits-later : (IsSo : List Block → List Block → Type 0) (P : ℕ → Type 0) (mid new : Known) (result answer : Result (Unit {0}) DiskFault) → IsErr result → IsErr answer
      → Reaches geometry store.staged IsSo old mid → ((at : ℕ) → P at → IsWrittenByCommit geometry store.staged at) → Stretch P mid new result → LeavesEither geometry store.staged old new
      → Commits geometry store.staged old new answer
  Commits-later IsSo P mid new result answer failed told reaches wider stretch leaves =
      Commits-failed new answer told (goes_on old mid new reaches.goes stretch.goes)
      (writes_on (IsWrittenByCommit geometry store.staged) old mid new reaches.goes reaches.writes stretch.goes (writes_wider P (IsWrittenByCommit geometry store.staged) mid new wider stretch.writes))
      (cause_on old.faults mid.faults new.faults (IsErr answer) reaches.never_falls (record { never_falls = stretch.cause.never_falls; rose = λ _. stretch.cause.rose failed })) leaves

  -- at the gate
  pub Commits-not_opened : (mid new : Known) (at : ℕ) (block : Block) (result answer : Result (Unit {0}) DiskFault) → LeftNow mid → IsErr result → IsErr answer
      → Reaches geometry store.staged (IsFilled geometry) old mid → at ≡ slot_at geometry 1 → WritesOut (at ∷ []) (block ∷ []) mid new result → Commits geometry store.staged old new answer
  Commits-not_opened mid new at block result answer left_now failed told reaches at_is out =
      let P : ℕ → Type 0 = Contains (slot_at geometry 1 ∷ []) in
      let put : WritesOut (slot_at geometry 1 ∷ []) (block ∷ []) mid new result = of_gate geometry at block block mid new result at_is refl out in
      Commits-later (IsFilled geometry) P mid new result answer failed told reaches gate_written (stretch_out P mid new (slot_at geometry 1 ∷ []) (block ∷ []) result (λ n is. is) put)
      (leaves_opening mid new left_now reaches put.goes put.writes)

  -- before the targets were sure to last
  Commits-not_home : (mid new : Known) (result answer : Result (Unit {0}) DiskFault) → LeftNow mid → IsErr result → IsErr answer → Reaches geometry store.staged (IsOpened geometry) old mid
      → Stretch (Contains (targets_of store.staged)) mid new result → Commits geometry store.staged old new answer
  Commits-not_home mid new result answer left_now failed told reaches stretch =
      Commits-later (IsOpened geometry) (Contains (targets_of store.staged)) mid new result answer failed told reaches target_written stretch
      (leaves_homing mid new left_now reaches stretch.goes stretch.writes)

  -- at the targets, and at the sync behind them
  pub Commits-not_written : (mid new : Known) (result answer : Result (Unit {0}) DiskFault) → LeftNow mid → IsErr result → IsErr answer → Reaches geometry store.staged (IsOpened geometry) old mid
      → WritesOut targets (fresh_of store.staged) mid new result → Commits geometry store.staged old new answer
  Commits-not_written mid new result answer left_now failed told reaches out = Commits-not_home mid new result answer left_now failed told reaches (homing mid new result out)

  pub Commits-not_lasting : (mid late new : Known) (result answer : Result (Unit {0}) DiskFault) → LeftNow mid → IsErr result → IsErr answer → Reaches geometry store.staged (IsOpened geometry) old mid
      → WritesOut targets (fresh_of store.staged) mid late (Ok tt) → Syncs late new result → Commits geometry store.staged old new answer
  Commits-not_lasting mid late new result answer left_now failed told reaches out syncs =
      Commits-not_home mid new result answer left_now failed told reaches
      (stretch_synced (Contains (targets_of store.staged)) mid late new result (homing mid late (Ok tt) out) syncs)

  -- the last stretch, whatever it answered
  pub Commits-closed : (mid new : Known) (at : ℕ) (block : Block) (result : Result (Unit {0}) DiskFault) → LeftNow mid → Reaches geometry store.staged (IsHome geometry store.staged) old mid
      → at ≡ slot_at geometry 1 → block ≡ zero_block → WritesOut (at ∷ []) (block ∷ []) mid new result → (mid.tells ≡ true → OnOk result (IsSettled new)) → Commits geometry store.staged old new result
  Commits-closed mid new at block result left_now reaches at_is block_is out settled =
      let put : WritesOut (slot_at geometry 1 ∷ []) (zero_block ∷ []) mid new result = of_gate geometry at block zero_block mid new result at_is block_is out in
      let keys : List ℕ = targets_of store.staged in
      let fresh : List Block = fresh_of store.staged in
      let told : (old.tells ≡ true → mid.tells ≡ true) = λ tells. reaches.goes.still_tells ∙ tells in
      let loaded : (old.tells ≡ true → IsLoaded geometry keys fresh old.contents new.contents) = λ tells.
      loaded_on geometry keys fresh old.contents good mid.contents new.contents (reaches.loaded tells)
      (differs_wider (Contains (slot_at geometry 1 ∷ [])) (IsGateOrTarget geometry keys) mid.contents new.contents gate_either (put.writes.contents (told tells))) in
      let zeros : (old.tells ≡ true → new.contents ≡ slice_set mid.contents (slot_at geometry 1) zero_block → gate geometry new.contents 1 ≡ zero_block) =
      λ tells is. ap (λ (image : List Block). gate geometry image 1) is ∙ put_gate geometry mid.contents zero_block (reaches.loaded tells).ready.enough in
      record {
        goes = goes_on old mid new reaches.goes put.goes;
        kept = λ tells closed kept is.
            let alike : AreAlike geometry kept old.contents = alike_where_closed geometry old.contents kept (first_closed geometry old.contents closed) is.stands in
            on_both result (λ written lasts. record {
              gates = over_closed geometry keys fresh kept good is.gates;
              stands = stands_for_alike geometry new.contents (now_of store.staged kept) (ap is_open (zeros tells written) ∙ zero_gate)
                  (alike_on geometry (now_of store.staged kept) (now_of store.staged old.contents) new.contents
                  (kept_alike geometry keys fresh old.contents kept good (paired store.staged) (enough tells) alike)
                  (alike_on geometry (now_of store.staged old.contents) mid.contents new.contents (reaches.so tells) (gate_leaves mid.contents new.contents (put.writes.contents (told tells)))));
              settled = lasts;
            }) (put.laid (told tells)) (settled (told tells));
        closed = λ tells closed. on_ok_weaker result (λ written k from to. elim (cases_lt k 2) [
          | inl first ↦ let one : k ≡ 1 = omega arith in ap (λ n. is_open (gate geometry new.contents n)) one ∙ ap is_open (zeros tells written) ∙ zero_gate
          | inr later ↦ (loaded tells).later closed k later to
        ]) (put.laid (told tells));
        leaves = leaves_closing mid new left_now reaches put.goes put.writes;
        slot = λ tells some. on_ok_weaker result (λ written. record { gate = zeros tells written; list = (loaded tells).ready.list }) (put.laid (told tells));
        writes = writes_on (IsWrittenByCommit geometry store.staged) old mid new reaches.goes reaches.writes put.goes
            (writes_wider (Contains (slot_at geometry 1 ∷ [])) (IsWrittenByCommit geometry store.staged) mid new gate_written put.writes);
        cause = cause_on old.faults mid.faults new.faults (IsErr result) reaches.never_falls put.cause;
      }
