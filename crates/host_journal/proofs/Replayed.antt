-- A replay put together: all lists are judged, what they name is home, the first gate is closed, and then the others.
use Rattle.std.proofs.Common.{◌≡◌, ◌⊎◌, ℕ, ◌≤◌, Bool, true, false, inl, inr, List, [], ◌∷◌, Result, Ok, Err, length, slice_get, refl, sym, ap, ◌∙◌, subst, arith}
use Rattle.std.specs.Prelude.{Contains, IsErr, IsErrOf, OnOk, slice_index, slice_set}
use Rattle.std.proofs.lemmas.Bool.{false≢true}
use Rattle.std.proofs.lemmas.Result.{IfOk-from_err}
use Rattle.nesc_base.specs.declared.block.Block.{Block}
use Rattle.nesc_base.specs.declared.disk.DiskFault.{DiskFault}
use Rattle.nesc_base.specs.declared.geometry.Geometry.{Geometry}
use Rattle.nesc_base.specs.Block.{zero_block}
use Rattle.nesc_base.specs.Disk.{DiffersAt, Goes, IsSettled, Known, WritesAt, here, nowhere}
use Rattle.nesc_base.specs.Fault.{HasCause}
use Rattle.nesc_base.specs.Geometry.{IsGeometry, slot_at, total}
use Rattle.nesc_base.proofs.Causes.{cause_on}
use Rattle.nesc_base.proofs.Differing.{differs_itself, differs_wider}
use Rattle.nesc_base.proofs.DiskCalls.{goes_on, writes_none, writes_on}
use Rattle.slot_layout.specs.Gate.{is_open}
use Rattle.slot_layout.specs.Slots.{LacksList, Lays, StandsFor, gate}
use Rattle.slot_layout.proofs.Alike.{lays_itself}
use Rattle.host_journal.specs.Committing.{WritesOut}
use Rattle.host_journal.specs.Replays.{IsTarget, Replays}
use Rattle.host_journal.specs.Replaying.{AreGates, AreJudged, BringsHome, ClosesFirst, ClosesOthers, IsLaidClosed, IsOnWay, IsOtherGate, IsSourced, Reads}
use Rattle.host_journal.specs.declared.journal.StartFault.{StartFault}
use Rattle.host_journal.specs.declared.journal.StartFault.TheVariants.{BadList, Disk}
use Rattle.host_journal.proofs.Closing.{writes_synced}
use Rattle.host_journal.proofs.CommitImages.{contains_one}
use Rattle.host_journal.proofs.Homing.{home_is_laid}
use Rattle.host_journal.proofs.Images.{all_closed, all_zeroed, first_closed, lays_not_lacks, one_lack, other_opened, stands_first_torn, stands_others_torn, stands_torn, stood_for}
use Rattle.host_journal.proofs.DiskReads.{HasRead}
use Rattle.host_journal.proofs.Stretches.{Syncs, leaves_stretch}
use Rattle.host_journal.proofs.Ways.{IsLawful, settled_read, way_behind, way_on, way_read}

abbrev Answer : Type 0
Answer = Result (Unit {0}) StartFault

-- Answers

-- the disk failed
abbrev pub HasFailed : Result (Unit {0}) StartFault → Type 0
HasFailed result = IsErrOf result (Disk _)

failed_err : (result : Answer) → HasFailed result → IsErr result
failed_err (Ok _) failed = cc
failed_err (Err fault) failed = refl

failed_no_list : (result : Answer) (block : ℕ) → HasFailed result → ¬ IsErrOf result (BadList block)
failed_no_list result block failed is = cc

-- a failure is of the disk or of the list that is bad
failure_of : (result : Answer) (block : ℕ) → IsErr result → ((other : ℕ) → IsErrOf result (BadList other) → other ≡ block) → IsErrOf result (BadList block) ⊎ HasFailed result
failure_of (Ok _) block failed one = absurd (false≢true failed)
failure_of (Err (BadList other)) block failed one = inl (ap (λ b. Err (BadList b)) (one other refl))
failure_of (Err (Disk fault)) block failed one = inr refl

-- Before the first gate is closed

pub first_failed : (geometry : Geometry) (old new : Known) (result : Answer) → HasFailed result → IsOnWay geometry old new → HasCause old.faults new.faults (HasFailed result)
    → ClosesFirst geometry old new result
first_failed geometry old new result failed way cause = record {
  way = way;
  laid = λ tells. IfOk-from_err result _ (failed_err result failed);
  zeroed = λ tells opened. IfOk-from_err result _ (failed_err result failed);
  settled = λ tells settled. IfOk-from_err result _ (failed_err result failed);
  bad_list = λ tells block lacks. inr failed;
  no_other = λ tells block is. absurd (failed_no_list result block failed is);
  unwritten = λ block is. absurd (failed_no_list result block failed is);
  cause = cause;
}

-- where a list is bad, or the disk failed while they were read
pub closes_unjudged : (geometry : Geometry) (old new : Known) (result : Answer) → IsLawful old → IsErr result → Reads old new (HasFailed result)
    → (old.tells ≡ true → (block : ℕ) → IsErrOf result (BadList block) → LacksList geometry old.contents block) → ClosesFirst geometry old new result
closes_unjudged geometry old new result laws failed reads lacks = record {
  way = way_read geometry old new (HasFailed result) laws reads;
  laid = λ tells. IfOk-from_err result _ failed;
  zeroed = λ tells opened. IfOk-from_err result _ failed;
  settled = λ tells settled. IfOk-from_err result _ failed;
  bad_list = λ tells block is. failure_of result block failed (λ other told. one_lack geometry old.contents other block (lacks tells other told) is);
  no_other = lacks;
  unwritten = λ block is. writes_none nowhere old new laws.by_now reads.unchanged;
  cause = reads.cause;
}

-- the first gate is closed
closes_well : (geometry : Geometry) (old new : Known) → IsOnWay geometry old new → old.faults ≤ new.faults → (old.tells ≡ true → IsLaidClosed geometry old.contents new.contents)
    → (old.tells ≡ true → is_open (gate geometry old.contents 1) ≡ true → gate geometry new.contents 1 ≡ zero_block)
    → (old.tells ≡ true → IsSettled old → IsSettled new) → ClosesFirst geometry old new (Ok tt)
closes_well geometry old new way never_falls laid zeroed settled = record {
  way = way;
  laid = laid;
  zeroed = zeroed;
  settled = settled;
  bad_list = λ tells block lacks. absurd (let is = laid tells in lays_not_lacks geometry old.contents is.laid block is.lays lacks);
  no_other = λ tells block is. cc;
  unwritten = λ block is. cc;
  cause = record { never_falls = never_falls; rose = λ is. cc };
}

-- it was so at first
pub none_closed : (geometry : Geometry) (old : Known) → IsLawful old → HasRead old old → (old.tells ≡ true → is_open (gate geometry old.contents 1) ≡ false) → ClosesFirst geometry old old (Ok tt)
none_closed geometry old laws reads closed = closes_well geometry old old (way_read geometry old old ⊥ laws reads) (omega arith)
    (λ tells. record {
      laid = old.contents;
      lays = lays_itself geometry old.contents (closed tells);
      differs = differs_itself (here (slot_at geometry 1)) old.contents;
      closed = closed tells;
    })
    (λ tells opened. absurd (false≢true (sym (closed tells) ∙ opened))) (λ tells settled. settled)

-- what is known once all lists are judged
pub record IsJudged (geometry : Geometry) (sources : List ℕ) (old judged : Known) : Type 0 where
  pub sizes : IsGeometry geometry
  pub laws : IsLawful old
  pub late_laws : IsLawful judged
  pub enough : total geometry ≤ old.size
  pub opened : old.tells ≡ true → is_open (gate geometry old.contents 1) ≡ true
  pub reads : HasRead old judged
  pub stand : old.tells ≡ true → AreJudged geometry old.contents sources

module _ (geometry : Geometry) (sources : List ℕ) (old judged : Known) (is : IsJudged geometry sources old judged) where
  all_there : old.tells ≡ true → total geometry ≤ length old.contents
  all_there tells = omega (arith, is.enough, is.laws.whole tells)

  lays_judged : (stand : AreJudged geometry old.contents sources) → Lays geometry old.contents stand.laid.laid
  lays_judged stand = record { slots = stand.slots; replayed = stand.replayed; over = stand.laid.over }

  good_lists : old.tells ≡ true → (block : ℕ) → ¬ LacksList geometry old.contents block
  good_lists tells block = let stand = is.stand tells in lays_not_lacks geometry old.contents stand.laid.laid block (lays_judged stand)

  -- while blocks are written home
  pub way_home : (new : Known) → Goes judged new → WritesAt (IsSourced geometry sources) judged new → IsOnWay geometry old new
  way_home new goes writes = way_on geometry (IsSourced geometry sources) old judged new (way_read geometry old judged ⊥ is.laws is.reads) goes writes
      (λ tells at sourced.
      let stand = is.stand tells in
      inr (subst (IsTarget geometry old.contents) (sym sourced.place) (stand.laid.stand.named sourced.index sourced.some)))
      good_lists
      (λ tells settled kept stands.
      leaves_stretch (IsSourced geometry sources) (λ image. StandsFor geometry image kept) judged new is.late_laws.left_now (is.reads.goes.still_tells ∙ tells) (settled_read old judged ⊥ is.reads tells settled) goes writes
      (λ image differs.
      let stand = is.stand tells in
      stands_torn geometry old.contents image stand.laid.laid kept sources is.sizes (all_there tells) stand.laid.stand
      (subst (λ (blocks : List Block). DiffersAt (IsSourced geometry sources) blocks image) (is.reads.unchanged.contents tells) differs) stands))

-- what is known once they are home and sure to stay there
pub record IsHome (geometry : Geometry) (old home : Known) : Type 0 where
  pub sizes : IsGeometry geometry
  pub laws : IsLawful home
  pub enough : old.tells ≡ true → total geometry ≤ length old.contents
  pub opened : old.tells ≡ true → is_open (gate geometry old.contents 1) ≡ true
  pub way : IsOnWay geometry old home
  pub lays : old.tells ≡ true → Lays geometry old.contents home.contents
  pub settled : old.tells ≡ true → IsSettled home
  pub never_falls : old.faults ≤ home.faults

pub is_home : (geometry : Geometry) (sources : List ℕ) (old judged mid home : Known) → IsJudged geometry sources old judged → BringsHome geometry sources judged mid (Ok tt) → Syncs mid home (Ok tt)
    → IsLawful home → IsHome geometry old home
is_home geometry sources old judged mid home is brings syncs laws =
    let to_mid : Goes old mid = goes_on old judged mid is.reads.goes brings.goes in
    record {
      sizes = is.sizes;
      laws = laws;
      enough = all_there geometry sources old judged is;
      opened = is.opened;
      way = way_home geometry sources old judged is home (goes_on judged mid home brings.goes syncs.goes)
          (writes_synced (IsSourced geometry sources) judged mid home (Ok tt) brings.goes brings.writes syncs);
      lays = λ tells.
          let stand = is.stand tells in
          let told : judged.tells ≡ true = is.reads.goes.still_tells ∙ tells in
          let was : judged.contents ≡ old.contents = is.reads.unchanged.contents tells in
          let differs : DiffersAt (IsSourced geometry sources) old.contents mid.contents =
          subst (λ (blocks : List Block). DiffersAt (IsSourced geometry sources) blocks mid.contents) was (brings.writes.contents told) in
          let same : mid.contents ≡ stand.laid.laid = home_is_laid geometry old.contents mid.contents stand.slots sources stand.laid differs
          (λ i some. brings.home told i some ∙ ap (λ (blocks : List Block). slice_get blocks (slice_index sources i)) was) in
          subst (Lays geometry old.contents) (sym (syncs.contents (to_mid.still_tells ∙ tells) ∙ same)) (lays_judged geometry sources old judged is stand);
      settled = λ tells. syncs.settled (to_mid.still_tells ∙ tells);
      never_falls = omega (arith, is.reads.cause.never_falls, brings.cause.never_falls, syncs.cause.never_falls);
    }

module _ (geometry : Geometry) (old home : Known) (is : IsHome geometry old home) (at : ℕ) (block : Block) (new : Known) (first : at ≡ slot_at geometry 1) where
  first_gate : (other : ℕ) → Contains (at ∷ []) other → here (slot_at geometry 1) other
  first_gate other has = contains_one at other has ∙ first

  -- while the first gate is closed
  pub way_first : (result : Result (Unit {0}) DiskFault) → WritesOut (at ∷ []) (block ∷ []) home new result → IsOnWay geometry old new
  way_first result writes = way_on geometry (Contains (at ∷ [])) old home new is.way writes.goes writes.writes
      (λ tells other has. inl (record {
        slot = 1;
        some = omega arith;
        most = omega arith;
        opened = is.opened tells;
        place = first_gate other has;
      }))
      (λ tells bad. lays_not_lacks geometry old.contents home.contents bad (is.lays tells))
      (λ tells settled kept stands.
      leaves_stretch (Contains (at ∷ [])) (λ image. StandsFor geometry image kept) home new is.laws.left_now (is.way.goes.still_tells ∙ tells) (is.settled tells) writes.goes writes.writes
      (λ image differs.
      stands_first_torn geometry old.contents home.contents image kept is.sizes (is.enough tells) (is.lays tells) (is.opened tells)
      (differs_wider (Contains (at ∷ [])) (here (slot_at geometry 1)) home.contents image first_gate differs) stands))

  pub closes_first : block ≡ zero_block → WritesOut (at ∷ []) (block ∷ []) home new (Ok tt) → (home.tells ≡ true → IsSettled new) → ClosesFirst geometry old new (Ok tt)
  closes_first blank writes settled =
      let zeros : List Block = slice_set home.contents (slot_at geometry 1) zero_block in
      let told : (old.tells ≡ true → home.tells ≡ true) = λ tells. is.way.goes.still_tells ∙ tells in
      let put : (old.tells ≡ true → new.contents ≡ zeros) = λ tells. writes.laid (told tells) ∙ ap (λ a. slice_set home.contents a block) first ∙ ap (slice_set home.contents (slot_at geometry 1)) blank in
      closes_well geometry old new (way_first (Ok tt) writes) (omega (arith, is.never_falls, writes.cause.never_falls))
      (λ tells. subst (IsLaidClosed geometry old.contents) (sym (put tells)) (first_closed geometry old.contents home.contents (is.enough tells) (is.lays tells)).0)
      (λ tells opened. ap (λ (blocks : List Block). gate geometry blocks 1) (put tells) ∙ (first_closed geometry old.contents home.contents (is.enough tells) (is.lays tells)).1)
      (λ tells was. settled (told tells))

-- Behind the reads of the gates

pub closes_behind : (geometry : Geometry) (old read new : Known) (failed : Type 0) (result : Answer) → IsLawful old → Reads old read failed → ClosesFirst geometry read new result → ClosesFirst geometry old new result
closes_behind geometry old read new failed result laws reads closes =
    let same : (old.tells ≡ true → read.contents ≡ old.contents) = reads.unchanged.contents in
    let told : (old.tells ≡ true → read.tells ≡ true) = λ tells. reads.goes.still_tells ∙ tells in
    record {
      way = way_behind geometry old read new failed laws reads closes.way;
      laid = λ tells. subst (λ (blocks : List Block). OnOk result (IsLaidClosed geometry blocks new.contents)) (same tells) (closes.laid (told tells));
      zeroed = λ tells opened. closes.zeroed (told tells) (subst (λ (blocks : List Block). is_open (gate geometry blocks 1) ≡ true) (sym (same tells)) opened);
      settled = λ tells settled. closes.settled (told tells) (settled_read old read failed reads tells settled);
      bad_list = λ tells block lacks. closes.bad_list (told tells) block (subst (λ (blocks : List Block). LacksList geometry blocks block) (sym (same tells)) lacks);
      no_other = λ tells block is. subst (λ (blocks : List Block). LacksList geometry blocks block) (same tells) (closes.no_other (told tells) block is);
      unwritten = λ block is. writes_on nowhere old read new reads.goes (writes_none nowhere old read laws.by_now reads.unchanged) closes.way.goes (closes.unwritten block is);
      cause = cause_on old.faults read.faults new.faults (HasFailed result) reads.cause.never_falls closes.cause;
    }

-- The whole

-- where it did not come to the other gates
pub replays_stopped : (geometry : Geometry) (old new : Known) (result : Answer) → IsErr result → ClosesFirst geometry old new result → Replays geometry old new result
replays_stopped geometry old new result failed closes = record {
  goes = closes.way.goes;
  stands = λ tells. IfOk-from_err result _ failed;
  kept = λ tells settled kept closed stands. IfOk-from_err result _ failed;
  closed = λ tells. IfOk-from_err result _ failed;
  zeroed = λ tells. IfOk-from_err result _ failed;
  leaves = closes.way.leaves;
  bad_list = closes.bad_list;
  no_other = closes.no_other;
  unwritten = closes.unwritten;
  unwritten_where_bad = closes.way.unwritten_where_bad;
  writes = closes.way.writes;
  cause = closes.cause;
}

-- where not even the gates were read
pub replays_unread : (geometry : Geometry) (old new : Known) (result : Answer) (failed : Type 0) → IsLawful old → HasFailed result → failed → Reads old new failed → Replays geometry old new result
replays_unread geometry old new result failed laws told is reads = replays_stopped geometry old new result (failed_err result told)
    (first_failed geometry old new result told (way_read geometry old new failed laws reads) (record { never_falls = reads.cause.never_falls; rose = λ _. reads.cause.rose is }))

module _ (geometry : Geometry) (gates : List Bool) (old mid new : Known) (sizes : IsGeometry geometry) (known : old.tells ≡ true → AreGates geometry old.contents gates)
    (laws : IsLawful mid) (first : ClosesFirst geometry old mid (Ok tt)) where
  -- while the others are closed
  pub way_others : (result : Result (Unit {0}) DiskFault) → ClosesOthers geometry gates mid new result → IsOnWay geometry old new
  way_others result closes = way_on geometry (IsOtherGate geometry gates) old mid new first.way closes.goes closes.writes
      (λ tells at is. inl (record {
        slot = is.slot;
        some = let some = is.some in omega arith;
        most = is.most;
        opened = other_opened geometry old.contents gates at (known tells) is;
        place = is.place;
      }))
      (λ tells bad. let is = first.laid tells in lays_not_lacks geometry old.contents is.laid bad is.lays)
      (λ tells settled kept stands.
      leaves_stretch (IsOtherGate geometry gates) (λ image. StandsFor geometry image kept) mid new laws.left_now (first.way.goes.still_tells ∙ tells) (first.settled tells settled) closes.goes closes.writes
      (λ image differs. stands_others_torn geometry gates old.contents mid.contents image kept sizes (first.laid tells) differs stands))

  pub replays_failed : (result : Result (Unit {0}) DiskFault) (answer : Answer) (failed : Type 0) → HasFailed answer → failed → ClosesOthers geometry gates mid new result → HasCause mid.faults new.faults failed
      → Replays geometry old new answer
  replays_failed result answer failed told is closes cause = replays_stopped geometry old new answer (failed_err answer told)
      (first_failed geometry old new answer told (way_others result closes)
      (cause_on old.faults mid.faults new.faults (HasFailed answer) first.cause.never_falls (record { never_falls = cause.never_falls; rose = λ _. cause.rose is })))

  pub replays_all : ClosesOthers geometry gates mid new (Ok tt) → Replays geometry old new (Ok tt)
  replays_all closes =
      let way : IsOnWay geometry old new = way_others (Ok tt) closes in
      let told : (old.tells ≡ true → mid.tells ≡ true) = λ tells. first.way.goes.still_tells ∙ tells in
      record {
        goes = way.goes;
        stands = λ tells. (
          new.contents,
          all_closed geometry old.contents mid.contents new.contents gates (known tells) (first.laid tells) (closes.writes.contents (told tells)) (closes.zeros (told tells)),
          stood_for geometry old.contents mid.contents new.contents gates (known tells) (first.laid tells) (closes.writes.contents (told tells)) (closes.zeros (told tells)),
        );
        kept = λ tells settled kept closed stands. record {
          gates = closed;
          stands = stands_others_torn geometry gates old.contents mid.contents new.contents kept sizes (first.laid tells) (closes.writes.contents (told tells)) stands;
          settled = closes.settled (told tells) (first.settled tells settled);
        };
        closed = λ tells.
            all_closed geometry old.contents mid.contents new.contents gates (known tells) (first.laid tells) (closes.writes.contents (told tells)) (closes.zeros (told tells));
        zeroed = λ tells.
            all_zeroed geometry old.contents mid.contents new.contents gates (known tells) (first.laid tells) (closes.writes.contents (told tells)) (closes.zeros (told tells)) (first.zeroed tells);
        leaves = way.leaves;
        bad_list = λ tells block lacks. absurd (let is = first.laid tells in lays_not_lacks geometry old.contents is.laid block is.lays lacks);
        no_other = λ tells block is. cc;
        unwritten = λ block is. cc;
        unwritten_where_bad = way.unwritten_where_bad;
        writes = way.writes;
        cause = record { never_falls = omega (arith, first.cause.never_falls, closes.cause.never_falls); rose = λ is. cc };
      }
