-- An image made call by call.
use Rattle.std.proofs.Common.{◌≡◌, ℕ, ◌<◌, ◌≤◌, List, Result, Ok, Err, sym, ap, subst, ◌∙◌, inl, inr, arith}
use Rattle.std.specs.Prelude.{IsErr, OnOk, Option, length, slice_set, true, unwrap_or}
use Rattle.std.proofs.lemmas.Result.{IfOk-from_err}
use Rattle.nesc_base.specs.declared.block.Block.{Block}
use Rattle.nesc_base.specs.declared.disk.DiskFault.{DiskFault}
use Rattle.nesc_base.specs.declared.geometry.Geometry.{Geometry}
use Rattle.nesc_base.specs.Disk.{CouldLeave, DiffersAt, Goes, IsSettled, Known, LeavesSince, OrUnsynced, WritesAt, here, nowhere}
use Rattle.nesc_base.specs.Fault.{HasCause}
use Rattle.nesc_base.specs.Geometry.{IsGeometry, total}
use Rattle.nesc_base.proofs.DiskCalls.{goes_on, since_on, since_wider, since_written, writes_on, writes_wider}
use Rattle.slot_layout.specs.Slots.{block_at}
use Rattle.image_layout.specs.Super.{IsSuperblock, superblock}
use Rattle.image_tools.specs.Make.{Clears, IsBehind, Makes, OpensAsNew, OpensWhereMade, StartsAs, cleared, cleared_at, made}
use Rattle.nesc_base.proofs.Causes.{cause_on}
use Rattle.nesc_base.proofs.Differing.{differs_here, differs_wider}
use Rattle.nesc_base.specs.Count.{count_end}
use Rattle.nesc_base.specs.Block.{zero_block}
use Rattle.image_tools.proofs.NewImage.{made_opens}
use Rattle.image_tools.proofs.Zeros.{block_at-set_same, length-cleared_at}

-- what a sync does
pub record Syncs (old new : Known) (result : Result (Unit {0}) DiskFault) : Type 0 where
  pub contents : old.tells ≡ true → new.contents ≡ old.contents
  pub settled : old.tells ≡ true → OnOk result (IsSettled new)
  pub writes : WritesAt nowhere old new
  pub goes : Goes old new
  pub cause : HasCause old.faults new.faults (IsErr result)

-- what a write of block 0 does
pub record Starts (block : Block) (old new : Known) (result : Result (Unit {0}) DiskFault) : Type 0 where
  pub written : old.tells ≡ true → OnOk result (new.contents ≡ slice_set old.contents 0 block)
  pub writes : WritesAt (here 0) old new
  pub goes : Goes old new
  pub cause : HasCause old.faults new.faults (IsErr result)

-- what holds anyway
on_ok_always : {P : Type 0} (result : Result (Unit {0}) DiskFault) → P → OnOk result P
on_ok_always (Ok _) p = p
on_ok_always (Err _) p = tt

-- what every disk says of the images that it leaves now
abbrev pub LeftNow : Known → Type 0
LeftNow disk = (image : List Block) → disk.tells ≡ true → disk.clock < count_end → disk.left disk.clock image → CouldLeave disk image

-- the zeros stand, and are sure to stay
pub record IsBased (geometry : Geometry) (old mid : Known) : Type 0 where
  pub goes : Goes old mid
  pub zeros : old.tells ≡ true → mid.contents ≡ cleared_at (cleared geometry) old.contents
  pub settled : old.tells ≡ true → IsSettled mid
  pub writes : WritesAt IsBehind old mid
  pub never_falls : old.faults ≤ mid.faults

-- a sync writes nothing more
synced : (P : ℕ → Type 0) (a b c : Known) (result : Result (Unit {0}) DiskFault) → Goes a b → WritesAt P a b → Syncs b c result → WritesAt P a c
synced P a b c result goes writes syncs = writes_on P a b c goes writes syncs.goes (writes_wider nowhere P b c (λ at none. absurd none) syncs.writes)

-- block 0 stands as before where no other was touched
untouched : (old : Known) → ¬ old.unsynced 0 → OrUnsynced IsBehind old 0 → ⊥
untouched old none (inl behind) = omega (arith, behind)
untouched old none (inr unsynced) = none unsynced

starts_as : (old : Known) (image : List Block) → DiffersAt (OrUnsynced IsBehind old) old.contents image → StartsAs old image
starts_as old image differs none = ap (λ (o : Option Block). unwrap_or o zero_block) (differs.others 0 (untouched old none))

-- so every image of the first part starts
pub first_part : (geometry : Geometry) (old new : Known) → LeftNow old → Goes old new → WritesAt IsBehind old new → LeavesSince (λ _. OpensWhereMade geometry old) old new
first_part geometry old new left_now goes writes =
    since_wider (λ _. DiffersAt (OrUnsynced IsBehind old) old.contents) (λ _. OpensWhereMade geometry old) old new
    (λ tells k image differs. inl (starts_as old image differs))
    (since_written IsBehind old new left_now goes writes)

pub based : (geometry : Geometry) (old mid new : Known) → Clears (cleared geometry) old mid (Ok tt) → Syncs mid new (Ok tt) → IsBased geometry old new
based geometry old mid new clears syncs = record {
  goes = goes_on old mid new clears.goes syncs.goes;
  zeros = λ tells. syncs.contents (clears.goes.still_tells ∙ tells) ∙ clears.zeros tells;
  settled = λ tells. syncs.settled (clears.goes.still_tells ∙ tells);
  writes = synced IsBehind old mid new (Ok tt) clears.goes clears.writes syncs;
  never_falls = omega (arith, clears.cause.never_falls, syncs.cause.never_falls);
}

-- any block 0 may be torn: if it is the superblock, the image opens
torn_opens : (geometry : Geometry) (old : List Block) (block : Block) → IsGeometry geometry → total geometry ≤ length old
    → IsSuperblock (block_at (slice_set (cleared_at (cleared geometry) old) 0 block) 0) geometry → OpensAsNew geometry (slice_set (cleared_at (cleared geometry) old) 0 block)
torn_opens geometry old block sizes room is =
    let base : List Block = cleared_at (cleared geometry) old in
    let same : block ≡ superblock geometry = sym (block_at-set_same base 0 block (omega (arith, length-cleared_at (cleared geometry) old))) ∙ is.spelling in
    subst (λ (b : Block). OpensAsNew geometry (slice_set base 0 b)) (sym same) (made_opens geometry old sizes room)

-- where nothing was unsynced only block 0 is touched
only_first : (mid : Known) → IsSettled mid → (at : ℕ) → OrUnsynced (here 0) mid at → here 0 at
only_first mid settled at (inl first) = first
only_first mid settled at (inr unsynced) = absurd (settled at unsynced)

-- so does every image of the second part
second_part : (geometry : Geometry) (old mid new : Known) → LeftNow mid → IsGeometry geometry → total geometry ≤ old.size → (old.tells ≡ true → length old.contents ≡ old.size)
    → IsBased geometry old mid → Goes mid new → WritesAt (here 0) mid new → LeavesSince (λ _. OpensWhereMade geometry old) mid new
second_part geometry old mid new left_now sizes room whole is_based goes writes =
    since_wider (λ _. DiffersAt (OrUnsynced (here 0) mid) mid.contents) (λ _. OpensWhereMade geometry old) mid new
    (λ tells k image differs.
    let told : old.tells ≡ true = sym is_based.goes.still_tells ∙ tells in
    let base : List Block = cleared_at (cleared geometry) old.contents in
    let enough : total geometry ≤ length old.contents = omega (arith, whole told, room) in
    let here_alone : DiffersAt (here 0) mid.contents image = differs_wider (OrUnsynced (here 0) mid) (here 0) mid.contents image (only_first mid (is_based.settled told)) differs in
    let on_base : DiffersAt (here 0) base image = subst (λ (blocks : List Block). DiffersAt (here 0) blocks image) (is_based.zeros told) here_alone in
    let torn = differs_here 0 base image (omega (arith, enough, length-cleared_at (cleared geometry) old.contents)) on_base in
    let P : List Block → Type 0 = λ i. IsSuperblock (block_at i 0) geometry → OpensAsNew geometry i in
    inr (subst P (sym torn.1) (torn_opens geometry old.contents torn.0 sizes enough)))
    (since_written (here 0) mid new left_now goes writes)

-- where the zeros were not all written
pub Makes-not_cleared : (geometry : Geometry) (old new : Known) (places : List ℕ) (result answer : Result (Unit {0}) DiskFault) → LeftNow old → IsErr result → IsErr answer → Clears places old new result → Makes geometry old new answer
Makes-not_cleared geometry old new places result answer left_now failed told clears = record {
  goes = clears.goes;
  made = λ tells. IfOk-from_err answer _ told;
  settled = λ tells. IfOk-from_err answer _ told;
  opens = λ tells. IfOk-from_err answer _ told;
  any_moment = first_part geometry old new left_now clears.goes clears.writes;
  cause = record { never_falls = clears.cause.never_falls; rose = λ _. clears.cause.rose failed };
}

-- where they were not sure to stay
pub Makes-not_based : (geometry : Geometry) (old mid new : Known) (places : List ℕ) (result answer : Result (Unit {0}) DiskFault) → LeftNow old → IsErr result → IsErr answer → Clears places old mid (Ok tt) → Syncs mid new result
    → Makes geometry old new answer
Makes-not_based geometry old mid new places result answer left_now failed told clears syncs = record {
  goes = goes_on old mid new clears.goes syncs.goes;
  made = λ tells. IfOk-from_err answer _ told;
  settled = λ tells. IfOk-from_err answer _ told;
  opens = λ tells. IfOk-from_err answer _ told;
  any_moment = first_part geometry old new left_now (goes_on old mid new clears.goes syncs.goes) (synced IsBehind old mid new result clears.goes clears.writes syncs);
  cause = cause_on old.faults mid.faults new.faults (IsErr answer) clears.cause.never_falls (record { never_falls = syncs.cause.never_falls; rose = λ _. syncs.cause.rose failed });
}

-- where the superblock was not written
pub Makes-not_started : (geometry : Geometry) (old mid new : Known) (block : Block) (result answer : Result (Unit {0}) DiskFault) → LeftNow old → LeftNow mid → IsErr result → IsErr answer
    → IsGeometry geometry → total geometry ≤ old.size → (old.tells ≡ true → length old.contents ≡ old.size) → IsBased geometry old mid → Starts block mid new result → Makes geometry old new answer
Makes-not_started geometry old mid new block result answer first_left left_now failed told sizes room whole is_based starts = record {
  goes = goes_on old mid new is_based.goes starts.goes;
  made = λ tells. IfOk-from_err answer _ told;
  settled = λ tells. IfOk-from_err answer _ told;
  opens = λ tells. IfOk-from_err answer _ told;
  any_moment = since_on (λ _. OpensWhereMade geometry old) old mid new is_based.goes (first_part geometry old mid first_left is_based.goes is_based.writes) starts.goes
      (second_part geometry old mid new left_now sizes room whole is_based starts.goes starts.writes);
  cause = cause_on old.faults mid.faults new.faults (IsErr answer) is_based.never_falls (record { never_falls = starts.cause.never_falls; rose = λ _. starts.cause.rose failed });
}

-- where all was written, by the last sync
pub Makes-all : (geometry : Geometry) (old mid late new : Known) (block : Block) (result : Result (Unit {0}) DiskFault) → LeftNow old → LeftNow mid → IsSuperblock block geometry
    → total geometry ≤ old.size → (old.tells ≡ true → length old.contents ≡ old.size) → IsBased geometry old mid → Starts block mid late (Ok tt) → Syncs late new result → Makes geometry old new result
Makes-all geometry old mid late new block result first_left left_now super room whole is_based starts syncs =
    let so_far : Goes old late = goes_on old mid late is_based.goes starts.goes in
    let goes : Goes mid new = goes_on mid late new starts.goes syncs.goes in
    let is_made : (old.tells ≡ true → new.contents ≡ made geometry old.contents) =
    λ tells. syncs.contents (so_far.still_tells ∙ tells) ∙ starts.written (is_based.goes.still_tells ∙ tells)
    ∙ ap (λ i. slice_set i 0 block) (is_based.zeros tells) ∙ ap (slice_set (cleared_at (cleared geometry) old.contents) 0) super.spelling in
    record {
      goes = goes_on old late new so_far syncs.goes;
      made = λ tells. on_ok_always result (is_made tells);
      settled = λ tells. syncs.settled (so_far.still_tells ∙ tells);
      opens = λ tells. on_ok_always result (subst (OpensAsNew geometry) (sym (is_made tells)) (made_opens geometry old.contents super.sizes (omega (arith, whole tells, room))));
      any_moment = since_on (λ _. OpensWhereMade geometry old) old mid new is_based.goes (first_part geometry old mid first_left is_based.goes is_based.writes) goes
          (second_part geometry old mid new left_now super.sizes room whole is_based goes (synced (here 0) mid late new result starts.goes starts.writes syncs));
      cause = cause_on old.faults late.faults new.faults (IsErr result) (omega (arith, is_based.never_falls, starts.cause.never_falls)) syncs.cause;
    }
