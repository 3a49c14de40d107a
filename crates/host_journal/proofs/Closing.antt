-- The gates behind the first, which are closed one after another.
use Rattle.std.proofs.Common.{◌≡◌, ℕ, zero, suc, ◌+◌, ◌-◌, ◌<◌, ◌≤◌, true, false, inl, inr, Bool, List, [], ◌∷◌, Result, Ok, Err, Some, length, get_or, slice_get, sym, ap, ◌∙◌, subst, arith}
use Rattle.std.specs.Prelude.{IsErr, OnOk, slice_set}
use Rattle.std.proofs.lemmas.Bool.{cases_eq, false≢true}
use Rattle.std.proofs.lemmas.Option.{get_or_from_slice_get}
use Rattle.std.proofs.lemmas.Result.{IfOk-from_err}
use Rattle.nesc_base.specs.declared.block.Block.{Block}
use Rattle.nesc_base.specs.declared.disk.DiskFault.{DiskFault}
use Rattle.nesc_base.specs.declared.geometry.Geometry.{Geometry}
use Rattle.nesc_base.specs.Block.{zero_block}
use Rattle.nesc_base.specs.Disk.{Goes, IsSettled, Known, WritesAt, here, nowhere}
use Rattle.nesc_base.specs.Fault.{HasCause}
use Rattle.nesc_base.specs.Geometry.{slot_at}
use Rattle.nesc_base.proofs.Causes.{cause_on}
use Rattle.nesc_base.proofs.Differing.{slice_get-set_other, slice_get-set_same}
use Rattle.nesc_base.proofs.DiskCalls.{goes_itself, goes_on, unchanged_itself, writes_none, writes_on, writes_wider}
use Rattle.host_journal.specs.Replaying.{ClosesOthers, IsOtherGate}
use Rattle.host_journal.proofs.Stretches.{LeftByNow}
use Rattle.host_journal.proofs.Stretches.{Syncs}

-- Tests of a list

pub read_true : (gates : List Bool) (i : ℕ) → get_or gates i false ≡ true → slice_get gates i ≡ Some true
read_true [] i is = absurd (false≢true is)
read_true (gate ∷ gates) zero is = ap Some is
read_true (gate ∷ gates) (suc i) is = read_true gates i is

pub read_false : (gates : List Bool) (i : ℕ) → get_or gates i false ≡ false → ¬ (slice_get gates i ≡ Some true)
read_false gates i is read = false≢true (sym is ∙ get_or_from_slice_get gates i true false read)

-- The first of them

-- those of the slots before slot k are closed, and where none was open nothing was written
pub record ClosesSome (geometry : Geometry) (gates : List Bool) (k : ℕ) (closed : Bool) (old now : Known) : Type 0 where
  pub goes : Goes old now
  pub zeros : old.tells ≡ true → (at : ℕ) (is : IsOtherGate geometry gates at) → is.slot < k → slice_get now.contents at ≡ Some zero_block
  pub settled : old.tells ≡ true → IsSettled old → closed ≡ false → IsSettled now
  pub writes : WritesAt (IsOtherGate geometry gates) old now
  pub never_falls : old.faults ≤ now.faults

pub closes_none : (geometry : Geometry) (gates : List Bool) (old : Known) → LeftByNow old → ClosesSome geometry gates 2 false old old
closes_none geometry gates old by_now = record {
  goes = goes_itself old;
  zeros = λ tells at is early. absurd (let some = is.some in omega (arith, some, early));
  settled = λ tells settled none. settled;
  writes = writes_none (IsOtherGate geometry gates) old old by_now (unchanged_itself old);
  never_falls = omega arith;
}

-- a gate that was not open
pub closes_skipped : (geometry : Geometry) (gates : List Bool) (k next place : ℕ) (closed : Bool) (old now : Known) → next ≡ k + 1 → place ≡ k - 1 → get_or gates place false ≡ false
    → ClosesSome geometry gates k closed old now → ClosesSome geometry gates next closed old now
closes_skipped geometry gates k next place closed old now more at shut some = record {
  goes = some.goes;
  zeros = λ tells at_gate is early. elim (cases_eq is.slot k) [
    | inl same ↦ absurd (read_false gates place shut (ap (slice_get gates) (at ∙ sym (ap (λ m. m - 1) same)) ∙ is.opened))
    | inr apart ↦ some.zeros tells at_gate is (omega (arith, apart, early, more))
  ];
  settled = some.settled;
  writes = some.writes;
  never_falls = some.never_falls;
}

-- a write of the next gate, whether or not it fails
pub record ClosesOne (geometry : Geometry) (gates : List Bool) (k index place : ℕ) (now new : Known) : Type 0 where
  pub some : 2 ≤ k
  pub most : k ≤ 4
  pub opened : get_or gates index false ≡ true
  pub number : index ≡ k - 1
  pub there : place ≡ slot_at geometry k
  pub goes : Goes now new
  pub writes : WritesAt (here place) now new
  pub never_falls : now.faults ≤ new.faults

pub closes_writes : (geometry : Geometry) (gates : List Bool) (k index place : ℕ) (closed : Bool) (old now new : Known) → ClosesSome geometry gates k closed old now
    → ClosesOne geometry gates k index place now new → WritesAt (IsOtherGate geometry gates) old new
closes_writes geometry gates k index place closed old now new so_far one =
    let is : IsOtherGate geometry gates place = record {
      slot = k;
      some = one.some;
      most = one.most;
      opened = ap (slice_get gates) (sym one.number) ∙ read_true gates index one.opened;
      place = one.there;
    } in
    writes_on (IsOtherGate geometry gates) old now new so_far.goes so_far.writes one.goes
    (writes_wider (here place) (IsOtherGate geometry gates) now new (λ other same. subst (IsOtherGate geometry gates) (sym same) is) one.writes)

pub closes_more : (geometry : Geometry) (gates : List Bool) (k next index place : ℕ) (closed : Bool) (block : Block) (old now new : Known) → next ≡ k + 1 → block ≡ zero_block
    → (old.tells ≡ true → place < length old.contents) → ClosesSome geometry gates k closed old now → ClosesOne geometry gates k index place now new
    → (now.tells ≡ true → new.contents ≡ slice_set now.contents place block) → ClosesSome geometry gates next true old new
closes_more geometry gates k next index place closed block old now new more blank within so_far one written = record {
  goes = goes_on old now new so_far.goes one.goes;
  zeros = λ tells at is early.
      let told : now.tells ≡ true = so_far.goes.still_tells ∙ tells in
      let long : length now.contents ≡ length old.contents = (so_far.writes.contents tells).whole in
      ap (λ (blocks : List Block). slice_get blocks at) (written told) ∙ elim (cases_eq at place) [
        | inl same ↦ ap (slice_get (slice_set now.contents place block)) same ∙ slice_get-set_same now.contents place block (omega (arith, within tells, long)) ∙ ap Some blank
        | inr apart ↦
            slice_get-set_other now.contents place at block apart
            ∙ so_far.zeros tells at is (elim (cases_eq is.slot k) [
              | inl same ↦ absurd (apart (is.place ∙ ap (slot_at geometry) same ∙ sym one.there))
              | inr other ↦ omega (arith, other, early, more)
            ])
      ];
  settled = λ tells settled none. absurd (false≢true (sym none));
  writes = closes_writes geometry gates k index place closed old now new so_far one;
  never_falls = omega (arith, so_far.never_falls, one.never_falls);
}

-- Where it fails, and where all went well

pub closes_failed : (geometry : Geometry) (gates : List Bool) (k index place : ℕ) (closed : Bool) (old now new : Known) (failed : Type 0) (result : Result (Unit {0}) DiskFault) → IsErr result → failed
    → ClosesSome geometry gates k closed old now → ClosesOne geometry gates k index place now new → HasCause now.faults new.faults failed → ClosesOthers geometry gates old new result
closes_failed geometry gates k index place closed old now new failed result is told so_far one cause = record {
  goes = goes_on old now new so_far.goes one.goes;
  zeros = λ tells. IfOk-from_err result _ is;
  settled = λ tells settled. IfOk-from_err result _ is;
  writes = closes_writes geometry gates k index place closed old now new so_far one;
  cause = cause_on old.faults now.faults new.faults (IsErr result) so_far.never_falls (record { never_falls = cause.never_falls; rose = λ _. cause.rose told });
}

-- what holds anyway
on_ok_always : {P E : Type 0} (result : Result (Unit {0}) E) → P → OnOk result P
on_ok_always (Ok _) p = p
on_ok_always (Err _) p = tt

-- a sync writes nothing more
pub writes_synced : (P : ℕ → Type 0) (a b c : Known) (result : Result (Unit {0}) DiskFault) → Goes a b → WritesAt P a b → Syncs b c result → WritesAt P a c
writes_synced P a b c result goes writes syncs = writes_on P a b c goes writes syncs.goes (writes_wider nowhere P b c (λ at none. absurd none) syncs.writes)

-- every gate stands before slot 5
before_fifth : (geometry : Geometry) (gates : List Bool) (at k : ℕ) (is : IsOtherGate geometry gates at) → 5 ≤ k → is.slot < k
before_fifth geometry gates at k is all = let most = is.most in omega (arith, most, all)

pub closes_synced : (geometry : Geometry) (gates : List Bool) (k : ℕ) (closed : Bool) (old now new : Known) (result : Result (Unit {0}) DiskFault) → 5 ≤ k
    → ClosesSome geometry gates k closed old now → Syncs now new result → ClosesOthers geometry gates old new result
closes_synced geometry gates k closed old now new result all some syncs = record {
  goes = goes_on old now new some.goes syncs.goes;
  zeros = λ tells. on_ok_always result (λ at is. ap (λ (blocks : List Block). slice_get blocks at) (syncs.contents (some.goes.still_tells ∙ tells)) ∙ some.zeros tells at is (before_fifth geometry gates at k is all));
  settled = λ tells settled. syncs.settled (some.goes.still_tells ∙ tells);
  writes = writes_synced (IsOtherGate geometry gates) old now new result some.goes some.writes syncs;
  cause = cause_on old.faults now.faults new.faults (IsErr result) some.never_falls syncs.cause;
}

pub closes_unsynced : (geometry : Geometry) (gates : List Bool) (k : ℕ) (closed : Bool) (old now : Known) → 5 ≤ k → closed ≡ false
    → ClosesSome geometry gates k closed old now → ClosesOthers geometry gates old now (Ok tt)
closes_unsynced geometry gates k closed old now all none some = record {
  goes = some.goes;
  zeros = λ tells at is. some.zeros tells at is (before_fifth geometry gates at k is all);
  settled = λ tells settled. some.settled tells settled none;
  writes = some.writes;
  cause = record { never_falls = some.never_falls; rose = λ failed. absurd (false≢true failed) };
}
