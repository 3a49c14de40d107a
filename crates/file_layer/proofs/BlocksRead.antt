-- What is read of a journal while nothing is written.
use Rattle.std.proofs.Common.{◌≡◌, true, List, Result, Ok, Err, IsOk, sym, subst}
use Rattle.std.specs.Prelude.{OnOk}
use Rattle.std.proofs.lemmas.Bool.{false≢true}
use Rattle.nesc_base.specs.declared.block.Block.{Block}
use Rattle.nesc_base.specs.declared.geometry.Geometry.{Geometry}
use Rattle.nesc_base.specs.Disk.{Known, Unchanged}
use Rattle.slot_layout.specs.Slots.{StandsFor}
use Rattle.host_journal.specs.Kept.{IsKept}

-- what holds where a call succeeds holds where it did
pub where_ok : {T E P : Type 0} (r : Result T E) → IsOk r → OnOk r P → P
where_ok (Ok x) ok holds = holds
where_ok (Err e) ok holds = absurd (false≢true ok)

pub on_ok : {T E P : Type 0} (r : Result T E) → P → OnOk r P
on_ok (Ok x) holds = holds
on_ok (Err e) holds = tt

-- what a disk keeps it keeps while nothing is written, and kept before
pub kept_on : (geometry : Geometry) (old new : Known) (kept : List Block) → old.tells ≡ true → Unchanged old new → IsKept geometry old kept → IsKept geometry new kept
kept_on geometry old new kept tells unchanged is = record {
  gates = is.gates;
  stands = subst (λ (blocks : List Block). StandsFor geometry blocks kept) (sym (unchanged.contents tells)) is.stands;
  settled = λ at now. is.settled at ((unchanged.unsynced tells at).0 now);
}

pub kept_back : (geometry : Geometry) (old new : Known) (kept : List Block) → old.tells ≡ true → Unchanged old new → IsKept geometry new kept → IsKept geometry old kept
kept_back geometry old new kept tells unchanged is = record {
  gates = is.gates;
  stands = subst (λ (blocks : List Block). StandsFor geometry blocks kept) (unchanged.contents tells) is.stands;
  settled = λ at before. is.settled at ((unchanged.unsynced tells at).1 before);
}
