-- What a start leaves of the journal: it belongs to its disk, or has to be started again.
use Rattle.std.proofs.Common.{◌≡◌, ◌≤◌, Result, Ok, Err, sym, ◌∙◌, arith}
use Rattle.std.specs.Prelude.{OnErr, true}
use Rattle.nesc_base.specs.Disk.{Known}
use Rattle.nesc_base.specs.Geometry.{total}
use Rattle.host_journal.specs.Journal.{IsJournal, Journal}
use Rattle.host_journal.specs.Kept.{Rests}
use Rattle.host_journal.specs.Starting.{Starts}

-- what holds anyway
pub on_err_always : {T E P : Type 0} (result : Result T E) → P → OnErr result P
on_err_always (Ok answer) p = tt
on_err_always (Err found) p = p

pub rests_started : {D : Type 0} (known : D → Known) (journal : Journal) (old new : D) → Starts known journal.geometry old new (Ok tt) → journal.started ≡ true → IsJournal journal
    → total journal.geometry ≤ (known old).size → Rests journal (known new)
rests_started known journal old new starts started sound enough = record {
  started = started;
  sound = sound;
  enough = omega (arith, enough, starts.goes.same_size);
  kept = λ tells. let told = sym starts.goes.still_tells ∙ tells in let some = starts.stands told in (some.0, starts.kept told some.0 some.1 some.2);
  closed = λ tells. starts.closed (sym starts.goes.still_tells ∙ tells);
}
