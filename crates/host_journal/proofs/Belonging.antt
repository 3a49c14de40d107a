-- A journal and its disk still belong together after changes of what is staged, after reads, and after syncs that succeeded.
use Rattle.std.proofs.Common.{◌≡◌, inl, inr, ℕ, ◌+◌, ◌<◌, ◌≤◌, Bool, true, false, nat_le, if◌then◌else◌, List, IsSome, refl, sym, ap, ◌∙◌, subst, arith}
use Rattle.std.specs.FinMap.{get, remove}
use Rattle.std.proofs.lemmas.Bool.{cases_eq, false≢true}
use Rattle.std.proofs.lemmas.Bool.Decides.{nat_tests}
use Rattle.nesc_base.specs.declared.block.Block.{Block}
use Rattle.nesc_base.specs.declared.geometry.Geometry.{Geometry}
use Rattle.nesc_base.specs.Disk.{Goes, Known, WritesAt, nowhere}
use Rattle.nesc_base.specs.Geometry.{area_from}
use Rattle.nesc_base.proofs.DiskCalls.{could_leave_before, settled_left}
use Rattle.nesc_base.proofs.Maps.{get-insert_other, get-remove_other, get-remove_same}
use Rattle.slot_layout.specs.Slots.{StandsFor}
use Rattle.host_journal.specs.Journal.{IsJournal, Journal, forgetting, is_data, staging}
use Rattle.host_journal.specs.Kept.{IsKept, Leaves, Rests}
use Rattle.host_journal.specs.Laws.{ChangesStaySound}
use Rattle.host_journal.specs.Staged.{MayStage}
use Rattle.host_journal.proofs.FirstSync.{since_settled}
use Rattle.host_journal.proofs.Stretches.{LeftNow}

-- Changes of what is staged

still_few : (counts : Bool) (from at count slack : ℕ) → nat_le from at ≡ counts → count ≤ slack → (from ≤ at → count < slack) → count + (if counts then 1 else 0) ≤ slack
still_few true from at count slack is few room = let behind : from ≤ at = grind (arith, nat_tests) in omega (arith, room behind)
still_few false from at count slack is few room = omega (arith, few)

sound_staged : (journal : Journal) (at : ℕ) (block : Block) → MayStage journal.geometry at → (area_from journal.geometry ≤ at → journal.count < journal.geometry.slack)
    → IsJournal journal → IsJournal (staging journal at block)
sound_staged journal at block may room sound = record {
  sizes = sound.sizes;
  within = λ q some. elim (cases_eq q at) [
    | inl same ↦ subst (MayStage journal.geometry) (sym same) may
    | inr apart ↦ sound.within q (subst IsSome (get-insert_other journal.staged at block q apart) some)
  ];
  few = still_few (is_data journal.geometry at) (area_from journal.geometry) at journal.count journal.geometry.slack refl sound.few room;
}

sound_forgotten : (journal : Journal) (at : ℕ) → IsJournal journal → IsJournal (forgetting journal at)
sound_forgotten journal at sound = record {
  sizes = sound.sizes;
  within = λ q some. elim (cases_eq q at) [
    | inl same ↦ absurd (false≢true (subst IsSome (ap (get (remove journal.staged at)) same ∙ get-remove_same journal.staged at) some))
    | inr apart ↦ sound.within q (subst IsSome (get-remove_other journal.staged at q apart) some)
  ];
  few = sound.few;
}

pub stay_sound : {D : Type 0} (known : D → Known) (journal : Journal) (at : ℕ) → ChangesStaySound known journal at
stay_sound known journal at = record {
  stage = λ block may room. record {
    sound = sound_staged journal at block may room;
    rests = λ disk rests. record {
      started = rests.started;
      sound = sound_staged journal at block may room rests.sound;
      enough = rests.enough;
      kept = rests.kept;
      closed = rests.closed;
    };
  };
  forget = record {
    sound = sound_forgotten journal at;
    rests = λ disk rests. record {
      started = rests.started;
      sound = sound_forgotten journal at rests.sound;
      enough = rests.enough;
      kept = rests.kept;
      closed = rests.closed;
    };
  };
}

-- with one block more staged
pub rests_staged : (journal later : Journal) (at : ℕ) (block : Block) (disk : Known) → later ≡ staging journal at block → MayStage journal.geometry at
    → (area_from journal.geometry ≤ at → journal.count < journal.geometry.slack) → Rests journal disk → Rests later disk
rests_staged journal later at block disk is may room rests =
    subst (λ (j : Journal). Rests j disk) (sym is) (((stay_sound {D = Unit {0}} (λ _. disk) journal at).stage block may room).rests tt rests)

-- What a disk has kept

-- while nothing is written a stop leaves just that
pub kept_left : (old new : Known) → LeftNow old → Goes old new → WritesAt nowhere old new
    → (geometry : Geometry) (kept : List Block) → IsKept geometry old kept → Leaves (λ image. StandsFor geometry image kept) old new
kept_left old new left_now goes writes geometry kept is = record {
  since = since_settled (λ image. StandsFor geometry image kept) old new left_now goes writes (λ _. is.settled) is.stands;
  now = λ tells image could.
      subst (λ (blocks : List Block). StandsFor geometry blocks kept) (sym (settled_left old image (could_leave_before old new image tells writes could) is.settled)) is.stands;
}
