-- A session goes with its disk still, and is in the state to which it came, where the disk was only read.
use Rattle.std.proofs.Common.{◌≡◌, List, sym, ◌∙◌, subst}
use Rattle.std.specs.Prelude.{true}
use Rattle.nesc_base.specs.declared.block.Block.{Block}
use Rattle.nesc_base.specs.declared.geometry.Geometry.{Geometry}
use Rattle.nesc_base.specs.Disk.{Goes, Known, Unchanged}
use Rattle.nesc_base.proofs.DiskCalls.{goes_itself, unchanged_itself}
use Rattle.nesc_requests.specs.declared.event.Event.{Event}
use Rattle.file_layer.specs.Showing.{RestsOn}
use Rattle.file_layer.proofs.ReadBlocks.{kept_on}
use Rattle.host_journal.specs.Kept.{IsKept}
use Rattle.image_layout.specs.Opens.{Opens}
use Rattle.plain_machine.specs.Misses.{HasNoTrees}
use Rattle.plain_machine.specs.Placing.{Placed}
use Rattle.plain_machine.specs.State.{State}
use Rattle.plain_machine.specs.declared.outcome.Outcome.{Outcome}
use Rattle.nesc_session.specs.Resting.{IsIn, IsSession, Rests}
use Rattle.nesc_session.specs.Stepping.{DoesInMemory, DoesOver, DoesTo}
use Rattle.nesc_session.specs.declared.session.Session.{Session}

module _ (old new : Session) (before after : Known) (goes : Goes before after) (unchanged : Unchanged before after) (same : new.journal.geometry ≡ old.journal.geometry) where
  pub rests_read : IsSession new → RestsOn new.files new.journal after → Rests old before → Rests new after
  rests_read sound on rests = record {
    sound = sound;
    rests = on;
    opens = λ tells.
        let told : before.tells ≡ true = sym goes.still_tells ∙ tells in
        let some = rests.opens told in (
          some.0,
          some.1,
          subst (λ (g : Geometry). Opens after.contents g some.0 some.1) (sym same)
              (subst (λ (blocks : List Block). Opens blocks old.journal.geometry some.0 some.1) (sym (unchanged.contents told)) some.2),
        );
  }

  pub does_read : (event : Event) (outcome : Outcome) (kept : List Block) (state : State) (placed : Placed) → before.tells ≡ true → HasNoTrees outcome → IsKept old.journal.geometry before kept
      → DoesOver old kept state placed event outcome new → DoesTo old state placed event outcome new after
  does_read event outcome kept state placed tells no_trees is over = record {
    changes = over.changes;
    next = over.next;
    moved = over.moved;
    later = kept;
    does = over.does;
    places = over.places;
    no_trees = no_trees;
    is_in = record { has_kept = subst (λ (g : Geometry). IsKept g after kept) (sym same) (kept_on old.journal.geometry before after kept tells unchanged is); stands = over.stands };
  }

-- and where it was not asked at all
pub does_unasked : (old new : Session) (disk : Known) (event : Event) (outcome : Outcome) → new.journal.geometry ≡ old.journal.geometry → HasNoTrees outcome → DoesInMemory old event outcome new
    → disk.tells ≡ true → (kept : List Block) (state : State) (placed : Placed) → IsIn old disk kept state placed → DoesTo old state placed event outcome new disk
does_unasked old new disk event outcome same no_trees does tells kept state placed is =
    does_read old new disk disk (goes_itself disk) (unchanged_itself disk) same event outcome kept state placed tells no_trees is.has_kept (does kept state placed is.stands)
