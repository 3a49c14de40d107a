-- Each block that the machine of one file tells is the file's own.
use Rattle.std.proofs.Common.{◌≡◌, ℕ, ◌+◌, inl, inr, Bool, true, false, List, [], ◌∷◌, Option, Some, None, option_map, refl, sym, subst}
use Rattle.std.specs.FinMap.{empty}
use Rattle.std.specs.List.{AllByRecursion}
use Rattle.std.specs.Prelude.{unwrap_or}
use Rattle.nesc_base.specs.declared.block.Block.{Block}
use Rattle.nesc_base.specs.Files.{File}
use Rattle.nesc_base.specs.declared.numbers.FnNo.{FnNo}
use Rattle.nesc_requests.specs.declared.request.Request.{Request}
use Rattle.nesc_requests.specs.declared.request.Request.TheVariants.{Flush, Read, Write}
use Rattle.file_model.specs.Files.{Change, create, delete, hold, put, resize}
use Rattle.plain_machine.specs.Functions.{Attached}
use Rattle.plain_machine.specs.Submissions.{with_request}
use Rattle.isolation.specs.History.{OwnEvent, OwnLine, asked, attached, changed, detached, got, handled, kept, restarted, ticked}
use Rattle.isolation.specs.Laws.{Brings, IsBrought, ShowsNoForeignBytes, TellsOwn}
use Rattle.isolation.specs.Solo.{Solo, SoloRun, SoloStep, data_told, file_of, opened}
use Rattle.isolation.proofs.OwnDesk.{HasOwn, HasOwnIn, WritesOwn, own_handling, own_request, own_tick}
use Rattle.isolation.proofs.OwnFile.{HoldsOwn, HoldsOwn-empty, HoldsOwnIn, PutsOwn, all_append, own_change, own_changes, own_range}

module _ (file : Option File) (events : List OwnEvent) where
  -- all that the machine has is the file's own
  pub record IsOwnSolo (solo : Solo) : Type 0 where
    pub now : HoldsOwnIn file events solo.now
    pub last_kept : HoldsOwnIn file events solo.last_kept
    pub desk : HasOwnIn file events solo.desk

  -- what an event brings is in the list
  abbrev IsAmong : OwnEvent → Type 0
  IsAmong event = (v : ℕ) (block : Block) → Brings v block event → IsBrought v block events

  -- the file that is read
  own_file : (now : Option File) → HoldsOwnIn file events now
      → HoldsOwn file events (unwrap_or now (record { name = []; length = 0; body = empty })).body
  own_file None own = HoldsOwn-empty file events
  own_file (Some now) own = own

  own_desk : (has : Option Attached) (desk : Attached) → has ≡ Some desk → HasOwnIn file events has → HasOwn file events desk
  own_desk has desk on own = subst (HasOwnIn file events) on own

  brought_change : (change : Change) → IsAmong (changed change) → PutsOwn file events change
  brought_change (create n name length) among = tt
  brought_change (delete n) among = tt
  brought_change (resize n length) among = tt
  brought_change (hold n blocks) among = tt
  brought_change (put n v block) among = inr (inr (among v block (refl, refl)))

  brought_request : (id : ℕ) (request : Request) → IsAmong (asked id request) → WritesOwn file events request
  brought_request id (Read first into) among = tt
  brought_request id (Write first from) among = λ k block there. inr (inr (among (first + k) block (k, refl, there)))
  brought_request id Flush among = tt

  asked_own : (id : ℕ) (request : Request) (has : Option Attached) → WritesOwn file events request → HasOwnIn file events has
      → HasOwnIn file events (option_map (λ (desk : Attached). with_request desk id request) has)
  asked_own id request None writes own = tt
  asked_own id request (Some desk) writes own = own_request file events desk id request writes own

  -- what an event leaves, and what it tells
  record StaysOwn (lines : List OwnLine) (new : Solo) : Type 0 where
    tells : AllByRecursion (TellsOwn file events) lines
    own : IsOwnSolo new

  -- nothing is told
  stays_silent : (lines : List OwnLine) (new after : Solo) → lines ≡ [] → new ≡ after → IsOwnSolo after → StaysOwn lines new
  stays_silent lines new after none is own =
      record { tells = subst (AllByRecursion (TellsOwn file events)) (sym none) tt; own = subst IsOwnSolo (sym is) own }

  own_data : (old : Solo) (v count : ℕ) (failed : Bool) → IsOwnSolo old → AllByRecursion (TellsOwn file events) (data_told old v count failed)
  own_data old v count true own = tt
  own_data old v count false own = (own_range file events (file_of old) v count (own_file old.now own.now), tt)

  module _ (f : FnNo) (n : ℕ) where
    own_step : (event : OwnEvent) (old : Solo) (lines : List OwnLine) (new : Solo) → IsAmong event → IsOwnSolo old → SoloStep f n old event lines new
        → StaysOwn lines new
    own_step (changed change) old lines new among own step =
        stays_silent lines new _ step.0 step.2
        (record { now = own_change file events change old.now (brought_change change among) own.now; last_kept = own.last_kept; desk = own.desk })
    own_step (got v count failed) old lines new among own step = record {
      tells = subst (AllByRecursion (TellsOwn file events)) (sym step.0) (own_data old v count failed own);
      own = subst IsOwnSolo (sym step.1) own;
    }
    own_step attached old lines new among own step =
        stays_silent lines new _ step.0 step.1
        (record { now = own.now; last_kept = own.last_kept; desk = record { writes = tt; read = refl } })
    own_step detached old lines new among own step =
        stays_silent lines new _ step.0 step.1 (record { now = own.now; last_kept = own.last_kept; desk = tt })
    own_step (asked id request) old lines new among own step =
        stays_silent lines new _ step.0 step.1
        (record { now = own.now; last_kept = own.last_kept; desk = asked_own id request old.desk (brought_request id request among) own.desk })
    own_step (ticked line clock failed) old lines new among own step =
        let left = own_tick file events (file_of old) f step.desk step.turn step.answer clock step.reply step.changes step.later
        (own_file old.now own.now) (own_desk old.desk step.desk step.on own.desk) step.is step.turns in record {
          tells = subst (AllByRecursion (TellsOwn file events)) (sym step.told) left.tells;
          own = subst IsOwnSolo (sym step.result)
              (record { now = own_changes file events step.changes old.now left.puts own.now; last_kept = own.last_kept; desk = left.has });
        }
    own_step (handled did) old lines new among own step =
        let left = own_handling file events (file_of old) f step.desk (own_desk old.desk step.desk step.on own.desk) step.reply step.changes step.later
        did step.handles in record {
          tells = subst (AllByRecursion (TellsOwn file events)) (sym step.told) left.tells;
          own = subst IsOwnSolo (sym step.result)
              (record { now = own_changes file events step.changes old.now left.puts own.now; last_kept = own.last_kept; desk = left.has });
        }
    own_step kept old lines new among own step =
        stays_silent lines new _ step.0 step.1 (record { now = own.now; last_kept = own.now; desk = own.desk })
    own_step restarted old lines new among own step =
        stays_silent lines new _ step.0 step.1 (record { now = own.last_kept; last_kept = own.last_kept; desk = tt })

    -- the events to come are among all
    own_run : (coming : List OwnEvent) (old : Solo) (lines : List OwnLine) (new : Solo)
        → ((v : ℕ) (block : Block) → IsBrought v block coming → IsBrought v block events) → IsOwnSolo old → SoloRun f n old coming lines new
        → AllByRecursion (TellsOwn file events) lines
    own_run [] old lines new among own run = subst (AllByRecursion (TellsOwn file events)) (sym run.0) tt
    own_run (event ∷ coming) old lines new among own run =
        let stays = own_step event old run.1 run.0 (λ v block brings. among v block (inl brings)) own run.3 in
        let rest = own_run coming run.0 run.2 new (λ v block brought. among v block (inr brought)) stays.own run.4 in
        subst (AllByRecursion (TellsOwn file events)) (sym run.5) (all_append (TellsOwn file events) run.1 run.2 stays.tells rest)

  -- what the file held as it was opened
  opened_own : (now : Option File) → file ≡ now → HoldsOwnIn file events now
  opened_own None is = tt
  opened_own (Some now) is = λ v block there. inr (inl (now, is, there))

pub no_foreign : (f : FnNo) (n : ℕ) → ShowsNoForeignBytes f n
no_foreign f n file events lines new run =
    let own = opened_own file events file refl in
    own_run file events f n events (opened file) lines new (λ v block brought. brought) (record { now = own; last_kept = own; desk = tt }) run
