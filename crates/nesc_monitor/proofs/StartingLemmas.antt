-- An image that is not opened, and a run that goes on from the files as which one opens.
use Rattle.std.proofs.Common.{◌≡◌, ℕ, ◌+◌, ◌≤◌, ◌++◌, true, List, Option, Err, inl, inr, refl, ◌∙◌, subst}
use Rattle.nesc_base.specs.declared.block.Block.{Block}
use Rattle.nesc_base.specs.Disk.{Known, Unchanged}
use Rattle.nesc_base.specs.Fault.{HasCause}
use Rattle.nesc_base.specs.Places.{Places}
use Rattle.nesc_base.proofs.Causes.{rose_earlier}
use Rattle.nesc_requests.specs.Script.{Script}
use Rattle.nesc_requests.specs.declared.word.Word.{Word}
use Rattle.plain_machine.specs.Placing.{Placed}
use Rattle.plain_machine.specs.State.{State, start}
use Rattle.plain_machine.specs.Traces.{setting_of}
use Rattle.plain_machine.specs.declared.setting.Setting.{Setting}
use Rattle.image_layout.specs.declared.fault.ImageFault.{ImageFault}
use Rattle.image_layout.specs.declared.fault.OpenFault.{OpenFault}
use Rattle.image_layout.specs.declared.fault.OpenFault.TheVariants as opening
use Rattle.image_layout.specs.Refusal.{IsRefused}
use Rattle.nesc_session.specs.Opening.{LeavesOpened, StartsIn}
use Rattle.nesc_session.specs.Resting.{IsIn}
use Rattle.nesc_session.specs.declared.fault.StepFault.TheVariants as step
use Rattle.nesc_session.specs.declared.session.Session.{Session}
use Rattle.nesc_monitor.specs.Starting.{Course, GoesOn, StartsAndTells, ending_of, ending_of_run}
use Rattle.nesc_monitor.specs.Steps.{RanCutShort, RanToEnd, RanToFault, RunsBy, media_in}
use Rattle.nesc_monitor.specs.Watched.{Watched}
use Rattle.nesc_monitor.specs.declared.ending.Ending.TheVariants as ending
use Rattle.nesc_monitor.specs.declared.fault.RunFault.{RunFault}
use Rattle.nesc_monitor.specs.declared.fault.RunFault.TheVariants as run

-- The image was not opened

module _ {D T : Type 0} (known : D → Known) (old new : D) (script : Script) (words : List Word) (out : Watched) (silent : out.after ≡ out.before) where
  pub starts_not : (fault : OpenFault) → LeavesOpened {T = T} known old new (Err fault) → HasCause (known old).faults (known new).faults (fault ≡ opening.Disk (record {}))
      → (fault ≡ opening.NoMemory → Unchanged (known old) (known new)) → ((known old).tells ≡ true → (image : ImageFault) → fault ≡ opening.Image image → IsRefused (known old).contents image)
      → StartsAndTells (ending_of fault) (known old) (known new) script words out
  starts_not opening.NoMemory leaves cause memory refused = (memory refl, silent)
  starts_not (opening.Disk fault) leaves cause memory refused = (cause.rose refl, inl (record { silent = silent; stays = record { stands = leaves.settled } }))
  starts_not (opening.Image fault) leaves cause memory refused = λ tells. record {
    refused = refused tells fault refl;
    silent = silent;
    stays = record { stands = leaves.settled };
    unwritten = leaves.unwritten fault refl;
  }

-- It was

-- what the disk failed to read since is no less than what it failed to read since an earlier moment
module _ (setting : Setting) (places : Places) (old : State) (script : Script) (words : List Word) (earlier before after : Known) (no_later : earlier.faults ≤ before.faults) (taken told : Option (List ℕ)) where
  end_earlier : RanToEnd setting places old script words before after taken told → RanToEnd setting places old script words earlier after taken told
  end_earlier ran = record {
    groups = ran.groups;
    end = ran.end;
    rest = ran.rest;
    trace = ran.trace;
    tells = ran.tells;
    keeps = ran.keeps;
    media = rose_earlier (media_in ran.groups) earlier.faults before.faults after.faults no_later ran.media;
  }

  short_earlier : RanCutShort setting places old script words before after taken told → RanCutShort setting places old script words earlier after taken told
  short_earlier ran = record {
    done = ran.done;
    left = ran.left;
    early = ran.early;
    more = ran.more;
    end = ran.end;
    rest = ran.rest;
    last = ran.last;
    whole = ran.whole;
    trace = ran.trace;
    quiet = ran.quiet;
    is_last = ran.is_last;
    tells = ran.tells;
    tells_early = ran.tells_early;
    keeps = ran.keeps;
    media = rose_earlier (media_in (ran.early ++ ran.more)) earlier.faults before.faults after.faults no_later ran.media;
  }

  fault_earlier : RanToFault setting places old script words before after taken told → RanToFault setting places old script words earlier after taken told
  fault_earlier ran = record {
    done = ran.done;
    word = ran.word;
    left = ran.left;
    groups = ran.groups;
    end = ran.end;
    rest = ran.rest;
    event = ran.event;
    whole = ran.whole;
    trace = ran.trace;
    draws = ran.draws;
    asks = ran.asks;
    tells = ran.tells;
    stops = ran.stops;
    media = rose_earlier (media_in ran.groups + 1) earlier.faults before.faults after.faults no_later ran.media;
  }

-- from the state in which the session started
module _ (session : Session) (script : Script) (words : List Word) (old mid : Known) (tells : old.tells ≡ true) (machine : session.setting.machine ≡ script.machine) (starts : StartsIn session old.contents mid) where
  goes_on : (course : Course) → ((kept : List Block) (state : State) (placed : Placed) → IsIn session mid kept state placed → course session.setting placed.now state script words) → GoesOn course old.contents script words
  goes_on course goes =
      let geometry = session.setting.geometry in
      let files = starts.some.0 in
      let places = starts.some.1 in
      let begun = starts.starts files places starts.some.2 in
      let setting : session.setting ≡ setting_of script geometry = λ i. record { machine = machine i; geometry = geometry } in
      let From : Setting → Type 0 = λ setting. course setting places (start setting files) script words in
      record { geometry = geometry; files = files; places = places; opens = starts.some.2; goes_on = subst From setting (goes begun.0 _ _ begun.1) }

module _ (session : Session) (script : Script) (words : List Word) (old mid new : Known) (out : Watched) (still : mid.tells ≡ old.tells) (no_later : old.faults ≤ mid.faults)
    (machine : session.setting.machine ≡ script.machine) (starts : old.tells ≡ true → StartsIn session old.contents mid) where
  pub starts_to_end : (mid.tells ≡ true → (kept : List Block) (state : State) (placed : Placed) → IsIn session mid kept state placed
      → RanToEnd session.setting placed.now state script words mid new out.before out.after) → StartsAndTells ending.Done old new script words out
  starts_to_end ran tells =
      goes_on session script words old mid tells machine (starts tells) (λ setting places state script words. RanToEnd setting places state script words old new out.before out.after)
      (λ kept state placed is. end_earlier _ _ _ _ _ old mid new no_later _ _ (ran (still ∙ tells) kept state placed is))

  pub starts_to_fault : (fault : RunFault) → HasCause mid.faults new.faults (fault ≡ run.Step (step.Disk (record {}))) → HasCause out.faults_before out.faults_after (fault ≡ run.Write (record {}))
      → (mid.tells ≡ true → (kept : List Block) (state : State) (placed : Placed) → IsIn session mid kept state placed
      → RunsBy (Err fault) session.setting placed.now state script words mid new out.before out.after) → StartsAndTells (ending_of_run fault) old new script words out
  starts_to_fault (run.Write fault) device write ran = (
    write.rose refl,
    λ tells.
        goes_on session script words old mid tells machine (starts tells) (λ setting places state script words. RanCutShort setting places state script words old new out.before out.after)
        (λ kept state placed is. short_earlier _ _ _ _ _ old mid new no_later _ _ (ran (still ∙ tells) kept state placed is)),
  )
  starts_to_fault (run.Step (step.Disk fault)) device write ran = (
    rose_earlier 1 old.faults mid.faults new.faults no_later (device.rose refl),
    inr (λ tells.
        goes_on session script words old mid tells machine (starts tells) (λ setting places state script words. RanToFault setting places state script words old new out.before out.after)
        (λ kept state placed is. fault_earlier _ _ _ _ _ old mid new no_later _ _ (ran (still ∙ tells) kept state placed is))),
  )
  starts_to_fault (run.Step (step.Image fault)) device write ran = λ tells.
      let begun = starts tells in
      let first = begun.starts begun.some.0 begun.some.1 begun.some.2 in absurd (ran (still ∙ tells) first.0 _ _ first.1)
