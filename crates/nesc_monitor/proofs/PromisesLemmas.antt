-- What is promised of a call follows from what the command came to.
use Rattle.std.proofs.Common.{◌≡◌, ⊎_elim, inl, inr, ◌↔◌, ◌<◌, ◌≤◌, List, ℕ, Option, Some, None, Ok, Err, sym, ◌∙◌, ap, refl, subst, arith}
use Rattle.std.proofs.lemmas.Option.{none-some}
use Rattle.nesc_base.specs.declared.block.Block.{Block}
use Rattle.nesc_base.specs.declared.geometry.Geometry.{Geometry}
use Rattle.nesc_base.specs.Disk.{Goes}
use Rattle.nesc_base.specs.Files.{Files}
use Rattle.nesc_base.specs.Geometry.{total}
use Rattle.nesc_base.specs.Places.{Places}
use Rattle.nesc_requests.specs.Script.{Script}
use Rattle.nesc_requests.specs.declared.word.Word.{Word}
use Rattle.script_lang.specs.declared.fault.InputFault.{InputFault}
use Rattle.image_layout.specs.declared.fault.ImageFault.{ImageFault}
use Rattle.image_layout.specs.declared.fault.ImageFault.TheVariants.{BadSuper, BadSize, BadList, BadTable, BadOwner, TwiceOwned}
use Rattle.image_layout.specs.Opens.{Opens}
use Rattle.image_layout.specs.Refusal.{IsRefused}
use Rattle.image_layout.proofs.OneFault.{opens_as_nothing}
use Rattle.nesc_monitor.specs.Call.{AreKnownAccepted, AreReadWell, Call, IsKnownRefused, OpensKnown}
use Rattle.nesc_monitor.specs.Endings.{AtAnyMoment, Comes, IsCarriedOut, IsEarly, IsImageRefused, IsInputRefused, IsOfMake, IsOfTexts, IsPastTexts, error_line, status_of}
use Rattle.nesc_monitor.specs.Making.{ComesOfMake}
use Rattle.nesc_monitor.specs.Promises.{EveryCommand, OfMake, OfNoCommand, OfRun, OfRunReadWell}
use Rattle.nesc_monitor.specs.Reading.{GivesTooMany, GivesWhole, Tells}
use Rattle.nesc_monitor.specs.Running.{ComesOfRun, IsLookedAtLast}
use Rattle.nesc_monitor.specs.Texts.{AreTaken, HasOneFailed, IsInTurn, IsScheduleRefused, IsTakenFromFront, SaysNoScript, SaysNoWords, SaysScript, SaysWords}
use Rattle.nesc_monitor.specs.Watched.{DiskNeverFell, HasBegun, HasDiskFailed, HasDiskWorked, HasFailed, HasTaken, HasTakenNothing, HasWorked, IsDiskUntouched, IsOnlyRead, NeverFell, Watched}
use Rattle.nesc_monitor.specs.Words.{command_of}
use Rattle.nesc_monitor.specs.declared.ending.Ending.{Ending}
use Rattle.nesc_monitor.specs.declared.ending.Ending.TheVariants.{Done, Words, Memory, Commands, Schedule, Image, Device, Read, Write}
use Rattle.nesc_monitor.specs.declared.ending.Status.{Status}
use Rattle.nesc_monitor.specs.declared.ending.Status.TheVariants as status
use Rattle.nesc_monitor.specs.declared.words.Command.{Command}
use Rattle.nesc_monitor.specs.declared.words.Command.TheVariants.{Run, Make}

-- The ending of a status

-- what an ending of this status is, where it can be one alone: an image is refused for some cause
abbrev Ends : Status → Ending → Type 0
Ends status.Done ending = ending ≡ Done
Ends status.Words ending = ending ≡ Words
Ends status.Image ending = (fault : ImageFault) × (ending ≡ Image fault)
Ends status.Device ending = ending ≡ Device
Ends status.Read ending = ending ≡ Read
Ends status.Write ending = ending ≡ Write
Ends other ending = Unit {0}

ends : (ending : Ending) → Ends (status_of ending) ending
ends Done = refl
ends Words = refl
ends Memory = tt
ends (Commands fault) = tt
ends (Schedule fault) = tt
ends (Image fault) = (fault, refl)
ends Device = refl
ends Read = refl
ends Write = refl

ending_of : (ending : Ending) (told : Status) → status_of ending ≡ told → Ends told ending
ending_of ending told is = subst (λ (told : Status). Ends told ending) is (ends ending)

-- Texts

-- an accepted text is not refused

commands_clash : (before : Option (List ℕ)) (script : Script) (fault : InputFault) → Tells before → SaysScript before script → SaysNoScript before fault → ⊥
commands_clash None script fault known says none = known
commands_clash (Some text) script fault known says none = let is : Ok script ≡ Err fault = sym says ∙ none in cc

schedule_clash : (before : Option (List ℕ)) (functions : ℕ) (words : List Word) (fault : InputFault) → Tells before → SaysWords functions before words → SaysNoWords functions before fault → ⊥
schedule_clash None functions words fault known says none = known
schedule_clash (Some text) functions words fault known says none = let is : Ok words ≡ Err fault = sym says ∙ none in cc

-- a text says one script
one_script : (before : Option (List ℕ)) (one other : Script) → Tells before → SaysScript before one → SaysScript before other → one ≡ other
one_script None one other known says too = absurd known
one_script (Some text) one other known says too = let is : Ok one ≡ Ok other = sym says ∙ too in cc

-- a schedule that is too long, or refused for the machine of the commands, is not accepted
refused_clash : (commands schedule : Watched) (script : Script) (words : List Word) (fault : InputFault) → Tells commands.before → Tells schedule.before → SaysScript commands.before script → SaysWords script.machine.functions schedule.before words
    → IsScheduleRefused fault commands schedule → ⊥
refused_clash commands schedule script words fault known tells says accepts refused = ⊎_elim
    (λ long. schedule_clash schedule.before script.machine.functions words fault tells accepts (long.1 script.machine.functions))
    (λ judged.
    let P : Script → Type 0 = λ script. SaysNoWords script.machine.functions schedule.before fault in
    schedule_clash schedule.before script.machine.functions words fault tells accepts (subst P (one_script commands.before judged.0 script known judged.1 says) judged.2))
    refused.found

long_clash : (before after : Option (List ℕ)) → Tells before → GivesTooMany before → GivesWhole before after → ⊥
long_clash None after known long whole = known
long_clash (Some bytes) after known long whole = omega (arith, long, whole.0)

-- an image that is refused does not open
image_clash : (image : List Block) (fault : ImageFault) (geometry : Geometry) (files : Files) (places : Places) → IsRefused image fault → Opens image geometry files places → ⊥
image_clash image fault geometry files places down opens = (opens_as_nothing image fault down).0 geometry files places opens

module _ (call : Call) where
  -- The command `run`

  abbrev Ran : Ending → Type 0
  Ran ending = ComesOfRun ending call.commands call.schedule call.image call.out

  in_turn : (ending : Ending) → Ran ending → IsInTurn call.commands call.schedule
  in_turn Done runs = inr runs.0.commands_read
  in_turn Words runs = absurd runs.0
  in_turn Memory runs = runs.0
  in_turn (Commands fault) runs = ⊎_elim (λ long. inl long.1) (λ whole. inr whole.0) runs.0.found
  in_turn (Schedule fault) runs = inr runs.0.commands_read
  in_turn (Image fault) runs = inr runs.0.commands_read
  in_turn Device runs = inr runs.0.commands_read
  in_turn Read runs = ⊎_elim (λ failed. inl failed.1) (λ whole. inr whole.0) runs.0
  in_turn Write runs = inr runs.0.commands_read

  taken : (ending : Ending) → Ran ending → IsPastTexts (status_of ending) → AreTaken call.commands call.schedule
  taken Done runs past = runs.0
  taken Words runs past = absurd past
  taken Memory runs past = absurd past
  taken (Commands fault) runs past = absurd past
  taken (Schedule fault) runs past = absurd past
  taken (Image fault) runs past = runs.0
  taken Device runs past = runs.0
  taken Read runs past = absurd past
  taken Write runs past = runs.0

  untouched : (ending : Ending) → Ran ending → IsOfTexts (status_of ending) → IsDiskUntouched call.image
  untouched Done runs early = absurd early
  untouched Words runs early = absurd early
  untouched Memory runs early = absurd early
  untouched (Commands fault) runs early = runs.1
  untouched (Schedule fault) runs early = runs.1
  untouched (Image fault) runs early = absurd early
  untouched Device runs early = absurd early
  untouched Read runs early = runs.1
  untouched Write runs early = absurd early

  looked_at_last : (ending : Ending) → Ran ending → status_of ending ≡ status.Memory → IsLookedAtLast call.commands call.schedule call.image
  looked_at_last Memory runs memory = runs.1
  looked_at_last Done runs memory = cc
  looked_at_last Words runs memory = cc
  looked_at_last (Commands fault) runs memory = cc
  looked_at_last (Schedule fault) runs memory = cc
  looked_at_last (Image fault) runs memory = cc
  looked_at_last Device runs memory = cc
  looked_at_last Read runs memory = cc
  looked_at_last Write runs memory = cc

  runs_early : (ending : Ending) → Ran ending → IsEarly (status_of ending) → HasTakenNothing call.out
  runs_early Done runs early = absurd early
  runs_early Words runs early = runs.2
  runs_early Memory runs early = runs.2
  runs_early (Commands fault) runs early = runs.2
  runs_early (Schedule fault) runs early = runs.2
  runs_early (Image fault) runs early = absurd early
  runs_early Device runs early = absurd early
  runs_early Read runs early = runs.2
  runs_early Write runs early = absurd early

  -- the outcome is not a failure of a source
  not_read : HasOneFailed call.commands call.schedule → AreReadWell call → ⊥
  not_read failed well = ⊎_elim (λ first. well.commands first.0) (λ second. well.schedule second.1) failed

  carried_out : (ending : Ending) → Ran ending → AreKnownAccepted call → AreReadWell call → OpensKnown call.image.before → HasDiskWorked call.image → HasWorked call.out → IsCarriedOut (status_of ending) call.out
  carried_out Done runs texts well opens disk out = tt
  carried_out Words runs texts well opens disk out = absurd runs.0
  carried_out Memory runs texts well opens disk out = runs.2
  carried_out (Commands fault) runs texts well opens disk out = absurd (commands_clash call.commands.before texts.accepted.script fault texts.commands_known texts.accepted.commands_say runs.0.refused)
  carried_out (Schedule fault) runs texts well opens disk out =
      absurd (refused_clash call.commands call.schedule texts.accepted.script texts.accepted.words fault texts.commands_known texts.schedule_known texts.accepted.commands_say texts.accepted.schedule_says runs.0)
  carried_out (Image fault) runs texts well opens disk out = absurd (image_clash call.image.before.contents fault opens.geometry opens.files opens.places (runs.1 opens.known).refused opens.opens)
  carried_out Device runs texts well opens disk out = absurd (disk runs.1)
  carried_out Read runs texts well opens disk out = absurd (not_read runs.0 well)
  carried_out Write runs texts well opens disk out = absurd (out runs.1)

  image_refused : (ending : Ending) → Ran ending → AreKnownAccepted call → AreReadWell call → IsKnownRefused call.image.before → HasDiskWorked call.image → IsImageRefused (status_of ending)
  image_refused Done runs texts well down disk = absurd (let opened = runs.1.ran down.known in image_clash call.image.before.contents down.fault opened.geometry opened.files opened.places down.refused opened.opens)
  image_refused Words runs texts well down disk = absurd runs.0
  image_refused Memory runs texts well down disk = inr refl
  image_refused (Commands fault) runs texts well down disk = absurd (commands_clash call.commands.before texts.accepted.script fault texts.commands_known texts.accepted.commands_say runs.0.refused)
  image_refused (Schedule fault) runs texts well down disk =
      absurd (refused_clash call.commands call.schedule texts.accepted.script texts.accepted.words fault texts.commands_known texts.schedule_known texts.accepted.commands_say texts.accepted.schedule_says runs.0)
  image_refused (Image fault) runs texts well down disk = inl refl
  image_refused Device runs texts well down disk = absurd (disk runs.1)
  image_refused Read runs texts well down disk = absurd (not_read runs.0 well)
  image_refused Write runs texts well down disk = absurd (let opened = runs.2.ran down.known in image_clash call.image.before.contents down.fault opened.geometry opened.files opened.places down.refused opened.opens)

  -- where not both texts were accepted, one is refused, or there was no memory
  text_refused : (ending : Ending) → Ran ending → AreReadWell call → ¬ AreTaken call.commands call.schedule → IsInputRefused (status_of ending)
  text_refused Done runs well none = absurd (none runs.0)
  text_refused Words runs well none = absurd runs.0
  text_refused Memory runs well none = inr refl
  text_refused (Commands fault) runs well none = inl refl
  text_refused (Schedule fault) runs well none = inl refl
  text_refused (Image fault) runs well none = absurd (none runs.0)
  text_refused Device runs well none = absurd (none runs.0)
  text_refused Read runs well none = absurd (not_read runs.0 well)
  text_refused Write runs well none = absurd (none runs.0)

  -- The command `make`

  abbrev Made : Geometry → Ending → Type 0
  Made geometry ending = ComesOfMake ending geometry call.image.before call.image.after call.out

  of_make : (ending : Ending) (geometry : Geometry) → Made geometry ending → IsOfMake (status_of ending)
  of_make Done geometry makes = tt
  of_make Words geometry makes = absurd makes
  of_make Memory geometry makes = absurd makes
  of_make (Commands fault) geometry makes = absurd makes
  of_make (Schedule fault) geometry makes = absurd makes
  of_make (Image fault) geometry makes = tt
  of_make Device geometry makes = tt
  of_make Read geometry makes = absurd makes
  of_make Write geometry makes = tt

  of_small : (ending : Ending) (geometry : Geometry) → Made geometry ending → call.image.before.size < total geometry → status_of ending ≡ status.Image
  of_small Done geometry makes small = absurd (omega (arith, small, makes.0.enough))
  of_small Words geometry makes small = absurd makes
  of_small Memory geometry makes small = absurd makes
  of_small (Commands fault) geometry makes small = absurd makes
  of_small (Schedule fault) geometry makes small = absurd makes
  of_small (Image fault) geometry makes small = refl
  of_small Device geometry makes small = absurd (omega (arith, small, makes.0))
  of_small Read geometry makes small = absurd makes
  of_small Write geometry makes small = absurd (omega (arith, small, makes.0.enough))

  -- a disk that is refused is too small, which is told with its size; it was only read, and nothing went out
  record IsSmall (geometry : Geometry) (fault : ImageFault) : Type 0 where
    small : call.image.before.size < total geometry
    told : fault ≡ BadSize call.image.before.size
    only_read : IsOnlyRead call.image
    silent : HasTakenNothing call.out

  is_small : (geometry : Geometry) (fault : ImageFault) → Made geometry (Image fault) → IsSmall geometry fault
  is_small geometry (BadSuper block) makes = absurd makes
  is_small geometry (BadSize block) makes = record { small = makes.0; told = ap BadSize makes.1; only_read = makes.2; silent = makes.3 }
  is_small geometry (BadList block) makes = absurd makes
  is_small geometry (BadTable block) makes = absurd makes
  is_small geometry (BadOwner block) makes = absurd makes
  is_small geometry (TwiceOwned file v) makes = absurd makes

  made_out : (ending : Ending) (geometry : Geometry) → Made geometry ending → total geometry ≤ call.image.before.size → HasDiskWorked call.image → HasWorked call.out
      → status_of ending ≡ status.Done
  made_out Done geometry makes enough disk out = refl
  made_out Words geometry makes enough disk out = absurd makes
  made_out Memory geometry makes enough disk out = absurd makes
  made_out (Commands fault) geometry makes enough disk out = absurd makes
  made_out (Schedule fault) geometry makes enough disk out = absurd makes
  made_out (Image fault) geometry makes enough disk out = absurd (omega (arith, enough, (is_small geometry fault makes).small))
  made_out Device geometry makes enough disk out = absurd (disk makes.1)
  made_out Read geometry makes enough disk out = absurd makes
  made_out Write geometry makes enough disk out = absurd (out makes.1)

  makes_early : (ending : Ending) (geometry : Geometry) → Made geometry ending → IsEarly (status_of ending) → HasTakenNothing call.out
  makes_early Done geometry makes early = absurd early
  makes_early Words geometry makes early = absurd makes
  makes_early Memory geometry makes early = absurd makes
  makes_early (Commands fault) geometry makes early = absurd makes
  makes_early (Schedule fault) geometry makes early = absurd makes
  makes_early (Image fault) geometry makes early = absurd early
  makes_early Device geometry makes early = absurd early
  makes_early Read geometry makes early = absurd makes
  makes_early Write geometry makes early = absurd early

  module _ (ending : Ending) where
    -- Whatever the command is

    abbrev Said : Option Command → Type 0
    Said command = Comes ending command call.commands call.schedule call.image call.out

    abbrev Moment : Option Command → Type 0
    Moment command = AtAnyMoment command call.image.before call.image.after

    Comes-words : (command : Option Command) → Said command → (status_of ending ≡ status.Words) ↔ (command ≡ None)
    Comes-words None comes = ((λ is. refl), (λ is. ap status_of comes.0))
    Comes-words (Some Run) comes = ((λ is. absurd (subst Ran (ending_of ending status.Words is) comes).0), (λ is. absurd (none-some _ (sym is))))
    Comes-words (Some (Make geometry)) comes = ((λ is. absurd (subst (Made geometry) (ending_of ending status.Words is) comes.2)), (λ is. absurd (none-some _ (sym is))))

    Comes-early : (command : Option Command) → Said command → IsEarly (status_of ending) → HasTakenNothing call.out
    Comes-early None comes early = comes.5.bytes
    Comes-early (Some Run) comes early = runs_early ending comes early
    Comes-early (Some (Make geometry)) comes early = makes_early ending geometry comes.2 early

    Comes-device : (command : Option Command) → Said command → status_of ending ≡ status.Device → HasDiskFailed call.image
    Comes-device None comes is = absurd (let h = sym (ap status_of comes.0) ∙ is in cc)
    Comes-device (Some Run) comes is = (subst Ran (ending_of ending status.Device is) comes).1
    Comes-device (Some (Make geometry)) comes is = (subst (Made geometry) (ending_of ending status.Device is) comes.2).1

    Comes-read : (command : Option Command) → Said command → status_of ending ≡ status.Read → HasOneFailed call.commands call.schedule
    Comes-read None comes is = absurd (let h = sym (ap status_of comes.0) ∙ is in cc)
    Comes-read (Some Run) comes is = (subst Ran (ending_of ending status.Read is) comes).0
    Comes-read (Some (Make geometry)) comes is = absurd (subst (Made geometry) (ending_of ending status.Read is) comes.2)

    Comes-write : (command : Option Command) → Said command → status_of ending ≡ status.Write → HasFailed call.out
    Comes-write None comes is = absurd (let h = sym (ap status_of comes.0) ∙ is in cc)
    Comes-write (Some Run) comes is = (subst Ran (ending_of ending status.Write is) comes).1
    Comes-write (Some (Make geometry)) comes is = (subst (Made geometry) (ending_of ending status.Write is) comes.2).1

    pub EveryCommand-comes : Said (command_of call.words) → (HasWorked call.err → HasTaken (error_line ending) call.err) → HasBegun (error_line ending) call.err
        → IsTakenFromFront call.commands × IsTakenFromFront call.schedule → call.spare.same → Goes call.image.before call.image.after → call.image.stays
        → NeverFell call.commands × NeverFell call.schedule × DiskNeverFell call.image × NeverFell call.out → NeverFell call.err → EveryCommand (status_of ending) ending call
    EveryCommand-comes comes told begun taken spare goes stays fell err_fell = record {
      status_told = refl;
      line_told = told;
      line_begun = begun;
      words = Comes-words _ comes;
      device = Comes-device _ comes;
      read = Comes-read _ comes;
      write = Comes-write _ comes;
      early = Comes-early _ comes;
      commands_taken = taken.0;
      schedule_taken = taken.1;
      spare = spare;
      image_goes = goes;
      image_stays = stays;
      commands_never_fell = fell.0;
      schedule_never_fell = fell.1;
      image_never_fell = fell.2;
      out_never_fell = fell.3;
      err_never_fell = err_fell;
    }

    -- By the command

    pub OfNoCommand-comes : (command : Option Command) → Said command → Moment command → command ≡ None → OfNoCommand ending call
    OfNoCommand-comes command comes moment is =
        let said = subst Said is comes in
        record {
          words = said.0;
          commands = said.1;
          schedule = said.2;
          image = said.4;
          image_only_read = said.3;
          out = said.5;
          any_moment = subst Moment is moment;
        }

    pub OfRun-comes : (command : Option Command) → Said command → command ≡ Some Run → OfRun (status_of ending) ending call
    OfRun-comes command comes is =
        let runs = subst Said is comes in
        record {
          done = λ done. (subst Ran (ending_of ending status.Done done) runs).1;
          cut_short = λ cut. (subst Ran (ending_of ending status.Write cut) runs).2;
          failed = λ failed. (subst Ran (ending_of ending status.Device failed) runs).2;
          in_turn = in_turn ending runs;
          commands_read = λ past. (taken ending runs past).commands_read;
          schedule_read = λ past. (taken ending runs past).schedule_read;
          accepted = λ past. (taken ending runs past).accepted;
          commands_refused = λ fault refused. (subst Ran refused runs).0;
          schedule_refused = λ fault refused. (subst Ran refused runs).0;
          image_refused = λ fault refused. (subst Ran refused runs).1;
          image_untouched = untouched ending runs;
          image_last = looked_at_last ending runs;
          too_long = λ known long. ⊎_elim (λ untouched. untouched) (λ whole. absurd (long_clash call.commands.before call.commands.after known long whole)) (in_turn ending runs);
        }

    pub OfRunReadWell-comes : (command : Option Command) → Said command → command ≡ Some Run → AreReadWell call → OfRunReadWell (status_of ending) call
    OfRunReadWell-comes command comes is well =
        let runs = subst Said is comes in
        record {
          commands_refused = λ fault known none. text_refused ending runs well (λ taken. commands_clash call.commands.before taken.accepted.script fault known taken.accepted.commands_say none);
          schedule_refused = λ script fault known says tells none. text_refused ending runs well (λ taken.
              let P : Script → Type 0 = λ script. SaysNoWords script.machine.functions call.schedule.before fault in
              schedule_clash call.schedule.before taken.accepted.script.machine.functions taken.accepted.words fault tells taken.accepted.schedule_says
              (subst P (one_script call.commands.before script taken.accepted.script known says taken.accepted.commands_say) none));
          image_refused = λ texts. image_refused ending runs texts well;
          carried_out = λ texts. carried_out ending runs texts well;
        }

    pub OfMake-comes : (command : Option Command) → Said command → Moment command → (geometry : Geometry) → command ≡ Some (Make geometry) → OfMake geometry (status_of ending) ending call
    OfMake-comes command comes moment geometry is =
        let said = subst Said is comes in
        let makes = said.2 in
        record {
          statuses = of_make ending geometry makes;
          made = λ done. (subst (Made geometry) (ending_of ending status.Done done) makes).0;
          line = λ done. (subst (Made geometry) (ending_of ending status.Done done) makes).1;
          cut_made = λ cut. (subst (Made geometry) (ending_of ending status.Write cut) makes).0;
          cut_line = λ cut. (subst (Made geometry) (ending_of ending status.Write cut) makes).2;
          small = ((λ image. let fault = ending_of ending status.Image image in (is_small geometry fault.0 (subst (Made geometry) fault.1 makes)).small), of_small ending geometry makes);
          small_told = λ fault is. (is_small geometry fault (subst (Made geometry) is makes)).told;
          small_only_read = λ image. let fault = ending_of ending status.Image image in (is_small geometry fault.0 (subst (Made geometry) fault.1 makes)).only_read;
          small_silent = λ image. let fault = ending_of ending status.Image image in (is_small geometry fault.0 (subst (Made geometry) fault.1 makes)).silent;
          failed_silent = λ failed. (subst (Made geometry) (ending_of ending status.Device failed) makes).2;
          any_moment = subst Moment is moment;
          commands = said.0;
          schedule = said.1;
          carried_out = made_out ending geometry makes;
        }
