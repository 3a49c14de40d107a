-- What was read and judged of the texts holds of what their sources had left.
use Rattle.std.proofs.Common.{◌≡◌, ℕ, pos, ◌+◌, ◌≤◌, List, length, Option, Some, None, Ok, Err, inl, inr, refl, subst, arith}
use Rattle.std.proofs.lemmas.Bool.Decides.{nat_tests}
use Rattle.nesc_requests.specs.Script.{Script}
use Rattle.nesc_requests.specs.declared.word.Word.{Word}
use Rattle.script_lang.specs.CommandsText.{commands_of}
use Rattle.script_lang.specs.Limits.{most_bytes, short_enough}
use Rattle.script_lang.specs.ScheduleText.{schedule_of}
use Rattle.script_lang.specs.declared.fault.InputFault.{InputFault}
use Rattle.script_lang.specs.declared.fault.InputFault.TheVariants.{OverLimit}
use Rattle.script_lang.specs.declared.fault.Limit.TheVariants.{Text}
use Rattle.script_lang.proofs.CountLemmas.{commands_of-long}
use Rattle.nesc_monitor.specs.Reading.{GivesAll, GivesTooMany, GivesWhole}
use Rattle.nesc_monitor.specs.Texts.{AreRefusedFor, IsReadWhole, IsRefusal, SaysNoScript, SaysNoWords, SaysScript, SaysWords}
use Rattle.nesc_monitor.specs.Watched.{IsUntouched, Watched}
use Rattle.nesc_monitor.specs.declared.ending.Ending.{Ending}
use Rattle.nesc_monitor.specs.declared.ending.Ending.TheVariants.{Done, Words, Memory, Commands, Schedule, Image, Device, Read, Write}

-- a text that was read

pub GivesWhole-all : (text : List ℕ) (before after : Option (List ℕ)) → GivesAll text before after → length text ≤ most_bytes → GivesWhole before after
GivesWhole-all text None after all within = tt
GivesWhole-all text (Some bytes) after all within = let P : List ℕ → Type 0 = λ text. length text ≤ most_bytes in (subst P all.0 within, all.1)

pub SaysScript-all : (text : List ℕ) (before after : Option (List ℕ)) (script : Script) → GivesAll text before after → commands_of text ≡ Ok script → SaysScript before script
SaysScript-all text None after script all says = tt
SaysScript-all text (Some bytes) after script all says = let P : List ℕ → Type 0 = λ text. commands_of text ≡ Ok script in subst P all.0 says

SaysNoScript-all : (text : List ℕ) (before after : Option (List ℕ)) (fault : InputFault) → GivesAll text before after → commands_of text ≡ Err fault → SaysNoScript before fault
SaysNoScript-all text None after fault all says = tt
SaysNoScript-all text (Some bytes) after fault all says = let P : List ℕ → Type 0 = λ text. commands_of text ≡ Err fault in subst P all.0 says

module _ (functions : ℕ) where
  pub SaysWords-all : (text : List ℕ) (before after : Option (List ℕ)) (words : List Word) → GivesAll text before after → schedule_of functions text ≡ Ok words → SaysWords functions before words
  SaysWords-all text None after words all says = tt
  SaysWords-all text (Some bytes) after words all says = let P : List ℕ → Type 0 = λ text. schedule_of functions text ≡ Ok words in subst P all.0 says

  SaysNoWords-all : (text : List ℕ) (before after : Option (List ℕ)) (fault : InputFault) → GivesAll text before after → schedule_of functions text ≡ Err fault → SaysNoWords functions before fault
  SaysNoWords-all text None after fault all says = tt
  SaysNoWords-all text (Some bytes) after fault all says = let P : List ℕ → Type 0 = λ text. schedule_of functions text ≡ Err fault in subst P all.0 says

  -- a schedule that is too long is refused for that, for any number of functions

  schedule_of-long : (text : List ℕ) → most_bytes + 1 ≤ length text → schedule_of functions text ≡ Err (OverLimit Text (pos 16777217))
  unfolding schedule_of
  schedule_of-long text long = let is : short_enough text ≡ Err (OverLimit Text (pos 16777217)) = grind (arith, nat_tests) in rw is refl

  SaysNoWords-long : (before : Option (List ℕ)) → GivesTooMany before → SaysNoWords functions before (OverLimit Text (pos 16777217))
  SaysNoWords-long None long = tt
  SaysNoWords-long (Some text) long = schedule_of-long text (omega (arith, long))

SaysNoScript-long : (before : Option (List ℕ)) → GivesTooMany before → SaysNoScript before (OverLimit Text (pos 16777217))
SaysNoScript-long None long = tt
SaysNoScript-long (Some text) long = commands_of-long text (omega (arith, long))

-- The commands are too long, and nothing of the schedule was read.
pub AreRefusedFor-long_commands : (commands schedule : Watched) → GivesTooMany commands.before → IsUntouched schedule → AreRefusedFor (Commands (OverLimit Text (pos 16777217))) commands schedule
AreRefusedFor-long_commands commands schedule long unread = record { refused = SaysNoScript-long commands.before long; found = inl (long, unread) }

-- The commands were read, and the schedule is too long.
pub AreRefusedFor-long_schedule : (commands schedule : Watched) → IsReadWhole commands → GivesTooMany schedule.before → AreRefusedFor (Schedule (OverLimit Text (pos 16777217))) commands schedule
AreRefusedFor-long_schedule commands schedule read long = record { commands_read = read; found = inl (long, λ functions. SaysNoWords-long functions schedule.before long) }

-- both were read, and one was refused
pub AreRefusedFor-judged : (ending : Ending) (commands schedule : List ℕ) (told other : Watched) → GivesAll commands told.before told.after → GivesAll schedule other.before other.after → length commands ≤ most_bytes → length schedule ≤ most_bytes
    → IsRefusal ending commands schedule → AreRefusedFor ending told other
AreRefusedFor-judged Memory commands schedule told other one two few few_others refusal = inr (GivesWhole-all commands told.before told.after one few)
AreRefusedFor-judged (Commands fault) commands schedule told other one two few few_others refusal = record {
  refused = SaysNoScript-all commands told.before told.after fault one refusal;
  found = inr (GivesWhole-all commands told.before told.after one few, GivesWhole-all schedule other.before other.after two few_others);
}
AreRefusedFor-judged (Schedule fault) commands schedule told other one two few few_others refusal =
    let script = refusal.0 in
    record {
      commands_read = GivesWhole-all commands told.before told.after one few;
      found = inr (
        script,
        SaysScript-all commands told.before told.after script one refusal.1,
        SaysNoWords-all script.machine.functions schedule other.before other.after fault two refusal.2,
        GivesWhole-all schedule other.before other.after two few_others,
      );
    }
AreRefusedFor-judged Done commands schedule told other one two few few_others refusal = absurd refusal
AreRefusedFor-judged Words commands schedule told other one two few few_others refusal = absurd refusal
AreRefusedFor-judged (Image fault) commands schedule told other one two few few_others refusal = absurd refusal
AreRefusedFor-judged Device commands schedule told other one two few few_others refusal = absurd refusal
AreRefusedFor-judged Read commands schedule told other one two few few_others refusal = absurd refusal
AreRefusedFor-judged Write commands schedule told other one two few few_others refusal = absurd refusal
