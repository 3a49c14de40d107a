-- What a schedule makes of a script: each word draws an event from what is left to give, which is what is next of it.
use Rattle.std.specs.Prelude.{◌≡◌, List, [], ◌∷◌, drop, map, slice_get, Option, Some, None, option_map, option_to_list}
use Rattle.std.specs.List.{flat_map}
use Rattle.nesc_requests.specs.declared.event.Event.{Event}
use Rattle.nesc_requests.specs.declared.event.Event.TheVariants.{Submit, Tick, Host, Handle}
use Rattle.nesc_requests.specs.declared.event.Event.TheVariants.{Prune, PruneAt, Evict, Restart}
use Rattle.nesc_requests.specs.declared.word.Word.{Word}
use Rattle.nesc_requests.specs.declared.word.Word.TheVariants.{T, G, H, I, P, PAt, E, X}
use Rattle.nesc_requests.specs.Script.{Script, requests_of, with_numbered}
use Rattle.plain_machine.specs.Machine.{StepTaken}
use Rattle.plain_machine.specs.declared.outcome.Answer.{Answer}
use Rattle.plain_machine.specs.declared.outcome.Answer.TheVariants.{Queued}

-- a word as it was taken: the step that it drew, or none where the host or the guest whose turn it was had nothing left
pub record WordTaken : Type 0 where
  pub word : Word
  pub step : Option StepTaken

-- the event that a word draws
abbrev pub event_of : Script → Word → Option Event
event_of script T = Some Tick
event_of script (G f) = option_map (λ request. Submit f request) (slice_get (requests_of script f.0) 0)
event_of script H = option_map (λ command. Host command) (slice_get script.host 0)
event_of script (I f) = Some (Handle f)
event_of script (P f) = Some (Prune f)
event_of script (PAt f v) = Some (PruneAt f v)
event_of script E = Some Evict
event_of script X = Some Restart

-- the script without what the event was drawn from
abbrev pub without_drawn : Script → Event → Script
without_drawn script (Host command) = record script { host = drop 1 script.host }
without_drawn script (Submit f request) =
    record script { guests = with_numbered script.guests f.0 (drop 1 (requests_of script f.0)) }
without_drawn script event = script

-- What is left behind an event with this answer: the host's command is gone, and so is a request that waits now. One
-- that came back is the guest's next again.
abbrev pub left_after : Script → Event → Answer → Script
left_after script (Host command) answer = without_drawn script (Host command)
left_after script (Submit f request) (Queued id) = without_drawn script (Submit f request)
left_after script event answer = script

abbrev pub left_behind : Script → Option StepTaken → Script
left_behind script None = script
left_behind script (Some step) = left_after script step.event step.outcome.answer

-- the words draw the events of their steps, one after another, and leave this
abbrev pub Draws : Script → List WordTaken → Script → Type 0
Draws script [] later = later ≡ script
Draws script (taken ∷ more) later =
    (event_of script taken.word ≡ option_map (λ step. step.event) taken.step)
    × Draws (left_behind script taken.step) more later

-- the words, and the steps that they made
abbrev pub words_in : List WordTaken → List Word
words_in = map (λ taken. taken.word)

abbrev pub steps_made : List WordTaken → List StepTaken
steps_made = flat_map (λ taken. option_to_list taken.step)
