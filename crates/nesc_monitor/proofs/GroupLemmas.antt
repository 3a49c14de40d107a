-- What the lines of a word tell: of a commit and of a restart, and that the disk could not be read.
use Rattle.std.proofs.Common.{◌≡◌, ◌≢◌, ℕ, ◌+◌, ◌||◌, Bool, true, false, List, [], ◌∷◌, Option, Some, None, cond, option_map, inl, inr, refl, sym, ◌∙◌, subst, arith}
use Rattle.nesc_base.specs.Fault.{HasCause, RoseBy}
use Rattle.nesc_base.specs.Files.{File}
use Rattle.nesc_requests.specs.declared.event.Event.{Event}
use Rattle.nesc_requests.specs.declared.event.Event.TheVariants.{Submit, Tick, Host, Handle, Prune, PruneAt, Evict, Restart}
use Rattle.nesc_requests.specs.declared.host.HostAnswer.TheVariants as said
use Rattle.nesc_requests.specs.declared.request.End.{End}
use Rattle.nesc_requests.specs.declared.request.End.TheVariants as end
use Rattle.nesc_requests.specs.declared.request.Reply.{Reply}
use Rattle.nesc_requests.specs.declared.request.Request.{Request}
use Rattle.nesc_requests.specs.declared.request.Request.TheVariants.{Read, Write, Flush}
use Rattle.nesc_requests.specs.declared.word.Word.{Word}
use Rattle.file_model.specs.Files.{Change}
use Rattle.plain_machine.specs.Functions.{Attached, Function}
use Rattle.plain_machine.specs.Given.{is_failed_end, is_failed_get, is_failed_read}
use Rattle.plain_machine.specs.Groups.{Line as line, end_group, end_told, group_of, line_of, reply_line_of}
use Rattle.plain_machine.specs.Machine.{Step}
use Rattle.plain_machine.specs.State.{State}
use Rattle.plain_machine.specs.Submissions.{Submits}
use Rattle.plain_machine.specs.Ticks.{Turn, TurnsTo}
use Rattle.plain_machine.specs.declared.outcome.Answer.{Answer}
use Rattle.plain_machine.specs.declared.outcome.Answer.TheVariants as answer
use Rattle.plain_machine.specs.declared.outcome.Outcome.{Outcome}
use Rattle.plain_machine.specs.declared.setting.Setting.{Setting}
use Rattle.nesc_session.specs.Stepping.{TellsMedia}
use Rattle.nesc_monitor.specs.Steps.{IsQuiet, is_failed_line, is_failed_reply, is_failed_told, media_in}

-- That the disk could not be read

failed_line : (word : Word) (told : Answer) → is_failed_line (line_of word told) ≡ is_failed_get told
failed_line word (answer.Host said.Media) = refl
failed_line word (answer.Host other) = refl
failed_line word told = refl

failed_told : (ending : End) (done : ℕ) (request : Request) → is_failed_told (end_told ending done request) ≡ is_failed_end ending
failed_told end.Ok done (Read v into) = refl
failed_told end.Ok done (Write v from) = refl
failed_told end.Ok done Flush = refl
failed_told ending done request = refl

failed_reply : (reply : Option Reply) → is_failed_reply (option_map reply_line_of reply) ≡ is_failed_read reply
failed_reply None = refl
failed_reply (Some reply) = failed_told reply.end reply.done reply.request

media_one : (failed : Bool) (a b : ℕ) → HasCause a b (failed ≡ true) → RoseBy (0 + cond failed 1 0) a b
media_one true a b cause = cause.rose refl
media_one false a b cause = inl (omega (arith, cause.never_falls))

-- the lines of a step tell it where the outcome does
pub media_rose : (word : Word) (outcome : Outcome) (a b : ℕ) → HasCause a b (TellsMedia outcome) → RoseBy (media_in (group_of word outcome ∷ [])) a b
media_rose word outcome a b cause =
    let same : is_failed_line (line_of word outcome.answer) || is_failed_reply (option_map reply_line_of outcome.reply) ≡ is_failed_get outcome.answer || is_failed_read outcome.reply =
    λ i. failed_line word outcome.answer i || failed_reply outcome.reply i in
    media_one (is_failed_line (line_of word outcome.answer) || is_failed_reply (option_map reply_line_of outcome.reply)) a b
    (record { never_falls = cause.never_falls; rose = λ told. cause.rose (sym same ∙ told) })

-- Of a commit and of a restart

-- an answer that tells of no restart is told by another line
no_restart_line : (word : Word) (told : Answer) → told ≢ answer.Restarted → ¬ (line_of word told ≡ line.restarted)
no_restart_line word answer.Restarted other is = other refl
no_restart_line word told other is = cc

-- neither a request that is handed in nor a turn is answered so

no_restart_submitted : (most : ℕ) (one other : Function) (request : Request) (told : Answer) → Submits most one request told other → told ≢ answer.Restarted
no_restart_submitted most one other request told submits is = subst (λ (told : Answer). Submits most one request told other) is submits

no_restart_taken : (file : File) (turn : Turn) (told : Answer) (after : Option ℕ) (reply : Option Reply) (changes : List Change) (later : Attached) → TurnsTo file turn told after reply changes later
    → told ≢ answer.Restarted
no_restart_taken file turn told after reply changes later turns is = subst (λ (told : Answer). TurnsTo file turn told after reply changes later) is turns

-- a restart alone is
no_restart_told : {setting : Setting} {old : State} (event : Event) {changes : List Change} {outcome : Outcome} {new : State} → Step setting old event changes outcome new → event ≢ Restart → outcome.answer ≢ answer.Restarted
no_restart_told (Submit f request) step other is = no_restart_submitted _ _ _ _ _ step.does.comes.submits.becomes is
no_restart_told Tick step other is = elim step.does.comes [
  | inl idle ↦ let told = idle.idle in cc
  | inr taken ↦ let serves = taken.serves.becomes in no_restart_taken _ serves.turn _ _ _ _ serves.later serves.turns is
]
no_restart_told (Host command) step other is = let told = step.does.comes.told in cc
no_restart_told (Handle f) step other is = let told = step.does.comes.handles.becomes.told in cc
no_restart_told (Prune f) step other is = let told = step.does.comes.tells in cc
no_restart_told (PruneAt f v) step other is = let told = step.does.comes.tells.1 in cc
no_restart_told Evict step other is = let told = step.does.comes.tells in cc
no_restart_told Restart step other is = other refl

-- the lines of a step that makes no commit and is no restart
pub quiet_step : {setting : Setting} {old : State} (word : Word) (event : Event) {changes : List Change} {outcome : Outcome} {new : State} → Step setting old event changes outcome new → event ≢ Restart
    → outcome.before ≡ None → outcome.after ≡ None → IsQuiet (group_of word outcome)
quiet_step word event {outcome = outcome} step other before after =
    record { before = before; after = after; goes_on = no_restart_line word outcome.answer (no_restart_told event step other) }

-- and of a word for which nothing was left
pub quiet_end : (word : Word) → IsQuiet (end_group word)
quiet_end word = record { before = refl; after = refl; goes_on = λ is. cc }
