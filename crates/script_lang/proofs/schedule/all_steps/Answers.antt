use Rattle.std.proofs.Common.{◌≡◌, ℕ, ◌+◌, ◌∷◌, ◌++◌, List, length, replicate, Some, None, Err, refl, ap, sym, ◌∙◌, arith, rules}
use Rattle.std.proofs.lemmas.List.{length-append, length-replicate}
use Rattle.nesc_requests.specs.declared.word.Word.{Word}
use Rattle.script_lang.specs.Parts.{place_past}
use Rattle.script_lang.specs.ScheduleText.{bad_word, few_steps, steps_from}
use Rattle.script_lang.specs.ScheduleWords.{steps_of}
use Rattle.script_lang.specs.Words.{PlacedWord, placed_words_from, placed_words_of}
use Rattle.script_lang.specs.declared.words.Place.{Place}
use Rattle.script_lang.proofs.ReadsLemmas.{IsRefusedFor-whole}
use Rattle.script_lang.proofs.StepLemmas.{behind, steps-bad, steps-end, steps-more, steps-over}
use Rattle.script_lang.proofs.WordLemmas.{placed_words-cut_at, placed_words-none}
use Rattle.script_lang.proofs.schedule.all_steps.Goals as goal
use Rattle.script_lang.proofs.schedule.all_steps.Goals.{After-past-at}

-- the word of this turn, and those behind it
word_at : After-past-at → PlacedWord
word_at c = record { place = c.past-at.result; bytes = c.in-Some.word.now }

words_behind : After-past-at → List PlacedWord
words_behind c = placed_words_from (place_past c.in-Some.word.now c.past-at.result) c.in-Some.behind.now

-- what is done, and what these words say, is what the text says
left : (c : After-past-at) → behind c.loop-front.schedule (steps_from c.args.functions (length c.loop-front.schedule) (word_at c ∷ words_behind c)) ≡ steps_from c.args.functions 0 (placed_words_of c.args.text.now)
unfolding word_at words_behind
left c =
    let done = c.loop-front.schedule in
    ap (λ (words : List PlacedWord). behind done (steps_from c.args.functions (length done) words))
    (sym (placed_words-cut_at c.loop-front.place c.past-at.result (place_past c.in-Some.word.now c.past-at.result) c.loop-front.left.now c.in-Some.front.now c.in-Some.word.now c.in-Some.behind.now c.in-Some.ensures.cut c.past-at.ensures.place refl))
    ∙ c.loop-front.invariant.read

pub returns-in_err-taken : goal.returns-in_err-taken
unfolding word_at words_behind
returns-in_err-taken c =
    let at = (goal.at.returns-in_err-taken c).After-past-at in
    let none : steps_of c.args.functions c.in-Some.word.now ≡ None = search rules in
    let fault : c.from_residual.result ≡ Err (bad_word (word_at at)) = search rules in
    rw fault (sym (left at) ∙ steps-bad c.args.functions (word_at at) (words_behind at) c.loop-front.schedule none)

pub returns-in_err-push : goal.returns-in_err-push
unfolding word_at words_behind
returns-in_err-push c =
    let at = (goal.at.returns-in_err-push c).After-past-at in
    let done = c.loop-front.schedule in
    let taken : Word × ℕ = (c.in_ok-taken.taken, c.in_ok-taken.times) in
    let said : steps_of c.args.functions c.in-Some.word.now ≡ Some taken = search rules in
    let fault : c.from_residual-in_err-push.result ≡ Err c.in_err-push.field-0.0 = search rules in
    rw fault (IsRefusedFor-whole c.in_err-push.field-0.0 (few_steps (length done + taken.1)) (steps_from c.args.functions 0 (placed_words_of c.args.text.now))
    (λ f is. sym (left at) ∙ steps-over c.args.functions (word_at at) (words_behind at) taken done f said is) c.in_err-push.ensures.fits)

pub loop-front-preserved : goal.loop-front-preserved
unfolding word_at words_behind
loop-front-preserved c =
    let at = (goal.at.loop-front-preserved c).After-past-at in
    let done = c.loop-front.schedule in
    let taken : Word × ℕ = (c.in_ok-taken.taken, c.in_ok-taken.times) in
    let said : steps_of c.args.functions c.in-Some.word.now ≡ Some taken = search rules in
    let more : List Word = replicate taken.1 taken.0 in
    let cut = c.in-Some.ensures.cut in
    let all = ap length cut.whole in
    let front = length-append c.in-Some.front.now (c.in-Some.word.now ++ c.in-Some.behind.now) in
    let back = length-append c.in-Some.word.now c.in-Some.behind.now in
    let longer : length (done ++ more) ≡ length done + taken.1 = length-append done more ∙ ap (λ n. length done + n) (length-replicate taken.1 taken.0) in
    record {
      counted = c.past-place.ensures.counted;
      within = omega (arith, c.past-place.ensures.within, c.past-at.ensures.within);
      read =
          ap (λ (steps : List Word). behind steps (steps_from c.args.functions (length steps) (placed_words_from c.past-place.result c.in-Some.behind.now))) c.in_ok-push.ensures.pushed
          ∙ ap (λ n. behind (done ++ more) (steps_from c.args.functions n (placed_words_from c.past-place.result c.in-Some.behind.now))) longer
          ∙ ap (λ (p : Place). behind (done ++ more) (steps_from c.args.functions (length done + taken.1) (placed_words_from p c.in-Some.behind.now))) c.past-place.ensures.place
          ∙ sym (steps-more c.args.functions (length done + taken.1) (word_at at) (words_behind at) taken done said c.in_ok-push.ensures.fits)
          ∙ left at;
    }

pub returns : goal.returns
returns c =
    let done = c.loop-front.schedule in
    let f = c.args.functions in
    sym c.loop-front.invariant.read
    ∙ ap (λ (words : List PlacedWord). behind done (steps_from f (length done) words)) (placed_words-none c.loop-front.place c.loop-front.left.now c.in_default.ensures.none)
    ∙ steps-end f (length done) done
