use Rattle.std.proofs.Common.{[], ◌∷◌, ◌++◌, List, ℕ, map, ap, sym, ◌∙◌}
use Rattle.std.proofs.lemmas.List.{append-nil, map-append}
use mathlib.Core.List.{append_assoc}
use Rattle.script_lang.specs.Words.{words_of}
use Rattle.script_lang.proofs.WordLemmas.{words_of-cut, words_of-none}
use Rattle.script_lang.proofs.strings.words_of.Goals as goal

pub loop-word-preserved : goal.loop-word-preserved
loop-word-preserved c =
    let done = map (λ word. word.now) c.loop-word.words.items in
    let word = c.in-Some.word.now in
    let behind = c.in-Some.behind.now in
    rw (c.in_ok-push.ensures.items, map-append)
    (append_assoc done (word ∷ []) (words_of behind)
    ∙ ap (λ (words : List (List ℕ)). done ++ words) (sym (words_of-cut c.loop-word.left.now c.in-Some.field-0-0.now word behind c.in-Some.ensures.cut))
    ∙ c.loop-word.invariant)

pub returns-clause-words : goal.returns-clause-words
returns-clause-words c =
    let done = map (λ word. word.now) c.loop-word.words.items in
    sym (append-nil done)
    ∙ ap (λ (words : List (List ℕ)). done ++ words) (sym (words_of-none c.loop-word.left.now c.in_default.ensures.none))
    ∙ c.loop-word.invariant
