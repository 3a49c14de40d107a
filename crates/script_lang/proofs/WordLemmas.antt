-- The words of a text, one after another.
use Rattle.std.proofs.Common.{◌≡◌, ℕ, ◌<◌, Bool, true, false, List, [], ◌∷◌, ◌++◌, length, map, Option, Some, None, refl, ap, sym, ◌∙◌, arith}
use Rattle.std.specs.List.{AllByRecursion, cons_option, filter_map, slice_split}
use Rattle.std.proofs.lemmas.List.{append-nil}
use Rattle.std.proofs.lemmas.List.Elements.{All-from_recursion, recursion_from_All}
use Rattle.std.proofs.lemmas.List.Splits.{slice_split-cons_yes, slice_split_none, slice_split_at}
use Rattle.script_lang.specs.Parts.{EndsWord, IsCut, Separate, place_past}
use Rattle.script_lang.specs.Words.{PlacedWord, place_behind, placed, placed_word_of, placed_words_from, separates, word_of, words_of}
use Rattle.script_lang.specs.declared.words.Place.{Place}
use Rattle.script_lang.specs.declared.words.Separators.{Separators}
use Rattle.script_lang.specs.declared.words.Separators.TheVariants.{Spaces, Blanks}

-- What f gives of the pieces between what passes p, where it gives nothing of a piece that has nothing

module _ {A B : Type 0} (p : A → Bool) (f : List A → Option B) (none : f [] ≡ None) where
  abbrev pieces : List A → List B
  pieces xs = filter_map f (slice_split p xs)

  -- the list is over, or goes on with what passes
  abbrev Ends : List A → Type 0
  Ends [] = Unit {0}
  Ends (x ∷ xs) = p x ≡ true

  pieces-skip : (x : A) (xs : List A) → p x ≡ true → pieces (x ∷ xs) ≡ pieces xs
  pieces-skip x xs passes = ap (filter_map f) (slice_split-cons_yes p x xs passes) ∙ ap (λ (y : Option B). cons_option y (pieces xs)) none

  pieces-skip_all : (front rest : List A) → AllByRecursion (λ x. p x ≡ true) front → pieces (front ++ rest) ≡ pieces rest
  pieces-skip_all [] rest all = refl
  pieces-skip_all (x ∷ front) rest all = pieces-skip x (front ++ rest) all.0 ∙ pieces-skip_all front rest all.1

  pieces-none : (xs : List A) → AllByRecursion (λ x. p x ≡ true) xs → pieces xs ≡ []
  pieces-none xs all = ap pieces (sym (append-nil xs)) ∙ pieces-skip_all xs [] all ∙ ap (λ (y : Option B). cons_option y []) none

  pieces-first : (piece rest : List A) → AllByRecursion (λ x. p x ≡ false) piece → Ends rest → pieces (piece ++ rest) ≡ cons_option (f piece) (pieces rest)
  pieces-first piece [] plain ends =
      ap pieces (append-nil piece)
      ∙ ap (filter_map f) (slice_split_none p piece (All-from_recursion (λ x. p x ≡ false) piece plain))
      ∙ ap (cons_option (f piece)) (sym (ap (λ (y : Option B). cons_option y []) none))
  pieces-first piece (y ∷ ys) plain ends =
      ap (filter_map f) (slice_split_at p piece y ys (All-from_recursion (λ x. p x ≡ false) piece plain) ends)
      ∙ ap (cons_option (f piece)) (sym (pieces-skip y ys ends))

-- Words of a string

ends_at : (s : Separators) (t : Bool) (rest : List ℕ) → EndsWord s rest → Ends (separates s) word_of refl rest
ends_at s t [] ends = tt
ends_at s t (b ∷ bs) ends = ends

word_of-some : (word : List ℕ) → 0 < length word → word_of word ≡ Some word
word_of-some [] some = absurd (omega arith)
word_of-some (b ∷ bs) some = refl

pub words_of-cut : (text front word behind : List ℕ) → IsCut Spaces text front word behind → words_of text ≡ word ∷ words_of behind
words_of-cut text front word behind cut =
    ap words_of (sym cut.whole)
    ∙ pieces-skip_all (separates Spaces) word_of refl front (word ++ behind) (recursion_from_All (λ b. separates Spaces b ≡ true) front cut.between)
    ∙ pieces-first (separates Spaces) word_of refl word behind (recursion_from_All (λ b. separates Spaces b ≡ false) word cut.plain) (ends_at Spaces true behind cut.ends)
    ∙ ap (λ (w : Option (List ℕ)). cons_option w (words_of behind)) (word_of-some word cut.some)

pub words_of-none : (text : List ℕ) → Separate Spaces text → words_of text ≡ []
words_of-none text all = pieces-none (separates Spaces) word_of refl text (recursion_from_All (λ b. separates Spaces b ≡ true) text all)

-- Words of a schedule, with their places

placed-append : (place : Place) (xs ys : List ℕ) → placed place (xs ++ ys) ≡ placed place xs ++ placed (place_past xs place) ys
placed-append place [] ys = refl
placed-append place (x ∷ xs) ys = ap (λ (more : List (Place × ℕ)). (place, x) ∷ more) (placed-append (place_behind x place) xs ys)

bytes-placed : (place : Place) (xs : List ℕ) → map (λ b. b.1) (placed place xs) ≡ xs
bytes-placed place [] = refl
bytes-placed place (x ∷ xs) = ap (λ (more : List ℕ). x ∷ more) (bytes-placed (place_behind x place) xs)

all-placed : (t : Bool) (place : Place) (xs : List ℕ) → AllByRecursion (λ b. separates Blanks b ≡ t) xs → AllByRecursion (λ (b : Place × ℕ). separates Blanks b.1 ≡ t) (placed place xs)
all-placed t place [] all = tt
all-placed t place (x ∷ xs) all = (all.0, all-placed t (place_behind x place) xs all.1)

abbrev blank : Place × ℕ → Bool
blank b = separates Blanks b.1

ends-placed : (place : Place) (rest : List ℕ) → EndsWord Blanks rest → Ends blank placed_word_of refl (placed place rest)
ends-placed place [] ends = tt
ends-placed place (b ∷ bs) ends = ends

placed_word_of-some : (place : Place) (word : List ℕ) → 0 < length word → placed_word_of (placed place word) ≡ Some (record { place = place; bytes = word })
placed_word_of-some place [] some = absurd (omega arith)
placed_word_of-some place (b ∷ bs) some = ap (λ (bytes : List ℕ). Some (record { place = place; bytes = b ∷ bytes })) (bytes-placed (place_behind b place) bs)

pub placed_words-cut : (place : Place) (text front word behind : List ℕ) → IsCut Blanks text front word behind
    → placed_words_from place text ≡ record { place = place_past front place; bytes = word } ∷ placed_words_from (place_past word (place_past front place)) behind
placed_words-cut place text front word behind cut =
    let at : Place = place_past front place in
    let after : Place = place_past word at in
    ap (placed_words_from place) (sym cut.whole)
    ∙ ap (pieces blank placed_word_of refl) (placed-append place front (word ++ behind))
    ∙ pieces-skip_all blank placed_word_of refl (placed place front) (placed at (word ++ behind)) (all-placed true place front (recursion_from_All (λ b. separates Blanks b ≡ true) front cut.between))
    ∙ ap (pieces blank placed_word_of refl) (placed-append at word behind)
    ∙ pieces-first blank placed_word_of refl (placed at word) (placed after behind) (all-placed false at word (recursion_from_All (λ b. separates Blanks b ≡ false) word cut.plain)) (ends-placed after behind cut.ends)
    ∙ ap (λ (w : Option PlacedWord). cons_option w (placed_words_from after behind)) (placed_word_of-some at word cut.some)

-- so it is for a place that was found to be the word's
pub placed_words-cut_at : (place at after : Place) (text front word behind : List ℕ) → IsCut Blanks text front word behind → at ≡ place_past front place → after ≡ place_past word at
    → placed_words_from place text ≡ record { place = at; bytes = word } ∷ placed_words_from after behind
placed_words-cut_at place at after text front word behind cut is past =
    placed_words-cut place text front word behind cut
    ∙ ap (λ (p : Place). record { place = p; bytes = word } ∷ placed_words_from (place_past word p) behind) (sym is)
    ∙ ap (λ (p : Place). record { place = at; bytes = word } ∷ placed_words_from p behind) (sym past)

pub placed_words-none : (place : Place) (text : List ℕ) → Separate Blanks text → placed_words_from place text ≡ []
placed_words-none place text all = pieces-none blank placed_word_of refl (placed place text) (all-placed true place text (recursion_from_All (λ b. separates Blanks b ≡ true) text all))
