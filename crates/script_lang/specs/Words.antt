-- A text as words, and steps that may give nothing.
use Rattle.std.specs.Prelude.{ℕ, ◌+◌, ◌-◌, ◌==◌, not, ◌&&◌, ◌||◌, Bool, if◌then◌else◌}
use Rattle.std.specs.Prelude.{List, [], ◌∷◌, length, map, slice_index, Option, Some, None}
use Rattle.std.specs.List.{filter_map, slice_split}
use Rattle.script_lang.specs.declared.words.Place.{Place}
use Rattle.script_lang.specs.declared.words.Separators.{Separators}
use Rattle.script_lang.specs.declared.words.Separators.TheVariants.{Spaces, Blanks}

-- the second step, if the first gave something
infixl 10 ◌>>=◌
abbrev pub ◌>>=◌ : {A B : Type 0} → Option A → (A → Option B) → Option B
None >>= f = None
(Some x) >>= f = f x

-- what f gives for each, if it gives something for all
abbrev pub each : {A B : Type 0} → (A → Option B) → List A → Option (List B)
each f [] = Some []
each f (x ∷ xs) = f x >>= λ y. each f xs >>= λ ys. Some (y ∷ ys)

-- the bytes between words: a space alone, or also tabs, line feeds and carriage returns
abbrev pub separates : Separators → ℕ → Bool
separates Spaces b = b == 32
separates Blanks b = b == 32 || b == 9 || b == 10 || b == 13

-- Words of a command: what stands between spaces

-- a piece of a text is a word if it has bytes
abbrev pub word_of : List ℕ → Option (List ℕ)
word_of [] = None
word_of (b ∷ bs) = Some (b ∷ bs)

abbrev pub words_of : List ℕ → List (List ℕ)
words_of text = filter_map word_of (slice_split (separates Spaces) text)

-- no space stands before the first word or behind the last one
abbrev pub is_trimmed : List ℕ → Bool
is_trimmed text = not (slice_index text 0 == 32) && not (slice_index text (length text - 1) == 32)

-- Words of a schedule: what stands between blanks, and where

-- where the byte behind this one stands: a line feed ends its line, and every other byte is one column
abbrev pub place_behind : ℕ → Place → Place
place_behind b place = record {
  line = if b == 10 then place.line + 1 else place.line;
  column = if b == 10 then 1 else place.column + 1;
}

-- each byte of a text with its place, the first of them at this one
abbrev pub placed : Place → List ℕ → List (Place × ℕ)
placed place [] = []
placed place (b ∷ bs) = (place, b) ∷ placed (place_behind b place) bs

-- a word, and where its first byte stands
pub record PlacedWord : Type 0 where
  pub place : Place
  pub bytes : List ℕ

-- so it is for a piece of a text with places
abbrev pub placed_word_of : List (Place × ℕ) → Option PlacedWord
placed_word_of [] = None
placed_word_of (first ∷ more) = Some (record { place = first.0; bytes = map (λ b. b.1) (first ∷ more) })

-- the words of a text whose first byte stands at this place
abbrev pub placed_words_from : Place → List ℕ → List PlacedWord
placed_words_from place text = filter_map placed_word_of (slice_split (λ b. separates Blanks b.1) (placed place text))

-- lines and columns count from 1
abbrev pub first_place : Place
first_place = record { line = 1; column = 1 }

abbrev pub placed_words_of : List ℕ → List PlacedWord
placed_words_of text = placed_words_from first_place text
