-- What the parts of the readers say: words as they are cut from a text, and what is read of one string.
use Rattle.std.specs.Prelude.{◌≡◌, ℕ, ◌<◌, true, false, List, [], ◌∷◌, ◌++◌}
use Rattle.std.specs.Prelude.{length, Option, Some, None, Result, Ok, Err}
use Rattle.std.specs.List.{All}
use Rattle.script_lang.specs.declared.fault.Unread.{Unread}
use Rattle.script_lang.specs.declared.fault.Unread.TheVariants.{NoMemory, Bad}
use Rattle.script_lang.specs.declared.fault.InputFault.{InputFault}
use Rattle.script_lang.specs.declared.fault.InputFault.TheVariants as fault
use Rattle.script_lang.specs.declared.words.Place.{Place}
use Rattle.script_lang.specs.declared.words.Separators.{Separators}
use Rattle.script_lang.specs.Words.{place_behind, separates}

-- all bytes separate words, or none does
abbrev pub Separate : Separators → List ℕ → Type 0
Separate separators bytes = All (λ b. separates separators b ≡ true) bytes

abbrev pub AreOfWord : Separators → List ℕ → Type 0
AreOfWord separators bytes = All (λ b. separates separators b ≡ false) bytes

-- the text has no byte in front, or one of a word, or one that ends a word
abbrev pub BeginsWord : Separators → List ℕ → Type 0
BeginsWord separators [] = Unit {0}
BeginsWord separators (b ∷ bs) = separates separators b ≡ false

abbrev pub EndsWord : Separators → List ℕ → Type 0
EndsWord separators [] = Unit {0}
EndsWord separators (b ∷ bs) = separates separators b ≡ true

-- a text is cut into the separators in front of its first word, that word, and what is left behind it
pub record IsCut (separators : Separators) (text front word behind : List ℕ) : Type 0 where
  pub whole : front ++ (word ++ behind) ≡ text
  pub between : Separate separators front
  pub some : 0 < length word
  pub plain : AreOfWord separators word
  pub ends : EndsWord separators behind

-- where the byte behind these bytes stands, the first of which stands at this place
abbrev pub place_past : List ℕ → Place → Place
place_past [] place = place
place_past (b ∷ bs) place = place_past bs (place_behind b place)

-- What was read of a string is what it says, if it says something. Want of memory says nothing of it.
abbrev pub Says : {A B : Type 0} → (A → B) → Result A Unread → Option B → Type 0
Says shown (Ok value) said = said ≡ Some (shown value)
Says shown (Err Bad) said = said ≡ None
Says shown (Err NoMemory) said = Unit {0}

-- why a text is refused that has such a string
abbrev pub refusal_of : Unread → ℕ → ℕ → InputFault
refusal_of NoMemory actor index = fault.NoMemory
refusal_of Bad actor index = fault.BadCommand actor index
