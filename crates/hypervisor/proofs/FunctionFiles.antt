-- What functions of the machine have, by the file of each.
use Rattle.std.proofs.Common.{◌≡◌, ◌≢◌, ℕ, zero, suc, ◌+◌, ◌<◌, ◌≤◌, Bool, true, false, cond, List, [], ◌∷◌, length, Option, Some, None, option_map, slice_get, inl, inr, refl, sym, ap, ◌∙◌, arith}
use Rattle.std.specs.Prelude.{◌||◌, is_none, is_some, unwrap_or, IfNone, IfSome}
use Rattle.std.specs.List.{find, range_with_len}
use Rattle.std.specs.Option.{option_and_then, option_map_or}
use Rattle.std.proofs.lemmas.Bool.{cases_Bool, false≢true, or_right}
use Rattle.std.proofs.lemmas.Bool.Decides.{nat_tests}
use Rattle.std.proofs.lemmas.List.{length-map, map-set}
use Rattle.std.proofs.lemmas.Option.{none-some, same_Some}
use Rattle.nesc_base.specs.declared.numbers.FileNo.{FileNo}
use Rattle.nesc_base.specs.declared.numbers.FnNo.{FnNo}
use Rattle.nesc_requests.specs.Script.{numbered, with_numbered}
use Rattle.plain_machine.specs.Functions.{Attached, Function, attached_of, function_at, has_file, is_off, is_taken, off, queue_of}
use Rattle.hypervisor.specs.Attachments.{AreAttachments, Attachments, file_numbers, file_of, is_off_in}
use Rattle.hypervisor.specs.Telling.{function_with}
use Rattle.hypervisor.proofs.Numbering.{numbered_map, numbered_within}

-- the file of what a function has, and of a function
abbrev pub file_had : Option Attached → Option FileNo
file_had = option_map (λ attached. record { 0 = attached.file })

abbrev pub function_file : Function → Option FileNo
function_file function = file_had function.attached

none_alike : (had : Option Attached) → is_none (file_had had) ≡ is_none had
none_alike None = refl
none_alike (Some attached) = refl

off_as : (o : Option Function) → option_map_or (λ function. is_none function.attached) o false ≡ option_map_or is_none (option_map function_file o) false
off_as None = refl
off_as (Some function) = sym (none_alike function.attached)

file_as : (o : Option Function) → unwrap_or (option_map function_file o) None ≡ file_had (option_and_then (λ (function : Function). function.attached) o)
file_as None = refl
file_as (Some function) = refl

-- what has the file of a number
had : (n : ℕ) (o : Option Attached) → has_file n o ≡ true → file_had o ≡ Some (record { 0 = n })
had n None has = absurd (false≢true has)
had n (Some attached) has = let same : attached.file ≡ n = grind (arith, nat_tests) in ap (λ k. Some (record { 0 = k })) same

has_had : (file : FileNo) (o : Option Attached) → file_had o ≡ Some file → has_file file.0 o ≡ true
has_had file None is = absurd (none-some file is)
has_had file (Some attached) is =
    let same : attached.file ≡ file.0 = ap (λ (f : FileNo). f.0) (same_Some (record { 0 = attached.file }) file is) in
    grind (arith, nat_tests)

-- what has a file, and what has none
pub had_some : (o : Option Attached) (file : FileNo) → file_had o ≡ Some file → (attached : Attached) × (o ≡ Some attached)
had_some None file is = absurd (none-some file is)
had_some (Some attached) file is = (attached, refl)

pub had_none : (o : Option Attached) → file_had o ≡ None → o ≡ None
had_none None is = refl
had_none (Some attached) is = absurd (none-some (record { 0 = attached.file }) (sym is))

pub entry_there : (o : Option (Option FileNo)) (file : FileNo) → unwrap_or o None ≡ Some file → o ≡ Some (Some file)
entry_there None file is = absurd (none-some file is)
entry_there (Some entry) file is = ap Some is

item_there : (o : Option Function) (file : FileNo) → file_had (option_and_then (λ (function : Function). function.attached) o) ≡ Some file
    → (function : Function) × (o ≡ Some function) × (function_file function ≡ Some file)
item_there None file is = absurd (none-some file is)
item_there (Some function) file is = (function, refl, is)

queue_as : (o : Option Function) (attached : Attached) → option_and_then (λ (function : Function). function.attached) o ≡ Some attached → queue_of (unwrap_or o off) ≡ attached.queue
queue_as None attached is = absurd (none-some attached is)
queue_as (Some function) attached is = ap (λ (had : Option Attached). option_map_or (λ (a : Attached). a.queue) had []) is

pub queue_had : (functions : List Function) (f : ℕ) (attached : Attached) → attached_of functions f ≡ Some attached → queue_of (function_at functions f) ≡ attached.queue
queue_had functions f attached is = queue_as (numbered functions f) attached is

-- One function, searched for

taken_at : (n : ℕ) (functions : List Function) (i : ℕ) (function : Function) → slice_get functions i ≡ Some function → has_file n function.attached ≡ true → is_taken functions n ≡ true
taken_at n [] i function is has = absurd (none-some function is)
taken_at n (one ∷ functions) zero function is has =
    let same : one ≡ function = same_Some one function is in
    ap (λ b. b || is_taken functions n) (ap (λ (f : Function). has_file n f.attached) same ∙ has)
taken_at n (one ∷ functions) (suc i) function is has = or_right (has_file n one.attached) (is_taken functions n) (taken_at n functions i function is has)

taken_by : (n : ℕ) (functions : List Function) → is_taken functions n ≡ true → (i : ℕ) × (function : Function) × (slice_get functions i ≡ Some function) × (has_file n function.attached ≡ true)
taken_by n [] taken = absurd (false≢true taken)
taken_by n (one ∷ functions) taken = elim (cases_Bool (has_file n one.attached)) [
  | inl has ↦ (0, one, refl, has)
  | inr not_here ↦ let rest = taken_by n functions (sym (ap (λ b. b || is_taken functions n) not_here) ∙ taken) in (suc rest.0, rest.1, rest.2, rest.3)
]

find_none : (p : ℕ → Bool) (a n : ℕ) → ((at : ℕ) → p at ≡ false) → find p (range_with_len a n) ≡ None
find_none p a zero none = refl
find_none p a (suc n) none = ap (λ b. cond b (Some a) (find p (range_with_len (a + 1) n))) (none a) ∙ find_none p (a + 1) n none

find_one : (p : ℕ → Bool) (a n at : ℕ) → a ≤ at → at < a + n → p at ≡ true → ((other : ℕ) → p other ≡ true → other ≡ at) → find p (range_with_len a n) ≡ Some at
find_one p a zero at from below here only = absurd (omega arith)
find_one p a (suc n) at from below here only = elim (cases_Bool (p a)) [
  | inl here_too ↦ ap (λ b. cond b (Some a) (find p (range_with_len (a + 1) n))) here_too ∙ ap Some (only a here_too)
  | inr out ↦
      let apart : a ≢ at = λ same. false≢true (sym out ∙ ap p same ∙ here) in
      ap (λ b. cond b (Some a) (find p (range_with_len (a + 1) n))) out ∙ find_one p (a + 1) n at (omega (arith, apart)) (omega arith) here only
]

pub files_with : (functions : List Function) (f : ℕ) (x : Function) → file_numbers (with_numbered functions f x) ≡ with_numbered (file_numbers functions) f (function_file x)
files_with functions zero x = refl
files_with functions (suc i) x = map-set function_file functions i x

-- What a search for a file finds: the function that has it, or that none has it

abbrev pub HasIt : Attachments → FileNo → Option FnNo → Type 0
HasIt attachments file found = IfSome found (λ f. file_of attachments f.0 ≡ Some file)

abbrev pub NoneHasIt : Attachments → FileNo → Option FnNo → Type 0
NoneHasIt attachments file found = IfNone found ((f : ℕ) → file_of attachments f ≢ Some file)

-- Functions that have these files

module _ (attachments : Attachments) (functions : List Function) (files : file_numbers functions ≡ attachments) where
  numbered_files : (f : ℕ) → option_map function_file (numbered functions f) ≡ numbered attachments f
  numbered_files f = sym (numbered_map function_file functions f) ∙ ap (λ (xs : Attachments). numbered xs f) files

  pub off_alike : (f : ℕ) → is_off functions f ≡ is_off_in attachments f
  off_alike f = off_as (numbered functions f) ∙ ap (λ o. option_map_or is_none o false) (numbered_files f)

  pub file_alike : (f : ℕ) → file_of attachments f ≡ file_had (attached_of functions f)
  file_alike f = sym (ap (λ o. unwrap_or o None) (numbered_files f)) ∙ file_as (numbered functions f)

  -- a function that has the file is there
  has_there : (n f : ℕ) → has_file n (attached_of functions f) ≡ true → file_of attachments f ≡ Some (record { 0 = n })
  has_there n f has = file_alike f ∙ had n (attached_of functions f) has

  pub taken_if : (f : ℕ) (file : FileNo) → file_of attachments f ≡ Some file → is_taken functions file.0 ≡ true
  taken_if zero file is = absurd (none-some file is)
  taken_if (suc i) file is =
      let item = item_there (slice_get functions i) file (sym (file_alike (suc i)) ∙ is) in
      taken_at file.0 functions i item.0 item.1 (has_had file item.0.attached item.2)

  pub untaken_if : (file : FileNo) → ((f : ℕ) → file_of attachments f ≢ Some file) → is_taken functions file.0 ≡ false
  untaken_if file none = elim (cases_Bool (is_taken functions file.0)) [
    | inl taken ↦
        let by = taken_by file.0 functions taken in
        absurd (none (suc by.0) (has_there file.0 (suc by.0) (ap (λ o. has_file file.0 (option_and_then (λ (function : Function). function.attached) o)) by.2 ∙ by.3)))
    | inr not_taken ↦ not_taken
  ]

  -- so a search for it says
  pub taken_found : (file : FileNo) (found : Option FnNo) → HasIt attachments file found → is_some found ≡ true → is_taken functions file.0 ≡ true
  taken_found file None some is = absurd (false≢true is)
  taken_found file (Some f) some is = taken_if f.0 file some

  pub untaken_found : (file : FileNo) (found : Option FnNo) → NoneHasIt attachments file found → is_some found ≡ false → is_taken functions file.0 ≡ false
  untaken_found file None none is = untaken_if file none
  untaken_found file (Some f) none is = absurd (false≢true (sym is))

  -- the function that has a file, as it is found
  pub function_alike : AreAttachments attachments → (file : FileNo) (found : Option FnNo) → HasIt attachments file found → NoneHasIt attachments file found
      → function_with functions file.0 ≡ option_map (λ (f : FnNo). f.0) found
  function_alike are file None some none =
      find_none (λ f. has_file file.0 (attached_of functions f)) 1 (length functions) (λ f. elim (cases_Bool (has_file file.0 (attached_of functions f))) [
        | inl has ↦ absurd (none f (has_there file.0 f has))
        | inr out ↦ out
      ])
  function_alike are file (Some f) some none =
      let within = numbered_within attachments f.0 (Some file) (entry_there (numbered attachments f.0) file some) in
      let many = ap length (sym files) ∙ length-map functions function_file in
      find_one (λ g. has_file file.0 (attached_of functions g)) 1 (length functions) f.0 within.0 (omega (arith, within.1, many))
      (has_had file (attached_of functions f.0) (sym (file_alike f.0) ∙ some))
      (λ other has. are.apart other f.0 file (has_there file.0 other has) some)
