-- What texts say is within the limits.
use Rattle.std.proofs.Common.{◌≡◌, ℕ, ◌+◌, ◌-◌, ◌<◌, ◌≤◌, nat_le, suc, ◌&&◌, Bool, true, false, if◌then◌else◌, codes, bytes_eq, List, [], ◌∷◌, length, Option, Some, None, IfOk, IfSome, IsTrue, Result, Ok, Err, ok_or, refl, ap, arith}
use Rattle.std.specs.List.{All}
use Rattle.std.proofs.lemmas.Bool.Decides.{nat_tests}
use Rattle.std.proofs.lemmas.List.{length-replicate}
use Rattle.std.proofs.lemmas.List.Elements.{All-cons, All-nil}
use Rattle.text_kit.specs.Number.{number_of}
use Rattle.nesc_base.specs.BlockText.{block_of_text}
use Rattle.nesc_base.specs.Block.{zero_block}
use Rattle.nesc_base.specs.Blocks.{most_in_request}
use Rattle.nesc_base.specs.Files.{longest_file}
use Rattle.nesc_base.specs.Name.{is_name, name_of}
use Rattle.nesc_base.specs.declared.block.Block.{Block}
use Rattle.nesc_requests.specs.Script.{IsFew, IsWithinLimits, MayAsk}
use Rattle.nesc_requests.specs.declared.host.HostCommand.{HostCommand}
use Rattle.nesc_requests.specs.declared.request.Request.{Request}
use Rattle.script_lang.specs.CommandsText.{each_said, guests_said, host_said, requests_said}
use Rattle.script_lang.specs.GuestText.{flush_of, read_of, request_of, request_of_words, unwritten_of as request_unwritten, write_of}
use Rattle.script_lang.specs.HostText.{IsFunction, NamesFunction, attach_of, command_of_words, create_of, delete_of, detach_of, get_of, host_command_of, map_of, put_of, regs_of, resize_of, sync_of, unwritten_of}
use Rattle.script_lang.specs.Numbers.{block_number_of, count_of, from_one, function_of, length_of, number_from_one, number_to, up_to}
use Rattle.script_lang.specs.Runs.{asked_run_of, blocks_of, written_run_of}
use Rattle.script_lang.specs.Reads.{◌>>=◌ as ◌⟫=◌}
use Rattle.script_lang.specs.Words.{each, is_trimmed, words_of, ◌>>=◌}
use Rattle.script_lang.specs.declared.fault.InputFault.{InputFault}
use Rattle.script_lang.specs.declared.fault.InputFault.TheVariants.{BadCommand}

-- what holds after the second step, if it holds wherever that begins
if_some-then : {A B : Type 0} (P : A → Type 0) (Q : B → Type 0) (x : Option A) (f : A → Option B) → IfSome x P → ((a : A) → P a → IfSome (f a) Q) → IfSome (x >>= f) Q
if_some-then P Q None f p q = tt
if_some-then P Q (Some a) f p q = q a p

if_some-any : {A B : Type 0} (Q : B → Type 0) (x : Option A) (f : A → Option B) → ((a : A) → IfSome (f a) Q) → IfSome (x >>= f) Q
if_some-any Q None f q = tt
if_some-any Q (Some a) f q = q a

if_some-when : {A : Type 0} (P : A → Type 0) (b : Bool) (x : Option A) → (b ≡ true → IfSome x P) → IfSome (if b then x else None) P
if_some-when P true x p = p refl
if_some-when P false x p = tt

if_some-weaker : {A : Type 0} (P Q : A → Type 0) (x : Option A) → IfSome x P → ((a : A) → P a → Q a) → IfSome x Q
if_some-weaker P Q None p q = tt
if_some-weaker P Q (Some a) p q = q a p

if_some-either : {A : Type 0} (P : A → Type 0) (b : Bool) (x y : Option A) → IfSome x P → IfSome y P → IfSome (if b then x else y) P
if_some-either P true x y p q = p
if_some-either P false x y p q = q

-- Numbers and names

up_to-within : (most n : ℕ) → IfSome (up_to most n) (λ k. k ≤ most)
up_to-within most n = if_some-when (λ k. k ≤ most) (nat_le n most) (Some n) (λ is. grind (arith, nat_tests))

number-within : (most : ℕ) (text : List ℕ) → IfSome (number_to most text) (λ n. n ≤ most)
number-within most text =
    if_some-when (λ n. n ≤ most) (nat_le (length text) 10) (number_of text >>= up_to most) (λ is. if_some-any (λ n. n ≤ most) (number_of text) (up_to most) (up_to-within most))

-- from 1 to a limit
abbrev IsCounted : ℕ → ℕ → Type 0
IsCounted most n = (1 ≤ n) × (n ≤ most)

number-counted : (most : ℕ) (text : List ℕ) → IfSome (number_from_one most text) (IsCounted most)
number-counted most text =
    if_some-then (λ n. n ≤ most) (IsCounted most) (number_to most text) from_one (number-within most text)
    (λ n within. if_some-when (IsCounted most) (nat_le 1 n) (Some n) (λ is. (grind (arith, nat_tests), within)))

function-there : (functions : ℕ) (text : List ℕ) → IfSome (function_of functions text) (IsFunction functions)
function-there functions text = if_some-then (IsCounted functions) (IsFunction functions) (number_from_one functions text) _ (number-counted functions text) (λ f counted. counted)

name-named : (text : List ℕ) → IfSome (name_of text) (λ name. IsTrue (is_name name))
name-named text = if_some-when (λ name. IsTrue (is_name name)) (is_name text) (Some text) (λ is. is)

-- Blocks

one_more : {B : Type 0} (n : ℕ) (y : Option B) (ys : Option (List B)) → IfSome ys (λ zs. length zs ≡ n) → IfSome (y >>= λ z. ys >>= λ zs. Some (z ∷ zs)) (λ zs. length zs ≡ suc n)
one_more n None ys same = tt
one_more n (Some z) None same = tt
one_more n (Some z) (Some zs) same = ap suc same

each-length : {A B : Type 0} (f : A → Option B) (xs : List A) → IfSome (each f xs) (λ ys. length ys ≡ length xs)
each-length f [] = refl
each-length f (x ∷ xs) = one_more (length xs) (f x) (each f xs) (each-length f xs)

few-from_test : (b : Bool) (n : ℕ) → nat_le 1 n ≡ b → (b && nat_le n most_in_request) ≡ true → IsFew n
few-from_test true n some is = record { some = grind (arith, nat_tests); few = grind (arith, nat_tests) }
few-from_test false n some is = cc

blocks-within : (texts : List (List ℕ)) → IfSome (blocks_of texts) (λ blocks. IsFew (length blocks))
blocks-within texts =
    if_some-when (λ blocks. IsFew (length blocks)) (nat_le 1 (length texts) && nat_le (length texts) most_in_request) (each block_of_text texts)
    (λ is.
    let few : IsFew (length texts) = few-from_test (nat_le 1 (length texts)) (length texts) refl is in
    if_some-weaker (λ blocks. length blocks ≡ length texts) (λ blocks. IsFew (length blocks)) (each block_of_text texts) (each-length block_of_text texts) (λ blocks same. rw same few))

block_number-within : (text : List ℕ) → IfSome (block_number_of text) (λ v. v < longest_file)
block_number-within text = if_some-weaker (λ v. v ≤ longest_file - 1) (λ v. v < longest_file) (block_number_of text) (number-within (longest_file - 1) text) (λ v low. omega arith)

-- a place in a file, and as many blocks as a request may have
abbrev IsAskedRun : ℕ × ℕ → Type 0
IsAskedRun run = (run.0 < longest_file) × IsFew run.1

asked-fits : (words : List (List ℕ)) → IfSome (asked_run_of words) IsAskedRun
asked-fits [] = tt
asked-fits (v ∷ []) = tt
asked-fits (v ∷ n ∷ []) =
    if_some-then (λ v. v < longest_file) IsAskedRun (block_number_of v) _ (block_number-within v)
    (λ v low. if_some-then (IsCounted most_in_request) IsAskedRun (count_of n) _ (number-counted most_in_request n) (λ n counted. (low, record { some = counted.0; few = counted.1 })))
asked-fits (v ∷ n ∷ x ∷ more) = tt

abbrev IsWrittenRun : ℕ × List Block → Type 0
IsWrittenRun run = (run.0 < longest_file) × IsFew (length run.1)

written-fits : (words : List (List ℕ)) → IfSome (written_run_of words) IsWrittenRun
written-fits [] = tt
written-fits (v ∷ texts) =
    if_some-then (λ v. v < longest_file) IsWrittenRun (block_number_of v) _ (block_number-within v)
    (λ v low. if_some-then (λ blocks. IsFew (length blocks)) IsWrittenRun (blocks_of texts) _ (blocks-within texts) (λ blocks few. (low, few)))

-- Requests

read-fits : (words : List (List ℕ)) → IfSome (read_of words) MayAsk
read-fits words = if_some-then IsAskedRun MayAsk (asked_run_of words) _ (asked-fits words) (λ run is. (is.0, rw (length-replicate run.1 zero_block) is.1))

write-fits : (words : List (List ℕ)) → IfSome (write_of words) MayAsk
write-fits words = if_some-then IsWrittenRun MayAsk (written_run_of words) _ (written-fits words) (λ run is. is)

flush-fits : (words : List (List ℕ)) → IfSome (flush_of words) MayAsk
flush-fits [] = tt
flush-fits (x ∷ more) = tt

request-words-fit : (words : List (List ℕ)) → IfSome (request_of_words words) MayAsk
request-words-fit [] = tt
request-words-fit (first ∷ words) =
    if_some-either MayAsk (bytes_eq first (codes "w")) (write_of words) (request_unwritten first words) (write-fits words)
    (if_some-either MayAsk (bytes_eq first (codes "r")) (read_of words) (if bytes_eq first (codes "f") then flush_of words else None) (read-fits words)
    (if_some-either MayAsk (bytes_eq first (codes "f")) (flush_of words) None (flush-fits words) tt))

pub request-fits : (text : List ℕ) → IfSome (request_of text) MayAsk
request-fits text = if_some-when MayAsk (is_trimmed text) (request_of_words (words_of text)) (λ is. request-words-fit (words_of text))

-- Commands

abbrev pub Fits : ℕ → HostCommand → Type 0
Fits functions command = IsWithinLimits command × NamesFunction functions command

module _ (functions : ℕ) where
  P : HostCommand → Type 0
  P command = Fits functions command

  create-fits : (words : List (List ℕ)) → IfSome (create_of words) P
  unfolding P
  create-fits [] = tt
  create-fits (name ∷ []) = tt
  create-fits (name ∷ len ∷ []) =
      if_some-then (λ n. IsTrue (is_name n)) P (name_of name) _ (name-named name)
      (λ n named. if_some-then (λ l. l ≤ longest_file) P (length_of len) _ (number-within longest_file len) (λ l within. ((named, within), tt)))
  create-fits (name ∷ len ∷ x ∷ more) = tt

  resize-fits : (words : List (List ℕ)) → IfSome (resize_of words) P
  unfolding P
  resize-fits [] = tt
  resize-fits (name ∷ []) = tt
  resize-fits (name ∷ len ∷ []) =
      if_some-then (λ n. IsTrue (is_name n)) P (name_of name) _ (name-named name)
      (λ n named. if_some-then (λ l. l ≤ longest_file) P (length_of len) _ (number-within longest_file len) (λ l within. ((named, within), tt)))
  resize-fits (name ∷ len ∷ x ∷ more) = tt

  delete-fits : (words : List (List ℕ)) → IfSome (delete_of words) P
  unfolding P
  delete-fits [] = tt
  delete-fits (name ∷ []) = if_some-then (λ n. IsTrue (is_name n)) P (name_of name) _ (name-named name) (λ n named. (named, tt))
  delete-fits (name ∷ x ∷ more) = tt

  put-fits : (words : List (List ℕ)) → IfSome (put_of words) P
  unfolding P
  put-fits [] = tt
  put-fits (name ∷ words) =
      if_some-then (λ n. IsTrue (is_name n)) P (name_of name) _ (name-named name)
      (λ n named. if_some-then IsWrittenRun P (written_run_of words) _ (written-fits words) (λ run is. ((named, is.0, is.1), tt)))

  map-fits : (words : List (List ℕ)) → IfSome (map_of words) P
  unfolding P
  map-fits [] = tt
  map-fits (name ∷ words) =
      if_some-then (λ n. IsTrue (is_name n)) P (name_of name) _ (name-named name)
      (λ n named. if_some-then IsAskedRun P (asked_run_of words) _ (asked-fits words) (λ run is. ((named, is.0, is.1), tt)))

  get-fits : (words : List (List ℕ)) → IfSome (get_of words) P
  unfolding P
  get-fits [] = tt
  get-fits (name ∷ words) =
      if_some-then (λ n. IsTrue (is_name n)) P (name_of name) _ (name-named name)
      (λ n named. if_some-then IsAskedRun P (asked_run_of words) _ (asked-fits words) (λ run is. ((named, is.0, rw (length-replicate run.1 zero_block) is.1), tt)))

  attach-fits : (words : List (List ℕ)) → IfSome (attach_of functions words) P
  unfolding P
  attach-fits [] = tt
  attach-fits (f ∷ []) = tt
  attach-fits (f ∷ name ∷ []) =
      if_some-then (IsFunction functions) P (function_of functions f) _ (function-there functions f)
      (λ g there. if_some-then (λ n. IsTrue (is_name n)) P (name_of name) _ (name-named name) (λ n named. (named, there)))
  attach-fits (f ∷ name ∷ x ∷ more) = tt

  detach-fits : (words : List (List ℕ)) → IfSome (detach_of functions words) P
  unfolding P
  detach-fits [] = tt
  detach-fits (f ∷ []) = if_some-then (IsFunction functions) P (function_of functions f) _ (function-there functions f) (λ g there. (tt, there))
  detach-fits (f ∷ x ∷ more) = tt

  sync-fits : (words : List (List ℕ)) → IfSome (sync_of words) P
  unfolding P
  sync-fits [] = (tt, tt)
  sync-fits (x ∷ more) = tt

  regs-fits : (words : List (List ℕ)) → IfSome (regs_of functions words) P
  unfolding P
  regs-fits [] = tt
  regs-fits (f ∷ []) = if_some-then (IsFunction functions) P (function_of functions f) _ (function-there functions f) (λ g there. (tt, there))
  regs-fits (f ∷ x ∷ more) = tt

  unwritten-fits : (first : List ℕ) (words : List (List ℕ)) → IfSome (unwritten_of functions first words) P
  unwritten-fits first words =
      if_some-either P (bytes_eq first (codes "create")) _ _ (create-fits words)
      (if_some-either P (bytes_eq first (codes "delete")) _ _ (delete-fits words)
      (if_some-either P (bytes_eq first (codes "resize")) _ _ (resize-fits words)
      (if_some-either P (bytes_eq first (codes "map")) _ _ (map-fits words)
      (if_some-either P (bytes_eq first (codes "get")) _ _ (get-fits words)
      (if_some-either P (bytes_eq first (codes "attach")) _ _ (attach-fits words)
      (if_some-either P (bytes_eq first (codes "detach")) _ _ (detach-fits words)
      (if_some-either P (bytes_eq first (codes "sync")) _ _ (sync-fits words)
      (if_some-either P (bytes_eq first (codes "regs")) _ _ (regs-fits words) tt))))))))

  words-fit : (words : List (List ℕ)) → IfSome (command_of_words functions words) P
  words-fit [] = tt
  words-fit (first ∷ words) = if_some-either P (bytes_eq first (codes "put")) (put_of words) (unwritten_of functions first words) (put-fits words) (unwritten-fits first words)

  pub command-fits : (text : List ℕ) → IfSome (host_command_of functions text) (Fits functions)
  unfolding P
  command-fits text = if_some-when P (is_trimmed text) (command_of_words functions (words_of text)) (λ is. words-fit (words_of text))

-- All strings of a text

module _ {C : Type 0} (said : List ℕ → Option C) (Q : C → Type 0) (fits : (text : List ℕ) → IfSome (said text) Q) where
  first-fits : (fault : InputFault) (x : Option C) (rest : Result (List C) InputFault) → IfSome x Q → IfOk rest (All Q) → IfOk (ok_or x fault ⟫= λ y. rest ⟫= λ ys. Ok (y ∷ ys)) (All Q)
  first-fits fault None rest q all = tt
  first-fits fault (Some x) (Err e) q all = tt
  first-fits fault (Some x) (Ok xs) q all = All-cons Q x xs q all

  pub each_said-fits : (actor index : ℕ) (texts : List (List ℕ)) → IfOk (each_said said actor index texts) (All Q)
  each_said-fits actor index [] = All-nil Q
  each_said-fits actor index (text ∷ texts) = first-fits (BadCommand actor index) (said text) (each_said said actor (index + 1) texts) (fits text) (each_said-fits actor (index + 1) texts)

pub host_said-fits : (functions : ℕ) (texts : List (List ℕ)) → IfOk (host_said functions texts) (All (Fits functions))
host_said-fits functions texts = each_said-fits (host_command_of functions) (Fits functions) (command-fits functions) 0 1 texts

guest-fits : (requests : Result (List Request) InputFault) (rest : Result (List (List Request)) InputFault) → IfOk requests (All MayAsk) → IfOk rest (All (All MayAsk))
    → IfOk (requests ⟫= λ r. rest ⟫= λ gs. Ok (r ∷ gs)) (All (All MayAsk))
guest-fits (Err e) rest all more = tt
guest-fits (Ok r) (Err e) all more = tt
guest-fits (Ok r) (Ok gs) all more = All-cons (All MayAsk) r gs all more

pub guests_said-fits : (f : ℕ) (texts : List (List (List ℕ))) → IfOk (guests_said f texts) (All (All MayAsk))
guests_said-fits f [] = All-nil (All MayAsk)
guests_said-fits f (texts ∷ more) = guest-fits (requests_said f texts) (guests_said (f + 1) more) (each_said-fits request_of MayAsk request-fits f 1 texts) (guests_said-fits (f + 1) more)
