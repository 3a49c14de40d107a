-- What is left after a command or a request is taken, or one comes back.
use Rattle.std.proofs.Common.{◌≡◌, ℕ, zero, suc, ◌+◌, ◌-◌, ◌<◌, ◌≤◌, Bool, true, false, List, [], ◌∷◌, ◌++◌, get_or, length, map, slice_get, slice_set, Option, Some, None, IfSome, IfNone, OnSome, option_map, option_to_list, refl, ap, sym, ◌∙◌, arith}
use Rattle.std.specs.List.{sum_by}
use Rattle.std.specs.Option.{unwrap_or}
use Rattle.std.proofs.lemmas.List.{length-map, length-set, map-set}
use Rattle.std.proofs.lemmas.List.Sums.{sum_by-cons}
use Rattle.std.proofs.lemmas.Option.{slice_get-map, slice_get_read}
use Rattle.nesc_base.specs.declared.block.Block.{Block}
use Rattle.nesc_requests.specs.Buffers.{Spare, request_buffers}
use Rattle.nesc_requests.specs.Script.{Script, requests_of, with_numbered}
use Rattle.nesc_requests.specs.declared.host.HostCommand.{HostCommand}
use Rattle.nesc_requests.specs.declared.machine.Machine.{Machine}
use Rattle.nesc_requests.specs.declared.request.Request.{Request}
use Rattle.nesc_requests.specs.declared.request.Request.TheVariants.{Read, Write, Flush}
use Rattle.script_lang.specs.Entries.{command_in, request_in}
use Rattle.script_lang.specs.Kept.{back_buffers, is_last_out, kept_in, left_of, out_in, requests_left}
use Rattle.script_lang.specs.Left.{Left, TakesCommand, TakesRequest, is_out, with_back}
use Rattle.script_lang.specs.declared.entries.HostEntry.{HostEntry}
use Rattle.script_lang.specs.declared.guest.Guest.{Guest}

-- How many buffers are kept

back-one : (back : Option Request) → back_buffers back ≤ 1
back-one None = omega arith
back-one (Some (Read v into)) = omega arith
back-one (Some (Write v from)) = omega arith
back-one (Some Flush) = omega arith

pub kept_few : (guests : List Guest) → sum_by kept_in guests ≤ length guests
kept_few [] = omega arith
kept_few (guest ∷ guests) = omega (arith, sum_by-cons kept_in guest guests, back-one guest.back, kept_few guests)

pub kept_few-set : (functions : ℕ) (guests : List Guest) (i : ℕ) (new : Guest) → length guests ≡ functions → sum_by kept_in (slice_set guests i new) ≤ functions
kept_few-set functions guests i new count = omega (arith, kept_few (slice_set guests i new), length-set guests i new)

kept-set : (guests : List Guest) (i : ℕ) (guest new : Guest) → slice_get guests i ≡ Some guest → sum_by kept_in (slice_set guests i new) + kept_in guest ≡ sum_by kept_in guests + kept_in new
kept-set [] i guest new at = cc
kept-set (first ∷ more) zero guest new at =
    let same : first ≡ guest = cc in
    omega (arith, ap kept_in same, sum_by-cons kept_in first more, sum_by-cons kept_in new more)
kept-set (first ∷ more) (suc i) guest new at =
    omega (arith, kept-set more i guest new at, sum_by-cons kept_in first more, sum_by-cons kept_in first (slice_set more i new))

-- the host's next command is taken
pub takes-command : (machine : Machine) (blocks : List Block) (host rest : List HostEntry) (guests : List Guest) (entry : HostEntry) (command : HostCommand)
    → host ≡ entry ∷ rest → command ≡ command_in blocks entry → TakesCommand (left_of machine blocks host guests) command (left_of machine blocks rest guests)
takes-command machine blocks host rest guests entry command front is = record {
  left = map (command_in blocks) rest;
  next = ap (map (command_in blocks)) front ∙ ap (λ (c : HostCommand). c ∷ map (command_in blocks) rest) (sym is);
  result = refl;
}

-- an entry that is written
set-at : {A : Type 0} (xs : List A) (i : ℕ) (x : A) → slice_get xs i ≡ Some x → slice_set xs i x ≡ xs
set-at [] i x at = refl
set-at (y ∷ xs) zero x at = let same : y ≡ x = cc in ap (λ z. z ∷ xs) (sym same)
set-at (y ∷ xs) (suc i) x at = ap (λ zs. y ∷ zs) (set-at xs i x at)

get-set : {A : Type 0} (xs : List A) (i : ℕ) (x y : A) → slice_get xs i ≡ Some x → slice_get (slice_set xs i y) i ≡ Some y
get-set [] i x y at = cc
get-set (z ∷ xs) zero x y at = refl
get-set (z ∷ xs) (suc i) x y at = get-set xs i x y at

-- the guest of a number, counted from 1, at its place, counted from 0
pub record IsGuestAt (guests : List Guest) (f place : ℕ) (guest : Guest) : Type 0 where
  pub number : f ≡ suc place
  pub at : slice_get guests place ≡ Some guest

module _ (machine : Machine) (blocks : List Block) (host : List HostEntry) (guests : List Guest) (f place : ℕ) (guest : Guest) (is : IsGuestAt guests f place guest) where
  requests-at : requests_of (left_of machine blocks host guests).script f ≡ requests_left blocks guest
  requests-at =
      rw is.number (ap (λ (found : Option (List Request)). unwrap_or found []) (slice_get-map (requests_left blocks) guests place ∙ ap (option_map (requests_left blocks)) is.at))

  pub out-at : is_out (left_of machine blocks host guests) f ≡ out_in guest
  out-at = rw is.number (ap (λ (found : Option Bool). unwrap_or found false) (slice_get-map out_in guests place ∙ ap (option_map out_in) is.at))

-- another guest in its place
module _ (machine : Machine) (blocks : List Block) (host : List HostEntry) (guests : List Guest) (f place : ℕ) (guest : Guest) (is : IsGuestAt guests f place guest) (new : Guest) where
  abbrev before : Left
  before = left_of machine blocks host guests

  abbrev after : Left
  after = left_of machine blocks host (slice_set guests place new)

  -- what is left then
  script-set : after.script ≡ record before.script { guests = with_numbered before.script.guests f (requests_left blocks new) }
  script-set =
      rw is.number
      (ap (λ (requests : List (List Request)). record { machine = machine; host = map (command_in blocks) host; guests = requests }) (map-set (requests_left blocks) guests place new))

  out-set : after.out ≡ with_numbered before.out f (out_in new)
  out-set = rw is.number (map-set out_in guests place new)

  -- its next request is taken
  pub takes-next : (result : Option Request) → IfSome result (λ request. requests_left blocks guest ≡ request ∷ requests_left blocks new) → OnSome result (out_in new ≡ true)
      → IfSome result (λ request. TakesRequest before f request after)
  takes-next None next out = tt
  takes-next (Some request) next out = record {
    left = requests_left blocks new;
    next = requests-at machine blocks host guests f place guest is ∙ next;
    script = script-set;
    out = out-set ∙ ap (with_numbered before.out f) out;
  }

  pub takes-out : (result : Option Request) → OnSome result (out_in new ≡ true) → IfSome result (λ _. is_out after f ≡ true)
  takes-out None out = tt
  takes-out (Some request) out = out-at machine blocks host (slice_set guests place new) f place new (record { number = is.number; at = get-set guests place guest new is.at }) ∙ out

  -- its buffer was spare, or was kept with it
  pub takes-buffer : (spare left : ℕ) (result : Option Request) → IfSome result (λ request. left + kept_in new + request_buffers request ≡ spare + kept_in guest)
      → IfSome result (λ request. left + after.kept + request_buffers request ≡ spare + before.kept)
  takes-buffer spare left None takes = tt
  takes-buffer spare left (Some request) takes = omega (arith, kept-set guests place guest new is.at)

  -- or it had none
  pub takes-none : (spare left : Spare) (result : Option Request)
      → IfNone result ((requests_left blocks guest ≡ []) × (requests_left blocks new ≡ []) × (out_in new ≡ out_in guest) × (kept_in new ≡ kept_in guest))
      → IfNone result (left ≡ spare) → IfNone result ((requests_of before.script f ≡ []) × (after ≡ before) × (left ≡ spare))
  takes-none spare left (Some request) none still = tt
  takes-none spare left None none still =
      let requests = requests_left blocks in
      let same_requests : map requests (slice_set guests place new) ≡ map requests guests =
      map-set requests guests place new ∙ ap (slice_set (map requests guests) place) (none.1 ∙ sym none.0)
      ∙ set-at (map requests guests) place (requests guest) (slice_get-map requests guests place ∙ ap (option_map requests) is.at) in
      let same_out : map out_in (slice_set guests place new) ≡ map out_in guests =
      map-set out_in guests place new ∙ ap (slice_set (map out_in guests) place) none.2
      ∙ set-at (map out_in guests) place (out_in guest) (slice_get-map out_in guests place ∙ ap (option_map out_in) is.at) in
      let same_kept : after.kept ≡ before.kept = omega (arith, kept-set guests place guest new is.at, none.3) in (
        requests-at machine blocks host guests f place guest is ∙ none.0,
        ap (λ (rs : List (List Request)). record { script = record { machine = machine; host = map (command_in blocks) host; guests = rs }; out = after.out; kept = after.kept }) same_requests
            ∙ ap (λ (out : List Bool). record { script = before.script; out = out; kept = after.kept }) same_out
            ∙ ap (λ (kept : ℕ). record { script = before.script; out = before.out; kept = kept }) same_kept,
        still,
      )

-- a guest whose last request is out has none that came back
none-back : (back : Option Request) (taken : Bool) → is_last_out back taken ≡ true → back ≡ None
none-back None taken is = refl
none-back (Some request) taken is = cc

-- a request comes back
pub with_back-set : (machine : Machine) (blocks : List Block) (host : List HostEntry) (guests : List Guest) (f place : ℕ) (guest : Guest) (request : Request) → IsGuestAt guests f place guest → out_in guest ≡ true
    → left_of machine blocks host (slice_set guests place (record guest { back = Some request })) ≡ with_back (left_of machine blocks host guests) f request
with_back-set machine blocks host guests f place guest request is out =
    let old = left_of machine blocks host guests in
    let back : Guest = record guest { back = Some request } in
    let new = left_of machine blocks host (slice_set guests place back) in
    let none : guest.back ≡ None = none-back guest.back guest.taken out in
    let requests : requests_left blocks guest ≡ map (request_in blocks) guest.entries.items =
    ap (λ (back : Option Request). option_to_list back ++ map (request_in blocks) guest.entries.items) none in
    let kept : new.kept ≡ old.kept + request_buffers request = omega (arith, kept-set guests place guest back is.at, ap back_buffers none) in
    ap (λ (script : Script). record { script = script; out = new.out; kept = new.kept }) (script-set machine blocks host guests f place guest is back)
    ∙ ap (λ (rs : List Request). record { script = record old.script { guests = with_numbered old.script.guests f (request ∷ rs) }; out = new.out; kept = new.kept })
    (sym (requests-at machine blocks host guests f place guest is ∙ requests))
    ∙ ap (λ (bools : List Bool). record { script = record old.script { guests = with_numbered old.script.guests f (request ∷ requests_of old.script f) }; out = bools; kept = new.kept }) (out-set machine blocks host guests f place guest is back)
    ∙ ap (λ (n : ℕ). record { script = record old.script { guests = with_numbered old.script.guests f (request ∷ requests_of old.script f) }; out = with_numbered old.out f false; kept = n }) kept

-- a guest whose last request is out is there
within-out : (out : List Bool) (place : ℕ) → unwrap_or (slice_get out place) false ≡ true → place < length out
within-out [] place is = cc
within-out (first ∷ more) zero is = omega arith
within-out (first ∷ more) (suc place) is = omega (arith, within-out more place is)

pub IsGuestAt-out : (machine : Machine) (blocks : List Block) (host : List HostEntry) (guests : List Guest) (f place : ℕ) (guest : Guest) → is_out (left_of machine blocks host guests) f ≡ true → place ≡ f - 1
    → guest ≡ get_or guests place guest → IsGuestAt guests f place guest
IsGuestAt-out machine blocks host guests zero place guest out before is = cc
IsGuestAt-out machine blocks host guests (suc i) place guest out before is =
    let long : length (map out_in guests) ≡ length guests = length-map guests out_in in
    let within = within-out (map out_in guests) i out in
    record { number = omega arith; at = slice_get_read guests (length guests) place guest refl (omega arith) is }

-- Where a request that was taken comes back, the script is as it was.

back-at : (guests : List (List Request)) (i : ℕ) (request : Request) (left : List Request) → unwrap_or (slice_get guests i) [] ≡ request ∷ left
    → slice_set (slice_set guests i left) i (request ∷ unwrap_or (slice_get (slice_set guests i left) i) []) ≡ guests
back-at [] i request left next = refl
back-at (guest ∷ guests) zero request left next = ap (λ (first : List Request). first ∷ guests) (sym next)
back-at (guest ∷ guests) (suc i) request left next = ap (λ (rest : List (List Request)). guest ∷ rest) (back-at guests i request left next)

back-after : (old : Script) (f : ℕ) (request : Request) (left : List Request) → requests_of old f ≡ request ∷ left → (mid : Script) → mid ≡ record old { guests = with_numbered old.guests f left }
    → record mid { guests = with_numbered mid.guests f (request ∷ requests_of mid f) } ≡ old
back-after old zero request left next mid is = is
back-after old (suc i) request left next mid is =
    ap (λ (script : Script). record script { guests = slice_set script.guests i (request ∷ requests_of script (suc i)) }) is
    ∙ ap (λ (guests : List (List Request)). record old { guests = guests }) (back-at old.guests i request left next)

pub script-with_back : (old mid : Left) (f : ℕ) (request : Request) → TakesRequest old f request mid → (with_back mid f request).script ≡ old.script
script-with_back old mid f request takes = back-after old.script f request takes.left takes.next mid.script takes.script
