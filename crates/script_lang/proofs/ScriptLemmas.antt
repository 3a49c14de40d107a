-- What the parts of a document say together, and what is kept of them.
use Rattle.std.proofs.Common.{◌≡◌, ℕ, ◌-◌, ◌≤◌, Bool, false, List, [], ◌∷◌, ◌++◌, length, map, replicate, codes, Option, None, IfSome, Ok, Err, refl, ap, sym, subst, ◌∙◌, arith}
use Rattle.std.specs.List.{All, sum_by}
use Rattle.std.proofs.lemmas.List.{length-append, length-map, map-append}
use Rattle.std.proofs.lemmas.List.Elements.{All-append, All-cons, All-head, All-nil, All-tail, All-weaker}
use Rattle.std.proofs.lemmas.List.Sums.{sum_by-cons}
use Rattle.toml.specs.Data.{Items, Members, get_member}
use Rattle.nesc_base.specs.declared.block.Block.{Block}
use Rattle.nesc_requests.specs.Script.{MayAsk}
use Rattle.nesc_requests.specs.declared.host.HostCommand.{HostCommand}
use Rattle.nesc_requests.specs.declared.machine.Machine.{Machine}
use Rattle.nesc_requests.specs.declared.request.Request.{Request}
use Rattle.script_lang.specs.CommandsText.{few_guests, guests_of, guests_said, host_said, items_in, strings_of, strings_said, with_idle}
use Rattle.script_lang.specs.Entries.{IsGuestEntry, IsHostEntry, command_in, request_in}
use Rattle.script_lang.specs.Kept.{AddsIdle, IsFreshGuest, IsGuest, IsGuestKept, IsHostKept, IsIdle, back_buffers, is_last_out, kept_in, left_of, out_in, requests_left, script_in}
use Rattle.script_lang.specs.Left.{untouched}
use Rattle.script_lang.specs.declared.entries.GuestEntry.{GuestEntry}
use Rattle.script_lang.specs.declared.entries.HostEntry.{HostEntry}
use Rattle.script_lang.specs.declared.fault.InputFault.{InputFault}
use Rattle.script_lang.specs.declared.guest.Guest.{Guest}
use Rattle.script_lang.proofs.FitLemmas.{Fits}
use Rattle.script_lang.proofs.GuestLemmas.{fresh-left}

-- What the strings say, by the items of the two arrays

module _ (machine : Machine) (top : Members) (guests hosts : Items) (is_guests : guests ≡ items_in (get_member (codes "guest") top)) (is_hosts : hosts ≡ items_in (get_member (codes "host") top)) where
  pub strings_said-few : (fault : InputFault) → few_guests machine.functions (guests_of guests) ≡ Err fault → strings_said machine top ≡ Err fault
  unfolding strings_said
  strings_said-few fault few = rw (← is_guests, few) refl

  pub strings_said-host : (named : List (List (List ℕ))) (fault : InputFault) → few_guests machine.functions (guests_of guests) ≡ Ok named → host_said machine.functions (strings_of hosts) ≡ Err fault → strings_said machine top ≡ Err fault
  unfolding strings_said
  strings_said-host named fault few host = rw (← is_guests, ← is_hosts, few, host) refl

  pub strings_said-guests : (named : List (List (List ℕ))) (commands : List HostCommand) (fault : InputFault) → few_guests machine.functions (guests_of guests) ≡ Ok named → host_said machine.functions (strings_of hosts) ≡ Ok commands
      → guests_said 1 named ≡ Err fault → strings_said machine top ≡ Err fault
  unfolding strings_said
  strings_said-guests named commands fault few host guest = rw (← is_guests, ← is_hosts, few, host, guest) refl

  pub strings_said-ok : (named : List (List (List ℕ))) (commands : List HostCommand) (requests : List (List Request)) → few_guests machine.functions (guests_of guests) ≡ Ok named → host_said machine.functions (strings_of hosts) ≡ Ok commands
      → guests_said 1 named ≡ Ok requests → strings_said machine top ≡ Ok (record { machine = machine; host = commands; guests = with_idle machine.functions requests })
  unfolding strings_said
  strings_said-ok named commands requests few host guest = rw (← is_guests, ← is_hosts, few, host, guest) refl

-- What is kept

-- commands that are kept and fit
pub hosts-kept : (functions : ℕ) (blocks : List Block) (entries : List HostEntry) → All (IsHostEntry (length blocks)) entries → All (Fits functions) (map (command_in blocks) entries) → All (IsHostKept functions blocks) entries
hosts-kept functions blocks [] kept fit = All-nil (IsHostKept functions blocks)
hosts-kept functions blocks (entry ∷ entries) kept fit =
    let this = All-head (Fits functions) (command_in blocks entry) (map (command_in blocks) entries) fit in
    All-cons (IsHostKept functions blocks) entry entries (record { kept = All-head (IsHostEntry (length blocks)) entry entries kept; within = this.0; named = this.1 })
    (hosts-kept functions blocks entries (All-tail (IsHostEntry (length blocks)) entry entries kept) (All-tail (Fits functions) (command_in blocks entry) (map (command_in blocks) entries) fit))

entries-kept : (blocks : List Block) (entries : List GuestEntry) → All (IsGuestEntry (length blocks)) entries → All MayAsk (map (request_in blocks) entries) → All (IsGuestKept blocks) entries
entries-kept blocks [] kept fit = All-nil (IsGuestKept blocks)
entries-kept blocks (entry ∷ entries) kept fit =
    All-cons (IsGuestKept blocks) entry entries (record { kept = All-head (IsGuestEntry (length blocks)) entry entries kept; within = All-head MayAsk (request_in blocks entry) (map (request_in blocks) entries) fit })
    (entries-kept blocks entries (All-tail (IsGuestEntry (length blocks)) entry entries kept) (All-tail MayAsk (request_in blocks entry) (map (request_in blocks) entries) fit))

-- a guest with none that came back
none-back : (guest : Guest) → guest.back ≡ None → IfSome guest.back MayAsk
none-back guest none = rw none tt

guest-kept : (blocks : List Block) (guest : Guest) → IsFreshGuest (length blocks) guest → All MayAsk (requests_left blocks guest) → IsGuest blocks guest
guest-kept blocks guest fresh fit = record {
  entries = entries-kept blocks guest.entries.items fresh.entries (subst (All MayAsk) (fresh-left blocks (length blocks) guest fresh) fit);
  back = none-back guest fresh.none;
}

guests-kept : (blocks : List Block) (guests : List Guest) → All (IsFreshGuest (length blocks)) guests → All (All MayAsk) (map (requests_left blocks) guests) → All (IsGuest blocks) guests
guests-kept blocks [] fresh fit = All-nil (IsGuest blocks)
guests-kept blocks (guest ∷ guests) fresh fit =
    All-cons (IsGuest blocks) guest guests
    (guest-kept blocks guest (All-head (IsFreshGuest (length blocks)) guest guests fresh) (All-head (All MayAsk) (requests_left blocks guest) (map (requests_left blocks) guests) fit))
    (guests-kept blocks guests (All-tail (IsFreshGuest (length blocks)) guest guests fresh) (All-tail (All MayAsk) (requests_left blocks guest) (map (requests_left blocks) guests) fit))

idle-kept : (blocks : List Block) (guest : Guest) → IsIdle guest → IsGuest blocks guest
idle-kept blocks guest idle = record { entries = rw idle.entries (All-nil (IsGuestKept blocks)); back = none-back guest idle.none }

-- guests with idle ones behind them
module _ (functions : ℕ) (blocks : List Block) (named all : List Guest) (adds : AddsIdle functions named all) where
  pub all-kept : All (IsFreshGuest (length blocks)) named → All (All MayAsk) (map (requests_left blocks) named) → All (IsGuest blocks) all
  all-kept fresh fit =
      subst (All (IsGuest blocks)) (sym adds.result) (All-append (IsGuest blocks) named adds.more (guests-kept blocks named fresh fit) (All-weaker IsIdle (IsGuest blocks) (idle-kept blocks) adds.more adds.idle))

  pub all-none : All (IsFreshGuest (length blocks)) named → All (λ guest. guest.back ≡ None) all
  all-none fresh =
      subst (All (λ guest. guest.back ≡ None)) (sym adds.result)
      (All-append (λ guest. guest.back ≡ None) named adds.more (All-weaker (IsFreshGuest (length blocks)) (λ guest. guest.back ≡ None) (λ guest is. is.none) named fresh)
      (All-weaker IsIdle (λ guest. guest.back ≡ None) (λ guest is. is.none) adds.more adds.idle))

  idle-requests : (guests : List Guest) → All IsIdle guests → map (requests_left blocks) guests ≡ replicate (length guests) []
  idle-requests [] idle = refl
  idle-requests (guest ∷ guests) idle =
      let this = All-head IsIdle guest guests idle in
      let nothing : requests_left blocks guest ≡ [] = rw (this.none, this.entries) refl in
      ap (λ (requests : List Request). requests ∷ map (requests_left blocks) guests) nothing
      ∙ ap (λ (more : List (List Request)). [] ∷ more) (idle-requests guests (All-tail IsIdle guest guests idle))

  pub all-left : map (requests_left blocks) all ≡ with_idle functions (map (requests_left blocks) named)
  all-left =
      let requests = map (requests_left blocks) named in
      let long : length requests ≡ length named = length-map named (requests_left blocks) in
      let count : length adds.more ≡ functions - length requests = omega (arith, adds.count) in
      ap (map (requests_left blocks)) adds.result
      ∙ map-append (requests_left blocks) named adds.more
      ∙ ap (λ (more : List (List Request)). requests ++ more) (idle-requests adds.more adds.idle ∙ ap (λ n. replicate n []) count)

  none-out : (guests : List Guest) → All (λ guest. out_in guest ≡ false) guests → map out_in guests ≡ replicate (length guests) false
  none-out [] none = refl
  none-out (guest ∷ guests) none =
      ap (λ (out : Bool). out ∷ map out_in guests) (All-head (λ guest. out_in guest ≡ false) guest guests none)
      ∙ ap (λ (more : List Bool). false ∷ more) (none-out guests (All-tail (λ guest. out_in guest ≡ false) guest guests none))

  pub all-count : length named ≤ functions → length all ≡ functions
  all-count few = omega (arith, ap length adds.result, length-append named adds.more, adds.count)

  pub all-out : length named ≤ functions → All (IsFreshGuest (length blocks)) named → map out_in all ≡ replicate functions false
  all-out few fresh =
      let of_named = All-weaker (IsFreshGuest (length blocks)) (λ guest. out_in guest ≡ false) (λ guest is. untaken is.none is.inside) named fresh in
      let of_idle = All-weaker IsIdle (λ guest. out_in guest ≡ false) (λ guest is. untaken is.none is.inside) adds.more adds.idle in
      let none : All (λ guest. out_in guest ≡ false) all = subst (All (λ guest. out_in guest ≡ false)) (sym adds.result) (All-append (λ guest. out_in guest ≡ false) named adds.more of_named of_idle) in
      none-out all none ∙ ap (λ n. replicate n false) (all-count few)
    where
      untaken : {back : Option Request} {taken : Bool} → back ≡ None → taken ≡ false → is_last_out back taken ≡ false
      untaken {back} {taken} none inside = ap (λ (b : Option Request). is_last_out b taken) none ∙ inside

-- no buffer is kept where none came back
pub none-kept : (guests : List Guest) → All (λ guest. guest.back ≡ None) guests → sum_by kept_in guests ≡ 0
none-kept [] none = refl
none-kept (guest ∷ guests) none =
    omega (arith, sum_by-cons kept_in guest guests, ap back_buffers (All-head (λ guest. guest.back ≡ None) guest guests none), none-kept guests (All-tail (λ guest. guest.back ≡ None) guest guests none))

-- nothing was taken
pub left-untouched : (machine : Machine) (blocks : List Block) (host : List HostEntry) (guests : List Guest) → map out_in guests ≡ replicate machine.functions false → All (λ guest. guest.back ≡ None) guests
    → left_of machine blocks host guests ≡ untouched (script_in machine blocks host guests)
left-untouched machine blocks host guests fresh none =
    let script = script_in machine blocks host guests in
    ap (λ (out : List Bool). record { script = script; out = out; kept = sum_by kept_in guests }) fresh
    ∙ ap (λ (kept : ℕ). record { script = script; out = replicate machine.functions false; kept = kept }) (none-kept guests none)
