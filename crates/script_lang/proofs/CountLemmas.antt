-- How many blocks what is kept has, and what that makes of a text.
use Rattle.std.proofs.Common.{◌≡◌, ℕ, ◌+◌, ◌≤◌, nat_le, Bool, true, false, cond, List, [], ◌∷◌, ◌++◌, length, map, Option, Some, None, Ok, Err, pos, option_to_list, refl, ap, ◌∙◌, arith}
use Rattle.std.specs.List.{All, sum_by}
use Rattle.std.specs.Str.{IsUtf8, is_utf8}
use Rattle.std.proofs.lemmas.Bool.Decides.{nat_tests}
use Rattle.std.proofs.lemmas.List.{length-replicate}
use Rattle.std.proofs.lemmas.List.Elements.{All-head, All-tail}
use Rattle.std.proofs.lemmas.List.Sums.{sum_by-cons}
use Rattle.std.proofs.lemmas.Str.{IsUtf8-from_is_utf8, is_utf8-from_IsUtf8}
use Rattle.toml.specs.Data.{Members}
use Rattle.toml.specs.Parse.{parse_document}
use Rattle.nesc_base.specs.Block.{zero_block}
use Rattle.nesc_base.specs.declared.block.Block.{Block}
use Rattle.nesc_requests.specs.Requests.{block_count}
use Rattle.nesc_requests.specs.Script.{Script}
use Rattle.nesc_requests.specs.declared.machine.Machine.{Machine}
use Rattle.nesc_requests.specs.declared.request.Request.{Request}
use Rattle.script_lang.specs.CommandsText.{blocks_in_all, command_blocks, commands_of, commands_said, few_blocks, script_of, strings_said}
use Rattle.script_lang.specs.Entries.{IsGuestEntry, IsHostEntry, command_in, guest_entry_blocks, host_entry_blocks, request_in}
use Rattle.script_lang.specs.Kept.{IsGuest, IsGuestKept, IsHostKept, requests_left}
use Rattle.script_lang.specs.Limits.{most_blocks, most_bytes, short_enough}
use Rattle.script_lang.specs.declared.entries.GuestEntry.{GuestEntry}
use Rattle.script_lang.specs.declared.entries.GuestEntry.TheVariants.{Read, Write, Flush}
use Rattle.script_lang.specs.declared.entries.HostEntry.{HostEntry}
use Rattle.script_lang.specs.declared.entries.HostEntry.TheVariants.{Create, Delete, Resize, Put, Map, Get, Attach, Detach, Sync, Regs}
use Rattle.script_lang.specs.declared.fault.InputFault.{InputFault}
use Rattle.script_lang.specs.declared.fault.InputFault.TheVariants.{BadToml, OverLimit}
use Rattle.script_lang.specs.declared.fault.Limit.TheVariants.{Blocks, Text}
use Rattle.script_lang.specs.declared.guest.Guest.{Guest}
use Rattle.script_lang.proofs.StoreLemmas.{length-blocks_at}

-- Blocks

module _ (blocks : List Block) where
  host-count : (entry : HostEntry) → IsHostEntry (length blocks) entry → command_blocks (command_in blocks entry) ≡ host_entry_blocks entry
  host-count (Put name run) kept = length-blocks_at blocks run kept.inside
  host-count (Get name v n) kept = length-replicate n zero_block
  host-count (Create name len) kept = refl
  host-count (Delete name) kept = refl
  host-count (Resize name len) kept = refl
  host-count (Map name v n) kept = refl
  host-count (Attach f name) kept = refl
  host-count (Detach f) kept = refl
  host-count Sync kept = refl
  host-count (Regs f) kept = refl

  guest-count : (entry : GuestEntry) → IsGuestEntry (length blocks) entry → block_count (request_in blocks entry) ≡ guest_entry_blocks entry
  guest-count (Read v n) kept = length-replicate n zero_block
  guest-count (Write run) kept = length-blocks_at blocks run kept.inside
  guest-count Flush kept = refl

  pub hosts-count : (functions : ℕ) (entries : List HostEntry) → All (IsHostKept functions blocks) entries → sum_by command_blocks (map (command_in blocks) entries) ≡ sum_by host_entry_blocks entries
  hosts-count functions [] kept = refl
  hosts-count functions (entry ∷ entries) kept =
      let this = host-count entry (All-head (IsHostKept functions blocks) entry entries kept).kept in
      let more = hosts-count functions entries (All-tail (IsHostKept functions blocks) entry entries kept) in
      let one = sum_by-cons command_blocks (command_in blocks entry) (map (command_in blocks) entries) in
      let other = sum_by-cons host_entry_blocks entry entries in
      omega arith

  entries-count : (entries : List GuestEntry) → All (IsGuestKept blocks) entries → sum_by block_count (map (request_in blocks) entries) ≡ sum_by guest_entry_blocks entries
  entries-count [] kept = refl
  entries-count (entry ∷ entries) kept =
      let this = guest-count entry (All-head (IsGuestKept blocks) entry entries kept).kept in
      let more = entries-count entries (All-tail (IsGuestKept blocks) entry entries kept) in
      let one = sum_by-cons block_count (request_in blocks entry) (map (request_in blocks) entries) in
      let other = sum_by-cons guest_entry_blocks entry entries in
      omega arith

  one-guest-count : (guest : Guest) → guest.back ≡ None → IsGuest blocks guest → sum_by block_count (requests_left blocks guest) ≡ sum_by guest_entry_blocks guest.entries.items
  one-guest-count guest none kept =
      ap (λ (back : Option Request). sum_by block_count (option_to_list back ++ map (request_in blocks) guest.entries.items)) none ∙ entries-count guest.entries.items kept.entries

  pub guests-count : (guests : List Guest) → All (λ guest. guest.back ≡ None) guests → All (IsGuest blocks) guests
      → sum_by (sum_by block_count) (map (requests_left blocks) guests) ≡ sum_by (λ (guest : Guest). sum_by guest_entry_blocks guest.entries.items) guests
  guests-count [] none kept = refl
  guests-count (guest ∷ guests) none kept =
      let this = one-guest-count guest (All-head (λ guest. guest.back ≡ None) guest guests none) (All-head (IsGuest blocks) guest guests kept) in
      let more = guests-count guests (All-tail (λ guest. guest.back ≡ None) guest guests none) (All-tail (IsGuest blocks) guest guests kept) in
      let one = sum_by-cons (sum_by block_count) (requests_left blocks guest) (map (requests_left blocks) guests) in
      let other = sum_by-cons (λ (guest : Guest). sum_by guest_entry_blocks guest.entries.items) guest guests in
      omega arith

-- so many blocks may be
few_from : (n m : ℕ) (b : Bool) → nat_le n most_blocks ≡ b → cond b (Ok n) (Err (OverLimit Blocks (pos n))) ≡ Ok m → n ≤ most_blocks
few_from n m true is ok = grind (arith, nat_tests)
few_from n m false is ok = cc

pub few_blocks-within : (n m : ℕ) → few_blocks n ≡ Ok m → n ≤ most_blocks
few_blocks-within n m ok = few_from n m (nat_le n most_blocks) refl ok

-- What a text says for a machine, by its strings

module _ (machine : Machine) (top : Members) where
  pub commands_said-fault : (fault : InputFault) → strings_said machine top ≡ Err fault → commands_said machine top ≡ Err fault
  unfolding commands_said
  commands_said-fault fault said = rw said refl

  pub commands_said-over : (script : Script) (fault : InputFault) → strings_said machine top ≡ Ok script → few_blocks (blocks_in_all script) ≡ Err fault → commands_said machine top ≡ Err fault
  unfolding commands_said
  commands_said-over script fault said many = rw (said, many) refl

  pub commands_said-few : (script : Script) (n : ℕ) → strings_said machine top ≡ Ok script → few_blocks (blocks_in_all script) ≡ Ok n → commands_said machine top ≡ Ok script
  unfolding commands_said
  commands_said-few script n said few = rw (said, few) refl

-- What a text says, by its document

module _ (text : List ℕ) (short : length text ≤ most_bytes) where
  short-is : short_enough text ≡ Ok text
  short-is = grind (arith, nat_tests)

  pub commands_of-document : (top : Members) → IsUtf8 text → parse_document text ≡ Some top → commands_of text ≡ script_of top
  unfolding commands_of
  commands_of-document top utf8 parsed = let is : is_utf8 text ≡ true = is_utf8-from_IsUtf8 text utf8 in rw (short-is, is, parsed) refl

  no_document : (b : Bool) → is_utf8 text ≡ b → (IsUtf8 text → parse_document text ≡ None) → commands_of text ≡ Err BadToml
  unfolding commands_of
  no_document true is none = let parsed : parse_document text ≡ None = none (IsUtf8-from_is_utf8 text is) in rw (short-is, is, parsed) refl
  no_document false is none = rw (short-is, is) refl

  pub commands_of-bad : (IsUtf8 text → parse_document text ≡ None) → commands_of text ≡ Err BadToml
  commands_of-bad none = no_document (is_utf8 text) refl none

pub commands_of-long : (text : List ℕ) → most_bytes + 1 ≤ length text → commands_of text ≡ Err (OverLimit Text (pos 16777217))
unfolding commands_of
commands_of-long text long = let is : short_enough text ≡ Err (OverLimit Text (pos 16777217)) = grind (arith, nat_tests) in rw is refl
