-- The registers of the device: what each reads as, and what a write of it leaves.
use Rattle.std.specs.Prelude.{◌≡◌, ℕ, ◌+◌, ◌-◌, ◌*◌, ◌≤◌, if◌then◌else◌, Bool, true, false}
use Rattle.std.specs.Prelude.{List, [], ◌∷◌, length, slice_get, replicate, Option, Some, None, is_some, Result, Ok, Err}
use Rattle.std.specs.Int.{bit_at}
use Rattle.std.specs.Option.{option_and_then, option_map_or}
use Rattle.nesc_requests.specs.Machine.{most_functions}
use Rattle.nesc_requests.specs.Script.{numbered, with_numbered}
use Rattle.nesc_requests.specs.declared.request.Kind.{Kind}
use Rattle.nesc_requests.specs.declared.request.Kind.TheVariants.{Pruned, Unmapped}
use Rattle.nesc_requests.specs.declared.request.Miss.{Miss}
use Rattle.vf_registers.specs.declared.fault.RegFault.{RegFault}
use Rattle.vf_registers.specs.declared.fault.RegFault.TheVariants.{NoRegister, ReadOnly}
use Rattle.vf_registers.specs.declared.function.Function.{Function}

-- what stands in the registers of all virtual functions, numbered from 1, and whether the host asked for an empty cache
-- of translations and the device was not told yet
pub record DeviceRegisters : Type 0 where
  pub functions : List Function
  pub flush_asked : Bool

-- one register of a bank: what it reads as, and what its bank keeps after a write of a value, if it may be written
pub record Register (State : Type 0) : Type 0 where
  pub content : ℕ
  pub written : Option (ℕ → State)

abbrev pub read_only : {State : Type 0} → ℕ → Register State
read_only content = record { content = content; written = None }

-- What a function waits for, or 0 where it does not wait

abbrev pub miss_block : Option Miss → ℕ
miss_block None = 0
miss_block (Some miss) = miss.v

abbrev pub miss_count : Option Miss → ℕ
miss_count None = 0
miss_count (Some miss) = miss.n

abbrev pub kind_number : Kind → ℕ
kind_number Pruned = 1
kind_number Unmapped = 2

abbrev pub miss_kind : Option Miss → ℕ
miss_kind None = 0
miss_kind (Some miss) = kind_number miss.kind

-- The two banks, each register at the place of its number

-- Size, Root, MissBlock, MissCount, MissKind and Rewalk of a virtual function
abbrev pub function_bank : Function → List (Register Function)
function_bank function =
    record { content = function.size; written = Some (λ value. record function { size = value }) }
    ∷ record { content = function.root; written = Some (λ value. record function { root = value }) }
    ∷ read_only (miss_block function.miss)
    ∷ read_only (miss_count function.miss)
    ∷ read_only (miss_kind function.miss)
    ∷ record { content = 0; written = Some (λ value. record function { miss = None }) }
    ∷ []

-- which functions wait, by a bit for each, the lowest for the first
abbrev pub pending : List Function → ℕ
pending [] = 0
pending (function ∷ functions) = (if is_some function.miss then 1 else 0) + 2 * pending functions

-- Pending and FlushBtlb of the physical function
abbrev pub physical_bank : DeviceRegisters → List (Register DeviceRegisters)
physical_bank registers =
    read_only (pending registers.functions)
    ∷ record { content = 0; written = Some (λ value. record registers { flush_asked = true }) }
    ∷ []

-- Reading and writing a register of a bank

abbrev pub read_of : {State : Type 0} → ℕ → Option (Register State) → Result ℕ RegFault
read_of number None = Err (NoRegister number)
read_of number (Some register) = Ok register.content

abbrev pub reads : {State : Type 0} → List (Register State) → ℕ → Result ℕ RegFault
reads registers number = read_of number (slice_get registers number)

abbrev pub write_into : {State : Type 0} → ℕ → ℕ → Option (ℕ → State) → Result State RegFault
write_into number value None = Err (ReadOnly number)
write_into number value (Some after) = Ok (after value)

abbrev pub write_of : {State : Type 0} → ℕ → ℕ → Option (Register State) → Result State RegFault
write_of number value None = Err (NoRegister number)
write_of number value (Some register) = write_into number value register.written

abbrev pub writes : {State : Type 0} → List (Register State) → ℕ → ℕ → Result State RegFault
writes registers number value = write_of number value (slice_get registers number)

-- a write has come to this: it is done and leaves that, or it is refused and leaves all as it was
abbrev pub Comes : {State : Type 0} → Result State RegFault → Result (Unit {0}) RegFault → State → State → Type 0
Comes (Ok after) result old new = (result ≡ Ok tt) × (new ≡ after)
Comes (Err fault) result old new = (result ≡ Err fault) × (new ≡ old)

-- The registers of all functions

-- those of the function of a number; where there is none, none
abbrev pub bank_of : DeviceRegisters → ℕ → List (Register Function)
bank_of registers f = option_map_or function_bank (numbered registers.functions f) []

-- those of the function of a number become others, and all else stays
abbrev pub with_function : DeviceRegisters → ℕ → Function → DeviceRegisters
with_function registers f function = record registers { functions = with_numbered registers.functions f function }

abbrev pub with_function_of : DeviceRegisters → ℕ → Result Function RegFault → Result DeviceRegisters RegFault
with_function_of registers f (Ok function) = Ok (with_function registers f function)
with_function_of registers f (Err fault) = Err fault

-- what a write into a register of a function leaves of all registers, or why it is refused
abbrev pub function_write : DeviceRegisters → ℕ → ℕ → ℕ → Result DeviceRegisters RegFault
function_write registers f number value = with_function_of registers f (writes (bank_of registers f) number value)

-- what the function of a number waits for
abbrev pub miss_of : DeviceRegisters → ℕ → Option Miss
miss_of registers f = option_and_then (λ function. function.miss) (numbered registers.functions f)

-- the function of a number waits for this from now on; where there is none, nothing changes
abbrev pub raised : DeviceRegisters → ℕ → Miss → DeviceRegisters
raised registers f miss =
    option_map_or (λ function. with_function registers f (record function { miss = Some miss }))
    (numbered registers.functions f) registers

-- at first: no function has a file, a tree or a miss
abbrev pub quiet : Function
quiet = record { size = 0; root = 0; miss = None }

abbrev pub fresh : ℕ → DeviceRegisters
fresh count = record { functions = replicate count quiet; flush_asked = false }

-- the bits of a mask and the misses agree: the bit of a function is set exactly where it waits
abbrev pub AgreesWithMisses : DeviceRegisters → ℕ → Type 0
AgreesWithMisses registers bits =
    (f : ℕ) → 1 ≤ f → bit_at bits (f - 1) ≡ (if is_some (miss_of registers f) then 1 else 0)

-- how they stand in memory: with a mask of those that wait
pub record IsSound (functions : List Function) (bits : ℕ) : Type 0 where
  pub few : length functions ≤ most_functions
  pub mask : bits ≡ pending functions
