-- The registers of one function, among those of all.
use Rattle.std.proofs.Common.{◌≡◌, ℕ, suc, ◌+◌, ◌<◌, List, [], length, get_or, set, Some, Result, Ok, Err, refl, sym, ap, subst, ◌∙◌, arith}
use Rattle.std.specs.Option.{option_map_or}
use Rattle.std.proofs.lemmas.List.{set-get_or}
use Rattle.std.proofs.lemmas.Option.{slice_get_read}
use Rattle.nesc_requests.specs.Script.{numbered, with_numbered}
use Rattle.nesc_requests.specs.declared.request.Miss.{Miss}
use Rattle.vf_registers.specs.declared.fault.RegFault.{RegFault}
use Rattle.vf_registers.specs.declared.function.Function.{Function}
use Rattle.vf_registers.specs.Registers.{Comes, DeviceRegisters, Register, bank_of, function_bank, function_write, raised, with_function, with_function_of, writes}

numbered_at : (functions : List Function) (f index : ℕ) (function : Function) → f ≡ index + 1 → index < length functions
    → function ≡ get_or functions index function → numbered functions f ≡ Some function
numbered_at functions f index function place within is =
    let next : f ≡ suc index = omega arith in
    ap (numbered functions) next ∙ slice_get_read functions (length functions) index function refl within is

set_at : (functions : List Function) (f index : ℕ) (function : Function) → f ≡ index + 1 → with_numbered functions f function ≡ set functions index function
set_at functions f index function place = let next : f ≡ suc index = omega arith in ap (λ n. with_numbered functions n function) next

module _ (registers : DeviceRegisters) (f index : ℕ) (function : Function) (place : f ≡ index + 1) (within : index < length registers.functions)
    (is : function ≡ get_or registers.functions index function) where
  -- with one function changed
  abbrev changed : Function → DeviceRegisters
  changed after = record registers { functions = set registers.functions index after }

  as_changed : (after : Function) → with_function registers f after ≡ changed after
  as_changed after = ap (λ (functions : List Function). record registers { functions = functions }) (set_at registers.functions f index after place)

  pub raised_is : (miss : Miss) → changed (record function { miss = Some miss }) ≡ raised registers f miss
  raised_is miss =
      sym (as_changed (record function { miss = Some miss }))
      ∙ ap (λ o. option_map_or (λ (function : Function). with_function registers f (record function { miss = Some miss })) o registers)
      (sym (numbered_at registers.functions f index function place within is))

  bank_is : bank_of registers f ≡ function_bank function
  bank_is = ap (λ o. option_map_or function_bank o []) (numbered_at registers.functions f index function place within is)

  came_for_all : (outcome : Result Function RegFault) (result : Result (Unit {0}) RegFault) (after : Function)
      → Comes outcome result function after → Comes (with_function_of registers f outcome) result registers (changed after)
  came_for_all (Ok left) result after came = (came.0, sym (as_changed after) ∙ ap (with_function registers f) came.1)
  came_for_all (Err fault) result after came =
      let stays : set registers.functions index after ≡ registers.functions =
      ap (set registers.functions index) (came.1 ∙ is) ∙ set-get_or registers.functions index function in
      (came.0, ap (λ (functions : List Function). record registers { functions = functions }) stays)

  -- what is written into the registers of the function is written into them among all
  pub write_is : (number value : ℕ) (result : Result (Unit {0}) RegFault) (after : Function)
      → Comes (writes (function_bank function) number value) result function after → Comes (function_write registers f number value) result registers (changed after)
  write_is number value result after came =
      subst (λ (bank : List (Register Function)). Comes (with_function_of registers f (writes bank number value)) result registers (changed after)) (sym bank_is)
      (came_for_all (writes (function_bank function) number value) result after came)
