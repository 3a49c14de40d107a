-- A fault of a part is a fault of the whole.
use Rattle.std.proofs.Common.{◌≡◌, Result, Err}
use Rattle.script_lang.specs.Reads.{IsRefusedFor}
use Rattle.script_lang.specs.declared.fault.InputFault.{InputFault}
use Rattle.script_lang.specs.declared.fault.InputFault.TheVariants.{NoMemory, BadToml, BadKey, BadCommand, BadWord, OverLimit, BadName}

-- where the whole has each fault that the part has
pub IsRefusedFor-whole : {A B : Type 0} (fault : InputFault) (part : Result A InputFault) (whole : Result B InputFault) → ((f : InputFault) → part ≡ Err f → whole ≡ Err f) → IsRefusedFor fault part → IsRefusedFor fault whole
IsRefusedFor-whole NoMemory part whole same refused = tt
IsRefusedFor-whole BadToml part whole same refused = same BadToml refused
IsRefusedFor-whole (BadKey table place) part whole same refused = same (BadKey table place) refused
IsRefusedFor-whole (BadCommand actor index) part whole same refused = same (BadCommand actor index) refused
IsRefusedFor-whole (BadWord line column) part whole same refused = same (BadWord line column) refused
IsRefusedFor-whole (OverLimit limit count) part whole same refused = same (OverLimit limit count) refused
IsRefusedFor-whole BadName part whole same refused = same BadName refused
