use Rattle.machine_laws.proofs.Turns.{taken_in_time}
use Rattle.machine_laws.proofs.laws.each_function_is_taken_in_time.Goals as goal

pub returns : goal.returns
returns c = taken_in_time
