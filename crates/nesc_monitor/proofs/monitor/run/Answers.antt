use Rattle.std.proofs.Common.{refl}
use Rattle.text_kit.proofs.WritesLemmas.{Writes-whole}
use Rattle.nesc_monitor.proofs.PromisesLemmas.{EveryCommand-comes, OfMake-comes, OfNoCommand-comes, OfRun-comes, OfRunReadWell-comes}
use Rattle.nesc_monitor.proofs.monitor.run.Goals as goal

pub returns : goal.returns
returns g c =
    let carried = c.carry_out-ending.ensures in
    let told = c.tell-told.ensures in
    rw c.status.ensures
    record {
      outcome = c.carry_out-ending.result;
      every_command = EveryCommand-comes _ _ carried.comes (Writes-whole _ _ _ _ _ _ _ told) told.first carried.taken refl carried.goes carried.keeps carried.never_fall told.cause.never_falls;
      no_command = OfNoCommand-comes _ _ _ carried.comes carried.any_moment;
      run = OfRun-comes _ _ _ carried.comes;
      run_read_well = OfRunReadWell-comes _ _ _ carried.comes;
      make = OfMake-comes _ _ _ carried.comes carried.any_moment;
    }
