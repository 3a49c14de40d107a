use Rattle.image_tools.proofs.Clearing.{Clears-same, Clears-then, cleared-parts}
use Rattle.image_tools.proofs.making.clear.Goals as goal

pub returns-clause-clears : goal.returns-clause-clears
returns-clause-clears g c =
    Clears-same _ _ _ _ _ (cleared-parts c.args.geometry c.table_at.result c.map_at.result c.area_from.result c.total.result c.table_at.ensures c.map_at.ensures c.area_from.ensures c.total.ensures)
    (Clears-then _ _ _ _ _ _ c.in_ok-clear_gates.ensures.clears
    (Clears-then _ _ _ _ _ _ c.in_ok-write_zeros.ensures.clears
    (Clears-then _ _ _ _ _ _ c.in_ok-clear_run.ensures.clears c.write_zeros-2.ensures.clears)))
