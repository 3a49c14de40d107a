-- The runs of a file by the owners of data blocks are those of its places.
use Rattle.std.proofs.Common.{◌≡◌, ℕ, List, Option, None, Some, refl, sym, ◌∙◌}
use Rattle.std.specs.FinMap.{empty, get, get-empty}
use Rattle.std.specs.Option.{option_and_then, unwrap_or}
use Rattle.std.specs.Ordering.{nat_cmp}
use Rattle.nesc_base.specs.declared.runs.Run.{Run}
use Rattle.nesc_base.specs.Places.{HeldAt, Places}
use Rattle.nesc_base.specs.Runs.{AreRunsOf}
use Rattle.block_map.specs.Map.{AreRunsIn}
use Rattle.file_model.specs.Places.{held_at}
use Rattle.file_layer.specs.Knowing.{FileSet, Knows}
use Rattle.file_layer.specs.Layer.{IsLayer, Layer}
use Rattle.file_layer.proofs.Known.{owns_where_stands}

held_there : (found : Option HeldAt) (v : ℕ) → get (unwrap_or found empty) v ≡ option_and_then (λ (held : HeldAt). get held v) found
held_there None v = get-empty nat_cmp v
held_there (Some held) v = refl

pub runs_alike : (files : Layer) (set : FileSet) (places : Places) → IsLayer files → Knows files set places
    → (n : ℕ) (runs : List Run) → AreRunsIn files.map n runs → AreRunsOf (held_at places n) runs
runs_alike files set places layer knows n runs are = record {
  are = are.are;
  each = λ v at. (
    λ is. (are.each v at).0 ((owns_where_stands files set places layer knows n v at).0 (sym (held_there (get places n) v) ∙ is)),
    λ among. held_there (get places n) v ∙ (owns_where_stands files set places layer knows n v at).1 ((are.each v at).1 among),
  );
}
