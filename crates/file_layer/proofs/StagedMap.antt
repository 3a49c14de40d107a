-- The map blocks that are marked are staged one after another.
use Rattle.std.proofs.Common.{◌≡◌, ℕ, ◌+◌, ◌<◌, ◌≤◌, Bool, true, false, inl, inr, List, Some, get_or, refl, sym, ap, ◌∙◌, subst, arith}
use Rattle.std.specs.FinMap.{get, insert}
use Rattle.std.proofs.lemmas.Bool.{cases_eq}
use Rattle.nesc_base.specs.declared.block.Block.{Block}
use Rattle.nesc_base.specs.declared.geometry.Geometry.{Geometry}
use Rattle.nesc_base.specs.Geometry.{area_from, map_at, map_blocks}
use Rattle.nesc_base.proofs.Maps.{get-insert_other, get-insert_same}
use Rattle.host_journal.specs.Journal.{IsJournal, Journal, staging}
use Rattle.host_journal.specs.Staged.{MayStage}
use Rattle.host_journal.proofs.Belonging.{stay_sound}
use Rattle.host_journal.proofs.Closing.{read_false, read_true}
use Rattle.host_journal.proofs.Sounding.{weight-before}
use Rattle.file_layer.specs.Changing.{GoesOn}
use Rattle.file_layer.specs.Layer.{Fits, Layer}
use Rattle.file_layer.specs.Staging.{IsMarked, StagesMap, map_block}

-- each of the first b map blocks that is marked is staged, and nothing else
pub record StagesFirst (files : Layer) (marks : List Bool) (b : ℕ) (old new : Journal) : Type 0 where
  pub goes : GoesOn old new
  pub counted : new.count ≡ old.count
  pub marked : (c : ℕ) → c < b → IsMarked marks c → get new.staged (map_at files.geometry + c) ≡ Some (map_block files c)
  pub others : (at : ℕ) → ((c : ℕ) → c < b → IsMarked marks c → ¬ (at ≡ map_at files.geometry + c)) → get new.staged at ≡ get old.staged at

pub stages_none : (files : Layer) (marks : List Bool) (old : Journal) → Fits files old → StagesFirst files marks 0 old old
stages_none files marks old fits = record {
  goes = record { sound = fits.sound; same_geometry = refl; same_start = refl };
  counted = refl;
  marked = λ c below. absurd (omega (arith, below));
  others = λ at apart. refl;
}

-- A map block may be staged, and counts for nothing

pub may_stage_map : (geometry other : Geometry) (at place b : ℕ) → other ≡ geometry → at ≡ map_at geometry → place ≡ at + b → b < map_blocks geometry → MayStage other place
may_stage_map geometry other at place b same begins there below =
    subst (λ (g : Geometry). MayStage g place) (sym same) (omega (arith, begins, there, below), omega (arith, begins, there, below))

pub before_data : (geometry other : Geometry) (at place b : ℕ) → other ≡ geometry → at ≡ map_at geometry → place ≡ at + b → b < map_blocks geometry → place < area_from other
before_data geometry other at place b same begins there below =
    subst (λ (g : Geometry). place < area_from g) (sym same) (omega (arith, begins, there, below))

module _ (files : Layer) (marks : List Bool) (b next at : ℕ) (old now : Journal) (fits : Fits files old) (more : next ≡ b + 1) (begins : at ≡ map_at files.geometry) (below : b < map_blocks files.geometry)
    (so_far : StagesFirst files marks b old now) where
  same_division : now.geometry ≡ files.geometry
  same_division = so_far.goes.same_geometry ∙ fits.same

  -- the next is staged, which is marked
  pub stages_marked : (new : Journal) (block : Block) → get_or marks b false ≡ true → block ≡ map_block files b → new ≡ staging now (at + b) block → StagesFirst files marks next old new
  stages_marked new block is_marked spelled is =
      let place : ℕ = at + b in
      let here : place ≡ map_at files.geometry + b = omega (arith, begins) in
      let may : MayStage now.geometry place = may_stage_map files.geometry now.geometry at place b same_division begins refl below in
      let low : place < area_from now.geometry = before_data files.geometry now.geometry at place b same_division begins refl below in
      let sound : IsJournal (staging now place block) = ((stay_sound {D = ⊥} (λ none. absurd none) now place).stage block may (λ high. absurd (omega (arith, high, low)))).sound so_far.goes.sound in
      subst (λ (j : Journal). StagesFirst files marks next old j) (sym is) (record {
        goes = record { sound = sound; same_geometry = so_far.goes.same_geometry; same_start = so_far.goes.same_start };
        counted = let none = weight-before now.geometry place low in let counted = so_far.counted in omega (arith, none, counted);
        marked = λ c last marked. elim (cases_eq c b) [
          | inl same ↦
              let there : map_at files.geometry + c ≡ place = omega (arith, here, same) in
              ap (get (insert now.staged place block)) there ∙ get-insert_same now.staged place block ∙ ap Some (spelled ∙ ap (map_block files) (sym same))
          | inr apart ↦
              get-insert_other now.staged place block (map_at files.geometry + c) (λ same. omega (arith, same, here, apart))
              ∙ so_far.marked c (omega (arith, last, apart, more)) marked
        ];
        others = λ q apart.
            get-insert_other now.staged place block q (λ same. apart b (omega (arith, more)) (read_true marks b is_marked) (same ∙ here))
            ∙ so_far.others q (λ c early. apart c (omega (arith, early, more)));
      })

  -- or is not, and is not staged
  pub stages_skipped : (new : Journal) → get_or marks b false ≡ false → new ≡ now → StagesFirst files marks next old new
  stages_skipped new unmarked is = subst (λ (j : Journal). StagesFirst files marks next old j) (sym is) (record {
    goes = so_far.goes;
    counted = so_far.counted;
    marked = λ c last marked. elim (cases_eq c b) [
      | inl same ↦ absurd (read_false marks b unmarked (subst (IsMarked marks) same marked))
      | inr apart ↦ so_far.marked c (omega (arith, last, apart, more)) marked
    ];
    others = λ q apart. so_far.others q (λ c early. apart c (omega (arith, early, more)));
  })

-- once all are done
pub stages_all : (files : Layer) (marks : List Bool) (b : ℕ) (old new : Journal) → map_blocks files.geometry ≤ b → b ≤ map_blocks files.geometry → StagesFirst files marks b old new → StagesMap files marks old new
stages_all files marks b old new all most so_far = record {
  counted = so_far.counted;
  marked = λ c below. so_far.marked c (omega (arith, below, all));
  others = λ at apart. so_far.others at (λ c early. apart c (omega (arith, early, most)));
}
