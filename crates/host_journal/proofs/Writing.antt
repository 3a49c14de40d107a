-- Blocks written one after another.
use Rattle.std.proofs.Common.{◌≡◌, ℕ, ◌+◌, ◌<◌, ◌≤◌, List, [], ◌∷◌, ◌++◌, Result, Ok, length, take, get_or, refl, sym, ap, ◌∙◌, subst, arith, length-take}
use Rattle.std.specs.Prelude.{Contains, IsErr, OnOk, slice_set, true}
use Rattle.std.proofs.lemmas.List.{get_or-take, take_all, take_more}
use Rattle.std.proofs.lemmas.List.Elements.{Contains-append_left, Contains-push}
use Rattle.std.proofs.lemmas.Result.{IfOk-from_err, on_ok_weaker}
use Rattle.nesc_base.specs.declared.block.Block.{Block}
use Rattle.nesc_base.specs.declared.disk.DiskFault.{DiskFault}
use Rattle.nesc_base.specs.Disk.{Goes, Known, WritesAt, here}
use Rattle.nesc_base.specs.Fault.{HasCause}
use Rattle.nesc_base.proofs.Causes.{cause_on}
use Rattle.nesc_base.proofs.DiskCalls.{goes_on, writes_on, writes_wider}
use Rattle.slot_layout.specs.Slots.{laid_over}
use Rattle.host_journal.specs.Committing.{WritesOut}

-- what one write does
pub record Writes (at : ℕ) (block : Block) (old new : Known) (result : Result (Unit {0}) DiskFault) : Type 0 where
  pub goes : Goes old new
  pub written : old.tells ≡ true → OnOk result (new.contents ≡ slice_set old.contents at block)
  pub writes : WritesAt (here at) old new
  pub cause : HasCause old.faults new.faults (IsErr result)

-- places behind places
laid_over-append : (places others : List ℕ) (blocks more image : List Block) → length places ≡ length blocks
    → laid_over (places ++ others) (blocks ++ more) image ≡ laid_over others more (laid_over places blocks image)
laid_over-append [] others [] more image paired = refl
laid_over-append [] others (block ∷ blocks) more image paired = absurd (omega arith)
laid_over-append (at ∷ places) others [] more image paired = absurd (omega arith)
laid_over-append (at ∷ places) others (block ∷ blocks) more image paired = laid_over-append places others blocks more (slice_set image at block) (omega arith)

Contains-take : {X : Type 0} (n : ℕ) (xs : List X) (x : X) → Contains (take n xs) x → Contains xs x
Contains-take n xs x held =
    let within : held.0 < length (take n xs) = held.1 in
    let size = length-take n xs in
    (held.0, omega arith, sym (get_or-take n xs held.0 x (omega arith)) ∙ held.2)

-- one block more
WritesOut-then : (a b c : Known) (places : List ℕ) (blocks : List Block) (at : ℕ) (block : Block) (result : Result (Unit {0}) DiskFault) → length places ≡ length blocks
    → WritesOut places blocks a b (Ok tt) → Writes at block b c result → WritesOut (places ++ at ∷ []) (blocks ++ block ∷ []) a c result
WritesOut-then a b c places blocks at block result paired first last =
    let all : List ℕ = places ++ at ∷ [] in
    record {
      goes = goes_on a b c first.goes last.goes;
      laid = λ tells. on_ok_weaker result
          (λ put. put ∙ ap (λ (image : List Block). slice_set image at block) (first.laid tells) ∙ sym (laid_over-append places (at ∷ []) blocks (block ∷ []) a.contents paired))
          (last.written (first.goes.still_tells ∙ tells));
      writes = writes_on (Contains all) a b c first.goes
          (writes_wider (Contains places) (Contains all) a b (λ other held. Contains-append_left places (at ∷ []) other held) first.writes) last.goes
          (writes_wider (here at) (Contains all) b c (λ other same. subst (Contains all) (sym same) (Contains-push places at)) last.writes);
      cause = cause_on a.faults b.faults c.faults (IsErr result) first.cause.never_falls last.cause;
    }

module _ (a b c : Known) (places : List ℕ) (blocks : List Block) (i : ℕ) (paired : length places ≡ length blocks) where
  -- of those that are to be written, one block more
  pub WritesOut-more : (at : ℕ) (block : Block) (result : Result (Unit {0}) DiskFault) → i < length places → get_or places i at ≡ at → get_or blocks i block ≡ block
      → WritesOut (take i places) (take i blocks) a b (Ok tt) → Writes at block b c result → WritesOut (take (i + 1) places) (take (i + 1) blocks) a c result
  WritesOut-more at block result within at_is block_is first last =
      let P : List ℕ → List Block → Type 0 = λ ps bs. WritesOut ps bs a c result in
      let next : take (i + 1) places ≡ take i places ++ at ∷ [] = take_more places i at within ∙ ap (λ n. take i places ++ n ∷ []) at_is in
      let block_next : take (i + 1) blocks ≡ take i blocks ++ block ∷ [] =
      take_more blocks i block (omega (arith, within, paired)) ∙ ap (λ (n : Block). take i blocks ++ n ∷ []) block_is in
      let same : length (take i places) ≡ length (take i blocks) = omega (arith, paired, length-take i places, length-take i blocks) in
      subst (λ ps. P ps (take (i + 1) blocks)) (sym next) (
      subst (P (take i places ++ at ∷ [])) (sym block_next) (
      WritesOut-then a b c (take i places) (take i blocks) at block result same first last))

  -- a write failed
  pub WritesOut-failed : (at : ℕ) (block : Block) (result answer : Result (Unit {0}) DiskFault) → i < length places → get_or places i at ≡ at → IsErr result → IsErr answer
      → WritesOut (take i places) (take i blocks) a b (Ok tt) → Writes at block b c result → WritesOut places blocks a c answer
  WritesOut-failed at block result answer within at_is failed told first last =
      let there : Contains places at = (i, within, at_is) in
      record {
        goes = goes_on a b c first.goes last.goes;
        laid = λ tells. IfOk-from_err answer _ told;
        writes = writes_on (Contains places) a b c first.goes
            (writes_wider (Contains (take i places)) (Contains places) a b (λ other held. Contains-take i places other held) first.writes) last.goes
            (writes_wider (here at) (Contains places) b c (λ other same. subst (Contains places) (sym same) there) last.writes);
        cause = cause_on a.faults b.faults c.faults (IsErr answer) first.cause.never_falls (record { never_falls = last.cause.never_falls; rose = λ _. last.cause.rose failed });
      }

-- all are written
pub WritesOut-all : (a b : Known) (places : List ℕ) (blocks : List Block) (i : ℕ) → length places ≡ length blocks → length places ≤ i → WritesOut (take i places) (take i blocks) a b (Ok tt)
    → WritesOut places blocks a b (Ok tt)
WritesOut-all a b places blocks i paired past writes =
    let P : List ℕ → List Block → Type 0 = λ ps bs. WritesOut ps bs a b (Ok tt) in
    subst (λ ps. P ps blocks) (take_all i places past) (subst (P (take i places)) (take_all i blocks (omega (arith, past, paired))) writes)
