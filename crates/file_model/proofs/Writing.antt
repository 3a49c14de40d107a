-- One block after another is written.
use Rattle.std.proofs.Common.{◌≡◌, ◌≢◌, ℕ, ◌+◌, List, [], ◌∷◌, ◌++◌, length, IsSome, refl, sym, ap, ◌∙◌, subst, ⊎_elim, arith}
use Rattle.std.specs.FinMap.{get, insert}
use Rattle.std.proofs.lemmas.Bool.{cases_eq}
use Rattle.nesc_base.specs.declared.block.Block.{Block}
use Rattle.nesc_base.specs.Files.{Body, Files}
use Rattle.file_model.specs.Files.{Change, LeadsTo, Puts, puts_from}
use Rattle.nesc_base.proofs.Maps.{get-insert_same, get-insert_other}

-- and then one more
pub puts_more : (old : Files) (n v : ℕ) (blocks : List Block) (mid : Files) (block : Block) (new : Files) → LeadsTo old (puts_from n v blocks) mid → Puts mid n (v + length blocks) block new → LeadsTo old (puts_from n v (blocks ++ block ∷ [])) new
puts_more old n v [] mid block new same puts =
    let here : v + 0 ≡ v = omega arith in
    (new, subst (λ (from : Files). Puts from n v block new) same (subst (λ (at : ℕ). Puts mid n at block new) here puts), refl)
puts_more old n v (b ∷ blocks) mid block new first puts =
    let there : v + length (b ∷ blocks) ≡ v + 1 + length blocks = omega arith in
    (first.0, first.1, puts_more first.0 n (v + 1) blocks mid block new first.2 (subst (λ (at : ℕ). Puts mid n at block new) there puts))

-- what is held where one block was written
pub IsSome-insert : (body : Body) (v : ℕ) (block : Block) (k : ℕ) → IsSome (get body k) → IsSome (get (insert body v block) k)
IsSome-insert body v block k some =
    ⊎_elim (λ (e : k ≡ v). subst IsSome (sym (ap (get (insert body v block)) e ∙ get-insert_same body v block)) refl)
    (λ (apart : k ≢ v). subst IsSome (sym (get-insert_other body v block k apart)) some) (cases_eq k v)

-- Lists of changes, one behind the other

pub leads_then : (old : Files) (changes more : List Change) (mid new : Files) → LeadsTo old changes mid → LeadsTo mid more new → LeadsTo old (changes ++ more) new
leads_then old [] more mid new same leads = subst (λ (from : Files). LeadsTo from more new) same leads
leads_then old (change ∷ changes) more mid new first leads = (first.0, first.1, leads_then first.0 changes more mid new first.2 leads)
