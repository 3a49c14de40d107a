-- A change leaves one result.
use Rattle.std.proofs.Common.{◌≡◌, ℕ, ◌<◌, ◌≤◌, List, [], ◌∷◌, Option, None, IsSome, sym, ap, ◌∙◌, subst, ⊎_elim, arith}
use Rattle.std.specs.FinMap.{insert}
use Rattle.std.proofs.lemmas.Bool.{false≢true, cases_lt}
use Rattle.nesc_base.specs.declared.block.Block.{Block}
use Rattle.nesc_base.specs.Files.{File, Files}
use Rattle.file_model.specs.Files.{IsLowestUnused, Change, Changes, Creates, Deletes, Holds, LeadsTo, Puts, Resizes, below, create, delete, hold, put, resize, with_block, with_zeros}

pub nothing_there : {X : Type 0} (found : Option X) → found ≡ None → IsSome found → ⊥
nothing_there {X} found none some = let no : IsSome {T = X} None = subst IsSome none some in false≢true no

-- one number is the lowest that is unused
pub lowest_one : (old : Files) (m n : ℕ) → IsLowestUnused old m → IsLowestUnused old n → m ≡ n
lowest_one old m n first second =
    ⊎_elim (λ (below : m < n). absurd (nothing_there _ first.unused (second.lower m first.first below)))
    (λ (above : n ≤ m). ⊎_elim (λ (below : n < m). absurd (nothing_there _ second.unused (first.lower n second.first below))) (λ (same : m ≤ n). omega arith) (cases_lt n m))
    (cases_lt m n)

pub creates_one : (old : Files) (n : ℕ) (name : List ℕ) (length : ℕ) (first second : Files) → Creates old n name length first → Creates old n name length second → first ≡ second
creates_one old n name length first second one other = one.result ∙ sym other.result

pub deletes_one : (old : Files) (n : ℕ) (first second : Files) → Deletes old n first → Deletes old n second → first ≡ second
deletes_one old n first second one other = one.result ∙ sym other.result

pub resizes_one : (old : Files) (n length : ℕ) (first second : Files) → Resizes old n length first → Resizes old n length second → first ≡ second
resizes_one old n length first second one other =
    let same : one.file ≡ other.file = cc (sym one.stands ∙ other.stands) in
    one.result ∙ ap (λ (file : File). insert old n (record file { length = length; body = below length file.body })) same ∙ sym other.result

pub holds_one : (old : Files) (n : ℕ) (blocks : List ℕ) (first second : Files) → Holds old n blocks first → Holds old n blocks second → first ≡ second
holds_one old n blocks first second one other =
    let same : one.file ≡ other.file = cc (sym one.stands ∙ other.stands) in
    one.result ∙ ap (λ (file : File). insert old n (record file { body = with_zeros file.body blocks })) same ∙ sym other.result

pub puts_one : (old : Files) (n v : ℕ) (block : Block) (first second : Files) → Puts old n v block first → Puts old n v block second → first ≡ second
puts_one old n v block first second one other =
    let same : one.file ≡ other.file = cc (sym one.stands ∙ other.stands) in
    one.result ∙ ap (λ (file : File). insert old n (with_block file v block)) same ∙ sym other.result

pub change_one : (old : Files) (change : Change) (first second : Files) → Changes old change first → Changes old change second → first ≡ second
change_one old (create n name length) first second one other = creates_one old n name length first second one other
change_one old (delete n) first second one other = deletes_one old n first second one other
change_one old (resize n length) first second one other = resizes_one old n length first second one other
change_one old (hold n blocks) first second one other = holds_one old n blocks first second one other
change_one old (put n v block) first second one other = puts_one old n v block first second one other

-- and so do several, one after another
pub leads_one : (old : Files) (changes : List Change) (first second : Files) → LeadsTo old changes first → LeadsTo old changes second → first ≡ second
leads_one old [] first second one other = one ∙ sym other
leads_one old (change ∷ changes) first second one other =
    let next = change_one old change one.0 other.0 one.1 other.1 in
    leads_one other.0 changes first second (subst (λ (from : Files). LeadsTo from changes first) next one.2) other.2
