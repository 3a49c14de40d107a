-- What a whole call says of a disk, from what each of its calls of the disk says.
use Rattle.std.proofs.Common.{◌≡◌, ⊎_elim, inl, inr, ℕ, ◌<◌, ◌≤◌, List, length, slice_get, refl, ap, ◌∙◌, subst, arith}
use Rattle.std.specs.Prelude.{true}
use Rattle.std.proofs.lemmas.Bool.{cases_lt}
use Rattle.nesc_base.specs.declared.block.Block.{Block}
use Rattle.nesc_base.specs.Count.{count_end}
use Rattle.nesc_base.specs.Disk.{CouldLeave, DiffersAt, Goes, IsSettled, Known, LeavesSince, OrUnsynced, Unchanged, WritesAt, nowhere}
use Rattle.nesc_base.proofs.Differing.{differs_nowhere, differs_on, differs_wider}

pub goes_itself : (disk : Known) → Goes disk disk
goes_itself disk = record {
  same_size = refl;
  still_tells = refl;
  later = omega arith;
  over = λ tells k image by_now before. ((λ left. left), (λ left. left));
}

pub goes_on : (a b c : Known) → Goes a b → Goes b c → Goes a c
goes_on a b c first second = record {
  same_size = second.same_size ∙ first.same_size;
  still_tells = second.still_tells ∙ first.still_tells;
  later = omega (arith, first.later, second.later);
  over = λ tells k image by_now before.
      let early = first.over tells k image by_now before in
      let late = second.over (first.still_tells ∙ tells) k image (omega (arith, by_now, first.later)) before in
      ((λ left. early.0 (late.0 left)), (λ left. late.1 (early.1 left)));
}

pub unchanged_itself : (disk : Known) → Unchanged disk disk
unchanged_itself disk = record {
  clock = refl;
  contents = λ tells. refl;
  left = λ tells k image. ((λ left. left), (λ left. left));
  unsynced = λ tells at. ((λ is. is), (λ is. is));
}

pub unchanged_on : (a b c : Known) → Goes a b → Unchanged a b → Unchanged b c → Unchanged a c
unchanged_on a b c goes first second = record {
  clock = second.clock ∙ first.clock;
  contents = λ tells. second.contents (goes.still_tells ∙ tells) ∙ first.contents tells;
  left = λ tells k image.
      let early = first.left tells k image in
      let late = second.left (goes.still_tells ∙ tells) k image in
      ((λ left. early.0 (late.0 left)), (λ left. late.1 (early.1 left)));
  unsynced = λ tells at.
      let early = first.unsynced tells at in
      let late = second.unsynced (goes.still_tells ∙ tells) at in
      ((λ is. early.0 (late.0 is)), (λ is. late.1 (early.1 is)));
}

-- Where a disk was written

-- a call that changes nothing writes nowhere
pub writes_none : (places : ℕ → Type 0) (a b : Known) → (a.tells ≡ true → (k : ℕ) (image : List Block) → k < count_end → a.left k image → k ≤ a.clock) → Unchanged a b → WritesAt places a b
writes_none places a b by_now unchanged = record {
  contents = λ tells. record { whole = ap length (unchanged.contents tells); others = λ at other. ap (λ (blocks : List Block). slice_get blocks at) (unchanged.contents tells) };
  unsynced = λ tells at is. inr ((unchanged.unsynced tells at).0 is);
  left = λ tells k image past before left.
      let early : k ≤ a.clock = by_now tells k image before ((unchanged.left tells k image).0 left) in
      absurd (omega (arith, early, past));
}

or_wider : (P Q : ℕ → Type 0) (disk : Known) → ((at : ℕ) → P at → Q at) → (at : ℕ) → OrUnsynced P disk at → OrUnsynced Q disk at
or_wider P Q disk wider at (inl place) = inl (wider at place)
or_wider P Q disk wider at (inr unsynced) = inr unsynced

-- it wrote nowhere else
pub writes_wider : (P Q : ℕ → Type 0) (a b : Known) → ((at : ℕ) → P at → Q at) → WritesAt P a b → WritesAt Q a b
writes_wider P Q a b wider writes = record {
  contents = λ tells. differs_wider P Q a.contents b.contents wider (writes.contents tells);
  unsynced = λ tells at is. or_wider P Q a wider at (writes.unsynced tells at is);
  left = λ tells k image past before left. differs_wider (OrUnsynced P a) (OrUnsynced Q a) a.contents image (or_wider P Q a wider) (writes.left tells k image past before left);
}

-- what was unsynced in between was so before, or was written since
or_before : (P : ℕ → Type 0) (a b : Known) → a.tells ≡ true → WritesAt P a b → (at : ℕ) → OrUnsynced P b at → OrUnsynced P a at
or_before P a b tells writes at (inl place) = inl place
or_before P a b tells writes at (inr unsynced) = writes.unsynced tells at unsynced

-- one call behind the other
pub writes_on : (P : ℕ → Type 0) (a b c : Known) → Goes a b → WritesAt P a b → Goes b c → WritesAt P b c → WritesAt P a c
writes_on P a b c first early second late = record {
  contents = λ tells. differs_on P a.contents b.contents c.contents (early.contents tells) (late.contents (first.still_tells ∙ tells));
  unsynced = λ tells at is. or_before P a b tells early at (late.unsynced (first.still_tells ∙ tells) at is);
  left = λ tells k image past before left.
      ⊎_elim (λ (after : b.clock < k).
      differs_on (OrUnsynced P a) a.contents b.contents image
      (differs_wider P (OrUnsynced P a) a.contents b.contents (λ at place. inl place) (early.contents tells))
      (differs_wider (OrUnsynced P b) (OrUnsynced P a) b.contents image (or_before P a b tells early) (late.left (first.still_tells ∙ tells) k image after before left)))
      (λ (by_then : k ≤ b.clock). early.left tells k image past before ((second.over (first.still_tells ∙ tells) k image by_then before).0 left)) (cases_lt b.clock k);
}

-- What stops leave

-- a stop at a settled moment leaves what the disk reads as
pub settled_left : (a : Known) (image : List Block) → CouldLeave a image → IsSettled a → image ≡ a.contents
settled_left a image differs settled = differs_nowhere a.contents image (differs_wider a.unsynced nowhere a.contents image settled differs)

-- every image since differs only where the disk was written or unsynced
pub since_written : (P : ℕ → Type 0) (a b : Known) → ((image : List Block) → a.tells ≡ true → a.clock < count_end → a.left a.clock image → CouldLeave a image)
    → Goes a b → WritesAt P a b → LeavesSince (λ _. DiffersAt (OrUnsynced P a) a.contents) a b
since_written P a b left_now goes writes tells k image since before left =
    ⊎_elim (λ (past : a.clock < k). writes.left tells k image past before left)
    (λ (by_then : k ≤ a.clock).
    let same : k ≡ a.clock = omega (arith, by_then, since) in
    let was : a.left k image = (goes.over tells k image by_then before).0 left in
    let here : a.left a.clock image = subst (λ j. a.left j image) same was in
    differs_wider a.unsynced (OrUnsynced P a) a.contents image (λ at unsynced. inr unsynced) (left_now image tells (omega (arith, before, same)) here)) (cases_lt a.clock k)

-- where nothing was written a stop can leave no more than before, and what was settled is so still
only_unsynced : (a : Known) (at : ℕ) → OrUnsynced nowhere a at → a.unsynced at
only_unsynced a at (inl none) = absurd none
only_unsynced a at (inr unsynced) = unsynced

pub could_leave_before : (a b : Known) (image : List Block) → a.tells ≡ true → WritesAt nowhere a b → CouldLeave b image → CouldLeave a image
could_leave_before a b image tells writes could =
    let same : b.contents ≡ a.contents = differs_nowhere a.contents b.contents (writes.contents tells) in
    subst (λ (blocks : List Block). DiffersAt a.unsynced blocks image) same
    (differs_wider b.unsynced a.unsynced b.contents image (λ at is. only_unsynced a at (writes.unsynced tells at is)) could)

pub settled_on : (a b : Known) → a.tells ≡ true → WritesAt nowhere a b → IsSettled a → IsSettled b
settled_on a b tells writes settled at is = settled at (only_unsynced a at (writes.unsynced tells at is))

pub since_wider : (P Q : ℕ → List Block → Type 0) (a b : Known) → (a.tells ≡ true → (k : ℕ) (image : List Block) → P k image → Q k image) → LeavesSince P a b → LeavesSince Q a b
since_wider P Q a b wider leaves tells k image since before left = wider tells k image (leaves tells k image since before left)

-- where nothing changed a stop leaves what it left at first
pub since_unchanged : (a b : Known) → (a.tells ≡ true → (k : ℕ) (image : List Block) → k < count_end → a.left k image → k ≤ a.clock) → Unchanged a b → LeavesSince (λ _. a.left a.clock) a b
since_unchanged a b by_now unchanged tells k image since before left =
    let was : a.left k image = (unchanged.left tells k image).0 left in
    let early : k ≤ a.clock = by_now tells k image before was in
    let same : k ≡ a.clock = omega (arith, since, early) in
    subst (λ j. a.left j image) same was

-- one call behind the other
pub since_on : (P : ℕ → List Block → Type 0) (a b c : Known) → Goes a b → LeavesSince P a b → Goes b c → LeavesSince P b c → LeavesSince P a c
since_on P a b c first early second late tells k image since before left =
    ⊎_elim (λ (after : b.clock < k). late (first.still_tells ∙ tells) k image (omega (arith, after)) before left)
    (λ (by_then : k ≤ b.clock). early tells k image since before ((second.over (first.still_tells ∙ tells) k image by_then before).0 left)) (cases_lt b.clock k)
