-- A function is handled over some files, and what a handling stages.
use Rattle.std.proofs.Common.{◌≡◌, ℕ, ◌≤◌, Bool, true, List, [], length, take, min, None, Some, refl, sym, ap, subst, ◌∙◌, arith}
use Rattle.std.specs.Prelude.{filter, nat_lt, not}
use Rattle.std.specs.List.{range_with_len}
use Rattle.std.proofs.lemmas.List.{length-take-le}
use Rattle.std.proofs.lemmas.List.FromFn.{length-range_with_len}
use Rattle.std.proofs.lemmas.List.Sums.{count_by-le-length, length-filter}
use Rattle.std.proofs.lemmas.Option.{none-some, same_Some}
use Rattle.nesc_base.specs.declared.numbers.FileNo.{FileNo}
use Rattle.nesc_base.specs.declared.numbers.FnNo.{FnNo}
use Rattle.nesc_base.specs.Files.{File, Files, file_at}
use Rattle.nesc_requests.specs.declared.request.Kind.TheVariants.{Pruned, Unmapped}
use Rattle.nesc_requests.specs.declared.request.Miss.{Miss}
use Rattle.file_model.specs.Files.{Change, holding, holds, staged, unheld, unheld_below}
use Rattle.plain_machine.specs.Functions.{Attached, Function}
use Rattle.plain_machine.specs.Handlings.{FindsSpace, Handles, HandlesSo, HasSpaceFor, is_wanted, wanted}
use Rattle.plain_machine.specs.declared.outcome.Answer.TheVariants.{Handled}
use Rattle.plain_machine.specs.declared.outcome.Handled.{Handled as Did}
use Rattle.plain_machine.specs.declared.outcome.Handled.TheVariants as did
use Rattle.plain_machine.specs.declared.outcome.Outcome.{Outcome}
use Rattle.nesc_session.specs.Requests.{Requests, function_of}
use Rattle.nesc_session.specs.Serving.{EndsWithNoSpace}
use Rattle.nesc_session.proofs.Carried.{staged_holding}
use Rattle.nesc_session.proofs.Served.{plain}

length-filter_le : (p : ℕ → Bool) (xs : List ℕ) → length (filter p xs) ≤ length xs
length-filter_le p xs = omega (arith, length-filter p xs, count_by-le-length p xs)

-- no more blocks can be held than are asked for
pub few_wanted : (file : File) (v n free most found : ℕ) → found ≡ min (length (unheld_below file v n)) free → n ≤ most → found ≤ most
few_wanted file v n free most found is few =
    let below = length-filter_le (λ at. nat_lt at file.length) (unheld file v n) in
    let held = length-filter_le (λ at. not (holds file at)) (range_with_len v n) in
    omega (arith, is, few, below, held, length-range_with_len v n)

module _ (set : Files) (f : FnNo) (file : FileNo) (old : Requests) where
  abbrev own : File
  own = file_at set file.0

  -- it waited for nothing
  pub handles_none : old.waiting ≡ None → Handles set f (function_of (Some file) old) (plain (Handled f did.None) None) [] (function_of (Some file) old)
  handles_none idle = record { did = did.None; handles = (idle, refl, refl, refl); told = refl; no_commit = refl }

  -- no data block is free
  pub finds_no_space : (free : ℕ) → free ≡ 0 → (outcome : Outcome) → outcome.answer ≡ Handled f did.NoSpace → FindsSpace free set (function_of (Some file) old) outcome.answer
  finds_no_space free none outcome told = subst (FindsSpace free set (function_of (Some file) old)) (sym told) (λ miss waits. none)

  module _ (miss : Miss) (waits : old.waiting ≡ Some miss) where
    -- what is said of what it waits for is said of this
    of_miss : (P : Miss → Type 0) → P miss → (other : Miss) → old.waiting ≡ Some other → P other
    of_miss P here other waits_so = subst P (same_Some miss other (sym waits ∙ waits_so)) here

    module _ (new : Requests) (new_is : new ≡ record old { waiting = None }) where
      -- for a part of its tree
      pub handles_built : miss.kind ≡ Pruned → Handles set f (function_of (Some file) old) (plain (Handled f did.Built) None) [] (function_of (Some file) new)
      handles_built pruned = record {
        did = did.Built;
        handles = record {
          attached = record { file = file.0; queue = old.queue.requests; done = old.queue.done; waiting = old.waiting };
          on = refl;
          miss = miss;
          waits = waits;
          pruned = pruned;
          unchanged = refl;
          silent = refl;
          result = ap (function_of (Some file)) new_is;
        };
        told = refl;
        no_commit = refl;
      }

      -- for blocks, of which so many are held
      pub handles_held : miss.kind ≡ Unmapped → (count : ℕ)
          → Handles set f (function_of (Some file) old) (plain (Handled f (did.Held count)) None) (holding file.0 (take count (wanted own miss))) (function_of (Some file) new)
      handles_held unmapped count = record {
        did = did.Held count;
        handles = record {
          attached = record { file = file.0; queue = old.queue.requests; done = old.queue.done; waiting = old.waiting };
          on = refl;
          miss = miss;
          waits = waits;
          unmapped = unmapped;
          holds = refl;
          silent = refl;
          result = ap (function_of (Some file)) new_is;
        };
        told = refl;
        no_commit = refl;
      }

    -- for a block that it does not get
    pub handles_no_space : miss.kind ≡ Unmapped → is_wanted own miss ≡ true → (outcome : Outcome) (new : Requests) → EndsWithNoSpace f old outcome new
        → Handles set f (function_of (Some file) old) outcome [] (function_of (Some file) new)
    handles_no_space unmapped wants outcome new ends = record {
      did = did.NoSpace;
      handles = record {
        turn = record { f = f; attached = record { file = file.0; queue = old.queue.requests; done = old.queue.done; waiting = old.waiting }; head = ends.head; rest = ends.rest };
        is = record { takes = refl; on = refl; queue = ends.queue };
        miss = miss;
        waits = waits;
        unmapped = unmapped;
        wants = wants;
        unchanged = refl;
        replies = ap (λ (o : Outcome). o.reply) ends.told;
        result = ap (function_of (Some file)) ends.ready;
      };
      told = ap (λ (o : Outcome). o.answer) ends.told;
      no_commit = ap (λ (o : Outcome). o.after) ends.told;
    }

    -- What is free

    module _ (free : ℕ) where
      pub finds_held : (count : ℕ) → count ≡ min (length (wanted own miss)) free → (is_wanted own miss ≡ true → 1 ≤ free) → FindsSpace free set (function_of (Some file) old) (Handled f (did.Held count))
      finds_held count counted some = of_miss (λ m. HasSpaceFor free own m (did.Held count)) (counted, some)

      -- whatever a handling does, it stages as many blocks as can be held
      pub stages_found : miss.kind ≡ Unmapped → (outcome : Outcome) (changes : List Change) (new : Function) → Handles set f (function_of (Some file) old) outcome changes new
          → FindsSpace free set (function_of (Some file) old) outcome.answer → min (length (wanted own miss)) free ≡ staged changes
      stages_found unmapped outcome changes new handled finds =
          by handled.did handled.handles (subst (FindsSpace free set (function_of (Some file) old)) handled.told finds)
        where
          by : (what : Did) → HandlesSo own f (function_of (Some file) old) what outcome.reply changes new → FindsSpace free set (function_of (Some file) old) (Handled f what)
              → min (length (wanted own miss)) free ≡ staged changes
          by did.None so found = absurd (none-some miss (sym so.0 ∙ waits))
          by did.Built so found = absurd (cc)
          by (did.Held count) so found =
              let same : miss ≡ so.miss = same_Some miss so.miss (sym waits ∙ ap (λ (a : Attached). a.waiting) (same_Some _ so.attached so.on) ∙ so.waits) in
              let counted = (found miss waits).0 in
              let alike = ap (λ m. length (wanted own m)) same in
              let held : staged changes ≡ count = ap staged so.holds ∙ staged_holding so.attached.file (take count (wanted own so.miss)) ∙ length-take-le count (wanted own so.miss) (omega (arith, counted, alike)) in
              omega (arith, counted, held)
          by did.NoSpace so found =
              let none = found miss waits in
              let nothing = ap staged so.unchanged in
              omega (arith, none, nothing)
