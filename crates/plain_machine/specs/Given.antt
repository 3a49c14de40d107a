-- What is given to the machine in a step: what trees and their cache show, which trees are given up and built, whether
-- the disk can be read, and at which clocks commits come.
use Rattle.std.specs.Prelude.{◌≡◌, ℕ, Bool, true, false, Option, Some, None}
use Rattle.nesc_requests.specs.declared.host.HostAnswer.{HostAnswer}
use Rattle.nesc_requests.specs.declared.host.HostAnswer.TheVariants as said
use Rattle.nesc_requests.specs.declared.request.End.{End}
use Rattle.nesc_requests.specs.declared.request.End.TheVariants as end
use Rattle.nesc_requests.specs.declared.request.Kind.{Kind}
use Rattle.nesc_requests.specs.declared.request.Kind.TheVariants.{Pruned, Unmapped}
use Rattle.nesc_requests.specs.declared.request.Reply.{Reply}
use Rattle.plain_machine.specs.declared.outcome.Answer.{Answer}
use Rattle.plain_machine.specs.declared.outcome.Answer.TheVariants.{Host, PrunedAt, Served, Missed}
use Rattle.plain_machine.specs.declared.outcome.Built.{Built}
use Rattle.plain_machine.specs.declared.outcome.How.{How}
use Rattle.plain_machine.specs.declared.outcome.How.TheVariants.{Hit, Walk, Hole, Range}
use Rattle.plain_machine.specs.declared.outcome.Outcome.{Outcome}

-- how the device looks for a block: it finds it in the cache; or a walk comes to the leaf that covers it, having
-- fetched so many nodes; or to where the tree does not stand
pub data Way : Type 0 where
  cached : Way
  walked : (fetched : ℕ) → Way
  pruned : (fetched : ℕ) → Way

-- where nothing is looked for, that counts as a walk that fetched no node
abbrev pub way_by : How → Way
way_by Hit = cached
way_by (Walk fetched) = walked fetched
way_by (Hole fetched) = walked fetched
way_by Range = walked 0

abbrev pub way_missed : Kind → ℕ → Way
way_missed Pruned fetched = pruned fetched
way_missed Unmapped fetched = walked fetched

abbrev pub way_of : Answer → Way
way_of (Served f v how) = way_by how
way_of (Missed f miss fetched) = way_missed miss.kind fetched
way_of answer = walked 0

-- the leaf that was given up, by the blocks that it covered
abbrev pub leaf_of : Answer → Option (ℕ × ℕ)
leaf_of (PrunedAt f leaf) = leaf
leaf_of answer = None

-- the disk could not be read, for the host or for a guest
abbrev pub is_failed_get : Answer → Bool
is_failed_get (Host said.Media) = true
is_failed_get answer = false

abbrev pub is_failed_end : End → Bool
is_failed_end end.Media = true
is_failed_end ending = false

abbrev pub is_failed_read : Option Reply → Bool
is_failed_read None = false
is_failed_read (Some reply) = is_failed_end reply.end

-- the clock of a commit; 0 where there is none
abbrev pub clock_of : Option ℕ → ℕ
clock_of None = 0
clock_of (Some clock) = clock

-- the two were given the same
pub record AreGivenAlike (one other : Outcome) : Type 0 where
  pub ways : way_of one.answer ≡ way_of other.answer
  pub leaves : leaf_of one.answer ≡ leaf_of other.answer
  pub drops : one.drops ≡ other.drops
  pub paths : one.built ≡ other.built
  pub gets : is_failed_get one.answer ≡ is_failed_get other.answer
  pub reads : is_failed_read one.reply ≡ is_failed_read other.reply
  pub clocks_before : clock_of one.before ≡ clock_of other.before
  pub clocks_after : clock_of one.after ≡ clock_of other.after
