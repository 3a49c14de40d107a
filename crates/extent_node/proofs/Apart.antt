-- No block stands in two entries of a node.
use Rattle.std.proofs.Common.{◌≡◌, ◌+◌, ◌-◌, ◌<◌, ◌≤◌, ℕ, zero, suc, List, Some, ap, arith, inl, inr, length, slice_get, sym, ◌∙◌}
use Rattle.std.proofs.lemmas.Bool.{cases_order}
use Rattle.std.proofs.lemmas.Option.{slice_get-get_or, slice_get_within}
use Rattle.std.proofs.Common.{get_or}
use Rattle.extent_node.specs.Rules.{AreEntries, HasHolding, Holds, IsRange}
use Rattle.extent_node.specs.declared.entries.Entry.{Entry}
use Rattle.extent_node.specs.declared.node.Kind.{Kind}
use Rattle.extent_node.specs.declared.node.Kind.TheVariants.{Inner, Leaf}

ranges_of : (kind : Kind) (entries : List Entry) → AreEntries kind entries
    → (k : ℕ) (entry : Entry) → slice_get entries k ≡ Some entry → IsRange entry.first entry.count
ranges_of Leaf entries are = are.each
ranges_of Inner entries are = are.each

rise_of : (kind : Kind) (entries : List Entry) → AreEntries kind entries
    → (k : ℕ) (entry next : Entry) → slice_get entries k ≡ Some entry → slice_get entries (k + 1) ≡ Some next
    → entry.first + entry.count ≤ next.first
rise_of Leaf entries are k entry next stands follows = are.rising k entry next stands follows
rise_of Inner entries are k entry next stands follows =
    let same : entry.first + entry.count ≡ next.first = are.joined k entry next stands follows in omega arith

-- entries end where a later one begins, or before
later_begin : (kind : Kind) (entries : List Entry) → AreEntries kind entries → (k n : ℕ) (entry later : Entry)
    → slice_get entries k ≡ Some entry → slice_get entries (k + 1 + n) ≡ Some later → entry.first + entry.count ≤ later.first
later_begin kind entries are k zero entry later stands follows =
    let same : k + 1 + 0 ≡ k + 1 = omega arith in
    rise_of kind entries are k entry later stands (sym (ap (λ (i : ℕ). slice_get entries i) same) ∙ follows)
later_begin kind entries are k (suc n) entry later stands follows =
    let none : Entry = record { first = 0; count = 0; place = 0 } in
    let within : k + 1 + suc n < length entries = slice_get_within entries (k + 1 + suc n) later follows in
    let between : Entry = get_or entries (k + 1 + n) none in
    let there : slice_get entries (k + 1 + n) ≡ Some between = slice_get-get_or entries (k + 1 + n) none (omega arith) in
    let before : entry.first + entry.count ≤ between.first = later_begin kind entries are k n entry between stands there in
    let range : IsRange between.first between.count = ranges_of kind entries are (k + 1 + n) between there in
    let same : k + 1 + suc n ≡ k + 1 + n + 1 = omega arith in
    let after : between.first + between.count ≤ later.first =
    rise_of kind entries are (k + 1 + n) between later there (sym (ap (λ (i : ℕ). slice_get entries i) same) ∙ follows) in
    omega arith

never_both : (kind : Kind) (entries : List Entry) (v k j : ℕ) (entry later : Entry) → AreEntries kind entries → k < j
    → slice_get entries k ≡ Some entry → slice_get entries j ≡ Some later → Holds entry v → Holds later v → ⊥
never_both kind entries v k j entry later are less stands follows holds held =
    let same : k + 1 + (j - k - 1) ≡ j = omega arith in
    let apart : entry.first + entry.count ≤ later.first =
    later_begin kind entries are k (j - k - 1) entry later stands (ap (λ (i : ℕ). slice_get entries i) same ∙ follows) in
    let end : v < entry.first + entry.count = holds.below in
    let from : later.first ≤ v = held.from in
    omega arith

pub one_holds : (kind : Kind) (entries : List Entry) (v : ℕ) (entry other : Entry) → AreEntries kind entries
    → HasHolding entries v entry → HasHolding entries v other → entry ≡ other
one_holds kind entries v entry other are (k, stands, holds) (j, follows, held) =
    elim (cases_order k j) [
      | inl same ↦
          let there : Some entry ≡ Some other = sym stands ∙ (ap (λ (i : ℕ). slice_get entries i) same ∙ follows) in
          cc
      | inr apart ↦ elim apart [
        | inl less ↦ absurd (never_both kind entries v k j entry other are less stands follows holds held)
        | inr more ↦ absurd (never_both kind entries v j k other entry are more follows stands held holds)
      ]
    ]
