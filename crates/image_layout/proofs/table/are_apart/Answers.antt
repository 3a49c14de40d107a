use Rattle.std.proofs.Common.{◌≡◌, ℕ, ◌<◌, Some, length, slice_get, inl, inr, refl, sym, ap, ◌∙◌, arith}
use Rattle.std.proofs.lemmas.Bool.{cases_lt}
use Rattle.std.proofs.lemmas.Option.{same_Some, slice_get_read, slice_get_within}
use Rattle.image_layout.specs.declared.table.TableEntry.{TableEntry}
use Rattle.image_layout.proofs.TableLemmas.{slice_get-take}
use Rattle.image_layout.proofs.table.are_apart.Goals as goal
use Rattle.image_layout.proofs.table.are_apart.Goals.{in_default-via-in-None-1, in_default-via-in-Some+else-has_name}

-- no entry before place e has the name of the one there
new_there : (c : goal.In_default) (entry : TableEntry) → slice_get c.args.entries.now c.loop-e.e ≡ Some (Some entry)
    → (k : ℕ) (before : TableEntry) → k < c.loop-e.e → slice_get c.args.entries.now k ≡ Some (Some before) → before.name ≡ entry.name → ⊥
new_there c entry there k before below is same =
    let item : slice_get c.args.entries.now c.loop-e.e ≡ Some c.index-entries-e.result =
    slice_get_read c.args.entries.now (length c.args.entries.now) c.loop-e.e c.index-entries-e.result refl (omega arith) c.index-entries-e.is in
    let this : c.index-entries-e.result ≡ Some entry = same_Some c.index-entries-e.result (Some entry) (sym item ∙ there) in
    elim c.in_default.branch [
      | in_default-via-in-None-1 w ↦ cc
      | in_default-via-in-Some+else-has_name w ↦
          let entry_is : w.in-Some.entry ≡ entry = same_Some w.in-Some.entry entry (sym w.in-Some.is ∙ this) in
          w.if-has_name.ensures.none k before (slice_get-take c.args.entries.now c.loop-e.e k below ∙ is)
          (same ∙ ap (λ (x : TableEntry). x.name) (sym entry_is) ∙ sym w.bytes.ensures.bytes)
    ]

pub loop-e-preserved : goal.loop-e-preserved
loop-e-preserved c i j one other i_below j_below is is' same =
    elim (cases_lt i c.loop-e.e) [
      | inl i_lower ↦ elim (cases_lt j c.loop-e.e) [
        | inl j_lower ↦ c.loop-e.invariant i j one other i_lower j_lower is is' same
        | inr j_higher ↦
            let here : j ≡ c.loop-e.e = omega arith in
            absurd (new_there c other (ap (slice_get c.args.entries.now) (sym here) ∙ is') i one i_lower is same)
      ]
      | inr i_higher ↦ elim (cases_lt j c.loop-e.e) [
        | inl j_lower ↦
            let here : i ≡ c.loop-e.e = omega arith in
            absurd (new_there c one (ap (slice_get c.args.entries.now) (sym here) ∙ is) j other j_lower is' (sym same))
        | inr j_higher ↦ omega arith
      ]
    ]

pub returns-clause-apart : goal.returns-clause-apart
returns-clause-apart c i j one other is is' same =
    let i_within = slice_get_within c.args.entries.now i (Some one) is in
    let j_within = slice_get_within c.args.entries.now j (Some other) is' in
    c.loop-e.invariant i j one other (omega arith) (omega arith) is is' same
