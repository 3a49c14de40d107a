use Rattle.std.proofs.Common.{◌≡◌, Some, length, slice_get, inl, inr, refl, sym, ap, ◌∙◌, arith}
use Rattle.std.proofs.lemmas.Bool.{cases_lt, false≢true}
use Rattle.std.proofs.lemmas.Option.{same_Some, slice_get_read, slice_get_within}
use Rattle.std.proofs.lemmas.Slice.Eq.{bytes_eq-Decides}
use Rattle.image_layout.specs.declared.table.TableEntry.{TableEntry}
use Rattle.image_layout.proofs.table.has_name.Goals as goal
use Rattle.image_layout.proofs.table.has_name.Goals.{in_default-via-in-None-1, in_default-via-in-Some+else-eq}

pub returns-in-loop-entry-clause-found : goal.returns-in-loop-entry-clause-found
returns-in-loop-entry-clause-found c =
    let item : slice_get c.args.entries.now c.loop-entry.entry-index ≡ Some c.entry-item.result =
    slice_get_read c.args.entries.now (length c.args.entries.now) c.loop-entry.entry-index c.entry-item.result refl (omega arith) c.entry-item.is in
    let same : c.bytes.result.now ≡ c.args.name.now =
    (bytes_eq-Decides c.bytes.result.now c.args.name.now).0 (sym c.if-eq.ensures) in
    (c.loop-entry.entry-index, c.in-Some.entry, item ∙ ap Some c.in-Some.is, sym c.bytes.ensures.bytes ∙ same)

pub loop-entry-preserved : goal.loop-entry-preserved
loop-entry-preserved c k entry below is same =
    elim (cases_lt k c.loop-entry.entry-index) [
      | inl lower ↦ c.loop-entry.invariant k entry lower is same
      | inr higher ↦
          let here : k ≡ c.loop-entry.entry-index = omega arith in
          let item : slice_get c.args.entries.now c.loop-entry.entry-index ≡ Some c.entry-item.result =
          slice_get_read c.args.entries.now (length c.args.entries.now) c.loop-entry.entry-index c.entry-item.result refl (omega arith) c.entry-item.is in
          let this : c.entry-item.result ≡ Some entry = same_Some c.entry-item.result (Some entry) (sym item ∙ ap (slice_get c.args.entries.now) (sym here) ∙ is) in
          elim c.in_default.branch [
            | in_default-via-in-None-1 w ↦ cc
            | in_default-via-in-Some+else-eq w ↦
                let entry_is : w.in-Some.entry ≡ entry = same_Some w.in-Some.entry entry (sym w.in-Some.is ∙ this) in
                let named : w.bytes.result.now ≡ c.args.name.now = w.bytes.ensures.bytes ∙ ap (λ (x : TableEntry). x.name) entry_is ∙ same in
                false≢true (w.if-eq.ensures ∙ (bytes_eq-Decides w.bytes.result.now c.args.name.now).1 named)
          ]
    ]

pub returns-clause-none : goal.returns-clause-none
returns-clause-none c k entry is same =
    c.loop-entry.invariant k entry (let within = slice_get_within c.args.entries.now k (Some entry) is in omega arith) is same
