use Rattle.std.proofs.Common.{◌≡◌, ℕ, ◌∷◌, [], ◌++◌, Option, Some, None, MatchOption, length-set, get_or, slice_get, take, sym, ap, ◌∙◌, arith, rules}
use Rattle.std.proofs.lemmas.List.{take_more, take_more_set}
use Rattle.std.proofs.lemmas.Option.{get_or_from_slice_get, slice_get-map, slice_get_within}
use Rattle.std.specs.Option.{IsSomeAnd, option_map}
use Rattle.image_layout.specs.Opens.{lengths_of}
use Rattle.image_layout.specs.declared.table.TableEntry.{TableEntry}
use Rattle.image_layout.proofs.plain.lengths_of.Goals as goal

-- the length that a call of the closure gives
mapped : (P : TableEntry → ℕ → Type 0) (one : Option TableEntry) (other : Option ℕ) → MatchOption one (other ≡ None) (λ x. IsSomeAnd other (P x))
    → ((x : TableEntry) (n : ℕ) → P x n → n ≡ x.length) → option_map (λ entry. entry.length) one ≡ other
mapped P None other is each = sym is
mapped P (Some x) None is each = absurd is
mapped P (Some x) (Some n) is each = ap Some (sym (each x n is))

pub loop-e-preserved : goal.loop-e-preserved
loop-e-preserved c =
    let lengths = lengths_of c.args.table.now in
    let here : slice_get lengths c.loop-e.e ≡ Some c.map.result =
    slice_get-map (option_map (λ (entry : TableEntry). entry.length)) c.args.table.now c.loop-e.e ∙ ap (option_map (option_map (λ (entry : TableEntry). entry.length))) c.get.ensures.entry
    ∙ ap Some (mapped _ c.get.result c.map.result c.map.ensures.cases (λ x n is. search rules)) in
    let last : get_or lengths c.loop-e.e c.map.result ≡ c.map.result = get_or_from_slice_get lengths c.loop-e.e c.map.result c.map.result here in
    let within = slice_get_within lengths c.loop-e.e c.map.result here in
    let count = c.loop-e.invariant.count in
    record {
      count = length-set c.loop-e.lengths c.loop-e.e c.map.result ∙ count;
      same = take_more_set c.loop-e.lengths c.loop-e.e c.map.result (omega arith) ∙ ap (λ ns. ns ++ c.map.result ∷ []) c.loop-e.invariant.same
          ∙ ap (λ n. take c.loop-e.e lengths ++ n ∷ []) (sym last) ∙ sym (take_more lengths c.loop-e.e c.map.result within);
    }
