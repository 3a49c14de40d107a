-- What an image says makes one set of files and one set of places.
use Rattle.std.proofs.Common.{◌≡◌, ℕ, zero, suc, ◌+◌, List, Option, Some, None, option_map, refl, sym, ap, ◌∙◌, arith, subst}
use Rattle.std.specs.Prelude.{◌↔◌, IsSome, is_some}
use Rattle.std.specs.Option.{option_and_then}
use Rattle.std.specs.Cmp.{nat_cmp_total}
use Rattle.std.specs.FinMap.{FinMap, get, nat_cmp-IsAntisymmetric, same_map}
use Rattle.std.specs.Ordering.{nat_cmp}
use Rattle.std.proofs.lemmas.Bool.{false≢true}
use Rattle.nesc_base.specs.declared.block.Block.{Block}
use Rattle.nesc_base.specs.declared.geometry.Geometry.{Geometry}
use Rattle.nesc_base.specs.Files.{Body, File, Files}
use Rattle.nesc_base.specs.Geometry.{area_from}
use Rattle.nesc_base.specs.Places.{HeldAt, IsOwned, Owner, Places, place_of}
use Rattle.image_layout.specs.declared.table.TableEntry.{TableEntry}
use Rattle.image_layout.specs.Opens.{AreFiles, ArePlaces}

-- maps from numbers that answer alike are one
one_map_of : {X : Type 0} (one other : FinMap nat_cmp X) → ((n : ℕ) → get one n ≡ get other n) → one ≡ other
one_map_of one other same = same_map nat_cmp_total nat_cmp-IsAntisymmetric one other same

-- options are one where each value of the one is a value of the other
same_values : {X : Type 0} (one other : Option X) → ((x : X) → one ≡ Some x → other ≡ Some x) → ((x : X) → other ≡ Some x → one ≡ Some x) → one ≡ other
same_values None None there back = refl
same_values None (Some y) there back = back y refl
same_values (Some x) other there back = sym (there x refl)

-- a file without its blocks
abbrev pub named_of : File → TableEntry
named_of file = record { name = file.name; length = file.length }

-- files that are named alike and hold one body are one
same_file : (one other : Option File) → option_map named_of one ≡ option_map named_of other
    → ((x y : File) → one ≡ Some x → other ≡ Some y → x.body ≡ y.body) → one ≡ other
same_file None None named bodies = refl
same_file None (Some y) named bodies = absurd cc
same_file (Some x) None named bodies = absurd cc
same_file (Some x) (Some y) named bodies =
    let same : named_of x ≡ named_of y = cc in
    let file_of : TableEntry → Body → Option File = λ entry body. Some (record { name = entry.name; length = entry.length; body = body }) in
    ap (λ entry. file_of entry x.body) same ∙ ap (file_of (named_of y)) (bodies x y refl refl)

module _ (geometry : Geometry) (laid : List Block) (entries : List (Option TableEntry)) (owners : List (Option Owner)) where
  -- files of one number hold one body
  same_body : (files others : Files) → AreFiles geometry laid entries owners files → AreFiles geometry laid entries owners others
      → (n : ℕ) (x y : File) → get files n ≡ Some x → get others n ≡ Some y → x.body ≡ y.body
  same_body files others first second n x y at at' = one_map_of x.body y.body (λ v.
      same_values (get x.body v) (get y.body v)
      (λ block is. (second.held n v y block at').1 ((first.held n v x block at).0 is))
      (λ block is. (first.held n v x block at).1 ((second.held n v y block at').0 is)))

  -- and are one
  same_at : (files others : Files) → AreFiles geometry laid entries owners files → AreFiles geometry laid entries owners others
      → (n : ℕ) → get files n ≡ get others n
  same_at files others first second zero = first.none ∙ sym second.none
  same_at files others first second (suc e) =
      let next : e + 1 ≡ suc e = omega arith in
      let named : option_map named_of (get files (e + 1)) ≡ option_map named_of (get others (e + 1)) = first.named e ∙ sym (second.named e) in
      same_file (get files (suc e)) (get others (suc e)) (subst (λ n. option_map named_of (get files n) ≡ option_map named_of (get others n)) next named)
      (same_body files others first second (suc e))

  -- so are all the files
  pub one_files : (files others : Files) → AreFiles geometry laid entries owners files → AreFiles geometry laid entries owners others → files ≡ others
  one_files files others first second = one_map_of files others (same_at files others first second)

-- options that are there alike are one where their values are
same_there : {X : Type 0} (one other : Option X) → is_some one ≡ is_some other → ((x y : X) → one ≡ Some x → other ≡ Some y → x ≡ y) → one ≡ other
same_there None None there same = refl
same_there None (Some y) there same = absurd (false≢true there)
same_there (Some x) None there same = absurd (false≢true (sym there))
same_there (Some x) (Some y) there same = ap (λ z. Some z) (same x y refl refl)

module _ (geometry : Geometry) (owners : List (Option Owner)) (files : Files) where
  -- what stands at a place of one file's is owned, and the other way round
  place_owned : (places : Places) → ArePlaces geometry owners files places → (n : ℕ) (held : HeldAt) → get places n ≡ Some held
      → (v at : ℕ) → (get held v ≡ Some at) ↔ IsOwned (area_from geometry) owners n v at
  place_owned places are n held there v at =
      let same : place_of places n v ≡ get held v = ap (option_and_then (λ (h : HeldAt). get h v)) there in
      let filed : IsSome (get files n) = sym (are.filed n) ∙ ap is_some there in (
        λ is. (are.each n v at filed).0 (same ∙ is),
        λ owned. sym same ∙ (are.each n v at filed).1 owned,
      )

  -- so the places are one
  pub one_places : (places elsewhere : Places) → ArePlaces geometry owners files places → ArePlaces geometry owners files elsewhere → places ≡ elsewhere
  one_places places elsewhere first second = one_map_of places elsewhere (λ n.
      same_there (get places n) (get elsewhere n) (first.filed n ∙ sym (second.filed n)) (λ x y here there.
      one_map_of x y (λ v.
      same_values (get x v) (get y v)
      (λ at is. (place_owned elsewhere second n y there v at).1 ((place_owned places first n x here v at).0 is))
      (λ at is. (place_owned places first n x here v at).1 ((place_owned elsewhere second n y there v at).0 is)))))
