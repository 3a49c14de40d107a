-- An image that is refused opens as nothing, and for one cause: the parts of an image stand in an order, and each
-- cause has all before it good and the next bad.
use Rattle.std.proofs.Common.{◌≡◌, ◌⊎◌, ℕ, zero, suc, ◌<◌, ◌≤◌, List, [], inl, inr, sym, ap, ◌∙◌, arith, subst}
use Rattle.std.proofs.lemmas.Bool.{cases_lt}
use Rattle.nesc_base.specs.declared.block.Block.{Block}
use Rattle.nesc_base.specs.declared.geometry.Geometry.{Geometry}
use Rattle.nesc_base.specs.Places.{Owner}
use Rattle.image_layout.specs.declared.fault.ImageFault.{ImageFault}
use Rattle.image_layout.specs.declared.fault.ImageFault.TheVariants.{BadSuper, BadSize, BadList, BadTable, BadOwner, TwiceOwned}
use Rattle.image_layout.specs.Laws.{OpensAsNothing}
use Rattle.image_layout.specs.Refusal.{IsRefused}
use Rattle.slot_layout.specs.Slots.{block_at}
use Rattle.image_layout.specs.Super.{IsSuperblock}
use Rattle.image_layout.proofs.Causes.{list_stage, no_blocks, no_list, no_owners, no_super, no_table, no_twice, one_list_place, one_owners_place, one_table_place, one_twice, owners_stage, table_stage, twice_stage}
use Rattle.image_layout.proofs.OneParts.{Divided, Laid, Mapped, Single, Tabled, single_of}

-- what an image has whose first n parts are good: a superblock if a block, all the blocks, lists, a table, a map, and
-- no owner twice
abbrev Stage : List Block → ℕ → Type 0
Stage image zero = Unit {0}
Stage image (suc zero) = (image ≡ []) ⊎ ((geometry : Geometry) × IsSuperblock (block_at image 0) geometry)
Stage image (suc (suc zero)) = Divided image
Stage image (suc (suc (suc zero))) = Laid image
Stage image (suc (suc (suc (suc zero)))) = Tabled image
Stage image (suc (suc (suc (suc (suc zero))))) = Mapped image
Stage image (suc (suc (suc (suc (suc (suc n)))))) = Single image

-- how many parts are good where this is the fault
abbrev rank : ImageFault → ℕ
rank (BadSuper place) = 0
rank (BadSize place) = 1
rank (BadList place) = 2
rank (BadTable place) = 3
rank (BadOwner place) = 4
rank (TwiceOwned file v) = 5

-- there are six parts
rank_below : (fault : ImageFault) → rank fault < 6
rank_below (BadSuper place) = omega arith
rank_below (BadSize place) = omega arith
rank_below (BadList place) = omega arith
rank_below (BadTable place) = omega arith
rank_below (BadOwner place) = omega arith
rank_below (TwiceOwned file v) = omega arith

module _ (image : List Block) where
  -- where n + 1 parts are good, n are
  one_less : (n : ℕ) → Stage image (suc n) → Stage image n
  one_less zero stage = tt
  one_less (suc zero) stage = inr (stage.geometry, stage.divided.super)
  one_less (suc (suc zero)) stage = stage.from
  one_less (suc (suc (suc zero))) stage = stage.from
  one_less (suc (suc (suc (suc zero)))) stage = stage.from
  one_less (suc (suc (suc (suc (suc zero))))) stage = stage.from
  one_less (suc (suc (suc (suc (suc (suc n)))))) stage = stage

  -- and so fewer are
  fewer : (m n : ℕ) → n ≤ m → Stage image m → Stage image n
  fewer zero n low stage = let none : 0 ≡ n = omega arith in subst (Stage image) none stage
  fewer (suc m) n low stage = elim (cases_lt m n) [
    | inl less ↦ let same : suc m ≡ n = omega arith in subst (Stage image) same stage
    | inr high ↦ fewer m n high (one_less m stage)
  ]

  -- the parts before a fault are good
  before : (fault : ImageFault) → IsRefused image fault → Stage image (rank fault)
  before (BadSuper place) refused = tt
  before (BadSize place) refused = elim refused.few [ inl none ↦ inl none | inr some ↦ inr (some.0, some.1) ]
  before (BadList place) refused = list_stage image place refused
  before (BadTable place) refused = table_stage image place refused
  before (BadOwner place) refused = owners_stage image place refused
  before (TwiceOwned file v) refused = twice_stage image (file, v) refused

  -- and the next is not
  next : (fault : ImageFault) → IsRefused image fault → Stage image (suc (rank fault)) → ⊥
  next (BadSuper place) refused good = no_super image place refused good
  next (BadSize place) refused good = no_blocks image place refused good
  next (BadList place) refused good = no_list image place refused good
  next (BadTable place) refused good = no_table image place refused good
  next (BadOwner place) refused good = no_owners image place refused good
  next (TwiceOwned file v) refused good = no_twice image (file, v) refused good

  -- so an image is not refused with a fault behind another
  not_behind : (fault other : ImageFault) → IsRefused image fault → IsRefused image other → rank fault < rank other → ⊥
  not_behind fault other refused refused' less = next fault refused (fewer (rank other) (suc (rank fault)) (omega arith) (before other refused'))

  -- and two faults of one kind are one
  same_kind : (fault other : ImageFault) → rank fault ≡ rank other → IsRefused image fault → IsRefused image other → other ≡ fault
  same_kind (BadSuper place) (BadSuper place') kind first second = ap BadSuper (second.at ∙ sym first.at)
  same_kind (BadSize place) (BadSize place') kind first second = ap BadSize (second.at ∙ sym first.at)
  same_kind (BadList place) (BadList place') kind first second = ap BadList (one_list_place image place place' first second)
  same_kind (BadTable place) (BadTable place') kind first second = ap BadTable (one_table_place image place place' first second)
  same_kind (BadOwner place) (BadOwner place') kind first second = ap BadOwner (one_owners_place image place place' first second)
  same_kind (TwiceOwned file v) (TwiceOwned file' v') kind first second =
      ap (λ (owner : Owner). TwiceOwned owner.0 owner.1) (one_twice image (file, v) (file', v') first second)
  same_kind fault other kind first second = absurd (omega (arith, kind))

-- so an image that is refused does not open, and is not refused otherwise
pub opens_as_nothing : (image : List Block) → OpensAsNothing image
opens_as_nothing image fault refused = (
  λ geometry files places opens.
      let good = single_of image geometry opens.laid opens.has.entries opens.has.owners (record { divided = opens.divided; lays = opens.lays; parts = opens.has.parts }) in
      next image fault refused (fewer image 6 (suc (rank fault)) (omega (arith, rank_below fault)) good),
  λ other refused'. elim (cases_lt (rank fault) (rank other)) [
    | inl less ↦ absurd (not_behind image fault other refused refused' less)
    | inr high ↦ elim (cases_lt (rank other) (rank fault)) [
      | inl less ↦ absurd (not_behind image other fault refused' refused less)
      | inr low ↦ same_kind image fault other (omega arith) refused refused'
    ]
  ],
)
