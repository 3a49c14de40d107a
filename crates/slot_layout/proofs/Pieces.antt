-- Entries of one size, spelled one behind the other: what stands at the place of each.
use Rattle.std.proofs.Common.{◌≡◌, ℕ, zero, suc, ◌+◌, ◌-◌, ◌*◌, ◌<◌, ◌≤◌, List, [], ◌∷◌, ◌++◌, Some, length, take, drop, slice_get, subst, inl, inr, refl, sym, ap, ◌∙◌, arith, length-append, length-drop, length-take}
use Rattle.std.proofs.lemmas.List.{drop-drop, nil_from_length, take-append-drop, take_at}
use Rattle.std.proofs.lemmas.Bool.{cases_lt}
use Rattle.std.proofs.lemmas.Option.{none-some, same_Some, slice_get_within}
use Rattle.std.proofs.lemmas.Slice.{between_is, between-put_mid, take-put_mid_below}
use Rattle.std.proofs.Math.ListN.{set}
use Rattle.std.proofs.Math.Nat.{mul-le-mul_left, mul-zero}
use Rattle.std.proofs.Math.Seq.{drop-append-add}
use Rattle.std.specs.List.{between}
use borrow.Rule.Slice.PartMut.{put_mid}
use Rattle.slot_layout.specs.Bytes.{spelled}

-- the n bytes of entry k
abbrev pub piece : ℕ → ℕ → List ℕ → List ℕ
piece n k bytes = between (n * k) (n * (k + 1)) bytes

-- every item is spelled in n bytes
abbrev pub IsEach : {X : Type 0} → (X → List ℕ) → ℕ → List X → Type 0
IsEach {X = X} f n items = (k : ℕ) (x : X) → slice_get items k ≡ Some x → length (f x) ≡ n

-- a piece as its bytes from its place on
piece-take : (n k : ℕ) (bytes : List ℕ) → piece n k bytes ≡ take n (drop (n * k) bytes)
piece-take n k bytes = ap (λ m. take m (drop (n * k) bytes)) (omega arith)

-- the bytes of an item stand at its place
spelled-take : {X : Type 0} (f : X → List ℕ) (n : ℕ) (items : List X) → IsEach f n items
    → (k : ℕ) (x : X) → slice_get items k ≡ Some x → take n (drop (n * k) (spelled f items)) ≡ f x
spelled-take f n [] each k x is = absurd (none-some x is)
spelled-take f n (y ∷ ys) each zero x is =
    ap (λ m. take n (drop m (f y ++ spelled f ys))) (mul-zero n) ∙ take_at (f y) (spelled f ys) n (each zero y refl) ∙ ap f (same_Some y x is)
spelled-take f n (y ∷ ys) each (suc k) x is =
    let place : n * suc k ≡ length (f y) + n * k = omega (arith, each zero y refl) in
    ap (λ m. take n (drop m (f y ++ spelled f ys))) place
    ∙ ap (take n) (drop-append-add (f y) (spelled f ys) (n * k))
    ∙ spelled-take f n ys (λ j z at. each (suc j) z at) k x is

pub spelled-piece : {X : Type 0} (f : X → List ℕ) (n : ℕ) (items : List X) → IsEach f n items
    → (k : ℕ) (x : X) → slice_get items k ≡ Some x → piece n k (spelled f items) ≡ f x
spelled-piece f n items each k x is = piece-take n k (spelled f items) ∙ spelled-take f n items each k x is

-- bytes that have at each place what the item there is spelled as are the spelling of all
spelled_from_takes : {X : Type 0} (f : X → List ℕ) (n : ℕ) (items : List X) (bytes : List ℕ) → length bytes ≡ n * length items
    → ((k : ℕ) (x : X) → slice_get items k ≡ Some x → take n (drop (n * k) bytes) ≡ f x) → bytes ≡ spelled f items
spelled_from_takes f n [] bytes size here = nil_from_length bytes (omega arith)
spelled_from_takes f n (y ∷ ys) bytes size here =
    let first : take n bytes ≡ f y = ap (λ m. take n (drop m bytes)) (sym (mul-zero n)) ∙ here zero y refl in
    let left : length (drop n bytes) ≡ n * length ys = omega (arith, length-drop n bytes, size) in
    let rest : (k : ℕ) (x : _) → slice_get ys k ≡ Some x → take n (drop (n * k) (drop n bytes)) ≡ f x =
    λ k x is. let place : n + n * k ≡ n * suc k = omega arith in
    ap (take n) (drop-drop (n * k) n bytes ∙ ap (λ m. drop m bytes) place) ∙ here (suc k) x is in
    let tail = spelled_from_takes f n ys (drop n bytes) left rest in
    sym (take-append-drop n bytes) ∙ ap (λ b. b ++ drop n bytes) first ∙ ap (λ b. f y ++ b) tail

pub spelled_from_pieces : {X : Type 0} (f : X → List ℕ) (n : ℕ) (items : List X) (bytes : List ℕ) → length bytes ≡ n * length items
    → ((k : ℕ) (x : X) → slice_get items k ≡ Some x → piece n k bytes ≡ f x) → bytes ≡ spelled f items
spelled_from_pieces f n items bytes size here = spelled_from_takes f n items bytes size (λ k x is. sym (piece-take n k bytes) ∙ here k x is)

-- a write of entry e leaves the entries before it
piece-put_below : (n e k m : ℕ) (bytes new : List ℕ) → k < e → n * e ≤ length bytes → piece n k (put_mid (n * e) m bytes new) ≡ piece n k bytes
piece-put_below n e k m bytes new below within =
    let before : n * (k + 1) ≤ n * e = mul-le-mul_left n (omega arith) in
    between_is (put_mid (n * e) m bytes new) (n * k) (n * (k + 1))
    ∙ ap (drop (n * k)) (take-put_mid_below (n * e) m bytes new (n * (k + 1)) before within)
    ∙ sym (between_is bytes (n * k) (n * (k + 1)))

-- and puts its bytes at its place
piece-put_here : (n e : ℕ) (bytes new : List ℕ) → n * e ≤ length bytes → length new ≡ n → piece n e (put_mid (n * e) (n * (e + 1) - n * e) bytes new) ≡ new
piece-put_here n e bytes new within size = between-put_mid (n * e) (n * (e + 1) - n * e) bytes new (n * (e + 1)) within (omega arith)

-- the bytes are so many, and each item before e is spelled at its place
pub record IsSpelledTo {X : Type 0} (f : X → List ℕ) (n : ℕ) (items : List X) (size e : ℕ) (bytes : List ℕ) : Type 0 where
  pub count : length bytes ≡ size
  pub here : (k : ℕ) (x : X) → k < e → slice_get items k ≡ Some x → piece n k bytes ≡ f x

-- a piece has its length
length-piece : (n e : ℕ) (bytes : List ℕ) → n * (e + 1) ≤ length bytes → length (piece n e bytes) ≡ n
length-piece n e bytes within = simp (length-take, length-drop) (omega arith)

-- a write of one piece leaves the length
length-put : (a n : ℕ) (bytes new : List ℕ) → a + n ≤ length bytes → length new ≡ n → length (put_mid a n bytes new) ≡ length bytes
length-put a n bytes new within size = simp (length-append, length-take, length-drop) (omega arith)

-- so it is before e + 1 once item e is written
pub IsSpelledTo-more : {X : Type 0} (f : X → List ℕ) (n : ℕ) (items : List X) (size e : ℕ) (bytes new : List ℕ) (x : X)
    → n * (e + 1) ≤ size → slice_get items e ≡ Some x → length new ≡ length (piece n e bytes) → new ≡ f x → IsSpelledTo f n items size e bytes
    → IsSpelledTo f n items size (e + 1) (put_mid (n * e) (n * (e + 1) - n * e) bytes new)
IsSpelledTo-more {X = X} f n items size e bytes new x fits at long spelling before =
    let count = before.count in
    let after = put_mid (n * e) (n * (e + 1) - n * e) bytes new in
    let long_by : length new ≡ n = long ∙ length-piece n e bytes (omega arith) in
    let within : n * e ≤ length bytes = omega arith in
    record {
      count = length-put (n * e) (n * (e + 1) - n * e) bytes new (omega arith) (omega arith) ∙ count;
      here = λ k y below is. elim (cases_lt k e) [
        | inl lower ↦ piece-put_below n e k (n * (e + 1) - n * e) bytes new lower within ∙ before.here k y lower is
        | inr higher ↦
            let same : k ≡ e = omega arith in
            let item : Some y ≡ Some x = sym is ∙ ap (slice_get items) same ∙ at in
            ap (λ j. piece n j after) same ∙ piece-put_here n e bytes new within long_by ∙ spelling ∙ ap f (sym (same_Some y x item))
      ];
    }

-- where all are, the bytes are the spelling
pub spelled_from_to : {X : Type 0} (f : X → List ℕ) (n : ℕ) (items : List X) (size e : ℕ) (bytes : List ℕ)
    → size ≡ n * length items → length items ≤ e → IsSpelledTo f n items size e bytes → bytes ≡ spelled f items
spelled_from_to f n items size e bytes long all to =
    spelled_from_pieces f n items bytes (to.count ∙ long)
    (λ k x is. let within = slice_get_within items k x is in to.here k x (omega arith) is)

-- a write of one item leaves the others
slice_get-set_other : {X : Type 0} (items : List X) (e k : ℕ) (x : X) → k < e → slice_get (set items e x) k ≡ slice_get items k
slice_get-set_other [] e k x below = refl
slice_get-set_other (y ∷ ys) zero k x below = absurd (omega arith)
slice_get-set_other (y ∷ ys) (suc e) zero x below = refl
slice_get-set_other (y ∷ ys) (suc e) (suc k) x below = slice_get-set_other ys e k x (omega arith)

-- and stands at its place
slice_get-set_same : {X : Type 0} (items : List X) (e : ℕ) (x y : X) → slice_get (set items e x) e ≡ Some y → x ≡ y
slice_get-set_same [] e x y is = absurd (none-some y is)
slice_get-set_same (z ∷ zs) zero x y is = same_Some x y is
slice_get-set_same (z ∷ zs) (suc e) x y is = slice_get-set_same zs e x y is

-- what holds of each item before e at its place
abbrev pub HoldsBelow : {X : Type 0} → (ℕ → X → Type 0) → List X → ℕ → Type 0
HoldsBelow {X = X} P items e = (k : ℕ) (x : X) → k < e → slice_get items k ≡ Some x → P k x

-- holds of each before e + 1 once an item of which it holds is put at e
pub HoldsBelow-more : {X : Type 0} (P : ℕ → X → Type 0) (items : List X) (e : ℕ) (x : X) → HoldsBelow P items e → P e x
    → HoldsBelow P (set items e x) (e + 1)
HoldsBelow-more P items e x before here k y below is =
    elim (cases_lt k e) [
      | inl lower ↦ before k y lower (sym (slice_get-set_other items e k x lower) ∙ is)
      | inr higher ↦
          let same : k ≡ e = omega arith in
          let item : x ≡ y = slice_get-set_same items e x y (ap (slice_get (set items e x)) (sym same) ∙ is) in
          subst (λ j. P j y) (sym same) (subst (P e) item here)
    ]
