-- Soft values within ±2,047: none of them is out of range, and each is taken as it is.
use Rattle.std.specs.Prelude.{◌≡◌, refl, Bool, false, ◌||◌, List, [], ◌∷◌, ◌++◌, ℕ, zero, suc, ◌≤◌, replicate, ℤ, pos, negsuc, nat_abs}
use Rattle.std.proofs.Common.{ap, ap₂, arith, ne_eqb, le-ltb}
use Rattle.spec.specs.Score.{saturated, taken}
use Rattle.spec.specs.Faults.{some}
use Rattle.spec.specs.Refusals.{out_of_range}
use Rattle.laws.specs.ListCost.{All, none, more, all_append}
use Rattle.laws.specs.FirstFault.{not_either}
use Rattle.laws.specs.Taken.{saturated_small}

abbrev pub Small : ℤ → Type 0
Small y = nat_abs y ≤ 2047

in_range : (y : ℤ) → Small y → out_of_range y ≡ false
in_range (pos n) h = le-ltb 2047 n h
in_range (negsuc n) h = ap (λ (b : Bool). b || false) (le-ltb 2047 n (omega arith))

as_it_is : (y : ℤ) → Small y → saturated y ≡ y
as_it_is (pos n) h = refl
as_it_is (negsuc n) h = rw (ne_eqb n 2047 (λ e. omega arith))

pub small_range : {ys : List ℤ} → All Small ys → some out_of_range ys ≡ false
unfolding some
small_range none = refl
small_range (more {x = y} p a) = ap₂ ◌||◌ (in_range y p) (small_range a)

pub small_taken : {ys : List ℤ} → All Small ys → taken ys ≡ ys
small_taken none = refl
small_taken (more {x = y} p a) = ap₂ ◌∷◌ (as_it_is y p) (small_taken a)

-- values that are not out of range, as they are taken
pub taken_small : (ys : List ℤ) → some out_of_range ys ≡ false → All Small (taken ys)
unfolding some
taken_small [] e = none
taken_small (y ∷ ys) e =
    let r = not_either (out_of_range y) (some out_of_range ys) e in
    more (saturated_small y r.0) (taken_small ys r.1)

-- with zeros behind
zeros : (k : ℕ) → All Small (replicate k (pos 0))
zeros zero = none
zeros (suc k) = more {x = pos 0} (omega arith) (zeros k)

pub small_padded : {ys : List ℤ} (k : ℕ) → All Small ys → All Small (ys ++ replicate k (pos 0))
small_padded k a = all_append a (zeros k)
