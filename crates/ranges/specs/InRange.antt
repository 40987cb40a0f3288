-- Where no value of a list is out of range, the one at a place is not.
use Rattle.std.specs.Prelude.{◌≡◌, refl, false, List, [], ◌∷◌, ℕ, zero, suc, get_or, ℤ, pos}
use Rattle.spec.specs.Faults.{some}
use Rattle.spec.specs.Refusals.{out_of_range}
use Rattle.laws.specs.FirstFault.{not_either}

pub in_range_at : (ys : List ℤ) (i : ℕ) → some out_of_range ys ≡ false → out_of_range (get_or ys i (pos 0)) ≡ false
unfolding some
in_range_at [] i e = refl
in_range_at (y ∷ ys) zero e = (not_either (out_of_range y) (some out_of_range ys) e).0
in_range_at (y ∷ ys) (suc i) e = in_range_at ys i (not_either (out_of_range y) (some out_of_range ys) e).1
