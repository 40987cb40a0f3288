-- The least cost of what is dropped of a list in order is the first's; at a frozen position nothing is dropped.
-- Assumes nothing.
use mathlib.Core.Path.{◌≡◌, refl}
use mathlib.Core.List.{List, [], ◌∷◌}
use Prim.Native.Nat.{ℕ, zero, suc, ◌+◌, ◌%◌, ◌≤◌, min}
use native.Mathlib.Omega.{arith}
use native.Mathlib.Numerals.{add-one}
use lib.ListN.{length, take, drop, get_or, length-append, drop_of_length-le}
use lib.Dec.{leb}
use Rattle.spec.specs.Decoder.{sort_by}
use Rattle.spec.specs.RowCount.{length_sort}
use Rattle.laws.specs.ListCost.{All, none, more}
use Rattle.live.specs.Entries.{cost_of, branches, child_of, children_of}
use Rattle.live.specs.Rising.{none₂, more₂, Rising}
use Rattle.live.specs.Lost.{lost_with}
use Rattle.live.proofs.Sorting.{rising_insert}

pub rising_sort : (xs : List ℕ) → Rising (sort_by leb xs)
rising_sort [] = none₂
rising_sort (x ∷ xs) = rising_insert x (rising_sort xs)

-- in a list in order the first has the least cost
first_least : (x a : ℕ) {xs : List ℕ} → All (x ≤◌) xs → min (cost_of x) a ≡ min (cost_of x) (lost_with a xs)
first_least x a none = refl
first_least x a (more {x = y} {xs = xs} h k) =
    let ih : min (cost_of x) a ≡ min (cost_of x) (lost_with a xs) = first_least x a k in
    let q : cost_of x ≤ cost_of y = omega arith in
    omega arith

-- so one more than are kept is enough to know the least cost of all that are not
pub one_more : {xs : List ℕ} (l a : ℕ) → Rising xs → lost_with a (drop l (take (l + 1) xs)) ≡ lost_with a (drop l xs)
one_more l a r = rw add-one (go l r)
  where
    go : {xs : List ℕ} (l : ℕ) → Rising xs → lost_with a (drop l (take (suc l) xs)) ≡ lost_with a (drop l xs)
    go zero none₂ = refl
    go zero (more₂ {x} p r) = first_least x a p
    go (suc l) none₂ = refl
    go (suc l) (more₂ p r) = go l r

-- at a frozen position there are no more children than entries
one_each : (f : ℕ) (xs bs cs ds : List ℕ) (i : ℕ) → length (children_of (suc f) xs bs cs ds i) ≡ i
one_each f xs bs cs ds zero = refl
one_each f xs bs cs ds (suc i) =
    omega (arith, length-append (children_of (suc f) xs bs cs ds i) (branches (suc f) (child_of xs (get_or bs i 0 % 2) cs i) (child_of xs 1 ds i)), one_each f xs bs cs ds i)

pub none_lost : (f l : ℕ) (xs bs cs ds : List ℕ) (i : ℕ) → i ≤ l → drop l (sort_by leb (children_of (suc f) xs bs cs ds i)) ≡ []
none_lost f l xs bs cs ds i h =
    drop_of_length-le (sort_by leb (children_of (suc f) xs bs cs ds i)) {i = l}
    (omega (arith, length_sort leb (children_of (suc f) xs bs cs ds i), one_each f xs bs cs ds i))
