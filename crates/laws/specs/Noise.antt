-- The soft values of a test load: 0 to 40 where the code bit is 0, and −40 to 0 where it is 1. A fact of one is a test at each of the 41
-- remainders.
use Rattle.std.specs.Prelude.{◌≡◌, Bool, true, false, cond, List, [], ◌∷◌, ℕ, zero, suc, ◌%◌, ◌≤◌, ◌<◌, T, eqb, leb, length, replicate, ℤ, pos, negsuc, nat_abs, ◌+ℤ◌, ◌-ℤ◌}
use Rattle.std.proofs.Common.{subst, arith, leb→le}
use Rattle.std.proofs.Math.Dec.{leb-suc-zero}
use Rattle.std.specs.Int.Signed.{le_z}
use Rattle.spec.specs.Bits.{Bits, nil, cons}
use Rattle.spec.specs.Faults.{some}
use Rattle.spec.specs.Refusals.{out_of_range}
use Rattle.spec.specs.Score.{taken}
use Rattle.spec.specs.TestLoad.{noisy, noisy_word}
use Rattle.laws.specs.EveryEntry.{at}
use Rattle.laws.specs.Agreement.{for_0, for_1, Allows, neutral, favoured, Each, none, more}
use Rattle.laws.specs.ListCost as lists
use Rattle.laws.specs.SmallSoft.{Small, small_range, small_taken}

-- the value of a remainder, for bit 0 (b) or bit 1
abbrev noisy_by : Bool → ℕ → ℤ
noisy_by b r = (cond b (pos 20) (negsuc 19) +ℤ pos r) -ℤ pos 20

-- ---- no magnitude is above 40, so none is out of range, and each is taken as it is
small_at : (b : Bool) (r : ℕ) → r < 41 → T (leb (nat_abs (noisy_by b r)) 40)
small_at true = at (λ r x. leb (nat_abs (noisy_by true r)) 40) (replicate 41 0) tt
small_at false = at (λ r x. leb (nat_abs (noisy_by false r)) 40) (replicate 41 0) tt

noisy_small : (bit x : ℕ) → nat_abs (noisy bit x) ≤ 40
noisy_small bit x = leb→le (nat_abs (noisy bit x)) 40 (small_at (eqb bit 0) (x % 41) (omega arith))

pub word_small : (w xs : List ℕ) → lists.All (λ (y : ℤ). nat_abs y ≤ 40) (noisy_word w xs)
word_small [] xs = lists.none
word_small (b ∷ w) [] = lists.none
word_small (b ∷ w) (x ∷ xs) = lists.more (noisy_small b x) (word_small w xs)

within : (w xs : List ℕ) → lists.All Small (noisy_word w xs)
within w xs = lists.all_map (λ y h. omega arith) (word_small w xs)

pub word_range : (w xs : List ℕ) → some out_of_range (noisy_word w xs) ≡ false
word_range w xs = small_range (within w xs)

pub word_taken : (w xs : List ℕ) → taken (noisy_word w xs) ≡ noisy_word w xs
word_taken w xs = small_taken (within w xs)

-- ---- each agrees with its code bit, or is 0
not_below : (y : ℤ) → T (le_z (pos 0) y) → Allows y 0
not_below (pos zero) t = neutral
not_below (pos (suc n)) t = favoured for_0
not_below (negsuc n) t = absurd t

not_above : (y : ℤ) → T (le_z y (pos 0)) → Allows y 1
not_above (pos zero) t = neutral
not_above (pos (suc n)) t = absurd (subst T (leb-suc-zero n) t)
not_above (negsuc n) t = favoured for_1

noisy_allows : (bit x : ℕ) → bit < 2 → Allows (noisy bit x) bit
noisy_allows zero x h = not_below (noisy_by true (x % 41)) (at (λ r z. le_z (pos 0) (noisy_by true r)) (replicate 41 0) tt (x % 41) (omega arith))
noisy_allows (suc zero) x h = not_above (noisy_by false (x % 41)) (at (λ r z. le_z (noisy_by false r) (pos 0)) (replicate 41 0) tt (x % 41) (omega arith))
noisy_allows (suc (suc b)) x h = absurd (omega arith)

pub word_allows : {w : List ℕ} → Bits w → (xs : List ℕ) → length w ≡ length xs → Each Allows (noisy_word w xs) w
word_allows nil [] e = none
word_allows nil (x ∷ xs) e = none
word_allows (cons h t) [] e = absurd (omega (arith, e))
word_allows (cons {x = b} h t) (x ∷ xs) e = more (noisy_allows b x h) (word_allows t xs (omega (arith, e)))
