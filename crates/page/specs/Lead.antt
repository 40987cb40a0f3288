-- First minus second score, as a number of 32 bits: it is 0 or above, since the scores do not rise. Assumes nothing.
use Rattle.std.specs.Prelude.{◌≡◌, refl, false, List, [], ◌∷◌, ℕ, zero, suc, ◌+◌, ◌-◌, ◌%◌, ◌≤◌, ◌<◌, length, get_or, ℤ, pos, negsuc, ◌-ℤ◌}
use Rattle.std.proofs.Common.{ap, ◌∙◌, true≢false, arith, le-ltb, ltb-false}
use Rattle.std.specs.Int.Signed.{lt_z}
use Rattle.spec.specs.RecordOf.{thirty_two_bits}
use Rattle.spec.specs.ResultRecord.{rising}
use Rattle.laws.specs.FirstFault.{not_either}
use Rattle.laws.specs.ListCost.{All, more}
use Rattle.result_round_trip.specs.FourBytes.{Wide, bits_wide}
use Rattle.text.specs.Decimal.{signed_decimal, decimal_32}
use Rattle.page.specs.Lines.{lead}

minus : (a b : ℕ) → b ≤ a → (pos a -ℤ pos b) ≡ pos (a - b)
minus a zero h = ap pos (omega arith)
minus a (suc b) h = rw (le-ltb a (suc b) h)

-- of two numbers of 32 bits of which the first is not below the second: what their bits differ by, modulo 2^32, is their difference
pub difference_is : (y z : ℤ) (d : ℕ) → Wide y → Wide z → lt_z y z ≡ false → d < 4294967296
    → (d + thirty_two_bits z) % 4294967296 ≡ thirty_two_bits y → (y -ℤ z) ≡ pos d
difference_is (pos a) (pos b) d hy hz e l w =
    let h : b ≤ a = ltb-false a b e in
    minus a b h ∙ ap pos (omega arith)
difference_is (pos a) (negsuc b) d hy hz e l w = ap pos (omega arith)
difference_is (negsuc a) (pos b) d hy hz e l w = absurd (true≢false e)
difference_is (negsuc a) (negsuc b) d hy hz e l w =
    let h : a ≤ b = ltb-false b a e in
    rw (le-ltb (suc b) (suc a) (omega arith)) (ap pos (omega arith))

-- ---- the scores of a record, one or more
pub one_score : (ys : List ℤ) → length ys < 2 → 45 ∷ [] ≡ lead ys
unfolding lead
one_score [] h = refl
one_score (y ∷ []) h = refl
one_score (y ∷ z ∷ ys) h = absurd (omega arith)

pub two_scores : (ys : List ℤ) → 2 ≤ length ys → rising ys ≡ false
    → (lt_z (get_or ys 0 (pos 0)) (get_or ys 1 (pos 0)) ≡ false) × (signed_decimal (get_or ys 0 (pos 0) -ℤ get_or ys 1 (pos 0)) ≡ lead ys)
unfolding lead rising
two_scores [] h e = absurd (omega arith)
two_scores (y ∷ []) h e = absurd (omega arith)
two_scores (y ∷ z ∷ ys) h e = ((not_either (lt_z y z) (rising (z ∷ ys)) e).0, refl)

-- ---- both numbers of scores fit into 12 columns
pub score_short : (z : ℤ) → Wide z → length (signed_decimal z) ≤ 12
score_short (pos n) h = omega (arith, decimal_32 n (omega arith))
score_short (negsuc n) h = omega (arith, decimal_32 (suc n) (omega arith))

pub lead_short : (ys : List ℤ) → All Wide ys → rising ys ≡ false → length (lead ys) ≤ 12
unfolding lead rising
lead_short [] w e = omega arith
lead_short (y ∷ []) w e = omega arith
lead_short (y ∷ z ∷ ys) (more hy (more hz w)) e =
    let a : ℕ = thirty_two_bits y in
    let b : ℕ = thirty_two_bits z in
    let d : ℕ = (a + (4294967296 - b)) % 4294967296 in
    let small : d < 4294967296 = omega arith in
    let wraps : (d + b) % 4294967296 ≡ a = omega (arith, bits_wide y hy, bits_wide z hz) in
    let is = difference_is y z d hy hz (not_either (lt_z y z) (rising (z ∷ ys)) e).0 small wraps in
    omega (arith, ap (λ (x : ℤ). length (signed_decimal x)) is, decimal_32 d small)
