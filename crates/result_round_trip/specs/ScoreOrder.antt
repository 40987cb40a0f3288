-- The tests of order of signed numbers: a number beside itself, and what one test says of the other. Assumes nothing.
use Rattle.std.specs.Prelude.{◌≡◌, refl, true, false, ℤ, pos, negsuc}
use Rattle.std.proofs.Common.{ap, true≢false, arith, ltb-false, le-ltb, leb-false, le-leb}
use Rattle.std.proofs.lemmas.Bool.{lt-leb}
use Rattle.std.specs.Int.Signed.{lt_z, le_z}

pub not_above_itself : (z : ℤ) → le_z z z ≡ true
not_above_itself (pos a) = le-leb a a (omega arith)
not_above_itself (negsuc a) = le-leb a a (omega arith)

pub not_below_itself : (z : ℤ) → lt_z z z ≡ false
not_below_itself (pos a) = le-ltb a a (omega arith)
not_below_itself (negsuc a) = le-ltb a a (omega arith)

-- what is neither below nor the same is above
pub above_of : (a b : ℤ) → lt_z a b ≡ false → (a ≡ b → ⊥) → le_z a b ≡ false
above_of (pos a) (pos b) e n = let d : a ≡ b → ⊥ = λ q. n (ap pos q) in lt-leb a b (omega (arith, ltb-false a b e))
above_of (pos a) (negsuc b) e n = refl
above_of (negsuc a) (pos b) e n = absurd (true≢false e)
above_of (negsuc a) (negsuc b) e n = let d : a ≡ b → ⊥ = λ q. n (ap negsuc q) in lt-leb b a (omega (arith, ltb-false b a e))

-- and what is above is not below
pub above_not_below : (a b : ℤ) → le_z a b ≡ false → lt_z a b ≡ false
above_not_below (pos a) (pos b) e = le-ltb a b (omega (arith, leb-false a b e))
above_not_below (pos a) (negsuc b) e = refl
above_not_below (negsuc a) (pos b) e = absurd (true≢false e)
above_not_below (negsuc a) (negsuc b) e = le-ltb b a (omega (arith, leb-false b a e))
