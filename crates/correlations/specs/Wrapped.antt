-- Sums and differences of signed numbers that code holds modulo 2 ^ 32. Assumes nothing.
use Rattle.std.specs.Prelude.{◌≡◌, ℕ, suc, ◌+◌, ◌-◌, ◌%◌, ◌<◌, Bool, true, false, cond, ℤ, pos, negsuc, ◌+ℤ◌, ◌-ℤ◌, nat_lt, refl}
use Rattle.std.proofs.Common.{ap, ◌∙◌, arith, ltb-true, ltb-false}
use Rattle.std.proofs.Math.IntN.{sub_ℕ, -ℤ-+ℤ_cancel}
use Rattle.correlations.specs.Folding.{wrapped}

pub wrapped_lt : (z : ℤ) → wrapped z < 4294967296
unfolding wrapped
wrapped_lt (pos n) = omega arith
wrapped_lt (negsuc n) = omega arith

-- a − b − 1, by which is larger
sub_wrapped : (a b : ℕ) → (a % 4294967296 + (4294967295 - b % 4294967296)) % 4294967296 ≡ wrapped (sub_ℕ a (suc b))
unfolding wrapped
sub_wrapped a b = go (nat_lt a (suc b)) refl
  where
    go : (t : Bool) → nat_lt a (suc b) ≡ t
        → (a % 4294967296 + (4294967295 - b % 4294967296)) % 4294967296 ≡ wrapped (cond t (negsuc (suc b - suc a)) (pos (a - suc b)))
    go true e = omega (arith, ltb-true a (suc b) e)
    go false e = omega (arith, ltb-false a (suc b) e)

pub wrapped_add : (a b : ℤ) → (wrapped a + wrapped b) % 4294967296 ≡ wrapped (a +ℤ b)
unfolding wrapped
wrapped_add (pos a) (pos b) = omega arith
wrapped_add (pos a) (negsuc b) = sub_wrapped a b
wrapped_add (negsuc a) (pos b) = omega (arith, sub_wrapped b a)
wrapped_add (negsuc a) (negsuc b) = omega arith

pub wrapped_sub : (a b : ℤ) (r : ℕ) → r < 4294967296 → (r + wrapped b) % 4294967296 ≡ wrapped a → r ≡ wrapped (a -ℤ b)
wrapped_sub a b r l e =
    let d : (wrapped (a -ℤ b) + wrapped b) % 4294967296 ≡ wrapped a = wrapped_add (a -ℤ b) b ∙ ap wrapped (-ℤ-+ℤ_cancel a b) in
    omega (arith, wrapped_lt (a -ℤ b), wrapped_lt b)
