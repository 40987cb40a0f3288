use Rattle.std.proofs.Common.{◌≡◌, refl, sym, Bool, true, false, ℕ, suc, ◌*◌, ◌/◌, ◌<◌, ◌≤◌, ltb, ltb-true, ltb-false, lt-ltb, le-ltb, arith}
use native.Mathlib.Nat.{div-add-mod', mod-lt, mul-le-mul_right, mul_comm, suc-mul}
use Rattle.list_words.proofs.check.rows_short.Goals as goal

-- a quotient is below a number where the dividend is below its product with the divisor
quotient_below : (b n p : ℕ) → 0 < n → ltb (b / n) p ≡ ltb b (n * p)
quotient_below b n p h = go (ltb (b / n) p) refl
  where
    go : (t : Bool) → ltb (b / n) p ≡ t → t ≡ ltb b (n * p)
    go true e =
        let up : suc (b / n) * n ≤ p * n = mul-le-mul_right n (ltb-true (b / n) p e) in
        sym (lt-ltb b (n * p) (omega (arith, up, suc-mul (b / n) n, mul_comm n p, div-add-mod' b n, mod-lt b h)))
    go false e =
        let up : p * n ≤ b / n * n = mul-le-mul_right n (ltb-false (b / n) p e) in
        sym (le-ltb b (n * p) (omega (arith, up, mul_comm n p, div-add-mod' b n)))

pub returns : goal.returns
returns c = quotient_below c.args.bytes c.args.n c.args.places c.requires
