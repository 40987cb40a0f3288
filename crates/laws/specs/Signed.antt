-- Numbers read as signed ones, and the bits of signed ones, at any width: `half` is the first that lies below 0, and `top` the last of all.
-- Assumes nothing.
use Rattle.std.specs.Prelude.{◌≡◌, refl, Bool, true, false, ℕ, suc, ◌-◌, ◌*◌, ◌≤◌, ◌<◌, T, ltb, ℤ, pos, negsuc, nat_abs}
use Rattle.std.proofs.Common.{sym, ap, ◌∙◌, arith, lt-ltb, le-ltb, ltb-true, ltb-false}
use Rattle.std.specs.Int.Signed.{non_neg, mag}
use Rattle.spec.specs.Record.{signed_from}
use Rattle.spec.specs.RecordOf.{bits_under}

-- below the half a number is itself, and from there on as far below 0 as it is below twice the half
pub signed_low : (half x : ℕ) → x < half → pos x ≡ signed_from half x
signed_low half x h = rw (lt-ltb x half h)

pub signed_high : (half top x : ℕ) → suc top ≡ 2 * half → half ≤ x → x ≤ top → negsuc (top - x) ≡ signed_from half x
signed_high half top x t h k =
    let e : top - x ≡ suc top - suc x = omega arith in
    rw (le-ltb x half h, ← t, lt-ltb x (suc top) (omega arith)) (ap negsuc e)

-- the bits of a number that is not negative
pub plain_bits : (top : ℕ) (y : ℤ) → T (non_neg y) → nat_abs y ≡ bits_under top y
plain_bits top (pos k) t = refl
plain_bits top (negsuc k) t = absurd t

-- ---- there and back
module _ (half top : ℕ) (t : suc top ≡ 2 * half) where
  pub bits_within : (z : ℤ) → mag z < half → bits_under top z ≤ top
  bits_within (pos k) h = omega arith
  bits_within (negsuc k) h = omega arith

  pub signed_back : (z : ℤ) → mag z < half → signed_from half (bits_under top z) ≡ z
  signed_back (pos k) h = sym (signed_low half k h)
  signed_back (negsuc k) h =
      let d : top - (top - k) ≡ k = omega arith in
      sym (signed_high half top (top - k) t (omega arith) (omega arith)) ∙ ap negsuc d

  module _ (x : ℕ) (h : x ≤ top) where
    pub bits_back : bits_under top (signed_from half x) ≡ x
    bits_back = go (ltb x half) refl
      where
        go : (b : Bool) → ltb x half ≡ b → bits_under top (signed_from half x) ≡ x
        go true e = ap (bits_under top) (sym (signed_low half x (ltb-true x half e)))
        go false e = ap (bits_under top) (sym (signed_high half top x t (ltb-false x half e) h)) ∙ omega arith

    pub signed_within : mag (signed_from half x) < half
    signed_within = go (ltb x half) refl
      where
        go : (b : Bool) → ltb x half ≡ b → mag (signed_from half x) < half
        go true e = let l = ltb-true x half e in omega (arith, ap mag (sym (signed_low half x l)))
        go false e = let l = ltb-false x half e in omega (arith, ap mag (sym (signed_high half top x t l h)))
