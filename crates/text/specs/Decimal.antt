-- Numbers in decimal, as bytes.
use Rattle.std.specs.Prelude.{◌≡◌, refl, Bool, true, false, cond, List, [], ◌∷◌, ◌++◌, ℕ, zero, suc, ◌+◌, ◌*◌, ◌/◌, ◌%◌, ◌^◌, ◌≤◌, ◌<◌, ltb, length, ℤ, pos, negsuc}
use Rattle.std.proofs.Common.{sym, ap, ◌∙◌, not-suc-le-zero, pow-suc, arith, lt-ltb, le-ltb, ltb-true, ltb-false, length-append}
use Rattle.std.specs.Fmt.{decimal as printed, signed_decimal as signed_printed}
use Rattle.std.specs.Int.{w32}
use Rattle.std.specs.Int.Signed.{mag}
use mir.Val.{SFits, to_z, of_z}
use Rattle.std.proofs.lemmas.Int.{to_z-of_z}
use Rattle.std.proofs.lemmas.Fmt.{decimal_by_steps}

-- the digits of n, highest first; any fuel above n is enough
unfoldable pub digits : ℕ → ℕ → List ℕ
digits zero n = []
digits (suc fuel) n = cond (ltb n 10) ((48 + n) ∷ []) (digits fuel (n / 10) ++ ((48 + n % 10) ∷ []))

unfoldable pub decimal : ℕ → List ℕ
decimal n = digits (suc n) n

-- a minus sign before a negative number
abbrev pub signed_decimal : ℤ → List ℕ
signed_decimal (pos n) = decimal n
signed_decimal (negsuc n) = 45 ∷ decimal (suc n)

-- ---- the digits go by the quotient and the rest by 10
digits_low : (k n : ℕ) → n < 10 → digits (suc k) n ≡ (48 + n) ∷ []
unfolding digits
digits_low k n h = rw (lt-ltb n 10 h)

digits_high : (k n : ℕ) → 10 ≤ n → digits (suc k) n ≡ digits k (n / 10) ++ ((48 + n % 10) ∷ [])
unfolding digits
digits_high k n h = rw (le-ltb n 10 h)

enough : (j k n : ℕ) → n < j → n < k → digits j n ≡ digits k n
enough zero k n a b = absurd (not-suc-le-zero a)
enough (suc j) zero n a b = absurd (not-suc-le-zero b)
enough (suc j) (suc k) n a b = by_test (ltb n 10) refl (enough j k (n / 10))
  where
    by_test : (t : Bool) → ltb n 10 ≡ t → (n / 10 < j → n / 10 < k → digits j (n / 10) ≡ digits k (n / 10)) → digits (suc j) n ≡ digits (suc k) n
    by_test true e ih = let h = ltb-true n 10 e in digits_low j n h ∙ sym (digits_low k n h)
    by_test false e ih =
        let h = ltb-false n 10 e in
        digits_high j n h ∙ ap (λ (l : List ℕ). l ++ ((48 + n % 10) ∷ [])) (ih (omega arith) (omega arith)) ∙ sym (digits_high k n h)

pub decimal_low : (n : ℕ) → n < 10 → decimal n ≡ (48 + n) ∷ []
unfolding decimal
decimal_low n h = digits_low n n h

pub decimal_high : (n : ℕ) → 10 ≤ n → decimal n ≡ decimal (n / 10) ++ ((48 + n % 10) ∷ [])
unfolding decimal
decimal_high n h =
    digits_high n n h
    ∙ ap (λ (l : List ℕ). l ++ ((48 + n % 10) ∷ [])) (enough n (suc (n / 10)) (n / 10) (omega arith) (omega arith))

-- ---- how many digits: a number below 10 ^ k has at most k
pub decimal_length : (k n : ℕ) → n < 10 ^ suc k → length (decimal n) ≤ suc k
decimal_length zero n h = omega (arith, ap length (decimal_low n (omega arith)))
decimal_length (suc k) n h = by_test (ltb n 10) refl (decimal_length k (n / 10))
  where
    by_test : (t : Bool) → ltb n 10 ≡ t → (n / 10 < 10 ^ suc k → length (decimal (n / 10)) ≤ suc k) → length (decimal n) ≤ suc (suc k)
    by_test true e ih = omega (arith, ap length (decimal_low n (ltb-true n 10 e)))
    by_test false e ih =
        let p : 10 ^ suc (suc k) ≡ 10 ^ suc k * 10 = pow-suc 10 (suc k) in
        let q : n / 10 < 10 ^ suc k = omega arith in
        omega
        (arith, ap length (decimal_high n (ltb-false n 10 e)), length-append (decimal (n / 10)) ((48 + n % 10) ∷ []), ih q)

-- 32 bits: at most 10 digits
pub decimal_32 : (n : ℕ) → n < 4294967296 → length (decimal n) ≤ 10
decimal_32 n h = decimal_length 9 n (omega arith)

-- ---- what the library prints for a number of at most 64 bits
pub as_printed : (n : ℕ) → n < 2 ^ 64 → printed n ≡ decimal n
as_printed n h = decimal_by_steps (λ (k : ℕ) (ds : List ℕ). ds ≡ decimal k) (λ k l. sym (decimal_low k l)) (λ k ds l e. ap (λ (xs : List ℕ). xs ++ ((48 + k % 10) ∷ [])) e ∙ sym (decimal_high k l)) n h

pub signed_as_printed : (z : ℤ) → mag z < 2 ^ 63 → signed_printed z ≡ signed_decimal z
signed_as_printed (pos n) h = as_printed n (omega arith)
signed_as_printed (negsuc n) h = ap (λ (l : List ℕ). 45 ∷ l) (as_printed (suc n) (omega arith))

-- and for a signed number of 32 bits, read back from its bits as code passes it
pub passed_as_printed : (z : ℤ) → SFits w32 z → signed_printed (to_z w32 (of_z w32 z)) ≡ signed_decimal z
passed_as_printed z f = ap signed_printed (to_z-of_z w32 z f) ∙ signed_as_printed z (omega (arith, f.sfits))
