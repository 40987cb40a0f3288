-- Complex samples from a demodulator, as a function on their bytes: 02, wish 3. A float of 32 bits is taken by its bits, as whole
-- numbers: from the top a sign, eight bits of exponent and 23 digits of the mantissa.
use Rattle.std.specs.Prelude.{Bool, cond, ◌&&◌, List, [], ◌∷◌, length, leb, ltb, eqb, ℤ, pos, neg_ℤ}
use Prim.Native.Nat.{ℕ, zero, suc, ◌+◌, ◌*◌, ◌/◌, ◌%◌, ◌^◌, min, compare, Ordering}
use Rattle.spec.specs.Faults.{Fault, fault, first, settled, outside}
use Rattle.spec.specs.Refusals.{length_fault, room_fault}
use Rattle.spec.specs.Record.{four_at}
use Rattle.spec.specs.Outcome.{padded}

-- ---- the bits of a float
abbrev pub negative : ℕ → Bool
negative b = leb (2 ^ 31) b

abbrev pub exponent_of : ℕ → ℕ
exponent_of b = b % 2 ^ 31 / 2 ^ 23

abbrev pub digits_of : ℕ → ℕ
digits_of b = b % 2 ^ 23

-- Exponent 255 has no number: with digits 0 it is an infinity, else a NaN, which is a gap.
abbrev pub endless : ℕ → Bool
endless b = eqb (exponent_of b) 255

abbrev pub is_gap : ℕ → Bool
is_gap b = endless b && ltb 0 (digits_of b)

-- The magnitude of any other, in units of 2^-149: from exponent 1 on a leading 1 stands before the digits.
abbrev pub units_by : ℕ → ℕ → ℕ
units_by zero t = t
units_by (suc x) t = (2 ^ 23 + t) * 2 ^ x

abbrev pub units_of : ℕ → ℕ
units_of b = units_by (exponent_of b) (digits_of b)

-- ---- the whole number nearest to a / d, halves to the even one: by how twice the remainder compares with d
abbrev pub rounded : ℕ → Ordering → ℕ
rounded q Ordering.lt = q
rounded q Ordering.eq = q + q % 2
rounded q Ordering.gt = q + 1

unfoldable pub nearest_to : ℕ → ℕ → ℕ
nearest_to a d = rounded (a / d) (compare (2 * (a % d)) d)

-- ---- the soft value of a part: 64 times a magnitude of a units is a / 2^143; an infinity is held as what is too large is
unfoldable pub held_magnitude : ℕ → ℕ
held_magnitude b = cond (endless b) 2047 (min 2047 (nearest_to (units_of b) (2 ^ 143)))

abbrev pub signed_by : Bool → ℕ → ℤ
signed_by below k = cond below (neg_ℤ (pos k)) (pos k)

unfoldable pub soft_of : ℕ → ℤ
soft_of b = cond (is_gap b) (pos 0) (signed_by (negative b) (held_magnitude b))

-- ---- so many pairs of eight bytes from a place on: of each the real part, then the imaginary part
unfoldable pub soft_pairs : List ℕ → ℕ → ℕ → List ℤ
soft_pairs s at zero = []
soft_pairs s at (suc k) = soft_of (four_at s at) ∷ soft_of (four_at s (at + 4)) ∷ soft_pairs s (at + 8) k

-- ---- the call, for so many bytes and so many soft values lent: 1, 6 (not 4n bytes), 10
abbrev pub sample_faults : ℕ → ℕ → ℕ → List Fault
sample_faults m bytes softs = fault 1 (outside 2 10 m) ∷ length_fault (4 * 2 ^ m) bytes ∷ room_fault (2 ^ m) softs ∷ []

unfoldable pub quantise_refusal : ℕ → ℕ → ℕ → ℕ
quantise_refusal m bytes softs = first (sample_faults m bytes softs)

-- 0 or the refusal number, and the slice of soft values
pub record Quantised : Type 0 where
  pub number : ℕ
  pub soft : List ℤ

abbrev pub quantised : ℕ → List ℤ → Quantised
quantised k soft = record { number = k; soft = soft }

-- the n soft values of n / 2 pairs at the front of the slice, and 0 behind them
unfoldable pub quantise_served : ℕ → List ℕ → ℕ → Quantised
quantise_served m s softs = quantised 0 (padded (pos 0) softs (soft_pairs s 0 (2 ^ m / 2)))

unfoldable pub quantise_outcome : ℕ → List ℕ → List ℤ → Quantised
quantise_outcome m s soft =
    settled (quantise_refusal m (length s) (length soft)) (λ k. quantised k soft) (quantise_served m s (length soft))
