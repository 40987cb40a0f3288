-- From payload to payload through a demodulator's samples: 02, wish 3. Where every part speaks for its bit, all that was sent is received.
-- The theorem is over the outcomes of encoder, quantiser, decoder and extractor, one behind the other. Here are the words, and what holds of one
-- part; the theorem stands in proofs/SampledBlock.antt.
use Rattle.std.specs.Prelude.{◌≡◌, Bool, true, false, List, ℕ, zero, suc, ◌*◌, ◌^◌, ◌<◌, length, take, ℤ}
use Rattle.std.proofs.Common.{sym, subst, arith}
use Rattle.std.specs.Float.{inf, binary32}
use Rattle.std.specs.Float.Ieee.{of_bits}
use Rattle.std.specs.Float.Ieee.Exact.{HasValue}
use Rattle.spec.specs.Code.{Code, size}
use Rattle.spec.specs.Samples.{signed_by, soft_of, quantise_refusal, quantise_outcome}
use Rattle.spec.specs.Outcome.{encode_refusal}
use Rattle.laws.specs.Agreement.{Favours, for_0, for_1}
use Rattle.readings.specs.ExactValue.{strong_keeps_sign, soft_of_infinity}

-- ---- the statement's words
-- the sign that stands for a bit: above 0 for 0, below 0 for 1
abbrev pub below_for : ℕ → Bool
below_for zero = false
below_for (suc b) = true

-- a float, by its bits b, that speaks for a bit: a number a / c of its sign that is more than 1/128 in size, or the infinity of its sign
pub data Speaks (b bit : ℕ) : Type 0 where
  number : (a c : ℕ) → 0 < c → HasValue (of_bits binary32 b) (below_for bit) a c → c < 128 * a → Speaks b bit
  endless : b < 2 ^ 32 → of_bits binary32 b ≡ inf (below_for bit) → Speaks b bit

-- ---- one part
signed_favours : (bit k : ℕ) → bit < 2 → Favours (signed_by (below_for bit) (suc k)) bit
signed_favours zero k h = for_0
signed_favours (suc zero) k h = for_1
signed_favours (suc (suc bit)) k h = absurd (let z : ⊥ = omega arith in z)

pub speaks_favours : {b bit : ℕ} → bit < 2 → Speaks b bit → Favours (soft_of b) bit
speaks_favours {b} {bit} h (number a c C v k) =
    let r = strong_keeps_sign b (below_for bit) a c C v k in
    subst (λ (y : ℤ). Favours y bit) (sym r.1) (signed_favours bit r.0 h)
speaks_favours {b} {bit} h (endless s e) = subst (λ (y : ℤ). Favours y bit) (sym (soft_of_infinity b (below_for bit) s e)) (signed_favours bit 2046 h)

-- ---- the soft values of a block of samples
module _ (c : Code) (payload s : List ℕ) (soft : List ℤ) (out : List ℕ) (e : encode_refusal c payload (length out) ≡ 0)
    (q : 0 ≡ quantise_refusal c.m (length s) (length soft)) where
  -- the n soft values that the quantiser's call wrote to the front of soft
  abbrev pub sampled_soft : List ℤ
  sampled_soft = take (size c) (quantise_outcome c.m s soft).soft
