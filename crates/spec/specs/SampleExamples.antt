-- Soft values of floats and whole calls of the quantiser, by the definitions: 02, wish 3. A float stands as its bits.
use Rattle.std.specs.Prelude.{◌≡◌, refl, List, [], ◌∷◌, map, ℕ, replicate, ℤ, pos, negsuc}
use Rattle.spec.specs.Faults.{first}
use Rattle.spec.specs.Samples.{nearest_to, held_magnitude, soft_of, soft_pairs, quantise_refusal, Quantised, quantised, quantise_served, quantise_outcome}

-- ---- one table of floats; negsuc n is −(n + 1)
pub record Example : Type 0 where
  pub bits : ℕ
  pub stated : ℤ

infix 10 ◌gives◌
abbrev pub ◌gives◌ : ℕ → ℤ → Example
b gives y = record { bits = b; stated = y }

unfoldable pub examples : List Example
examples =
    -- those of 02: 1/128 gives 0, 3/128 gives 2, −40 gives −2,047
    (0x3c000000 gives pos 0)
    ∷ (0x3cc00000 gives pos 2)
    ∷ (0xc2200000 gives negsuc 2046)
    -- other halves: −1/128, −3/128, 5/128, −5/128
    ∷ (0xbc000000 gives pos 0)
    ∷ (0xbcc00000 gives negsuc 1)
    ∷ (0x3d200000 gives pos 2)
    ∷ (0xbd200000 gives negsuc 1)
    -- the floats next to 1/128 and to 3/128, both between the two
    ∷ (0x3c000001 gives pos 1)
    ∷ (0x3cbfffff gives pos 1)
    -- 1 and −1
    ∷ (0x3f800000 gives pos 64)
    ∷ (0xbf800000 gives negsuc 63)
    -- 0, −0, and the least magnitude, 2^-149
    ∷ (0x00000000 gives pos 0)
    ∷ (0x80000000 gives pos 0)
    ∷ (0x00000001 gives pos 0)
    -- 2,046.5/64 goes to the even 2,046; 2,047/64 is the last within; 2,047.5/64 is held
    ∷ (0x41ffd000 gives pos 2046)
    ∷ (0xc1ffd000 gives negsuc 2045)
    ∷ (0x41ffe000 gives pos 2047)
    ∷ (0x41fff000 gives pos 2047)
    ∷ (0xc1fff000 gives negsuc 2046)
    -- the largest magnitude, (2^24 − 1) · 2^104
    ∷ (0x7f7fffff gives pos 2047)
    ∷ (0xff7fffff gives negsuc 2046)
    -- the infinities
    ∷ (0x7f800000 gives pos 2047)
    ∷ (0xff800000 gives negsuc 2046)
    -- NaNs: the usual one, that with the least digits, and that with every bit set
    ∷ (0x7fc00000 gives pos 0)
    ∷ (0x7f800001 gives pos 0)
    ∷ (0xffffffff gives pos 0)
    ∷ []

pub soft_values : map (λ (e : Example). soft_of e.bits) examples ≡ map (λ (e : Example). e.stated) examples
unfolding examples soft_of held_magnitude nearest_to
soft_values = refl

-- ---- one table of calls at m = 2, with 9 in each place that is lent: 1/128 and 3/128 in one sample, −40 and a NaN in the other
unfoldable pub two_samples : List ℕ
two_samples = 0 ∷ 0 ∷ 0 ∷ 0x3c ∷ 0 ∷ 0 ∷ 0xc0 ∷ 0x3c ∷ 0 ∷ 0 ∷ 0x20 ∷ 0xc2 ∷ 1 ∷ 0 ∷ 0xc0 ∷ 0xff ∷ []

abbrev nines : ℕ → List ℤ
nines n = replicate n (pos 9)

pub record Call : Type 0 where
  pub found : Quantised
  pub stated : Quantised

infix 10 ◌is◌
abbrev pub ◌is◌ : Quantised → Quantised → Call
x is y = record { found = x; stated = y }

-- served with two places to spare; then a call of which more and more is right: 1, below and above; 6, a byte too many and one too few; 10
unfoldable pub calls : List Call
calls =
    (quantise_outcome 2 two_samples (nines 6) is quantised 0 (pos 0 ∷ pos 2 ∷ negsuc 2046 ∷ pos 0 ∷ pos 0 ∷ pos 0 ∷ []))
    ∷ (quantise_outcome 1 [] (nines 1) is quantised 1 (nines 1))
    ∷ (quantise_outcome 11 [] (nines 1) is quantised 1 (nines 1))
    ∷ (quantise_outcome 2 (0 ∷ two_samples) (nines 3) is quantised 6 (nines 3))
    ∷ (quantise_outcome 2 (replicate 15 0) (nines 3) is quantised 6 (nines 3))
    ∷ (quantise_outcome 2 two_samples (nines 3) is quantised 10 (nines 3))
    ∷ []

pub served_or_refused : map (λ (c : Call). c.found) calls ≡ map (λ (c : Call). c.stated) calls
unfolding calls two_samples first soft_pairs soft_of held_magnitude nearest_to quantise_refusal quantise_served quantise_outcome
served_or_refused = refl
