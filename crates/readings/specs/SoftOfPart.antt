-- A part as the code holds it has the soft value of its bits.
use Rattle.std.specs.Prelude.{◌≡◌, refl, Bool, true, false, not, ℕ, ◌<◌, T, pos, Float}
use Rattle.std.proofs.Common.{sym, ap, subst, ◌∙◌, true≢false}
use Rattle.std.proofs.lemmas.Bool.{false≢true}
use Rattle.std.specs.Float.{nan, inf, fin, binary32}
use Rattle.std.specs.Float.Ieee.{is_nan, of_bits, to_bits}
use Rattle.std.specs.Float.Ieee.Bits.{to_bits-of_bits}
use Rattle.spec.specs.Samples.{is_gap, soft_of}
use Rattle.spec.specs.SamplesAreFloats.{gap_is_nan}
use Rattle.readings.specs.Parts.{part_of, Sound, soft_part}

pub sound : (x : Float) → Sound (part_of x)
unfolding is_nan
sound nan = tt
sound (inf s) = tt
sound (fin s m e) = tt

gap_soft : (x : Float) → is_nan x ≡ true → soft_part (part_of x) ≡ pos 0
unfolding is_nan
gap_soft nan e = refl
gap_soft (inf s) e = absurd (false≢true e)
gap_soft (fin s m k) e = absurd (false≢true e)

reading_soft : (x : Float) → is_nan x ≡ false → soft_part (part_of x) ≡ soft_of (to_bits binary32 x)
unfolding is_nan
reading_soft nan e = absurd (true≢false e)
reading_soft (inf s) e = refl
reading_soft (fin s m k) e = refl

soft_gap : (b : ℕ) → is_gap b ≡ true → soft_of b ≡ pos 0
unfolding soft_of
soft_gap b e = rw e

pub soft_bits : (b : ℕ) → b < 4294967296 → soft_part (part_of (of_bits binary32 b)) ≡ soft_of b
soft_bits b h = go (is_nan (of_bits binary32 b)) refl
  where
    go : (c : Bool) → is_nan (of_bits binary32 b) ≡ c → soft_part (part_of (of_bits binary32 b)) ≡ soft_of b
    go true e = gap_soft (of_bits binary32 b) e ∙ sym (soft_gap b (gap_is_nan b ∙ e))
    go false e = reading_soft (of_bits binary32 b) e ∙ ap soft_of (to_bits-of_bits binary32 b h (subst (λ (c : Bool). T (not c)) (sym e) tt))
