-- There is one NaN, for which the bits of every NaN stand.
use Rattle.std.proofs.Common.{◌≡◌, refl, sym, subst, ◌∙◌, Bool, true}
use lib.Dec.{T}
use lib.Ieee.{Float, nan, inf, fin, binary32, is_nan, of_bits}
use lib.Ieee.Bits.{nan_bits_is}
use Rattle.quantise.proofs.samples.float_of.Goals as goal

nan_only : (x : Float) → true ≡ is_nan x → nan ≡ x
unfolding is_nan
nan_only nan e = refl
nan_only (inf s) e = absurd (subst (λ (b : Bool). T b) e tt)
nan_only (fin s m k) e = absurd (subst (λ (b : Bool). T b) e tt)

the_nan : of_bits binary32 2143289344 ≡ nan
unfolding of_bits
the_nan = refl

pub returns-then-is_nan : goal.returns-then-is_nan
returns-then-is_nan c =
    the_nan ∙ nan_only (of_bits binary32 c.args.bits) (sym c.if-is_nan.true ∙ c.is_nan.ensures ∙ nan_bits_is binary32 c.args.bits)
