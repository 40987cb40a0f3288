-- A NaN, and nothing else, is a gap.
use Rattle.std.proofs.Common.{◌≡◌, true, false, true≢false, refl, sym, Float}
use Rattle.std.proofs.lemmas.Bool.{false≢true}
use Rattle.std.specs.Float.{nan, inf, fin}
use Rattle.std.specs.Float.Ieee.{is_nan}
use Rattle.readings.specs.declared.Part.TheVariants.{Reading, Gap}
use Rattle.readings.specs.Parts.{part_of}
use Rattle.readings.proofs.part_of.Goals as goal

gap : (x : Float) → is_nan x ≡ true → Gap ≡ part_of x
unfolding is_nan
gap nan e = refl
gap (inf s) e = absurd (false≢true e)
gap (fin s m k) e = absurd (false≢true e)

reading : (x : Float) → is_nan x ≡ false → Reading x ≡ part_of x
unfolding is_nan
reading nan e = absurd (true≢false e)
reading (inf s) e = refl
reading (fin s m k) e = refl

pub returns-then-is_nan : goal.returns-then-is_nan
returns-then-is_nan c = gap c.args.x (sym c.if-is_nan.ensures.value)

pub returns-else-is_nan : goal.returns-else-is_nan
returns-else-is_nan c = reading c.args.x (sym c.if-is_nan.ensures.value)
