-- A part as the code holds it, a reading or a gap, and the soft value of each. Definitions only.
use Rattle.std.specs.Prelude.{not, T, ℤ, pos, Float}
use Rattle.std.specs.Float.{nan, inf, fin, binary32}
use Rattle.std.specs.Float.Ieee.{is_nan, to_bits}
use Rattle.spec.specs.Samples.{soft_of}
use Rattle.readings.specs.declared.Part.{Part}
use Rattle.readings.specs.declared.Part.TheVariants.{Reading, Gap}

-- of a float: a NaN is a gap
abbrev pub part_of : Float → Part
part_of nan = Gap
part_of (inf s) = Reading (inf s)
part_of (fin s m e) = Reading (fin s m e)

-- a reading is no NaN
abbrev pub Sound : Part → Type 0
Sound (Reading x) = T (not (is_nan x))
Sound Gap = Unit {0}

-- the soft value of a reading goes by its bits
abbrev pub soft_part : Part → ℤ
soft_part (Reading x) = soft_of (to_bits binary32 x)
soft_part Gap = pos 0
