-- A NaN's bits, less the sign, are above those of the infinity.
use Rattle.std.proofs.Common.{sym}
use lib.Ieee.{binary32}
use lib.Ieee.Bits.{nan_bits_above}
use Rattle.quantise.proofs.samples.is_nan.Goals as goal

pub returns : goal.returns
returns c = sym (nan_bits_above binary32 c.args.bits)
