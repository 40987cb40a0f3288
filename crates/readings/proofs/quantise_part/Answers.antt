use Rattle.std.proofs.Common.{sym, subst}
use Rattle.readings.specs.Parts.{Sound}
use Rattle.readings.specs.SoftOfPart.{sound}
use Rattle.readings.proofs.quantise_part.Goals as goal

pub soft_value-requires : goal.soft_value-requires
soft_value-requires c = subst Sound (sym c.part_of.ensures) (sound c.args.x)
