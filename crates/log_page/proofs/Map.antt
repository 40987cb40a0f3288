-- Of all refusals one alone is that of the map of fields. Assumes nothing.
use Rattle.std.proofs.Common.{◌≡◌, refl, arith}
use Rattle.refusals.specs.declared.Refusal.{Refusal}
use Rattle.refusals.specs.declared.Refusal.TheVariants.{Exponent, MapLength, MapPastEnd, ListSize, StopPosition, GivenLength, SoftValue, NumberTables, ByteTables, Room, NotBits, OutsideCode, RecordLength, FieldMap, Pairs, ManyWords, PayloadSize, PackedBits, ScoreOrder, RecordCount, State}
use Rattle.refusals.specs.Number.{number_of}

pub is_map : (e : Refusal) → number_of e ≡ 14 → e ≡ FieldMap
is_map FieldMap q = refl
is_map Exponent q = absurd (omega (arith, q))
is_map MapLength q = absurd (omega (arith, q))
is_map MapPastEnd q = absurd (omega (arith, q))
is_map ListSize q = absurd (omega (arith, q))
is_map StopPosition q = absurd (omega (arith, q))
is_map GivenLength q = absurd (omega (arith, q))
is_map SoftValue q = absurd (omega (arith, q))
is_map NumberTables q = absurd (omega (arith, q))
is_map ByteTables q = absurd (omega (arith, q))
is_map Room q = absurd (omega (arith, q))
is_map NotBits q = absurd (omega (arith, q))
is_map OutsideCode q = absurd (omega (arith, q))
is_map RecordLength q = absurd (omega (arith, q))
is_map Pairs q = absurd (omega (arith, q))
is_map ManyWords q = absurd (omega (arith, q))
is_map PayloadSize q = absurd (omega (arith, q))
is_map PackedBits q = absurd (omega (arith, q))
is_map ScoreOrder q = absurd (omega (arith, q))
is_map RecordCount q = absurd (omega (arith, q))
is_map State q = absurd (omega (arith, q))
