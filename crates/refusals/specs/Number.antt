-- The number of each refusal: 01, "Codes for a call not served", and 02. Assumes nothing.
use Rattle.std.specs.Prelude.{◌≡◌, ℕ, ◌<◌, Result, Ok, Err}
use Rattle.std.proofs.Common.{arith}
use Rattle.refusals.specs.declared.Refusal.{Refusal}
use Rattle.refusals.specs.declared.Refusal.TheVariants.{Exponent, MapLength, MapPastEnd, ListSize, StopPosition, GivenLength, SoftValue, NumberTables, ByteTables, Room, NotBits, OutsideCode, RecordLength, FieldMap, Pairs, ManyWords, PayloadSize, PackedBits, ScoreOrder, RecordCount, State}

abbrev pub number_of : Refusal → ℕ
number_of Exponent = 1
number_of MapLength = 2
number_of MapPastEnd = 3
number_of ListSize = 4
number_of StopPosition = 5
number_of GivenLength = 6
number_of SoftValue = 7
number_of NumberTables = 8
number_of ByteTables = 9
number_of Room = 10
number_of NotBits = 11
number_of OutsideCode = 12
number_of RecordLength = 13
number_of FieldMap = 14
number_of Pairs = 15
number_of ManyWords = 19
number_of PayloadSize = 20
number_of PackedBits = 21
number_of ScoreOrder = 22
number_of RecordCount = 23
number_of State = 24

-- what an answer is refused for; 0 where it is served
abbrev pub refused : {A : Type 0} → Result A Refusal → ℕ
refused (Ok x) = 0
refused (Err e) = number_of e

-- no refusal has the number 0
pub above_zero : (e : Refusal) → 0 < number_of e
above_zero Exponent = omega arith
above_zero MapLength = omega arith
above_zero MapPastEnd = omega arith
above_zero ListSize = omega arith
above_zero StopPosition = omega arith
above_zero GivenLength = omega arith
above_zero SoftValue = omega arith
above_zero NumberTables = omega arith
above_zero ByteTables = omega arith
above_zero Room = omega arith
above_zero NotBits = omega arith
above_zero OutsideCode = omega arith
above_zero RecordLength = omega arith
above_zero FieldMap = omega arith
above_zero Pairs = omega arith
above_zero ManyWords = omega arith
above_zero PayloadSize = omega arith
above_zero PackedBits = omega arith
above_zero ScoreOrder = omega arith
above_zero RecordCount = omega arith
above_zero State = omega arith

pub not_zero : (e : Refusal) → number_of e ≡ 0 → ⊥
not_zero e q = let h : 0 < number_of e = above_zero e in omega (arith, q, h)
