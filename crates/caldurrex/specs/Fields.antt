-- The decoder's answer as a host written in C gets it, which has no enum.
use Rattle.std.specs.Prelude.{pos}
use Rattle.spec.specs.Outcome.{Answer, decoded, refused_by, Lent, Decoding}
use Rattle.caldurrex.specs.declared.fields.DecodedFields.{DecodedFields}

-- 0, the row count and the ceiling, or the refusal number and 0 in both
abbrev pub fields_of : Answer → DecodedFields
fields_of (decoded r top) = record { refusal = 0; rows = r; ceiling = top }
fields_of (refused_by k) = record { refusal = k; rows = 0; ceiling = pos 0 }

-- what C gets, and the lent slices as the call leaves them
pub record Returned : Type 0 where
  pub answer : DecodedFields
  pub left : Lent

abbrev pub returned : DecodedFields → Lent → Returned
returned a x = record { answer = a; left = x }

abbrev pub as_returned : Decoding → Returned
as_returned o = returned (fields_of o.answer) o.left
