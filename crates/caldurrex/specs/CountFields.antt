-- The answer of the list of words as a host written in C gets it, which has no enum.
use Rattle.spec.specs.Outcome.{Lent}
use Rattle.spec.specs.WordList.{Count, counted, refused_count, Listing}
use Rattle.caldurrex.specs.declared.counted.CountedFields.{CountedFields}

-- 0 and the count, or the refusal number and 0
abbrev pub count_fields_of : Count → CountedFields
count_fields_of (counted k) = record { refusal = 0; count = k }
count_fields_of (refused_count k) = record { refusal = k; count = 0 }

-- what C gets, and the lent slices as the call leaves them
pub record ReturnedCount : Type 0 where
  pub answer : CountedFields
  pub left : Lent

abbrev pub returned_count : CountedFields → Lent → ReturnedCount
returned_count a x = record { answer = a; left = x }

abbrev pub as_returned_count : Listing → ReturnedCount
as_returned_count o = returned_count (count_fields_of o.answer) o.left
