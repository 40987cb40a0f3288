-- The answer of the call, as the rules number it.
use Rattle.std.specs.Prelude.{ℕ, Result, Ok, Err}
use Rattle.spec.specs.WordList.{Count, counted, refused_count}
use Rattle.refusals.specs.declared.Refusal.{Refusal}
use Rattle.refusals.specs.Number.{number_of}

abbrev pub answer_of : Result ℕ Refusal → Count
answer_of (Ok k) = counted k
answer_of (Err e) = refused_count (number_of e)
