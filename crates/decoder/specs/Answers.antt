-- The decoder's answer, as the rules number it.
use Rattle.std.specs.Prelude.{Result, Ok, Err}
use Rattle.spec.specs.Outcome.{Answer, decoded, refused_by}
use Rattle.refusals.specs.declared.Refusal.{Refusal}
use Rattle.refusals.specs.Number.{number_of}
use Rattle.decoder.specs.declared.call.Decoded.{Decoded}

abbrev pub answer_of : Result Decoded Refusal → Answer
answer_of (Ok d) = decoded d.rows d.ceiling
answer_of (Err e) = refused_by (number_of e)
