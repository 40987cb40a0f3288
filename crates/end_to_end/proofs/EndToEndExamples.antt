-- A code of two words by computation: what is sent is received with a soft value of −2,048.
use Rattle.std.specs.Prelude.{refl, [], ◌∷◌, replicate, negsuc}
use Rattle.std.proofs.Common.{arith}
use Rattle.spec.specs.Bits.{bits_of, unpacked}
use Rattle.spec.specs.Transform.{transform}
use Rattle.spec.specs.Code.{frozen, frozen_bit, input_for, encoded}
use Rattle.spec.specs.Faults.{first, some}
use Rattle.spec.specs.Refusals.{past_end}
use Rattle.spec.specs.Outcome.{encode_refusal, encode_outcome, decode_refusal}
use Rattle.spec.specs.Examples.{frozen123}
use Rattle.laws.specs.Agreement.{for_0, for_1, none, more}
use Rattle.search.specs.CeilingExamples.{lent4}
use Rattle.end_to_end.specs.EndToEnd.{sent_is_received}
use Rattle.end_to_end.specs.EndToEndExamples.{softly, OneReceived}

-- At −2,048, as `sent_is_received` says.
pub one_received : OneReceived (negsuc 2047)
unfolding lent4 frozen123 bits_of unpacked transform frozen frozen_bit input_for encoded first some past_end encode_refusal encode_outcome decode_refusal
one_received = sent_is_received frozen123 (1 ∷ []) 1 (softly (negsuc 2047)) lent4 (replicate 4 9) (replicate 1 9) refl (more for_1 (more for_0 (more for_0 (more for_0 none)))) refl (omega arith)
