-- A code of two words by computation: what one soft value of 0 does, and that −2,048 counts as −2,047.
use Rattle.std.specs.Prelude.{◌≡◌, refl, List, [], ◌∷◌, ℕ, get_or, replicate, ℤ, pos, negsuc}
use Rattle.std.proofs.Common.{ap, arith}
use Rattle.spec.specs.Bits.{bits_of, unpacked}
use Rattle.spec.specs.Transform.{transform}
use Rattle.spec.specs.Code.{frozen, frozen_bit, input_for, encoded}
use Rattle.spec.specs.Score.{largest, score}
use Rattle.spec.specs.Decoder.{Row, children, live_by, dropped_by, ceiling_by, rows}
use Rattle.spec.specs.Faults.{first, some}
use Rattle.spec.specs.Refusals.{past_end}
use Rattle.spec.specs.Outcome.{encode_refusal, encode_outcome, decode_refusal, decode_served, decode_outcome}
use Rattle.spec.specs.Examples.{word4, frozen123}
use Rattle.laws.specs.Agreement.{for_0, Allows, neutral, favoured, none, more}
use Rattle.search.specs.FirstRow.{first_row}
use Rattle.search.specs.FirstRowExamples.{row}
use Rattle.search.specs.Ceiling.{ceiling_of}
use Rattle.search.specs.CeilingExamples.{lent4}
use Rattle.end_to_end.specs.EndToEnd.{Received, ReceivedIf}

-- the first soft value is z and the others are 1
abbrev pub softly : ℤ → List ℤ
softly z = z ∷ pos 1 ∷ pos 1 ∷ pos 1 ∷ []

-- with 1, 2 and 3 frozen the words are 0000 and 1000: the first row and the ceiling at stop n and list size 1
abbrev pub found : ℤ → Row × ℤ
found z = let o = decode_outcome frozen123 1 4 (softly z) lent4 in (first_row 4 o, ceiling_of o.answer)

-- Below 0 it says 1000, and −2,048 scores as −2,047 does. At 0 both words reach the sum of the magnitudes, and the one with 0 comes first.
pub by_first_value : found (negsuc 0) ∷ found (negsuc 2046) ∷ found (negsuc 2047) ∷ found (pos 0) ∷ [] ≡
    (row (word4 1 0 0 0) (word4 1 0 0 0) (pos 4), pos 4)
    ∷ (row (word4 1 0 0 0) (word4 1 0 0 0) (pos 2050), pos 2050)
    ∷ (row (word4 1 0 0 0) (word4 1 0 0 0) (pos 2050), pos 2050)
    ∷ (row (word4 0 0 0 0) (word4 0 0 0 0) (pos 3), pos 3)
    ∷ []
unfolding lent4 frozen123 bits_of unpacked transform frozen frozen_bit largest score children live_by dropped_by ceiling_by rows first some past_end decode_refusal decode_served decode_outcome
by_first_value = refl

-- payload 1, sent and received so
abbrev pub OneReceived : ℤ → Type 0
OneReceived z = Received frozen123 (1 ∷ []) (replicate 4 9) (softly z) (decode_outcome frozen123 1 4 (softly z) lent4) (replicate 1 9)

-- At 0 payload 1 is not received so: `sent_is_received` does not hold where soft values may also be 0.
pub zero_decides_nothing : ReceivedIf Allows → ⊥
unfolding lent4 frozen123 bits_of unpacked transform frozen frozen_bit input_for encoded largest score children live_by rows first some past_end encode_refusal encode_outcome decode_refusal decode_served decode_outcome
zero_decides_nothing claim =
    let one : OneReceived (pos 0)
    = claim frozen123 (1 ∷ []) 1 (softly (pos 0)) lent4 (replicate 4 9) (replicate 1 9)
    refl (more neutral (more (favoured for_0) (more (favoured for_0) (more (favoured for_0) none)))) refl (omega arith) in
    let bits : ◌≡◌ {A = ℕ} 0 1 = ap (λ (r : Row). get_or r.input 0 0) one.row in
    absurd (omega (arith, bits))
