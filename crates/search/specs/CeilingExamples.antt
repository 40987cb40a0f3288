-- The ceiling by 01's sixth example and by three more codes with the same soft values, one with a pair and one with Arikan's transform: the first score alone is
-- no bound on the words of a code, and a ceiling above the first score does not say that a longer list would gain.
use Rattle.std.specs.Prelude.{◌≡◌, refl, true, false, List, [], ◌∷◌, ℕ, replicate, ℤ, pos, negsuc}
use Rattle.std.proofs.Common.{arith}
use Rattle.spec.specs.Bits.{nil, cons, bits_of, unpacked}
use Rattle.spec.specs.Transform.{transform, arikan_transform}
use Rattle.spec.specs.Code.{Code, code, size, frozen, frozen_bit, input_for, encoded}
use Rattle.spec.specs.Score.{largest, score}
use Rattle.spec.specs.Decoder.{Row, children, live_by, dropped_by, ceiling_by, rows}
use Rattle.spec.specs.Faults.{first, some}
use Rattle.spec.specs.Refusals.{past_end}
use Rattle.spec.specs.Outcome.{Lent, lent, decode_refusal, decode_served, decode_outcome}
use Rattle.spec.specs.Examples.{word4, y₂, frozen123}
use Rattle.laws.specs.DecodeCall.{AcceptedCall}
use Rattle.search.specs.FirstRow.{first_row}
use Rattle.search.specs.FirstRowExamples.{row, followed}
use Rattle.search.specs.Ceiling.{ceiling_of, NoneAbove, BestRow}

-- a code of four positions with 1 and 2 frozen
unfoldable pub frozen12 : Code
frozen12 = code 2 false (6 ∷ []) []

-- what is lent for n = 4 and l = 4
unfoldable pub lent4 : Lent
lent4 = lent (replicate 512 9) (replicate 1088 9) (replicate 16 9) (replicate 16 9) (replicate 4 (pos 9))

-- the first row and the ceiling of a call with y = (1, −5, 2, 2) and list size l at stop n
abbrev pub found : Code → ℕ → Row × ℤ
found c l = let o = decode_outcome c l (size c) y₂ lent4 in (first_row (size c) o, ceiling_of o.answer)

-- Frozen 1, 2 and 3: list size 2 gains, and the ceiling of list size 1 is above its first score. Frozen 1 and 2: it is above it too, and
-- the first row is the same with list sizes 2 and 4.
pub first_rows_and_ceilings : found frozen123 1 ∷ found frozen123 2 ∷ found frozen12 1 ∷ found frozen12 2 ∷ found frozen12 4 ∷ [] ≡
    (row (word4 1 0 0 0) (word4 1 0 0 0) (negsuc 1), pos 8)
    ∷ (row (word4 0 0 0 0) (word4 0 0 0 0) (pos 0), pos 0)
    ∷ (row (word4 1 0 0 1) (word4 0 1 1 1) (pos 2), pos 8)
    ∷ (row (word4 1 0 0 1) (word4 0 1 1 1) (pos 2), pos 2)
    ∷ (row (word4 1 0 0 1) (word4 0 1 1 1) (pos 2), pos 2)
    ∷ []
unfolding frozen12 lent4 y₂ frozen123 bits_of unpacked transform frozen frozen_bit largest score children live_by dropped_by ceiling_by rows first some past_end decode_refusal decode_served decode_outcome
first_rows_and_ceilings = refl

-- the statement of `first_row_is_best` the other way round: where the first row is a best word, the ceiling is its score
abbrev pub Converse : Type 0
Converse = (c : Code) (l : ℕ) (soft : List ℤ) (x : Lent) → AcceptedCall c l (size c) soft x → BestRow c soft (first_row (size c) (decode_outcome c l (size c) soft x))
    → ceiling_of (decode_outcome c l (size c) soft x).answer ≡ (first_row (size c) (decode_outcome c l (size c) soft x)).score

-- the statement of `no_code_word_above` for the first score alone
abbrev pub FirstScoreAlone : Type 0
FirstScoreAlone = (c : Code) (l p : ℕ) (soft : List ℤ) (x : Lent) → AcceptedCall c l p soft x → NoneAbove c soft (first_row (size c) (decode_outcome c l p soft x)).score

-- is false: with frozen 1, 2 and 3 the word of payload 0 correlates at 0, above −2
pub not_the_first_score_alone : FirstScoreAlone → ⊥
unfolding lent4 y₂ frozen123 bits_of unpacked transform frozen frozen_bit input_for encoded largest score children live_by rows first some past_end decode_refusal decode_served decode_outcome
not_the_first_score_alone claim = claim frozen123 1 4 y₂ lent4 refl (0 ∷ []) refl (cons (omega arith) nil)

-- Frozen 2, which follows 1: list size 2 gains, and by its ceiling none gains more.
pub with_pair : found followed 1 ∷ found followed 2 ∷ [] ≡
    (row (word4 1 1 1 1) (word4 1 1 0 1) (pos 4), pos 8)
    ∷ (row (word4 0 1 1 1) (word4 0 1 0 1) (pos 6), pos 6)
    ∷ []
unfolding followed lent4 y₂ bits_of unpacked transform frozen frozen_bit largest score children live_by dropped_by ceiling_by rows first some past_end decode_refusal decode_served decode_outcome
with_pair = refl

-- frozen 1, 2 and 3 with Arikan's transform: list size 2 gains there too
unfoldable pub arikan123 : Code
arikan123 = code 2 true (14 ∷ []) []

pub with_arikan_lem : found arikan123 1 ∷ found arikan123 2 ∷ [] ≡
    (row (word4 1 0 0 0) (word4 1 0 0 0) (negsuc 1), pos 8)
    ∷ (row (word4 0 0 0 0) (word4 0 0 0 0) (pos 0), pos 0)
    ∷ []
unfolding arikan123 lent4 y₂ bits_of unpacked arikan_transform frozen frozen_bit largest score children live_by dropped_by ceiling_by rows first some past_end decode_refusal decode_served decode_outcome
with_arikan_lem = refl
