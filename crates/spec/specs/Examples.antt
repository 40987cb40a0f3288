-- The starred examples of document 01, as one table: what the definitions give beside what 01 states. n = 4 unless said.
use Rattle.std.specs.Prelude.{◌≡◌, refl, true, false, List, [], ◌∷◌, map, ℕ, replicate, ℤ, pos, negsuc}
use Rattle.spec.specs.Bits.{bits_of, unpacked}
use Rattle.spec.specs.Transform.{transform, inverse, arikan_transform, arikan_inverse}
use Rattle.spec.specs.Code.{Code, code, frozen, frozen_bit, input_for, broken, code_transform, encoded, input_of, extracted}
use Rattle.spec.specs.Score.{taken, largest, score}
use Rattle.spec.specs.Decoder.{Row, children, live_by, dropped_by, rows, ceiling_by, ceiling}
use Rattle.spec.specs.Faults.{first, some}
use Rattle.spec.specs.Refusals.{past_end, room}
use Rattle.spec.specs.Outcome.{Written, written, encode_refusal, encode_outcome, extract_refusal, extract_outcome, lent, decode_refusal, decode_served, decode_outcome}

pub data Value : Type 0 where
  words : List (List ℕ) → Value
  call : Written → Value
  scores : List ℤ → Value
  decoded : List (List ℕ × ℤ) → Value

pub record Example : Type 0 where
  pub found : Value
  pub stated : Value

infix 10 ◌is◌
abbrev pub ◌is◌ : Value → Value → Example
v is w = record { found = v; stated = w }

abbrev pub word4 : ℕ → ℕ → ℕ → ℕ → List ℕ
word4 a b c d = a ∷ b ∷ c ∷ d ∷ []

-- y = (5, −3, 2, 7), and y = (1, −5, 2, 2)
unfoldable pub y₁ : List ℤ
y₁ = pos 5 ∷ negsuc 2 ∷ pos 2 ∷ pos 7 ∷ []

unfoldable pub y₂ : List ℤ
y₂ = pos 1 ∷ negsuc 4 ∷ pos 2 ∷ pos 2 ∷ []

unfoldable pub y₀ : List ℤ
y₀ = pos 0 ∷ pos 0 ∷ pos 0 ∷ pos 0 ∷ []

-- four times −2,048
unfoldable pub yₘ : List ℤ
yₘ = replicate 4 (negsuc 2047)

-- codes of four positions by their map: frozen 0 and 1; frozen 1, 2 and 3; nothing frozen
unfoldable pub frozen01 : Code
frozen01 = code 2 false (3 ∷ []) []

unfoldable pub frozen123 : Code
frozen123 = code 2 false (14 ∷ []) []

unfoldable pub none_frozen : Code
none_frozen = code 2 false (0 ∷ []) []

-- frozen 0, 2 and 3 with these pairs
abbrev pub paired : List ℕ → Code
paired pairs = code 2 false (13 ∷ []) pairs

-- (2, 1), (3, 1) and (3, 2): the bit at 2 is that at 1, the bit at 3 the sum of both, which is 0
unfoldable pub summed : Code
summed = paired (2 ∷ 0 ∷ 1 ∷ 0 ∷ 3 ∷ 0 ∷ 1 ∷ 0 ∷ 3 ∷ 0 ∷ 2 ∷ 0 ∷ [])

-- the codes of frozen 0 and 1, and of `summed`, with Arikan's transform
unfoldable pub arikan01 : Code
arikan01 = code 2 true (3 ∷ []) []

unfoldable pub arikan_summed : Code
arikan_summed = code 2 true summed.map summed.pairs

-- the words whose input has a single 1
unfoldable pub units : List (List ℕ)
units = word4 1 0 0 0 ∷ word4 0 1 0 0 ∷ word4 0 0 1 0 ∷ word4 0 0 0 1 ∷ []

abbrev pub shown : Row → List ℕ × ℤ
shown r = (r.input, r.score)

-- the rows of the paper decoder, and their scores alone
abbrev pub decode : Code → List ℤ → ℕ → ℕ → List Row
decode c y l p = rows (code_transform c) c y l p

abbrev pub scores_of : List Row → List ℤ
scores_of = map (λ (r : Row). r.score)

-- its ceiling
abbrev pub ceiling_at : Code → List ℤ → ℕ → ℕ → ℤ
ceiling_at c y l p = ceiling (code_transform c) c y l p

unfoldable pub table : List Example
table =
    (words (map (transform 2) units)
    is words (word4 1 0 0 0 ∷ word4 1 1 0 0 ∷ word4 0 1 1 0 ∷ word4 1 1 1 1 ∷ []))
    -- 01's table entries 64 and 128, by 02, wish 4, as words of length 8: the bits of each number, lowest first
    ∷ (words (map (λ (x : ℕ). transform 3 (bits_of 8 x)) (64 ∷ 128 ∷ [])) is words (map (bits_of 8) (105 ∷ 255 ∷ [])))
    ∷ (call (encode_outcome frozen01 (1 ∷ 1 ∷ []) (word4 9 9 9 9)) is call (written 0 (word4 1 0 0 1)))
    ∷ (call (extract_outcome frozen01 (word4 1 0 0 1) (9 ∷ 9 ∷ [])) is call (written 0 (1 ∷ 1 ∷ [])))
    ∷ (scores (map (score (transform 2) 4 y₁) ([] ∷ (0 ∷ []) ∷ (0 ∷ 0 ∷ []) ∷ [])) is scores (pos 17 ∷ pos 13 ∷ pos 13 ∷ []))
    ∷ (decoded (map shown (decode frozen01 y₁ 1 4)) is decoded ((word4 0 0 1 0, pos 13) ∷ []))
    ∷ (scores (scores_of (decode frozen01 y₁ 4 4)) is scores (pos 13 ∷ pos 11 ∷ negsuc 10 ∷ negsuc 12 ∷ []))
    ∷ (decoded (map shown (decode frozen123 y₂ 1 4)) is decoded ((word4 1 0 0 0, negsuc 1) ∷ []))
    ∷ (decoded (map shown (decode frozen123 y₂ 2 4)) is decoded ((word4 0 0 0 0, pos 0) ∷ (word4 1 0 0 0, negsuc 1) ∷ []))
    ∷ (decoded (map shown (decode none_frozen y₀ 2 4)) is decoded ((word4 0 0 0 0, pos 0) ∷ (word4 0 0 0 1, pos 0) ∷ []))
    ∷ (decoded (map shown (decode none_frozen y₁ 2 0)) is decoded ((word4 0 0 0 0, pos 17) ∷ []))
    -- 02, wish 1: −2,048 is taken as −2,047, in the scores too; 7 is for −2,049 and 2,048, not for −2,048 and 2,047
    ∷ (scores (taken (negsuc 2047 ∷ negsuc 2046 ∷ pos 2047 ∷ [])) is scores (negsuc 2046 ∷ negsuc 2046 ∷ pos 2047 ∷ []))
    ∷ (scores (decode_outcome none_frozen 1 4 yₘ (lent (replicate 128 9) (replicate 272 9) (word4 9 9 9 9) (word4 9 9 9 9) (pos 9 ∷ []))).left.scores
    is scores (pos 8188 ∷ []))
    ∷ (words (map (λ (y : ℤ). decode_refusal none_frozen 1 4 (y ∷ y ∷ y ∷ y ∷ []) (room 128 272 4 4 1) ∷ []) (negsuc 2048 ∷ negsuc 2047 ∷ pos 2047 ∷ pos 2048 ∷ []))
    is words ((7 ∷ []) ∷ (0 ∷ []) ∷ (0 ∷ []) ∷ (7 ∷ []) ∷ []))
    -- 02, wish 5: the ceiling of 01's sixth example, frozen 1, 2 and 3, is 8 at l = 1; at l = 2 it is 0, the first row's score. At p = 0 it
    -- is the sum of the magnitudes.
    ∷ (scores (ceiling_at frozen123 y₂ 1 4 ∷ ceiling_at frozen123 y₂ 2 4 ∷ ceiling_at none_frozen y₁ 2 0 ∷ []) is scores (pos 8 ∷ pos 0 ∷ pos 17 ∷ []))
    -- 02, wish 6: the encoder fills the bits that follow others; the extractor refuses 1000 and 1100 with 12, since their inputs 1000 and 0100
    -- break a rule; each path goes on with its own sum
    ∷ (words (map (input_for summed) ((0 ∷ []) ∷ (1 ∷ []) ∷ [])) is words (word4 0 0 0 0 ∷ word4 0 1 1 0 ∷ []))
    ∷ (call (encode_outcome summed (1 ∷ []) (word4 9 9 9 9)) is call (written 0 (word4 1 0 1 0)))
    ∷ (call (extract_outcome summed (word4 1 0 1 0) (9 ∷ [])) is call (written 0 (1 ∷ [])))
    ∷ (words (map (λ (w : List ℕ). extract_refusal summed w 1 ∷ []) (word4 1 0 0 0 ∷ word4 1 1 0 0 ∷ word4 0 0 0 0 ∷ [])) is words ((12 ∷ []) ∷ (12 ∷ []) ∷ (0 ∷ []) ∷ []))
    ∷ (decoded (map shown (decode summed y₁ 2 4)) is decoded ((word4 0 0 0 0, pos 11) ∷ (word4 0 1 1 0, negsuc 2) ∷ []))
    -- 15: f clear, past n, e = f, a pair twice, falling, a part of a pair; then none; and 3 before it, 6 after it
    ∷ (words (map (λ (ps : List ℕ). encode_refusal (paired ps) (1 ∷ []) 4 ∷ [])
    ((1 ∷ 0 ∷ 0 ∷ 0 ∷ []) ∷ (4 ∷ 0 ∷ 0 ∷ 0 ∷ []) ∷ (2 ∷ 0 ∷ 2 ∷ 0 ∷ []) ∷ (2 ∷ 0 ∷ 1 ∷ 0 ∷ 2 ∷ 0 ∷ 1 ∷ 0 ∷ []) ∷ (3 ∷ 0 ∷ 0 ∷ 0 ∷ 2 ∷ 0 ∷ 1 ∷ 0 ∷ []) ∷ (2 ∷ 0 ∷ 1 ∷ []) ∷ (3 ∷ 0 ∷ 2 ∷ 0 ∷ []) ∷ []))
    is words ((15 ∷ []) ∷ (15 ∷ []) ∷ (15 ∷ []) ∷ (15 ∷ []) ∷ (15 ∷ []) ∷ (15 ∷ []) ∷ (0 ∷ []) ∷ []))
    ∷ (words ((encode_refusal (code 2 false (29 ∷ []) (2 ∷ [])) [] 4 ∷ []) ∷ (encode_refusal (paired (2 ∷ [])) [] 4 ∷ []) ∷ []) is words ((3 ∷ []) ∷ (15 ∷ []) ∷ []))
    -- 02, wish 13: Arikan's transform of 0010 is 1010, and its inverse takes it back; encoder, extractor and paper decoder use the transform
    -- that the code selects, also where bits follow others
    ∷ (words (map (arikan_transform 2) units) is words (word4 1 0 0 0 ∷ word4 1 1 0 0 ∷ word4 1 0 1 0 ∷ word4 1 1 1 1 ∷ []))
    ∷ (words (map (arikan_inverse 2) (word4 1 0 0 0 ∷ word4 1 1 0 0 ∷ word4 1 0 1 0 ∷ word4 1 1 1 1 ∷ [])) is words units)
    ∷ (words (arikan_transform 3 (bits_of 8 16) ∷ arikan_transform 3 (bits_of 8 2) ∷ []) is words (bits_of 8 17 ∷ bits_of 8 3 ∷ []))
    ∷ (call (encode_outcome arikan01 (1 ∷ 1 ∷ []) (word4 9 9 9 9)) is call (written 0 (word4 0 1 0 1)))
    ∷ (call (extract_outcome arikan01 (word4 0 1 0 1) (9 ∷ 9 ∷ [])) is call (written 0 (1 ∷ 1 ∷ [])))
    ∷ (words (map (λ (w : List ℕ). extract_refusal arikan01 w 2 ∷ []) (word4 1 0 0 1 ∷ word4 1 0 1 0 ∷ [])) is words ((12 ∷ []) ∷ (0 ∷ []) ∷ []))
    ∷ (decoded (map shown (decode arikan01 y₁ 4 4))
    is decoded ((word4 0 0 0 0, pos 11) ∷ (word4 0 0 1 1, pos 3) ∷ (word4 0 0 1 0, negsuc 2) ∷ (word4 0 0 0 1, negsuc 10) ∷ []))
    ∷ (call (encode_outcome arikan_summed (1 ∷ []) (word4 9 9 9 9)) is call (written 0 (word4 0 1 1 0)))
    ∷ []

pub starred_examples : map (λ (e : Example). e.found) table ≡ map (λ (e : Example). e.stated) table
unfolding table units y₀ y₁ y₂ yₘ frozen01 frozen123 none_frozen summed arikan01 arikan_summed bits_of unpacked transform inverse arikan_transform arikan_inverse frozen frozen_bit input_for broken encoded input_of extracted largest score children live_by dropped_by rows ceiling_by first some past_end encode_refusal encode_outcome extract_refusal extract_outcome decode_refusal decode_served decode_outcome
starred_examples = refl
