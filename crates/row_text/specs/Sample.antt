-- The sample of 01, "The program's output", by the definitions: the rows of its record, as text. Beside it a refusal, and a row and a line one with a negative number.
use Rattle.std.specs.Prelude.{◌≡◌, refl, [], ◌∷◌, negsuc}
use Rattle.spec.specs.Bits.{bits_of, unpacked}
use Rattle.spec.specs.Transform.{transform}
use Rattle.spec.specs.Code.{frozen, frozen_bit}
use Rattle.spec.specs.Score.{largest, score}
use Rattle.spec.specs.Decoder.{children, live_by, dropped_by, rows, ceiling_by}
use Rattle.spec.specs.Examples.{y₁, frozen01, decode, ceiling_at}
use Rattle.text.specs.BitText.{bit_text}
use Rattle.text.specs.Decimal.{digits, decimal}
use Rattle.row_text.specs.Output.{refused_text, frame_line, row_line}
use Rattle.row_text.specs.RowsText.{lines_of, text_of}

-- positions 0 and 1 frozen, soft values 5, -3, 2, 7, list size 2, stop position 4, frame 0:
-- `frame 0 rows 2 ceiling 13`, `0 13 0010 0110`, `1 11 0000 0000`
pub sample_text : text_of 0 (decode frozen01 y₁ 2 4) (ceiling_at frozen01 y₁ 2 4) ≡
    102 ∷ 114 ∷ 97 ∷ 109 ∷ 101 ∷ 32 ∷ 48 ∷ 32 ∷ 114 ∷ 111 ∷ 119 ∷ 115 ∷ 32 ∷ 50 ∷ 32 ∷ 99 ∷ 101 ∷ 105 ∷ 108 ∷ 105 ∷ 110 ∷ 103 ∷ 32 ∷ 49 ∷ 51 ∷ 10
    ∷ 48 ∷ 32 ∷ 49 ∷ 51 ∷ 32 ∷ 48 ∷ 48 ∷ 49 ∷ 48 ∷ 32 ∷ 48 ∷ 49 ∷ 49 ∷ 48 ∷ 10
    ∷ 49 ∷ 32 ∷ 49 ∷ 49 ∷ 32 ∷ 48 ∷ 48 ∷ 48 ∷ 48 ∷ 32 ∷ 48 ∷ 48 ∷ 48 ∷ 48 ∷ 10
    ∷ []
unfolding frozen01 y₁ text_of lines_of frame_line row_line bit_text decimal digits rows live_by dropped_by ceiling_by children score largest transform frozen frozen_bit unpacked bits_of
sample_text = refl

-- `refused 13`
pub refusal_text : refused_text 13 ≡ 114 ∷ 101 ∷ 102 ∷ 117 ∷ 115 ∷ 101 ∷ 100 ∷ 32 ∷ 49 ∷ 51 ∷ 10 ∷ []
unfolding refused_text decimal digits
refusal_text = refl

-- `3 -2047 1 0`
pub negative_text : row_line 3 (negsuc 2046) (1 ∷ []) (0 ∷ []) ≡ 51 ∷ 32 ∷ 45 ∷ 50 ∷ 48 ∷ 52 ∷ 55 ∷ 32 ∷ 49 ∷ 32 ∷ 48 ∷ 10 ∷ []
unfolding row_line bit_text decimal digits
negative_text = refl

-- `frame 7 rows 1 ceiling -40`
pub negative_ceiling_text : frame_line 7 1 (negsuc 39) ≡
    102 ∷ 114 ∷ 97 ∷ 109 ∷ 101 ∷ 32 ∷ 55 ∷ 32 ∷ 114 ∷ 111 ∷ 119 ∷ 115 ∷ 32 ∷ 49 ∷ 32 ∷ 99 ∷ 101 ∷ 105 ∷ 108 ∷ 105 ∷ 110 ∷ 103 ∷ 32 ∷ 45 ∷ 52 ∷ 48 ∷ 10 ∷ []
unfolding frame_line decimal digits
negative_ceiling_text = refl
