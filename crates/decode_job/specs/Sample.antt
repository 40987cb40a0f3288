-- The sample of 01, "The program's output", and inputs that are refused, by the definitions.
use Rattle.std.specs.Prelude.{◌≡◌, refl, List, [], ◌∷◌, map, ℕ, replicate}
use Rattle.spec.specs.Bits.{bits_of, unpacked}
use Rattle.spec.specs.Transform.{transform}
use Rattle.spec.specs.Code.{frozen, frozen_bit}
use Rattle.spec.specs.Faults.{first, some}
use Rattle.spec.specs.Refusals.{past_end}
use Rattle.spec.specs.Record.{soft_from}
use Rattle.spec.specs.Score.{largest, score}
use Rattle.spec.specs.Decoder.{children, live_by, dropped_by, rows, ceiling_by}
use Rattle.spec.specs.RecordExample.{sample}
use Rattle.text.specs.BitText.{bit_text}
use Rattle.text.specs.Decimal.{digits, decimal}
use Rattle.row_text.specs.Output.{frame_line, row_line}
use Rattle.row_text.specs.RowsText.{lines_of, text_of}
use Rattle.decode_job.specs.ProgramOutput.{program_faults, program_output}

-- `frame 0 rows 2 ceiling 13`, `0 13 0010 0110`, `1 11 0000 0000`
pub sample_output : program_output sample ≡
    102 ∷ 114 ∷ 97 ∷ 109 ∷ 101 ∷ 32 ∷ 48 ∷ 32 ∷ 114 ∷ 111 ∷ 119 ∷ 115 ∷ 32 ∷ 50 ∷ 32 ∷ 99 ∷ 101 ∷ 105 ∷ 108 ∷ 105 ∷ 110 ∷ 103 ∷ 32 ∷ 49 ∷ 51 ∷ 10
    ∷ 48 ∷ 32 ∷ 49 ∷ 51 ∷ 32 ∷ 48 ∷ 48 ∷ 49 ∷ 48 ∷ 32 ∷ 48 ∷ 49 ∷ 49 ∷ 48 ∷ 10
    ∷ 49 ∷ 32 ∷ 49 ∷ 49 ∷ 32 ∷ 48 ∷ 48 ∷ 48 ∷ 48 ∷ 32 ∷ 48 ∷ 48 ∷ 48 ∷ 48 ∷ 10
    ∷ []
unfolding sample program_output text_of lines_of frame_line row_line bit_text decimal digits rows live_by dropped_by ceiling_by children score largest transform frozen frozen_bit unpacked bits_of first some past_end soft_from
sample_output = refl

-- an empty input, one that begins with 20 hex, one of 4,097 bytes that begins so, and a good record of four positions and five rows
abbrev pub refusal_of : List ℕ → ℕ
refusal_of s = first (program_faults s)

unfoldable pub inputs : List (List ℕ)
inputs = [] ∷ (32 ∷ []) ∷ replicate 4097 32 ∷ (1 ∷ 2 ∷ 5 ∷ 3 ∷ 5 ∷ 0 ∷ 253 ∷ 255 ∷ 2 ∷ 0 ∷ 7 ∷ 0 ∷ []) ∷ []

pub refused_inputs : map refusal_of inputs ≡ 13 ∷ 14 ∷ 13 ∷ 8 ∷ []
unfolding inputs first some past_end frozen unpacked bits_of soft_from
refused_inputs = refl
