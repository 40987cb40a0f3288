-- What the program writes for its input: 01, "The program's output".
use Rattle.std.specs.Prelude.{List, ◌∷◌, ◌++◌, ℕ, ltb, length, ℤ}
use Rattle.spec.specs.Code.{code_transform}
use Rattle.spec.specs.Score.{taken}
use Rattle.spec.specs.Decoder.{Row, rows, ceiling}
use Rattle.spec.specs.Faults.{Fault, fault, first, settled}
use Rattle.spec.specs.Record.{positions, list_size, stop_position, frame_number, record_code, record_soft, shape_faults, field_faults}
use Rattle.row_text.specs.Output.{refused_text}
use Rattle.row_text.specs.RowsText.{text_of}
use Rattle.block_output.specs.Block.{limit_faults}

-- what a record is refused for, and 8 if it is good; its map, its soft values and its pairs have 128 bytes, 1,024 numbers and 1,024 bytes,
-- room for every record
abbrev pub record_faults : List ℕ → List Fault
record_faults s = (shape_faults s ++ field_faults s 128 1024 1024) ++ limit_faults (positions s) (list_size s)

-- 13 above 4,096 bytes, before any other
abbrev pub program_faults : List ℕ → List Fault
program_faults s = fault 13 (ltb 4096 (length s)) ∷ record_faults s

-- the rows and the ceiling of the paper decoder for a record, which sees its soft values as they are taken
abbrev pub record_rows : List ℕ → List Row
record_rows s = rows (code_transform (record_code s)) (record_code s) (taken (record_soft s)) (list_size s) (stop_position s)

abbrev pub record_ceiling : List ℕ → ℤ
record_ceiling s = ceiling (code_transform (record_code s)) (record_code s) (taken (record_soft s)) (list_size s) (stop_position s)

-- a refusal, or a line for the frame and one for each row
unfoldable pub program_output : List ℕ → List ℕ
program_output s = settled (first (program_faults s)) refused_text (text_of (frame_number s) (record_rows s) (record_ceiling s))
