-- What the program writes: 01, "The program's output", and the ceiling in line one: 02, wish 5. Every line ends with a line feed.
use Rattle.std.specs.Prelude.{List, [], ◌∷◌, ◌++◌, ℕ, zero, suc, ◌+◌, take, drop, get_or, ℤ, pos}
use Rattle.text.specs.BitText.{bit_text}
use Rattle.text.specs.Decimal.{decimal, signed_decimal}
use Rattle.text.specs.Words.{refused_word, space, line_feed}

-- `frame `, ` rows `, ` ceiling `
abbrev pub frame_word : List ℕ
frame_word = 102 ∷ 114 ∷ 97 ∷ 109 ∷ 101 ∷ 32 ∷ []

abbrev pub rows_word : List ℕ
rows_word = 32 ∷ 114 ∷ 111 ∷ 119 ∷ 115 ∷ 32 ∷ []

abbrev pub ceiling_word : List ℕ
ceiling_word = 32 ∷ 99 ∷ 101 ∷ 105 ∷ 108 ∷ 105 ∷ 110 ∷ 103 ∷ 32 ∷ []

-- a refusal: `refused`, one space and the number
unfoldable pub refused_text : ℕ → List ℕ
refused_text k = (refused_word ++ decimal k) ++ line_feed

-- line one: frame number, row count and ceiling
unfoldable pub frame_line : ℕ → ℕ → ℤ → List ℕ
frame_line frame rows top = (frame_word ++ decimal frame) ++ (rows_word ++ decimal rows) ++ (ceiling_word ++ signed_decimal top) ++ line_feed

-- a row: rank, score, input bits, code bits
unfoldable pub row_line : ℕ → ℤ → List ℕ → List ℕ → List ℕ
row_line rank score input word = (decimal rank ++ space ++ signed_decimal score) ++ (space ++ bit_text input ++ space ++ bit_text word) ++ line_feed

-- the lines of k rows from a rank on, whose n input bits, n code bits and score stand at the front of each list
unfoldable pub row_lines : ℕ → ℕ → ℕ → List ℕ → List ℕ → List ℤ → List ℕ
row_lines n rank zero inputs words scores = []
row_lines n rank (suc k) inputs words scores =
    row_line rank (get_or scores 0 (pos 0)) (take n inputs) (take n words) ++ row_lines n (rank + 1) k (drop n inputs) (drop n words) (drop 1 scores)

-- all that is written for a record that is decoded
unfoldable pub output_of : ℕ → ℕ → ℤ → ℕ → List ℕ → List ℕ → List ℤ → List ℕ
output_of frame rows top n inputs words scores = frame_line frame rows top ++ row_lines n 0 rows inputs words scores
