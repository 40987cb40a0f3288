-- The lines of the shift log: 02, wish 12. Each has 43 columns, and a line feed behind them.
use Rattle.std.specs.Prelude.{List, [], ◌∷◌, ◌++◌, ℕ, ℤ, ◌-ℤ◌}
use Rattle.spec.specs.ResultRecord.{first_score}
use Rattle.text.specs.Decimal.{decimal, signed_decimal}
use Rattle.text.specs.Words.{refused_word, space, line_feed}
use Rattle.columns.specs.Columns.{spaces, right, left}

-- first minus second score; `-` where there is one row
unfoldable pub lead : List ℤ → List ℕ
lead [] = 45 ∷ []
lead (y ∷ []) = 45 ∷ []
lead (y ∷ z ∷ ys) = signed_decimal (y -ℤ z)

-- two numbers that are counts, the first in 10 columns and the second in 6
abbrev pub counts : ℕ → ℕ → List ℕ
counts a b = right 10 (decimal a) ++ space ++ right 6 (decimal b)

-- a record that was read: frame 10, space, rows 6, space, first score 12, space, first minus second score 12
unfoldable pub result_line : ℕ → ℕ → List ℤ → List ℕ
result_line frame rows scores =
    counts frame rows ++ (space ++ right 12 (signed_decimal (first_score scores))) ++ (space ++ right 12 (lead scores)) ++ line_feed

-- one that was refused: `refused`, one space and the number, filled to 43 with spaces
unfoldable pub refused_line : ℕ → List ℕ
refused_line k = left 43 (refused_word ++ decimal k) ++ line_feed

-- the last line: the number of records in the 10, the sum of their row counts in the 6, then 26 spaces
unfoldable pub last_line : ℕ → ℕ → List ℕ
last_line records rows = counts records rows ++ spaces 26 ++ line_feed
