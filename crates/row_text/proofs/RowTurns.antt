-- The loop that writes a line for each row, as laws of lists and of the bytes that are left for it: one turn, and the end. Assumes nothing.
use mathlib.Core.Path.{◌≡◌, ap, ap₂, ◌∙◌}
use mathlib.Core.List.{List, [], ◌++◌}
use Prim.Native.Nat.{ℕ, suc, ◌+◌, ◌-◌, ◌*◌, ◌≤◌, ◌<◌}
use native.Mathlib.Nat.{suc-mul}
use native.Mathlib.Omega.{arith}
use lib.ListN.{take, drop, get_or}
use lib.Seq.{drop-drop, get_or-drop}
use lib.IntN.{ℤ, pos}
use Rattle.place.specs.Put.{Put, put_same}
use Rattle.row_text.specs.Output.{row_line, row_lines}

-- what the rows from a rank on take, k each: the row at the rank and those behind it
pub one_less : (rows rank k : ℕ) → rank < rows → (rows - rank) * k ≡ (rows - (rank + 1)) * k + k
one_less rows rank k h = let e : rows - rank ≡ suc (rows - (rank + 1)) = omega arith in ap (λ (i : ℕ). i * k) e ∙ suc-mul (rows - (rank + 1)) k

module _ (n rows rank from : ℕ) (inputs words : List ℕ) (scores : List ℤ) where
  pub row_turn : rank < rows
      → row_lines n rank (rows - rank) (drop from inputs) (drop from words) (drop rank scores)
      ≡ row_line rank (get_or scores rank (pos 0)) (take n (drop from inputs)) (take n (drop from words))
      ++ row_lines n (rank + 1) (rows - (rank + 1)) (drop (from + n) inputs) (drop (from + n) words) (drop (rank + 1) scores)
  unfolding row_lines
  row_turn h =
      let k : rows - rank ≡ suc (rows - (rank + 1)) = omega arith in
      let z : rank + 0 ≡ rank = omega arith in
      let score : get_or (drop rank scores) 0 (pos 0) ≡ get_or scores rank (pos 0) = get_or-drop rank scores 0 (pos 0) ∙ ap (λ (i : ℕ). get_or scores i (pos 0)) z in
      rw (k, score, drop-drop n from inputs, drop-drop n from words, drop-drop 1 rank scores)

  -- the line of this row, written with a score and a number of bits that are the row's
  pub row_put : {at next : ℕ} {t u : List ℕ} (z : ℤ) (k : ℕ) → z ≡ get_or scores rank (pos 0) → k ≡ n
      → Put at (row_line rank z (take k (drop from inputs)) (take k (drop from words))) t next u
      → Put at (row_line rank (get_or scores rank (pos 0)) (take n (drop from inputs)) (take n (drop from words))) t next u
  row_put z k e h p = put_same p (ap₂ (λ (z : ℤ) (k : ℕ). row_line rank z (take k (drop from inputs)) (take k (drop from words))) e h)

  pub rows_done : rows ≤ rank → row_lines n rank (rows - rank) (drop from inputs) (drop from words) (drop rank scores) ≡ []
  unfolding row_lines
  rows_done h = let k : rows - rank ≡ 0 = omega arith in rw k
