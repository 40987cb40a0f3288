-- The text of the paper decoder's rows and ceiling, with no slice in sight, and that the program writes it from slices that hold these rows.
-- Beside it the sample of 01, "The program's output".
use Rattle.std.specs.Prelude.{◌≡◌, refl, List, [], ◌∷◌, ◌++◌, map, ℕ, ◌+◌, ◌-◌, ◌^◌, ◌≤◌, length, take, drop, replicate, ℤ}
use Rattle.std.proofs.Common.{ap, append_assoc, arith, take_at, drop_at}
use Rattle.spec.specs.Code.{Code, size, code_transform}
use Rattle.spec.specs.Decoder.{Row, row_of, live, rows}
use Rattle.spec.specs.Refusals.{Room}
use Rattle.spec.specs.Outcome.{concat, Lent, decoded_rows}
use Rattle.laws.specs.CodeTransform.{length_transformed}
use Rattle.laws.specs.ListCost.{All, none, more, Long, filled_long, live_long}
use Rattle.row_text.specs.Output.{frame_line, row_line, row_lines, output_of}

-- a line for each row by rank, behind line one
unfoldable pub lines_of : ℕ → List Row → List ℕ
lines_of rank [] = []
lines_of rank (r ∷ rs) = row_line rank r.score r.input r.word ++ lines_of (rank + 1) rs

unfoldable pub text_of : ℕ → List Row → ℤ → List ℕ
text_of frame rs top = frame_line frame (length rs) top ++ lines_of 0 rs

-- ---- rows of n bits, one behind the other, are found again
abbrev pub Wide : ℕ → Row → Type 0
Wide n r = (length r.input ≡ n) × (length r.word ≡ n)

first_part : (x xs a : List ℕ) (n : ℕ) → length x ≡ n → (take n ((x ++ xs) ++ a) ≡ x) × (drop n ((x ++ xs) ++ a) ≡ xs ++ a)
first_part x xs a n e = (rw (append_assoc x xs a) (take_at x (xs ++ a) n e), rw (append_assoc x xs a) (drop_at x (xs ++ a) n e))

lines_back : (n rank : ℕ) (rs : List Row) → All (Wide n) rs → (a b : List ℕ) (d : List ℤ)
    → row_lines n rank (length rs) (concat (map (λ (r : Row). r.input) rs) ++ a) (concat (map (λ (r : Row). r.word) rs) ++ b) (map (λ (r : Row). r.score) rs ++ d)
    ≡ lines_of rank rs
unfolding row_lines lines_of
lines_back n rank [] none a b d = refl
lines_back n rank (r ∷ rs) (more w all) a b d =
    let i = first_part r.input (concat (map (λ (r : Row). r.input) rs)) a n w.0 in
    let o = first_part r.word (concat (map (λ (r : Row). r.word) rs)) b n w.1 in
    rw (i.0, i.1, o.0, o.1) (ap (λ (l : List ℕ). row_line rank r.score r.input r.word ++ l) (lines_back n (rank + 1) rs all a b d))

-- rows in slices of any lengths, as a decoder call leaves them, with any ceiling
pub output_of_rows : (frame n : ℕ) (rs : List Row) (top : ℤ) → All (Wide n) rs → (r : Room) → let x : Lent = (decoded_rows r rs top).left in
    output_of frame (length rs) top n x.inputs x.words x.scores ≡ text_of frame rs top
unfolding output_of text_of
output_of_rows frame n rs top w r = ap (λ (l : List ℕ). frame_line frame (length rs) top ++ l) (lines_back n 0 rs w _ _ _)

-- ---- the paper decoder's rows have n bits
module _ (c : Code) (y : List ℤ) (l p : ℕ) (h : p ≤ size c) where
  wide : (ws : List (List ℕ)) → All (Long p) ws → All (Wide (size c)) (map (row_of (code_transform c) c y l) ws)
  wide [] none = none
  wide (w ∷ ws) (more e all) =
      let u : List ℕ = w ++ replicate (size c - length w) 0 in
      let long : length u ≡ 2 ^ c.m = filled_long (size c) w (omega (arith, e, h)) in
      more (long, length_transformed c.arikan c.m u long) (wide ws all)

  -- what is written from slices that hold the paper decoder's rows is their text, with any ceiling
  pub output_of_served : (frame : ℕ) (top : ℤ) (r : Room) → let x : Lent = (decoded_rows r (rows (code_transform c) c y l p) top).left in
      output_of frame (length (rows (code_transform c) c y l p)) top (size c) x.inputs x.words x.scores ≡ text_of frame (rows (code_transform c) c y l p) top
  unfolding rows
  output_of_served frame top r =
      output_of_rows frame (size c) (rows (code_transform c) c y l p) top (wide (live (code_transform c) c y l p) (live_long (code_transform c) c y l p)) r
