-- The packed part of a record whose shape is right: as long as its rows, and their bits as those of its bytes.
use Rattle.std.specs.Prelude.{◌≡◌, List, ℕ, ◌*◌, ◌^◌, length}
use Rattle.std.proofs.Common.{sym, ap, ◌∙◌, arith, length-drop}
use Rattle.spec.specs.Code.{map_bytes}
use Rattle.spec.specs.Record.{exponent, positions}
use Rattle.spec.specs.ResultRecord.{rows_from, row_count, packed_at, packed_part, result_inputs}
use Rattle.laws.specs.PackedRows.{bits_of_each, length_rows, rows_of_four, in_bytes, rows_of_bytes}
use Rattle.laws.specs.ResultReading.{ShapedResult}

module _ {s : List ℕ} (w : ShapedResult s) where
  pub length_part : length (packed_part s) ≡ row_count s * map_bytes (positions s)
  length_part = length-drop (packed_at s) s ∙ omega (arith, w.ends)

  pub length_inputs : length (result_inputs s) ≡ row_count s * positions s
  length_inputs = length_rows (positions s) (row_count s) (packed_part s) (omega (arith, length_part))

  -- four positions are four bits of a byte, more of them eight bits of each
  pub by_four : exponent s ≡ 2 → bits_of_each 4 (packed_part s) ≡ result_inputs s
  by_four e =
      let four : positions s ≡ 4 = ap (λ (m : ℕ). 2 ^ m) e in
      let l : length (packed_part s) ≡ row_count s = length_part ∙ ap (λ (n : ℕ). row_count s * map_bytes n) four ∙ omega arith in
      sym (ap (λ (n : ℕ). rows_from n (row_count s) (packed_part s)) four ∙ rows_of_four (row_count s) (packed_part s) l)

  pub by_eight : (exponent s ≡ 2 → ⊥) → bits_of_each 8 (packed_part s) ≡ result_inputs s
  by_eight x = sym (rows_of_bytes (positions s) (row_count s) (packed_part s) (in_bytes (exponent s) (omega (arith, w.low, x))) length_part)
