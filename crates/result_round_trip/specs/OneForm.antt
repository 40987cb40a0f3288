-- Each result has one record: one of bytes that the operator reader accepts, and in which no packed bit is set past n, is what the writer
-- writes of what was read; and two results with the same record are the same. No code is in scope: the theorems are over the definitions.
use Rattle.std.specs.Prelude.{◌≡◌, refl, false, ◌&&◌, eqb, length, ℤ}
use Rattle.std.proofs.Math.Path.{sym, ap, ap₂}
use Rattle.std.proofs.Common.{◌∙◌, true≢false, arith, length-drop}
use mathlib.Core.List.{List, ◌∷◌, ◌++◌, append_assoc}
use Prim.Native.Nat.{ℕ, zero, suc, ◌+◌, ◌*◌, ◌/◌, ◌%◌, ◌<◌}
use Rattle.std.proofs.lemmas.Bool.{eqb-false}
use Rattle.std.proofs.Math.ListN.{drop}
use Rattle.std.specs.Int.Signed.{lt_z, le_z}
use Rattle.spec.specs.Code.{map_bytes}
use Rattle.spec.specs.Record.{four_at, signed32, if_present, fields, exponent, positions}
use Rattle.spec.specs.RecordOf.{Field, low_first, field_bit, field_bytes, thirty_two_bits}
use Rattle.spec.specs.JobWriter.{unless}
use Rattle.spec.specs.ResultRecord.{first_score, some_past, ceiling_at, scores_at, row_count, packed_at, result_scores, result_ceiling, packed_part, result_inputs}
use Rattle.spec.specs.ResultWriter.{Result, packed_rows, score_bytes, frame_field, ceiling_field, written_result, write_result_refusal}
use Rattle.laws.specs.ListCost.{All, all_drop}
use Rattle.laws.specs.PackedRows.{length_rows}
use Rattle.laws.specs.ResultReading.{length_scores_from, OperatorAccepts}
use Rattle.laws.specs.ResultWriting.{WritableResult}
use Rattle.laws.specs.WrittenForm.{left_out, stands}
use Rattle.result_round_trip.specs.FourBytes.{Wide, Byte, four_bits_back, signed_wide, same_bits, first_wide, four_small, byte_first, four_form, scores_wide, scores_form}
use Rattle.result_round_trip.specs.ScoreOrder.{not_above_itself, not_below_itself, above_not_below}
use Rattle.result_round_trip.specs.PackedBits.{bits_rows, rows_form}
use Rattle.result_round_trip.specs.ReadBack.{Fits, read_from, result_back}

-- what is read of bytes is numbers of 32 bits
pub read_fits : (s : List ℕ) → All Byte s → Fits (read_from s)
read_fits s a =
    record {
      frame = frame_small (fields s % 2);
      ceiling = ceiling_wide (fields s / 2 % 2);
      scores = scores_wide s (scores_at (fields s)) (row_count s) a;
    }
  where
    frame_small : (b : ℕ) → if_present b (four_at s 3) 0 < 4294967296
    frame_small zero = omega arith
    frame_small (suc b) = four_small a 3

    ceiling_wide : (b : ℕ) → Wide (if_present b (signed32 (four_at s (ceiling_at (fields s)))) (first_score (result_scores s)))
    ceiling_wide zero = first_wide (scores_wide s (scores_at (fields s)) (row_count s) a)
    ceiling_wide (suc b) = signed_wide (four_at s (ceiling_at (fields s))) (four_small a (ceiling_at (fields s)))

-- ---- a record of bytes that the operator reader accepts, part by part
module _ (s : List ℕ) (a : All Byte s) {scores : ℕ} (o : OperatorAccepts s scores) where
  abbrev F : ℕ
  F = fields s

  abbrev y : ℤ
  y = first_score (result_scores s)

  abbrev x : ℕ
  x = four_at s (ceiling_at F)

  -- the packed rows are as long as they must be
  packed_long : length (packed_part s) ≡ row_count s * map_bytes (positions s)
  packed_long = length-drop (packed_at s) s ∙ omega (arith, o.shaped.ends)

  -- a frame number that stands is not 0: it is written again
  frame_form : (field_bytes 4 (frame_field (read_from s)) ++ drop (ceiling_at F) s ≡ drop 3 s) × (field_bit (frame_field (read_from s)) ≡ F % 2)
  frame_form = by_bit (F % 2) refl o.sound.frame_shown
    where
      by_bit : (b : ℕ) → F % 2 ≡ b → (eqb b 1 && eqb (if_present b (four_at s 3) 0) 0) ≡ false
          → (field_bytes 4 (unless 0 (if_present b (four_at s 3) 0)) ++ drop (3 + 4 * b) s ≡ drop 3 s)
          × (field_bit (unless 0 (if_present b (four_at s 3) 0)) ≡ b)
      by_bit zero e q = (refl, refl)
      by_bit (suc zero) e q =
          let h = stands 0 (four_at s 3) (eqb-false (four_at s 3) 0 q) in
          (ap (λ (f : Field). field_bytes 4 f ++ drop 7 s) h ∙ four_form s 3 a (omega (arith, o.shaped.ends)), ap field_bit h)
      by_bit (suc (suc b)) e q = absurd (omega arith)

  abbrev shown_as : ℤ → Field
  shown_as z = unless (thirty_two_bits y) (thirty_two_bits z)

  -- a ceiling that stands is above the first score, and so has other bits: it is written again
  ceiling_form : (field_bytes 4 (ceiling_field (read_from s)) ++ drop (scores_at F) s ≡ drop (ceiling_at F) s)
      × (field_bit (ceiling_field (read_from s)) ≡ F / 2 % 2)
  ceiling_form = by_bit (F / 2 % 2) refl o.sound.ceiling_shown
    where
      other_bits : le_z (signed32 x) y ≡ false → thirty_two_bits (signed32 x) ≡ thirty_two_bits y → ⊥
      other_bits q e =
          let z : signed32 x ≡ y = same_bits (signed32 x) y (signed_wide x (four_small a (ceiling_at F))) (first_wide (read_fits s a).scores) e in
          true≢false (sym (not_above_itself y) ∙ ap (λ (t : ℤ). le_z t y) (sym z) ∙ q)

      by_bit : (b : ℕ) → F / 2 % 2 ≡ b → (eqb b 1 && le_z (if_present b (signed32 x) y) y) ≡ false
          → (field_bytes 4 (shown_as (if_present b (signed32 x) y)) ++ drop (ceiling_at F + 4 * b) s ≡ drop (ceiling_at F) s)
          × (field_bit (shown_as (if_present b (signed32 x) y)) ≡ b)
      by_bit zero e q =
          let h = left_out (thirty_two_bits y) (thirty_two_bits y) refl in
          let z : ceiling_at F + 4 * 0 ≡ ceiling_at F = omega arith in
          (ap₂ (λ (f : Field) (i : ℕ). field_bytes 4 f ++ drop i s) h z, ap field_bit h)
      by_bit (suc zero) e q =
          let h = stands (thirty_two_bits y) (thirty_two_bits (signed32 x)) (other_bits q) in (
            ap (λ (f : Field). field_bytes 4 f ++ drop (ceiling_at F + 4) s) h
                ∙ ap (λ (v : ℕ). low_first 4 v ++ drop (ceiling_at F + 4) s) (four_bits_back x (four_small a (ceiling_at F)))
                ∙ four_form s (ceiling_at F) a (omega (arith, o.shaped.ends)),
            ap field_bit h,
          )
      by_bit (suc (suc b)) e q = absurd (omega arith)

  ceiling_not_below : lt_z (result_ceiling s) y ≡ false
  ceiling_not_below = by_bit (F / 2 % 2) refl o.sound.ceiling_shown
    where
      by_bit : (b : ℕ) → F / 2 % 2 ≡ b → (eqb b 1 && le_z (if_present b (signed32 x) y) y) ≡ false → lt_z (if_present b (signed32 x) y) y ≡ false
      by_bit zero e q = not_below_itself y
      by_bit (suc zero) e q = above_not_below (signed32 x) y q
      by_bit (suc (suc b)) e q = absurd (omega arith)

  -- where also no packed bit is set past n, all of it is written again
  pub form : some_past (positions s) (row_count s) (packed_part s) ≡ false → written_result (read_from s) ≡ s
  unfolding written_result
  form clean =
      let w = o.shaped in
      let f : Field = frame_field (read_from s) in
      let g : Field = ceiling_field (read_from s) in
      let tail : List ℕ = score_bytes (result_scores s) ++ packed_rows (positions s) (row_count s) (result_inputs s) in
      let first_byte : field_bit f + 2 * field_bit g ≡ F = omega (arith, frame_form.1, ceiling_form.1, w.known) in
      let rows : packed_rows (positions s) (row_count s) (result_inputs s) ≡ packed_part s
      = rows_form (positions s) (row_count s) (packed_part s) packed_long (all_drop (packed_at s) a) clean in
      let behind : tail ≡ drop (scores_at F) s
      = ap (λ (l : List ℕ). score_bytes (result_scores s) ++ l) rows ∙ scores_form s (scores_at F) (row_count s) a (omega (arith, w.ends)) in
      let shown : (field_bytes 4 f ++ field_bytes 4 g) ++ tail ≡ drop 3 s
      = append_assoc (field_bytes 4 f) (field_bytes 4 g) tail
      ∙ ap (λ (l : List ℕ). field_bytes 4 f ++ (field_bytes 4 g ++ l)) behind
      ∙ ap (λ (l : List ℕ). field_bytes 4 f ++ l) ceiling_form.0
      ∙ frame_form.0 in
      let begun : s ≡ F ∷ exponent s ∷ row_count s ∷ drop 3 s
      = byte_first s 0 (omega (arith, w.begun))
      ∙ ap (λ (l : List ℕ). F ∷ l)
      (byte_first s 1 (omega (arith, w.begun)) ∙ ap (λ (l : List ℕ). exponent s ∷ l) (byte_first s 2 (omega (arith, w.begun)))) in
      ap₂ (λ (b : ℕ) (l : List ℕ). b ∷ exponent s ∷ row_count s ∷ l) first_byte shown ∙ sym begun

  pub writable : WritableResult (read_from s)
  writable =
      let w = o.shaped in
      record {
        low = w.low;
        high = w.high;
        some_rows = w.some_rows;
        few_rows = w.few_rows;
        inputs_long = length_rows (positions s) (row_count s) (packed_part s) (omega (arith, packed_long));
        scores_long = length_scores_from s (scores_at F) (row_count s);
        bits = bits_rows (positions s) (row_count s) (packed_part s);
        falling = o.sound.falling;
        not_below = ceiling_not_below;
      }

-- ---- two results that the writer accepts, and of which it writes the same record, are the same result
pub one_record : (r r' : Result) → Fits r → Fits r' → (lent lent' : ℕ) → 0 ≡ write_result_refusal r lent → 0 ≡ write_result_refusal r' lent'
    → written_result r ≡ written_result r' → r ≡ r'
one_record r r' f f' lent lent' e e' q = sym (result_back r f lent e) ∙ ap read_from q ∙ result_back r' f' lent' e'
