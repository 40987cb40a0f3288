-- Results that the writer wrote, one record behind the other: what the page shows of each, and that the first is read as what it says, in
-- front of any other bytes. No code is in scope: the theorems are over the definitions.
use Rattle.std.specs.Prelude.{◌≡◌, refl, length, take, drop, replicate, pos}
use Rattle.std.proofs.Common.{sym, ◌∙◌, arith, take_at, drop_at}
use Rattle.std.proofs.Math.Path.{ap, ap₂}
use mathlib.Core.List.{List, [], ◌∷◌, ◌++◌, map}
use Prim.Native.Nat.{ℕ, suc, ◌-◌, ◌≤◌}
use Rattle.std.proofs.Math.ListN.{get_or-append}
use Rattle.spec.specs.Record.{fields, exponent}
use Rattle.spec.specs.Outcome.{padded, concat}
use Rattle.spec.specs.ResultRecord.{row_count, result_end, result_says, OperatorReading, operator_reading}
use Rattle.spec.specs.ResultWriter.{Result, written_result, write_result_refusal}
use Rattle.laws.specs.ResultReading.{ShapedResult, operator_accepts}
use Rattle.laws.specs.ResultWriting.{writes_result}
use Rattle.result_round_trip.specs.ReadBack.{Fits, written_accepted_operator, operator_reads_back}
use Rattle.page.specs.Page.{record_in, operator_says, Entry, entry, heard, Shift, stopped, another, at_end, shift_from, row_sum}

-- a result of numbers of 32 bits that the writer accepts, in an output of some length
pub data Writes (r : Result) : Type 0 where
  writes : (lent : ℕ) → 0 ≡ write_result_refusal r lent → Fits r → Writes r

-- what the page shows of it
abbrev pub entry_of : Result → Entry
entry_of r = entry r.frame r.rows r.scores

-- the records of results, back to back
abbrev pub stream : List Result → List ℕ
stream rs = concat (map written_result rs)

-- ---- one record in front of other bytes
module _ (w u : List ℕ) (shaped : ShapedResult w) where
  end_is : result_end (w ++ u) ≡ length w
  end_is =
      let f : fields (w ++ u) ≡ fields w = get_or-append w u 0 0 (omega (arith, shaped.begun)) in
      let m : exponent (w ++ u) ≡ exponent w = get_or-append w u 0 1 (omega (arith, shaped.begun)) in
      let k : row_count (w ++ u) ≡ row_count w = get_or-append w u 0 2 (omega (arith, shaped.begun)) in
      rw (f, m, k) (sym shaped.ends)

  record_is : record_in (w ++ u) ≡ w
  record_is = take_at w u (result_end (w ++ u)) (sym end_is)

  behind_it : drop (result_end (w ++ u)) (w ++ u) ≡ u
  behind_it = drop_at w u (result_end (w ++ u)) (sym end_is)

  not_ended : {A : Type 0} (end on : A) → at_end (w ++ u) end on ≡ on
  not_ended end on = by_bytes w shaped.begun
    where
      by_bytes : (t : List ℕ) → 3 ≤ length t → at_end (t ++ u) end on ≡ on
      by_bytes [] h = absurd (omega arith)
      by_bytes (b ∷ t) h = refl

-- ---- what was written, in front of other bytes
module _ (r : Result) where
  shaped_written : Writes r → ShapedResult (written_result r)
  shaped_written (writes lent e f) =
      (operator_accepts (written_result r) r.rows (written_accepted_operator r f lent e r.rows (omega arith))).shaped

  said_of : Writes r → operator_says (written_result r) ≡ operator_reading (result_says r.m r.rows r.frame r.ceiling) (padded (pos 0) 32 r.scores)
  said_of (writes lent e f) = operator_reads_back r f lent e (replicate 32 (pos 0)) (writes_result r lent e).0.few_rows

  scores_of_lem : Writes r → take r.rows (padded (pos 0) 32 r.scores) ≡ r.scores
  scores_of_lem (writes lent e f) = take_at r.scores (replicate (32 - length r.scores) (pos 0)) r.rows (writes_result r lent e).0.scores_long

  pub one_written : Writes r → (left : ℕ) (u : List ℕ) → shift_from (suc left) (written_result r ++ u) ≡ another (entry_of r) (shift_from left u)
  unfolding shift_from
  one_written x left u =
      let w : List ℕ = written_result r in
      let sh = shaped_written x in
      not_ended w u sh (stopped 0) (heard (operator_says (record_in (w ++ u))) stopped (λ e. another e (shift_from left (drop (result_end (w ++ u)) (w ++ u)))))
      ∙ ap₂ (λ (t v : List ℕ). heard (operator_says t) stopped (λ e. another e (shift_from left v))) (record_is w u sh) (behind_it w u sh)
      ∙ ap (λ (o : OperatorReading). heard o stopped (λ e. another e (shift_from left u))) (said_of x)
      ∙ ap (λ (ys : List _). another (entry r.frame r.rows ys) (shift_from left u)) (scores_of_lem x)

-- ---- entries in front of what is read behind them
abbrev pub ahead : List Entry → Shift → Shift
ahead es x = record { entries = es ++ x.entries; refusal = x.refusal }

-- ---- the sum of their row counts
abbrev pub rows_of : List Result → ℕ
rows_of rs = row_sum (map entry_of rs)
