-- What is known of a record that the operator reader reads: its numbers are the record's, with as many scores as rows,
-- which do not rise; and of one that it refuses.
use Rattle.std.proofs.Math.Path.{◌≡◌, refl, ap}
use Rattle.std.proofs.Common.{sym, ◌∙◌, arith}
use Rattle.std.specs.Prelude.{false, replicate, pos}
use mathlib.Core.List.{List}
use Prim.Native.Nat.{ℕ, zero, suc, ◌-◌, ◌≤◌}
use Rattle.std.proofs.Math.ListN.{length, take}
use Rattle.std.proofs.Math.Seq.{take_at}
use Rattle.std.proofs.Math.IntN.{ℤ}
use Rattle.spec.specs.Faults.{settled}
use Rattle.spec.specs.Record.{fields}
use Rattle.spec.specs.ResultRecord.{scores_at, rising, row_count, result_frame, result_scores, result_says, refused_result, OperatorReading, operator_reading, operator_refusal, operator_served, operator_outcome}
use Rattle.laws.specs.ResultReading.{length_scores_from, operator_accepts, operator_served_lem}
use Rattle.page.specs.Page.{operator_says}

abbrev lent : List ℤ
lent = replicate 32 (pos 0)

-- one that it refuses
pub refused_number : (t : List ℕ) (n : ℕ) → (operator_says t).answer ≡ refused_result n → n ≡ operator_refusal t 32
unfolding operator_outcome operator_served
refused_number t n e = by_number (operator_refusal t (length lent)) e
  where
    by_number : (r : ℕ) → (settled r (λ k. operator_reading (refused_result k) lent) (operator_served t (length lent))).answer ≡ refused_result n → n ≡ r
    by_number zero q =
        let o : ◌≡◌ {A = ℕ} 0 1 = cc in
        absurd (omega arith)
    by_number (suc r) q = cc

-- one that it reads

module _ (t : List ℕ) {m r f : ℕ} {z : ℤ} (e : (operator_says t).answer ≡ result_says m r f z) where
  -- it is accepted
  good : 0 ≡ operator_refusal t (length lent)
  unfolding operator_outcome
  good = by_number (operator_refusal t (length lent)) e
    where
      by_number : (n : ℕ) → (settled n (λ k. operator_reading (refused_result k) lent) (operator_served t (length lent))).answer ≡ result_says m r f z → 0 ≡ n
      by_number zero q = refl
      by_number (suc n) q =
          let o : ◌≡◌ {A = ℕ} 0 1 = cc in
          absurd (omega arith)

  said : operator_served t (length lent) ≡ operator_says t
  said = operator_served_lem t lent good

  rows_are : row_count t ≡ r
  unfolding operator_served
  rows_are =
      let q : result_says _ (row_count t) _ _ ≡ result_says m r f z = ap (λ (o : OperatorReading). o.answer) said ∙ e in
      cc

  pub frame_is : result_frame t ≡ f
  unfolding operator_served
  frame_is =
      let q : result_says _ _ (result_frame t) _ ≡ result_says m r f z = ap (λ (o : OperatorReading). o.answer) said ∙ e in
      cc

  pub scores_are : take r (operator_says t).scores ≡ result_scores t
  unfolding operator_served
  scores_are =
      let ys : List ℤ = result_scores t in
      ap (λ (o : OperatorReading). take r o.scores) (sym said)
      ∙ take_at ys (replicate (length lent - length ys) (pos 0)) r (length_scores_from t (scores_at (fields t)) (row_count t) ∙ rows_are)

  pub some_rows : 1 ≤ r
  some_rows = omega (arith, (operator_accepts t (length lent) good).shaped.some_rows, rows_are)

  pub few_rows : r ≤ 32
  few_rows = omega (arith, (operator_accepts t (length lent) good).shaped.few_rows, rows_are)

  pub falling : rising (take r (operator_says t).scores) ≡ false
  falling = ap rising scores_are ∙ (operator_accepts t (length lent) good).sound.falling
