-- The counts of the page stay small, and each step that is not the last adds a record: so the numbers fit their columns, and the program ends.
use Rattle.std.specs.Prelude.{◌≡◌, Bool, true, false, cond, eqb}
use Rattle.std.proofs.Math.Path.{refl}
use Rattle.std.proofs.Common.{true≢false, arith}
use mathlib.Core.List.{List, [], ◌∷◌}
use Prim.Native.Nat.{ℕ, ◌+◌, ◌*◌, ◌≤◌}
use Rattle.std.proofs.lemmas.Bool.{eqb-false}
use Rattle.spec.specs.ResultRecord.{ResultAnswer, result_says, refused_result}
use Rattle.page.specs.Page.{operator_says, answered}
use Rattle.log_page.specs.Steps.{Step, last_step, entry_step, step_of}
use Rattle.page.specs.Heard.{few_rows}

-- at most 1,000 records, of at most 32 rows each
abbrev pub Within : ℕ → ℕ → Type 0
Within k rows = (k ≤ 1000) × (rows ≤ 32 * k)

module _ (k rows : ℕ) where
  -- what a step leaves: counts within the bounds, and one record more where it is not the last
  abbrev Leaves : Step → Type 0
  Leaves x = Within x.records x.rows × (x.ended ≡ false → x.records ≡ k + 1)

  last_leaves : (n : ℕ) → Within k rows → Leaves (last_step k rows n)
  last_leaves n w = (w, λ q. absurd (true≢false q))

  pub step_leaves : (t : List ℕ) → Within k rows → Leaves (step_of k rows t)
  unfolding step_of
  step_leaves [] w = last_leaves 0 w
  step_leaves (b ∷ s) w = by_count (eqb k 1000) refl
    where
      t : List ℕ
      t = b ∷ s

      by_answer : (k ≡ 1000 → ⊥) → (a : ResultAnswer) → (operator_says t).answer ≡ a → Leaves (answered a (operator_says t).scores (last_step k rows) (entry_step k rows))
      by_answer few (refused_result n) q = last_leaves n w
      by_answer few (result_says m r f z) q = ((omega (arith, few, w.0), omega (arith, w.1, few_rows t q)), λ x. refl)

      by_count : (c : Bool) → eqb k 1000 ≡ c → Leaves (cond c (last_step k rows 23) (answered (operator_says t).answer (operator_says t).scores (last_step k rows) (entry_step k rows)))
      by_count true e = last_leaves 23 w
      by_count false e = by_answer (eqb-false k 1000 e) (operator_says t).answer refl
