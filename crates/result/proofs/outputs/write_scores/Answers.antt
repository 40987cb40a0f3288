-- One score more, and what is filled behind them.
use Rattle.std.proofs.Common.{◌≡◌, refl, sym, ap, ap₂, ◌∙◌, List, [], ◌∷◌, ◌++◌, ℕ, suc, ◌+◌, ◌<◌, length, drop, get_or, set, ℤ, pos, add-one, arith, w32, length-set}
use mir.ValLaws.{to_z-of_z}
use Rattle.spec.specs.Record.{fields}
use Rattle.spec.specs.ResultRecord.{scores_from, scores_at, row_count, result_scores}
use Rattle.slices.specs.Fill.{filled_from, filled_behind}
use Rattle.slices.specs.Front.{front_more}
use Rattle.laws.specs.ResultReading.{length_scores_from}
use Rattle.result_fields.specs.Laid.{score_is}
use Rattle.result.specs.Turns.{scores_more}
use Rattle.result.proofs.outputs.write_scores.Goals as goal

-- one score more
step : (s : List ℕ) (at n : ℕ) (t o : List ℤ) (i : ℕ) (v : ℤ) → i < length t → i < n → o ≡ scores_from s at i ++ drop i t
    → v ≡ get_or (scores_from s at n) i (pos 0) → set o i v ≡ scores_from s at (i + 1) ++ drop (i + 1) t
step s at n t o i v h k e f =
    let done : List ℤ = scores_from s at i in
    front_more done t o i v (length_scores_from s at i) h e
    ∙ rw (add-one i) (ap (λ (l : List ℤ). l ++ drop (suc i) t)
    (ap (λ (z : ℤ). done ++ (z ∷ [])) (f ∙ sym (score_is s at n i k)) ∙ sym (scores_more s at i)))

pub loop-i-init : goal.loop-i-init
unfolding scores_from
loop-i-init c = (refl, refl)

pub loop-i-preserved : goal.loop-i-preserved
loop-i-preserved c =
    let b = c.args.given.bytes.now in
    let v = to_z-of_z w32 c.score.result (record { sfits = c.score.type_inv }) ∙ c.score.ensures in (
      simp length-set (omega (arith, c.loop-i.invariant.0)),
      step b (scores_at (fields b)) (row_count b) c.args.scores.now c.loop-i.scores c.loop-i.i _ (omega (arith, c.requires, c.args.given.laid.rows_are))
          (omega (arith, c.args.given.laid.rows_are)) c.loop-i.invariant.1 v,
    )

pub returns : goal.returns
returns c =
    let b = c.args.given.bytes.now in
    let y = c.args.scores.now in
    let at : ℕ = scores_at (fields b) in
    let all : c.loop-i.i ≡ row_count b = omega (arith, c.loop-i-test.false, c.args.given.laid.rows_are) in
    c.fill_from.ensures
    ∙ ap₂ (filled_from (pos 0)) c.args.given.laid.rows_are (c.loop-i.invariant.1 ∙ ap (λ (k : ℕ). scores_from b at k ++ drop k y) all)
    ∙ filled_behind (pos 0) (result_scores b) y (row_count b) (length_scores_from b at (row_count b)) c.requires
