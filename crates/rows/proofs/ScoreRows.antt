-- The loops that sum the magnitudes and write the scores. Assumes nothing.
use mathlib.Core.Path.{◌≡◌, sym, ap, ◌∙◌}
use mathlib.Core.List.{List, [], ◌∷◌, ◌++◌, map, map-append}
use Prim.Native.Nat.{ℕ, ◌+◌, ◌<◌}
use native.Mathlib.Omega.{arith}
use native.Mathlib.Numerals.{add-one}
use lib.ListN.{length, take, drop, get_or, set, length-map, length-take}
use lib.Seq.{take-suc, drop-cons}
use lib.IntN.{ℤ, pos, nat_abs}
use Rattle.spec.specs.Outcome.{padded}
use Rattle.laws.specs.Cost.{magnitude}
use Rattle.laws.specs.ScoreCost.{score_from}
use Rattle.rows.specs.Blocks.{padded_set}
use Rattle.rows.specs.Scores.{ScoresWritten}

-- ---- magnitudes
-- one value more
pub magnitude_next : (soft : List ℤ) (i : ℕ) → i < length soft → magnitude (drop i soft) ≡ nat_abs (get_or soft i (pos 0)) + magnitude (drop (i + 1) soft)
magnitude_next soft i h = rw (add-one i) (ap magnitude (drop-cons soft i (pos 0) h))

-- ---- scores
module _ (total r N : ℕ) (costs : List ℕ) (scores : List ℤ) (there : r < length costs) (room : r < N) (so_far : ScoresWritten total r N costs scores) where
  pub score_next : (v : ℤ) → v ≡ score_from total (get_or costs r 0) → ScoresWritten total (r + 1) N costs (set scores r v)
  score_next v e =
      let done : List ℤ = map (score_from total) (take r costs) in
      let long : length done ≡ r = length-map (take r costs) (score_from total) ∙ length-take r costs ∙ omega arith in
      let more : done ++ (v ∷ []) ≡ map (score_from total) (take (r + 1) costs) =
      ap (λ (x : ℤ). done ++ (x ∷ [])) e
      ∙ sym (map-append (score_from total) (take r costs) (get_or costs r 0 ∷ []))
      ∙ ap (map (score_from total)) (sym (take-suc costs r 0 there) ∙ ap (λ (k : ℕ). take k costs) (sym (add-one r))) in
      ap (λ (s : List ℤ). set s r v) so_far ∙ padded_set (pos 0) N done v r long room ∙ ap (padded (pos 0) N) more
