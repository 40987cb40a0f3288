-- The ceiling of a list search, whatever the scores are and however a prefix goes on: a path that the rule allows is still live, or
-- a prefix of it was dropped, so nothing that all its prefixes reach is above the ceiling.
use Rattle.std.proofs.Common.{sym, subst, inr, arith}
use mathlib.Core.List.{List, [], ◌∷◌, map}
use Rattle.std.specs.Prelude.{◌⊎◌, take, drop, T, ℤ}
use Rattle.std.proofs.Math.Logic.{inl}
use Prim.Native.Nat.{ℕ, zero, suc, ◌≤◌}
use Rattle.std.specs.Int.Signed.{le_z}
use Rattle.spec.specs.Score.{maxℤ}
use Rattle.spec.specs.Decoder.{sort_by, ahead, families, head_of, largest_of, live_by, dropped_by, ceiling_by}
use Rattle.spec.specs.SignedOrder.{le_z_refl, le_z_trans}
use Rattle.spec.specs.ScoreIsLargest.{left_le, right_le}
use Rattle.laws.specs.ListCost.{Goes}
use Rattle.search.specs.ListSearch.{In, here, there, in_left, in_right, in_sort, in_cut, in_families, Follows, leads_head, leads_score, live_leads}

-- ---- the largest of a number and a list
base_below : (a : ℤ) (xs : List ℤ) → T (le_z a (largest_of a xs))
base_below a [] = le_z_refl a
base_below a (x ∷ xs) = le_z_trans a (largest_of a xs) (maxℤ x (largest_of a xs)) (base_below a xs) (right_le x (largest_of a xs))

member_below : (s : List ℕ → ℤ) (a : ℤ) {w : List ℕ} {ws : List (List ℕ)} → In w ws → T (le_z (s w) (largest_of a (map s ws)))
member_below s a {w} (here {xs}) = left_le (s w) (largest_of a (map s xs))
member_below s a {w} (there {y} {xs} i) =
    let rest : ℤ = largest_of a (map s xs) in
    le_z_trans (s w) rest (maxℤ (s y) rest) (member_below s a i) (right_le (s y) rest)

module _ (s : List ℕ → ℤ) (kids : ℕ → List ℕ → List (List ℕ)) (l : ℕ) where
  -- u has a prefix among all that was dropped at the first i positions
  abbrev Dropped : ℕ → List ℕ → Type 0
  Dropped i u = (j : ℕ) × (j ≤ i) × In (take j u) (dropped_by s kids l i)

  -- after i positions a path that the rule allows is live, or has such a prefix
  live_or_dropped : (u : List ℕ) (i : ℕ) → Follows kids i u → In (take i u) (live_by s kids l i) ⊎ Dropped i u
  unfolding live_by dropped_by
  live_or_dropped u zero f = inl here
  live_or_dropped u (suc i) f = next (live_or_dropped u i (λ j h. f j (omega arith)))
    where
      offered : List (List ℕ)
      offered = sort_by (ahead s) (families (kids i) (live_by s kids l i))

      cut : In (take (suc i) u) (take l offered) ⊎ In (take (suc i) u) (drop l offered)
          → In (take (suc i) u) (take l offered) ⊎ Dropped (suc i) u
      cut (inl m) = inl m
      cut (inr m) = inr (suc i, omega arith, in_right (dropped_by s kids l i) m)

      next : In (take i u) (live_by s kids l i) ⊎ Dropped i u → In (take (suc i) u) (take l offered) ⊎ Dropped (suc i) u
      next (inl m) = cut (in_cut l (in_sort (ahead s) (in_families (kids i) m (f i (omega arith)))))
      next (inr (j, h, m)) = inr (j, omega arith, in_left (drop l offered) m)

  -- the first prefix scores no higher than the ceiling
  pub first_below : (i : ℕ) → T (le_z (s (head_of (live_by s kids l i))) (ceiling_by s kids l i))
  unfolding ceiling_by
  first_below i = base_below (s (head_of (live_by s kids l i))) (map s (dropped_by s kids l i))

  module _ (some : 1 ≤ l) (rule : (i : ℕ) (w : List ℕ) → Goes w (kids i w)) where
    -- nor does a live prefix, nor a dropped one
    live_below : (i : ℕ) {w : List ℕ} → In w (live_by s kids l i) → T (le_z (s w) (ceiling_by s kids l i))
    live_below i {w} m =
        let h = live_leads s kids l some rule i in
        le_z_trans (s w) (s (head_of (live_by s kids l i))) (ceiling_by s kids l i)
        (subst (λ (v : List ℕ). T (le_z (s w) (s v))) (sym (leads_head s h.1)) (leads_score s h.1 m))
        (first_below i)

    dropped_below : (i : ℕ) {w : List ℕ} → In w (dropped_by s kids l i) → T (le_z (s w) (ceiling_by s kids l i))
    unfolding ceiling_by
    dropped_below i m = member_below s (s (head_of (live_by s kids l i))) m

    -- no path that the rule allows for p positions is above the ceiling there: v, which all its prefixes reach, is not
    pub none_above_ceiling : (u : List ℕ) (v : ℤ) (p : ℕ) → Follows kids p u → ((i : ℕ) → i ≤ p → T (le_z v (s (take i u)))) → T (le_z v (ceiling_by s kids l p))
    none_above_ceiling u v p f reach = by_fate (live_or_dropped u p f)
      where
        under : (i : ℕ) → i ≤ p → T (le_z (s (take i u)) (ceiling_by s kids l p)) → T (le_z v (ceiling_by s kids l p))
        under i h t = le_z_trans v (s (take i u)) (ceiling_by s kids l p) (reach i h) t

        by_fate : In (take p u) (live_by s kids l p) ⊎ Dropped p u → T (le_z v (ceiling_by s kids l p))
        by_fate (inl m) = under p (omega arith) (live_below p m)
        by_fate (inr (j, h, m)) = under j h (dropped_below p m)
