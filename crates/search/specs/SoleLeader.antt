-- A path of a list search that no cut can lose, whatever the scores are and however a prefix goes on: where each of its prefixes scores
-- higher than every other of its length, it comes first at every position, at list size 1 too.
use Rattle.std.specs.Prelude.{◌≡◌, List, [], ◌⊎◌, take, T, ℤ}
use Rattle.std.proofs.Common.{inl, inr, arith}
use Prim.Native.Nat.{ℕ, zero, suc, ◌≤◌}
use Rattle.std.specs.Int.Signed.{le_z}
use Rattle.spec.specs.Decoder.{ahead, families, live_by}
use Rattle.spec.specs.OrderIsTotal.{ahead_refl, ahead_total}
use Rattle.laws.specs.ListCost.{All, none, all_map, families_all, live_all}
use Rattle.search.specs.ListSearch.{in_families, Follows, ahead_score, Leads, leads, leads_in, leads_take, sort_first}

-- after each of the first n positions no prefix that has P there scores as high as u's, other than itself
abbrev pub Sole : (List ℕ → ℤ) → (ℕ → List ℕ → Type 0) → ℕ → List ℕ → Type 0
Sole s P n u = (i : ℕ) → i ≤ n → (v : List ℕ) → P i v → T (le_z (s (take i u)) (s v)) → v ≡ take i u

-- P is what the prefixes have after i positions: the empty one has it, and every child has it from its parent
module _ (s : List ℕ → ℤ) (kids : ℕ → List ℕ → List (List ℕ)) (l : ℕ) (some : 1 ≤ l) {P : ℕ → List ℕ → Type 0} (start : P 0 [])
    (keeps : (i : ℕ) (w : List ℕ) → P i w → All (P (suc i)) (kids i w)) {n : ℕ} {u : List ℕ} (follows : Follows kids n u) (sole : Sole s P n u) where
  sole_ahead : (i : ℕ) → i ≤ n → (v : List ℕ) → P i v → T (ahead s (take i u) v)
  sole_ahead i h v p = go (ahead_total s (take i u) v)
    where
      go : T (ahead s (take i u) v) ⊎ T (ahead s v (take i u)) → T (ahead s (take i u) v)
      go (inl t) = t
      go (inr t) = rw (sole i h v p (ahead_score s v (take i u) t)) (ahead_refl s (take i u))

  pub sole_leads : (i : ℕ) → i ≤ n → Leads s (take i u) (live_by s kids l i)
  unfolding live_by
  sole_leads zero h = leads none
  sole_leads (suc i) h =
      let child = in_families (kids i) (leads_in s (sole_leads i (omega arith))) (follows i (omega arith)) in
      let offered : All (P (suc i)) (families (kids i) (live_by s kids l i)) = families_all (kids i) (keeps i) (live_all s kids l start keeps i) in
      leads_take s l some (sort_first s child (all_map (sole_ahead (suc i) h) offered))
