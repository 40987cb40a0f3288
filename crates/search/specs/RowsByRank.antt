-- The rows of a list by rank. A list search, whatever the scores are and however a prefix goes on, keeps its list in order, so no score
-- is above the one before it. For the decoder's rows: their scores do not rise, the ceiling is not below the first, and each input has n bits.
use Rattle.std.specs.Prelude.{◌≡◌, Bool, true, false, cond, ◌⊎◌, take, ℤ, pos, negsuc}
use Rattle.std.proofs.Math.Path.{refl, ap₂}
use Rattle.std.proofs.Common.{sym, ap, subst, ◌∙◌, inl, inr, arith, le-ltb, length-append, leb→le}
use Rattle.std.proofs.Math.Bool.{◌||◌}
use mathlib.Core.List.{List, [], ◌∷◌, map, map-map}
use Prim.Native.Nat.{ℕ, zero, suc, ◌-◌, ◌*◌, ◌≤◌}
use Rattle.std.proofs.Math.ListN.{length}
use Rattle.std.proofs.lemmas.List.{length-map}
use Rattle.std.proofs.Math.Dec.{T}
use Rattle.std.specs.Int.Signed.{lt_z, le_z}
use Rattle.spec.specs.Bits.{Bits, nil}
use Rattle.spec.specs.Code.{Code, size}
use Rattle.spec.specs.Decoder.{Row, insert_by, sort_by, ahead, children, families, head_of, live_by, score_of, live, row_of, rows, ceiling}
use Rattle.spec.specs.OrderIsTotal.{ahead_total, ahead_trans}
use Rattle.spec.specs.Outcome.{concat}
use Rattle.spec.specs.ResultRecord.{first_score, rising}
use Rattle.laws.specs.BitLaws.{bits_append, bits_zeros}
use Rattle.laws.specs.ListCost.{All, none, more, all_insert, all_take, all_map, filled_long, Prefix, live_prefix}
use Rattle.search.specs.ListSearch.{ahead_score}
use Rattle.search.specs.SearchCeiling.{first_below}

-- what is at or below a is not above it, by the other test
not_above : (a b : ℤ) → T (le_z b a) → lt_z a b ≡ false
not_above (pos a) (pos b) t = le-ltb a b (leb→le b a t)
not_above (pos a) (negsuc b) t = refl
not_above (negsuc a) (pos b) t = absurd t
not_above (negsuc a) (negsuc b) t = le-ltb b a (leb→le a b t)

-- ---- lists in order
module _ (s : List ℕ → ℤ) where
  -- each prefix may stand before all that follow it
  pub data Ranked : List (List ℕ) → Type 0 where
    end : Ranked []
    next : {h : List ℕ} {ws : List (List ℕ)} → All (λ w. T (ahead s h w)) ws → Ranked ws → Ranked (h ∷ ws)

  insert_ranked : (v : List ℕ) {ws : List (List ℕ)} → Ranked ws → Ranked (insert_by (ahead s) v ws)
  insert_ranked v end = next none end
  insert_ranked v (next {h} {ws} a q) = go (ahead s v h) refl (insert_ranked v q)
    where
      other : T (ahead s v h) ⊎ T (ahead s h v) → ahead s v h ≡ false → T (ahead s h v)
      other (inl t) e = absurd (subst T e t)
      other (inr t) e = t

      go : (b : Bool) → ahead s v h ≡ b → Ranked (insert_by (ahead s) v ws) → Ranked (cond b (v ∷ h ∷ ws) (h ∷ insert_by (ahead s) v ws))
      go true e ih =
          let t : T (ahead s v h) = subst T (sym e) tt in
          next (more t (all_map (λ w u. ahead_trans s v h w t u) a)) (next a q)
      go false e ih = next (all_insert (ahead s) v (other (ahead_total s v h) e) a) ih

  -- a sort makes a list one in order, and a cut leaves it so
  pub sort_ranked : (ws : List (List ℕ)) → Ranked (sort_by (ahead s) ws)
  sort_ranked [] = end
  sort_ranked (w ∷ ws) = insert_ranked w (sort_ranked ws)

  pub take_ranked : (l : ℕ) {ws : List (List ℕ)} → Ranked ws → Ranked (take l ws)
  take_ranked zero q = end
  take_ranked (suc l) end = end
  take_ranked (suc l) (next a q) = next (all_take l a) (take_ranked l q)

  -- then no score is above the one before it
  pub ranked_falls : {ws : List (List ℕ)} → Ranked ws → rising (map s ws) ≡ false
  unfolding rising
  ranked_falls end = refl
  ranked_falls (next none end) = refl
  ranked_falls (next {h} (more {x = w} t a) q) = ap₂ ◌||◌ (not_above (s h) (s w) (ahead_score s h w t)) (ranked_falls q)

-- the list of a search is in order at every position
module _ (s : List ℕ → ℤ) (kids : ℕ → List ℕ → List (List ℕ)) (l : ℕ) where
  pub live_ranked : (i : ℕ) → Ranked s (live_by s kids l i)
  unfolding live_by
  live_ranked zero = next none end
  live_ranked (suc i) = take_ranked s l (sort_ranked s (families (kids i) (live_by s kids l i)))

-- ---- rows of n bits, one behind the other
length_concat : (n : ℕ) {xs : List (List ℕ)} → All (Prefix n) xs → length (concat xs) ≡ length xs * n
length_concat n none = omega arith
length_concat n (more {x} {xs} p a) = omega (arith, length-append x (concat xs), p.long, length_concat n a)

bits_concat : (n : ℕ) {xs : List (List ℕ)} → All (Prefix n) xs → Bits (concat xs)
bits_concat n none = nil
bits_concat n (more p a) = bits_append p.bits (bits_concat n a)

-- ---- the rows of the decoder on paper
module _ (T' : List ℕ → List ℕ) (c : Code) (y : List ℤ) (l p : ℕ) where
  abbrev pub row_scores : List ℤ
  row_scores = map (λ (r : Row). r.score) (rows T' c y l p)

  abbrev pub row_inputs : List (List ℕ)
  row_inputs = map (λ (r : Row). r.input) (rows T' c y l p)

  scores_are : row_scores ≡ map (score_of T' c y l) (live T' c y l p)
  unfolding rows
  scores_are = map-map (λ (r : Row). r.score) (row_of T' c y l) (live T' c y l p)

  -- no row scores higher than the one before it
  pub row_scores_fall : rising row_scores ≡ false
  row_scores_fall = ap rising scores_are ∙ ranked_falls (score_of T' c y l) (live_ranked (score_of T' c y l) (children c) l p)

  -- the ceiling is not below the first score
  pub ceiling_not_below : 1 ≤ length (rows T' c y l p) → lt_z (ceiling T' c y l p) (first_score row_scores) ≡ false
  unfolding rows
  ceiling_not_below some =
      not_above (ceiling T' c y l p) (first_score row_scores)
      (at_head (live T' c y l p) some (first_below (score_of T' c y l) (children c) l p))
    where
      at_head : (ws : List (List ℕ)) → 1 ≤ length (map (row_of T' c y l) ws) → T (le_z (score_of T' c y l (head_of ws)) (ceiling T' c y l p))
          → T (le_z (first_score (map (λ (r : Row). r.score) (map (row_of T' c y l) ws))) (ceiling T' c y l p))
      at_head [] h t = absurd (omega (arith, h))
      at_head (w ∷ ws) h t = t

  -- each input has n bits
  pub inputs_whole : p ≤ size c → All (Prefix (size c)) row_inputs
  unfolding rows
  inputs_whole h = filled (live_prefix T' c y l p)
    where
      filled : {ws : List (List ℕ)} → All (Prefix p) ws → All (Prefix (size c)) (map (λ (r : Row). r.input) (map (row_of T' c y l) ws))
      filled none = none
      filled (more {x = w} q a) =
          let long : length w ≤ size c = omega (arith, h, q.long) in
          more (record { long = filled_long (size c) w long; bits = bits_append q.bits (bits_zeros (size c - length w)) }) (filled a)

  -- so all of them are as many bits as rows times n
  pub length_inputs : p ≤ size c → length (concat row_inputs) ≡ length (rows T' c y l p) * size c
  length_inputs h =
      length_concat (size c) (inputs_whole h) ∙ ap (λ (k : ℕ). k * size c) (length-map (rows T' c y l p) (λ (r : Row). r.input))

  pub bits_inputs : p ≤ size c → Bits (concat row_inputs)
  bits_inputs h = bits_concat (size c) (inputs_whole h)
