-- The ceiling by costs: the sum of the magnitudes less twice the lesser of the first prefix's cost and the least cost ever dropped. The
-- latter is kept position by position, as 2^32 - 1 while nothing has been dropped.
use Rattle.std.specs.Prelude.{◌≡◌, refl, length, ℤ}
use Rattle.std.proofs.Common.{sym, ap₂, ◌∙◌, arith}
use Rattle.std.proofs.Math.Path.{ap}
use mathlib.Core.List.{List, [], ◌∷◌, ◌++◌, map, map-append}
use Prim.Native.Nat.{ℕ, zero, suc, ◌≤◌, ◌<◌, min}
use Rattle.std.proofs.Math.ListN.{drop}
use Rattle.spec.specs.Bits.{Bits}
use Rattle.spec.specs.Code.{Code, size, code_transform}
use Rattle.spec.specs.Score.{maxℤ}
use Rattle.spec.specs.Decoder.{sort_by, ahead, families, children, head_of, largest_of, dropped_by, ceiling_by, score_of, live, ceiling}
use Rattle.laws.specs.Cost.{magnitude}
use Rattle.laws.specs.ScoreCost.{score_from, max_sub}
use Rattle.laws.specs.CodeScore.{code_cost, code_score}
use Rattle.laws.specs.ListCost.{cheaper, All, none, more, all_sort, all_drop, all_append, Prefix, live_prefix, family_prefix, sorted_by_cost}

-- ---- the least of a and a list
abbrev pub least_of : ℕ → List ℕ → ℕ
least_of a [] = a
least_of a (x ∷ xs) = min x (least_of a xs)

least_min : (x a : ℕ) (ys : List ℕ) → least_of (min x a) ys ≡ min x (least_of a ys)
least_min x a [] = refl
least_min x a (y ∷ ys) =
    let ih : least_of (min x a) ys ≡ min x (least_of a ys) = least_min x a ys in
    omega arith

least_append : (a : ℕ) (xs ys : List ℕ) → least_of a (xs ++ ys) ≡ least_of (least_of a xs) ys
least_append a [] ys = refl
least_append a (x ∷ xs) ys = ap (min x) (least_append a xs ys) ∙ sym (least_min x (least_of a xs) ys)

-- from any number that is not below the first
least_first : (f a : ℕ) (xs : List ℕ) → f ≤ a → least_of f xs ≡ min f (least_of a xs)
least_first f a [] h = omega arith
least_first f a (x ∷ xs) h =
    let ih : least_of f xs ≡ min f (least_of a xs) = least_first f a xs h in
    omega arith

-- the least cost dropped at the first i positions
abbrev pub lost_cost : Code → List ℤ → ℕ → ℕ → ℕ
lost_cost c y l i = least_of 4294967295 (map (code_cost c y) (dropped_by (score_of (code_transform c) c y l) (children c) l i))

pub lost_start : (c : Code) (y : List ℤ) (l : ℕ) → lost_cost c y l 0 ≡ 4294967295
unfolding dropped_by
lost_start c y l = refl

-- a prefix of bits, at most n of them
record Within (n : ℕ) (w : List ℕ) : Type 0 where
  short : length w ≤ n
  bits : Bits w

within : (n i : ℕ) → i ≤ n → {w : List ℕ} → Prefix i w → Within n w
within n i h p = record { short = omega (arith, p.long); bits = p.bits }

all_within : (n i : ℕ) → i ≤ n → {ws : List (List ℕ)} → All (Prefix i) ws → All (Within n) ws
all_within n i h none = none
all_within n i h (more p a) = more (within n i h p) (all_within n i h a)

head_prefix : (i : ℕ) {ws : List (List ℕ)} → All (Prefix i) ws → 0 < length ws → Prefix i (head_of ws)
head_prefix i none k = absurd (omega arith)
head_prefix i (more p a) k = p

module _ (c : Code) (y : List ℤ) (l : ℕ) (ey : length y ≡ size c) where
  abbrev s : List ℕ → ℤ
  s = score_of (code_transform c) c y l

  abbrev f : List ℕ → ℕ
  f = code_cost c y

  -- one position more
  pub lost_more : (i : ℕ) → i < size c
      → lost_cost c y l (suc i) ≡ least_of (lost_cost c y l i) (map f (drop l (sort_by (cheaper f) (families (children c i) (live (code_transform c) c y l i)))))
  unfolding dropped_by
  lost_more i h =
      let ds : List (List ℕ) = dropped_by s (children c) l i in
      let es : List (List ℕ) = drop l (sort_by (cheaper f) (families (children c i) (live (code_transform c) c y l i))) in
      ap (λ (ws : List (List ℕ)). least_of 4294967295 (map f (ds ++ drop l ws))) (sorted_by_cost c y l ey i h)
      ∙ ap (least_of 4294967295) (map-append f ds es)
      ∙ least_append 4294967295 (map f ds) (map f es)

  -- ---- the largest of scores is the least of costs
  largest_least : (z : ℤ) (a : ℕ) → z ≡ score_from (magnitude y) a → {ws : List (List ℕ)} → All (Within (size c)) ws
      → largest_of z (map s ws) ≡ score_from (magnitude y) (least_of a (map f ws))
  largest_least z a e none = e
  largest_least z a e (more {x = w} {xs = ws} p q) =
      ap₂ maxℤ (code_score c y p.bits ey p.short) (largest_least z a e q) ∙ max_sub (magnitude y) (f w) (least_of a (map f ws))

  dropped_within : (i : ℕ) → i ≤ size c → All (Within (size c)) (dropped_by s (children c) l i)
  unfolding dropped_by
  dropped_within zero h = none
  dropped_within (suc i) h =
      all_append (dropped_within i (omega arith)) (all_within (size c) (suc i) h (all_drop l (all_sort (ahead s) (family_prefix (code_transform c) c y l i))))

  pub ceiling_by_cost : (p : ℕ) → p ≤ size c → let first : List ℕ = head_of (live (code_transform c) c y l p) in
      0 < length (live (code_transform c) c y l p) → f first ≤ 4294967295
      → ceiling (code_transform c) c y l p ≡ score_from (magnitude y) (min (f first) (lost_cost c y l p))
  unfolding ceiling_by
  ceiling_by_cost p h k small =
      let w : List ℕ = head_of (live (code_transform c) c y l p) in
      let q : Within (size c) w = within (size c) p h (head_prefix p (live_prefix (code_transform c) c y l p) k) in
      largest_least (s w) (f w) (code_score c y q.bits ey q.short) (dropped_within p h)
      ∙ ap (score_from (magnitude y)) (least_first (f w) 4294967295 (map f (dropped_by s (children c) l p)) small)
