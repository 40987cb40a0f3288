-- Soft values added up in bins, position by position: where the loop stands, one turn, and the end. Assumes nothing.
use Rattle.std.proofs.Common.{◌≡◌, ℕ, zero, suc, ◌+◌, ◌<◌, ◌≤◌, List, [], ◌∷◌, map, length, get_or, drop, set, replicate, ℤ, pos, ◌+ℤ◌, sym, refl, ap, ◌∙◌, ap₂, add-one, arith, length-set, drop-cons}
use lib.ListN.{get_or-map, length-replicate}
use Rattle.spec.specs.Score.{signed}
use Rattle.correlations.specs.Folding.{wrapped, add_at, binned, signed_by}

-- ---- where the loop stands: the bins hold some numbers, and the positions from i on are still to be added to them
pub record Binning (cols w : List ℕ) (ys : List ℤ) (n : ℕ) (bins : List ℕ) (i : ℕ) : Type 0 where
  pub near : i ≤ length ys
  pub kept : length bins ≡ n
  pub held : List ℤ
  pub is : bins ≡ map wrapped held
  pub rest : binned cols (signed_by ys w) (replicate n (pos 0)) ≡ binned (drop i cols) (signed_by (drop i ys) (drop i w)) held

map_zeros : (n : ℕ) → map wrapped (replicate n (pos 0)) ≡ replicate n 0
unfolding wrapped
map_zeros zero = refl
map_zeros (suc n) = ap (λ (l : List ℕ). 0 ∷ l) (map_zeros n)

map_add_at : (c : ℕ) (z : ℤ) (u : List ℤ) → set (map wrapped u) c (wrapped (get_or u c (pos 0) +ℤ z)) ≡ map wrapped (add_at c z u)
map_add_at c z [] = refl
map_add_at zero z (a ∷ u) = refl
map_add_at (suc c) z (a ∷ u) = ap (λ (l : List ℕ). wrapped a ∷ l) (map_add_at c z u)

held_at : (u : List ℤ) (c : ℕ) → get_or (map wrapped u) c 0 ≡ wrapped (get_or u c (pos 0))
unfolding wrapped
held_at u c = get_or-map wrapped u c (pos 0)

module _ (cols w : List ℕ) (ys : List ℤ) where
  pub binning_none : (n : ℕ) (bins : List ℕ) → bins ≡ replicate n 0 → Binning cols w ys n bins 0
  binning_none n bins e = record {
    near = omega arith;
    kept = ap length e ∙ length-replicate n 0;
    held = replicate n (pos 0);
    is = e ∙ sym (map_zeros n);
    rest = refl;
  }

  module _ (ew : length w ≡ length ys) (ec : length cols ≡ length ys) {n i : ℕ} {bins : List ℕ} (b : Binning cols w ys n bins i) where
    -- position i: its column c, its soft value y, and v, which is bin c with y added
    pub binning_turn : i < length ys → {c v : ℕ} {y : ℤ} → c ≡ get_or cols i 0 → y ≡ get_or ys i (pos 0)
        → ((z : ℤ) → get_or bins c 0 ≡ wrapped z → v ≡ wrapped (z +ℤ signed y (get_or w i 0)))
        → Binning cols w ys n (set bins c v) (i + 1)
    binning_turn l {c} {v} {y} e f added =
        let z : ℤ = signed y (get_or w i 0) in
        let u : List ℤ = b.held in
        record {
          near = omega arith;
          kept = length-set bins c v ∙ b.kept;
          held = add_at c z u;
          is =
              ap₂ (λ (t : List ℕ) (k : ℕ). set t c k) b.is (added (get_or u c (pos 0)) (ap (λ (t : List ℕ). get_or t c 0) b.is ∙ held_at u c))
              ∙ map_add_at c z u;
          rest =
              b.rest
              ∙ ap₂ (λ (ds : List ℕ) (zs : List ℤ). binned ds zs u) (drop-cons cols i 0 (omega (arith, ec)))
              (ap₂ signed_by (drop-cons ys i (pos 0) l) (drop-cons w i 0 (omega (arith, ew))))
              ∙ ap₂ (λ (d : ℕ) (x : ℤ). binned (drop (suc i) cols) (signed_by (drop (suc i) ys) (drop (suc i) w)) (add_at d (signed x (get_or w i 0)) u)) (sym e) (sym f)
              ∙ ap (λ (k : ℕ). binned (drop k cols) (signed_by (drop k ys) (drop k w)) (add_at c z u)) (sym (add-one i));
        }
