-- Bins folded by a call on each half, one after the other: what the calls are lent, and what they leave. Assumes nothing.
use Rattle.std.proofs.Common.{◌≡◌, ℕ, suc, ◌+◌, ◌-◌, ◌*◌, ◌/◌, ◌^◌, ◌<◌, List, ◌++◌, map, length, take, drop, ℤ, sym, ap, ◌∙◌, ap₂, arith, length-drop, length-take, take_at, drop_at}
use mathlib.Core.List.{map-append}
use lib.ListN.{length-map}
use Rattle.std.proofs.lemmas.List.{take-map, drop-map}
use Rattle.correlations.specs.Folding.{wrapped, sums, differences, crossed, folded}
use Rattle.correlations.proofs.Crossing.{length_sums}

-- ---- 2 ^ r bins, r above 0; half of them is h
module _ (r h : ℕ) (half : h ≡ 2 ^ r / 2) (some : 0 < r) where
  doubled : 2 ^ r ≡ 2 * 2 ^ (r - 1)
  doubled = let e : r ≡ suc (r - 1) = omega arith in ap (λ (k : ℕ). 2 ^ k) e ∙ omega arith

  half_is : h ≡ 2 ^ (r - 1)
  half_is = omega (arith, doubled)

  pub two_halves : 2 ^ r ≡ h + h
  two_halves = omega (arith, doubled)

  -- what a call on one of them takes
  pub call : (v : List ℕ) → length v ≡ h → (length v ≡ 2 ^ (r - 1)) × (h / 2 ≡ 2 ^ (r - 1) / 2)
  call v e = (e ∙ half_is, ap (λ (k : ℕ). k / 2) half_is)

  -- s are the bins, M has the sums and the differences, A and B are what the calls left of its halves
  module _ {s M A B : List ℕ} (long : length s ≡ 2 ^ r)
      (crossing : (zs : List ℤ) → s ≡ map wrapped zs → M ≡ map wrapped (crossed h zs))
      (first : (zs : List ℤ) → take h M ≡ map wrapped zs → A ≡ map wrapped (folded (r - 1) zs))
      (second : (zs : List ℤ) → drop h M ≡ map wrapped zs → B ≡ map wrapped (folded (r - 1) zs)) where
    pub halves_folded : (zs : List ℤ) → s ≡ map wrapped zs → A ++ B ≡ map wrapped (folded r zs)
    unfolding folded
    halves_folded zs e =
        let u : List ℤ = take h zs in
        let v : List ℤ = drop h zs in
        let all : length zs ≡ h + h = sym (length-map zs wrapped) ∙ ap length (sym e) ∙ long ∙ two_halves in
        let eu : length u ≡ h = length-take h zs ∙ omega (arith, all) in
        let ev : length v ≡ h = length-drop h zs ∙ omega (arith, all) in
        let es : length (sums u v) ≡ h = length_sums u v (eu ∙ sym ev) ∙ eu in
        let up : suc (r - 1) ≡ r = omega arith in
        let a : take h M ≡ map wrapped (sums u v) =
        ap (take h) (crossing zs e) ∙ take-map wrapped h (crossed h zs) ∙ ap (map wrapped) (take_at (sums u v) (differences u v) h es) in
        let b : drop h M ≡ map wrapped (differences u v) =
        ap (drop h) (crossing zs e) ∙ drop-map wrapped h (crossed h zs) ∙ ap (map wrapped) (drop_at (sums u v) (differences u v) h es) in
        ap₂ ◌++◌ (first (sums u v) a) (second (differences u v) b)
        ∙ sym (map-append wrapped (folded (r - 1) (sums u v)) (folded (r - 1) (differences u v)))
        ∙ ap (λ (k : ℕ). map wrapped (folded (r - 1) (sums (take k zs) (drop k zs)) ++ folded (r - 1) (differences (take k zs) (drop k zs)))) half_is
        ∙ ap (λ (k : ℕ). map wrapped (folded k zs)) up
