-- The loop that counts the correlations at the mark. Assumes nothing.
use mathlib.Core.Path.{◌≡◌, sym, ap, ◌∙◌}
use mathlib.Core.List.{List, [], map}
use Prim.Native.Nat.{ℕ, suc, ◌+◌, ◌<◌, ◌≤◌}
use native.Mathlib.Omega.{arith}
use native.Mathlib.Numerals.{add-one}
use lib.ListN.{length, drop, get_or, length-map, drop_of_length-le}
use lib.Seq.{drop-cons}
use lib.IntN.{ℤ, pos}
use Rattle.laws.specs.ListCost.{All, all_at}
use Rattle.correlations.specs.Folding.{wrapped}
use Rattle.payload_blocks.specs.Numerals.{get_d_map}
use Rattle.list_words.specs.Hits.{counts, hits}
use Rattle.list_words.specs.HitLaws.{hits_first}
use Rattle.list_words.specs.Kept.{Small}

-- the first i bins are counted
pub record Counting (mark : ℤ) (bins : List ℕ) (i found : ℕ) : Type 0 where
  pub near : i ≤ length bins
  pub few : found ≤ i
  pub is : (zs : List ℤ) (q : ℕ) → All Small zs → bins ≡ map wrapped zs → found + length (hits mark (q + i) (drop i zs)) ≡ length (hits mark q zs)

module _ {mark : ℤ} {bins : List ℕ} {i found : ℕ} (s : Counting mark bins i found) where
  pub counting_turn : i < length bins → {r : ℕ} → r ≤ 1 → ((z : ℤ) → Small z → get_or bins i 0 ≡ wrapped z → r ≡ counts mark z)
      → Counting mark bins (i + 1) (found + r)
  counting_turn h {r} one f = record {
    near = omega (arith, h);
    few = omega (arith, s.few, one);
    is = λ zs q a e.
        let l : i < length zs = omega (arith, h, ap length e, length-map zs wrapped) in
        let z : ℤ = get_or zs i (pos 0) in
        let rest : List ℤ = drop (suc i) zs in
        let here : get_or bins i 0 ≡ wrapped z = ap (λ (b : List ℕ). get_or b i 0) e ∙ get_d_map wrapped zs i (pos 0) 0 l in
        let now : length (hits mark (q + i) (drop i zs)) ≡ r + length (hits mark (suc (q + i)) rest)
        = ap (λ (x : List ℤ). length (hits mark (q + i) x)) (drop-cons zs i (pos 0) l) ∙ hits_first mark (q + i) z rest
        ∙ ap (λ (k : ℕ). k + length (hits mark (suc (q + i)) rest)) (sym (f z (all_at (pos 0) a i l) here)) in
        let next : length (hits mark (q + (i + 1)) (drop (i + 1) zs)) ≡ length (hits mark (suc (q + i)) rest)
        = rw (add-one i) (let k : q + suc i ≡ suc (q + i) = omega arith in ap (λ (j : ℕ). length (hits mark j rest)) k) in
        omega (arith, now, next, s.is zs q a e);
  }

  pub counting_done : length bins ≤ i → (zs : List ℤ) (q : ℕ) → All Small zs → bins ≡ map wrapped zs → found ≡ length (hits mark q zs)
  counting_done h zs q a e =
      let none_left : drop i zs ≡ [] = drop_of_length-le zs {i = i} (omega (arith, h, ap length e, length-map zs wrapped)) in
      let nothing : length (hits mark (q + i) (drop i zs)) ≡ 0 = ap (λ (x : List ℤ). length (hits mark (q + i) x)) none_left in
      omega (arith, nothing, s.is zs q a e)
