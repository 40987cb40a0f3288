-- The cut of slot numbers, and what it means for the prefixes that the ranks stand for.
use mathlib.Core.Path.{◌≡◌, refl, ap, ◌∙◌}
use mathlib.Core.Logic.{⊎_elim}
use mathlib.Core.Bool.{Bool}
use mathlib.Core.List.{List}
use Prim.Native.Nat.{ℕ, ◌+◌, ◌*◌, ◌<◌, ◌≤◌}
use native.Mathlib.Nat.{zero-add, not-suc-le-zero, eq-or-lt_of_le, mod-eq_of_lt}
use native.Mathlib.Omega.{arith}
use lib.ListN.{length, get_or}
use lib.IntN.{ℤ}
use Rattle.windows.specs.Op.{Wrote}
use Rattle.tables.specs.Right.{AllRight}
use Rattle.tables.specs.Walk.{slot_w, slot_o, Named}
use Rattle.tables.specs.Cut.{parent, CutRows, CutSlots}
use Rattle.tables.proofs.Places.{lt_or_le}

-- ---- the rows of all layers
pub cut_none : (from count : ℕ) (parents slots : List ℕ) → CutRows from 0 count parents slots slots
cut_none from count parents slots = record {
  same = refl;
  moved = λ d r h _. absurd (not-suc-le-zero h);
  stays = λ d r h _ _. absurd (not-suc-le-zero h);
  below = λ j _. refl;
  above = λ j _. refl;
}

pub cut_more : (from d count : ℕ) (parents s s' s'' : List ℕ) → count ≤ 32 → CutRows from d count parents s s'
    → Wrote (λ r. get_or s' (from + 32 * d + parent parents r) 0) (from + 32 * d) count s' s''
    → CutRows from (d + 1) count parents s s''
cut_more from d count parents s s' s'' few a b = record {
  same = b.same ∙ a.same;
  moved = λ e r he hr. ⊎_elim
      (λ (q : e ≡ d). rw q (b.inside r hr ∙ a.above (from + 32 * d + parent parents r) (omega arith)))
      (λ (q : e < d). b.below (from + 32 * e + r) (omega arith) ∙ a.moved e r q hr)
      (eq-or-lt_of_le {n = e} {m = d} (omega arith));
  stays = λ e r he hr hr'. ⊎_elim
      (λ (q : e ≡ d). rw q (b.above (from + 32 * d + r) (omega arith) ∙ a.above (from + 32 * d + r) (omega arith)))
      (λ (q : e < d). b.below (from + 32 * e + r) (omega arith) ∙ a.stays e r q hr hr')
      (eq-or-lt_of_le {n = e} {m = d} (omega arith));
  below = λ j h. b.below j (omega arith) ∙ a.below j h;
  above = λ j h. b.above j (omega arith) ∙ a.above j (omega arith);
}

-- both kinds of numbers
pub cut_both : (deep count : ℕ) (parents s s' s'' : List ℕ) → deep ≤ 8 → count ≤ 32
    → CutRows 0 (deep + 1) count parents s s' → CutRows 512 (deep + 1) count parents s' s''
    → CutSlots deep count parents s s''
cut_both deep count parents s s' s'' hd few a b = record {
  same = b.same ∙ a.same;
  windows = λ d r h hr. b.below (32 * d + r) (omega arith)
      ∙ at d r (parent parents r) (a.moved d r (omega arith) hr);
  odds = λ d r h hr. b.moved d r (omega arith) hr ∙ a.above (512 + 32 * d + parent parents r) (omega arith);
  windows_stay = λ d r h hr. ⊎_elim
      (λ (q : deep < d). b.below (32 * d + r) (omega arith) ∙ a.above (32 * d + r) (omega arith))
      (λ (q : count ≤ r). b.below (32 * d + r) (omega arith) ∙ stay d r q hr);
  odds_stay = λ d r hr. ⊎_elim
      (λ (q : deep < d). b.above (512 + 32 * d + r) (omega arith) ∙ a.above (512 + 32 * d + r) (omega arith))
      (λ (q : count ≤ r). odd_stay d r q hr);
}
  where
    at : (d r p : ℕ) → get_or s' (0 + 32 * d + r) 0 ≡ get_or s (0 + 32 * d + p) 0
        → get_or s' (32 * d + r) 0 ≡ get_or s (32 * d + p) 0
    at d r p e = rw (zero-add (32 * d)) at e

    stay : (d r : ℕ) → count ≤ r → r < 32 → get_or s' (32 * d + r) 0 ≡ get_or s (32 * d + r) 0
    stay d r q hr = ⊎_elim (λ (h : d < deep + 1). at d r r (a.stays d r h q hr))
        (λ (h : deep + 1 ≤ d). a.above (32 * d + r) (omega arith)) (lt_or_le d (deep + 1))

    odd_stay : (d r : ℕ) → count ≤ r → r < 32 → get_or s'' (512 + 32 * d + r) 0 ≡ get_or s (512 + 32 * d + r) 0
    odd_stay d r q hr = ⊎_elim (λ (h : d < deep + 1). b.stays d r h q hr)
        (λ (h : deep + 1 ≤ d). b.above (512 + 32 * d + r) (omega arith)) (lt_or_le d (deep + 1))
        ∙ a.above (512 + 32 * d + r) (omega arith)

-- ---- what it means: rank r now stands for the prefix of its parent
module _ (deep oldCount count : ℕ) (parents slots slots' : List ℕ) (old : oldCount ≤ 32)
    (known : (r : ℕ) → r < count → get_or parents r 0 < oldCount) (a : CutSlots deep count parents slots slots') where
  parent_is : (r : ℕ) → r < count → parent parents r ≡ get_or parents r 0
  parent_is r hr = mod-eq_of_lt (omega (arith, known r hr))

  window_of : (d r : ℕ) → d ≤ deep → r < count → slot_w slots' d r ≡ slot_w slots d (get_or parents r 0)
  window_of d r hd hr = a.windows d r hd hr ∙ ap (slot_w slots d) (parent_is r hr)

  odd_of : (d r : ℕ) → d ≤ deep → r < count → slot_o slots' d r ≡ slot_o slots d (get_or parents r 0)
  odd_of d r hd hr = a.odds d r hd hr ∙ ap (slot_o slots d) (parent_is r hr)

  pub cut_right : (arikan : Bool) (k d l h : ℕ) (y : List ℤ) (ws : ℕ → List ℕ) (t b : List ℕ) → d ≤ deep
      → AllRight arikan k d l h oldCount y ws t b (slot_w slots d) (slot_o slots d)
      → AllRight arikan k d l h count y (λ r. ws (get_or parents r 0)) t b (slot_w slots' d) (slot_o slots' d)
  cut_right arikan k d l h y ws t b hd ready r hr
      = rw (window_of d r hd hr, odd_of d r hd hr) (ready (get_or parents r 0) (known r hr))

  pub cut_named : (l : ℕ) → deep ≤ 8 → count ≤ 32 → 800 ≤ length slots → Named deep l oldCount slots
      → Named deep l count slots'
  cut_named l hd few size n = record {
    windows = λ d h. record {
      there = omega (arith, a.same);
      named = λ r hr. rw (window_of d r h hr) ((n.windows d h).named (get_or parents r 0) (known r hr));
    };
    odds = λ d h. record {
      there = omega (arith, a.same);
      named = λ r hr. rw (odd_of d r h hr) ((n.odds d h).named (get_or parents r 0) (known r hr));
    };
  }
