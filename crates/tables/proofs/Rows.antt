-- Rows that were written, one after another.
use mathlib.Core.Path.{◌≡◌, refl, ◌∙◌, sym, ap}
use mathlib.Core.Logic.{⊎_elim}
use mathlib.Core.List.{List}
use Prim.Native.Nat.{ℕ, ◌+◌, ◌*◌, ◌/◌, ◌%◌, ◌<◌, ◌≤◌}
use native.Mathlib.Nat.{not-suc-le-zero, eq-or-lt_of_le, mul-le-mul_left, mul-add, mul-one}
use native.Mathlib.Omega.{arith}
use lib.ListN.{get_or}
use Rattle.windows.specs.Op.{Wrote}
use Rattle.tables.specs.Tab.{WroteRows, flat16}

step_mono : (step r count : ℕ) → r < count → step * r + step ≤ step * count
step_mono step r count h =
    let e : step * (r + 1) ≡ step * r + step = mul-add step r 1 ∙ ap (λ (k : ℕ). step * r + k) (mul-one step) in
    let g : step * (r + 1) ≤ step * count = mul-le-mul_left step (omega arith) in
    omega arith

module _ (F : ℕ → ℕ → ℕ) (o step : ℕ) (t : List ℕ) where
  pub rows_none : WroteRows F o step 0 t t
  rows_none = record {
    same = refl;
    inside = λ r m h l. absurd (not-suc-le-zero h);
    below = λ j h. refl;
    above
        = λ j h. refl;
  }

  pub rows_more : (G : ℕ → ℕ) (count p : ℕ) (t' t'' : List ℕ) → p ≡ o + step * count → WroteRows F o step count t t'
      → Wrote G p step t' t''
      → ((m : ℕ) → m < step → G m ≡ F count m) → WroteRows F o step (count + 1) t t''
  rows_more G count p t' t'' e a b g =
      let n : step * (count + 1) ≡ step * count + step = mul-add step count 1
      ∙ ap (λ (k : ℕ). step * count + k) (mul-one step) in
      record {
        same = b.same ∙ a.same;
        inside = λ r m h l.
            ⊎_elim
            (λ (q : r ≡ count). rw q (ap (λ (k : ℕ). get_or t'' (k + m) 0) (sym e) ∙ b.inside m l ∙ g m l))
            (λ (q : r < count). b.below (o + step * r + m) (omega (arith, step_mono step r count q))
            ∙ a.inside r m q l)
            (eq-or-lt_of_le {n = r} {m = count} (omega arith));
        below = λ j h. b.below j (omega arith) ∙ a.below j h;
        above = λ j h. b.above j (omega arith) ∙ a.above j (omega arith);
      }

-- rows of sixteen as one run
pub rows_flat : (F : ℕ → ℕ → ℕ) (o count : ℕ) (t t' : List ℕ) → WroteRows F o 16 count t t'
    → Wrote (flat16 F) o (16 * count) t t'
rows_flat F o count t t' a = record {
  same = a.same;
  inside = λ m h.
      let e : o + m ≡ o + 16 * (m / 16) + m % 16 = omega arith in
      rw e (a.inside (m / 16) (m % 16) (omega arith) (omega arith));
  below = a.below;
  above = a.above;
}

-- rows of sixteen written anew, each from its own words
pub rows_again : (F G : ℕ → ℕ → ℕ) (from : ℕ → ℕ) (d count : ℕ) (t t' t'' : List ℕ)
    → ((x : ℕ) → x < 16 → from x < 16) → ((i x : ℕ) → x < 16 → F i (from x) ≡ G i x)
    → WroteRows F (16 * d) 16 count t t' → WroteRows (λ i x. get_or t' (16 * (d + i) + from x) 0) (16 * d) 16 count t' t''
    → WroteRows G (16 * d) 16 count t t''
rows_again F G from d count t t' t'' low e a b = record {
  same = b.same ∙ a.same;
  inside = λ i x hi hx.
      let z : 16 * (d + i) + from x ≡ 16 * d + 16 * i + from x = omega arith in
      b.inside i x hi hx ∙ ap (λ (k : ℕ). get_or t' k 0) z ∙ a.inside i (from x) hi (low x hx) ∙ e i x hx;
  below = λ j h. b.below j h ∙ a.below j h;
  above = λ j h. b.above j h ∙ a.above j h;
}
