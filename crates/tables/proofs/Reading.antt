-- The top of the tree: what is read there is what a path's prefix costs with one bit more, and the new bits written
-- there.
use mathlib.Core.Path.{◌≡◌, refl, sym, ap, subst, ◌∙◌}
use mathlib.Core.Logic.{⊎_elim}
use mathlib.Core.Bool.{Bool}
use mathlib.Core.List.{List, [], ◌∷◌, ◌++◌}
use Prim.Native.Nat.{ℕ, suc, ◌+◌, ◌*◌, ◌%◌, ◌<◌, ◌≤◌, ◌^◌}
use native.Mathlib.Nat.{zero-add, add-zero, mod-eq_of_lt}
use native.Mathlib.Omega.{arith}
use lib.ListN.{length, get_or, set}
use lib.IntN.{ℤ}
use Rattle.spec.specs.Bits.{Bits}
use Rattle.laws.specs.Cost.{cost, last}
use Rattle.laws.specs.Layer.{last_snoc}
use Rattle.laws.specs.Nodes.{Kind, none, odd, even, kind, is_even, bits_last, node, node_prefix, phase}
use Rattle.laws.specs.Cells.{Cell, Good, good_ext, peek, peek_is}
use Rattle.windows.specs.Op.{tab_at, kind_b, Wrote}
use Rattle.tables.specs.Tab.{slot_start}
use Rattle.tables.specs.Right.{cell_in, AllRight}
use Rattle.tables.specs.Walk.{slot_w, slot_o, Down, grown, field_at}
use Rattle.tables.specs.Top.{top_cost}
use Rattle.tables.proofs.Places.{slot_at, slot_twice}
use Rattle.tables.proofs.Sums.{wrote_first}
use Rattle.tables.proofs.Walks.{field_cases, field_even, field_odd}

peek_kind : (k : Kind) (c : Cell) (x : ℕ) → peek (kind_b (is_even k)) c x ≡ peek k c x
peek_kind none c x = refl
peek_kind odd c x = refl
peek_kind even c x = refl

-- one path more
pub costs_more : (n l h : ℕ) (t b slots : List ℕ) (x r v : ℕ) (ev : Bool) (z z' : List ℕ) → ev ≡ is_even (kind n)
    → r < length z
    → v ≡ peek (kind_b ev)
    (tab_at t (16 * slot_start 1 l (get_or slots r 0))
    (get_or b (2 * h + slot_start 1 l (get_or slots (512 + r) 0)) 0 % 2)) x
    → Wrote (top_cost n l h t b slots x) 0 r z z' → Wrote (top_cost n l h t b slots x) 0 (r + 1) z (set z' r v)
costs_more n l h t b slots x r v ev z z' e room ev' a =
    let at : 0 + r ≡ r = zero-add r in
    let c : Cell = tab_at t (16 * slot_start 1 l (get_or slots r 0))
    (get_or b (2 * h + slot_start 1 l (get_or slots (512 + r) 0)) 0 % 2) in
    wrote_first (top_cost n l h t b slots x) r v z z' room
    (rw at (ev' ∙ ap (λ (k : Bool). peek (kind_b k) c x) e ∙ peek_kind (kind n) c x)) a

-- a cell's odd bit is looked at where it is decided, and is then a bit
peek_bit : (k : Kind) (c : Cell) (o x : ℕ) → (k ≡ even → c.odd_bit < 2) → o ≡ c.odd_bit % 2
    → peek k (record { costs = c.costs; even_bit = 0; sum_bit = 0; odd_bit = o }) x ≡ peek k c x
peek_bit none c o x h e = refl
peek_bit odd c o x h e = refl
peek_bit even c o x h e = let z : o ≡ c.odd_bit = e ∙ mod-eq_of_lt (h refl) in rw z

-- ---- what depends on the layer rule
module _ (arikan : Bool) where
  -- where the top is right for the prefixes ws of n bits, what is read there is what each costs with one bit more
  module _ (deep l h count n : ℕ) (y : List ℤ) (ws : ℕ → List ℕ) (t b slots : List ℕ)
      (ready : AllRight arikan deep 0 l h count y ws t b (slot_w slots 0) (slot_o slots 0))
      (bits : (r : ℕ) → r < count → Bits (ws r))
      (long : (r : ℕ) → r < count → length (ws r) ≡ n) (room : n < 2 ^ suc (suc deep)) where
    pub top_right : (x : ℕ) → x < 2 → (r : ℕ) → r < count
        → top_cost n l h t b slots x r ≡ cost arikan (suc (suc deep)) y (ws r ++ x ∷ [])
    unfolding node
    top_right x hx r hr =
        let s : ℕ = slot_w slots 0 r in
        let o : ℕ = slot_o slots 0 r in
        let a : Cell = cell_in l h t b 1 s o 0 in
        let c : Cell = record {
          costs = λ z. get_or t (16 * slot_start 1 l s + z) 0;
          even_bit = a.even_bit;
          sum_bit = a.sum_bit;
          odd_bit
              = get_or b (2 * h + slot_start 1 l o) 0;
        } in
        let g : Good arikan (suc (suc deep)) y (ws r) c = good_ext arikan (suc (suc deep)) y (ws r) a c
        (λ z _. ap (λ (k : ℕ). get_or t (16 * k + z) 0) (sym (add-zero (slot_start 1 l s)))) refl refl
        (ap (λ (k : ℕ). get_or b k 0) (sym (add-zero (2 * h + slot_start 1 l o))))
        (ready r hr 0 (omega arith)) in
        let e : kind n ≡ kind (length (ws r)) = ap kind (sym (long r hr)) in
        peek_bit (kind n) c (c.odd_bit % 2) x
        (λ k. omega (arith, (g.bits_are (sym e ∙ k)).1, bits_last (bits r hr))) refl
        ∙ rw e (peek_is arikan (suc (suc deep)) y (ws r) c x g (bits r hr) hx (omega (arith, long r hr)))

  -- ---- the new bits
  -- every path's new bit at the top, from which the walk down starts
  pub top_down : (l h count n : ℕ) (ws : ℕ → List ℕ) (bs : ℕ → ℕ) (b₀ b bits : List ℕ) → count ≤ l
      → slot_start 1 l l ≤ h → ((r : ℕ) → r < count → bs r ≡ get_or bits r 0 % 2)
      → Wrote (λ r. get_or bits r 0 % 2) (field_at h (n % 2) + slot_start 1 l 0) count b₀ b
      → Down arikan l h count n 0 ws (grown ws bs) b₀ b
  unfolding node
  top_down l h count n ws bs b₀ b bits few low new a = record {
    same = a.same;
    grows = λ r i hr hi. ap (λ (x : ℕ). ws r ++ x ∷ []) (sym (last_snoc (ws r) (bs r)));
    bits = λ e r i he hr hi.
        let z : e ≡ 0 = omega arith in
        subst (λ (e : ℕ). (i : ℕ) → i < 2 ^ e
        → get_or b (field_at h (phase e n % 2) + slot_start (2 ^ e) l r + i) 0 ≡ last (node_prefix arikan e (grown ws bs r) i))
        (sym z) (at r hr) i hi;
    evens = λ j q q'. by_field j (λ f. a.above j (omega (arith, ends, twice))) (λ f. a.below j (omega arith));
    sums = λ j q q'. by_field j (λ f. a.above j (omega (arith, ends))) (λ f. a.below j (omega arith));
    odds = λ j q. by_field j (λ f. a.above j (omega (arith, ends, twice)))
        (λ f. a.above j (omega (arith, ends, twice)));
    here_odd = λ o j q q'. a.below j (omega (arith, field_odd h (n % 2) o));
    here_even = λ o j q. a.above j (omega (arith, field_even h (n % 2) o, ends));
  }
    where
      ends : slot_start 1 l 0 + count ≤ slot_start 1 l l
      ends = omega (arith, slot_at 1 l l)

      twice : slot_start 2 l 0 ≡ slot_start 1 l l
      twice = slot_twice 1 l

      by_field : (j : ℕ) → (field_at h (n % 2) ≡ 0 → get_or b j 0 ≡ get_or b₀ j 0)
          → (field_at h (n % 2) ≡ 2 * h → get_or b j 0 ≡ get_or b₀ j 0) → get_or b j 0 ≡ get_or b₀ j 0
      by_field j p q = ⊎_elim p q (field_cases h (n % 2))

      at : (r : ℕ) → r < count → (i : ℕ) → i < 1
          → get_or b (field_at h (n % 2) + slot_start 1 l r + i) 0 ≡ last (ws r ++ bs r ∷ [])
      at r hr i hi =
          let e : field_at h (n % 2) + slot_start 1 l r + i ≡ field_at h (n % 2) + slot_start 1 l 0 + r
          = omega (arith, slot_at 1 l r) in
          ap (λ (k : ℕ). get_or b k 0) e ∙ a.inside r hr ∙ sym (new r hr) ∙ sym (last_snoc (ws r) (bs r))
