-- The start: what its passes write is right for the empty prefix.
use mathlib.Core.Path.{◌≡◌, refl, sym, ap, ap₂, subst, ◌∙◌}
use mathlib.Core.Logic.{⊎_elim}
use mathlib.Core.Bool.{Bool, false}
use mathlib.Core.List.{List, [], ◌∷◌}
use Prim.Native.Nat.{ℕ, suc, ◌+◌, ◌*◌, ◌-◌, ◌/◌, ◌%◌, ◌<◌, ◌≤◌, ◌^◌, min}
use native.Mathlib.Nat.{eq-or-lt_of_le}
use native.Mathlib.Omega.{arith}
use lib.ListN.{length, get_or}
use Rattle.std.specs.List.{CopiedTo, SameBelow, SameFrom}
use lib.IntN.{ℤ}
use lib.Pow.{pow_mono}
use Rattle.spec.specs.Bits.{nil}
use Rattle.spec.specs.Transform.{evens, odds}
use Rattle.spec.specs.Score.{taken}
use Rattle.laws.specs.Cost.{magnitude}
use Rattle.laws.specs.Windows.{at4, op4, F, W3, W4, win_start, base_0}
use Rattle.laws.specs.Nodes.{odd, node_even, node_odd, node_soft, node_prefix_nil, none_not_even}
use Rattle.laws.specs.Soft.{four_at, node_soft_bottom}
use Rattle.laws.specs.Taken.{length_taken, magnitude_range}
use Rattle.laws.specs.Cells.{Cell, blank_good, read3, Same3}
use Rattle.laws.specs.Bounds.{win_le, magnitude_halves, magnitude_node_soft}
use Rattle.windows.specs.Op.{tab_at, op4w}
use Rattle.windows.specs.Start.{first32}
use Rattle.tables.specs.Tab.{slot_start, WroteRows}
use Rattle.tables.specs.Right.{AllRight}
use Rattle.tables.specs.Start.{first_f, StartSize, Costs, First, Started, Untouched}
use Rattle.tables.proofs.Meaning.{read_right}
use Rattle.tables.proofs.Operator.{first32_same, op_full, op_same}
use Rattle.tables.proofs.Places.{pow_two, slot_apart, slot_deep, slot_ends}

-- rows that were written at a place and then copied to another
pub rows_copied : (F : ℕ → ℕ → ℕ) (a o q n : ℕ) (t t₁ t₂ : List ℕ) → n ≡ 16 * q → WroteRows F a 16 q t t₁
    → length t₂ ≡ length t₁ → CopiedTo t₁ t₂ a o n → SameBelow t₁ t₂ o → SameFrom t₁ t₂ (o + n)
    → WroteRows F o 16 q t₁ t₂
rows_copied F a o q n t t₁ t₂ en rows same copied below above = record {
  same = same;
  inside = λ r m hr hm.
      let e : a + (o + 16 * r + m - o) ≡ a + 16 * r + m = omega arith in
      copied (o + 16 * r + m) 0 (omega arith) (omega arith) ∙ ap (λ (z : ℕ). get_or t₁ z 0) e ∙ rows.inside r m hr hm;
  below = λ j h. below j 0 h;
  above = λ j h. above j 0 (omega arith);
}

-- the number of nodes of layer d, as a shift has it
pub width_of : (d : ℕ) → d ≤ 8 → 1 * 2 ^ d % 2 ^ 64 ≡ 2 ^ d
width_of d h = let e : 2 ^ d ≤ 2 ^ 8 = pow_mono {i = d} {j = 8} h in omega arith

-- ---- what depends on the layer rule
module _ (arikan : Bool) where
  -- ---- one node more: the children lie above all that is written
  pub first_same : (src w : ℕ) (t t' : List ℕ) → ((j : ℕ) → 16 * src ≤ j → get_or t' j 0 ≡ get_or t j 0) → (i x : ℕ)
      → first_f arikan src w t' i x ≡ first_f arikan src w t i x
  first_same src w t t' p i x
      = first32_same arikan (tab_at t' (16 * (src + i)) 0) (tab_at t' (16 * (src + w + i)) 0) (tab_at t (16 * (src + i)) 0)
      (tab_at t (16 * (src + w + i)) 0)
      (λ z h. p (16 * (src + i) + z) (omega arith)) (λ z h. p (16 * (src + w + i) + z) (omega arith)) refl refl
      (omega arith) (omega arith) x

  -- ---- a node's window, from its children's
  module _ (m : ℕ) (y : List ℤ) (deep : 2 ≤ m) (small : magnitude y < 2 ^ 31) (a b : Cell)
      (sa : Same3 (read3 odd a) (W3 arikan m (evens y) [])) (sb : Same3 (read3 odd b) (W3 arikan m (odds y) [])) where
    window_right : (x : ℕ) → first32 arikan a b x ≡ at4 (W4 arikan (suc m) y []) x
    window_right x = ap₂ min (at 0 (omega arith)) (at 1 (omega arith))
        ∙ sym (win_start arikan m y deep (x % 2) (x / 2 % 2) (x / 4 % 2) (x / 8 % 2))
      where
        at : (f : ℕ) → f < 2
            → op4w arikan (read3 odd a) (read3 odd b) (x % 2) (x / 2 % 2) (x / 4 % 2) (x / 8 % 2) f
            ≡ op4 arikan (W3 arikan m (evens y) []) (W3 arikan m (odds y) []) (x % 2) (x / 2 % 2) (x / 4 % 2) (x / 8 % 2) f
        at f hf = op_same arikan (read3 odd a) (W3 arikan m (evens y) []) (read3 odd b) (W3 arikan m (odds y) []) (x % 2)
            (omega arith) sa sb (x / 2 % 2) (x / 4 % 2) (x / 8 % 2) f (omega arith) (omega arith) (omega arith) hf
            ∙ op_full arikan (W3 arikan m (evens y) []) (W3 arikan m (odds y) [])
            (λ p q r. omega (arith, win_le arikan m (evens y) [] (p ∷ q ∷ r ∷ []), magnitude_halves y))
            (λ p q r. omega (arith, win_le arikan m (odds y) [] (p ∷ q ∷ r ∷ []), magnitude_halves y))
            (x % 2) (x / 2 % 2) (x / 4 % 2) (x / 8 % 2) f

  -- a word read as a child's window
  child_right : (m : ℕ) (y : List ℤ) (t : List ℕ) (p : ℕ) → ((x : ℕ) → x < 16 → get_or t (p + x) 0 ≡ at4 (W4 arikan m y []) x)
      → Same3 (read3 odd (tab_at t p 0)) (W3 arikan m y [])
  child_right m y t p e
      = read_right arikan m y [] (tab_at t p 0) (tab_at t p 0) false (blank_good arikan m y (λ x. get_or t (p + x) 0) e) nil refl
      (λ x _. refl) refl

  -- ---- a layer, from the layer below
  module _ (k d l : ℕ) (y : List ℤ) (t t' : List ℕ) (small : magnitude y < 2 ^ 31) (kids : First arikan k (suc d) l y t)
      (rows : WroteRows (first_f arikan (slot_start (2 * 2 ^ d) l 0) (2 ^ d) t) (16 * slot_start (2 ^ d) l 0) 16 (2 ^ d) t t')
    where
      abbrev src : ℕ
      src = slot_start (2 * 2 ^ d) l 0

      kid : (i j p : ℕ) → j < 2 ^ suc d → p ≡ src + j
          → Same3 (read3 odd (tab_at t (16 * p) 0)) (W3 arikan (suc (suc k)) (node_soft (suc d) y j) [])
      kid i j p hj e = child_right (suc (suc k)) (node_soft (suc d) y j) t (16 * p) λ x hx.
          ap (λ (z : ℕ). get_or t (16 * z + x) 0) (e ∙ ap (λ (w : ℕ). slot_start w l 0 + j) (sym (pow_two d)))
          ∙ kids j x hj hx

      layer_first : First arikan (suc k) d l y t'
      layer_first i x hi hx =
          let e : 16 * (slot_start (2 ^ d) l 0 + i) + x ≡ 16 * slot_start (2 ^ d) l 0 + 16 * i + x = omega arith in
          ap (λ (z : ℕ). get_or t' z 0) e ∙ rows.inside i x hi hx
          ∙ window_right (suc (suc k)) (node_soft d y i) (omega arith) (omega (arith, magnitude_node_soft d y i hi))
          (tab_at t (16 * (src + i)) 0) (tab_at t (16 * (src + 2 ^ d + i)) 0)
          (rw (node_even evens odds d y i hi) at (kid i i (src + i) (omega arith) refl))
          (rw (node_odd evens odds d y i) at (kid i (i + 2 ^ d) (src + 2 ^ d + i) (omega arith) (omega arith))) x

  -- ---- the loop up: the layers from d on are there
  abbrev FirstFrom : ℕ → ℕ → ℕ → List ℤ → List ℕ → Type 0
  FirstFrom deep d l y t = (k e : ℕ) → k + e ≡ deep → d ≤ e → First arikan k e l y t

  pub record Starting (deep l h d : ℕ) (y : List ℤ) (t₀ t : List ℕ) : Type 0 where
    pub far : d ≤ deep
    pub base : Costs arikan deep h y t
    pub windows : FirstFrom deep d l y t
    pub rest : Untouched deep l h t₀ t

  module _ (deep q l h : ℕ) (given : List ℤ) (t₀ : List ℕ) (size : StartSize deep q l h t₀ given) where
    abbrev y : List ℤ
    y = taken given

    -- a layer's windows end below the next layer's, and below the bottom's costs
    ends : (d e : ℕ) → d < e → slot_start (2 ^ d) l 0 + 2 ^ d ≤ slot_start (2 ^ e) l 0
    ends d e h = omega (arith, slot_apart (2 ^ d) l 0 l size.paths, slot_deep d e l 0 h)

    ends_low : (d : ℕ) → d ≤ deep → slot_start (2 ^ d) l 0 + 2 ^ d ≤ h
    ends_low d hd = omega (arith, ends d (suc deep) (omega arith), size.low)

    small : magnitude y < 2 ^ 31
    small =
        let e : 2 ^ suc (suc deep) ≤ 2 ^ 10 = pow_mono {i = suc (suc deep)} {j = 10} (omega (arith, size.deepest)) in
        omega (arith, magnitude_range given size.range, size.whole)

    pub bottom_fits : (slot_start q l 0 + q ≤ h) × (length given ≡ 4 * q) × (q ≤ 256)
    bottom_fits =
        let e : 2 ^ deep ≤ 2 ^ 8 = pow_mono {i = deep} {j = 8} size.deepest in
        let at : slot_start q l 0 ≡ slot_start (2 ^ deep) l 0 = ap (λ (w : ℕ). slot_start w l 0) size.bottom in (
          omega (arith, size.bottom, ends_low deep (omega arith)),
          omega (arith, size.whole, size.bottom),
          omega (arith, size.bottom),
        )

    pub start_fits : (c : ℕ) (t : List ℕ) → length t ≡ length t₀ → c < deep
        → (2 ^ c ≤ 1024) × (1 ≤ l) × (l ≤ 32) × (16 * slot_start (2 * 2 ^ c) l l ≤ length t)
    start_fits c t el hc =
        let e : 2 ^ c ≤ 2 ^ 8 = pow_mono {i = c} {j = 8} (omega (arith, size.deepest)) in
        (omega arith, size.paths, size.long, omega (arith, slot_ends c deep l hc, size.low, size.costs))

    -- the bottom
    pub start_bottom : (t₁ t₂ : List ℕ) → WroteRows (λ i. F arikan (four_at y q i)) (16 * h) 16 q t₀ t₁
        → WroteRows (λ i. F arikan (four_at y q i)) (16 * slot_start q l 0) 16 q t₁ t₂
        → Starting deep l h deep y t₀ t₂
    start_bottom t₁ t₂ a b = record {
      far = omega arith;
      base = λ i x hi hx.
          let e : 16 * (h + i) + x ≡ 16 * h + 16 * i + x = omega arith in
          b.above (16 * (h + i) + x) (omega (arith, low, size.bottom)) ∙ ap (λ (z : ℕ). get_or t₁ z 0) e
          ∙ a.inside i x (omega (arith, size.bottom)) hx ∙ soft i x hi;
      windows = λ k e ek he i x hi hx.
          let e₀ : e ≡ deep = omega arith in
          let k₀ : k ≡ 0 = omega arith in
          subst (λ (e : ℕ). (i : ℕ) → i < 2 ^ e
          → get_or t₂ (16 * (slot_start (2 ^ e) l 0 + i) + x) 0 ≡ at4 (W4 arikan (suc (suc k)) (node_soft e y i) []) x)
          (sym e₀)
          (λ i hi. subst (λ (k : ℕ). get_or t₂ (16 * (slot_start (2 ^ deep) l 0 + i) + x) 0
          ≡ at4 (W4 arikan (suc (suc k)) (node_soft deep y i) []) x) (sym k₀) (window i x hi hx)) i hi;
      rest = record {
        same = b.same ∙ a.same;
        rest = λ j o.
            ⊎_elim (λ g. b.below j (omega (arith, at))) (λ g. b.above j (omega (arith, at, size.bottom)))
            (o.layers deep (omega arith))
            ∙ ⊎_elim (λ g. a.below j g) (λ g. a.above j (omega (arith, size.bottom))) o.costs;
      };
    }
      where
        at : slot_start q l 0 ≡ slot_start (2 ^ deep) l 0
        at = ap (λ (w : ℕ). slot_start w l 0) size.bottom

        low : slot_start q l 0 + q ≤ h
        low = omega (arith, at, size.bottom, ends_low deep (omega arith))

        soft : (i x : ℕ) → i < 2 ^ deep → F arikan (four_at y q i) x ≡ F arikan (node_soft deep y i) x
        soft i x hi = ap (λ (z : List ℤ). F arikan z x)
            (ap (λ (w : ℕ). four_at y w i) size.bottom ∙ sym (node_soft_bottom deep y i hi (length_taken given ∙ size.whole)))

        window : (i x : ℕ) → i < 2 ^ deep → x < 16
            → get_or t₂ (16 * (slot_start (2 ^ deep) l 0 + i) + x) 0 ≡ at4 (W4 arikan 2 (node_soft deep y i) []) x
        window i x hi hx =
            let e : 16 * (slot_start (2 ^ deep) l 0 + i) + x ≡ 16 * slot_start q l 0 + 16 * i + x = omega (arith, at) in
            ap (λ (z : ℕ). get_or t₂ z 0) e ∙ b.inside i x (omega (arith, size.bottom)) hx ∙ soft i x hi
            ∙ sym (base_0 arikan (node_soft deep y i) (x % 2) (x / 2 % 2) (x / 4 % 2) (x / 8 % 2))

    -- one layer more
    pub start_more : (d c : ℕ) (t t' : List ℕ) → d ≡ suc c → Starting deep l h d y t₀ t
        → WroteRows (first_f arikan (slot_start (2 * 2 ^ c) l 0) (2 ^ c) t) (16 * slot_start (2 ^ c) l 0) 16 (2 ^ c) t t'
        → Starting deep l h c y t₀ t'
    start_more d c t t' ed a b = record {
      far = omega (arith, a.far);
      base = λ i x hi hx. b.above (16 * (h + i) + x) (omega (arith, ends_low c (omega (arith, a.far))))
          ∙ a.base i x hi hx;
      windows = λ k e ek he. ⊎_elim
          (λ (q : c ≡ e). subst (λ (e : ℕ). First arikan k e l y t') q (this k (omega arith)))
          (λ (q : c < e). λ i x hi hx. b.above (16 * (slot_start (2 ^ e) l 0 + i) + x) (omega (arith, ends c e q))
          ∙ a.windows k e ek (omega arith) i x hi hx)
          (eq-or-lt_of_le {n = c} {m = e} he);
      rest = record {
        same = b.same ∙ a.rest.same;
        rest = λ j o. ⊎_elim (λ g. b.below j g) (λ g. b.above j (omega arith)) (o.layers c (omega (arith, a.far)))
            ∙ a.rest.rest j o;
      };
    }
      where
        this : (k : ℕ) → k + c ≡ deep → First arikan k c l y t'
        this k ek =
            let z : k ≡ suc (k - 1) = omega (arith, a.far) in
            rw z (layer_first (k - 1) c l y t t' small
            (λ i x hi hx. a.windows (k - 1) (suc c) (omega (arith, a.far)) (omega arith) i x hi hx) b)

    pub start_done : (t : List ℕ) → Starting deep l h 0 y t₀ t → Started arikan deep l h y t × Untouched deep l h t₀ t
    start_done t a = (
      record { base = a.base; windows = λ k d e. a.windows k d e (omega arith); small = small },
      a.rest,
    )

  -- ---- what it means: with all even bits 0, and slot 0 for the one path, the tables are right for the empty prefix
  pub started_ready : (deep l h : ℕ) (y : List ℤ) (t b : List ℕ) → 1 ≤ l → slot_start (2 ^ suc deep) l 0 ≤ h
      → Started arikan deep l h y t → ((j : ℕ) → j < h → get_or b j 0 ≡ 0)
      → (k d : ℕ) → k + d ≡ deep → (S O : ℕ → ℕ) → S 0 ≡ 0 → AllRight arikan k d l h 1 y (λ _. []) t b S O
  started_ready deep l h y t b hl low a zeros k d e S O es r hr i hi =
      let s : S r ≡ 0 = ap S (omega arith) ∙ es in
      let at : slot_start (2 ^ d) l (S r) + i ≡ slot_start (2 ^ d) l 0 + i
      = ap (λ (z : ℕ). slot_start (2 ^ d) l z + i) s in
      rw (node_prefix_nil arikan d i hi) record {
        costs_are = λ x hx. ap (λ (z : ℕ). get_or t (16 * z + x) 0) at ∙ a.windows k d e i x hi hx;
        even_is = zeros (slot_start (2 ^ d) l (S r) + i)
            (omega (arith, slot_apart (2 ^ d) l 0 l hl, slot_deep d (suc deep) l 0 (omega arith)));
        bits_are = λ q. absurd (none_not_even q);
      }
