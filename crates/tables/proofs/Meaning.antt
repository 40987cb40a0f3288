-- A layer's pass makes its windows right for every path, where those below are.
use mathlib.Core.Path.{◌≡◌, refl, ◌∙◌, sym, ap, ap₂, subst}
use mathlib.Core.Bool.{Bool}
use mathlib.Core.List.{List, [], ◌∷◌}
use Prim.Native.Nat.{ℕ, suc, ◌+◌, ◌*◌, ◌-◌, ◌/◌, ◌%◌, ◌<◌, ◌≤◌, ◌^◌, min}
use native.Mathlib.Nat.{mod-eq_of_lt}
use native.Mathlib.Omega.{arith}
use lib.ListN.{length, get_or}
use lib.IntN.{ℤ}
use Rattle.spec.specs.Transform.{evens, odds}
use Rattle.laws.specs.Places.{in_a, in_b, bits_in_a, bits_in_b}
use Rattle.spec.specs.Bits.{Bits}
use Rattle.laws.specs.Cost.{last, magnitude}
use Rattle.laws.specs.Layer.{Odd}
use Rattle.laws.specs.Windows.{at4, pack4, op4, W3, W4, win_op}
use Rattle.laws.specs.Nodes.{Kind, none, odd, even, kind, is_even, bits_last}
use Rattle.laws.specs.Nodes.{bits_node_prefix, shape, cut_odd, child_a, child_b, odd_not_even, node_even, node_odd}
use Rattle.laws.specs.Nodes.{node_soft, node_prefix, length_node_prefix, phase, odd_shape}
use Rattle.laws.specs.Cells.{Cell, Good, read3, read3_is, Same3, mask4_same, good_ext}
use Rattle.laws.specs.Bounds.{win_le, magnitude_halves, magnitude_node_soft}
use Rattle.windows.specs.Op.{tab_at, lift32, op4w, kind_b}
use Rattle.tables.specs.Tab.{slot_start, WroteRows, flat16, row_f}
use Rattle.tables.specs.Right.{cell_in, Right, AllRight, Below}
use Rattle.tables.proofs.Operator.{op_full, op_same}
use Rattle.tables.proofs.Places.{pow_two, slot_deep, slot_mono, slot_times}

-- ---- one node
-- three bits, read through the sixteen words and the odd bit of a cell that is right
read_kind : (k : Kind) (ev : Bool) (c c' : Cell) → ev ≡ is_even k → ((x : ℕ) → x < 16 → c'.costs x ≡ c.costs x)
    → (k ≡ even → (c'.odd_bit ≡ c.odd_bit) × (c.odd_bit < 2)) → Same3 (read3 (kind_b ev) c') (read3 k c)
read_kind none ev c c' e t q x y z hx hy hz
    = rw e (ap₂ min (t (pack4 x y z 0) (omega arith)) (t (pack4 x y z 1) (omega arith)))
read_kind odd ev c c' e t q x y z hx hy hz
    = rw e (ap₂ min (t (pack4 x y z 0) (omega arith)) (t (pack4 x y z 1) (omega arith)))
read_kind even ev c c' e t q x y z hx hy hz =
    let l : c.odd_bit < 2 = (q refl).1 in
    rw (e, (q refl).0) (t (pack4 c.odd_bit x y z) (omega arith))

-- ---- what depends on the layer rule
module _ (arikan : Bool) where
  pub read_right : (m : ℕ) (y : List ℤ) (v : List ℕ) (c c' : Cell) (ev : Bool) → Good arikan m y v c → Bits v
      → ev ≡ is_even (kind (length v))
      → ((x : ℕ) → x < 16 → c'.costs x ≡ c.costs x) → c'.odd_bit ≡ c.odd_bit % 2
      → Same3 (read3 (kind_b ev) c') (W3 arikan m y v)
  read_right m y v c c' ev g t e tt qq x₁ x₂ x₃ h₁ h₂ h₃ =
      read_kind (kind (length v)) ev c c' e tt (λ ke.
      let q : c.odd_bit ≡ last v = (g.bits_are ke).1 in
      let l : c.odd_bit < 2 = omega (arith, bits_last t) in
      (qq ∙ mod-eq_of_lt l, l)) x₁ x₂ x₃ h₁ h₂ h₃
      ∙ read3_is arikan m y v c g t x₁ x₂ x₃ h₁ h₂ h₃

  module _ (m : ℕ) (y : List ℤ) (u : List ℕ) (o : Odd u) (t : Bits u) (h : length u < 2 ^ suc m)
      (small : magnitude y < 2 ^ 31) (ev : Bool) (ca cb : Cell)
      (sa : Same3 (read3 (kind_b ev) ca) (W3 arikan m (evens y) (in_a arikan u)))
      (sb : Same3 (read3 (kind_b ev) cb) (W3 arikan m (odds y) (in_b arikan u))) where
    pub node_right : (x : ℕ) → lift32 arikan (2 ^ suc m - length u) (kind_b ev) ca cb (last u) x ≡ at4 (W4 arikan (suc m) y u) x
    node_right x =
        mask4_same (2 ^ suc m - length u) (op4w arikan (read3 (kind_b ev) ca) (read3 (kind_b ev) cb) (last u))
        (op4 arikan (W3 arikan m (evens y) (in_a arikan u)) (W3 arikan m (odds y) (in_b arikan u)) (last u))
        (λ a b c d ha hb hc hd. op_same arikan (read3 (kind_b ev) ca) (W3 arikan m (evens y) (in_a arikan u)) (read3 (kind_b ev) cb)
        (W3 arikan m (odds y) (in_b arikan u)) (last u) (bits_last t) sa sb a b c d ha hb hc hd
        ∙ op_full arikan (W3 arikan m (evens y) (in_a arikan u)) (W3 arikan m (odds y) (in_b arikan u))
        (λ a b c. omega (arith, win_le arikan m (evens y) (in_a arikan u) (a ∷ b ∷ c ∷ []), magnitude_halves y))
        (λ a b c. omega (arith, win_le arikan m (odds y) (in_b arikan u) (a ∷ b ∷ c ∷ []), magnitude_halves y))
        (last u) a b c d)
        (x % 2) (x / 2 % 2) (x / 4 % 2) (x / 8 % 2) (omega arith) (omega arith) (omega arith) (omega arith)
        ∙ sym (win_op arikan m y u o h (x % 2) (x / 2 % 2) (x / 4 % 2) (x / 8 % 2))

  -- ---- a path's row
  module _ (k d l h : ℕ) (y : List ℤ) (v : List ℕ) (ev : Bool) (n : ℕ) (b t t' : List ℕ) (s o o' r : ℕ)
      (tv : Bits v) (ko : kind (phase d (length v)) ≡ odd) (lv : phase d (length v) < 2 ^ suc (suc (suc k)))
      (en : n ≡ 2 ^ suc (suc (suc k)) - phase d (length v)) (ek : ev ≡ is_even (kind (phase (suc d) (length v))))
      (small : magnitude y < 2 ^ 31)
      (below : Right arikan k (suc d) y v (cell_in l h t b (2 ^ suc d) s o))
      (bits : (i : ℕ) → i < 2 ^ d → get_or b (slot_start (2 ^ d) l r + i) 0 ≡ last (node_prefix arikan d v i))
      (cells : (i x : ℕ) → i < 2 ^ d → x < 16
      → get_or t' (16 * (slot_start (2 ^ d) l r + i) + x) 0 ≡ row_f arikan ev n (2 ^ d) l h b t s o r i x) where
    below' : (i : ℕ) → i < 2 ^ suc d
        → Good arikan (suc (suc k)) (node_soft (suc d) y i) (node_prefix arikan (suc d) v i) (cell_in l h t b (2 * 2 ^ d) s o i)
    below' i g = subst (λ (w : ℕ). Good arikan (suc (suc k)) (node_soft (suc d) y i) (node_prefix arikan (suc d) v i)
        (cell_in l h t b w s o i)) (pow_two d) (below i g)

    module _ (i : ℕ) (hi : i < 2 ^ d) where
      abbrev u : List ℕ
      u = node_prefix arikan d v i

      lu : length u ≡ phase d (length v)
      lu = length_node_prefix arikan d v i hi

      ou : Odd u
      ou = odd_shape (shape u) (ap kind lu ∙ ko)

      bu : Bits u
      bu = bits_node_prefix arikan d v i hi tv

      e_a : node_prefix arikan (suc d) v i ≡ in_a arikan u
      e_a = node_even (child_a arikan) (child_b arikan) d v i hi ∙ ap (in_a arikan) (cut_odd u ou)

      e_b : node_prefix arikan (suc d) v (i + 2 ^ d) ≡ in_b arikan u
      e_b = node_odd (child_a arikan) (child_b arikan) d v i ∙ ap (in_b arikan) (cut_odd u ou)

      g_a : Good arikan (suc (suc k)) (evens (node_soft d y i)) (in_a arikan u) (cell_in l h t b (2 * 2 ^ d) s o i)
      g_a = rw (node_even evens odds d y i hi, e_a) at (below' i (omega arith))

      g_b : Good arikan (suc (suc k)) (odds (node_soft d y i)) (in_b arikan u) (cell_in l h t b (2 * 2 ^ d) s o (i + 2 ^ d))
      g_b = rw (node_odd evens odds d y i, e_b) at (below' (i + 2 ^ d) (omega arith))

      k_a : ev ≡ is_even (kind (length (in_a arikan u)))
      k_a = ek ∙ ap (λ (z : ℕ). is_even (kind z)) (sym (length_node_prefix arikan (suc d) v i (omega arith)) ∙ ap length e_a)

      k_b : ev ≡ is_even (kind (length (in_b arikan u)))
      k_b = ek ∙ ap (λ (z : ℕ). is_even (kind z))
          (sym (length_node_prefix arikan (suc d) v (i + 2 ^ d) (omega arith)) ∙ ap length e_b)

      abbrev src : ℕ
      src = slot_start (2 * 2 ^ d) l s

      abbrev os : ℕ
      os = 2 * h + slot_start (2 * 2 ^ d) l o

      far : 16 * (src + (i + 2 ^ d)) ≡ 16 * (src + 2 ^ d + i)
      far = omega arith

      s_a : Same3 (read3 (kind_b ev) (tab_at t (16 * (src + i)) (get_or b (os + i) 0 % 2)))
          (W3 arikan (suc (suc k)) (evens (node_soft d y i)) (in_a arikan u))
      s_a = read_right (suc (suc k)) (evens (node_soft d y i)) (in_a arikan u) (cell_in l h t b (2 * 2 ^ d) s o i)
          (tab_at t (16 * (src + i)) (get_or b (os + i) 0 % 2)) ev g_a (bits_in_a arikan bu) k_a
          (λ x _. refl) refl

      s_b : Same3 (read3 (kind_b ev) (tab_at t (16 * (src + 2 ^ d + i)) (get_or b (os + 2 ^ d + i) 0 % 2)))
          (W3 arikan (suc (suc k)) (odds (node_soft d y i)) (in_b arikan u))
      s_b = read_right (suc (suc k)) (odds (node_soft d y i)) (in_b arikan u) (cell_in l h t b (2 * 2 ^ d) s o (i + 2 ^ d))
          (tab_at t (16 * (src + 2 ^ d + i)) (get_or b (os + 2 ^ d + i) 0 % 2)) ev g_b (bits_in_b arikan bu) k_b
          (λ x _. ap (λ (z : ℕ). get_or t (z + x) 0) (sym far))
          (let e : os + 2 ^ d + i ≡ os + (i + 2 ^ d) = omega arith in ap (λ (z : ℕ). get_or b z 0 % 2) e)

      e_e : get_or b (slot_start (2 ^ d) l r + i) 0 % 2 ≡ last u
      e_e = ap (λ (z : ℕ). z % 2) (bits i hi) ∙ mod-eq_of_lt (bits_last bu)

      e_n : n ≡ 2 ^ suc (suc (suc k)) - length u
      e_n = en ∙ ap (λ (z : ℕ). 2 ^ suc (suc (suc k)) - z) (sym lu)

      right : (x : ℕ) → row_f arikan ev n (2 ^ d) l h b t s o r i x ≡ at4 (W4 arikan (suc (suc (suc k))) (node_soft d y i) u) x
      right x = rw (e_e, e_n)
          (node_right (suc (suc k)) (node_soft d y i) u ou bu (rw lu lv) (omega (arith, magnitude_node_soft d y i hi)) ev
          (tab_at t (16 * (src + i)) (get_or b (os + i) 0 % 2))
          (tab_at t (16 * (src + 2 ^ d + i)) (get_or b (os + 2 ^ d + i) 0 % 2)) s_a s_b x)

      good : Good arikan (suc (suc (suc k))) (node_soft d y i) u (cell_in l h t' b (2 ^ d) r o' i)
      good = record {
        costs_are = λ x hx. cells i x hi hx ∙ right x
            ∙ ap (λ (z : List ℕ). at4 (W4 arikan (suc (suc (suc k))) (node_soft d y i) z) x) (sym (cut_odd u ou));
        even_is = bits i hi ∙ ap last (sym (cut_odd u ou));
        bits_are = λ q. absurd (odd_not_even (sym (ap kind lu ∙ ko) ∙ q));
      }

    pub row_right : Right arikan (suc k) d y v (cell_in l h t' b (2 ^ d) r o')
    row_right i hi = good i hi

  -- ---- all paths: one layer is right where the one below it is
  pub layer_right : (k d l h : ℕ) (y : List ℤ) (N : ℕ) (vs : ℕ → List ℕ) (ev : Bool) (n count : ℕ) (b t t' : List ℕ)
      (S O O' : ℕ → ℕ)
      → ((r : ℕ) → r < count → Bits (vs r)) → ((r : ℕ) → r < count → length (vs r) ≡ N)
      → kind (phase d N) ≡ odd → phase d N < 2 ^ suc (suc (suc k)) → n ≡ 2 ^ suc (suc (suc k)) - phase d N
      → ev ≡ is_even (kind (phase (suc d) N)) → magnitude y < 2 ^ 31
      → AllRight arikan k (suc d) l h count y vs t b S O
      → ((r i : ℕ) → r < count → i < 2 ^ d → get_or b (slot_start (2 ^ d) l r + i) 0 ≡ last (node_prefix arikan d (vs r) i))
      → WroteRows (λ z. flat16 (row_f arikan ev n (2 ^ d) l h b t (S z) (O z) z)) (16 * slot_start (2 ^ d) l 0)
      (16 * 2 ^ d) count t t'
      → AllRight arikan (suc k) d l h count y vs t' b (λ r. r) O'
  layer_right k d l h y N vs ev n count b t t' S O O' tv ln ko lp en ek small below bits a r hr =
      row_right k d l h y (vs r) ev n b t t' (S r) (O r) (O' r) r (tv r hr) (rw (ln r hr) ko) (rw (ln r hr) lp)
      (rw (ln r hr) en) (rw (ln r hr) ek) small (below r hr)
      (λ i hi. bits r i hr hi)
      (λ i x hi hx.
      let e : 16 * (slot_start (2 ^ d) l r + i) + x ≡ 16 * slot_start (2 ^ d) l 0 + 16 * 2 ^ d * r + (16 * i + x)
      = omega (arith, slot_times 16 (2 ^ d) l r) in
      let e₁ : (16 * i + x) / 16 ≡ i = omega arith in
      let e₂ : (16 * i + x) % 16 ≡ x = omega arith in
      ap (λ (z : ℕ). get_or t' z 0) e ∙ a.inside r (16 * i + x) hr (omega arith)
      ∙ ap₂ (row_f arikan ev n (2 ^ d) l h b t (S r) (O r) r) e₁ e₂)

  -- ---- what is not written stays right
  right_kept : (k d l h : ℕ) (y : List ℤ) (v : List ℕ) (t t' b : List ℕ) (s o : ℕ)
      → ((i x : ℕ) → i < 2 ^ d → x < 16
      → get_or t' (16 * (slot_start (2 ^ d) l s + i) + x) 0 ≡ get_or t (16 * (slot_start (2 ^ d) l s + i) + x) 0)
      → Right arikan k d y v (cell_in l h t b (2 ^ d) s o) → Right arikan k d y v (cell_in l h t' b (2 ^ d) s o)
  right_kept k d l h y v t t' b s o p g i hi =
      good_ext arikan (suc (suc k)) (node_soft d y i) (node_prefix arikan d v i) (cell_in l h t b (2 ^ d) s o i)
      (cell_in l h t' b (2 ^ d) s o i) (λ x hx. p i x hi hx) refl refl refl (g i hi)

  -- a layer's rows change no other layer
  pub deeper_kept : (k d e l h count : ℕ) (y : List ℤ) (vs : ℕ → List ℕ) (F : ℕ → ℕ → ℕ) (b t t' : List ℕ)
      (S O : ℕ → ℕ) → d < e → count ≤ l
      → WroteRows F (16 * slot_start (2 ^ d) l 0) (16 * 2 ^ d) count t t' → AllRight arikan k e l h count y vs t b S O
      → AllRight arikan k e l h count y vs t' b S O
  deeper_kept k d e l h count y vs F b t t' S O lt lc a g r hr =
      right_kept k e l h y (vs r) t t' b (S r) (O r)
      (λ i x hi hx. a.above (16 * (slot_start (2 ^ e) l (S r) + i) + x)
      (omega (arith, slot_times 16 (2 ^ d) l count, slot_mono (2 ^ d) l count l lc, slot_deep d e l (S r) lt))) (g r hr)

  pub below_right : (k d l h count w n : ℕ) (ev : Bool) (y : List ℤ) (N : ℕ) (vs : ℕ → List ℕ) (t b : List ℕ)
      (S O O' : ℕ → ℕ) (t' : List ℕ) → Below arikan k d l h count w n ev y N vs t b S O
      → WroteRows (λ z. flat16 (row_f arikan ev n w l h b t (S z) (O z) z)) (16 * slot_start w l 0) (16 * w) count t t'
      → AllRight arikan (suc k) d l h count y vs t' b (λ r. r) O'
  below_right k d l h count w n ev y N vs t b S O O' t' a p =
      layer_right k d l h y N vs ev n count b t t' S O O' a.bits a.long a.after a.inside a.left
      a.reads a.small a.kids a.evens (rw a.width at p)
