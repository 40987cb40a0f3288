-- The layer where the walk down ends, where it got an odd bit, and the layers below it, which stay.
use mathlib.Core.Path.{◌≡◌, refl, ◌∙◌, sym, ap, ap₂, subst}
use mathlib.Core.Logic.{⊎_elim}
use mathlib.Core.Bool.{Bool, false, cond}
use mathlib.Core.List.{List, [], ◌∷◌, ◌++◌}
use Prim.Native.Nat.{ℕ, zero, suc, ◌+◌, ◌*◌, ◌-◌, ◌%◌, ◌<◌, ◌≤◌, ◌^◌}
use native.Mathlib.Nat.{eq-or-lt_of_le}
use native.Mathlib.Omega.{arith}
use lib.ListN.{length, get_or}
use lib.IntN.{ℤ}
use Rattle.spec.specs.Bits.{◌⊕◌}
use Rattle.laws.specs.Cost.{last}
use Rattle.laws.specs.Layer.{Odd, last_snoc}
use Rattle.laws.specs.Places.{carry, carry_all}
use Rattle.laws.specs.Nodes.{bits_snoc, bits_last, bits_cut, bits_node_prefix, cut, cut_odd, cut_even, child_a, child_b}
use Rattle.laws.specs.Nodes.{child_a_step, child_b_step, odd, kind, is_even, pair_sum, odd_last, phase, shape}
use Rattle.laws.specs.Nodes.{node_even, node_odd, node_prefix, node_soft, length_node_prefix, by_child, kind_of_odd}
use Rattle.laws.specs.Nodes.{odd_shape}
use Rattle.laws.specs.Cells.{Cell, Good, good_ext}
use Rattle.windows.specs.Op.{Wrote}
use Rattle.tables.specs.Tab.{slot_start, WroteRows, sum_f}
use Rattle.tables.specs.Right.{cell_in, AllRight}
use Rattle.tables.specs.Walk.{slot_w, slot_o, Paths, grown, field_at, Down, ReadyFrom, Named}
use Rattle.tables.proofs.Places.{slot_apart, slot_at, slot_deep, slot_mono, slot_past}
use Rattle.tables.proofs.Walks.{field_even, field_odd, mix_xor}

-- ---- what depends on the layer rule
module _ (arikan : Bool) where
  -- ---- the layers below e stay
  module _ (D l h count n : ℕ) (t b₀ slots : List ℕ) (p : Paths arikan D l h count n t b₀ slots) (e : ℕ) (b : List ℕ)
      (g : Down arikan l h count n e p.ws (grown p.ws p.bs) b₀ b)
      (low : slot_start (2 ^ suc D) l 0 ≤ h) (named : Named D l count slots)
      (ke : is_even (kind (phase e n)) ≡ false) where
    abbrev vs : ℕ → List ℕ
    vs = grown p.ws p.bs

    module _ (r : ℕ) (hr : r < count) where
      kept_here : (i : ℕ) → i < 2 ^ suc e → node_prefix arikan (suc e) (vs r) i ≡ node_prefix arikan (suc e) (p.ws r) i
      kept_here = by_child (λ i. node_prefix arikan (suc e) (vs r) i ≡ node_prefix arikan (suc e) (p.ws r) i) e
          (λ j q.
          let v : List ℕ = node_prefix arikan e (p.ws r) j in
          let x : ℕ = last (node_prefix arikan e (vs r) j) in
          let f : is_even (kind (length v)) ≡ false
          = ap (λ (z : ℕ). is_even (kind z)) (length_node_prefix arikan e (p.ws r) j q ∙ ap (phase e) (p.long r hr))
          ∙ ke in
          node_even (child_a arikan) (child_b arikan) e (vs r) j q ∙ ap (child_a arikan) (g.grows r j hr q)
          ∙ child_a_step arikan v x (pair_sum v) (bits_node_prefix arikan e (p.ws r) j q (p.bits r hr)) (λ _. refl)
          ∙ ap (λ (c : Bool). cond c (child_a arikan v ++ (pair_sum v ⊕ carry arikan x) ∷ []) (child_a arikan v)) f
          ∙ sym (node_even (child_a arikan) (child_b arikan) e (p.ws r) j q))
          (λ j q.
          let v : List ℕ = node_prefix arikan e (p.ws r) j in
          let x : ℕ = last (node_prefix arikan e (vs r) j) in
          let f : is_even (kind (length v)) ≡ false
          = ap (λ (z : ℕ). is_even (kind z)) (length_node_prefix arikan e (p.ws r) j q ∙ ap (phase e) (p.long r hr))
          ∙ ke in
          node_odd (child_a arikan) (child_b arikan) e (vs r) j ∙ ap (child_b arikan) (g.grows r j hr q)
          ∙ child_b_step arikan v x (odd_last v) (λ _. refl)
          ∙ ap (λ (c : Bool). cond c (child_b arikan v ++ (odd_last v ⊕ carry arikan x) ∷ []) (child_b arikan v)) f
          ∙ sym (node_odd (child_a arikan) (child_b arikan) e (p.ws r) j))

      pub kept_pre : (c i : ℕ) → i < 2 ^ (c + suc e)
          → node_prefix arikan (c + suc e) (vs r) i ≡ node_prefix arikan (c + suc e) (p.ws r) i
      kept_pre zero i hi = let z : 0 + suc e ≡ suc e = omega arith in rw z (kept_here i (rw z at hi))
      kept_pre (suc c) i hi =
          let z : suc c + suc e ≡ suc (c + suc e) = omega arith in
          rw z (by_child (λ i. node_prefix arikan (suc (c + suc e)) (vs r) i ≡ node_prefix arikan (suc (c + suc e)) (p.ws r) i)
          (c + suc e)
          (λ j q. node_even (child_a arikan) (child_b arikan) (c + suc e) (vs r) j q ∙ ap (child_a arikan) (kept_pre c j q)
          ∙ sym (node_even (child_a arikan) (child_b arikan) (c + suc e) (p.ws r) j q))
          (λ j q. node_odd (child_a arikan) (child_b arikan) (c + suc e) (vs r) j ∙ ap (child_b arikan) (kept_pre c j q)
          ∙ sym (node_odd (child_a arikan) (child_b arikan) (c + suc e) (p.ws r) j)) i (rw z at hi))

    in_field : (d s : ℕ) → d ≤ D → s < l → slot_start (2 ^ d) l s + 2 ^ d ≤ h
    in_field d s hd hs = omega (arith, low, slot_apart (2 ^ d) l s l hs, slot_deep d (suc D) l 0 (omega arith))

    pub stays : (k d : ℕ) → k + d ≡ D → e < d → AllRight arikan k d l h count p.y vs t b (slot_w slots d) (slot_o slots d)
    stays k d ek ed r hr i hi =
        let s : ℕ = slot_w slots d r in
        let o : ℕ = slot_o slots d r in
        let ls : slot_start (2 ^ d) l s + 2 ^ d ≤ h
        = in_field d s (omega arith) ((named.windows d (omega arith)).named r hr) in
        let lo : slot_start (2 ^ d) l o + 2 ^ d ≤ h
        = in_field d o (omega arith) ((named.odds d (omega arith)).named r hr) in
        let z : d - suc e + suc e ≡ d = omega arith in
        let ev : node_prefix arikan d (vs r) i ≡ node_prefix arikan d (p.ws r) i
        = subst (λ (d : ℕ). i < 2 ^ d → node_prefix arikan d (vs r) i ≡ node_prefix arikan d (p.ws r) i) z
        (kept_pre r hr (d - suc e) i) hi in
        rw ev (good_ext arikan (suc (suc k)) (node_soft d p.y i) (node_prefix arikan d (p.ws r) i) (cell_in l h t b₀ (2 ^ d) s o i)
        (cell_in l h t b (2 ^ d) s o i) (λ x _. refl)
        (g.evens (slot_start (2 ^ d) l s + i) (omega (arith, slot_past e d l s ed)) (omega arith))
        (g.sums (h + slot_start (2 ^ d) l o + i) (omega arith) (omega arith))
        (g.odds (2 * h + slot_start (2 ^ d) l o + i) (omega (arith, slot_past e d l o ed)))
        (p.ready k d ek r hr i hi))

  -- ---- the layers above e have their even bits
  pub evens_of : (l h count n e : ℕ) (ws vs : ℕ → List ℕ) (b₀ b : List ℕ)
      → ((d : ℕ) → d < e → (phase d n % 2 ≡ 0) × (0 < phase d n)) → Down arikan l h count n e ws vs b₀ b
      → (d r i : ℕ) → d < e → r < count → i < 2 ^ d
      → get_or b (slot_start (2 ^ d) l r + i) 0 ≡ last (node_prefix arikan d (vs r) i)
  evens_of l h count n e ws vs b₀ b turns g d r i hd hr hi =
      let z : slot_start (2 ^ d) l r + i ≡ field_at h (phase d n % 2) + slot_start (2 ^ d) l r + i
      = omega (arith, field_even h (phase d n % 2) (turns d hd).0) in
      ap (λ (z : ℕ). get_or b z 0) z ∙ g.bits d r i (omega arith) hr hi

  -- ---- an odd phase: the odd bit joins the even one
  later : (m : ℕ) (y : List ℤ) (v : List ℕ) (x : ℕ) (c c' : Cell) → Odd v → Good arikan m y v c
      → ((z : ℕ) → z < 16 → c'.costs z ≡ c.costs z) → c'.even_bit ≡ c.even_bit → c'.sum_bit ≡ c.even_bit ⊕ x
      → c'.odd_bit ≡ x
      → Good arikan m y (v ++ x ∷ []) c'
  later m y v x c c' o g et ee ep eq =
      let e : cut (v ++ x ∷ []) ≡ cut v = cut_even v x o ∙ sym (cut_odd v o) in
      record {
        costs_are = λ z h. et z h ∙ g.costs_are z h ∙ (rw e refl);
        even_is = ee ∙ g.even_is ∙ sym (ap last e);
        bits_are = λ _. (ep ∙ ap₂ ◌⊕◌ (g.even_is ∙ sym (ap last e)) (sym (last_snoc v x)), eq ∙ sym (last_snoc v x));
      }

  module _ (D l h count n : ℕ) (t b₀ slots : List ℕ) (p : Paths arikan D l h count n t b₀ slots) (e : ℕ) (b : List ℕ)
      (g : Down arikan l h count n e p.ws (grown p.ws p.bs) b₀ b)
      (low : slot_start (2 ^ suc D) l 0 ≤ h) (named : Named D l count slots) (few : count ≤ l) (long : l ≤ 32)
      (deep : D ≤ 8) (he : e ≤ D) (po : phase e n % 2 ≡ 1)
      (b' slots' : List ℕ)
      (rows : WroteRows (λ r. sum_f (2 ^ e) l h b (slot_w slots e r) r) (h + slot_start (2 ^ e) l 0)
      (2 ^ e) count b b') (own : Wrote (λ r. r) (512 + 32 * e) count slots slots') where
    abbrev vs_o : ℕ → List ℕ
    vs_o = grown p.ws p.bs

    ko : kind (phase e n) ≡ odd
    ko = kind_of_odd (phase e n) po

    ends_o : slot_start (2 ^ e) l 0 + 2 ^ e * count ≤ slot_start (2 ^ e) l l
    ends_o = omega (arith, slot_at (2 ^ e) l count, slot_mono (2 ^ e) l count l few)

    in_o : (d s : ℕ) → d ≤ D → s < l → slot_start (2 ^ d) l s + 2 ^ d ≤ h
    in_o d s hd hs = omega (arith, low, slot_apart (2 ^ d) l s l hs, slot_deep d (suc D) l 0 (omega arith))

    low_o : (j : ℕ) → j < h → get_or b' j 0 ≡ get_or b j 0
    low_o j q = rows.below j (omega arith)

    past_o : (j : ℕ) → h + slot_start (2 ^ e) l l ≤ j → get_or b' j 0 ≡ get_or b j 0
    past_o j q = rows.above j (omega (arith, ends_o))

    ll_h : slot_start (2 ^ e) l l ≤ h
    ll_h = omega (arith, low, slot_deep e (suc D) l 0 (omega arith))

    -- the slots
    windows_o : (d r : ℕ) → d ≤ D → r < count → slot_w slots' d r ≡ slot_w slots d r
    windows_o d r hd hr = own.below (32 * d + r) (omega arith)

    odds_o : (d r : ℕ) → e < d → r < count → slot_o slots' d r ≡ slot_o slots d r
    odds_o d r hd hr = own.above (512 + 32 * d + r) (omega arith)

    here_o : (k r i : ℕ) → k + e ≡ D → r < count → i < 2 ^ e
        → Good arikan (suc (suc k)) (node_soft e p.y i) (node_prefix arikan e (vs_o r) i)
        (cell_in l h t b' (2 ^ e) (slot_w slots e r) r i)
    here_o k r i ek hr hi =
        let w : ℕ = 2 ^ e in
        let s : ℕ = slot_w slots e r in
        let v : List ℕ = node_prefix arikan e (p.ws r) i in
        let x : ℕ = last (node_prefix arikan e (vs_o r) i) in
        let ov : Odd v = odd_shape (shape v)
        (ap kind (length_node_prefix arikan e (p.ws r) i hi ∙ ap (phase e) (p.long r hr)) ∙ ko) in
        let c : Cell = cell_in l h t b₀ w s (slot_o slots e r) i in
        let gc : Good arikan (suc (suc k)) (node_soft e p.y i) v c = p.ready k e ek r hr i hi in
        let ls : slot_start w l s + w ≤ h = in_o e s he ((named.windows e he).named r hr) in
        let lr : slot_start w l r + w ≤ slot_start w l l = slot_apart w l r l (omega arith) in
        let bv : get_or b (slot_start w l s + i) 0 ≡ get_or b₀ (slot_start w l s + i) 0
        = g.here_odd po (slot_start w l s + i) (omega (arith, slot_mono w l 0 s (omega arith))) (omega arith) in
        let ve : get_or b₀ (slot_start w l s + i) 0 < 2
        = omega (arith, gc.even_is, bits_last (bits_cut (bits_node_prefix arikan e (p.ws r) i hi (p.bits r hr)))) in
        let bx : x < 2 = bits_last
        (bits_node_prefix arikan e (vs_o r) i hi (bits_snoc (p.bs r) (p.bits r hr) (p.bit r hr))) in
        let ex : get_or b (2 * h + slot_start w l r + i) 0 ≡ x
        = (let z : 2 * h + slot_start w l r + i ≡ field_at h (phase e n % 2) + slot_start w l r + i
        = omega (arith, field_odd h (phase e n % 2) po) in
        ap (λ (z : ℕ). get_or b z 0) z ∙ g.bits e r i (omega arith) hr hi) in
        let em : get_or b' (h + slot_start w l r + i) 0 ≡ get_or b₀ (slot_start w l s + i) 0 ⊕ x
        = (let z : h + slot_start w l r + i ≡ h + slot_start w l 0 + w * r + i = omega (arith, slot_at w l r) in
        ap (λ (z : ℕ). get_or b' z 0) z ∙ rows.inside r i hr hi ∙ ap₂ (λ (α β : ℕ). (α % 2 + carry false (β % 2)) % 2) bv ex
        ∙ mix_xor false (get_or b₀ (slot_start w l s + i) 0) x ve bx
        ∙ ap (λ (β : ℕ). get_or b₀ (slot_start w l s + i) 0 ⊕ β) (carry_all x)) in
        rw (g.grows r i hr hi)
        (later (suc (suc k)) (node_soft e p.y i) v x c (cell_in l h t b' w s r i) ov gc (λ z _. refl)
        (low_o (slot_start w l s + i) (omega arith) ∙ bv) em
        (past_o (2 * h + slot_start w l r + i) (omega (arith, ll_h)) ∙ ex))

    pub turn_odd : ReadyFrom arikan D l h count p.y vs_o e t b' slots'
    turn_odd k d ek le r hr i hi = ⊎_elim
        (λ (q : e ≡ d).
        subst (λ (d : ℕ). i < 2 ^ d
        → Good arikan (suc (suc k)) (node_soft d p.y i) (node_prefix arikan d (vs_o r) i)
        (cell_in l h t b' (2 ^ d) (slot_w slots' d r) (slot_o slots' d r) i)) q
        (λ hi. rw (windows_o e r he hr, own.inside r hr) (here_o k r i (omega arith) hr hi)) hi)
        (λ (q : e < d).
        let s : ℕ = slot_w slots d r in
        let o : ℕ = slot_o slots d r in
        let ls : slot_start (2 ^ d) l s + 2 ^ d ≤ h
        = in_o d s (omega arith) ((named.windows d (omega arith)).named r hr) in
        rw (windows_o d r (omega arith) hr, odds_o d r q hr)
        (good_ext arikan (suc (suc k)) (node_soft d p.y i) (node_prefix arikan d (vs_o r) i) (cell_in l h t b (2 ^ d) s o i)
        (cell_in l h t b' (2 ^ d) s o i) (λ x _. refl)
        (low_o (slot_start (2 ^ d) l s + i) (omega arith))
        (past_o (h + slot_start (2 ^ d) l o + i) (omega (arith, slot_deep e d l o q)))
        (past_o (2 * h + slot_start (2 ^ d) l o + i) (omega (arith, ll_h)))
        (stays D l h count n t b₀ slots p e b g low named (ap is_even ko) k d ek q r hr i hi)))
        (eq-or-lt_of_le {n = e} {m = d} le)

    pub evens_odd : (d r i : ℕ) → ((d : ℕ) → d < e → (phase d n % 2 ≡ 0) × (0 < phase d n)) → d < e → r < count
        → i < 2 ^ d → get_or b' (slot_start (2 ^ d) l r + i) 0 ≡ last (node_prefix arikan d (vs_o r) i)
    evens_odd d r i turns hd hr hi
        = low_o (slot_start (2 ^ d) l r + i) (omega (arith, in_o d r (omega arith) (omega arith)))
        ∙ evens_of l h count n e p.ws vs_o b₀ b turns g d r i hd hr hi
