-- Two ends of the walk down: a layer that got its first bit, and the bottom layer.
use mathlib.Core.Path.{◌≡◌, refl, ◌∙◌, sym, ap, ap₂, subst}
use mathlib.Core.Bool.{Bool, true, false, cond}
use mathlib.Core.List.{List, [], ◌∷◌, ◌++◌}
use Prim.Native.Nat.{ℕ, suc, ◌+◌, ◌*◌, ◌-◌, ◌/◌, ◌%◌, ◌<◌, ◌≤◌, ◌^◌}
use native.Mathlib.Omega.{arith}
use lib.ListN.{length, get_or, length-append}
use lib.Pow.{pow_pos}
use lib.IntN.{ℤ}
use Rattle.spec.specs.Bits.{Bits, nil, cons}
use Rattle.laws.specs.Cost.{last}
use Rattle.laws.specs.Layer.{Odd}
use Rattle.laws.specs.Windows.{at4, W4, F}
use Rattle.laws.specs.Nodes.{bits_snoc, bits_last, bits_node_prefix, cut_odd, even, kind, is_even, pair_sum, odd_last}
use Rattle.laws.specs.Nodes.{phase, phase_suc, down, shape, odd_not_even, node_prefix, node_soft, length_node_prefix}
use Rattle.laws.specs.Nodes.{kind_of_odd, kind_of_even, odd_shape}
use Rattle.laws.specs.Cells.{Good}
use Rattle.windows.specs.Op.{Wrote, bottom_f, decided_of}
use Rattle.tables.specs.Tab.{slot_start, WroteRows, flat16, row_f, base_f}
use Rattle.tables.specs.Right.{cell_in}
use Rattle.tables.specs.Walk.{slot_w, slot_o, Paths, grown, field_at, Down, ReadyFrom, Named}
use Rattle.tables.proofs.Grounds.{ground_1, ground_3}
use Rattle.tables.proofs.Places.{slot_apart, slot_deep, slot_times}
use Rattle.tables.proofs.Rises.{moves_on, up_more}
use Rattle.tables.proofs.Turns.{stays}
use Rattle.tables.proofs.Walks.{field_even}

pub grown_long : (count n : ℕ) (ws : ℕ → List ℕ) (bs : ℕ → ℕ) → ((r : ℕ) → r < count → length (ws r) ≡ n) → (r : ℕ)
    → r < count → length (grown ws bs r) ≡ suc n
grown_long count n ws bs p r hr = length-append (ws r) (bs r ∷ []) ∙ (omega (arith, p r hr))

pub phase_more : (n e : ℕ) → ((d : ℕ) → d < e → (phase d n % 2 ≡ 0) × (0 < phase d n))
    → phase e (suc n) ≡ suc (phase e n)
phase_more n e turns = phase_suc e n
    ∙ ap (λ (c : Bool). cond c (suc (phase e n)) (phase e n))
    (moves_on n e (λ c h. kind_of_even (phase c n) (turns c h).0 (turns c h).1))

-- ---- what depends on the layer rule
module _ (arikan : Bool) where
  -- ---- the first bit of a layer
  module _ (D l h count n : ℕ) (t b₀ slots : List ℕ) (p : Paths arikan D l h count n t b₀ slots) (e : ℕ) (b : List ℕ)
      (g : Down arikan l h count n e p.ws (grown p.ws p.bs) b₀ b)
      (turns : (d : ℕ) → d < e → (phase d n % 2 ≡ 0) × (0 < phase d n))
      (low : slot_start (2 ^ suc D) l 0 ≤ h) (named : Named D l count slots) (few : count ≤ l) (long : l ≤ 32)
      (deep : D ≤ 8) (k : ℕ) (ek : suc k + e ≡ D) (pz : phase e n ≡ 0)
      (t' slots' : List ℕ) (w m : ℕ) (ew : w ≡ 2 ^ e) (em : m ≡ 2 ^ suc (suc (suc k)) - 1)
      (rows : WroteRows (λ z. flat16 (row_f arikan false m w l h b t (slot_w slots (suc e) z) (slot_o slots (suc e) z) z))
      (16 * slot_start w l 0) (16 * w) count t t') (own : Wrote (λ r. r) (32 * e) count slots slots') where
    pn : phase e (suc n) ≡ 1
    pn = phase_more n e turns ∙ ap suc pz

    ready : ReadyFrom arikan D l h count p.y (grown p.ws p.bs) (suc e) t b slots
    ready j d ej le = stays arikan D l h count n t b₀ slots p e b g low named (ap (λ (z : ℕ). is_even (kind z)) pz) j d ej le

    pub turn_first : ReadyFrom arikan D l h count p.y (grown p.ws p.bs) e t' b slots'
    turn_first = up_more arikan D l h count n p.y
        (grown p.ws p.bs) e k ek few long deep t t' b slots slots' ready w m false
        record {
          width = ew;
          bits = λ r hr. bits_snoc (p.bs r) (p.bits r hr) (p.bit r hr);
          long = grown_long count n p.ws p.bs p.long;
          after = ap kind pn;
          inside = omega (arith, pn, pow_pos k);
          left = em ∙ ap (λ (z : ℕ). 2 ^ suc (suc (suc k)) - z) (sym pn);
          reads = sym (ap (λ (z : ℕ). is_even (kind (down z))) pn);
          small = p.small;
          kids = ready k (suc e) (omega arith) (omega arith);
          evens = λ r i hr hi.
              let z : slot_start (2 ^ e) l r + i ≡ field_at h (phase e n % 2) + slot_start (2 ^ e) l r + i
              = omega (arith, field_even h (phase e n % 2) (ap (λ (z : ℕ). z % 2) pz)) in
              ap (λ (z : ℕ). get_or b z 0) z ∙ g.bits e r i (omega arith) hr hi;
        }
        rows own

  -- ---- the bottom layer
  cell_0 : (y : List ℤ) (v : List ℕ) (x s o : ℕ) (t : List ℕ) (q z : ℕ) → length v ≡ 0 → x < 2
      → ((k : ℕ) → k < 16 → get_or t (q + k) 0 ≡ F arikan y k)
      → bottom_f false t q (decided_of false s o x) z ≡ at4 (W4 arikan 2 y (v ++ x ∷ [])) z
  cell_0 y [] x s o t q z e hx c = ground_1 arikan y x s o t q z hx c
  cell_0 y (u ∷ v) x s o t q z e hx c = absurd (omega arith)

  cell_2 : (y : List ℤ) (v : List ℕ) (x s o : ℕ) (t : List ℕ) (q z : ℕ) → length v ≡ 2 → Bits v → s ≡ pair_sum v
      → o ≡ odd_last v → x < 2 → ((k : ℕ) → k < 16 → get_or t (q + k) 0 ≡ F arikan y k)
      → bottom_f true t q (decided_of true s o x) z ≡ at4 (W4 arikan 2 y (v ++ x ∷ [])) z
  cell_2 y [] x s o t q z e bv es eo hx c = absurd (omega arith)
  cell_2 y (u ∷ []) x s o t q z e bv es eo hx c = absurd (omega arith)
  cell_2 y (u ∷ v ∷ []) x s o t q z e (cons hu (cons hv nil)) es eo hx c
      = rw (es, eo) (ground_3 arikan y u v x t q z hu hv hx c)
  cell_2 y (u ∷ v ∷ r ∷ rs) x s o t q z e bv es eo hx c = absurd (omega arith)

  module _ (D l h count n : ℕ) (t b₀ slots : List ℕ) (p : Paths arikan D l h count n t b₀ slots) (b : List ℕ)
      (g : Down arikan l h count n D p.ws (grown p.ws p.bs) b₀ b)
      (turns : (d : ℕ) → d < D → (phase d n % 2 ≡ 0) × (0 < phase d n))
      (low : slot_start (2 ^ suc D) l 0 ≤ h) (named : Named D l count slots) (few : count ≤ l) (long : l ≤ 32)
      (deep : D ≤ 8) (pe : phase D n % 2 ≡ 0)
      (last₂ : Bool) (is₀ : last₂ ≡ false → phase D n ≡ 0) (is₂ : last₂ ≡ true → phase D n ≡ 2)
      (t' slots' : List ℕ) (w : ℕ) (ew : w ≡ 2 ^ D)
      (rows : WroteRows (λ z. flat16 (base_f last₂ w l h b t (slot_o slots D z) z)) (16 * slot_start w l 0)
      (16 * w) count t t') (own : Wrote (λ r. r) (32 * D) count slots slots') where
    abbrev vs_g : ℕ → List ℕ
    vs_g = grown p.ws p.bs

    module _ (r i : ℕ) (hr : r < count) (hi : i < 2 ^ D) where
      abbrev v_g : List ℕ
      v_g = node_prefix arikan D (p.ws r) i

      abbrev x_g : ℕ
      x_g = last (node_prefix arikan D (vs_g r) i)

      abbrev y_g : List ℤ
      y_g = node_soft D p.y i

      l_g : length v_g ≡ phase D n
      l_g = length_node_prefix arikan D (p.ws r) i hi ∙ ap (phase D) (p.long r hr)

      b_g : Bits v_g
      b_g = bits_node_prefix arikan D (p.ws r) i hi (p.bits r hr)

      hx : x_g < 2
      hx = bits_last (bits_node_prefix arikan D (vs_g r) i hi (bits_snoc (p.bs r) (p.bits r hr) (p.bit r hr)))

      ex : get_or b (slot_start (2 ^ D) l r + i) 0 ≡ x_g
      ex =
          let z : slot_start (2 ^ D) l r + i ≡ field_at h (phase D n % 2) + slot_start (2 ^ D) l r + i
          = omega (arith, field_even h (phase D n % 2) pe) in
          ap (λ (z : ℕ). get_or b z 0) z ∙ g.bits D r i (omega arith) hr hi

      lo : slot_start (2 ^ D) l (slot_o slots D r) + 2 ^ D ≤ h
      lo = omega (
        arith,
        low,
        slot_apart (2 ^ D) l (slot_o slots D r) l
            ((named.odds D (omega arith)).named r hr),
        slot_deep D (suc D) l 0 (omega arith),
      )

      picked : (c : Bool) → last₂ ≡ c → (z : ℕ)
          → base_f c (2 ^ D) l h b t (slot_o slots D r) r i z ≡ at4 (W4 arikan 2 y_g (v_g ++ x_g ∷ [])) z
      picked false ec z = rw ex
          (cell_0 y_g v_g x_g (get_or b (h + slot_start (2 ^ D) l (slot_o slots D r) + i) 0)
          (get_or b (2 * h + slot_start (2 ^ D) l (slot_o slots D r) + i) 0) t (16 * (h + i)) z (l_g ∙ is₀ ec) hx
          (λ k hk. p.base i k hi hk))
      picked true ec z =
          let ke : kind (length v_g) ≡ even = ap kind (l_g ∙ is₂ ec) in
          let gd : Good arikan 2 y_g v_g (cell_in l h t b₀ (2 ^ D) (slot_w slots D r) (slot_o slots D r) i)
          = p.ready 0 D (omega arith) r hr i hi in
          rw ex (cell_2 y_g v_g x_g (get_or b (h + slot_start (2 ^ D) l (slot_o slots D r) + i) 0)
          (get_or b (2 * h + slot_start (2 ^ D) l (slot_o slots D r) + i) 0) t (16 * (h + i)) z (l_g ∙ is₂ ec) b_g
          (g.sums (h + slot_start (2 ^ D) l (slot_o slots D r) + i) (omega arith) (omega (arith, lo))
          ∙ (gd.bits_are ke).0)
          (g.here_even pe (2 * h + slot_start (2 ^ D) l (slot_o slots D r) + i) (omega arith) ∙ (gd.bits_are ke).1) hx
          (λ k hk. p.base i k hi hk))

      ou : Odd (node_prefix arikan D (vs_g r) i)
      ou = odd_shape (shape (node_prefix arikan D (vs_g r) i))
          (kind_of_odd (length (node_prefix arikan D (vs_g r) i))
          (omega (
            arith,
            length_node_prefix arikan D (vs_g r) i hi,
            ap (phase D)
                (grown_long count n p.ws p.bs p.long r hr),
            phase_more n D turns,
          )))

      word : (x : ℕ) → x < 16 → get_or t' (16 * (slot_start (2 ^ D) l r + i) + x) 0 ≡ at4 (W4 arikan 2 y_g (v_g ++ x_g ∷ [])) x
      word x hx' =
          let z : 16 * (slot_start (2 ^ D) l r + i) + x ≡ 16 * slot_start (2 ^ D) l 0 + 16 * 2 ^ D * r + (16 * i + x)
          = omega (arith, slot_times 16 (2 ^ D) l r) in
          let e₁ : (16 * i + x) / 16 ≡ i = omega arith in
          let e₂ : (16 * i + x) % 16 ≡ x = omega arith in
          let rows' : WroteRows (λ z. flat16 (base_f last₂ (2 ^ D) l h b t (slot_o slots D z) z))
          (16 * slot_start (2 ^ D) l 0) (16 * 2 ^ D) count t t'
          = subst (λ (w : ℕ). WroteRows (λ z. flat16 (base_f last₂ w l h b t (slot_o slots D z) z))
          (16 * slot_start w l 0) (16 * w) count t t') ew rows in
          ap (λ (z : ℕ). get_or t' z 0) z ∙ rows'.inside r (16 * i + x) hr (omega arith)
          ∙ ap₂ (base_f last₂ (2 ^ D) l h b t (slot_o slots D r) r) e₁ e₂ ∙ picked last₂ refl x

      good_g : (o : ℕ) → Good arikan 2 y_g (node_prefix arikan D (vs_g r) i) (cell_in l h t' b (2 ^ D) r o i)
      good_g o = record {
        costs_are = λ x q. word x q
            ∙ ap (λ (u : List ℕ). at4 (W4 arikan 2 y_g u) x)
            (sym (g.grows r i hr hi) ∙ sym (cut_odd (node_prefix arikan D (vs_g r) i) ou));
        even_is = ex ∙ ap last (sym (cut_odd (node_prefix arikan D (vs_g r) i) ou));
        bits_are = λ q. absurd
            (odd_not_even (sym (kind_of_odd (length (node_prefix arikan D (vs_g r) i))
            (omega (
              arith,
              length_node_prefix arikan D (vs_g r) i hi,
              ap (phase D)
                  (grown_long count n p.ws p.bs p.long r hr),
              phase_more n D turns,
            ))) ∙ q));
      }

    pub turn_ground : ReadyFrom arikan D l h count p.y vs_g D t' b slots'
    turn_ground k d ek le r hr i hi =
        let ed : D ≡ d = omega arith in
        let e0 : 0 ≡ k = omega arith in
        subst (λ (d : ℕ). i < 2 ^ d
        → Good arikan (suc (suc k)) (node_soft d p.y i) (node_prefix arikan d (vs_g r) i)
        (cell_in l h t' b (2 ^ d) (slot_w slots' d r) (slot_o slots' d r) i)) ed
        (λ hi. subst (λ (k : ℕ). Good arikan (suc (suc k)) (node_soft D p.y i) (node_prefix arikan D (vs_g r) i)
        (cell_in l h t' b (2 ^ D) (slot_w slots' D r) (slot_o slots' D r) i)) e0
        (rw (own.inside r hr) (good_g r i hr hi (slot_o slots' D r)))) hi
