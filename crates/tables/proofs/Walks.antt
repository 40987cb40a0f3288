-- The walk of a new bit down the layers.
use mathlib.Core.Path.{◌≡◌, refl, ◌∙◌, sym, ap, ap₂, subst}
use mathlib.Core.Logic.{◌⊎◌, ⊎_elim, inl, inr}
use mathlib.Core.Bool.{Bool, true, false, cond}
use mathlib.Core.List.{List, [], ◌∷◌, ◌++◌}
use Prim.Native.Nat.{ℕ, zero, suc, ◌+◌, ◌*◌, ◌-◌, ◌/◌, ◌%◌, ◌<◌, ◌≤◌, ◌^◌}
use native.Mathlib.Nat.{eq-or-lt_of_le, mod-eq_of_lt}
use native.Mathlib.Omega.{arith}
use lib.ListN.{length, get_or}
use lib.Pow.{pow_mono}
use Rattle.spec.specs.Bits.{◌⊕◌, Bits}
use Rattle.laws.specs.BitLaws.{⊕-mod}
use Rattle.laws.specs.Cost.{last}
use Rattle.laws.specs.Layer.{last_snoc}
use Rattle.laws.specs.Places.{carry}
use Rattle.laws.specs.Nodes.{bits_snoc, bits_last, bits_cut, bits_node_prefix, ⊕-lt, cut, child_a, child_b, child_a_step}
use Rattle.laws.specs.Nodes.{child_b_step, Kind, even, kind, is_even, pair_sum, odd_last, phase, node_even}
use Rattle.laws.specs.Nodes.{node_odd, node_prefix, node_soft, length_node_prefix, by_child, down, down_is, kind_of_even}
use Rattle.laws.specs.Cells.{Good}
use Rattle.tables.specs.Tab.{slot_start, WroteRows, mix, push_f, FitBits}
use Rattle.tables.specs.Right.{cell_in}
use Rattle.tables.specs.Walk.{slot_w, slot_o, Paths, grown, field_at, Down, Walks, Descent}
use Rattle.tables.proofs.Places.{slot_ends, pow_two, slot_apart, slot_at, slot_deep, slot_mono, slot_twice}
use Rattle.tables.proofs.Sums.{cond_ltb}

carry_lt : (arikan : Bool) (c : ℕ) → c < 2 → carry arikan c < 2
carry_lt arikan zero h = h
carry_lt true (suc c) h = omega arith
carry_lt false (suc c) h = h

pub mix_xor : (arikan : Bool) (a c : ℕ) → a < 2 → c < 2 → (a % 2 + carry arikan (c % 2)) % 2 ≡ a ⊕ carry arikan c
mix_xor arikan a c ha hc = rw (mod-eq_of_lt ha, mod-eq_of_lt hc) (sym (⊕-mod a (carry arikan c) ha (carry_lt arikan c hc)))

-- a field begins at 0 or at 2 h
pub field_cases : (h p : ℕ) → (field_at h p ≡ 0) ⊎ (field_at h p ≡ 2 * h)
field_cases h zero = inl refl
field_cases h (suc p) = inr refl

pub field_le : (h p : ℕ) → field_at h p ≤ 2 * h
field_le h zero = omega arith
field_le h (suc p) = omega arith

pub field_odd : (h p : ℕ) → p ≡ 1 → field_at h p ≡ 2 * h
field_odd h p e = rw e

pub field_even : (h p : ℕ) → p ≡ 0 → field_at h p ≡ 0
field_even h p e = rw e

pub pow_next : (d : ℕ) → 2 ^ (d + 1) ≡ 2 * 2 ^ d
pow_next d = let e : d + 1 ≡ suc d = omega arith in rw e (pow_two d)

pub phase_next : (d n p : ℕ) → p ≡ phase d n → (p - 1) / 2 ≡ phase (d + 1) n
phase_next d n p e = let z : d + 1 ≡ suc d = omega arith in rw z (sym (down_is p) ∙ ap down e)

-- ---- what depends on the layer rule
module _ (arikan : Bool) where
  -- ---- one layer further down
  module _ (D l h count n : ℕ) (t b₀ slots : List ℕ) (p : Paths arikan D l h count n t b₀ slots) (d k : ℕ)
      (ek : suc k + d ≡ D) (hc : count ≤ l)
      (low : slot_start (2 ^ suc D) l 0 ≤ h) (named : (r : ℕ) → r < count → slot_o slots d r < l)
      (ke : kind (phase d n) ≡ even) (pe : phase d n % 2 ≡ 0)
      (b b' : List ℕ) (g : Down arikan l h count n d p.ws (grown p.ws p.bs) b₀ b)
      (a : WroteRows (λ r. push_f arikan (2 ^ d) l h b (slot_o slots d r) r)
      (field_at h (phase (suc d) n % 2) + slot_start (2 * 2 ^ d) l 0) (2 * 2 ^ d) count b b') where
    abbrev vs : ℕ → List ℕ
    vs = grown p.ws p.bs

    abbrev f : ℕ
    f = field_at h (phase (suc d) n % 2)

    abbrev w : ℕ
    w = 2 ^ d

    -- where the region that was written begins and ends
    begins : slot_start (2 * w) l 0 ≡ slot_start w l l
    begins = slot_twice w l

    ends : slot_start (2 * w) l 0 + 2 * w * count ≤ slot_start (2 * w) l l
    ends = omega (arith, slot_at (2 * w) l count, slot_mono (2 * w) l count l hc)

    next : slot_start (2 ^ suc (suc d)) l 0 ≡ slot_start (2 * w) l l
    next = ap (λ (z : ℕ). slot_start z l 0) (pow_two (suc d) ∙ ap (λ (z : ℕ). 2 * z) (pow_two d)) ∙ slot_twice (2 * w) l

    here : slot_start (2 ^ suc d) l 0 ≡ slot_start (2 * w) l 0
    here = ap (λ (z : ℕ). slot_start z l 0) (pow_two d)

    in_h : slot_start (2 * w) l l ≤ h
    in_h = omega (arith, low, slot_ends d D l (omega arith))

    -- what is outside of it stays
    low_kept : (j : ℕ) → j < slot_start (2 * w) l 0 → get_or b' j 0 ≡ get_or b j 0
    low_kept j q = a.below j (omega arith)

    mid_kept : (j : ℕ) → slot_start (2 * w) l l ≤ j → j < 2 * h → get_or b' j 0 ≡ get_or b j 0
    mid_kept j q q' = ⊎_elim (λ (e : f ≡ 0). a.above j (omega (arith, ends)))
        (λ (e : f ≡ 2 * h). a.below j (omega arith)) (field_cases h (phase (suc d) n % 2))

    high_kept : (j : ℕ) → 2 * h ≤ j → j < 2 * h + slot_start (2 * w) l 0 → get_or b' j 0 ≡ get_or b j 0
    high_kept j q q' = ⊎_elim (λ (e : f ≡ 0). a.above j (omega (arith, ends, in_h)))
        (λ (e : f ≡ 2 * h). a.below j (omega arith)) (field_cases h (phase (suc d) n % 2))

    top_kept : (j : ℕ) → 2 * h + slot_start (2 * w) l l ≤ j → get_or b' j 0 ≡ get_or b j 0
    top_kept j q = ⊎_elim (λ (e : f ≡ 0). a.above j (omega (arith, ends)))
        (λ (e : f ≡ 2 * h). a.above j (omega (arith, ends))) (field_cases h (phase (suc d) n % 2))

    -- the bits of the layers above
    old_bits : (e r i : ℕ) → e ≤ d → r < count → i < 2 ^ e
        → get_or b' (field_at h (phase e n % 2) + slot_start (2 ^ e) l r + i) 0 ≡ last (node_prefix arikan e (vs r) i)
    old_bits e r i le hr hi =
        let q : slot_start (2 ^ e) l r + 2 ^ e ≤ slot_start (2 ^ e) l l = slot_apart (2 ^ e) l r l (omega arith) in
        let q' : slot_start (2 ^ e) l l ≤ slot_start (2 ^ suc d) l 0 = slot_deep e (suc d) l 0 (omega arith) in
        let j : ℕ = field_at h (phase e n % 2) + slot_start (2 ^ e) l r + i in
        ⊎_elim (λ (z : field_at h (phase e n % 2) ≡ 0). low_kept j (omega (arith, here)))
        (λ (z : field_at h (phase e n % 2) ≡ 2 * h). high_kept j (omega arith) (omega (arith, here)))
        (field_cases h (phase e n % 2))
        ∙ g.bits e r i le hr hi

    -- ---- a path's node
    module _ (r i : ℕ) (hr : r < count) (hi : i < 2 ^ d) where
      abbrev v : List ℕ
      v = node_prefix arikan d (p.ws r) i

      abbrev x : ℕ
      x = last (node_prefix arikan d (vs r) i)

      abbrev s : ℕ
      s = slot_o slots d r

      bv : Bits v
      bv = bits_node_prefix arikan d (p.ws r) i hi (p.bits r hr)

      bx : x < 2
      bx = bits_last (bits_node_prefix arikan d (vs r) i hi (bits_snoc (p.bs r) (p.bits r hr) (p.bit r hr)))

      lv : length v ≡ phase d n
      lv = length_node_prefix arikan d (p.ws r) i hi ∙ ap (phase d) (p.long r hr)

      kv : kind (length v) ≡ even
      kv = ap kind lv ∙ ke

      good : Good arikan (suc (suc (suc k))) (node_soft d p.y i) v (cell_in l h t b₀ (2 ^ d) (slot_w slots d r) s i)
      good = p.ready (suc k) d ek r hr i hi

      slot_in : slot_start w l s + w ≤ slot_start w l l
      slot_in = slot_apart w l s l (named r hr)

      even_at : get_or b (slot_start w l r + i) 0 ≡ x
      even_at =
          let e : slot_start w l r + i ≡ field_at h (phase d n % 2) + slot_start w l r + i
          = omega (arith, field_even h (phase d n % 2) pe) in
          ap (λ (z : ℕ). get_or b z 0) e ∙ g.bits d r i (omega arith) hr hi

      sum_at_lem : get_or b (h + slot_start w l s + i) 0 ≡ pair_sum v
      sum_at_lem = g.sums (h + slot_start w l s + i) (omega arith)
          (omega (arith, slot_in, begins, in_h, slot_mono (2 * w) l 0 l (omega arith))) ∙ (good.bits_are kv).0

      odd_at : get_or b (2 * h + slot_start w l s + i) 0 ≡ odd_last v
      odd_at = g.here_even pe (2 * h + slot_start w l s + i) (omega arith) ∙ (good.bits_are kv).1

      mix_a : mix arikan b (h + slot_start w l s) (slot_start w l r) i ≡ pair_sum v ⊕ carry arikan x
      mix_a = ap₂ (λ (α β : ℕ). (α % 2 + carry arikan (β % 2)) % 2) sum_at_lem even_at
          ∙ mix_xor arikan (pair_sum v) x (⊕-lt (last (cut v)) (last v) (bits_last (bits_cut bv))) bx

      mix_b : mix arikan b (2 * h + slot_start w l s) (slot_start w l r) i ≡ odd_last v ⊕ carry arikan x
      mix_b = ap₂ (λ (α β : ℕ). (α % 2 + carry arikan (β % 2)) % 2) odd_at even_at ∙ mix_xor arikan (odd_last v) x (bits_last bv) bx

      pre_a : node_prefix arikan (suc d) (vs r) i ≡ node_prefix arikan (suc d) (p.ws r) i ++ (pair_sum v ⊕ carry arikan x) ∷ []
      pre_a = node_even (child_a arikan) (child_b arikan) d (vs r) i hi ∙ ap (child_a arikan) (g.grows r i hr hi)
          ∙ child_a_step arikan v x (pair_sum v) bv (λ _. refl)
          ∙ ap (λ (c : Kind). cond (is_even c) (child_a arikan v ++ (pair_sum v ⊕ carry arikan x) ∷ []) (child_a arikan v)) kv
          ∙ ap (λ (z : List ℕ). z ++ (pair_sum v ⊕ carry arikan x) ∷ []) (sym (node_even (child_a arikan) (child_b arikan) d (p.ws r) i hi))

      pre_b : node_prefix arikan (suc d) (vs r) (i + 2 ^ d) ≡ node_prefix arikan (suc d) (p.ws r) (i + 2 ^ d) ++ (odd_last v ⊕ carry arikan x) ∷ []
      pre_b = node_odd (child_a arikan) (child_b arikan) d (vs r) i ∙ ap (child_b arikan) (g.grows r i hr hi)
          ∙ child_b_step arikan v x (odd_last v) (λ _. refl)
          ∙ ap (λ (c : Kind). cond (is_even c) (child_b arikan v ++ (odd_last v ⊕ carry arikan x) ∷ []) (child_b arikan v)) kv
          ∙ ap (λ (z : List ℕ). z ++ (odd_last v ⊕ carry arikan x) ∷ []) (sym (node_odd (child_a arikan) (child_b arikan) d (p.ws r) i))

      last_a : last (node_prefix arikan (suc d) (vs r) i) ≡ pair_sum v ⊕ carry arikan x
      last_a = ap last pre_a ∙ last_snoc (node_prefix arikan (suc d) (p.ws r) i) (pair_sum v ⊕ carry arikan x)

      last_b : last (node_prefix arikan (suc d) (vs r) (i + 2 ^ d)) ≡ odd_last v ⊕ carry arikan x
      last_b = ap last pre_b ∙ last_snoc (node_prefix arikan (suc d) (p.ws r) (i + 2 ^ d)) (odd_last v ⊕ carry arikan x)

      wrote_a : get_or b' (f + slot_start (2 ^ suc d) l r + i) 0 ≡ last (node_prefix arikan (suc d) (vs r) i)
      wrote_a =
          let e : f + slot_start (2 * w) l r + i ≡ f + slot_start (2 * w) l 0 + 2 * w * r + i
          = omega (arith, slot_at (2 * w) l r) in
          ap (λ (z : ℕ). get_or b' (f + slot_start z l r + i) 0) (pow_two d) ∙ ap (λ (z : ℕ). get_or b' z 0) e
          ∙ a.inside r i hr (omega arith)
          ∙ cond_ltb i w (mix arikan b (h + slot_start w l s) (slot_start w l r) i)
          (mix arikan b (2 * h + slot_start w l s) (slot_start w l r) (i - w)) (pair_sum v ⊕ carry arikan x) (λ _. mix_a)
          (λ q. absurd (omega arith)) ∙ sym last_a

      wrote_b : get_or b' (f + slot_start (2 ^ suc d) l r + (i + 2 ^ d)) 0 ≡ last (node_prefix arikan (suc d) (vs r) (i + 2 ^ d))
      wrote_b =
          let e : f + slot_start (2 * w) l r + (i + 2 ^ d) ≡ f + slot_start (2 * w) l 0 + 2 * w * r + (i + 2 ^ d)
          = omega (arith, slot_at (2 * w) l r) in
          let e' : i + w - w ≡ i = omega arith in
          ap (λ (z : ℕ). get_or b' (f + slot_start z l r + (i + 2 ^ d)) 0) (pow_two d) ∙ ap (λ (z : ℕ). get_or b' z 0) e
          ∙ a.inside r (i + 2 ^ d) hr (omega arith)
          ∙ cond_ltb (i + w) w (mix arikan b (h + slot_start w l s) (slot_start w l r) (i + w))
          (mix arikan b (2 * h + slot_start w l s) (slot_start w l r) (i + w - w)) (odd_last v ⊕ carry arikan x)
          (λ q. absurd (omega arith))
          (λ _. ap (mix arikan b (2 * h + slot_start w l s) (slot_start w l r)) e' ∙ mix_b) ∙ sym last_b

    new_bits : (r i : ℕ) → r < count → i < 2 ^ suc d
        → get_or b' (f + slot_start (2 ^ suc d) l r + i) 0 ≡ last (node_prefix arikan (suc d) (vs r) i)
    new_bits r i hr hi = by_child
        (λ i. get_or b' (f + slot_start (2 ^ suc d) l r + i) 0 ≡ last (node_prefix arikan (suc d) (vs r) i)) d
        (λ j q. wrote_a r j hr q) (λ j q. wrote_b r j hr q) i hi

    new_grows : (r i : ℕ) → r < count → i < 2 ^ suc d
        → node_prefix arikan (suc d) (vs r) i ≡ node_prefix arikan (suc d) (p.ws r) i ++ last (node_prefix arikan (suc d) (vs r) i) ∷ []
    new_grows r i hr hi
        = by_child (λ i. node_prefix arikan (suc d) (vs r) i
        ≡ node_prefix arikan (suc d) (p.ws r) i ++ last (node_prefix arikan (suc d) (vs r) i) ∷ []) d
        (λ j q. pre_a r j hr q ∙ ap (λ (z : ℕ). node_prefix arikan (suc d) (p.ws r) j ++ z ∷ []) (sym (last_a r j hr q)))
        (λ j q. pre_b r j hr q
        ∙ ap (λ (z : ℕ). node_prefix arikan (suc d) (p.ws r) (j + 2 ^ d) ++ z ∷ []) (sym (last_b r j hr q))) i hi

    pub down_more : Down arikan l h count n (suc d) p.ws vs b₀ b'
    down_more = record {
      same = a.same ∙ g.same;
      grows = new_grows;
      bits = λ e r i le hr hi. ⊎_elim
          (λ (q : e ≡ suc d). subst
          (λ (z : ℕ). (i : ℕ) → i < 2 ^ z
          → get_or b' (field_at h (phase z n % 2) + slot_start (2 ^ z) l r + i) 0 ≡ last (node_prefix arikan z (vs r) i))
          (sym q) (λ i hi. new_bits r i hr hi) i hi)
          (λ (q : e < suc d). old_bits e r i (omega arith) hr hi)
          (eq-or-lt_of_le {n = e} {m = suc d} le);
      evens = λ j q q'. mid_kept j (omega (arith, next)) (omega arith)
          ∙ g.evens j (omega (arith, next, here, slot_mono (2 * w) l 0 l (omega arith))) q';
      sums = λ j q q'. mid_kept j (omega (arith, in_h)) q' ∙ g.sums j q q';
      odds = λ j q. top_kept j (omega (arith, next)) ∙ g.here_even pe j (omega arith);
      here_odd = λ o j q q'. a.below j (omega (arith, field_odd h (phase (suc d) n % 2) o)) ∙ g.evens j q q';
      here_even = λ o j q. a.above j (omega (arith, field_even h (phase (suc d) n % 2) o, ends, in_h))
          ∙ g.here_even pe j q;
    }

  -- ---- the loop down
  pub fits : (deep l h count n e : ℕ) (b b' slots : List ℕ) (d w : ℕ) → Walks deep l h count n e b slots → d < e
      → w ≡ 2 ^ d → length b' ≡ length b → FitBits (2 * w) l h b'
  fits deep l h count n e b b' slots d w a hd ew el =
      let q : 2 ^ suc d ≤ 2 ^ 8 = pow_mono {i = suc d} {j = 8} (omega (arith, a.deepest, a.far)) in
      rw ew record {
        wide = omega arith;
        long = a.long;
        low
            = omega (arith, a.low, slot_ends d deep l (omega (arith, a.far)));
        bytes = omega (arith, a.bytes);
      }

  pub descend_more : (deep l h count n e : ℕ) (b b' b'' slots : List ℕ) (d w p f : ℕ) → Walks deep l h count n e b slots
      → d < e → w ≡ 2 ^ d → p ≡ phase d n → f ≡ field_at h ((p - 1) / 2 % 2)
      → Descent arikan deep l h count n d slots b b'
      → WroteRows (λ r. push_f arikan w l h b' (get_or slots (512 + 32 * d + r) 0) r) (f + slot_start (2 * w) l 0)
      (2 * w) count b' b''
      → Descent arikan deep l h count n (d + 1) slots b b''
  descend_more deep l h count n e b b' b'' slots d w p f a hd ew ep ef ih rows t b₀ q top =
      let en : (p - 1) / 2 ≡ phase (suc d) n = sym (down_is p) ∙ ap down ep in
      let ef' : f ≡ field_at h (phase (suc d) n % 2) = ef ∙ ap (λ (k : ℕ). field_at h (k % 2)) en in
      let ed : d + 1 ≡ suc d = omega arith in
      rw ed (down_more deep l h count n t b₀ slots q d (deep - d - 1) (omega (arith, a.far)) a.few a.low
      (a.odds d (omega (arith, a.far))).named
      (kind_of_even (phase d n) (a.turns d hd).0 (a.turns d hd).1) (a.turns d hd).0 b' b'' (ih t b₀ q top)
      (rw (ew, ef') at rows))
