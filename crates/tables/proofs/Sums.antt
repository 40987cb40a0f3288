-- Runs of stores, and the passes over the bits.
use mathlib.Core.Path.{◌≡◌, refl, ◌∙◌, sym, ap, subst}
use mathlib.Core.Logic.{◌⊎◌, ⊎_elim, inl, inr}
use mathlib.Core.Bool.{Bool, true, false, not, cond}
use mathlib.Core.List.{List}
use Prim.Native.Nat.{ℕ, ◌+◌, ◌*◌, ◌-◌, ◌%◌, ◌<◌, ◌≤◌}
use native.Mathlib.Nat.{not-suc-le-zero, eq-or-lt_of_le, zero-add}
use native.Mathlib.Omega.{arith}
use lib.ListN.{length, get_or, set, length-set}
use lib.Seq.{get_or-set_same, get_or-set_other}
use lib.Dec.{T, ltb, ltb→lt, nltb→le}
use Rattle.laws.specs.Places.{carry}
use Rattle.windows.specs.Op.{Wrote}
use Rattle.tables.specs.Tab.{slot_start, WroteRows, Apart, mix, pair_f, push_f, sum_f, FitBits}
use Rattle.tables.proofs.Places.{slot_apart, slot_at, slot_child, slot_mono}
use Rattle.tables.proofs.Rows.{rows_more}

-- ---- a run, byte by byte
pub wrote_none : (F : ℕ → ℕ) (o : ℕ) (t : List ℕ) → Wrote F o 0 t t
wrote_none F o t = record
    { same = refl; inside = λ m h. absurd (not-suc-le-zero h); below = λ j h. refl; above = λ j h. refl }

pub wrote_step : (F : ℕ → ℕ) (o m v : ℕ) (t t' : List ℕ) → o + m < length t → v ≡ F m → Wrote F o m t t'
    → Wrote F o (m + 1) t (set t' (o + m) v)
wrote_step F o m v t t' room e p = record {
  same = length-set t' (o + m) v ∙ p.same;
  inside = λ k l.
      ⊎_elim
      (λ (q : k ≡ m). rw q (get_or-set_same t' (o + m) v 0 (omega (arith, p.same)) ∙ e))
      (λ (q : k < m). get_or-set_other t' (o + m) (o + k) v 0 (λ (z : o + k ≡ o + m). omega arith) ∙ p.inside k q)
      (eq-or-lt_of_le {n = k} {m = m} (omega arith));
  below = λ j h. get_or-set_other t' (o + m) j v 0 (λ (z : j ≡ o + m). omega arith) ∙ p.below j h;
  above = λ j h. get_or-set_other t' (o + m) j v 0 (λ (z : j ≡ o + m). omega arith) ∙ p.above j (omega arith);
}

pub wrote_first : (F : ℕ → ℕ) (m v : ℕ) (t t' : List ℕ) → m < length t → v ≡ F m → Wrote F 0 m t t'
    → Wrote F 0 (m + 1) t (set t' m v)
wrote_first F m v t t' room e p = let at : 0 + m ≡ m
    = zero-add m in rw at at (wrote_step F 0 m v t t' (rw at room) e p)

-- what lies apart from a run is as it was
pub wrote_apart : (F : ℕ → ℕ) (o n m p k : ℕ) (t t' : List ℕ) → Apart p k o n → m ≤ n → Wrote F o m t t' → (i : ℕ)
    → i < k → get_or t' (p + i) 0 ≡ get_or t (p + i) 0
wrote_apart F o n m p k t t' a l w i h
    = ⊎_elim (λ g. w.below (p + i) (omega arith)) (λ g. w.above (p + i) (omega arith)) a

rows_apart : (F : ℕ → ℕ → ℕ) (o step count p k n : ℕ) (t t' : List ℕ) → Apart p k o n → step * count ≤ n
    → WroteRows F o step count t t' → (i : ℕ) → i < k → get_or t' (p + i) 0 ≡ get_or t (p + i) 0
rows_apart F o step count p k n t t' a l w i h
    = ⊎_elim (λ g. w.below (p + i) (omega arith)) (λ g. w.above (p + i) (omega arith)) a

pub mix_same : (arikan : Bool) (b b' : List ℕ) (p q i : ℕ) → get_or b' (p + i) 0 ≡ get_or b (p + i) 0
    → get_or b' (q + i) 0 ≡ get_or b (q + i) 0 → mix arikan b' p q i ≡ mix arikan b p q i
mix_same arikan b b' p q i e f = rw (e, f)

-- one byte more of a sum of two runs
pub blend_more : (arikan : Bool) (b b' : List ℕ) (p q to w i x : ℕ) → Apart p w to w → Apart q w to w → i < w
    → to + w ≤ length b → x ≡ carry arikan (get_or b' (q + i) 0 % 2) → Wrote (mix arikan b p q) to i b b'
    → Wrote (mix arikan b p q) to (i + 1) b (set b' (to + i) ((get_or b' (p + i) 0 % 2 + x) % 2))
blend_more arikan b b' p q to w i x ap aq hi room e a =
    wrote_step (mix arikan b p q) to i ((get_or b' (p + i) 0 % 2 + x) % 2) b b' (omega arith)
    (rw e (mix_same arikan b b' p q i
    (wrote_apart (mix arikan b p q) to w i p w b b' ap (omega arith) a i hi)
    (wrote_apart (mix arikan b p q) to w i q w b b' aq (omega arith) a i hi)))
    a

-- two halves
pub cond_ltb : (m w x y z : ℕ) → (m < w → x ≡ z) → (w ≤ m → y ≡ z) → cond (ltb m w) x y ≡ z
cond_ltb m w x y z p q = go (ltb m w) refl
  where
    go : (c : Bool) → ltb m w ≡ c → cond c x y ≡ z
    go true e = p (ltb→lt m w (subst T (sym e) tt))
    go false e = q (nltb→le m w (subst (λ (k : Bool). T (not k)) (sym e) tt))

-- ---- where the passes read and write
module _ (w l h f r o : ℕ) (low : slot_start (2 * w) l l ≤ h) (hr : r < l) (ho : o < l)
    (hf : (f ≡ 0) ⊎ (f ≡ 2 * h)) where
  a₁ : slot_start w l o + w ≤ slot_start (2 * w) l 0
  a₁ = slot_child w l o 0 ho

  a₂ : slot_start w l r + w ≤ slot_start (2 * w) l 0
  a₂ = slot_child w l r 0 hr

  a₃ : slot_start (2 * w) l r + 2 * w ≤ slot_start (2 * w) l l
  a₃ = slot_apart (2 * w) l r l hr

  a₀ : slot_start (2 * w) l 0 ≤ slot_start (2 * w) l r
  a₀ = slot_mono (2 * w) l 0 r (omega arith)

  -- from here on, and n further, to the end of slot r at most
  module _ (to n : ℕ) (h₀ : f + slot_start (2 * w) l 0 ≤ to) (h₁ : to + n ≤ f + slot_start (2 * w) l r + 2 * w) where
    pub sum_apart : Apart (h + slot_start w l o) w to n
    sum_apart = ⊎_elim (λ (e : f ≡ 0). inr (omega (arith, a₁, a₃)))
        (λ (e : f ≡ 2 * h). inl (omega (arith, a₁, a₃, a₀))) hf

    pub odd_apart : Apart (2 * h + slot_start w l o) w to n
    odd_apart = ⊎_elim (λ (e : f ≡ 0). inr (omega (arith, a₁, a₃)))
        (λ (e : f ≡ 2 * h). inl (omega (arith, a₁, a₃, a₀))) hf

    pub even_apart : Apart (slot_start w l r) w to n
    even_apart = ⊎_elim (λ (e : f ≡ 0). inl (omega (arith, a₂, a₃)))
        (λ (e : f ≡ 2 * h). inl (omega (arith, a₂, a₃, a₀))) hf

  pub push_asks : (len from e to : ℕ) → 3 * h ≤ len → from ≡ slot_start w l o → e ≡ slot_start w l r
      → to ≡ f + slot_start (2 * w) l r
      → (h + from + w ≤ len) × (2 * h + from + w ≤ len) × (e + w ≤ len) × (to + 2 * w ≤ len)
      × Apart (h + from) w to (2 * w) × Apart (2 * h + from) w to (2 * w) × Apart e w to (2 * w)
  push_asks len from e to hl e₁ e₂ e₃ =
      let g₀ : f + slot_start (2 * w) l 0 ≤ f + slot_start (2 * w) l r = omega (arith, a₀) in
      let g₁ : f + slot_start (2 * w) l r + 2 * w ≤ f + slot_start (2 * w) l r + 2 * w = omega arith in
      rw (e₁, e₂, e₃) (
        omega (arith, a₁, a₀, a₃),
        omega (arith, a₁, a₀, a₃),
        omega (arith, a₂, a₀, a₃),
        ⊎_elim (λ (q : f ≡ 0). omega (arith, a₃)) (λ (q : f ≡ 2 * h). omega (arith, a₃)) hf,
        sum_apart (f + slot_start (2 * w) l r) (2 * w) g₀ g₁,
        odd_apart (f + slot_start (2 * w) l r) (2 * w) g₀ g₁,
        even_apart (f + slot_start (2 * w) l r) (2 * w) g₀ g₁,
      )

pub sum_asks : (w l h r s len from at : ℕ) → slot_start w l l ≤ h → 3 * h ≤ len → r < l → s < l
    → from ≡ slot_start w l s → at ≡ slot_start w l r
    → (from + w ≤ len) × (2 * h + at + w ≤ len) × (h + at + w ≤ len) × Apart from w (h + at) w
    × Apart (2 * h + at) w (h + at) w
sum_asks w l h r s len from at low hl hr hs e₁ e₂ =
    let a : slot_start w l s + w ≤ slot_start w l l = slot_apart w l s l hs in
    let c : slot_start w l r + w ≤ slot_start w l l = slot_apart w l r l hr in
    (omega arith, omega arith, omega arith, inl (omega arith), inr (omega arith))

pub sum_more : (w l h : ℕ) (b b' b'' : List ℕ) (S : ℕ → ℕ) (r : ℕ) → slot_start w l l ≤ h → r < l → S r < l
    → WroteRows (λ z. sum_f w l h b (S z) z) (h + slot_start w l 0) w r b b'
    → Wrote (sum_f w l h b' (S r) r) (h + slot_start w l r) w b' b''
    → WroteRows (λ z. sum_f w l h b (S z) z) (h + slot_start w l 0) w (r + 1) b b''
sum_more w l h b b' b'' S r low hr hs a p =
    let F : ℕ → ℕ → ℕ = λ z. sum_f w l h b (S z) z in
    let at : ℕ = h + slot_start w l 0 in
    let e : h + slot_start w l r ≡ at + w * r = omega (arith, slot_at w l r) in
    let g₁ : slot_start w l (S r) + w ≤ slot_start w l l = slot_apart w l (S r) l hs in
    let g₂ : slot_start w l r + w ≤ slot_start w l l = slot_apart w l r l hr in
    let g₃ : w * r ≤ w * r = omega arith in
    rows_more F at w b (sum_f w l h b' (S r) r) r (h + slot_start w l r) b' b'' e a p
    (λ m hm. mix_same false b b' (slot_start w l (S r)) (2 * h + slot_start w l r) m
    (rows_apart F at w r (slot_start w l (S r)) w (w * r) b b' (inl (omega arith)) g₃ a m hm)
    (rows_apart F at w r (2 * h + slot_start w l r) w (w * r) b b' (inr (omega arith)) g₃ a m hm))

pub half_apart : (p w to : ℕ) → Apart p w to (2 * w) → Apart p w to w
half_apart p w to a = ⊎_elim (λ g. inl g) (λ g. inr (omega arith)) a

pub rest_apart : (p w to : ℕ) → Apart p w to (2 * w) → Apart p w (to + w) w
rest_apart p w to a = ⊎_elim (λ g. inl (omega arith)) (λ g. inr (omega arith)) a

pub fit_b : (w l h : ℕ) (b b' : List ℕ) → length b' ≡ length b → FitBits w l h b → FitBits w l h b'
fit_b w l h b b' e f = record { wide = f.wide; long = f.long; low = f.low; bytes = rw e f.bytes }

pub sum_wrote : (w l h : ℕ) (b : List ℕ) (s r from at : ℕ) (b' : List ℕ) → from ≡ slot_start w l s
    → at ≡ slot_start w l r
    → Wrote (mix false b from (2 * h + at)) (h + at) w b b' → Wrote (sum_f w l h b s r) (h + slot_start w l r) w b b'
sum_wrote w l h b s r from at b' e₁ e₂ p = rw (e₁, e₂) at p

-- ---- what depends on the layer rule
module _ (arikan : Bool) where
  pub pair_wrote : (b b₁ b₂ : List ℕ) (p q e to w : ℕ) → Apart q w to (2 * w) → Apart e w to (2 * w)
      → Wrote (mix arikan b p e) to w b b₁ → Wrote (mix arikan b₁ q e) (to + w) w b₁ b₂ → Wrote (pair_f arikan b p q e w) to (2 * w) b b₂
  pair_wrote b b₁ b₂ p q e to w aq ae x y = record {
    same = y.same ∙ x.same;
    inside = λ m h. sym (cond_ltb m w (mix arikan b p e m) (mix arikan b q e (m - w)) (get_or b₂ (to + m) 0)
        (λ l. sym (y.below (to + m) (omega arith) ∙ x.inside m l))
        (λ l.
        let z : to + m ≡ to + w + (m - w) = omega arith in
        sym (ap (λ (k : ℕ). get_or b₂ k 0) z ∙ y.inside (m - w) (omega arith)
        ∙ mix_same arikan b b₁ q e (m - w)
        (wrote_apart (mix arikan b p e) to (2 * w) w q w b b₁ aq (omega arith) x (m - w) (omega arith))
        (wrote_apart (mix arikan b p e) to (2 * w) w e w b b₁ ae (omega arith) x (m - w) (omega arith)))));
    below = λ j h. y.below j (omega arith) ∙ x.below j h;
    above = λ j h. y.above j (omega arith) ∙ x.above j (omega arith);
  }

  -- what an answer of pairF looks at
  pair_same : (b b' : List ℕ) (p q e w : ℕ) → ((i : ℕ) → i < w → get_or b' (p + i) 0 ≡ get_or b (p + i) 0)
      → ((i : ℕ) → i < w → get_or b' (q + i) 0 ≡ get_or b (q + i) 0)
      → ((i : ℕ) → i < w → get_or b' (e + i) 0 ≡ get_or b (e + i) 0) → (m : ℕ) → m < 2 * w
      → pair_f arikan b' p q e w m ≡ pair_f arikan b p q e w m
  pair_same b b' p q e w hp hq he m h = cond_ltb m w (mix arikan b' p e m) (mix arikan b' q e (m - w)) (pair_f arikan b p q e w m)
      (λ l. mix_same arikan b b' p e m (hp m l) (he m l)
      ∙ sym (cond_ltb m w (mix arikan b p e m) (mix arikan b q e (m - w)) (mix arikan b p e m) (λ _. refl) (λ g. absurd (omega arith))))
      (λ l. mix_same arikan b b' q e (m - w) (hq (m - w) (omega arith)) (he (m - w) (omega arith))
      ∙ sym (cond_ltb m w (mix arikan b p e m) (mix arikan b q e (m - w)) (mix arikan b q e (m - w)) (λ g. absurd (omega arith))
      (λ _. refl)))

  -- one path more: what it reads, no path writes
  pub push_more : (w l h f : ℕ) (b b' b'' : List ℕ) (O : ℕ → ℕ) (r : ℕ) → slot_start (2 * w) l l ≤ h → r < l → O r < l
      → (f ≡ 0) ⊎ (f ≡ 2 * h)
      → WroteRows (λ z. push_f arikan w l h b (O z) z) (f + slot_start (2 * w) l 0) (2 * w) r b b'
      → Wrote (push_f arikan w l h b' (O r) r) (f + slot_start (2 * w) l r) (2 * w) b' b''
      → WroteRows (λ z. push_f arikan w l h b (O z) z) (f + slot_start (2 * w) l 0) (2 * w) (r + 1) b b''
  push_more w l h f b b' b'' O r low hr ho hf a p =
      let F : ℕ → ℕ → ℕ = λ z. push_f arikan w l h b (O z) z in
      let at : ℕ = f + slot_start (2 * w) l 0 in
      let e : f + slot_start (2 * w) l r ≡ at + 2 * w * r = omega (arith, slot_at (2 * w) l r) in
      let g₁ : at + 2 * w * r ≤ f + slot_start (2 * w) l r + 2 * w = omega arith in
      let g₀ : at ≤ at = omega arith in
      let g₂ : 2 * w * r ≤ 2 * w * r = omega arith in
      rows_more F at (2 * w) b (push_f arikan w l h b' (O r) r) r (f + slot_start (2 * w) l r) b' b'' e a p
      (pair_same b b' (h + slot_start w l (O r)) (2 * h + slot_start w l (O r)) (slot_start w l r) w
      (rows_apart F at (2 * w) r (h + slot_start w l (O r)) w (2 * w * r) b b'
      (sum_apart w l h f r (O r) low hr ho hf at (2 * w * r) g₀ g₁) g₂ a)
      (rows_apart F at (2 * w) r (2 * h + slot_start w l (O r)) w (2 * w * r) b b'
      (odd_apart w l h f r (O r) low hr ho hf at (2 * w * r) g₀ g₁) g₂ a)
      (rows_apart F at (2 * w) r (slot_start w l r) w (2 * w * r) b b'
      (even_apart w l h f r (O r) low hr ho hf at (2 * w * r) g₀ g₁) g₂ a))

  pub push_wrote : (w l h f : ℕ) (b : List ℕ) (o r from e to : ℕ) (b' : List ℕ) → from ≡ slot_start w l o
      → e ≡ slot_start w l r → to ≡ slot_start (2 * w) l r
      → Wrote (pair_f arikan b (h + from) (2 * h + from) e w) (f + to) (2 * w) b b'
      → Wrote (push_f arikan w l h b o r) (f + slot_start (2 * w) l r) (2 * w) b b'
  push_wrote w l h f b o r from e to b' e₁ e₂ e₃ p = rw (e₁, e₂, e₃) at p
