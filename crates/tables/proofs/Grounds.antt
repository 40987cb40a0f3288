-- The bottom layer's pass: one node and one path more, and that what is picked is right.
use mathlib.Core.Path.{◌≡◌, ◌∙◌, sym, ap}
use mathlib.Core.Bool.{Bool, true, false}
use mathlib.Core.List.{List, [], ◌∷◌}
use Prim.Native.Nat.{ℕ, ◌+◌, ◌*◌, ◌/◌, ◌%◌, ◌<◌, ◌≤◌}
use native.Mathlib.Nat.{mod-eq_of_lt}
use native.Mathlib.Omega.{arith}
use lib.ListN.{length, get_or}
use lib.IntN.{ℤ}
use Rattle.spec.specs.Bits.{◌⊕◌}
use Rattle.laws.specs.BitLaws.{⊕-lt, ⊕-mod, ⊕-twice}
use Rattle.laws.specs.Cost.{last}
use Rattle.laws.specs.Windows.{at4, W4, F, base_1_packed, base_3_packed}
use Rattle.windows.specs.Op.{Wrote, bottom_f, decided_of}
use Rattle.tables.specs.Tab.{slot_start, WroteRows, flat16, based_f, base_f, FitBottom}
use Rattle.tables.proofs.Places.{slot_apart, slot_times}
use Rattle.tables.proofs.Rows.{rows_flat, rows_more}

based_same : (last : Bool) (src sums odds evens : ℕ) (b t t' : List ℕ)
    → ((j : ℕ) → 16 * src ≤ j → get_or t' j 0 ≡ get_or t j 0)
    → (i x : ℕ) → based_f last src sums odds evens b t' i x ≡ based_f last src sums odds evens b t i x
based_same true src sums odds evens b t t' p i x
    = p (16 * (src + i) +
    (decided_of true (get_or b (sums + i) 0) (get_or b (odds + i) 0) (get_or b (evens + i) 0) + 8 * (x % 2))) (omega arith)
based_same false src sums odds evens b t t' p i x
    = p (16 * (src + i) +
    (decided_of false (get_or b (sums + i) 0) (get_or b (odds + i) 0) (get_or b (evens + i) 0) + 2 * (x % 8))) (omega arith)

pub picks_more : (last : Bool) (src dst sums odds evens : ℕ) (b t : List ℕ) (i z : ℕ) (t' t'' : List ℕ) → dst + i ≤ src
    → z ≡ decided_of last (get_or b (sums + i) 0) (get_or b (odds + i) 0) (get_or b (evens + i) 0)
    → WroteRows (based_f last src sums odds evens b t) (16 * dst) 16 i t t'
    → Wrote (bottom_f last t' (16 * (src + i)) z) (16 * (dst + i)) 16 t' t''
    → WroteRows (based_f last src sums odds evens b t) (16 * dst) 16 (i + 1) t t''
picks_more last src dst sums odds evens b t i z t' t'' h e a p =
    rows_more (based_f last src sums odds evens b t) (16 * dst) 16 t (bottom_f last t' (16 * (src + i)) z) i
    (16 * (dst + i)) t' t'' (omega arith) a p
    (λ m _. ap (λ (k : ℕ). bottom_f last t' (16 * (src + i)) k m) e
    ∙ based_same last src sums odds evens b t t' (λ j g. a.above j (omega arith)) i m)

pub base_wrote : (last : Bool) (w l h : ℕ) (b t : List ℕ) (o r q dst : ℕ) (t' : List ℕ) → q ≡ slot_start w l o
    → dst ≡ slot_start w l r
    → WroteRows (based_f last h (h + q) (2 * h + q) dst b t) (16 * dst) 16 w t t'
    → Wrote (flat16 (base_f last w l h b t o r)) (16 * slot_start w l r) (16 * w) t t'
base_wrote last w l h b t o r q dst t' e₁ e₂ a
    = rows_flat (base_f last w l h b t o r) (16 * slot_start w l r) w t t' (rw (e₁, e₂) at a)

pub fit_c : (w l h : ℕ) (t t' b : List ℕ) → length t' ≡ length t → FitBottom w l h t b → FitBottom w l h t' b
fit_c w l h t t' b e f
    = record { wide = f.wide; long = f.long; low = f.low; words = rw e f.words; bytes = f.bytes }

pub ground_more : (last : Bool) (w l h : ℕ) (b t : List ℕ) (O : ℕ → ℕ) (r : ℕ) (t' t'' : List ℕ) → slot_start w l l ≤ h
    → r < l
    → WroteRows (λ z. flat16 (base_f last w l h b t (O z) z)) (16 * slot_start w l 0) (16 * w) r t t'
    → Wrote (flat16 (base_f last w l h b t' (O r) r)) (16 * slot_start w l r) (16 * w) t' t''
    → WroteRows (λ z. flat16 (base_f last w l h b t (O z) z)) (16 * slot_start w l 0) (16 * w) (r + 1) t t''
ground_more last w l h b t O r t' t'' low lr a p =
    rows_more (λ z. flat16 (base_f last w l h b t (O z) z)) (16 * slot_start w l 0) (16 * w) t
    (flat16 (base_f last w l h b t' (O r) r)) r (16 * slot_start w l r) t' t''
    (slot_times 16 w l r) a p
    (λ m _. based_same last h (h + slot_start w l (O r)) (2 * h + slot_start w l (O r)) (slot_start w l r) b t t'
    (λ j g. a.above j (omega (arith, slot_times 16 w l r, slot_apart w l r l lr))) (m / 16) (m % 16))

-- ---- what is picked is right
two_bits : (a b : ℕ) → a < 2 → b < 2 → ((a ⊕ b) % 2 + b % 2) % 2 ≡ a
two_bits a b ha hb = rw (mod-eq_of_lt (⊕-lt a b ha), mod-eq_of_lt hb)
    (sym (⊕-mod (a ⊕ b) b (⊕-lt a b ha) hb) ∙ ⊕-twice a b ha)

-- ---- what depends on the layer rule
module _ (arikan : Bool) where
  -- after one bit
  pub ground_1 : (y : List ℤ) (u₀ s o : ℕ) (t : List ℕ) (p x : ℕ) → u₀ < 2
      → ((k : ℕ) → k < 16 → get_or t (p + k) 0 ≡ F arikan y k)
      → bottom_f false t p (decided_of false s o u₀) x ≡ at4 (W4 arikan 2 y (u₀ ∷ [])) x
  ground_1 y u₀ s o t p x h c = rw (mod-eq_of_lt h) (c (u₀ + 2 * (x % 8)) (omega arith) ∙ sym (base_1_packed arikan y u₀ x h))

  -- after three
  pub ground_3 : (y : List ℤ) (u₀ u₁ u₂ : ℕ) (t : List ℕ) (p x : ℕ) → u₀ < 2 → u₁ < 2 → u₂ < 2
      → ((k : ℕ) → k < 16 → get_or t (p + k) 0 ≡ F arikan y k)
      → bottom_f true t p (decided_of true (u₀ ⊕ u₁) u₁ u₂) x ≡ at4 (W4 arikan 2 y (u₀ ∷ u₁ ∷ u₂ ∷ [])) x
  ground_3 y u₀ u₁ u₂ t p x h₀ h₁ h₂ c =
      let e : decided_of true (u₀ ⊕ u₁) u₁ u₂ ≡ u₀ + 2 * u₁ + 4 * u₂
      = omega (arith, two_bits u₀ u₁ h₀ h₁, mod-eq_of_lt h₁, mod-eq_of_lt h₂) in
      ap (λ (k : ℕ). get_or t (p + (k + 8 * (x % 2))) 0) e ∙ c (u₀ + 2 * u₁ + 4 * u₂ + 8 * (x % 2)) (omega arith)
      ∙ sym (base_3_packed arikan y u₀ u₁ u₂ x h₀ h₁ h₂)
