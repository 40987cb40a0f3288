-- Windows: the costs of a node's prefix with the next few bits, and the rules between the layers.
use Rattle.std.specs.Prelude.{◌≡◌, Bool, true, false, not, ℕ, zero, suc, ◌+◌, ◌-◌, ◌*◌, ◌/◌, ◌%◌, ◌^◌, ◌<◌, ◌≤◌, min, length, take, ℤ, T, ltb}
use Rattle.std.proofs.Math.Path.{refl, ap}
use Rattle.std.proofs.Common.{sym, ap₂, subst, ◌∙◌, arith, take_all, pow_mono, ltb→lt, nltb→le}
use mathlib.Core.List.{List, [], ◌∷◌, ◌++◌, append_assoc}
use Rattle.std.proofs.Math.Nat.{div-div-eq-div-mul}
use Rattle.std.proofs.Math.ListN.{length-append}
use Rattle.std.proofs.lemmas.List.{take-append-le}
use Rattle.spec.specs.Bits.{◌⊕◌}
use Rattle.spec.specs.Transform.{evens, odds}
use Rattle.laws.specs.Places.{carry, in_a, in_b, by_places}
use Rattle.laws.specs.Cost.{last, word_cost, least_cost, cost}
use Rattle.laws.specs.Layer.{Odd, odd_append, in_a_append, in_b_append, least, half, length_in_a, length_in_b, length_odd, half_length, layer, layer_full}
use Rattle.laws.specs.Entries.{cost_step}

-- ---- the operator: a layer's window of an odd prefix, from the children's windows
pub last_append : (w z : List ℕ) → Odd w → last (w ++ z) ≡ last (last w ∷ z)
last_append [] z o = absurd o
last_append (u ∷ []) z o = refl
last_append (u ∷ x ∷ []) z o = absurd o
last_append (u ∷ x ∷ c ∷ r) z o = last_append (c ∷ r) z o

-- a function of four bits, at the first n of them, with 0 for the others
abbrev pub mask4 : ℕ → (ℕ → ℕ → ℕ → ℕ → ℕ) → ℕ → ℕ → ℕ → ℕ → ℕ
mask4 zero f x₁ x₂ x₃ x₄ = f 0 0 0 0
mask4 (suc zero) f x₁ x₂ x₃ x₄ = f x₁ 0 0 0
mask4 (suc (suc zero)) f x₁ x₂ x₃ x₄ = f x₁ x₂ 0 0
mask4 (suc (suc (suc zero))) f x₁ x₂ x₃ x₄ = f x₁ x₂ x₃ 0
mask4 (suc (suc (suc (suc n)))) f x₁ x₂ x₃ x₄ = f x₁ x₂ x₃ x₄

-- the operator over two functions of three bits
abbrev pub op4 : Bool → (ℕ → ℕ → ℕ → ℕ) → (ℕ → ℕ → ℕ → ℕ) → ℕ → ℕ → ℕ → ℕ → ℕ → ℕ
op4 arikan f g e x₁ x₂ x₃ x₄ =
    least (λ t. f (e ⊕ (x₁ ⊕ carry arikan x₂)) (x₂ ⊕ (x₃ ⊕ carry arikan x₄)) (x₄ ⊕ t) + g (x₁ ⊕ carry arikan x₂) (x₃ ⊕ carry arikan x₄) t)

-- ---- packed: a window's bits as a number, the first bit lowest
abbrev pub pack4 : ℕ → ℕ → ℕ → ℕ → ℕ
pack4 a b c d = a + 2 * b + 4 * c + 8 * d

abbrev pub at4 : (ℕ → ℕ → ℕ → ℕ → ℕ) → ℕ → ℕ
at4 f x = f (x % 2) (x / 2 % 2) (x / 4 % 2) (x / 8 % 2)

pub at4_pack : (f : ℕ → ℕ → ℕ → ℕ → ℕ) (a b c d : ℕ) → a < 2 → b < 2 → c < 2 → d < 2 → at4 f (pack4 a b c d) ≡ f a b c d
at4_pack f a b c d ha hb hc hd =
    let x : ℕ = a + 2 * b + 4 * c + 8 * d in
    let q₂ : x / 2 ≡ b + 2 * c + 4 * d = omega arith in
    let q₄ : x / 4 ≡ c + 2 * d = omega arith in
    let q₈ : x / 8 ≡ d = omega arith in
    let e₁ : x % 2 ≡ a = omega arith in
    let e₂ : x / 2 % 2 ≡ b = rw q₂ (omega arith) in
    let e₃ : x / 4 % 2 ≡ c = rw q₄ (omega arith) in
    let e₄ : x / 8 % 2 ≡ d = rw q₈ (omega arith) in
    cc

split_2 : (q : ℕ) → q % 2 + 2 * (q / 2) ≡ q
split_2 q = omega arith

-- at closed k, k * 2 computes
div_div : (x : ℕ) (k : ℕ) → x / k % 2 + 2 * (x / (k * 2)) ≡ x / k
div_div x k = rw (← div-div-eq-div-mul x k 2) (split_2 (x / k))

mod_8 : (x : ℕ) → x % 8 ≡ x % 2 + 2 * (x / 2 % 2) + 4 * (x / 4 % 2)
mod_8 x =
    let d₁ : x % 2 + 2 * (x / 2) ≡ x = split_2 x in
    let d₂ : x / 2 % 2 + 2 * (x / 4) ≡ x / 2 = div_div x 2 in
    let d₃ : x / 4 % 2 + 2 * (x / 8) ≡ x / 4 = div_div x 4 in
    let d₈ : x % 8 + 8 * (x / 8) ≡ x = omega arith in
    omega arith

-- ---- three bits as a number
abbrev pub pack3 : ℕ → ℕ → ℕ → ℕ
pack3 a b c = a + 2 * b + 4 * c

-- ---- what depends on the layer rule
module _ (arikan : Bool) where
  -- ---- a window: what comes after v, cut at the word's end
  unfoldable pub win : ℕ → List ℤ → List ℕ → List ℕ → ℕ
  win m y v z = cost arikan m y (take (2 ^ m) (v ++ z))

  module _ (m : ℕ) (y : List ℤ) (v : List ℕ) where
    -- within the word
    pub win_in : (z : List ℕ) → length v + length z ≤ 2 ^ m → win m y v z ≡ cost arikan m y (v ++ z)
    unfolding win
    win_in z h = ap (cost arikan m y) (take_all (2 ^ m) (v ++ z) (omega (arith, length-append v z)))

    -- past its end nothing counts
    pub win_past : (z r : List ℕ) → 2 ^ m ≤ length v + length z → win m y v (z ++ r) ≡ win m y v z
    unfolding win
    win_past z r h = ap (cost arikan m y) (rw (← append_assoc v z r) (take-append-le (2 ^ m) (v ++ z) r (omega (arith, length-append v z))))

    -- one bit more
    pub win_step : (z : List ℕ) → win m y v z ≡ least (λ b. win m y v (z ++ b ∷ []))
    win_step z = go (ltb (length v + length z) (2 ^ m)) refl
      where
        go : (c : Bool) → ltb (length v + length z) (2 ^ m) ≡ c → win m y v z ≡ least (λ b. win m y v (z ++ b ∷ []))
        go true e =
            let h : length v + length z < 2 ^ m = ltb→lt (length v + length z) (2 ^ m) (subst T (sym e) tt) in
            let at : (b : ℕ) → cost arikan m y ((v ++ z) ++ b ∷ []) ≡ win m y v (z ++ b ∷ [])
            = λ b. ap (cost arikan m y) (append_assoc v z (b ∷ [])) ∙ sym (win_in (z ++ b ∷ []) (omega (arith, length-append z (b ∷ [])))) in
            win_in z (omega arith) ∙ cost_step arikan m y (v ++ z) (omega (arith, length-append v z)) ∙ ap₂ min (at 0) (at 1)
        go false e =
            let h : 2 ^ m ≤ length v + length z = nltb→le (length v + length z) (2 ^ m) (subst (λ (b : Bool). T (not b)) (sym e) tt) in
            omega (arith, win_past z (0 ∷ []) h, win_past z (1 ∷ []) h)

    -- the prefix's last bit, seen as the window's first
    pub win_shift : (o : ℕ) (z : List ℕ) → win m y (v ++ o ∷ []) z ≡ win m y v (o ∷ z)
    unfolding win
    win_shift o z = ap (λ (u : List ℕ). cost arikan m y (take (2 ^ m) u)) (append_assoc v (o ∷ []) z)

  module _ (m : ℕ) (y : List ℤ) (v : List ℕ) (o : Odd v) where
    -- bits are free after it
    pub win_layer : (z : List ℕ) → Odd (last v ∷ z) → length v + length z < 2 ^ suc m
        → win (suc m) y v z
        ≡ least (λ t. win m (evens y) (in_a arikan v) (in_a arikan (last v ∷ z) ++ (last (last v ∷ z) ⊕ t) ∷ []) + win m (odds y) (in_b arikan v) (in_b arikan (last v ∷ z) ++ t ∷ []))
    win_layer z p h =
        win_in (suc m) y v z (omega arith)
        ∙ layer arikan m y (v ++ z) (odd_append v z o p) (omega (arith, length-append v z))
        ∙ ap₂ min (ap₂ ◌+◌ (at_a 0) (at_b 0)) (ap₂ ◌+◌ (at_a 1) (at_b 1))
      where
        len : length (in_a arikan v) + suc (half (suc (length z))) ≤ 2 ^ m
        len = omega (arith, length_in_a arikan v, length_odd v o, length_odd (last v ∷ z) p)

        at_a : (t : ℕ) → cost arikan m (evens y) (in_a arikan (v ++ z) ++ (last (v ++ z) ⊕ t) ∷ [])
            ≡ win m (evens y) (in_a arikan v) (in_a arikan (last v ∷ z) ++ (last (last v ∷ z) ⊕ t) ∷ [])
        at_a t =
            rw (in_a_append arikan v z o, last_append v z o, append_assoc (in_a arikan v) (in_a arikan (last v ∷ z)) ((last (last v ∷ z) ⊕ t) ∷ []))
            (sym (win_in m (evens y) (in_a arikan v) (in_a arikan (last v ∷ z) ++ (last (last v ∷ z) ⊕ t) ∷ [])
            (omega (arith, len, length-append (in_a arikan (last v ∷ z)) ((last (last v ∷ z) ⊕ t) ∷ []), length_in_a arikan (last v ∷ z)))))

        at_b : (t : ℕ) → cost arikan m (odds y) (in_b arikan (v ++ z) ++ t ∷ []) ≡ win m (odds y) (in_b arikan v) (in_b arikan (last v ∷ z) ++ t ∷ [])
        at_b t =
            rw (in_b_append arikan v z o, append_assoc (in_b arikan v) (in_b arikan (last v ∷ z)) (t ∷ []))
            (sym (win_in m (odds y) (in_b arikan v) (in_b arikan (last v ∷ z) ++ t ∷ [])
            (omega (arith, len, length_in_a arikan v, length_in_b arikan v, length-append (in_b arikan (last v ∷ z)) (t ∷ []), length_in_b arikan (last v ∷ z)))))

    -- the window ends with the word
    pub win_layer_full : (z : List ℕ) → length v + length z ≡ 2 ^ suc m
        → win (suc m) y v z ≡ win m (evens y) (in_a arikan v) (in_a arikan (last v ∷ z)) + win m (odds y) (in_b arikan v) (in_b arikan (last v ∷ z))
    win_layer_full z h =
        win_in (suc m) y v z (omega arith)
        ∙ layer_full arikan m y (v ++ z) (length-append v z ∙ h)
        ∙ rw (in_a_append arikan v z o, in_b_append arikan v z o)
        (ap₂ ◌+◌ (sym (win_in m (evens y) (in_a arikan v) (in_a arikan (last v ∷ z)) len_a)) (sym (win_in m (odds y) (in_b arikan v) (in_b arikan (last v ∷ z)) len_b)))
      where
        hf : half (length v + length z) ≡ 2 ^ m
        hf = ap half (sym (length-append v z)) ∙ half_length m (v ++ z) (length-append v z ∙ h)

        len_a : length (in_a arikan v) + length (in_a arikan (last v ∷ z)) ≤ 2 ^ m
        len_a = omega (arith, hf, length-append (in_a arikan v) (in_a arikan (last v ∷ z)), ap length (in_a_append arikan v z o), length_in_a arikan (v ++ z), ap half (length-append v z))

        len_b : length (in_b arikan v) + length (in_b arikan (last v ∷ z)) ≤ 2 ^ m
        len_b = omega (arith, hf, length-append (in_b arikan v) (in_b arikan (last v ∷ z)), ap length (in_b_append arikan v z o), length_in_b arikan (v ++ z), ap half (length-append v z))

  abbrev pub W4 : ℕ → List ℤ → List ℕ → ℕ → ℕ → ℕ → ℕ → ℕ
  W4 m y v x₁ x₂ x₃ x₄ = win m y v (x₁ ∷ x₂ ∷ x₃ ∷ x₄ ∷ [])

  abbrev pub W3 : ℕ → List ℤ → List ℕ → ℕ → ℕ → ℕ → ℕ
  W3 m y v x₁ x₂ x₃ = win m y v (x₁ ∷ x₂ ∷ x₃ ∷ [])

  module _ (m : ℕ) (y : List ℤ) (v : List ℕ) (o : Odd v) (h : length v < 2 ^ suc m) where
    pub win_op : (x₁ x₂ x₃ x₄ : ℕ)
        → W4 (suc m) y v x₁ x₂ x₃ x₄ ≡ mask4 (2 ^ suc m - length v) (op4 arikan (W3 m (evens y) (in_a arikan v)) (W3 m (odds y) (in_b arikan v)) (last v)) x₁ x₂ x₃ x₄
    win_op x₁ x₂ x₃ x₄ = go (2 ^ suc m - length v) refl
      where
        l_a : length (in_a arikan v) ≡ half (length v)
        l_a = length_in_a arikan v

        l_b : length (in_b arikan v) ≡ half (length v)
        l_b = length_in_b arikan v

        lv : length v ≡ suc (2 * half (length v))
        lv = length_odd v o

        go : (r : ℕ) → 2 ^ suc m - length v ≡ r
            → W4 (suc m) y v x₁ x₂ x₃ x₄ ≡ mask4 r (op4 arikan (W3 m (evens y) (in_a arikan v)) (W3 m (odds y) (in_b arikan v)) (last v)) x₁ x₂ x₃ x₄
        go zero e = absurd (omega arith)
        go (suc zero) e =
            win_past (suc m) y v (x₁ ∷ []) (x₂ ∷ x₃ ∷ x₄ ∷ []) (omega arith)
            ∙ win_layer_full m y v o (x₁ ∷ []) (omega arith)
            ∙ (let hA : 2 ^ m ≤ length (in_a arikan v) + 1 = omega (arith, l_a, lv) in
            let h_b : 2 ^ m ≤ length (in_b arikan v) + 1 = omega (arith, l_b, lv) in
            omega (
              arith,
              win_past m (evens y) (in_a arikan v) ((last v ⊕ x₁) ∷ []) (0 ∷ 0 ∷ []) hA,
              win_past m (evens y) (in_a arikan v) ((last v ⊕ x₁) ∷ []) (0 ∷ 1 ∷ []) hA,
              win_past m (odds y) (in_b arikan v) (x₁ ∷ []) (0 ∷ 0 ∷ []) h_b,
              win_past m (odds y) (in_b arikan v) (x₁ ∷ []) (0 ∷ 1 ∷ []) h_b,
            ))
        go (suc (suc zero)) e = absurd (omega (arith, lv))
        go (suc (suc (suc zero))) e =
            win_past (suc m) y v (x₁ ∷ x₂ ∷ x₃ ∷ []) (x₄ ∷ []) (omega arith)
            ∙ win_layer_full m y v o (x₁ ∷ x₂ ∷ x₃ ∷ []) (omega arith)
            ∙ (let hA : 2 ^ m ≤ length (in_a arikan v) + 2 = omega (arith, l_a, lv) in
            let h_b : 2 ^ m ≤ length (in_b arikan v) + 2 = omega (arith, l_b, lv) in
            let z_a : List ℕ = (last v ⊕ (x₁ ⊕ carry arikan x₂)) ∷ (x₂ ⊕ x₃) ∷ [] in
            let z_b : List ℕ = (x₁ ⊕ carry arikan x₂) ∷ x₃ ∷ [] in
            omega (
              arith,
              win_past m (evens y) (in_a arikan v) z_a (0 ∷ []) hA,
              win_past m (evens y) (in_a arikan v) z_a (1 ∷ []) hA,
              win_past m (odds y) (in_b arikan v) z_b (0 ∷ []) h_b,
              win_past m (odds y) (in_b arikan v) z_b (1 ∷ []) h_b,
            ))
        go (suc (suc (suc (suc zero)))) e = absurd (omega (arith, lv))
        go (suc (suc (suc (suc (suc r))))) e = win_layer m y v o (x₁ ∷ x₂ ∷ x₃ ∷ x₄ ∷ []) tt (omega arith)

  -- ---- three bits, of four
  module _ (m : ℕ) (y : List ℤ) (v : List ℕ) where
    -- an empty or an odd prefix: the stored window is the prefix's own
    pub win3_odd : (x₁ x₂ x₃ : ℕ) → W3 m y v x₁ x₂ x₃ ≡ least (W4 m y v x₁ x₂ x₃)
    win3_odd x₁ x₂ x₃ = win_step m y v (x₁ ∷ x₂ ∷ x₃ ∷ [])

    -- an even prefix: the stored window is that of the prefix without its last bit
    pub win3_even : (o x₁ x₂ x₃ : ℕ) → W3 m y (v ++ o ∷ []) x₁ x₂ x₃ ≡ W4 m y v o x₁ x₂ x₃
    win3_even o x₁ x₂ x₃ = win_shift m y v o (x₁ ∷ x₂ ∷ x₃ ∷ [])

    -- ---- the top
    pub top_odd : (b : ℕ) → length v < 2 ^ m → cost arikan m y (v ++ b ∷ []) ≡ least (λ p. least (λ q. least (W4 m y v b p q)))
    top_odd b h = sym (win_in m y v (b ∷ []) (omega arith)) ∙ up2 b
      where
        up0 : (b p q : ℕ) → W3 m y v b p q ≡ least (W4 m y v b p q)
        up0 b p q = win_step m y v (b ∷ p ∷ q ∷ [])

        up1 : (b p : ℕ) → win m y v (b ∷ p ∷ []) ≡ least (λ q. least (W4 m y v b p q))
        up1 b p = win_step m y v (b ∷ p ∷ []) ∙ ap₂ min (up0 b p 0) (up0 b p 1)

        up2 : (b : ℕ) → win m y v (b ∷ []) ≡ least (λ p. least (λ q. least (W4 m y v b p q)))
        up2 b = win_step m y v (b ∷ []) ∙ ap₂ min (up1 b 0) (up1 b 1)

    pub top_even : (o b : ℕ) → length v + 1 < 2 ^ m → cost arikan m y (v ++ o ∷ [] ++ b ∷ []) ≡ least (λ p. least (W4 m y v o b p))
    top_even o b h =
        ap (cost arikan m y) (append_assoc v (o ∷ []) (b ∷ [])) ∙ sym (win_in m y v (o ∷ b ∷ []) (omega arith))
        ∙ win_step m y v (o ∷ b ∷ []) ∙ ap₂ min (win_step m y v (o ∷ b ∷ 0 ∷ [])) (win_step m y v (o ∷ b ∷ 1 ∷ []))

  -- ---- the start: no bits decided
  pub win_start : (m : ℕ) (y : List ℤ) → 2 ≤ m → (x₁ x₂ x₃ x₄ : ℕ)
      → W4 (suc m) y [] x₁ x₂ x₃ x₄ ≡ least (λ f. op4 arikan (W3 m (evens y) []) (W3 m (odds y) []) x₁ x₂ x₃ x₄ f)
  win_start m y h x₁ x₂ x₃ x₄ = win_step (suc m) y [] (x₁ ∷ x₂ ∷ x₃ ∷ x₄ ∷ []) ∙ ap₂ min (at 0) (at 1)
    where
      at : (f : ℕ) → win (suc m) y [] (x₁ ∷ x₂ ∷ x₃ ∷ x₄ ∷ f ∷ []) ≡ op4 arikan (W3 m (evens y) []) (W3 m (odds y) []) x₁ x₂ x₃ x₄ f
      at f = sym (win_shift (suc m) y [] x₁ (x₂ ∷ x₃ ∷ x₄ ∷ f ∷ []))
          ∙ win_layer m y (x₁ ∷ []) tt (x₂ ∷ x₃ ∷ x₄ ∷ f ∷ []) tt (omega (arith, pow_mono {i = 2} {j = m} h))

  -- ---- the base: layer 2, whose words are four bits
  unfoldable pub F4 : List ℤ → ℕ → ℕ → ℕ → ℕ → ℕ
  F4 y x₁ x₂ x₃ x₄ = word_cost y (by_places arikan 2 (x₁ ∷ x₂ ∷ x₃ ∷ x₄ ∷ []))

  module _ (y : List ℤ) where
    pub base_0 : (x₁ x₂ x₃ x₄ : ℕ) → W4 2 y [] x₁ x₂ x₃ x₄ ≡ F4 y x₁ x₂ x₃ x₄
    unfolding win cost least_cost F4
    base_0 x₁ x₂ x₃ x₄ = refl

    pub base_1 : (u₀ x₁ x₂ x₃ x₄ : ℕ) → W4 2 y (u₀ ∷ []) x₁ x₂ x₃ x₄ ≡ F4 y u₀ x₁ x₂ x₃
    unfolding win cost least_cost F4
    base_1 u₀ x₁ x₂ x₃ x₄ = refl

    pub base_3 : (u₀ u₁ u₂ x₁ x₂ x₃ x₄ : ℕ) → W4 2 y (u₀ ∷ u₁ ∷ u₂ ∷ []) x₁ x₂ x₃ x₄ ≡ F4 y u₀ u₁ u₂ x₁
    unfolding win cost least_cost F4
    base_3 u₀ u₁ u₂ x₁ x₂ x₃ x₄ = refl

  -- ---- the base, packed
  abbrev pub F : List ℤ → ℕ → ℕ
  F y = at4 (F4 y)

  pub base_1_packed : (y : List ℤ) (u₀ x : ℕ) → u₀ < 2 → at4 (W4 2 y (u₀ ∷ [])) x ≡ F y (u₀ + 2 * (x % 8))
  base_1_packed y u₀ x h =
      let e : u₀ + 2 * (x % 8) ≡ pack4 u₀ (x % 2) (x / 2 % 2) (x / 4 % 2) = omega (arith, mod_8 x) in
      base_1 y u₀ (x % 2) (x / 2 % 2) (x / 4 % 2) (x / 8 % 2)
      ∙ sym (ap (F y) e ∙ at4_pack (F4 y) u₀ (x % 2) (x / 2 % 2) (x / 4 % 2) h (omega arith) (omega arith) (omega arith))

  pub base_3_packed : (y : List ℤ) (u₀ u₁ u₂ x : ℕ) → u₀ < 2 → u₁ < 2 → u₂ < 2 → at4 (W4 2 y (u₀ ∷ u₁ ∷ u₂ ∷ [])) x ≡ F y (u₀ + 2 * u₁ + 4 * u₂ + 8 * (x % 2))
  base_3_packed y u₀ u₁ u₂ x h₀ h₁ h₂ =
      base_3 y u₀ u₁ u₂ (x % 2) (x / 2 % 2) (x / 4 % 2) (x / 8 % 2) ∙ sym (at4_pack (F4 y) u₀ u₁ u₂ (x % 2) h₀ h₁ h₂ (omega arith))
