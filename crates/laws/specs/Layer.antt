-- The layer rule.
use Rattle.std.specs.Prelude.{◌≡◌, Bool, true, false, ℤ, pos, negsuc}
use Rattle.std.proofs.Math.Path.{refl, sym, ap, ap₂}
use Rattle.std.proofs.Common.{◌∙◌, length-append}
use mathlib.Core.List.{List, [], ◌∷◌, ◌++◌, append_assoc}
use Prim.Native.Nat.{ℕ, zero, suc, ◌+◌, ◌-◌, ◌*◌, ◌^◌, ◌<◌, min}
use native.Mathlib.Omega.{arith}
use Rattle.std.proofs.Math.Nat.{suc_inj}
use Rattle.std.proofs.Math.ListN.{length}
use Rattle.std.proofs.Math.Pow.{pow_pos, suc_ones}
use Rattle.spec.specs.Bits.{◌⊕◌, flip}
use Rattle.spec.specs.Transform.{interleave, evens, odds}
use Rattle.laws.specs.Places.{carry, in_a, in_b, by_places}
use Rattle.laws.specs.Cost.{last, word_cost, least_cost, cost}

-- ---- a word of odd length
abbrev pub Odd : List ℕ → Type 0
Odd [] = ⊥
Odd (x ∷ []) = Unit {0}
Odd (x ∷ y ∷ r) = Odd r

-- an odd word's entries stay as more bits come: the rest is made from its last bit and those
pub odd_append : (w v : List ℕ) → Odd w → Odd (last w ∷ v) → Odd (w ++ v)
odd_append [] v o p = absurd o
odd_append (u ∷ []) v o p = p
odd_append (u ∷ x ∷ []) v o p = absurd o
odd_append (u ∷ x ∷ z ∷ r) v o p = odd_append (z ∷ r) v o p

pub last_snoc : (w : List ℕ) (x : ℕ) → last (w ++ x ∷ []) ≡ x
last_snoc [] x = refl
last_snoc (u ∷ []) x = refl
last_snoc (u ∷ v ∷ r) x = last_snoc (v ∷ r) x

-- two more bits: one more entry of each half
pub odd_snoc² : (w : List ℕ) (x z : ℕ) → Odd w → Odd (w ++ x ∷ [] ++ z ∷ [])
odd_snoc² w x z o = rw append_assoc (odd_append w (x ∷ z ∷ []) o tt)

-- ---- lengths

abbrev pub half : ℕ → ℕ
half zero = zero
half (suc zero) = zero
half (suc (suc n)) = suc (half n)

abbrev pub double : ℕ → ℕ
double zero = zero
double (suc n) = suc (suc (double n))

pub double_is : (n : ℕ) → double n ≡ 2 * n
double_is zero = refl
double_is (suc n) = omega (arith, double_is n)

pub half_double : (n : ℕ) → half (double n) ≡ n
half_double zero = refl
half_double (suc n) = ap suc (half_double n)

pub length_interleave : (p q : List ℕ) → length p ≡ length q → length (interleave p q) ≡ double (length p)
length_interleave [] q e = refl
length_interleave (a ∷ p) [] e = absurd (omega (arith, e))
length_interleave (a ∷ p) (b ∷ q) e = ap (λ (n : ℕ). suc (suc n)) (length_interleave p q (suc_inj e))

pub pow_double : (m : ℕ) → 2 ^ suc m ≡ double (2 ^ m)
pow_double m = omega (arith, double_is (2 ^ m))

pub half_length : (m : ℕ) (u : List ℕ) → length u ≡ 2 ^ suc m → half (length u) ≡ 2 ^ m
half_length m u e = ap half (e ∙ pow_double m) ∙ half_double (2 ^ m)

-- ---- the word cost of a full word, by its halves
word_cost_nil : (y : List ℤ) → word_cost y [] ≡ 0
word_cost_nil [] = refl
word_cost_nil (x ∷ y) = refl

pub word_cost_interleave : (y : List ℤ) (p q : List ℕ) → length p ≡ length q → word_cost y (interleave p q) ≡ word_cost (evens y) p + word_cost (odds y) q
word_cost_interleave y [] [] e = omega (arith, word_cost_nil y, word_cost_nil (evens y), word_cost_nil (odds y))
word_cost_interleave y [] (b ∷ q) e = absurd (omega (arith, e))
word_cost_interleave y (a ∷ p) [] e = absurd (omega (arith, e))
word_cost_interleave [] (a ∷ p) (b ∷ q) e = refl
word_cost_interleave (y ∷ []) (a ∷ p) (b ∷ q) e = omega arith
word_cost_interleave (y ∷ z ∷ ys) (a ∷ p) (b ∷ q) e = omega (arith, word_cost_interleave ys p q (suc_inj e))

-- ---- the layer rule

pub min_split : (a b c d : ℕ) → min (min (a + c) (b + d)) (min (b + c) (a + d)) ≡ min a b + min c d
min_split a b c d = omega arith

min_turn : (p q r s : ℕ) → min (min p q) (min r s) ≡ min (min p s) (min r q)
min_turn p q r s = omega arith

-- With s, the next entry of b, fixed, (z + t, t) ranges over all pairs: so the least over x, z and t splits into two.
abbrev pub pair : Bool → (ℕ → ℕ → ℕ) → (ℕ → ℕ → ℕ) → ℕ → ℕ → ℕ
pair arikan f g x z = min (f (x ⊕ carry arikan z) z + g (x ⊕ carry arikan z) 0) (f (x ⊕ carry arikan z) (flip z) + g (x ⊕ carry arikan z) 1)

abbrev pub least : (ℕ → ℕ) → ℕ
least f = min (f 0) (f 1)

pairs_split : (arikan : Bool) (f g : ℕ → ℕ → ℕ) → least (λ x. least (pair arikan f g x)) ≡ least (λ s. least (f s) + least (g s))
pairs_split false f g =
    min_turn (pair false f g 0 0) (pair false f g 0 1) (pair false f g 1 0) (pair false f g 1 1)
    ∙ ap₂ min (min_split (f 0 0) (f 0 1) (g 0 0) (g 0 1))
    (min_split (f 1 0) (f 1 1) (g 1 0) (g 1 1))
pairs_split true f g = ap₂ min (min_split (f 0 0) (f 0 1) (g 0 0) (g 0 1)) (min_split (f 1 0) (f 1 1) (g 1 0) (g 1 1))

-- ---- the layer rule for `cost`

pub length_odd : (w : List ℕ) → Odd w → length w ≡ suc (2 * half (length w))
length_odd [] o = absurd o
length_odd (x ∷ []) o = refl
length_odd (x ∷ z ∷ r) o = omega (arith, length_odd r o)

-- ---- what depends on the layer rule
module _ (arikan : Bool) where
  pub in_a_append : (w v : List ℕ) → Odd w → in_a arikan (w ++ v) ≡ in_a arikan w ++ in_a arikan (last w ∷ v)
  in_a_append [] v o = absurd o
  in_a_append (u ∷ []) v o = refl
  in_a_append (u ∷ x ∷ []) v o = absurd o
  in_a_append (u ∷ x ∷ z ∷ r) v o = ap (λ (l : List ℕ). (u ⊕ (x ⊕ carry arikan z)) ∷ l) (in_a_append (z ∷ r) v o)

  pub in_b_append : (w v : List ℕ) → Odd w → in_b arikan (w ++ v) ≡ in_b arikan w ++ in_b arikan (last w ∷ v)
  in_b_append [] v o = absurd o
  in_b_append (u ∷ []) v o = refl
  in_b_append (u ∷ x ∷ []) v o = absurd o
  in_b_append (u ∷ x ∷ z ∷ r) v o = ap (λ (l : List ℕ). (x ⊕ carry arikan z) ∷ l) (in_b_append (z ∷ r) v o)

  pub in_a_snoc² : (w : List ℕ) (x z : ℕ) → Odd w → in_a arikan (w ++ x ∷ [] ++ z ∷ []) ≡ in_a arikan w ++ (last w ⊕ (x ⊕ carry arikan z)) ∷ []
  in_a_snoc² w x z o = rw append_assoc (in_a_append w (x ∷ z ∷ []) o)

  pub in_b_snoc² : (w : List ℕ) (x z : ℕ) → Odd w → in_b arikan (w ++ x ∷ [] ++ z ∷ []) ≡ in_b arikan w ++ (x ⊕ carry arikan z) ∷ []
  in_b_snoc² w x z o = rw append_assoc (in_b_append w (x ∷ z ∷ []) o)

  pub length_in_a : (u : List ℕ) → length (in_a arikan u) ≡ half (length u)
  length_in_a [] = refl
  length_in_a (x ∷ []) = refl
  length_in_a (x ∷ y ∷ []) = refl
  length_in_a (x ∷ y ∷ z ∷ r) = ap suc (length_in_a (z ∷ r))

  pub length_in_b : (u : List ℕ) → length (in_b arikan u) ≡ half (length u)
  length_in_b [] = refl
  length_in_b (x ∷ []) = refl
  length_in_b (x ∷ y ∷ []) = refl
  length_in_b (x ∷ y ∷ z ∷ r) = ap suc (length_in_b (z ∷ r))

  -- the transform of a word is as long as that of any other word of its length
  pub length_places² : (m : ℕ) (u v : List ℕ) → length u ≡ length v → length (by_places arikan m u) ≡ length (by_places arikan m v)
  unfolding by_places
  length_places² zero u v e = e
  length_places² (suc m) u v e =
      length_interleave (by_places arikan m (in_a arikan u)) (by_places arikan m (in_b arikan u)) (length_places² m (in_a arikan u) (in_b arikan u) (cc (length_in_a u, length_in_b u)))
      ∙ ap double (length_places² m (in_a arikan u) (in_a arikan v) (cc (length_in_a u, length_in_a v)))
      ∙ sym (length_interleave (by_places arikan m (in_a arikan v)) (by_places arikan m (in_b arikan v)) (length_places² m (in_a arikan v) (in_b arikan v) (cc (length_in_a v, length_in_b v))))

  pub length_places : (m : ℕ) (u : List ℕ) → length u ≡ 2 ^ m → length (by_places arikan m u) ≡ 2 ^ m
  unfolding by_places
  length_places zero u e = e
  length_places (suc m) u e =
      length_interleave (by_places arikan m (in_a arikan u)) (by_places arikan m (in_b arikan u)) (length_places² m (in_a arikan u) (in_b arikan u) (cc (length_in_a u, length_in_b u)))
      ∙ ap double (length_places m (in_a arikan u) (length_in_a u ∙ half_length m u e))
      ∙ sym (pow_double m)

  pub word_cost_layer : (m : ℕ) (y : List ℤ) (u : List ℕ)
      → word_cost y (by_places arikan (suc m) u) ≡ word_cost (evens y) (by_places arikan m (in_a arikan u)) + word_cost (odds y) (by_places arikan m (in_b arikan u))
  unfolding by_places
  word_cost_layer m y u =
      word_cost_interleave y (by_places arikan m (in_a arikan u)) (by_places arikan m (in_b arikan u)) (length_places² m (in_a arikan u) (in_b arikan u) (cc (length_in_a u, length_in_b u)))

  module _ (m : ℕ) (y : List ℤ) where
    -- what the halves cost, of an odd prefix w whose next b-bit is t, with j free bits after that in each half
    abbrev pub halves : ℕ → List ℕ → ℕ → ℕ
    halves j w t = least_cost (by_places arikan m) j (evens y) (in_a arikan w ++ (last w ⊕ t) ∷ []) + least_cost (by_places arikan m) j (odds y) (in_b arikan w ++ t ∷ [])

    -- the halves two bits on, by the next entry s of b, and the entries c of a and t of b after that
    abbrev at_a : ℕ → List ℕ → ℕ → ℕ → ℕ
    at_a j w s c = least_cost (by_places arikan m) j (evens y) (in_a arikan w ++ (last w ⊕ s) ∷ [] ++ c ∷ [])

    abbrev at_b : ℕ → List ℕ → ℕ → ℕ → ℕ
    at_b j w s t = least_cost (by_places arikan m) j (odds y) (in_b arikan w ++ s ∷ [] ++ t ∷ [])

    halves_snoc² : (j : ℕ) (w : List ℕ) (x z : ℕ) → Odd w → least (halves j (w ++ x ∷ [] ++ z ∷ [])) ≡ pair arikan (at_a j w) (at_b j w) x z
    halves_snoc² j w x z o = rw (in_a_snoc² w x z o, in_b_snoc² w x z o, last_snoc (w ++ x ∷ []) z)

    full : (w : List ℕ) (t : ℕ) → Odd w → least_cost (by_places arikan (suc m)) zero y (w ++ t ∷ []) ≡ halves zero w t
    unfolding least_cost
    full w t o = word_cost_layer m y (w ++ t ∷ []) ∙ rw (in_a_append w (t ∷ []) o, in_b_append w (t ∷ []) o)

    pub layer_k : (j : ℕ) (w : List ℕ) → Odd w → least_cost (by_places arikan (suc m)) (suc (double j)) y w ≡ least (halves j w)
    unfolding least_cost
    layer_k zero w o = ap₂ min (full w 0 o) (full w 1 o)
    layer_k (suc j) w o =
        let ih : (x z : ℕ) → least_cost (by_places arikan (suc m)) (suc (double j)) y (w ++ x ∷ [] ++ z ∷ []) ≡ pair arikan (at_a j w) (at_b j w) x z
        = λ x z. layer_k j (w ++ x ∷ [] ++ z ∷ []) (odd_snoc² w x z o) ∙ halves_snoc² j w x z o in
        ap₂ min (ap₂ min (ih 0 0) (ih 0 1)) (ap₂ min (ih 1 0) (ih 1 1))
        ∙ pairs_split arikan (at_a j w) (at_b j w)

  pub layer : (m : ℕ) (y : List ℤ) (w : List ℕ) → Odd w → length w < 2 ^ suc m
      → cost arikan (suc m) y w ≡ least (λ t. cost arikan m (evens y) (in_a arikan w ++ (last w ⊕ t) ∷ []) + cost arikan m (odds y) (in_b arikan w ++ t ∷ []))
  unfolding cost
  layer m y w o h =
      let i : ℕ = half (length w) in
      let j : ℕ = 2 ^ m - suc i in
      let e_w : 2 ^ suc m - length w ≡ suc (double j) = omega (arith, length_odd w o, double_is j) in
      let e_a : (t : ℕ) → 2 ^ m - length (in_a arikan w ++ t ∷ []) ≡ j = λ t. rw (length-append (in_a arikan w) (t ∷ []), length_in_a w) (omega arith) in
      let e_b : (t : ℕ) → 2 ^ m - length (in_b arikan w ++ t ∷ []) ≡ j = λ t. rw (length-append (in_b arikan w) (t ∷ []), length_in_b w) (omega arith) in
      rw (e_w, e_a (last w), e_a (flip (last w)), e_b 0, e_b 1) (layer_k m y j w o)

  pub layer_full : (m : ℕ) (y : List ℤ) (u : List ℕ) → length u ≡ 2 ^ suc m
      → cost arikan (suc m) y u ≡ cost arikan m (evens y) (in_a arikan u) + cost arikan m (odds y) (in_b arikan u)
  unfolding cost least_cost
  layer_full m y u e =
      let e_u : 2 ^ suc m - length u ≡ 0 = omega arith in
      let e_a : 2 ^ m - length (in_a arikan u) ≡ 0 = rw (length_in_a u, half_length m u e) (omega arith) in
      let e_b : 2 ^ m - length (in_b arikan u) ≡ 0 = rw (length_in_b u, half_length m u e) (omega arith) in
      rw (e_u, e_a, e_b) (word_cost_layer m y u)

  empty_k : (m j : ℕ) → suc j ≡ 2 ^ m → (y : List ℤ) → least_cost (by_places arikan m) (suc j) y [] ≡ 0
  unfolding least_cost by_places
  empty_k zero zero e [] = refl
  empty_k zero zero e (pos n ∷ y) = omega (arith, word_cost_nil y)
  empty_k zero zero e (negsuc n ∷ y) = omega (arith, word_cost_nil y)
  empty_k zero (suc j) e y = absurd (omega arith)
  empty_k (suc m) j e y =
      let j' : ℕ = 2 ^ m - 1 in
      let e' : suc j' ≡ 2 ^ m = suc_ones m in
      let ej : j ≡ suc (double j') = omega (arith, double_is j') in
      rw ej (ap₂ min (layer_k m y j' (0 ∷ []) tt) (layer_k m y j' (1 ∷ []) tt)
      ∙ min_split (least_cost (by_places arikan m) j' (evens y) (0 ∷ [])) (least_cost (by_places arikan m) j' (evens y) (1 ∷ [])) (least_cost (by_places arikan m) j' (odds y) (0 ∷ [])) (least_cost (by_places arikan m) j' (odds y) (1 ∷ []))
      ∙ ap₂ ◌+◌ (empty_k m j' e' (evens y)) (empty_k m j' e' (odds y)))

  pub cost_empty : (m : ℕ) (y : List ℤ) → cost arikan m y [] ≡ 0
  unfolding cost
  cost_empty m y =
      let e : 2 ^ m - 0 ≡ suc (2 ^ m - 1) = omega (arith, pow_pos m) in
      rw e (empty_k m (2 ^ m - 1) (suc_ones m) y)
