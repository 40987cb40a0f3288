-- The inverse of the convolutional transform: on words of 2 ^ m bits the two undo each other.
use Rattle.std.specs.Prelude.{◌≡◌, refl, List, [], ◌∷◌, false, ℕ, zero, suc, ◌^◌, length}
use Rattle.std.proofs.Common.{sym, ap, ap₂, subst, ◌∙◌, arith}
use Rattle.std.proofs.Math.Nat.{suc_inj}
use Rattle.spec.specs.Bits.{◌⊕◌, Bits, nil, cons}
use Rattle.spec.specs.Transform.{input_a, input_b, interleave, evens, odds, first_bit, joined, transform, inverse}
use Rattle.laws.specs.BitLaws.{⊕-lt, ⊕-twice}
use Rattle.laws.specs.Places.{in_a_is, in_b_is, places_transform, bits_in_a, bits_in_b}
use Rattle.laws.specs.Layer.{double, half, pow_double, half_length, length_in_a, length_in_b, length_places, length_places²}

-- ---- what holds of the layer rule of both transforms, of the definition of this one
pub length_input_a : (u : List ℕ) → length (input_a u) ≡ half (length u)
length_input_a u = ap length (sym (in_a_is u)) ∙ length_in_a false u

pub length_input_b : (u : List ℕ) → length (input_b u) ≡ half (length u)
length_input_b u = ap length (sym (in_b_is u)) ∙ length_in_b false u

pub bits_input_a : {u : List ℕ} → Bits u → Bits (input_a u)
bits_input_a {u} p = subst Bits (in_a_is u) (bits_in_a false p)

pub bits_input_b : {u : List ℕ} → Bits u → Bits (input_b u)
bits_input_b {u} p = subst Bits (in_b_is u) (bits_in_b false p)

length_transform² : (m : ℕ) (u v : List ℕ) → length u ≡ length v → length (transform m u) ≡ length (transform m v)
length_transform² m u v e = ap length (sym (places_transform m u)) ∙ length_places² false m u v e ∙ ap length (places_transform m v)

pub length_transform : (m : ℕ) (u : List ℕ) → length u ≡ 2 ^ m → length (transform m u) ≡ 2 ^ m
length_transform m u e = ap length (sym (places_transform m u)) ∙ length_places false m u e

-- ---- interleaving and the even and odd places undo each other
pub evens_interleave : (p q : List ℕ) → length p ≡ length q → evens (interleave p q) ≡ p
evens_interleave [] q e = refl
evens_interleave (a ∷ p) [] e = absurd (omega (arith, e))
evens_interleave (a ∷ p) (b ∷ q) e = ap (λ (l : List ℕ). a ∷ l) (evens_interleave p q (suc_inj e))

pub odds_interleave : (p q : List ℕ) → length p ≡ length q → odds (interleave p q) ≡ q
odds_interleave [] [] e = refl
odds_interleave [] (b ∷ q) e = absurd (omega (arith, e))
odds_interleave (a ∷ p) [] e = absurd (omega (arith, e))
odds_interleave (a ∷ p) (b ∷ q) e = ap (λ (l : List ℕ). b ∷ l) (odds_interleave p q (suc_inj e))

pub interleave_places : (n : ℕ) (c : List ℕ) → length c ≡ double n → interleave (evens c) (odds c) ≡ c
interleave_places n [] e = refl
interleave_places zero (x ∷ r) e = absurd (omega (arith, e))
interleave_places (suc n) (x ∷ []) e = absurd (omega (arith, e))
interleave_places (suc n) (x ∷ y ∷ r) e = ap (λ (l : List ℕ). x ∷ y ∷ l) (interleave_places n r (suc_inj (suc_inj e)))

pub length_evens : {A : Type 0} (n : ℕ) (c : List A) → length c ≡ double n → length (evens c) ≡ n
length_evens zero [] e = refl
length_evens (suc n) [] e = absurd (omega (arith, e))
length_evens zero (x ∷ r) e = absurd (omega (arith, e))
length_evens (suc n) (x ∷ []) e = absurd (omega (arith, e))
length_evens (suc n) (x ∷ y ∷ r) e = ap suc (length_evens n r (suc_inj (suc_inj e)))

pub length_odds : {A : Type 0} (n : ℕ) (c : List A) → length c ≡ double n → length (odds c) ≡ n
length_odds zero [] e = refl
length_odds (suc n) [] e = absurd (omega (arith, e))
length_odds zero (x ∷ r) e = absurd (omega (arith, e))
length_odds (suc n) (x ∷ []) e = absurd (omega (arith, e))
length_odds (suc n) (x ∷ y ∷ r) e = ap suc (length_odds n r (suc_inj (suc_inj e)))

pub bits_evens : {c : List ℕ} → Bits c → Bits (evens c)
bits_evens nil = nil
bits_evens (cons a nil) = cons a nil
bits_evens (cons a (cons b p)) = cons a (bits_evens p)

pub bits_odds : {c : List ℕ} → Bits c → Bits (odds c)
bits_odds nil = nil
bits_odds (cons a nil) = nil
bits_odds (cons a (cons b p)) = cons b (bits_odds p)

pub bits_interleave : {p q : List ℕ} → Bits p → Bits q → Bits (interleave p q)
bits_interleave nil t = nil
bits_interleave (cons a s) nil = nil
bits_interleave (cons a s) (cons b t) = cons a (cons b (bits_interleave s t))

-- ---- a layer's inputs and the word joined from them undo each other
pub length_joined : (p q : List ℕ) → length p ≡ length q → length (joined p q) ≡ double (length p)
length_joined [] q e = refl
length_joined (a ∷ p) [] e = absurd (omega (arith, e))
length_joined (a ∷ p) (b ∷ q) e = ap (λ (n : ℕ). suc (suc n)) (length_joined p q (suc_inj e))

pub bits_joined : {p q : List ℕ} → Bits p → Bits q → Bits (joined p q)
bits_joined nil t = nil
bits_joined (cons a s) nil = nil
bits_joined (cons {x = a} {w = p} ha s) (cons {x = b} {w = q} hb t) =
    cons (⊕-lt a b ha) (cons (⊕-lt b (first_bit (joined p q)) hb) (bits_joined s t))

-- two bits in front of a word put one entry in front of each of its inputs
pub input_a_cons : (x y : ℕ) (w : List ℕ) → input_a (x ∷ y ∷ w) ≡ (x ⊕ (y ⊕ first_bit w)) ∷ input_a w
input_a_cons x y [] = refl
input_a_cons x y (z ∷ r) = refl

pub input_b_cons : (x y : ℕ) (w : List ℕ) → input_b (x ∷ y ∷ w) ≡ (y ⊕ first_bit w) ∷ input_b w
input_b_cons x y [] = refl
input_b_cons x y (z ∷ r) = refl

pub joined_inputs : {u : List ℕ} (n : ℕ) → Bits u → length u ≡ double n → joined (input_a u) (input_b u) ≡ u
joined_inputs n nil e = refl
joined_inputs zero (cons a p) e = absurd (omega (arith, e))
joined_inputs (suc n) (cons a nil) e = absurd (omega (arith, e))
joined_inputs (suc n) (cons {x = x} a (cons {x = y} {w = w} b p)) e =
    rw (input_a_cons x y w, input_b_cons x y w, joined_inputs n p (suc_inj (suc_inj e)), ⊕-twice x (y ⊕ first_bit w) a, ⊕-twice y (first_bit w) b)

pub input_a_joined : {p q : List ℕ} → Bits p → Bits q → length p ≡ length q → input_a (joined p q) ≡ p
input_a_joined nil t e = refl
input_a_joined (cons a s) nil e = absurd (omega (arith, e))
input_a_joined (cons {x = a} {w = p} ha s) (cons {x = b} {w = q} hb t) e =
    rw (input_a_cons (a ⊕ b) (b ⊕ first_bit (joined p q)) (joined p q), ⊕-twice b (first_bit (joined p q)) hb, ⊕-twice a b ha, input_a_joined s t (suc_inj e))

pub input_b_joined : {p q : List ℕ} → Bits p → Bits q → length p ≡ length q → input_b (joined p q) ≡ q
input_b_joined nil nil e = refl
input_b_joined nil (cons b t) e = absurd (omega (arith, e))
input_b_joined (cons a s) nil e = absurd (omega (arith, e))
input_b_joined (cons {x = a} {w = p} ha s) (cons {x = b} {w = q} hb t) e =
    rw (input_b_cons (a ⊕ b) (b ⊕ first_bit (joined p q)) (joined p q), ⊕-twice b (first_bit (joined p q)) hb, input_b_joined s t (suc_inj e))

-- ---- words of 2 ^ m bits
pub length_input_a_pow : (m : ℕ) (u : List ℕ) → length u ≡ 2 ^ suc m → length (input_a u) ≡ 2 ^ m
length_input_a_pow m u e = length_input_a u ∙ half_length m u e

pub length_input_b_pow : (m : ℕ) (u : List ℕ) → length u ≡ 2 ^ suc m → length (input_b u) ≡ 2 ^ m
length_input_b_pow m u e = length_input_b u ∙ half_length m u e

pub length_inverse : (m : ℕ) (c : List ℕ) → length c ≡ 2 ^ m → length (inverse m c) ≡ 2 ^ m
unfolding inverse
length_inverse zero c e = e
length_inverse (suc m) c e =
    let d : length c ≡ double (2 ^ m) = e ∙ pow_double m in
    let a : length (inverse m (evens c)) ≡ 2 ^ m = length_inverse m (evens c) (length_evens (2 ^ m) c d) in
    let b : length (inverse m (odds c)) ≡ 2 ^ m = length_inverse m (odds c) (length_odds (2 ^ m) c d) in
    length_joined (inverse m (evens c)) (inverse m (odds c)) (a ∙ sym b) ∙ ap double a ∙ sym (pow_double m)

pub bits_transform : (m : ℕ) {u : List ℕ} → Bits u → Bits (transform m u)
unfolding transform
bits_transform zero p = p
bits_transform (suc m) p = bits_interleave (bits_transform m (bits_input_a p)) (bits_transform m (bits_input_b p))

pub bits_inverse : (m : ℕ) {c : List ℕ} → Bits c → Bits (inverse m c)
unfolding inverse
bits_inverse zero p = p
bits_inverse (suc m) p = bits_joined (bits_inverse m (bits_evens p)) (bits_inverse m (bits_odds p))

pub inverse_transform : (m : ℕ) (u : List ℕ) → Bits u → length u ≡ 2 ^ m → inverse m (transform m u) ≡ u
unfolding transform inverse
inverse_transform zero u p e = refl
inverse_transform (suc m) u p e =
    let l : length (transform m (input_a u)) ≡ length (transform m (input_b u)) = length_transform² m (input_a u) (input_b u) (cc (length_input_a u, length_input_b u)) in
    ap₂ (λ (a b : List ℕ). joined (inverse m a) (inverse m b)) (evens_interleave (transform m (input_a u)) (transform m (input_b u)) l)
    (odds_interleave (transform m (input_a u)) (transform m (input_b u)) l)
    ∙ ap₂ joined (inverse_transform m (input_a u) (bits_input_a p) (length_input_a_pow m u e)) (inverse_transform m (input_b u) (bits_input_b p) (length_input_b_pow m u e))
    ∙ joined_inputs (2 ^ m) p (e ∙ pow_double m)

pub transform_inverse : (m : ℕ) (c : List ℕ) → Bits c → length c ≡ 2 ^ m → transform m (inverse m c) ≡ c
unfolding transform inverse
transform_inverse zero c p e = refl
transform_inverse (suc m) c p e =
    let d : length c ≡ double (2 ^ m) = e ∙ pow_double m in
    let la : length (evens c) ≡ 2 ^ m = length_evens (2 ^ m) c d in
    let lb : length (odds c) ≡ 2 ^ m = length_odds (2 ^ m) c d in
    let a : Bits (inverse m (evens c)) = bits_inverse m (bits_evens p) in
    let b : Bits (inverse m (odds c)) = bits_inverse m (bits_odds p) in
    let l : length (inverse m (evens c)) ≡ length (inverse m (odds c)) = length_inverse m (evens c) la ∙ sym (length_inverse m (odds c) lb) in
    ap₂ (λ (a b : List ℕ). interleave (transform m a) (transform m b)) (input_a_joined a b l) (input_b_joined a b l)
    ∙ ap₂ interleave (transform_inverse m (evens c) (bits_evens p) la) (transform_inverse m (odds c) (bits_odds p) lb)
    ∙ interleave_places (2 ^ m) c d
