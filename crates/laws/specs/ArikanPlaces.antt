-- Arikan's transform, which is defined by halves, by even and odd places: on words of bits both are the same map.
use Rattle.std.specs.Prelude.{◌≡◌, refl, true, List, [], ◌∷◌, ◌++◌, ℕ, zero, suc, ◌^◌, ◌<◌, min, length, take, drop}
use Rattle.std.proofs.Common.{sym, ap, ap₂, ◌∙◌, arith, length-append, length-take, length-drop, take-append-drop, take_at, drop_at}
use Rattle.std.proofs.Math.Nat.{suc_inj}
use Rattle.spec.specs.Bits.{◌⊕◌, Bits, nil, cons}
use Rattle.spec.specs.Transform.{interleave, evens, odds, added, arikan_transform}
use Rattle.laws.specs.BitLaws.{⊕-lt, ⊕-assoc, ⊕-comm, bits_take, bits_drop}
use Rattle.laws.specs.Places.{carry_none, in_a, in_b, by_places}
use Rattle.laws.specs.Layer.{double, pow_double}
use Rattle.laws.specs.Inverse.{length_evens, length_odds, bits_evens, bits_odds}

-- four bits, summed in pairs
pub ⊕-swap : (a b c d : ℕ) → a < 2 → b < 2 → c < 2 → d < 2 → (a ⊕ b) ⊕ (c ⊕ d) ≡ (a ⊕ c) ⊕ (b ⊕ d)
⊕-swap a b c d ha hb hc hd =
    ⊕-assoc a b (c ⊕ d) ha
    ∙ ap (λ (z : ℕ). a ⊕ z) (sym (⊕-assoc b c d hb) ∙ ap (λ (z : ℕ). z ⊕ d) (⊕-comm b c hb hc) ∙ ⊕-assoc c b d hc)
    ∙ sym (⊕-assoc a c (b ⊕ d) ha)

-- a sum is as long as the shorter of the two
pub length_sum : (v w : List ℕ) → length (added v w) ≡ min (length v) (length w)
length_sum [] w = omega arith
length_sum (x ∷ v) [] = omega arith
length_sum (x ∷ v) (y ∷ w) = omega (arith, length_sum v w)

pub length_added : (v w : List ℕ) → length v ≡ length w → length (added v w) ≡ length v
length_added v w e = omega (arith, length_sum v w)

evens_append : (n : ℕ) (v w : List ℕ) → length v ≡ double n → evens (v ++ w) ≡ evens v ++ evens w
evens_append zero [] w e = refl
evens_append (suc n) [] w e = absurd (omega (arith, e))
evens_append zero (x ∷ v) w e = absurd (omega (arith, e))
evens_append (suc n) (x ∷ []) w e = absurd (omega (arith, e))
evens_append (suc n) (x ∷ y ∷ v) w e = ap (λ (l : List ℕ). x ∷ l) (evens_append n v w (suc_inj (suc_inj e)))

odds_append : (n : ℕ) (v w : List ℕ) → length v ≡ double n → odds (v ++ w) ≡ odds v ++ odds w
odds_append zero [] w e = refl
odds_append (suc n) [] w e = absurd (omega (arith, e))
odds_append zero (x ∷ v) w e = absurd (omega (arith, e))
odds_append (suc n) (x ∷ []) w e = absurd (omega (arith, e))
odds_append (suc n) (x ∷ y ∷ v) w e = ap (λ (l : List ℕ). y ∷ l) (odds_append n v w (suc_inj (suc_inj e)))

pub added_append : (a b c d : List ℕ) → length a ≡ length c → added (a ++ b) (c ++ d) ≡ added a c ++ added b d
added_append [] b [] d e = refl
added_append [] b (y ∷ c) d e = absurd (omega (arith, e))
added_append (x ∷ a) b [] d e = absurd (omega (arith, e))
added_append (x ∷ a) b (y ∷ c) d e = ap (λ (l : List ℕ). (x ⊕ y) ∷ l) (added_append a b c d (suc_inj e))

pub evens_added : (v w : List ℕ) → length v ≡ length w → evens (added v w) ≡ added (evens v) (evens w)
evens_added [] w e = refl
evens_added (x ∷ []) [] e = absurd (omega (arith, e))
evens_added (x ∷ []) (y ∷ []) e = refl
evens_added (x ∷ []) (y ∷ z ∷ w) e = absurd (omega (arith, e))
evens_added (x ∷ a ∷ v) [] e = absurd (omega (arith, e))
evens_added (x ∷ a ∷ v) (y ∷ []) e = absurd (omega (arith, e))
evens_added (x ∷ a ∷ v) (y ∷ b ∷ w) e = ap (λ (l : List ℕ). (x ⊕ y) ∷ l) (evens_added v w (suc_inj (suc_inj e)))

odds_added : (v w : List ℕ) → length v ≡ length w → odds (added v w) ≡ added (odds v) (odds w)
odds_added [] w e = refl
odds_added (x ∷ []) [] e = absurd (omega (arith, e))
odds_added (x ∷ []) (y ∷ []) e = refl
odds_added (x ∷ []) (y ∷ z ∷ w) e = absurd (omega (arith, e))
odds_added (x ∷ a ∷ v) [] e = absurd (omega (arith, e))
odds_added (x ∷ a ∷ v) (y ∷ []) e = absurd (omega (arith, e))
odds_added (x ∷ a ∷ v) (y ∷ b ∷ w) e = ap (λ (l : List ℕ). (a ⊕ b) ∷ l) (odds_added v w (suc_inj (suc_inj e)))

pub added_swap_any : {a b c d : List ℕ} → Bits a → Bits b → Bits c → Bits d → added (added a b) (added c d) ≡ added (added a c) (added b d)
added_swap_any nil u v t = refl
added_swap_any (cons p s) nil nil t = refl
added_swap_any (cons p s) nil (cons r v) t = refl
added_swap_any (cons p s) (cons q u) nil t = refl
added_swap_any (cons p s) (cons q u) (cons r v) nil = refl
added_swap_any (cons {x = w} p s) (cons {x = x} q u) (cons {x = y} r v) (cons {x = z} o t) =
    ap₂ (λ (h : ℕ) (l : List ℕ). h ∷ l) (⊕-swap w x y z p q r o) (added_swap_any s u v t)

-- the same of words of one length
pub added_swap : {a b c d : List ℕ} → Bits a → Bits b → Bits c → Bits d → length a ≡ length b → length a ≡ length c → length a ≡ length d
    → added (added a b) (added c d) ≡ added (added a c) (added b d)
added_swap s t u v e f g = added_swap_any s t u v

interleave_append : (p q p' q' : List ℕ) → length p ≡ length q → interleave (p ++ p') (q ++ q') ≡ interleave p q ++ interleave p' q'
interleave_append [] [] p' q' e = refl
interleave_append [] (b ∷ q) p' q' e = absurd (omega (arith, e))
interleave_append (a ∷ p) [] p' q' e = absurd (omega (arith, e))
interleave_append (a ∷ p) (b ∷ q) p' q' e = ap (λ (l : List ℕ). a ∷ b ∷ l) (interleave_append p q p' q' (suc_inj e))

pub bits_added : {v w : List ℕ} → Bits v → Bits w → Bits (added v w)
bits_added nil t = nil
bits_added (cons a s) nil = nil
bits_added (cons {x = x} a s) (cons {x = y} b t) = cons (⊕-lt x y a) (bits_added s t)

pub arikan_halves : (m : ℕ) (v w : List ℕ) → length v ≡ 2 ^ m → arikan_transform (suc m) (v ++ w) ≡ arikan_transform m (added v w) ++ arikan_transform m w
unfolding arikan_transform
arikan_halves m v w e = rw (take_at v w (2 ^ m) e, drop_at v w (2 ^ m) e)

pub length_arikan : (m : ℕ) (u : List ℕ) → length u ≡ 2 ^ m → length (arikan_transform m u) ≡ 2 ^ m
unfolding arikan_transform
length_arikan zero u e = e
length_arikan (suc m) u e =
    let v : List ℕ = take (2 ^ m) u in
    let w : List ℕ = drop (2 ^ m) u in
    let ev : length v ≡ 2 ^ m = omega (arith, length-take (2 ^ m) u) in
    let ew : length w ≡ 2 ^ m = omega (arith, length-drop (2 ^ m) u) in
    omega (arith, length-append (arikan_transform m (added v w)) (arikan_transform m w), length_arikan m (added v w) (length_added v w (ev ∙ sym ew) ∙ ev), length_arikan m w ew)

-- the even places hold the transform of a, the odd ones that of b
pub arikan_places : (m : ℕ) (u : List ℕ) → Bits u → length u ≡ 2 ^ suc m
    → arikan_transform (suc m) u ≡ interleave (arikan_transform m (added (evens u) (odds u))) (arikan_transform m (odds u))
unfolding arikan_transform
arikan_places zero [] t e = absurd (omega (arith, e))
arikan_places zero (x ∷ []) t e = absurd (omega (arith, e))
arikan_places zero (x ∷ y ∷ []) t e = refl
arikan_places zero (x ∷ y ∷ z ∷ r) t e = absurd (omega (arith, e))
arikan_places (suc m) u t e =
    let h : ℕ = 2 ^ suc m in
    let v : List ℕ = take h u in
    let w : List ℕ = drop h u in
    let ev : length v ≡ h = omega (arith, length-take h u) in
    let ew : length w ≡ h = omega (arith, length-drop h u) in
    let vw : length v ≡ length w = ev ∙ sym ew in
    let dv : length v ≡ double (2 ^ m) = ev ∙ pow_double m in
    let dw : length w ≡ double (2 ^ m) = ew ∙ pow_double m in
    let tv : Bits v = bits_take t h in
    let tw : Bits w = bits_drop t h in
    let lev = length_evens (2 ^ m) v dv in
    let lov = length_odds (2 ^ m) v dv in
    let lew = length_evens (2 ^ m) w dw in
    let low = length_odds (2 ^ m) w dw in
    let va : List ℕ = added (evens v) (odds v) in
    let wa : List ℕ = added (evens w) (odds w) in
    let sum : List ℕ = added v w in
    let lsum : length sum ≡ h = length_added v w vw ∙ ev in
    let ih₁ = arikan_places m sum (bits_added tv tw) lsum in
    let ih₂ = arikan_places m w tw ew in
    let ea : added (evens sum) (odds sum) ≡ added va wa
    = ap₂ added (evens_added v w vw) (odds_added v w vw)
    ∙ added_swap_any (bits_evens tv) (bits_evens tw) (bits_odds tv) (bits_odds tw) in
    let lva : length va ≡ 2 ^ m = length_added (evens v) (odds v) (lev ∙ sym lov) ∙ lev in
    let lwa : length wa ≡ 2 ^ m = length_added (evens w) (odds w) (lew ∙ sym low) ∙ lew in
    let X₁ : List ℕ = arikan_transform m (added va wa) in
    let Y₁ : List ℕ = arikan_transform m (added (odds v) (odds w)) in
    let X₂ : List ℕ = arikan_transform m wa in
    let Y₂ : List ℕ = arikan_transform m (odds w) in
    let l_x : length X₁ ≡ 2 ^ m = length_arikan m (added va wa) (length_added va wa (lva ∙ sym lwa) ∙ lva) in
    let l_y : length Y₁ ≡ 2 ^ m = length_arikan m (added (odds v) (odds w)) (length_added (odds v) (odds w) (lov ∙ sym low) ∙ lov) in
    let eu : v ++ w ≡ u = take-append-drop h u in
    let e_a : added (evens u) (odds u) ≡ va ++ wa
    = ap (λ (z : List ℕ). added (evens z) (odds z)) (sym eu) ∙ ap₂ added (evens_append (2 ^ m) v w dv) (odds_append (2 ^ m) v w dv)
    ∙ added_append (evens v) (evens w) (odds v) (odds w) (lev ∙ sym lov) in
    let e_b : odds u ≡ odds v ++ odds w = ap odds (sym eu) ∙ odds_append (2 ^ m) v w dv in
    ap₂ ◌++◌ (ih₁ ∙ ap₂ (λ (a b : List ℕ). interleave (arikan_transform m a) (arikan_transform m b)) ea (odds_added v w vw)) ih₂
    ∙ sym (interleave_append X₁ Y₁ X₂ Y₂ (l_x ∙ sym l_y))
    ∙ ap₂ interleave (sym (ap (arikan_transform (suc m)) e_a ∙ arikan_halves m va wa lva)) (sym (ap (arikan_transform (suc m)) e_b ∙ arikan_halves m (odds v) (odds w) lov))

-- with no carry a is the sum of the even and the odd places, and b the odd ones
in_a_added : (n : ℕ) (u : List ℕ) → length u ≡ double n → in_a true u ≡ added (evens u) (odds u)
in_a_added zero [] e = refl
in_a_added (suc n) [] e = absurd (omega (arith, e))
in_a_added zero (x ∷ r) e = absurd (omega (arith, e))
in_a_added (suc n) (x ∷ []) e = absurd (omega (arith, e))
in_a_added (suc n) (x ∷ y ∷ []) e = refl
in_a_added (suc n) (x ∷ y ∷ z ∷ r) e = ap₂ (λ (b : ℕ) (l : List ℕ). (x ⊕ (y ⊕ b)) ∷ l) (carry_none z) (in_a_added n (z ∷ r) (suc_inj (suc_inj e)))

in_b_odds : (n : ℕ) (u : List ℕ) → length u ≡ double n → in_b true u ≡ odds u
in_b_odds zero [] e = refl
in_b_odds (suc n) [] e = absurd (omega (arith, e))
in_b_odds zero (x ∷ r) e = absurd (omega (arith, e))
in_b_odds (suc n) (x ∷ []) e = absurd (omega (arith, e))
in_b_odds (suc n) (x ∷ y ∷ []) e = refl
in_b_odds (suc n) (x ∷ y ∷ z ∷ r) e = ap₂ (λ (b : ℕ) (l : List ℕ). (y ⊕ b) ∷ l) (carry_none z) (in_b_odds n (z ∷ r) (suc_inj (suc_inj e)))

pub places_arikan : (m : ℕ) (u : List ℕ) → Bits u → length u ≡ 2 ^ m → by_places true m u ≡ arikan_transform m u
unfolding by_places arikan_transform
places_arikan zero u t e = refl
places_arikan (suc m) u t e =
    let d : length u ≡ double (2 ^ m) = e ∙ pow_double m in
    let le = length_evens (2 ^ m) u d in
    let lo = length_odds (2 ^ m) u d in
    ap₂ (λ (a b : List ℕ). interleave (by_places true m a) (by_places true m b)) (in_a_added (2 ^ m) u d) (in_b_odds (2 ^ m) u d)
    ∙ ap₂ interleave (places_arikan m (added (evens u) (odds u)) (bits_added (bits_evens t) (bits_odds t)) (length_added (evens u) (odds u) (le ∙ sym lo) ∙ le))
    (places_arikan m (odds u) (bits_odds t) lo)
    ∙ sym (arikan_places m u t e)
