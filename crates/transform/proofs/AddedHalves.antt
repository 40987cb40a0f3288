-- Arikan's transform in place: four bits at once, the loop that adds the second half to the first, and what a call on each half, one after
-- the other, leaves. Assumes nothing.
use mathlib.Core.Path.{◌≡◌, refl, sym, ap, ap₂, ◌∙◌}
use mathlib.Core.List.{List, [], ◌∷◌, ◌++◌}
use Prim.Native.Nat.{ℕ, zero, suc, ◌+◌, ◌-◌, ◌/◌, ◌^◌, ◌≤◌, ◌<◌}
use native.Mathlib.Nat.{le_of_suc-le-suc, not-suc-le-zero, add_comm}
use native.Mathlib.Numerals.{add-one}
use native.Mathlib.Omega.{arith}
use lib.ListN.{length, take, drop, get_or, set, length-take, length-drop}
use lib.Seq.{drop-cons, get_or_at, get_or-append-add, get_or-drop, set_at, append_snoc, take_at, drop_at}
use lib.Bits.{bit_xor}
use Rattle.spec.specs.Bits.{◌⊕◌, Bits, nil, cons}
use Rattle.spec.specs.Transform.{added, arikan_transform}
use Rattle.laws.specs.BitLaws.{⊕-lt, ⊕-xor, bits_at, bits_take, bits_drop}
use Rattle.laws.specs.ArikanPlaces.{length_added, bits_added}
use Rattle.transform.specs.Word.{TwoHalves}
use Rattle.transform.proofs.Layers.{doubled}

-- ---- four bits
pub four_polarised : {s : List ℕ} → Bits s → length s ≡ 4
    → let y : ℕ = bit_xor (get_or s 1 0) (get_or s 3 0) in
    set (set (set s 0 (bit_xor (bit_xor (get_or s 0 0) (get_or s 2 0)) y)) 1 y) 2 (bit_xor (get_or s 2 0) (get_or s 3 0)) ≡ arikan_transform 2 s
unfolding arikan_transform
four_polarised nil e = absurd (omega (arith, e))
four_polarised (cons p nil) e = absurd (omega (arith, e))
four_polarised (cons p (cons q nil)) e = absurd (omega (arith, e))
four_polarised (cons p (cons q (cons r nil))) e = absurd (omega (arith, e))
four_polarised (cons p (cons q (cons r (cons t (cons o b))))) e = absurd (omega (arith, e))
four_polarised (cons {x = a} p (cons {x = b} q (cons {x = c} r (cons {x = d} t nil)))) e =
    let x : bit_xor a c ≡ a ⊕ c = sym (⊕-xor a c p r) in
    let y : bit_xor b d ≡ b ⊕ d = sym (⊕-xor b d q t) in
    let z : bit_xor (bit_xor a c) (bit_xor b d) ≡ (a ⊕ c) ⊕ (b ⊕ d)
    = ap₂ bit_xor x y ∙ sym (⊕-xor (a ⊕ c) (b ⊕ d) (⊕-lt a c p) (⊕-lt b d q)) in
    ap₂ (λ (i j : ℕ). i ∷ j ∷ bit_xor c d ∷ d ∷ []) z y
    ∙ ap (λ (k : ℕ). ((a ⊕ c) ⊕ (b ⊕ d)) ∷ (b ⊕ d) ∷ k ∷ d ∷ []) (sym (⊕-xor c d r t))

-- ---- the loop: the first i places hold the sums
length_sums : (i : ℕ) (a b : List ℕ) → i ≤ length a → i ≤ length b → length (added (take i a) b) ≡ i
length_sums zero a b h k = refl
length_sums (suc i) [] b h k = absurd (not-suc-le-zero h)
length_sums (suc i) (x ∷ a) [] h k = absurd (not-suc-le-zero k)
length_sums (suc i) (x ∷ a) (y ∷ b) h k = ap suc (length_sums i a b (le_of_suc-le-suc h) (le_of_suc-le-suc k))

-- one sum more
sums_more : (i : ℕ) (a b : List ℕ) → i < length a → i < length b
    → added (take (suc i) a) b ≡ added (take i a) b ++ ((get_or a i 0 ⊕ get_or b i 0) ∷ [])
sums_more i [] b h k = absurd (not-suc-le-zero h)
sums_more i (x ∷ a) [] h k = absurd (not-suc-le-zero k)
sums_more zero (x ∷ a) (y ∷ b) h k = refl
sums_more (suc i) (x ∷ a) (y ∷ b) h k = ap (λ (l : List ℕ). (x ⊕ y) ∷ l) (sums_more i a b (le_of_suc-le-suc h) (le_of_suc-le-suc k))

step : (P s₀ : List ℕ) (h i : ℕ) → Bits s₀ → length P ≡ i → i < length s₀
    → set (P ++ drop i s₀) i (bit_xor (get_or (P ++ drop i s₀) i 0) (get_or (P ++ drop i s₀) (h + i) 0))
    ≡ (P ++ ((get_or s₀ i 0 ⊕ get_or (drop h s₀) i 0) ∷ [])) ++ drop (suc i) s₀
step P s₀ h i t e lt =
    let x : ℕ = get_or s₀ i 0 in
    let y : ℕ = get_or (drop h s₀) i 0 in
    let a1 : get_or (P ++ drop i s₀) i 0 ≡ x
    = ap (λ (l : List ℕ). get_or (P ++ l) i 0) (drop-cons s₀ i 0 lt) ∙ get_or_at P x (drop (suc i) s₀) 0 i e in
    let k1 : h + i ≡ length P + h = omega arith in
    let a2 : get_or (P ++ drop i s₀) (h + i) 0 ≡ y
    = ap (λ (k : ℕ). get_or (P ++ drop i s₀) k 0) k1 ∙ get_or-append-add P (drop i s₀) h 0 ∙ get_or-drop i s₀ h 0
    ∙ ap (λ (k : ℕ). get_or s₀ k 0) (add_comm i h) ∙ sym (get_or-drop h s₀ i 0) in
    ap₂ (λ (x y : ℕ). set (P ++ drop i s₀) i (bit_xor x y)) a1 a2
    ∙ ap (λ (b : ℕ). set (P ++ drop i s₀) i b) (sym (⊕-xor x y (bits_at t i) (bits_at (bits_drop t h) i)))
    ∙ ap (λ (l : List ℕ). set (P ++ l) i (x ⊕ y)) (drop-cons s₀ i 0 lt)
    ∙ set_at P x (drop (suc i) s₀) (x ⊕ y) i e
    ∙ sym (append_snoc P (x ⊕ y) (drop (suc i) s₀))

-- where the loop stands
pub record Adding (h : ℕ) (s₀ s : List ℕ) (i : ℕ) : Type 0 where
  pub near : i ≤ h
  pub sums : s ≡ added (take i s₀) (drop h s₀) ++ drop i s₀

module _ {h : ℕ} {s₀ s : List ℕ} {i : ℕ} (e : length s₀ ≡ h + h) (a : Adding h s₀ s i) where
  second_half : length (drop h s₀) ≡ h
  second_half = length-drop h s₀ ∙ omega arith

  summed : length (added (take i s₀) (drop h s₀)) ≡ i
  summed = length_sums i s₀ (drop h s₀) (omega (arith, a.near)) (omega (arith, a.near, second_half))

  pub adding_turn : Bits s₀ → i < h → Adding h s₀ (set s i (bit_xor (get_or s i 0) (get_or s (h + i) 0))) (i + 1)
  adding_turn t lt = record {
    near = omega arith;
    sums = ap (λ (l : List ℕ). set l i (bit_xor (get_or l i 0) (get_or l (h + i) 0))) a.sums
        ∙ step (added (take i s₀) (drop h s₀)) s₀ h i t summed (omega arith)
        ∙ ap (λ (l : List ℕ). l ++ drop (suc i) s₀) (sym (sums_more i s₀ (drop h s₀) (omega arith) (omega (arith, second_half))))
        ∙ ap (λ (k : ℕ). added (take k s₀) (drop h s₀) ++ drop k s₀) (sym (add-one i));
  }

-- ---- a word of 2 ^ m bits, m above 2, with its sums and its second half: M
module _ {m h : ℕ} {s : List ℕ} (g : TwoHalves m h s) (more : 2 < m) where
  pub whole_long : length s ≡ h + h
  whole_long = g.word.long ∙ sym g.half

  half_is : h ≡ 2 ^ (m - 1)
  half_is = omega (arith, g.half, doubled m (omega arith))

  -- 2 ^ (m - 1) is even too
  quarter_is : h / 2 + h / 2 ≡ 2 ^ (m - 1)
  quarter_is = omega (arith, half_is, doubled (m - 1) (omega arith))

  call : {v : List ℕ} → Bits v → length v ≡ h → TwoHalves (m - 1) (h / 2) v
  call p e = record { word = record { least = omega arith; most = omega (arith, g.word.most); long = e ∙ half_is; bits = p }; half = quarter_is }

  front_long : length (take h s) ≡ h
  front_long = length-take h s ∙ omega (arith, whole_long)

  rest_long : length (drop h s) ≡ h
  rest_long = length-drop h s ∙ omega (arith, whole_long)

  sums_long : length (added (take h s) (drop h s)) ≡ h
  sums_long = length_added (take h s) (drop h s) (front_long ∙ sym rest_long) ∙ front_long

  module _ {M : List ℕ} (q : M ≡ added (take h s) (drop h s) ++ drop h s) where
    first_is : take h M ≡ added (take h s) (drop h s)
    first_is = ap (take h) q ∙ take_at (added (take h s) (drop h s)) (drop h s) h sums_long

    second_is : drop h M ≡ drop h s
    second_is = ap (drop h) q ∙ drop_at (added (take h s) (drop h s)) (drop h s) h sums_long

    pub first_long : length (take h M) ≡ h
    first_long = ap length first_is ∙ sums_long

    pub second_long : length (drop h M) ≡ h
    second_long = ap length second_is ∙ rest_long

    pub first_call : TwoHalves (m - 1) (h / 2) (take h M)
    first_call = call (rw first_is (bits_added (bits_take g.word.bits h) (bits_drop g.word.bits h))) first_long

    pub second_call : TwoHalves (m - 1) (h / 2) (drop h M)
    second_call = call (rw second_is (bits_drop g.word.bits h)) second_long

    pub arikan_done : {A B : List ℕ} → A ≡ arikan_transform (m - 1) (take h M) → B ≡ arikan_transform (m - 1) (drop h M)
        → A ++ B ≡ arikan_transform m s
    unfolding arikan_transform
    arikan_done a b =
        let up : suc (m - 1) ≡ m = omega arith in
        ap₂ ◌++◌ (a ∙ ap (arikan_transform (m - 1)) first_is) (b ∙ ap (arikan_transform (m - 1)) second_is)
        ∙ ap (λ (k : ℕ). arikan_transform (m - 1) (added (take k s) (drop k s)) ++ arikan_transform (m - 1) (drop k s)) half_is
        ∙ ap (λ (k : ℕ). arikan_transform k s) up
