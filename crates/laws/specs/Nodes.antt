-- The nodes of the layers: their soft values, their decided prefixes, and how these grow bit by bit.
use Rattle.std.specs.Prelude.{◌≡◌, Bool, true, false, not, ℤ, T, ltb}
use Rattle.std.proofs.Math.Path.{refl, ap}
use Rattle.std.proofs.Common.{sym, ap₂, subst, ◌∙◌, zero-add, ltb→lt, lt→ltb, nltb→le}
use Rattle.std.proofs.Math.Bool.{cond}
use mathlib.Core.List.{List, [], ◌∷◌, ◌++◌}
use Prim.Native.Nat.{ℕ, zero, suc, ◌+◌, ◌-◌, ◌*◌, ◌/◌, ◌%◌, ◌^◌, ◌<◌, ◌≤◌}
use native.Mathlib.Omega.{arith}
use Rattle.std.proofs.Math.ListN.{length}
use Rattle.std.proofs.Math.Arith.{le→nltb}
use Rattle.spec.specs.Bits.{◌⊕◌, Bits, nil, cons}
use Rattle.spec.specs.Transform.{evens, odds}
use Rattle.laws.specs.Places.{carry, in_a, in_b, bits_in_a, bits_in_b}
use Rattle.laws.specs.Cost.{last}
pub use Rattle.laws.specs.BitLaws.{flip_lt, ⊕-lt, ⊕-assoc, bits_snoc}
use Rattle.laws.specs.Layer.{Odd, odd_snoc², in_a_snoc², in_b_snoc², last_snoc, half, length_in_a, length_in_b}

-- ---- bits
pub bits_last : {v : List ℕ} → Bits v → last v < 2
bits_last nil = omega arith
bits_last (cons a nil) = a
bits_last (cons a (cons b p)) = bits_last (cons b p)

-- ---- a prefix, cut to its largest odd length
abbrev pub cut : List ℕ → List ℕ
cut [] = []
cut (x ∷ []) = x ∷ []
cut (x ∷ y ∷ []) = x ∷ []
cut (x ∷ y ∷ z ∷ r) = x ∷ y ∷ cut (z ∷ r)

pub bits_cut : {v : List ℕ} → Bits v → Bits (cut v)
bits_cut nil = nil
bits_cut (cons a nil) = cons a nil
bits_cut (cons a (cons b nil)) = cons a nil
bits_cut (cons a (cons b (cons c p))) = cons a (cons b (bits_cut (cons c p)))

-- ---- what a phase is: 0, odd, or even and at least 2
pub data Kind : Type 0 where
  none odd even : Kind

abbrev pub kind : ℕ → Kind
kind zero = none
kind (suc zero) = odd
kind (suc (suc zero)) = even
kind (suc (suc (suc n))) = kind (suc n)

pub data Shape : Kind → List ℕ → Type 0 where
  s_none : Shape none []
  s_odd : (v : List ℕ) → Odd v → Shape odd v
  s_even : (v : List ℕ) (o : ℕ) → Odd v → Shape even (v ++ o ∷ [])

-- two bits in front change nothing
more : {k : Kind} {w : List ℕ} (x y : ℕ) → Shape k w → 0 < length w → Shape k (x ∷ y ∷ w)
more x y s_none h = absurd (omega arith)
more x y (s_odd v p) h = s_odd (x ∷ y ∷ v) p
more x y (s_even v o p) h = s_even (x ∷ y ∷ v) o p

pub shape : (v : List ℕ) → Shape (kind (length v)) v
shape [] = s_none
shape (x ∷ []) = s_odd (x ∷ []) tt
shape (x ∷ y ∷ []) = s_even (x ∷ []) y tt
shape (x ∷ y ∷ z ∷ r) = more x y (shape (z ∷ r)) (omega arith)

pub cut_odd : (v : List ℕ) → Odd v → cut v ≡ v
cut_odd [] o = absurd o
cut_odd (x ∷ []) o = refl
cut_odd (x ∷ y ∷ []) o = absurd o
cut_odd (x ∷ y ∷ z ∷ r) o = ap (λ (l : List ℕ). x ∷ y ∷ l) (cut_odd (z ∷ r) o)

pub cut_even : (v : List ℕ) (b : ℕ) → Odd v → cut (v ++ b ∷ []) ≡ v
cut_even [] b o = absurd o
cut_even (x ∷ []) b o = refl
cut_even (x ∷ y ∷ []) b o = absurd o
cut_even (x ∷ y ∷ z ∷ r) b o = ap (λ (l : List ℕ). x ∷ y ∷ l) (cut_even (z ∷ r) b o)

-- one more bit, over a parent whose kind is k
abbrev pub is_even : Kind → Bool
is_even none = false
is_even odd = false
is_even even = true

abbrev pub pair_sum : List ℕ → ℕ
pair_sum v = last (cut v) ⊕ last v

abbrev pub odd_last : List ℕ → ℕ
odd_last v = last v

-- ---- phases
abbrev pub down : ℕ → ℕ
down zero = zero
down (suc n) = half n

pub half_is : (n : ℕ) → half n ≡ n / 2
half_is zero = refl
half_is (suc zero) = refl
half_is (suc (suc n)) = omega (arith, half_is n)

pub down_is : (n : ℕ) → down n ≡ (n - 1) / 2
down_is zero = refl
down_is (suc n) = half_is n ∙ (omega arith)

half_cut : (v : List ℕ) → half (length (cut v)) ≡ down (length v)
half_cut [] = refl
half_cut (x ∷ []) = refl
half_cut (x ∷ y ∷ []) = refl
half_cut (x ∷ y ∷ z ∷ r) = ap suc (half_cut (z ∷ r))

-- the phase of the layer d below the top, from the top's
abbrev pub phase : ℕ → ℕ → ℕ
phase zero n = n
phase (suc d) n = down (phase d n)

-- whether the layer's prefixes grow as the top's goes from n bits to n + 1
abbrev pub moves : ℕ → ℕ → Bool
moves zero n = true
moves (suc d) n = cond (moves d n) (is_even (kind (phase d n))) false

down_suc : (n : ℕ) → down (suc n) ≡ cond (is_even (kind n)) (suc (down n)) (down n)
down_suc zero = refl
down_suc (suc zero) = refl
down_suc (suc (suc zero)) = refl
down_suc (suc (suc (suc n))) = ap suc (down_suc (suc n)) ∙ push (is_even (kind (suc n)))
  where
    push : (c : Bool) → suc (cond c (suc (half n)) (half n)) ≡ cond c (suc (suc (half n))) (suc (half n))
    push true = refl
    push false = refl

pub phase_suc : (d n : ℕ) → phase d (suc n) ≡ cond (moves d n) (suc (phase d n)) (phase d n)
phase_suc zero n = refl
phase_suc (suc d) n = ap down (phase_suc d n) ∙ go (moves d n)
  where
    go : (c : Bool) → down (cond c (suc (phase d n)) (phase d n)) ≡ cond (cond c (is_even (kind (phase d n))) false) (suc (down (phase d n))) (down (phase d n))
    go true = down_suc (phase d n)
    go false = refl

is_true : (b : Bool) → T b → b ≡ true
is_true true t = refl
is_true false t = absurd t

is_false : (b : Bool) → T (not b) → b ≡ false
is_false true t = absurd t
is_false false t = refl

-- ---- the nodes: node i of the layer d below the top has the children i and i + 2 ^ d on the layer below it
module _ {A : Type 0} (f g : A → A) where
  unfoldable pub node : ℕ → A → ℕ → A
  node zero a i = a
  node (suc d) a i = cond (ltb i (2 ^ d)) (f (node d a i)) (g (node d a (i - 2 ^ d)))

  pub node_even : (d : ℕ) (a : A) (i : ℕ) → i < 2 ^ d → node (suc d) a i ≡ f (node d a i)
  unfolding node
  node_even d a i h = ap (λ (c : Bool). cond c (f (node d a i)) (g (node d a (i - 2 ^ d)))) (is_true (ltb i (2 ^ d)) (lt→ltb i (2 ^ d) h))

  pub node_odd : (d : ℕ) (a : A) (i : ℕ) → node (suc d) a (i + 2 ^ d) ≡ g (node d a i)
  unfolding node
  node_odd d a i =
      let e : i + 2 ^ d - 2 ^ d ≡ i = omega arith in
      ap (λ (c : Bool). cond c (f (node d a (i + 2 ^ d))) (g (node d a (i + 2 ^ d - 2 ^ d)))) (is_false (ltb (i + 2 ^ d) (2 ^ d)) (le→nltb (i + 2 ^ d) (2 ^ d) (omega arith)))
      ∙ ap (λ (j : ℕ). g (node d a j)) e

-- a node of the layer below is one or the other
pub by_child : (Z : ℕ → Type 0) (d : ℕ) → ((j : ℕ) → j < 2 ^ d → Z j) → ((j : ℕ) → j < 2 ^ d → Z (j + 2 ^ d)) → (i : ℕ) → i < 2 ^ suc d → Z i
by_child Z d p q i h = go (ltb i (2 ^ d)) refl
  where
    go : (c : Bool) → ltb i (2 ^ d) ≡ c → Z i
    go true e = p i (ltb→lt i (2 ^ d) (subst T (sym e) tt))
    go false e =
        let l : 2 ^ d ≤ i = nltb→le i (2 ^ d) (subst (λ (b : Bool). T (not b)) (sym e) tt) in
        let b : i - 2 ^ d + 2 ^ d ≡ i = omega arith in
        subst Z b (q (i - 2 ^ d) (omega arith))

abbrev pub node_soft : ℕ → List ℤ → ℕ → List ℤ
node_soft = node evens odds

-- ---- lengths
down_le : (n k : ℕ) → n ≤ 2 * k → down n ≤ k
down_le zero k h = omega arith
down_le (suc n) k h = omega (arith, half_is n)

pub phase_le : (d k n : ℕ) → n ≤ 2 ^ (d + k) → phase d n ≤ 2 ^ k
phase_le zero k n h = rw zero-add at h
phase_le (suc d) k n h =
    let e : suc d + k ≡ d + suc k = omega arith in
    let h' : n ≤ 2 ^ (d + suc k) = rw e at h in
    down_le (phase d n) (2 ^ k) (omega (arith, phase_le d (suc k) n h'))

pub odd_not_even : odd ≡ even → ⊥
odd_not_even e = let z : ◌≡◌ {A = ℕ} 0 1 = ap num e in omega arith
  where
    num : Kind → ℕ
    num none = 0
    num odd = 0
    num even = 1

-- a prefix of an odd phase
pub odd_shape : {k : Kind} {v : List ℕ} → Shape k v → k ≡ odd → Odd v
odd_shape s_none e = let z : ◌≡◌ {A = ℕ} 0 1 = cc in absurd (omega arith)
odd_shape (s_odd v o) e = o
odd_shape (s_even v b o) e = absurd (odd_not_even (sym e))

pub none_not_even : none ≡ even → ⊥
none_not_even e = let z : ◌≡◌ {A = ℕ} 0 1 = ap num e in omega arith
  where
    num : Kind → ℕ
    num none = 0
    num odd = 0
    num even = 1

-- a phase's kind, by tests that code can make
pub kind_of_odd : (n : ℕ) → n % 2 ≡ 1 → kind n ≡ odd
kind_of_odd zero h = absurd (omega arith)
kind_of_odd (suc zero) h = refl
kind_of_odd (suc (suc zero)) h = absurd (omega arith)
kind_of_odd (suc (suc (suc n))) h = kind_of_odd (suc n) (omega arith)

pub kind_of_even : (n : ℕ) → n % 2 ≡ 0 → 0 < n → kind n ≡ even
kind_of_even zero h p = absurd (omega arith)
kind_of_even (suc zero) h p = absurd (omega arith)
kind_of_even (suc (suc zero)) h p = refl
kind_of_even (suc (suc (suc n))) h p = kind_of_even (suc n) (omega arith) (omega arith)

-- ---- what depends on the layer rule
module _ (arikan : Bool) where
  -- ---- the children's prefixes
  abbrev pub child_a : List ℕ → List ℕ
  child_a v = in_a arikan (cut v)

  abbrev pub child_b : List ℕ → List ℕ
  child_b v = in_b arikan (cut v)

  -- one more bit at an empty or an odd prefix: the children stay
  pub child_a_odd : (v : List ℕ) (b : ℕ) → Odd v → child_a (v ++ b ∷ []) ≡ child_a v
  child_a_odd v b o = ap (in_a arikan) (cut_even v b o ∙ sym (cut_odd v o))

  pub child_b_odd : (v : List ℕ) (b : ℕ) → Odd v → child_b (v ++ b ∷ []) ≡ child_b v
  child_b_odd v b o = ap (in_b arikan) (cut_even v b o ∙ sym (cut_odd v o))

  -- at an even prefix v ++ [o] each child gets one bit
  pub child_a_even : (v : List ℕ) (o b : ℕ) → Odd v → last v < 2 → child_a (v ++ o ∷ [] ++ b ∷ []) ≡ child_a (v ++ o ∷ []) ++ ((last v ⊕ o) ⊕ carry arikan b) ∷ []
  child_a_even v o b p h =
      ap (in_a arikan) (cut_odd (v ++ o ∷ [] ++ b ∷ []) (odd_snoc² v o b p)) ∙ in_a_snoc² arikan v o b p
      ∙ ap₂ (λ (l : List ℕ) (x : ℕ). in_a arikan l ++ x ∷ []) (sym (cut_even v o p)) (sym (⊕-assoc (last v) o (carry arikan b) h))

  pub child_b_even : (v : List ℕ) (o b : ℕ) → Odd v → child_b (v ++ o ∷ [] ++ b ∷ []) ≡ child_b (v ++ o ∷ []) ++ (o ⊕ carry arikan b) ∷ []
  child_b_even v o b p =
      ap (in_b arikan) (cut_odd (v ++ o ∷ [] ++ b ∷ []) (odd_snoc² v o b p)) ∙ in_b_snoc² arikan v o b p
      ∙ ap (λ (l : List ℕ). in_b arikan l ++ (o ⊕ carry arikan b) ∷ []) (sym (cut_even v o p))

  child_a_shape : {k : Kind} {v : List ℕ} (b p : ℕ) → Shape k v → Bits v → (k ≡ even → p ≡ pair_sum v)
      → child_a (v ++ b ∷ []) ≡ cond (is_even k) (child_a v ++ (p ⊕ carry arikan b) ∷ []) (child_a v)
  child_a_shape b p s_none t e = refl
  child_a_shape b p (s_odd v o) t e = child_a_odd v b o
  child_a_shape b p (s_even v x o) t e =
      let cv : cut (v ++ x ∷ []) ≡ v = cut_even v x o in
      let h : last v < 2 = subst (λ (l : List ℕ). last l < 2) cv (bits_last (bits_cut t)) in
      let ep : p ≡ last v ⊕ x = e refl ∙ ap₂ ◌⊕◌ (ap last cv) (last_snoc v x) in
      rw ep (child_a_even v x b o h)

  child_b_shape : {k : Kind} {v : List ℕ} (b q : ℕ) → Shape k v → (k ≡ even → q ≡ odd_last v)
      → child_b (v ++ b ∷ []) ≡ cond (is_even k) (child_b v ++ (q ⊕ carry arikan b) ∷ []) (child_b v)
  child_b_shape b q s_none e = refl
  child_b_shape b q (s_odd v o) e = child_b_odd v b o
  child_b_shape b q (s_even v x o) e =
      let eq : q ≡ x = e refl ∙ last_snoc v x in
      rw eq (child_b_even v x b o)

  pub child_a_step : (v : List ℕ) (b p : ℕ) → Bits v → (kind (length v) ≡ even → p ≡ pair_sum v)
      → child_a (v ++ b ∷ []) ≡ cond (is_even (kind (length v))) (child_a v ++ (p ⊕ carry arikan b) ∷ []) (child_a v)
  child_a_step v b p t e = child_a_shape b p (shape v) t e

  pub child_b_step : (v : List ℕ) (b q : ℕ) → (kind (length v) ≡ even → q ≡ odd_last v)
      → child_b (v ++ b ∷ []) ≡ cond (is_even (kind (length v))) (child_b v ++ (q ⊕ carry arikan b) ∷ []) (child_b v)
  child_b_step v b q e = child_b_shape b q (shape v) e

  pub length_child_a : (v : List ℕ) → length (child_a v) ≡ down (length v)
  length_child_a v = length_in_a arikan (cut v) ∙ half_cut v

  pub length_child_b : (v : List ℕ) → length (child_b v) ≡ down (length v)
  length_child_b v = length_in_b arikan (cut v) ∙ half_cut v

  abbrev pub node_prefix : ℕ → List ℕ → ℕ → List ℕ
  node_prefix = node child_a child_b

  pub length_node_prefix : (d : ℕ) (w : List ℕ) (i : ℕ) → i < 2 ^ d → length (node_prefix d w i) ≡ phase d (length w)
  unfolding node
  length_node_prefix zero w i h = refl
  length_node_prefix (suc d) w i h = by_child (λ i. length (node_prefix (suc d) w i) ≡ phase (suc d) (length w)) d
      (λ j l. ap length (node_even child_a child_b d w j l) ∙ length_child_a (node_prefix d w j) ∙ ap down (length_node_prefix d w j l))
      (λ j l. ap length (node_odd child_a child_b d w j) ∙ length_child_b (node_prefix d w j) ∙ ap down (length_node_prefix d w j l)) i h

  pub bits_node_prefix : (d : ℕ) (w : List ℕ) (i : ℕ) → i < 2 ^ d → Bits w → Bits (node_prefix d w i)
  unfolding node
  bits_node_prefix zero w i h t = t
  bits_node_prefix (suc d) w i h t = by_child (λ i. Bits (node_prefix (suc d) w i)) d
      (λ j l. rw (node_even child_a child_b d w j l) (bits_in_a arikan (bits_cut (bits_node_prefix d w j l t))))
      (λ j l. rw (node_odd child_a child_b d w j) (bits_in_b arikan (bits_cut (bits_node_prefix d w j l t)))) i h

  pub node_prefix_nil : (d i : ℕ) → i < 2 ^ d → node_prefix d [] i ≡ []
  node_prefix_nil zero i h = unfold node in refl
  node_prefix_nil (suc d) i h = by_child (λ i. node_prefix (suc d) [] i ≡ []) d
      (λ j l. node_even child_a child_b d [] j l ∙ ap child_a (node_prefix_nil d j l)) (λ j l. node_odd child_a child_b d [] j ∙ ap child_b (node_prefix_nil d j l)) i h
