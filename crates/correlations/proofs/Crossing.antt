-- The halves of a slice crossed place by place: where the loop stands, one turn, and the end. Assumes nothing.
use Rattle.std.proofs.Common.{◌≡◌, ℕ, zero, suc, ◌+◌, ◌-◌, ◌%◌, ◌<◌, ◌≤◌, List, [], ◌∷◌, ◌++◌, map, length, get_or, take, drop, set, ℤ, pos, ◌+ℤ◌, ◌-ℤ◌, sym, refl, ap, ◌∙◌, ap₂, le_of_suc-le-suc, not-suc-le-zero, add-one, arith, length-drop, length-set, take-append-drop, length-take, get_or-drop, get_or-take, drop-set-lt}
use mathlib.Core.List.{map-append}
use native.Mathlib.Nat.{suc_inj}
use lib.ListN.{length-map}
use Rattle.std.proofs.lemmas.List.{take-map, drop-map}
use lib.Seq.{take-set-lt, take-set-le, drop-set-add}
use Rattle.correlations.specs.Folding.{wrapped, sums, differences, crossed}
use Rattle.correlations.specs.Wrapped.{wrapped_lt, wrapped_add, wrapped_sub}

-- ---- sums and differences as code computes them
pub sum_is : (a b : ℤ) {x y : ℕ} → x ≡ wrapped a → y ≡ wrapped b → (x + y) % 4294967296 ≡ wrapped (a +ℤ b)
sum_is a b ea eb = ap₂ (λ (m n : ℕ). (m + n) % 4294967296) ea eb ∙ wrapped_add a b

pub difference_is : (a b : ℤ) {x y : ℕ} → x ≡ wrapped a → y ≡ wrapped b → (x + (4294967296 - y)) % 4294967296 ≡ wrapped (a -ℤ b)
difference_is a b ea eb =
    ap₂ (λ (m n : ℕ). (m + (4294967296 - n)) % 4294967296) ea eb
    ∙ wrapped_sub a b ((wrapped a + (4294967296 - wrapped b)) % 4294967296) (omega arith) (omega (arith, wrapped_lt a, wrapped_lt b))

-- ---- a half of which i places are done: those with the other half's by op, then the rest
abbrev mixed : (ℤ → ℤ → ℤ) → ℕ → List ℤ → List ℤ → List ℤ
mixed op zero u v = u
mixed op (suc i) [] v = []
mixed op (suc i) (a ∷ u) [] = []
mixed op (suc i) (a ∷ u) (b ∷ v) = op a b ∷ mixed op i u v

-- the second half becomes what it is taken from
abbrev from : ℤ → ℤ → ℤ
from b a = a -ℤ b

module _ (op : ℤ → ℤ → ℤ) where
  mixed_at : (i : ℕ) (u v : List ℤ) → i < length u → i < length v → get_or (map wrapped (mixed op i u v)) i 0 ≡ wrapped (get_or u i (pos 0))
  mixed_at i [] v h k = absurd (not-suc-le-zero h)
  mixed_at i (a ∷ u) [] h k = absurd (not-suc-le-zero k)
  mixed_at zero (a ∷ u) (b ∷ v) h k = refl
  mixed_at (suc i) (a ∷ u) (b ∷ v) h k = mixed_at i u v (le_of_suc-le-suc h) (le_of_suc-le-suc k)

  mixed_more : (i : ℕ) (u v : List ℤ) → i < length u → i < length v
      → set (map wrapped (mixed op i u v)) i (wrapped (op (get_or u i (pos 0)) (get_or v i (pos 0)))) ≡ map wrapped (mixed op (suc i) u v)
  mixed_more i [] v h k = absurd (not-suc-le-zero h)
  mixed_more i (a ∷ u) [] h k = absurd (not-suc-le-zero k)
  mixed_more zero (a ∷ u) (b ∷ v) h k = refl
  mixed_more (suc i) (a ∷ u) (b ∷ v) h k =
      ap (λ (l : List ℕ). wrapped (op a b) ∷ l) (mixed_more i u v (le_of_suc-le-suc h) (le_of_suc-le-suc k))

pub length_sums : (u v : List ℤ) → length u ≡ length v → length (sums u v) ≡ length u
length_sums [] v e = refl
length_sums (a ∷ u) [] e = absurd (omega (arith, e))
length_sums (a ∷ u) (b ∷ v) e = ap suc (length_sums u v (suc_inj e))

all_sums : (u v : List ℤ) → length u ≡ length v → mixed ◌+ℤ◌ (length u) u v ≡ sums u v
all_sums [] v e = refl
all_sums (a ∷ u) [] e = refl
all_sums (a ∷ u) (b ∷ v) e = ap (λ (l : List ℤ). (a +ℤ b) ∷ l) (all_sums u v (suc_inj e))

all_differences : (u v : List ℤ) → length u ≡ length v → mixed from (length v) v u ≡ differences u v
all_differences [] [] e = refl
all_differences [] (b ∷ v) e = refl
all_differences (a ∷ u) [] e = absurd (omega (arith, e))
all_differences (a ∷ u) (b ∷ v) e = ap (λ (l : List ℤ). (a -ℤ b) ∷ l) (all_differences u v (suc_inj e))

-- ---- where the loop stands
pub record Crossing (h : ℕ) (s₀ s : List ℕ) (i : ℕ) : Type 0 where
  pub near : i ≤ h
  pub kept : length s ≡ length s₀
  pub first : (zs : List ℤ) → s₀ ≡ map wrapped zs → take h s ≡ map wrapped (mixed ◌+ℤ◌ i (take h zs) (drop h zs))
  pub second : (zs : List ℤ) → s₀ ≡ map wrapped zs → drop h s ≡ map wrapped (mixed from i (drop h zs) (take h zs))

pub crossing_none : (h : ℕ) (s : List ℕ) → Crossing h s s 0
crossing_none h s = record {
  near = omega arith;
  kept = refl;
  first = λ zs e. ap (take h) e ∙ take-map wrapped h zs;
  second = λ zs e. ap (drop h) e ∙ drop-map wrapped h zs;
}

module _ (h : ℕ) (s₀ : List ℕ) (long : length s₀ ≡ h + h) where
  module _ (zs : List ℤ) (e : s₀ ≡ map wrapped zs) where
    all_long : length zs ≡ h + h
    all_long = sym (length-map zs wrapped) ∙ ap length (sym e) ∙ long

    front_long : length (take h zs) ≡ h
    front_long = length-take h zs ∙ omega (arith, all_long)

    rest_long : length (drop h zs) ≡ h
    rest_long = length-drop h zs ∙ omega (arith, all_long)

  module _ {s : List ℕ} {i : ℕ} (c : Crossing h s₀ s i) where
    abbrev x : ℕ
    x = get_or s i 0

    abbrev y : ℕ
    y = get_or s (h + i) 0

    -- a turn: p and q are the sum and the difference of what stands there
    module _ (lt : i < h) where
      abbrev p : ℕ
      p = (x + y) % 4294967296

      abbrev q : ℕ
      q = (x + (4294967296 - y)) % 4294967296

      module _ (zs : List ℤ) (e : s₀ ≡ map wrapped zs) where
        abbrev a : ℤ
        a = get_or (take h zs) i (pos 0)

        abbrev b : ℤ
        b = get_or (drop h zs) i (pos 0)

        in_front : i < length (take h zs)
        in_front = omega (arith, front_long zs e)

        in_rest : i < length (drop h zs)
        in_rest = omega (arith, rest_long zs e)

        x_is : x ≡ wrapped a
        x_is =
            sym (get_or-take h s i 0 lt)
            ∙ ap (λ (l : List ℕ). get_or l i 0) (c.first zs e)
            ∙ mixed_at ◌+ℤ◌ i (take h zs) (drop h zs) in_front in_rest

        y_is : y ≡ wrapped b
        y_is =
            sym (get_or-drop h s i 0)
            ∙ ap (λ (l : List ℕ). get_or l i 0) (c.second zs e)
            ∙ mixed_at from i (drop h zs) (take h zs) in_rest in_front

        first_more : take h (set (set s i p) (h + i) q) ≡ map wrapped (mixed ◌+ℤ◌ (i + 1) (take h zs) (drop h zs))
        first_more =
            take-set-le h (set s i p) (h + i) q (omega arith)
            ∙ take-set-lt h s i p lt
            ∙ ap₂ (λ (l : List ℕ) (k : ℕ). set l i k) (c.first zs e) (sum_is a b x_is y_is)
            ∙ mixed_more ◌+ℤ◌ i (take h zs) (drop h zs) in_front in_rest
            ∙ ap (λ (k : ℕ). map wrapped (mixed ◌+ℤ◌ k (take h zs) (drop h zs))) (sym (add-one i))

        second_more : drop h (set (set s i p) (h + i) q) ≡ map wrapped (mixed from (i + 1) (drop h zs) (take h zs))
        second_more =
            drop-set-add h (set s i p) i q
            ∙ ap (λ (l : List ℕ). set l i q) (drop-set-lt h s i p lt)
            ∙ ap₂ (λ (l : List ℕ) (k : ℕ). set l i k) (c.second zs e) (difference_is a b x_is y_is)
            ∙ mixed_more from i (drop h zs) (take h zs) in_rest in_front
            ∙ ap (λ (k : ℕ). map wrapped (mixed from k (drop h zs) (take h zs))) (sym (add-one i))

      pub crossing_turn : Crossing h s₀ (set (set s i p) (h + i) q) (i + 1)
      crossing_turn = record {
        near = omega arith;
        kept = simp length-set c.kept;
        first = first_more;
        second = second_more;
      }

    pub crossing_done : h ≤ i → (zs : List ℤ) → s₀ ≡ map wrapped zs → s ≡ map wrapped (crossed h zs)
    crossing_done l zs e =
        let all : i ≡ h = omega (arith, c.near) in
        let u : List ℤ = take h zs in
        let v : List ℤ = drop h zs in
        let alike : length u ≡ length v = front_long zs e ∙ sym (rest_long zs e) in
        sym (take-append-drop h s)
        ∙ ap₂ ◌++◌
        (c.first zs e
        ∙ ap (λ (k : ℕ). map wrapped (mixed ◌+ℤ◌ k u v)) (all ∙ sym (front_long zs e))
        ∙ ap (map wrapped) (all_sums u v alike))
        (c.second zs e
        ∙ ap (λ (k : ℕ). map wrapped (mixed from k v u)) (all ∙ sym (rest_long zs e))
        ∙ ap (map wrapped) (all_differences u v alike))
        ∙ sym (map-append wrapped (sums u v) (differences u v))
