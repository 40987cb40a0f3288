-- The paper decoder's order, by costs: the lower cost first, then the prefix with 0 at the first place where two differ.
use Rattle.std.specs.Prelude.{◌≡◌, refl, Bool, true, false, not, cond, ◌&&◌, ◌||◌, List, [], ◌∷◌, ◌++◌, map, length, take, drop, get_or, replicate, ℤ, T, eqb, ltb, leb}
use Rattle.std.proofs.Math.Path.{ap}
use Rattle.std.proofs.Common.{ap₂, ◌∙◌, arith, length-append, leb→le, le→leb, ltb→lt, lt→ltb}
use Prim.Native.Nat.{ℕ, zero, suc, ◌-◌, ◌*◌, ◌<◌, ◌≤◌}
use Rattle.std.proofs.lemmas.List.{length-replicate}
use Rattle.std.proofs.Math.Dec.{nleb→lt}
use Rattle.std.proofs.Math.Arith.{lt→nleb}
use Rattle.std.specs.Int.Signed.{le_z}
use Rattle.spec.specs.Bits.{◌⊕◌, Bits, nil}
use Rattle.spec.specs.Code.{Code, size, frozen, Pair, pairs_in, sum_at, frozen_bit, code_transform}
use Rattle.spec.specs.Score.{score}
use Rattle.spec.specs.Decoder.{insert_by, sort_by, lex_before, ahead, continued, children, families, live_by, live, score_of}
use Rattle.laws.specs.BitLaws.{bits_snoc, bits_at, ⊕-lt}
use Rattle.laws.specs.Cost.{magnitude}
use Rattle.laws.specs.ScoreCost.{le_z_sub}
use Rattle.laws.specs.CodeScore.{code_cost, code_score}

abbrev pub cheaper : (List ℕ → ℕ) → List ℕ → List ℕ → Bool
cheaper f v w = ltb (f v) (f w) || (leb (f v) (f w) && lex_before v w)

-- ---- a property of every element, through a sort and a cut
pub data All {A : Type 0} (P : A → Type 0) : List A → Type 0 where
  none : All P []
  more : {x : A} {xs : List A} → P x → All P xs → All P (x ∷ xs)

module _ {A : Type 0} {P : A → Type 0} where
  all_cond : (b : Bool) {u v : List A} → All P u → All P v → All P (cond b u v)
  all_cond true p q = p
  all_cond false p q = q

  pub all_insert : (le : A → A → Bool) (x : A) {ys : List A} → P x → All P ys → All P (insert_by le x ys)
  all_insert le x p none = more p none
  all_insert le x p (more {x = y} q a) = all_cond (le x y) (more p (more q a)) (more q (all_insert le x p a))

  pub all_sort : (le : A → A → Bool) {xs : List A} → All P xs → All P (sort_by le xs)
  all_sort le none = none
  all_sort le (more {x} p a) = all_insert le x p (all_sort le a)

  pub all_take : (n : ℕ) {xs : List A} → All P xs → All P (take n xs)
  all_take zero a = none
  all_take (suc n) none = none
  all_take (suc n) (more p a) = more p (all_take n a)

  pub all_drop : (n : ℕ) {xs : List A} → All P xs → All P (drop n xs)
  all_drop zero a = a
  all_drop (suc n) none = none
  all_drop (suc n) (more p a) = all_drop n a

  pub all_append : {u v : List A} → All P u → All P v → All P (u ++ v)
  all_append none q = q
  all_append (more p a) q = more p (all_append a q)

  pub all_map : {Q : A → Type 0} {xs : List A} → ((a : A) → P a → Q a) → All P xs → All Q xs
  all_map f none = none
  all_map f (more {x} p a) = more (f x p) (all_map f a)

pub all_under : {A B : Type 0} (f : A → B) (P : B → Type 0) {xs : List A} → All (λ (a : A). P (f a)) xs → All P (map f xs)
all_under f P none = none
all_under f P (more p a) = more p (all_under f P a)

-- ---- two tests that agree on the elements sort alike
module _ {A : Type 0} {P : A → Type 0} (le le' : A → A → Bool) (same : (a b : A) → P a → P b → le a b ≡ le' a b) where
  insert_same : (x : A) {ys : List A} → P x → All P ys → insert_by le x ys ≡ insert_by le' x ys
  insert_same x p none = refl
  insert_same x p (more {x = y} {xs = ys} q a) = ap₂ (λ (b : Bool) (r : List A). cond b (x ∷ y ∷ ys) (y ∷ r)) (same x y p q) (insert_same x p a)

  pub sort_same : {xs : List A} → All P xs → sort_by le xs ≡ sort_by le' xs
  sort_same none = refl
  sort_same (more {x} p a) = ap (insert_by le x) (sort_same a) ∙ insert_same x p (all_sort le' a)

-- ---- tests of numbers that agree
bool_ext : (a b : Bool) → (T a → T b) → (T b → T a) → a ≡ b
bool_ext true true f g = refl
bool_ext true false f g = absurd (f tt)
bool_ext false true f g = absurd (g tt)
bool_ext false false f g = refl

leb_twice : (a b : ℕ) → leb (2 * a) (2 * b) ≡ leb a b
leb_twice a b = bool_ext (leb (2 * a) (2 * b)) (leb a b)
    (λ t. let h : 2 * a ≤ 2 * b = leb→le (2 * a) (2 * b) t in le→leb a b (omega arith))
    (λ t. let h : a ≤ b = leb→le a b t in le→leb (2 * a) (2 * b) (omega arith))

not_leb : (a b : ℕ) → not (leb b a) ≡ ltb a b
not_leb a b = bool_ext (not (leb b a)) (ltb a b) (λ t. lt→ltb a b (nleb→lt b a t)) (λ t. lt→nleb b a (ltb→lt a b t))

module _ (c : Code) (y : List ℤ) (ey : length y ≡ size c) where
  -- on prefixes of bits the two orders agree
  pub ahead_cheaper : (v w : List ℕ) → Bits v → Bits w → length v ≤ size c → length w ≤ size c
      → ahead (score (code_transform c) (size c) y) v w ≡ cheaper (code_cost c y) v w
  ahead_cheaper v w tv tw hv hw =
      let s : ℕ = magnitude y in
      let f : List ℕ → ℕ = code_cost c y in
      ap₂ (λ (a b : ℤ). not (le_z a b) || (le_z b a && lex_before v w)) (code_score c y tv ey hv) (code_score c y tw ey hw)
      ∙ ap₂ (λ (a b : Bool). not a || (b && lex_before v w))
      (le_z_sub s (2 * f v) (2 * f w) ∙ leb_twice (f w) (f v))
      (le_z_sub s (2 * f w) (2 * f v) ∙ leb_twice (f v) (f w))
      ∙ ap (λ (a : Bool). a || (leb (f v) (f w) && lex_before v w)) (not_leb (f v) (f w))

-- ---- a list search: what every child has from its parent, every live prefix has
pub families_all : {P Q : List ℕ → Type 0} (f : List ℕ → List (List ℕ)) → ((w : List ℕ) → P w → All Q (f w)) → {ws : List (List ℕ)} → All P ws → All Q (families f ws)
families_all f h none = none
families_all f h (more {x = w} p a) = all_append (h w p) (families_all f h a)

module _ (s : List ℕ → ℤ) (kids : ℕ → List ℕ → List (List ℕ)) (l : ℕ) {P : ℕ → List ℕ → Type 0} where
  pub live_all : P 0 [] → ((i : ℕ) (w : List ℕ) → P i w → All (P (suc i)) (kids i w)) → (i : ℕ) → All (P i) (live_by s kids l i)
  unfolding live_by
  live_all start step zero = more start none
  live_all start step (suc i) = all_take l (all_sort (ahead s) (families_all (kids i) (step i) (live_all start step i)))

-- how a prefix goes on: by one bit, whatever it is, or by both
pub data Goes (w : List ℕ) : List (List ℕ) → Type 0 where
  by : (b : ℕ) → Goes w ((w ++ b ∷ []) ∷ [])
  both : Goes w ((w ++ 0 ∷ []) ∷ (w ++ 1 ∷ []) ∷ [])

pub goes : (c : Code) (i : ℕ) (w : List ℕ) → Goes w (children c i w)
unfolding children
goes c i w = by_flag (get_or (frozen c) i 0)
  where
    by_flag : (f : ℕ) → Goes w (continued f (frozen_bit c i w) w)
    by_flag zero = both
    by_flag (suc f) = by (frozen_bit c i w)

-- ---- the prefixes after i positions have i bits
abbrev pub Long : ℕ → List ℕ → Type 0
Long n w = length w ≡ n

longer : (n b : ℕ) (w : List ℕ) → Long n w → Long (suc n) (w ++ b ∷ [])
longer n b w h = omega (arith, length-append w (b ∷ []))

-- a prefix with 0 behind it, filled up to n bits
pub filled_long : (n : ℕ) (w : List ℕ) → length w ≤ n → Long n (w ++ replicate (n - length w) 0)
filled_long n w h = omega (arith, length-append w (replicate (n - length w) 0), length-replicate {A = ℕ} (n - length w) 0)

goes_long : (n : ℕ) (w : List ℕ) {ks : List (List ℕ)} → Goes w ks → Long n w → All (Long (suc n)) ks
goes_long n w (by b) h = more (longer n b w h) none
goes_long n w both h = more (longer n 0 w h) (more (longer n 1 w h) none)

pub search_long : (s : List ℕ → ℤ) (kids : ℕ → List ℕ → List (List ℕ)) (l : ℕ) → ((i : ℕ) (w : List ℕ) → Goes w (kids i w)) → (i : ℕ) → All (Long i) (live_by s kids l i)
search_long s kids l rule = live_all s kids l {P = Long} refl (λ i w. goes_long i w (rule i w))

module _ (T : List ℕ → List ℕ) (c : Code) (y : List ℤ) (l : ℕ) where
  pub live_long : (i : ℕ) → All (Long i) (live T c y l i)
  live_long = search_long (score_of T c y l) (children c) l (goes c)

  pub family_long : (i : ℕ) → All (Long (suc i)) (families (children c i) (live T c y l i))
  family_long i = families_all (children c i) (λ w. goes_long i w (goes c i w)) (live_long i)

-- ---- and are words of bits, since a sum of bits is one
pub sum_lt : (ps : List Pair) (i : ℕ) {w : List ℕ} → Bits w → sum_at ps i w < 2
sum_lt [] i t = omega arith
sum_lt (p ∷ ps) i {w} t = go (eqb p.f i) (sum_lt ps i t)
  where
    go : (b : Bool) → sum_at ps i w < 2 → cond b (get_or w p.e 0 ⊕ sum_at ps i w) (sum_at ps i w) < 2
    go true ih = ⊕-lt (get_or w p.e 0) (sum_at ps i w) (bits_at t p.e)
    go false ih = ih

pub frozen_lt : (c : Code) (i : ℕ) {w : List ℕ} → Bits w → frozen_bit c i w < 2
unfolding frozen_bit
frozen_lt c i t = sum_lt (pairs_in c.pairs) i t

continued_bits : (f b : ℕ) (w : List ℕ) → b < 2 → Bits w → All Bits (continued f b w)
continued_bits zero b w h t = more (bits_snoc 0 t (omega arith)) (more (bits_snoc 1 t (omega arith)) none)
continued_bits (suc f) b w h t = more (bits_snoc b t h) none

children_bits : (c : Code) (i : ℕ) (w : List ℕ) → Bits w → All Bits (children c i w)
unfolding children
children_bits c i w t = continued_bits (get_or (frozen c) i 0) (frozen_bit c i w) w (frozen_lt c i t) t

module _ (T : List ℕ → List ℕ) (c : Code) (y : List ℤ) (l : ℕ) where
  pub live_bits : (i : ℕ) → All Bits (live T c y l i)
  live_bits = live_all (score_of T c y l) (children c) l {P = λ _. Bits} nil (children_bits c)

  pub family_bits : (i : ℕ) → All Bits (families (children c i) (live T c y l i))
  family_bits i = families_all (children c i) (children_bits c i) (live_bits i)

-- ---- both
pub record Prefix (n : ℕ) (w : List ℕ) : Type 0 where
  pub long : Long n w
  pub bits : Bits w

pub all_prefix : (n : ℕ) {ws : List (List ℕ)} → All (Long n) ws → All Bits ws → All (Prefix n) ws
all_prefix n none none = none
all_prefix n (more h a) (more t b) = more (record { long = h; bits = t }) (all_prefix n a b)

pub children_prefix : (c : Code) (i : ℕ) (w : List ℕ) → Prefix i w → All (Prefix (suc i)) (children c i w)
children_prefix c i w p = all_prefix (suc i) (goes_long i w (goes c i w) p.long) (children_bits c i w p.bits)

module _ (T : List ℕ → List ℕ) (c : Code) (y : List ℤ) (l : ℕ) where
  pub live_prefix : (i : ℕ) → All (Prefix i) (live T c y l i)
  live_prefix i = all_prefix i (live_long T c y l i) (live_bits T c y l i)

  pub family_prefix : (i : ℕ) → All (Prefix (suc i)) (families (children c i) (live T c y l i))
  family_prefix i = all_prefix (suc i) (family_long T c y l i) (family_bits T c y l i)

-- one position of the paper decoder, by costs: its children in order, and those that stay
module _ (c : Code) (y : List ℤ) (l : ℕ) (ey : length y ≡ size c) where
  pub sorted_by_cost : (i : ℕ) → i < size c → let ws : List (List ℕ) = families (children c i) (live (code_transform c) c y l i) in
      sort_by (ahead (score_of (code_transform c) c y l)) ws ≡ sort_by (cheaper (code_cost c y)) ws
  sorted_by_cost i h =
      sort_same {P = Prefix (suc i)} (ahead (score_of (code_transform c) c y l)) (cheaper (code_cost c y))
      (λ v w p q. ahead_cheaper c y ey v w p.bits q.bits (omega (arith, p.long)) (omega (arith, q.long)))
      (family_prefix (code_transform c) c y l i)

  pub live_by_cost : (i : ℕ) → i < size c
      → live (code_transform c) c y l (suc i) ≡ take l (sort_by (cheaper (code_cost c y)) (families (children c i) (live (code_transform c) c y l i)))
  unfolding live_by
  live_by_cost i h = ap (take l) (sorted_by_cost i h)

-- at each rank
pub all_at : {A : Type 0} {P : A → Type 0} (d : A) {xs : List A} → All P xs → (r : ℕ) → r < length xs → P (get_or xs r d)
all_at d none r h = absurd (omega arith)
all_at d (more p a) zero h = p
all_at d (more p a) (suc r) h = all_at d a r (omega arith)
