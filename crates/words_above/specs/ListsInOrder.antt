-- Lists whose elements stand in an order, through an append, a test and a map; and what a test leaves of a list.
use Rattle.std.specs.Prelude.{◌≡◌, refl, Bool, true, false, cond, List, [], ◌∷◌, ◌++◌, map, ℕ, zero, suc, ◌<◌, length, get_or, T}
use Rattle.std.proofs.Common.{arith}
use Rattle.spec.specs.WordsAbove.{kept}
use Rattle.laws.specs.ListCost.{All, none, more, all_append, all_map, all_under, all_at}
use Rattle.search.specs.ListSearch.{In, here, there}

-- ---- what a test leaves
module _ {A : Type 0} (p : A → Bool) where
  pub all_kept : {P : A → Type 0} {xs : List A} → All (λ (x : A). T (p x) → P x) xs → All P (kept p xs)
  all_kept none = none
  all_kept {P} (more {x} {xs} h a) = go (p x) h (all_kept a)
    where
      go : (b : Bool) → (T b → P x) → All P (kept p xs) → All P (cond b (x ∷ kept p xs) (kept p xs))
      go true h ih = more (h tt) ih
      go false h ih = ih

  pub in_kept : {x : A} {xs : List A} → In x xs → T (p x) → In x (kept p xs)
  in_kept {x} (here {xs}) t = go (p x) t
    where
      go : (b : Bool) → T b → In x (cond b (x ∷ kept p xs) (kept p xs))
      go true t = here
      go false t = absurd t
  in_kept {x} (there {y} {xs} i) t = go (p y) (in_kept i t)
    where
      go : (b : Bool) → In x (kept p xs) → In x (cond b (y ∷ kept p xs) (kept p xs))
      go true j = there j
      go false j = j

pub in_map : {A B : Type 0} (f : A → B) {x : A} {xs : List A} → In x xs → In (f x) (map f xs)
in_map f here = here
in_map f (there i) = there (in_map f i)

-- where a member stands
pub record Place {A : Type 0} (x : A) (xs : List A) (d : A) : Type 0 where
  pub at : ℕ
  pub inside : at < length xs
  pub is : get_or xs at d ≡ x

pub place_of : {A : Type 0} (d : A) {x : A} {xs : List A} → In x xs → Place x xs d
place_of d here = record { at = 0; inside = omega arith; is = refl }
place_of d (there i) = let p = place_of d i in record { at = suc p.at; inside = omega (arith, p.inside); is = p.is }

-- ---- every element stands in R to all that follow it
pub data Ordered {A : Type 0} (R : A → A → Type 0) : List A → Type 0 where
  end : Ordered R []
  next : {x : A} {xs : List A} → All (R x) xs → Ordered R xs → Ordered R (x ∷ xs)

module _ {A : Type 0} {R : A → A → Type 0} where
  pub ordered_append : {xs ys : List A} → Ordered R xs → Ordered R ys → All (λ (x : A). All (R x) ys) xs → Ordered R (xs ++ ys)
  ordered_append end q none = q
  ordered_append (next a p) q (more h b) = next (all_append a h) (ordered_append p q b)

  pub ordered_kept : (p : A → Bool) {xs : List A} → Ordered R xs → Ordered R (kept p xs)
  ordered_kept p end = end
  ordered_kept p (next {x} {xs} a q) = go (p x) (all_kept p (all_map (λ y h t. h) a)) (ordered_kept p q)
    where
      go : (b : Bool) → All (R x) (kept p xs) → Ordered R (kept p xs) → Ordered R (cond b (x ∷ kept p xs) (kept p xs))
      go true h ih = next h ih
      go false h ih = ih

  -- by places: the one that is further in front stands in R to the other
  pub ordered_at : (d : A) {xs : List A} → Ordered R xs → (i j : ℕ) → i < j → j < length xs → R (get_or xs i d) (get_or xs j d)
  ordered_at d end i j h k = absurd (omega arith)
  ordered_at d (next a q) i zero h k = absurd (omega arith)
  ordered_at d (next a q) zero (suc j) h k = all_at d a j (omega arith)
  ordered_at d (next a q) (suc i) (suc j) h k = ordered_at d q i j (omega arith) (omega arith)

pub ordered_map : {A B : Type 0} (f : A → B) {R : B → B → Type 0} {xs : List A} → Ordered (λ (x y : A). R (f x) (f y)) xs → Ordered R (map f xs)
ordered_map f end = end
ordered_map f {R} (next {x} a q) = next (all_under f (R (f x)) a) (ordered_map f q)
