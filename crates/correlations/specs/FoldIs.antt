-- Folding the bins of a word's soft values gives the correlations of the word plus each sum of the words that name the columns. Assumes
-- nothing.
use Rattle.std.specs.Prelude.{◌≡◌, ℕ, zero, suc, ◌+◌, ◌^◌, ◌<◌, List, [], ◌∷◌, ◌++◌, map, length, take, drop, replicate, ℤ, pos, ◌+ℤ◌, ◌-ℤ◌, neg_ℤ, refl}
use Rattle.std.proofs.Math.Path.{sym, ap, ap₂}
use Rattle.std.proofs.Common.{◌∙◌, suc-add, zero-add, not-suc-le-zero, le_of_suc-le-suc, arith, take_at, drop_at}
use Rattle.std.proofs.lemmas.List.{map-append, length-replicate, replicate-append-replicate}
use Rattle.std.proofs.Math.Nat.{suc_inj}
use Rattle.std.proofs.Math.IntN.{+ℤ_assoc, +ℤ_comm, +ℤ_idl, neg_ℤ-+ℤ, neg_ℤ-neg_ℤ}
use Rattle.spec.specs.Bits.{Bits, ◌⊕◌}
use Rattle.spec.specs.Transform.{added}
use Rattle.spec.specs.Score.{signed, correlation}
use Rattle.laws.specs.ListCost.{All, none, more}
use Rattle.correlations.specs.Folding.{sums, differences, folded, add_at, binned, signed_by, weighed, columns, spanned}

-- ---- a number added to one of two
add_first : (a b z : ℤ) → (a +ℤ z) +ℤ b ≡ (a +ℤ b) +ℤ z
add_first a b z = +ℤ_assoc a z b ∙ ap (λ (x : ℤ). a +ℤ x) (+ℤ_comm z b) ∙ sym (+ℤ_assoc a b z)

subtract_second : (a b z : ℤ) → a -ℤ (b +ℤ z) ≡ (a -ℤ b) +ℤ neg_ℤ z
subtract_second a b z = ap (λ (x : ℤ). a +ℤ x) (neg_ℤ-+ℤ b z) ∙ sym (+ℤ_assoc a (neg_ℤ b) (neg_ℤ z))

-- ---- and at a place of one of two lists
sums_first : (c : ℕ) (z : ℤ) (u v : List ℤ) → sums (add_at c z u) v ≡ add_at c z (sums u v)
sums_first c z [] v = refl
sums_first zero z (a ∷ u) [] = refl
sums_first (suc c) z (a ∷ u) [] = refl
sums_first zero z (a ∷ u) (b ∷ v) = ap (λ (x : ℤ). x ∷ sums u v) (add_first a b z)
sums_first (suc c) z (a ∷ u) (b ∷ v) = ap (λ (l : List ℤ). (a +ℤ b) ∷ l) (sums_first c z u v)

sums_second : (c : ℕ) (z : ℤ) (u v : List ℤ) → sums u (add_at c z v) ≡ add_at c z (sums u v)
sums_second c z [] v = refl
sums_second c z (a ∷ u) [] = refl
sums_second zero z (a ∷ u) (b ∷ v) = ap (λ (x : ℤ). x ∷ sums u v) (sym (+ℤ_assoc a b z))
sums_second (suc c) z (a ∷ u) (b ∷ v) = ap (λ (l : List ℤ). (a +ℤ b) ∷ l) (sums_second c z u v)

differences_first : (c : ℕ) (z : ℤ) (u v : List ℤ) → differences (add_at c z u) v ≡ add_at c z (differences u v)
differences_first c z [] v = refl
differences_first zero z (a ∷ u) [] = refl
differences_first (suc c) z (a ∷ u) [] = refl
differences_first zero z (a ∷ u) (b ∷ v) = ap (λ (x : ℤ). x ∷ differences u v) (add_first a (neg_ℤ b) z)
differences_first (suc c) z (a ∷ u) (b ∷ v) = ap (λ (l : List ℤ). (a -ℤ b) ∷ l) (differences_first c z u v)

differences_second : (c : ℕ) (z : ℤ) (u v : List ℤ) → differences u (add_at c z v) ≡ add_at c (neg_ℤ z) (differences u v)
differences_second c z [] v = refl
differences_second c z (a ∷ u) [] = refl
differences_second zero z (a ∷ u) (b ∷ v) = ap (λ (x : ℤ). x ∷ differences u v) (subtract_second a b z)
differences_second (suc c) z (a ∷ u) (b ∷ v) = ap (λ (l : List ℤ). (a -ℤ b) ∷ l) (differences_second c z u v)

-- ---- a number added in the first h places, and behind them
take_add : (c h : ℕ) (z : ℤ) (s : List ℤ) → c < h → take h (add_at c z s) ≡ add_at c z (take h s)
take_add c zero z s l = absurd (not-suc-le-zero l)
take_add c (suc h) z [] l = refl
take_add zero (suc h) z (a ∷ s) l = refl
take_add (suc c) (suc h) z (a ∷ s) l = ap (λ (t : List ℤ). a ∷ t) (take_add c h z s (le_of_suc-le-suc l))

drop_add : (c h : ℕ) (z : ℤ) (s : List ℤ) → c < h → drop h (add_at c z s) ≡ drop h s
drop_add c zero z s l = absurd (not-suc-le-zero l)
drop_add c (suc h) z [] l = refl
drop_add zero (suc h) z (a ∷ s) l = refl
drop_add (suc c) (suc h) z (a ∷ s) l = drop_add c h z s (le_of_suc-le-suc l)

take_add_past : (h c : ℕ) (z : ℤ) (s : List ℤ) → take h (add_at (h + c) z s) ≡ take h s
take_add_past zero c z s = refl
take_add_past (suc h) c z [] = refl
take_add_past (suc h) c z (a ∷ s) = rw (suc-add h c) (ap (λ (t : List ℤ). a ∷ t) (take_add_past h c z s))

drop_add_past : (h c : ℕ) (z : ℤ) (s : List ℤ) → drop h (add_at (h + c) z s) ≡ add_at c z (drop h s)
drop_add_past zero c z s = ap (λ (k : ℕ). add_at k z s) (zero-add c)
drop_add_past (suc h) c z [] = refl
drop_add_past (suc h) c z (a ∷ s) = rw (suc-add h c) (drop_add_past h c z s)

-- ---- bins in two halves of h places: a number goes to the first half where the word g has 0, and to the second where it has 1
module _ (h : ℕ) where
  abbrev half_sums : List ℤ → List ℤ
  half_sums s = sums (take h s) (drop h s)

  abbrev half_differences : List ℤ → List ℤ
  half_differences s = differences (take h s) (drop h s)

  -- the sums of the halves are the bins by the other words
  sums_binned : (g : List ℕ) {cs : List ℕ} (zs s : List ℤ) → length g ≡ length cs → All (λ (c : ℕ). c < h) cs
      → half_sums (binned (weighed h g cs) zs s) ≡ binned cs zs (half_sums s)
  sums_binned [] zs s e none = refl
  sums_binned (b ∷ g) zs s e none = refl
  sums_binned [] zs s e (more l a) = absurd (omega (arith, e))
  sums_binned (zero ∷ g) [] s e (more l a) = refl
  sums_binned (suc b ∷ g) [] s e (more l a) = refl
  sums_binned (zero ∷ g) (z ∷ zs) s e (more {x = c} {xs = cs} l a) =
      sums_binned g zs (add_at c z s) (suc_inj e) a
      ∙ ap (binned cs zs) (ap₂ sums (take_add c h z s l) (drop_add c h z s l) ∙ sums_first c z (take h s) (drop h s))
  sums_binned (suc b ∷ g) (z ∷ zs) s e (more {x = c} {xs = cs} l a) =
      sums_binned g zs (add_at (h + c) z s) (suc_inj e) a
      ∙ ap (binned cs zs) (ap₂ sums (take_add_past h c z s) (drop_add_past h c z s) ∙ sums_second c z (take h s) (drop h s))

  -- and their differences those of the numbers negated where g has 1
  differences_binned : (g : List ℕ) {cs : List ℕ} (zs s : List ℤ) → length g ≡ length cs → All (λ (c : ℕ). c < h) cs
      → half_differences (binned (weighed h g cs) zs s) ≡ binned cs (signed_by zs g) (half_differences s)
  differences_binned [] zs s e none = refl
  differences_binned (b ∷ g) zs s e none = refl
  differences_binned [] zs s e (more l a) = absurd (omega (arith, e))
  differences_binned (zero ∷ g) [] s e (more l a) = refl
  differences_binned (suc b ∷ g) [] s e (more l a) = refl
  differences_binned (zero ∷ g) (z ∷ zs) s e (more {x = c} {xs = cs} l a) =
      differences_binned g zs (add_at c z s) (suc_inj e) a
      ∙ ap (binned cs (signed_by zs g))
      (ap₂ differences (take_add c h z s l) (drop_add c h z s l) ∙ differences_first c z (take h s) (drop h s))
  differences_binned (suc b ∷ g) (z ∷ zs) s e (more {x = c} {xs = cs} l a) =
      differences_binned g zs (add_at (h + c) z s) (suc_inj e) a
      ∙ ap (binned cs (signed_by zs g))
      (ap₂ differences (take_add_past h c z s) (drop_add_past h c z s) ∙ differences_second c z (take h s) (drop h s))

-- ---- numbers negated by one word and then by another are negated by the sum of the two
signed_twice : (y : ℤ) (b c : ℕ) → signed (signed y b) c ≡ signed y (b ⊕ c)
signed_twice y b zero = refl
signed_twice y zero (suc c) = refl
signed_twice y (suc b) (suc c) = neg_ℤ-neg_ℤ y

signed_by_twice : (y : List ℤ) (w g : List ℕ) → signed_by (signed_by y w) g ≡ signed_by y (added w g)
signed_by_twice [] w g = refl
signed_by_twice (y ∷ ys) [] g = refl
signed_by_twice (y ∷ ys) (b ∷ w) [] = refl
signed_by_twice (y ∷ ys) (b ∷ w) (c ∷ g) = ap₂ (λ (x : ℤ) (l : List ℤ). x ∷ l) (signed_twice y b c) (signed_by_twice ys w g)

-- ---- bins that hold nothing
sums_zero : (n : ℕ) → sums (replicate n (pos 0)) (replicate n (pos 0)) ≡ replicate n (pos 0)
sums_zero zero = refl
sums_zero (suc n) = ap (λ (l : List ℤ). pos 0 ∷ l) (sums_zero n)

differences_zero : (n : ℕ) → differences (replicate n (pos 0)) (replicate n (pos 0)) ≡ replicate n (pos 0)
differences_zero zero = refl
differences_zero (suc n) = ap (λ (l : List ℤ). pos 0 ∷ l) (differences_zero n)

module _ (r : ℕ) where
  abbrev zeros : List ℤ
  zeros = replicate (2 ^ suc r) (pos 0)

  halves : zeros ≡ replicate (2 ^ r) (pos 0) ++ replicate (2 ^ r) (pos 0)
  halves =
      let e : 2 ^ suc r ≡ 2 ^ r + 2 ^ r = omega arith in
      ap (λ (k : ℕ). replicate k (pos 0)) e ∙ sym (replicate-append-replicate (2 ^ r) (2 ^ r) (pos 0))

  first_zeros : take (2 ^ r) zeros ≡ replicate (2 ^ r) (pos 0)
  first_zeros =
      ap (take (2 ^ r)) halves
      ∙ take_at (replicate (2 ^ r) (pos 0)) (replicate (2 ^ r) (pos 0)) (2 ^ r) (length-replicate (2 ^ r) (pos 0))

  second_zeros : drop (2 ^ r) zeros ≡ replicate (2 ^ r) (pos 0)
  second_zeros =
      ap (drop (2 ^ r)) halves
      ∙ drop_at (replicate (2 ^ r) (pos 0)) (replicate (2 ^ r) (pos 0)) (2 ^ r) (length-replicate (2 ^ r) (pos 0))

-- ---- the columns of n positions
length_weighed : (h : ℕ) (g cs : List ℕ) → length g ≡ length cs → length (weighed h g cs) ≡ length cs
length_weighed h [] [] e = refl
length_weighed h [] (c ∷ cs) e = absurd (omega (arith, e))
length_weighed h (b ∷ g) [] e = refl
length_weighed h (zero ∷ g) (c ∷ cs) e = ap suc (length_weighed h g cs (suc_inj e))
length_weighed h (suc b ∷ g) (c ∷ cs) e = ap suc (length_weighed h g cs (suc_inj e))

weighed_below : (h k : ℕ) → k ≡ h + h → (g : List ℕ) {cs : List ℕ} → All (λ (c : ℕ). c < h) cs → All (λ (c : ℕ). c < k) (weighed h g cs)
weighed_below h k e [] a = none
weighed_below h k e (b ∷ g) none = none
weighed_below h k e (zero ∷ g) (more {x = c} l a) = more {x = c} (omega (arith, l)) (weighed_below h k e g a)
weighed_below h k e (suc b ∷ g) (more {x = c} l a) = more {x = h + c} (omega (arith, l)) (weighed_below h k e g a)

zeros_below : (n : ℕ) → All (λ (c : ℕ). c < 1) (replicate n 0)
zeros_below zero = none
zeros_below (suc n) = more {x = 0} (omega arith) (zeros_below n)

pub length_columns : (n : ℕ) (gs : List (List ℕ)) → All (λ (g : List ℕ). length g ≡ n) gs → length (columns n gs) ≡ n
unfolding columns
length_columns n [] a = length-replicate n 0
length_columns n (g ∷ gs) (more e a) =
    length_weighed (2 ^ length gs) g (columns n gs) (e ∙ sym (length_columns n gs a)) ∙ length_columns n gs a

pub columns_below : (n : ℕ) (gs : List (List ℕ)) → All (λ (g : List ℕ). length g ≡ n) gs
    → All (λ (c : ℕ). c < 2 ^ length gs) (columns n gs)
unfolding columns
columns_below n [] a = zeros_below n
columns_below n (g ∷ gs) (more e a) = weighed_below (2 ^ length gs) (2 ^ suc (length gs)) (omega arith) g (columns_below n gs a)

-- ---- one bin: all numbers are added up in it
one_bin : (y : List ℤ) (w : List ℕ) (z : ℤ) → binned (replicate (length y) 0) (signed_by y w) (z ∷ []) ≡ (z +ℤ correlation y w) ∷ []
one_bin [] w z = ap (λ (x : ℤ). x ∷ []) (sym (+ℤ_comm z (pos 0) ∙ +ℤ_idl z))
one_bin (y ∷ ys) [] z = ap (λ (x : ℤ). x ∷ []) (sym (+ℤ_comm z (pos 0) ∙ +ℤ_idl z))
one_bin (y ∷ ys) (b ∷ w) z =
    one_bin ys w (z +ℤ signed y b) ∙ ap (λ (x : ℤ). x ∷ []) (+ℤ_assoc z (signed y b) (correlation ys w))

module _ (y : List ℤ) where
  all_sums : (w : List ℕ) (gs : List (List ℕ)) → All (λ (g : List ℕ). length g ≡ length y) gs
      → folded (length gs) (binned (columns (length y) gs) (signed_by y w) (replicate (2 ^ length gs) (pos 0)))
      ≡ map (correlation y) (spanned w gs)
  unfolding folded columns spanned
  all_sums w [] a = one_bin y w (pos 0) ∙ ap (λ (x : ℤ). x ∷ []) (+ℤ_idl (correlation y w))
  all_sums w (g ∷ gs) (more e a) =
      let r : ℕ = length gs in
      let cs : List ℕ = columns (length y) gs in
      let el : length g ≡ length cs = e ∙ sym (length_columns (length y) gs a) in
      let below : All (λ (c : ℕ). c < 2 ^ r) cs = columns_below (length y) gs a in
      let s : List ℤ = zeros r in
      ap₂ (λ (u v : List ℤ). folded r u ++ folded r v)
      (sums_binned (2 ^ r) g (signed_by y w) s el below
      ∙ ap (binned cs (signed_by y w)) (ap₂ sums (first_zeros r) (second_zeros r) ∙ sums_zero (2 ^ r)))
      (differences_binned (2 ^ r) g (signed_by y w) s el below
      ∙ ap₂ (binned cs) (signed_by_twice y w g) (ap₂ differences (first_zeros r) (second_zeros r) ∙ differences_zero (2 ^ r)))
      ∙ ap₂ ◌++◌ (all_sums w gs a) (all_sums (added w g) gs a)
      ∙ sym (map-append (correlation y) (spanned w gs) (spanned (added w g) gs))

pub fold_is : (y : List ℤ) (w : List ℕ) (gs : List (List ℕ)) → length w ≡ length y → Bits w → All (λ (g : List ℕ). length g ≡ length y) gs
    → All Bits gs
    → folded (length gs) (binned (columns (length y) gs) (signed_by y w) (replicate (2 ^ length gs) (pos 0)))
    ≡ map (correlation y) (spanned w gs)
fold_is y w gs e t a b = all_sums y w gs a
