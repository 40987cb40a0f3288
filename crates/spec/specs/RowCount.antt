-- The row count at stop position p is min(l, 2 ^ q), where q positions below p are clear.
use Rattle.std.specs.Prelude.{◌≡◌, refl, Bool, true, false, cond, length, take, ℤ}
use Rattle.std.proofs.Common.{sym, ◌∙◌, pow-suc, length-append}
use Rattle.std.proofs.Math.Path.{ap}
use mathlib.Core.List.{List, [], ◌∷◌}
use Prim.Native.Nat.{ℕ, zero, suc, ◌*◌, ◌/◌, ◌^◌, ◌≤◌, ◌<◌, min}
use native.Mathlib.Omega.{arith}
use Rattle.std.proofs.Math.ListN.{get_or, length-take}
use Rattle.std.proofs.lemmas.List.{length-map}
use Rattle.spec.specs.Bits.{bits_of, unpacked}
use Rattle.spec.specs.Code.{Code, size, map_bytes, frozen, clear, frozen_bit}
use Rattle.spec.specs.Decoder.{insert_by, sort_by, ahead, continued, children, families, live_by, score_of, live, rows, row_of}

-- ---- a sort keeps the length
module _ {A : Type 0} (le : A → A → Bool) where
  length_insert : (x : A) (ys : List A) → length (insert_by le x ys) ≡ suc (length ys)
  length_insert x [] = refl
  length_insert x (y ∷ ys) = go (le x y) (length_insert x ys)
    where
      go : (b : Bool) → length (insert_by le x ys) ≡ suc (length ys) → length (cond b (x ∷ y ∷ ys) (y ∷ insert_by le x ys)) ≡ suc (suc (length ys))
      go true ih = refl
      go false ih = ap suc ih

  pub length_sort : (xs : List A) → length (sort_by le xs) ≡ length xs
  length_sort [] = refl
  length_sort (x ∷ xs) = length_insert x (sort_by le xs) ∙ ap suc (length_sort xs)

-- ---- how many children there are, by the flag of the position
abbrev pub kept : ℕ → ℕ → ℕ
kept zero q = suc q
kept (suc f) q = q

times : ℕ → ℕ → ℕ
times zero n = 2 * n
times (suc f) n = n

-- whatever bit each prefix goes on with
length_families : (f : ℕ) (b : List ℕ → ℕ) (ws : List (List ℕ)) → length (families (λ w. continued f (b w) w) ws) ≡ times f (length ws)
unfolding times
length_families zero b [] = refl
length_families (suc f) b [] = refl
length_families zero b (w ∷ ws) = omega (arith, length_families zero b ws)
length_families (suc f) b (w ∷ ws) = ap suc (length_families (suc f) b ws)

cut_times : (f l q n : ℕ) → n ≡ min l (2 ^ q) → min l (times f n) ≡ min l (2 ^ kept f q)
unfolding times
cut_times zero l q n e = omega (arith, pow-suc 2 q)
cut_times (suc f) l q n e = omega arith

-- one flag more
clear_suc : (fs : List ℕ) (i : ℕ) → i < length fs → clear (take (suc i) fs) ≡ kept (get_or fs i 0) (clear (take i fs))
clear_suc [] i h = absurd (omega arith)
clear_suc (zero ∷ fs) zero h = refl
clear_suc (suc f ∷ fs) zero h = refl
clear_suc (zero ∷ fs) (suc i) h = ap suc (clear_suc fs i (omega arith)) ∙ sym (kept_suc (get_or fs i 0) (clear (take i fs)))
  where
    kept_suc : (f q : ℕ) → kept f (suc q) ≡ suc (kept f q)
    kept_suc zero q = refl
    kept_suc (suc f) q = refl
clear_suc (suc f ∷ fs) (suc i) h = clear_suc fs i (omega arith)

module _ (T : List ℕ → List ℕ) (c : Code) (y : List ℤ) (l : ℕ) (l≥1 : 1 ≤ l) where
  pub length_live : (p : ℕ) → p ≤ length (frozen c) → length (live T c y l p) ≡ min l (2 ^ clear (take p (frozen c)))
  unfolding live_by children
  length_live zero h = omega arith
  length_live (suc i) h =
      let ws : List (List ℕ) = live T c y l i in
      let f : ℕ = get_or (frozen c) i 0 in
      let kids : List ℕ → List (List ℕ) = λ w. continued f (frozen_bit c i w) w in
      length-take l (sort_by (ahead (score_of T c y l)) (families kids ws))
      ∙ ap (min l) (length_sort (ahead (score_of T c y l)) (families kids ws) ∙ length_families f (frozen_bit c i) ws)
      ∙ cut_times f l (clear (take i (frozen c))) (length ws) (length_live i (omega arith))
      ∙ ap (λ (q : ℕ). min l (2 ^ q)) (sym (clear_suc (frozen c) i h))

-- ---- an accepted map has a flag for each of the n positions
pub length_bits_of : (d n : ℕ) → length (bits_of d n) ≡ d
unfolding bits_of
length_bits_of zero n = refl
length_bits_of (suc d) n = ap suc (length_bits_of d (n / 2))

pub length_unpacked : (s : List ℕ) → length (unpacked s) ≡ 8 * length s
unfolding unpacked
length_unpacked [] = refl
length_unpacked (x ∷ s) = simp (length-append, length_bits_of) (omega (arith, length_unpacked s))

pub length_frozen : (c : Code) → length c.map ≡ map_bytes (size c) → length (frozen c) ≡ size c
unfolding frozen
length_frozen c e = length-take (size c) (unpacked c.map) ∙ omega (arith, length_unpacked c.map, e)

pub row_count : (T : List ℕ → List ℕ) (c : Code) (y : List ℤ) (l p : ℕ) → 1 ≤ l → length c.map ≡ map_bytes (size c) → p ≤ size c
    → length (rows T c y l p) ≡ min l (2 ^ clear (take p (frozen c)))
unfolding rows
row_count T c y l p h e hp =
    length-map (live T c y l p) (row_of T c y l) ∙ length_live T c y l h p (omega (arith, length_frozen c e))
