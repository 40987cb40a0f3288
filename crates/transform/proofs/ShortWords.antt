-- Words of four bits, as numbers below 16. Assumes nothing.
use mathlib.Core.Path.{◌≡◌, sym, ap, ap₂, ◌∙◌}
use mathlib.Core.Bool.{Bool, true, false}
use mathlib.Core.List.{List, [], ◌∷◌}
use Prim.Native.Nat.{ℕ, ◌+◌, ◌*◌, ◌/◌, ◌%◌, ◌<◌}
use native.Mathlib.Omega.{arith}
use lib.Dec.{eqb, eqb→eq}
use lib.ListN.{length, get_or, set, replicate}
use Rattle.spec.specs.Bits.{Bits, bits_of, packed}
use Rattle.spec.specs.Transform.{transform, inverse, table_entry}
use Rattle.laws.specs.BitLaws.{packed_lt, bits_of_packed}
use Rattle.laws.specs.Inverse.{length_transform, bits_transform, bits_inverse, length_inverse}
use Rattle.transform.specs.Strided.{Strided, picked, placed, transform_at, inverse_at, turned_at}
use Rattle.transform.specs.Word.{turned_entry}
use Rattle.laws.specs.EveryEntry.{at}
use Rattle.transform.proofs.Strides.{length_picked, bits_picked, set_before, next_pair}

-- ---- the four places of a word
module _ (at d : ℕ) (s : List ℕ) where
  fourth : at + d + d + d ≡ at + 3 * d
  fourth = omega arith

  pub packed_four : get_or s at 0 + 2 * (get_or s (at + d) 0 + 2 * (get_or s (at + 2 * d) 0 + 2 * get_or s (at + 3 * d) 0)) ≡ packed (picked at d 4 s)
  unfolding packed
  packed_four =
      ap₂ (λ (p q : ℕ). get_or s at 0 + 2 * (get_or s (at + d) 0 + 2 * (get_or s p 0 + 2 * get_or s q 0))) (sym (next_pair at d)) (sym fourth) ∙ (omega arith)

  -- they are written from the first to the last
  placed_four : (a b c e : ℕ) → 0 < d
      → set (set (set (set s at a) (at + d) b) (at + 2 * d) c) (at + 3 * d) e ≡ placed at d (a ∷ b ∷ c ∷ e ∷ []) s
  placed_four a b c e h =
      ap₂ (λ (p q : ℕ). set (set (set (set s at a) (at + d) b) p c) q e) (sym (next_pair at d)) (sym fourth)
      ∙ set_before (at + d + d + d) d (e ∷ []) (set (set s at a) (at + d) b) (at + d + d) c (omega arith)
      ∙ set_before (at + d + d) d (c ∷ e ∷ []) (set s at a) (at + d) b (omega arith)
      ∙ set_before (at + d) d (b ∷ c ∷ e ∷ []) s at a (omega arith)

  pub bits_four : (x : ℕ) → 0 < d → x < 16
      → set (set (set (set s at (x % 2)) (at + d) (x / 2 % 2)) (at + 2 * d) (x / 2 / 2 % 2)) (at + 3 * d) (x / 2 / 2 / 2) ≡ placed at d (bits_of 4 x) s
  unfolding bits_of
  bits_four x h l =
      let top : x / 2 / 2 / 2 ≡ x / 2 / 2 / 2 % 2 = omega arith in
      ap (set (set (set (set s at (x % 2)) (at + d) (x / 2 % 2)) (at + 2 * d) (x / 2 / 2 % 2)) (at + 3 * d)) top
      ∙ placed_four (x % 2) (x / 2 % 2) (x / 2 / 2 % 2) (x / 2 / 2 / 2 % 2) h

-- ---- by the table
-- the table taken three times is the inverse: one test at each of the 16 numbers
thrice : ℕ → ℕ → Bool
thrice k x = eqb (table_entry (table_entry (table_entry k))) (packed (inverse 2 (bits_of 4 k)))

thrice_is : (k : ℕ) → k < 16 → table_entry (table_entry (table_entry k)) ≡ packed (inverse 2 (bits_of 4 k))
unfolding thrice table_entry transform inverse bits_of packed
thrice_is k h = eqb→eq (table_entry (table_entry (table_entry k))) (packed (inverse 2 (bits_of 4 k))) (at thrice (replicate 16 0) tt k h)

module _ {s : List ℕ} (p : Bits s) (e : length s ≡ 4) where
  back : bits_of 4 (packed s) ≡ s
  back = rw e at (bits_of_packed p)

  packed_fits : packed s < 16
  packed_fits = rw e at (packed_lt p)

  transform_four : bits_of 4 (table_entry (packed s)) ≡ transform 2 s
  unfolding table_entry
  transform_four =
      let l : length (transform 2 s) ≡ 4 = length_transform 2 s e in
      rw back (rw l at (bits_of_packed (bits_transform 2 p)))

  inverse_four : bits_of 4 (table_entry (table_entry (table_entry (packed s)))) ≡ inverse 2 s
  inverse_four =
      let l : length (inverse 2 s) ≡ 4 = length_inverse 2 s e in
      ap (bits_of 4) (thrice_is (packed s) packed_fits ∙ ap (λ (w : List ℕ). packed (inverse 2 w)) back)
      ∙ (rw l at (bits_of_packed (bits_inverse 2 p)))

-- ---- the same where the word lies
module _ {at d : ℕ} {s : List ℕ} (g : Strided 4 at d s) where
  transform_four_at : placed at d (bits_of 4 (table_entry (packed (picked at d 4 s)))) s ≡ transform_at at d 2 s
  transform_four_at = ap (λ (w : List ℕ). placed at d w s) (transform_four (bits_picked at d 4 g.bits) (length_picked at d 4 s))

  inverse_four_at : placed at d (bits_of 4 (table_entry (table_entry (table_entry (packed (picked at d 4 s)))))) s ≡ inverse_at at d 2 s
  inverse_four_at = ap (λ (w : List ℕ). placed at d w s) (inverse_four (bits_picked at d 4 g.bits) (length_picked at d 4 s))

  pub turned_four_at : (b : Bool) → placed at d (bits_of 4 (turned_entry b (packed (picked at d 4 s)))) s ≡ turned_at b at d 2 s
  turned_four_at true = inverse_four_at
  turned_four_at false = transform_four_at
