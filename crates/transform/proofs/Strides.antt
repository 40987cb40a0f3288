-- Words at a stride: what is placed is picked again, and of two words that lie between each other neither disturbs the other.
-- Assumes nothing.
use mathlib.Core.Path.{◌≡◌, refl, sym, ap, ap₂, ◌∙◌}
use mathlib.Core.List.{List, [], ◌∷◌, ◌++◌, append-nil}
use Prim.Native.Nat.{ℕ, zero, suc, ◌+◌, ◌-◌, ◌*◌, ◌<◌}
use native.Mathlib.Omega.{arith}
use native.Mathlib.Numerals.{add-one}
use lib.ListN.{length, take, drop, get_or, set, length-set, drop_of_length-le}
use lib.Seq.{get_or-set_same, get_or-set_other, set-set, set_comm, drop-cons, take_all, take-suc, length-take-le, append_snoc, set_at}
use Rattle.spec.specs.Bits.{Bits, nil, cons}
use Rattle.spec.specs.Transform.{interleave, evens, odds}
use Rattle.laws.specs.BitLaws.{bits_at}
use Rattle.transform.specs.Strided.{picked, placed}

-- ---- lengths and bits
pub length_picked : (at d k : ℕ) (s : List ℕ) → length (picked at d k s) ≡ k
length_picked at d zero s = refl
length_picked at d (suc k) s = ap suc (length_picked (at + d) d k s)

pub length_placed : (at d : ℕ) (w s : List ℕ) → length (placed at d w s) ≡ length s
length_placed at d [] s = refl
length_placed at d (x ∷ w) s = length-set (placed (at + d) d w s) at x ∙ length_placed (at + d) d w s

pub bits_picked : {s : List ℕ} (at d k : ℕ) → Bits s → Bits (picked at d k s)
bits_picked at d zero b = nil
bits_picked at d (suc k) b = cons (bits_at b at) (bits_picked (at + d) d k b)

pub bits_set : {s : List ℕ} (i x : ℕ) → x < 2 → Bits s → Bits (set s i x)
bits_set i x h nil = nil
bits_set zero x h (cons a b) = cons h b
bits_set (suc i) x h (cons a b) = cons a (bits_set i x h b)

pub bits_placed : {w s : List ℕ} (at d : ℕ) → Bits w → Bits s → Bits (placed at d w s)
bits_placed at d nil b = b
bits_placed at d (cons {x = x} h p) b = bits_set at x h (bits_placed (at + d) d p b)

-- ---- a place before a word
pub get_before : (at d : ℕ) (w s : List ℕ) (j : ℕ) → j < at → get_or (placed at d w s) j 0 ≡ get_or s j 0
get_before at d [] s j h = refl
get_before at d (x ∷ w) s j h =
    get_or-set_other (placed (at + d) d w s) at j x 0 (λ (e : j ≡ at). omega arith) ∙ get_before (at + d) d w s j (omega arith)

pub set_before : (at d : ℕ) (w s : List ℕ) (j v : ℕ) → j < at → placed at d w (set s j v) ≡ set (placed at d w s) j v
set_before at d [] s j v h = refl
set_before at d (x ∷ w) s j v h =
    ap (λ (t : List ℕ). set t at x) (set_before (at + d) d w s j v (omega arith))
    ∙ set_comm (placed (at + d) d w s) j at v x (λ (e : j ≡ at). omega arith)

pub picked_set : (at d k : ℕ) (s : List ℕ) (j v : ℕ) → j < at → picked at d k (set s j v) ≡ picked at d k s
picked_set at d zero s j v h = refl
picked_set at d (suc k) s j v h =
    ap₂ ◌∷◌ (get_or-set_other s j at v 0 (λ (e : at ≡ j). omega arith)) (picked_set (at + d) d k s j v (omega arith))

-- ---- one word
pub placed_again : (at d : ℕ) (v w s : List ℕ) → 0 < d → length v ≡ length w → placed at d w (placed at d v s) ≡ placed at d w s
placed_again at d [] [] s p e = refl
placed_again at d [] (x ∷ w) s p e = absurd (omega (arith, e))
placed_again at d (y ∷ v) [] s p e = absurd (omega (arith, e))
placed_again at d (y ∷ v) (x ∷ w) s p e =
    let after : List ℕ = placed (at + d) d v s in
    ap (λ (t : List ℕ). set t at x) (set_before (at + d) d w after at y (omega arith))
    ∙ set-set (placed (at + d) d w after) at y x
    ∙ ap (λ (t : List ℕ). set t at x) (placed_again (at + d) d v w s p (omega (arith, e)))

-- its last place lies in the slice
pub picked_placed : (at d : ℕ) (w s : List ℕ) → 0 < d → at + d * length w < length s + d → picked at d (length w) (placed at d w s) ≡ w
picked_placed at d [] s p h = refl
picked_placed at d (x ∷ w) s p h =
    let after : List ℕ = placed (at + d) d w s in
    let more : d * suc (length w) ≡ d * length w + d = omega arith in
    let in_slice : at < length after = omega (arith, length_placed (at + d) d w s, more) in
    ap₂ ◌∷◌ (get_or-set_same after at x 0 in_slice)
    (picked_set (at + d) d (length w) after at x (omega arith) ∙ picked_placed (at + d) d w s p (omega (arith, more)))

-- ---- two words at one stride, each between the places of the other
module _ (d : ℕ) where
  pub picked_second : (a b k : ℕ) (w s : List ℕ) → a < b → b < a + d → picked b d k (placed a d w s) ≡ picked b d k s
  picked_second a b zero w s p q = refl
  picked_second a b (suc k) [] s p q = refl
  picked_second a b (suc k) (x ∷ w) s p q =
      let after : List ℕ = placed (a + d) d w s in
      ap₂ ◌∷◌ (get_or-set_other after a b x 0 (λ (e : b ≡ a). omega arith) ∙ get_before (a + d) d w s b q)
      (picked_set (b + d) d k after a x (omega arith) ∙ picked_second (a + d) (b + d) k w s (omega arith) (omega arith))

  pub picked_first : (a b k : ℕ) (w s : List ℕ) → a < b → b < a + d → picked a d k (placed b d w s) ≡ picked a d k s
  picked_first a b zero w s p q = refl
  picked_first a b (suc k) [] s p q = refl
  picked_first a b (suc k) (x ∷ w) s p q =
      let after : List ℕ = placed (b + d) d w s in
      ap₂ ◌∷◌ (get_or-set_other after b a x 0 (λ (e : a ≡ b). omega arith) ∙ get_before (b + d) d w s a (omega arith))
      (picked_set (a + d) d k after b x q ∙ picked_first (a + d) (b + d) k w s (omega arith) (omega arith))

  pub crossed : (a b : ℕ) (v w s : List ℕ) → a < b → b < a + d → placed a d v (placed b d w s) ≡ placed b d w (placed a d v s)
  crossed a b [] w s p q = refl
  crossed a b (x ∷ v) [] s p q = refl
  crossed a b (x ∷ v) (y ∷ w) s p q =
      ap (λ (t : List ℕ). set t a x)
      (set_before (a + d) d v (placed (b + d) d w s) b y q
      ∙ ap (λ (t : List ℕ). set t b y) (crossed (a + d) (b + d) v w s (omega arith) (omega arith)))
      ∙ set_comm (placed (b + d) d w (placed (a + d) d v s)) b a y x (λ (e : b ≡ a). omega arith)
      ∙ ap (λ (t : List ℕ). set t b y) (sym (set_before (b + d) d w (placed (a + d) d v s) a x (omega arith)))

-- ---- a word and its halves, at twice the stride
pub next_pair : (at d : ℕ) → at + d + d ≡ at + 2 * d
next_pair at d = omega arith

pub one_more : (k : ℕ) → 2 * suc k ≡ suc (suc (2 * k))
one_more k = omega arith

pub one_less : (e k : ℕ) → 0 < k → e * k ≡ e * (k - 1) + e
one_less e k h =
    let up : suc (k - 1) ≡ k = omega arith in
    ap (λ (j : ℕ). e * j) (sym up) ∙ (omega arith)

pub evens_picked : (at d k : ℕ) (s : List ℕ) → evens (picked at d (2 * k) s) ≡ picked at (2 * d) k s
evens_picked at d zero s = refl
evens_picked at d (suc k) s = rw (one_more k, ← next_pair at d) (ap (λ (r : List ℕ). get_or s at 0 ∷ r) (evens_picked (at + d + d) d k s))

pub odds_picked : (at d k : ℕ) (s : List ℕ) → odds (picked at d (2 * k) s) ≡ picked (at + d) (2 * d) k s
odds_picked at d zero s = refl
odds_picked at d (suc k) s =
    rw (one_more k, ← next_pair (at + d) d) (ap (λ (r : List ℕ). get_or s (at + d) 0 ∷ r) (odds_picked (at + d + d) d k s))

pub placed_halves : (at d : ℕ) (p q s : List ℕ) → 0 < d → length p ≡ length q
    → placed at d (interleave p q) s ≡ placed at (2 * d) p (placed (at + d) (2 * d) q s)
placed_halves at d [] [] s h e = refl
placed_halves at d [] (y ∷ q) s h e = absurd (omega (arith, e))
placed_halves at d (x ∷ p) [] s h e = absurd (omega (arith, e))
placed_halves at d (x ∷ p) (y ∷ q) s h e =
    let pair : at + 2 * d + d ≡ at + d + 2 * d = omega arith in
    let rest : placed (at + d + d) d (interleave p q) s ≡ placed (at + 2 * d) (2 * d) p (placed (at + d + 2 * d) (2 * d) q s)
    = ap (λ (j : ℕ). placed j d (interleave p q) s) (next_pair at d) ∙ (rw pair at (placed_halves (at + 2 * d) d p q s h (omega (arith, e)))) in
    ap (λ (t : List ℕ). set t at x)
    (ap (λ (t : List ℕ). set t (at + d) y) rest
    ∙ sym (set_before (at + 2 * d) (2 * d) p (placed (at + d + 2 * d) (2 * d) q s) (at + d) y (omega arith)))

-- ---- the word that is the whole slice
picked_rest : (a k : ℕ) (s : List ℕ) → a + k ≡ length s → picked a 1 k s ≡ drop a s
picked_rest a zero s e = sym (drop_of_length-le s {i = a} (omega arith))
picked_rest a (suc k) s e =
    ap (λ (r : List ℕ). get_or s a 0 ∷ r) (picked_rest (a + 1) k s (omega arith) ∙ rw add-one) ∙ sym (drop-cons s a 0 (omega arith))

pub picked_whole : (s : List ℕ) → picked 0 1 (length s) s ≡ s
picked_whole s = picked_rest 0 (length s) s (omega arith)

placed_rest : (a : ℕ) (w s : List ℕ) → a + length w ≡ length s → placed a 1 w s ≡ take a s ++ w
placed_rest a [] s e = sym (append-nil (take a s) ∙ take_all a s (omega arith))
placed_rest a (x ∷ w) s e =
    let upto : take (a + 1) s ≡ take a s ++ (get_or s a 0 ∷ []) = rw add-one (take-suc s a 0 (omega arith)) in
    ap (λ (t : List ℕ). set t a x) (placed_rest (a + 1) w s (omega arith) ∙ ap (λ (r : List ℕ). r ++ w) upto ∙ append_snoc (take a s) (get_or s a 0) w)
    ∙ set_at (take a s) (get_or s a 0) w x a (length-take-le a s (omega arith))

pub placed_whole : (w s : List ℕ) → length w ≡ length s → placed 0 1 w s ≡ w
placed_whole w s e = placed_rest 0 w s (omega (arith, e))
