-- The loops over packed bytes and over bits, as laws of lists: one turn, and the end. Assumes nothing.
use Rattle.std.specs.Prelude.{◌≡◌, Bool, false, ◌||◌, ltb, take, drop, get_or}
use Rattle.std.proofs.Math.Path.{sym, ap, ap₂}
use Rattle.std.proofs.Common.{◌∙◌, drop_of_length-le, drop-drop}
use mathlib.Core.List.{List, [], ◌∷◌, ◌++◌}
use Prim.Native.Nat.{ℕ, zero, suc, ◌+◌, ◌-◌, ◌*◌, ◌/◌, ◌%◌, ◌≤◌, ◌<◌}
use native.Mathlib.Omega.{arith}
use Rattle.std.proofs.Math.ListN.{length}
use Rattle.std.proofs.Math.Seq.{drop-length}
use Rattle.spec.specs.Bits.{bits_of, packed}
use Rattle.spec.specs.Refusals.{past_end}
use Rattle.spec.specs.ResultRecord.{some_past}
use Rattle.laws.specs.MapBits.{one_byte}
use Rattle.laws.specs.PackedRows.{bits_of_each, packed_each}
use Rattle.place.specs.Turns.{rest}

-- ---- the bits of one byte
pub bits_turn : (w i x : ℕ) → i < w → bits_of (w - i) x ≡ x % 2 ∷ bits_of (w - (i + 1)) (x / 2)
unfolding bits_of
bits_turn w i x h = let e : w - i ≡ suc (w - (i + 1)) = omega arith in rw e

pub bits_done : (k x : ℕ) → k ≡ 0 → bits_of k x ≡ []
unfolding bits_of
bits_done k x e = rw e

-- those of all bytes
pub bytes_turn : (w i : ℕ) (s : List ℕ) → i < length s → bits_of_each w (drop i s) ≡ bits_of w (get_or s i 0) ++ bits_of_each w (drop (i + 1) s)
unfolding bits_of_each
bytes_turn w i s h = ap (bits_of_each w) (rest s i 0 h)

pub bytes_done : (w i : ℕ) (s : List ℕ) → length s ≤ i → bits_of_each w (drop i s) ≡ []
unfolding bits_of_each
bytes_done w i s h = ap (bits_of_each w) (drop_of_length-le s h)

-- ---- bits packed from the last to the first
pub packed_none : (bits : List ℕ) → 0 ≡ packed (drop (length bits) bits)
unfolding packed
packed_none bits = sym (ap packed (drop-length bits))

pub packed_more : (bits : List ℕ) (i : ℕ) → i < length bits → packed (drop i bits) ≡ 2 * packed (drop (i + 1) bits) + get_or bits i 0
unfolding packed
packed_more bits i h = ap packed (rest bits i 0 h) ∙ omega arith

-- ---- bytes that are left to pack: one less
pub one_less : (k w : ℕ) → 0 < k → k * w ≡ (k - 1) * w + w
one_less zero w h = absurd (omega arith)
one_less (suc k) w h = let e : suc k - 1 ≡ k = omega arith in rw e (omega arith)

pub packed_turn : (w k from : ℕ) (u : List ℕ) → 0 < k
    → packed_each w k (drop from u) ≡ packed (take w (drop from u)) ∷ packed_each w (k - 1) (drop (from + w) u)
unfolding packed_each
packed_turn w k from u h =
    let e : k ≡ suc (k - 1) = omega arith in
    ap (λ (j : ℕ). packed_each w j (drop from u)) e
    ∙ ap (λ (l : List ℕ). packed (take w (drop from u)) ∷ packed_each w (k - 1) l) (drop-drop w from u)

pub packed_done : (w k : ℕ) (u : List ℕ) → k ≡ 0 → packed_each w k u ≡ []
unfolding packed_each
packed_done w k u e = ap (λ (j : ℕ). packed_each w j u) e

-- ---- rows of four: the first of those that are left has a bit past them where its byte is above 15
module _ (s : List ℕ) where
  pub high_turn : (i : ℕ) (b : Bool) → i < length s → get_or s i 0 < 256 → ltb 15 (get_or s i 0) ≡ b
      → some_past 4 (length s - i) (drop i s) ≡ (b || some_past 4 (length s - (i + 1)) (drop (i + 1) s))
  unfolding some_past
  high_turn i b h g e =
      let k : length s - i ≡ suc (length s - (i + 1)) = omega arith in
      let p : past_end 4 (take 1 (drop i s)) ≡ b
      = ap (λ (l : List ℕ). past_end 4 (take 1 l)) (rest s i 0 h) ∙ sym (one_byte (get_or s i 0) g) ∙ e in
      ap (λ (j : ℕ). some_past 4 j (drop i s)) k
      ∙ ap₂ (λ (c : Bool) (l : List ℕ). c || some_past 4 (length s - (i + 1)) l) p (drop-drop 1 i s)

  pub high_done : (i : ℕ) → length s ≤ i → some_past 4 (length s - i) (drop i s) ≡ false
  unfolding some_past
  high_done i h = let k : length s - i ≡ 0 = omega arith in ap (λ (j : ℕ). some_past 4 j (drop i s)) k
