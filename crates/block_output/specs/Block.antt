-- What is written for a block: m, its transform, list size, stop position, frame number, frozen map, pairs and soft values, whatever they are. Beside it
-- that a decoder call with the block's tables gives it.
use Rattle.std.specs.Prelude.{◌≡◌, Bool, List, [], ◌∷◌, ltb, take, replicate, ℤ, pos}
use Rattle.std.proofs.Math.Path.{refl, ap}
use Rattle.std.proofs.Common.{◌∙◌, mul-le-mul}
use Prim.Native.Nat.{ℕ, zero, suc, ◌+◌, ◌*◌, ◌^◌, ◌≤◌, ◌<◌}
use native.Mathlib.Omega.{arith}
use borrow.Author.Tests.{lt-ltb, le-ltb}
use Rattle.std.proofs.lemmas.List.{length-replicate}
use Rattle.spec.specs.Code.{Code, code, size, map_bytes, code_transform}
use Rattle.spec.specs.Score.{taken}
use Rattle.spec.specs.Decoder.{rows, ceiling}
use Rattle.spec.specs.Faults.{Fault, fault, first, settled}
use Rattle.spec.specs.Refusals.{Room, room, decode_faults}
use Rattle.spec.specs.Outcome.{Answer, decoded, refused_by, Lent, lent, room_of, Decoding, decoding, decode_refusal, decode_served, decode_outcome}
use Rattle.laws.specs.FirstFault.{First, of_first}
use Rattle.laws.specs.DecodeCall.{stop_in_range, rows_at_most}
use Rattle.row_text.specs.Output.{refused_text, output_of}
use Rattle.row_text.specs.RowsText.{text_of, output_of_served}

-- the tables serve n at most 64 and l at most 4
abbrev pub limit_faults : ℕ → ℕ → List Fault
limit_faults n l = fault 8 (ltb 64 n) ∷ fault 8 (ltb 4 l) ∷ []

-- what is lent to the decoder: room for 64 positions and 4 rows
abbrev pub block_room : Room
block_room = room 8192 2048 256 256 4

-- a decoder call with that room
unfoldable pub decoded_text : Code → ℕ → ℕ → ℕ → List ℤ → List ℕ
decoded_text c l p frame y =
    settled (decode_refusal c l p y block_room) refused_text (text_of frame (rows (code_transform c) c (taken y) l p) (ceiling (code_transform c) c (taken y) l p))

-- the same behind the tests of n and l, with a map, so many pairs and soft values that stand at the front of slices
unfoldable pub block_text : ℕ → Bool → ℕ → ℕ → ℕ → ℕ → List ℕ → List ℕ → List ℤ → List ℕ
block_text m arikan l p frame count map pairs y =
    settled (first (limit_faults (2 ^ m) l)) refused_text
    (decoded_text (code m arikan (take (map_bytes (2 ^ m)) map) (take (4 * count) pairs)) l p frame (take (2 ^ m) y))

module _ (m : ℕ) (arikan : Bool) (l p frame count : ℕ) (map pairs : List ℕ) (y : List ℤ) where
  pub too_wide : 64 < 2 ^ m → refused_text 8 ≡ block_text m arikan l p frame count map pairs y
  unfolding block_text first
  too_wide h = rw (lt-ltb 64 (2 ^ m) h)

  pub too_many : 2 ^ m ≤ 64 → 4 < l → refused_text 8 ≡ block_text m arikan l p frame count map pairs y
  unfolding block_text first
  too_many h k = rw (le-ltb 64 (2 ^ m) h, lt-ltb 4 l k)

  pub fitting : 2 ^ m ≤ 64 → l ≤ 4 → decoded_text (code m arikan (take (map_bytes (2 ^ m)) map) (take (4 * count) pairs)) l p frame (take (2 ^ m) y) ≡ block_text m arikan l p frame count map pairs y
  unfolding block_text first
  fitting h k = rw (le-ltb 64 (2 ^ m) h, le-ltb 4 l k)

-- ---- a decoder's answer with what the call leaves: rows of n bits, as text
abbrev pub answer_text : ℕ → ℕ → Answer → List ℕ → List ℕ → List ℤ → List ℕ
answer_text frame n (decoded r top) inputs words scores = output_of frame r top n inputs words scores
answer_text frame n (refused_by k) inputs words scores = refused_text k

-- how many rows it is
abbrev pub rows_answered : Answer → ℕ
rows_answered (decoded r top) = r
rows_answered (refused_by k) = 0

-- within the limits the decoder's tables and outputs are long enough
pub tables_fit : (n l : ℕ) → n ≤ 64 → l ≤ 4 → (32 * (n * l) ≤ 8192) × ((4 * n + 256) * l ≤ 2048) × (n * l ≤ 256)
tables_fit n l narrow few =
    let cells : n * l ≤ 64 * 4 = mul-le-mul {n₁ = n} {m₁ = l} {n₂ = 64} {m₂ = 4} narrow few in
    (omega arith, mul-le-mul {n₁ = 4 * n + 256} {m₁ = l} {n₂ = 512} {m₂ = 4} (omega arith) few, cells)

-- 4 rows of 64 bits fit the outputs and the buffer
pub four_fit : (r n : ℕ) → r ≤ 4 → n ≤ 64 → (r * n ≤ 256) × (53 + r * (2 * n + 25) ≤ 665)
four_fit r n few narrow =
    let line : r * (2 * n + 25) ≤ 4 * 153 = mul-le-mul {n₁ = r} {m₁ = 2 * n + 25} {n₂ = 4} {m₂ = 153} few (omega arith) in
    (mul-le-mul {n₁ = r} {m₁ = n} {n₂ = 4} {m₂ = 64} few narrow, omega arith)

-- the tables and outputs as the call gets them
abbrev pub block_lent : Lent
block_lent = lent (replicate 8192 0) (replicate 2048 0) (replicate 256 0) (replicate 256 0) (replicate 4 (pos 0))

room_is : room_of block_lent ≡ block_room
room_is = rw (length-replicate {A = ℕ} 8192 0, length-replicate {A = ℕ} 2048 0, length-replicate {A = ℕ} 256 0, length-replicate 4 (pos 0))

module _ (c : Code) (l p frame : ℕ) (y : List ℤ) where
  abbrev outcome : ℕ → Decoding
  outcome k = settled k (λ j. decoding (refused_by j) block_lent) (decode_served c l p y (room_of block_lent))

  abbrev text : Decoding → List ℕ
  text o = answer_text frame (size c) o.answer o.left.inputs o.left.words o.left.scores

  abbrev paper_text : ℕ → List ℕ
  paper_text k = settled k refused_text (text_of frame (rows (code_transform c) c (taken y) l p) (ceiling (code_transform c) c (taken y) l p))

  no_fault : 0 ≡ decode_refusal c l p y (room_of block_lent) → First (decode_faults c l p y (room_of block_lent)) 0
  unfolding decode_refusal
  no_fault e = of_first (decode_faults c l p y (room_of block_lent)) 0 e

  pub answer_text_lem : (o : Decoding) → o ≡ decode_outcome c l p y block_lent → text o ≡ decoded_text c l p frame y
  unfolding decode_outcome decode_served decoded_text
  answer_text_lem o q =
      ap text q ∙ by_number (decode_refusal c l p y (room_of block_lent)) refl ∙ ap (λ (r : Room). paper_text (decode_refusal c l p y r)) room_is
    where
      by_number : (k : ℕ) → k ≡ decode_refusal c l p y (room_of block_lent) → text (outcome k) ≡ paper_text k
      by_number zero e =
          output_of_served c (taken y) l p (stop_in_range c l p y (room_of block_lent) (no_fault e)) frame (ceiling (code_transform c) c (taken y) l p) (room_of block_lent)
      by_number (suc k) e = refl

  pub answer_rows : (o : Decoding) → o ≡ decode_outcome c l p y block_lent → rows_answered o.answer ≤ l
  unfolding decode_outcome decode_served
  answer_rows o q = omega (arith, ap (λ (o : Decoding). rows_answered o.answer) q, by_number (decode_refusal c l p y (room_of block_lent)) refl)
    where
      by_number : (k : ℕ) → k ≡ decode_refusal c l p y (room_of block_lent) → rows_answered (outcome k).answer ≤ l
      by_number zero e = rows_at_most c l p y (room_of block_lent) (no_fault e)
      by_number (suc k) e = omega arith
