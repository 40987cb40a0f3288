-- Rows of bits, each packed into bytes: what is packed is found again with no bit set past the last, and bytes with no bit set past the
-- last are packed again from the rows that they hold. Assumes nothing.
use Rattle.std.specs.Prelude.{◌≡◌, Bool, true, false, ltb, drop, replicate}
use Rattle.std.proofs.Math.Path.{refl, sym, ap, ap₂}
use Rattle.std.proofs.Common.{◌∙◌, true≢false, arith, not-suc-le-zero, pow-suc, ltb-true, ltb-false, lt-ltb, length-take, length-drop, drop_of_length-le, take_at, drop_at, take_all}
use Rattle.std.proofs.Math.Bool.{◌||◌}
use mathlib.Core.List.{List, [], ◌∷◌, ◌++◌, append_assoc, append-nil}
use Prim.Native.Nat.{ℕ, zero, suc, ◌+◌, ◌-◌, ◌*◌, ◌/◌, ◌%◌, ◌^◌, ◌≤◌, ◌<◌, min}
use Rattle.std.proofs.Math.ListN.{length, take, take-append-drop}
use Rattle.std.proofs.lemmas.List.{replicate-append-replicate}
use Rattle.std.proofs.Math.Seq.{length-take-le}
use Rattle.spec.specs.Bits.{Bits, nil, cons, bits_of, packed, unpacked}
use Rattle.spec.specs.Code.{map_bytes}
use Rattle.spec.specs.Faults.{some}
use Rattle.spec.specs.Refusals.{past_end}
use Rattle.spec.specs.ResultRecord.{rows_from, some_past}
use Rattle.spec.specs.ResultWriter.{packed_bytes, packed_rows}
use Rattle.laws.specs.BitLaws.{bits_append, bits_take, bits_drop}
use Rattle.laws.specs.FirstFault.{not_either}
use Rattle.laws.specs.ListCost.{All, none, more, all_take, all_drop, all_append}
use Rattle.laws.specs.MapBits.{bits_unpacked, length_bits_of, length_unpacked}
use Rattle.laws.specs.PackedRows.{packed_small}
use Rattle.laws.specs.ResultWriting.{length_packed}
use Rattle.result_round_trip.specs.FourBytes.{Byte}

abbrev zeros : ℕ → List ℕ
zeros k = replicate k 0

-- ---- the bits of one byte
bits_of_0 : (d : ℕ) → bits_of d 0 ≡ zeros d
unfolding bits_of
bits_of_0 zero = refl
bits_of_0 (suc d) = ap (λ (l : List ℕ). 0 ∷ l) (bits_of_0 d)

bit_and_rest : (x p : ℕ) → x < 2 → ((x + 2 * p) % 2 ≡ x) × ((x + 2 * p) / 2 ≡ p)
bit_and_rest x p h = (omega arith, omega arith)

-- a number of fewer bits than asked for has 0 behind them
bits_packed : (d : ℕ) {w : List ℕ} → Bits w → length w ≤ d → bits_of d (packed w) ≡ w ++ zeros (d - length w)
unfolding bits_of packed
bits_packed d nil h = let e : d ≡ d - 0 = omega arith in bits_of_0 d ∙ ap zeros e
bits_packed zero (cons g b) h = absurd (not-suc-le-zero h)
bits_packed (suc d) (cons {x = x} {w = w} g b) h =
    let q = bit_and_rest x (packed w) g in
    let e : suc d - suc (length w) ≡ d - length w = omega arith in
    rw (e, q.0, q.1) (ap (λ (l : List ℕ). x ∷ l) (bits_packed d b (omega arith)))

repacked_byte : (d x : ℕ) → x < 2 ^ d → packed (bits_of d x) ≡ x
unfolding bits_of packed
repacked_byte zero x h = omega arith
repacked_byte (suc d) x h = omega (arith, repacked_byte d (x / 2) (omega (arith, pow-suc 2 d)))

-- ---- one row
zeros_joined : (i j n : ℕ) → i + j ≡ n → zeros i ++ zeros j ≡ zeros n
zeros_joined i j n e = replicate-append-replicate i j 0 ∙ ap zeros e

-- eight bits filled up, and then the others, are all of them filled up
filled_up : (b : ℕ) (u : List ℕ) → length u ≤ 8 * suc b
    → (take 8 u ++ zeros (8 - length (take 8 u))) ++ (drop 8 u ++ zeros (8 * b - length (drop 8 u))) ≡ u ++ zeros (8 * suc b - length u)
filled_up b u h = by_length (ltb (length u) 8) refl (length-take 8 u) (length-drop 8 u)
  where
    by_length : (t : Bool) → ltb (length u) 8 ≡ t → length (take 8 u) ≡ min 8 (length u) → length (drop 8 u) ≡ length u - 8
        → (take 8 u ++ zeros (8 - length (take 8 u))) ++ (drop 8 u ++ zeros (8 * b - length (drop 8 u))) ≡ u ++ zeros (8 * suc b - length u)
    by_length true e f d =
        let l : length u < 8 = ltb-true (length u) 8 e in
        let a : take 8 u ≡ u = take_all 8 u (omega arith) in
        let z : drop 8 u ≡ [] = drop_of_length-le u {i = 8} (omega arith) in
        rw (a, z) (append_assoc u (zeros (8 - length u)) (zeros (8 * b - 0))
        ∙ ap (λ (l : List ℕ). u ++ l) (zeros_joined (8 - length u) (8 * b - 0) (8 * suc b - length u) (omega arith)))
    by_length false e f d =
        let l : 8 ≤ length u = ltb-false (length u) 8 e in
        let z : 8 - length (take 8 u) ≡ 0 = omega arith in
        let k : 8 * b - length (drop 8 u) ≡ 8 * suc b - length u = omega arith in
        rw (z, k) (ap (λ (l : List ℕ). l ++ (drop 8 u ++ zeros (8 * suc b - length u))) (append-nil (take 8 u))
        ∙ sym (append_assoc (take 8 u) (drop 8 u) (zeros (8 * suc b - length u)))
        ∙ ap (λ (l : List ℕ). l ++ zeros (8 * suc b - length u)) (take-append-drop 8 u))

-- packed bits, and 0 up to the end of the last byte
unpacked_packed : (b : ℕ) (u : List ℕ) → Bits u → length u ≤ 8 * b → unpacked (packed_bytes b u) ≡ u ++ zeros (8 * b - length u)
unfolding packed_bytes unpacked
unpacked_packed zero [] p h = refl
unpacked_packed zero (x ∷ u) p h = absurd (omega arith)
unpacked_packed (suc b) u p h =
    ap₂ ◌++◌
    (bits_packed 8 (bits_take p 8) (omega (arith, length-take 8 u)))
    (unpacked_packed b (drop 8 u) (bits_drop p 8) (omega (arith, length-drop 8 u)))
    ∙ filled_up b u h

-- whole bytes, from all their bits
repacked : (b : ℕ) (x : List ℕ) → length x ≡ b → All Byte x → packed_bytes b (unpacked x) ≡ x
unfolding packed_bytes unpacked
repacked zero [] e a = refl
repacked zero (y ∷ x) e a = absurd (omega (arith, e))
repacked (suc b) [] e a = absurd (omega (arith, e))
repacked (suc b) (y ∷ x) e (more h a) =
    ap₂ (λ (l l' : List ℕ). packed l ∷ packed_bytes b l')
    (take_at (bits_of 8 y) (unpacked x) 8 (length_bits_of 8 y))
    (drop_at (bits_of 8 y) (unpacked x) 8 (length_bits_of 8 y))
    ∙ ap₂ ◌∷◌ (repacked_byte 8 y (omega arith)) (repacked b x (omega (arith, e)) a)

bytes_packed : (b : ℕ) (u : List ℕ) → Bits u → All Byte (packed_bytes b u)
unfolding packed_bytes
bytes_packed zero u p = none
bytes_packed (suc b) u p =
    more (packed_small (bits_take p 8) (omega (arith, length-take 8 u))) (bytes_packed b (drop 8 u) (bits_drop p 8))

none_set : (k : ℕ) → some (ltb 0) (zeros k) ≡ false
unfolding some
none_set zero = refl
none_set (suc k) = none_set k

all_zero : (xs : List ℕ) → some (ltb 0) xs ≡ false → xs ≡ zeros (length xs)
unfolding some
all_zero [] e = refl
all_zero (zero ∷ xs) e = ap (λ (l : List ℕ). 0 ∷ l) (all_zero xs e)
all_zero (suc x ∷ xs) e = absurd (true≢false (sym (lt-ltb 0 (suc x) (omega arith)) ∙ (not_either (ltb 0 (suc x)) (some (ltb 0) xs) e).0))

module _ (n : ℕ) where
  abbrev b : ℕ
  b = map_bytes n

  -- n bits are found again, and none is set past them
  module _ (u : List ℕ) (p : Bits u) (l : length u ≡ n) where
    row_back : take n (unpacked (packed_bytes b u)) ≡ u
    row_back = ap (take n) (unpacked_packed b u p (omega arith)) ∙ take_at u (zeros (8 * b - length u)) n l

    row_clean : past_end n (packed_bytes b u) ≡ false
    unfolding past_end
    row_clean =
        ap (λ (w : List ℕ). some (ltb 0) (drop n w)) (unpacked_packed b u p (omega arith))
        ∙ ap (some (ltb 0)) (drop_at u (zeros (8 * b - length u)) n l)
        ∙ none_set (8 * b - length u)

  -- bytes with no bit set past the n are packed again from these
  row_form : (x : List ℕ) → length x ≡ b → All Byte x → past_end n x ≡ false → packed_bytes b (take n (unpacked x)) ≡ x
  unfolding past_end
  row_form x e a p =
      let u : List ℕ = unpacked x in
      let v : List ℕ = take n u in
      let lu : length u ≡ 8 * length x = length_unpacked x in
      let lv : length v ≡ n = length-take-le n u (omega arith) in
      let bv : Bits v = bits_take (bits_unpacked x) n in
      let k : 8 * b - length v ≡ length (drop n u) = sym (length-drop n u ∙ omega arith) in
      let whole : unpacked (packed_bytes b v) ≡ u
      = unpacked_packed b v bv (omega arith)
      ∙ ap (λ (i : ℕ). v ++ zeros i) k
      ∙ ap (λ (l : List ℕ). v ++ l) (sym (all_zero (drop n u) p))
      ∙ take-append-drop n u in
      sym (repacked b (packed_bytes b v) (length_packed b v) (bytes_packed b v bv)) ∙ ap (packed_bytes b) whole ∙ repacked b x e a

  -- ---- rows
  module _ (k : ℕ) (u : List ℕ) (e : length u ≡ suc k * n) where
    first_row_lem : length (take n u) ≡ n
    first_row_lem = length-take-le n u (omega arith)

    other_rows : length (drop n u) ≡ k * n
    other_rows = length-drop n u ∙ omega arith

  pub rows_back : (k : ℕ) (u : List ℕ) → Bits u → length u ≡ k * n → rows_from n k (packed_rows n k u) ≡ u
  unfolding rows_from packed_rows
  rows_back zero [] p l = refl
  rows_back zero (x ∷ u) p l = absurd (omega arith)
  rows_back (suc k) u p l =
      let row : List ℕ = packed_bytes b (take n u) in
      let more : List ℕ = packed_rows n k (drop n u) in
      let long : length row ≡ b = length_packed b (take n u) in
      ap₂ (λ (x y : List ℕ). take n (unpacked x) ++ rows_from n k y) (take_at row more b long) (drop_at row more b long)
      ∙ ap₂ ◌++◌ (row_back (take n u) (bits_take p n) (first_row_lem k u l)) (rows_back k (drop n u) (bits_drop p n) (other_rows k u l))
      ∙ take-append-drop n u

  pub rows_clean : (k : ℕ) (u : List ℕ) → Bits u → length u ≡ k * n → some_past n k (packed_rows n k u) ≡ false
  unfolding some_past packed_rows
  rows_clean zero u p l = refl
  rows_clean (suc k) u p l =
      let row : List ℕ = packed_bytes b (take n u) in
      let more : List ℕ = packed_rows n k (drop n u) in
      let long : length row ≡ b = length_packed b (take n u) in
      ap₂ (λ (x y : List ℕ). past_end n x || some_past n k y) (take_at row more b long) (drop_at row more b long)
      ∙ ap₂ ◌||◌ (row_clean (take n u) (bits_take p n) (first_row_lem k u l)) (rows_clean k (drop n u) (bits_drop p n) (other_rows k u l))

  pub rows_bytes : (k : ℕ) (u : List ℕ) → Bits u → All Byte (packed_rows n k u)
  unfolding packed_rows
  rows_bytes zero u p = none
  rows_bytes (suc k) u p = all_append (bytes_packed b (take n u) (bits_take p n)) (rows_bytes k (drop n u) (bits_drop p n))

  -- the rows that bytes hold are bits, n of each
  pub bits_rows : (k : ℕ) (s : List ℕ) → Bits (rows_from n k s)
  unfolding rows_from
  bits_rows zero s = nil
  bits_rows (suc k) s = bits_append (bits_take (bits_unpacked (take b s)) n) (bits_rows k (drop b s))

  module _ (k : ℕ) (s : List ℕ) (e : length s ≡ suc k * b) where
    first_bytes : length (take b s) ≡ b
    first_bytes = length-take-le b s (omega arith)

    first_bits : length (take n (unpacked (take b s))) ≡ n
    first_bits = length-take-le n (unpacked (take b s)) (omega (arith, length_unpacked (take b s), first_bytes))

    other_bytes : length (drop b s) ≡ k * b
    other_bytes = length-drop b s ∙ omega arith

  -- bytes in which no row has a bit set past its n are packed again from their rows
  pub rows_form : (k : ℕ) (s : List ℕ) → length s ≡ k * b → All Byte s → some_past n k s ≡ false → packed_rows n k (rows_from n k s) ≡ s
  unfolding rows_from some_past packed_rows
  rows_form zero [] e a z = refl
  rows_form zero (x ∷ s) e a z = absurd (omega (arith, e))
  rows_form (suc k) s e a z =
      let c = not_either (past_end n (take b s)) (some_past n k (drop b s)) z in
      let row : List ℕ = take n (unpacked (take b s)) in
      let more : List ℕ = rows_from n k (drop b s) in
      let long : length row ≡ n = first_bits k s e in
      ap₂ (λ (l l' : List ℕ). packed_bytes b l ++ packed_rows n k l') (take_at row more n long) (drop_at row more n long)
      ∙ ap₂ ◌++◌ (row_form (take b s) (first_bytes k s e) (all_take b a) c.0) (rows_form k (drop b s) (other_bytes k s e) (all_drop b a) c.1)
      ∙ take-append-drop b s
