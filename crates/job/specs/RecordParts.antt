-- What the parts of a record that is built say of it: byte 0, the fields that stand, the pairs behind the frozen map, and the soft values
-- behind any bytes.
use Rattle.std.specs.Prelude.{◌≡◌, refl, Bool, true, false, List, [], ◌∷◌, ◌++◌, ℕ, ◌+◌, ◌*◌, ◌/◌, ◌%◌, ◌^◌, ◌≤◌, ◌<◌, ltb, eqb, length, take, drop, ℤ, pos, negsuc}
use Rattle.std.proofs.Common.{sym, ap, ap₂, ◌∙◌, append_assoc, arith, ltb-false, length-append, drop_at, get_or-append-add}
use Rattle.std.proofs.Math.Seq.{take-append_seam, get_or-append_seam}
use Rattle.std.specs.Int.Signed.{mag}
use Rattle.spec.specs.Code.{pairs_in}
use Rattle.spec.specs.Faults.{some}
use Rattle.spec.specs.Refusals.{out_of_range}
use Rattle.spec.specs.Record.{two_at, signed16, soft_from, if_present, fields, list_size, stop_position, frame_number, map_at, count_at, pairs_at, pair_count, record_pairs, soft_at}
use Rattle.spec.specs.RecordOf.{Field, absent, present, value_or, PairField, unannounced, announced, pairs_of, Content, low_first, field_bit, pair_bit, flag_bit, fields_byte, pair_bytes, sixteen_bits, soft_bytes, head_of}
use Rattle.laws.specs.FirstFault.{not_either}
use Rattle.laws.specs.Accepted.{Ruled}
use Rattle.laws.specs.Pairs.{pairs_long}
use Rattle.laws.specs.Signed.{bits_within, signed_back}
use Rattle.laws.specs.WrittenForm.{four_bytes, field_bit_lem}

-- ---- numbers from their bytes
one_byte : (x : ℕ) → x < 256 → x % 256 ≡ x
one_byte x h = omega arith

two_bytes : (x : ℕ) → x < 65536 → x % 256 + 256 * (x / 256 % 256) ≡ x
two_bytes x h = omega arith

-- two bytes behind any others
two_behind : (xs : List ℕ) (x : ℕ) (ys : List ℕ) → x < 65536 → two_at (xs ++ (low_first 2 x ++ ys)) (length xs) ≡ x
two_behind xs x ys h =
    ap₂ (λ (a b : ℕ). a + 256 * b) (get_or-append_seam xs (x % 256) (x / 256 % 256 ∷ ys) 0) (get_or-append-add xs (low_first 2 x ++ ys) 1 0)
    ∙ two_bytes x h

-- ---- the bits of byte 0
pair_bit_lem : (q : PairField) → pair_bit q ≤ 1
pair_bit_lem unannounced = omega arith
pair_bit_lem (announced s) = omega arith

flag_bit_lem : (b : Bool) → flag_bit b ≤ 1
flag_bit_lem true = omega arith
flag_bit_lem false = omega arith

pub flag_back : (b : Bool) → eqb (flag_bit b) 1 ≡ b
flag_back true = refl
flag_back false = refl

pub record BitsOf (b l p f q a : ℕ) : Type 0 where
  pub known : b ≤ 31
  pub bit0 : b % 2 ≡ l
  pub bit1 : b / 2 % 2 ≡ p
  pub bit2 : b / 4 % 2 ≡ f
  pub bit3 : b / 8 % 2 ≡ q
  pub bit4 : b / 16 % 2 ≡ a

five_bits : (l p f q a : ℕ) → l ≤ 1 → p ≤ 1 → f ≤ 1 → q ≤ 1 → a ≤ 1 → BitsOf (l + 2 * p + 4 * f + 8 * q + 16 * a) l p f q a
five_bits l p f q a hl hp hf hq ha =
    record { known = omega arith; bit0 = omega arith; bit1 = omega arith; bit2 = omega arith; bit3 = omega arith; bit4 = omega arith }

pub bits_of : (c : Content)
    → BitsOf (fields_byte c) (field_bit c.size) (field_bit c.stop) (field_bit c.frame) (pair_bit c.pairs) (flag_bit c.arikan)
bits_of c =
    five_bits (field_bit c.size) (field_bit c.stop) (field_bit c.frame) (pair_bit c.pairs) (flag_bit c.arikan)
    (field_bit_lem c.size) (field_bit_lem c.stop) (field_bit_lem c.frame) (pair_bit_lem c.pairs) (flag_bit_lem c.arikan)

-- ---- the head: what byte 0, m and the fields that stand say of a record, whatever follows
pub record Headed (b m : ℕ) (l p f : Field) (s : List ℕ) : Type 0 where
  pub size_is : list_size s ≡ value_or 4 l
  pub stop_is : stop_position s ≡ value_or (2 ^ m) p
  pub frame_is : frame_number s ≡ value_or 0 f
  pub ends_at : length (head_of b m l p f) ≡ map_at b

module _ (b m : ℕ) where
  pub headed : (l p f : Field) (t : List ℕ) → b % 2 ≡ field_bit l → b / 2 % 2 ≡ field_bit p → b / 4 % 2 ≡ field_bit f
      → value_or 4 l < 256 → value_or (2 ^ m) p < 65536 → value_or 0 f < 4294967296 → Headed b m l p f (head_of b m l p f ++ t)
  headed absent absent absent t x y z hl hp hf =
      record { size_is = rw x; stop_is = rw y; frame_is = rw z; ends_at = rw (x, y, z) }
  headed absent absent (present f) t x y z hl hp hf =
      record { size_is = rw x; stop_is = rw y; frame_is = rw (x, y, z) (four_bytes f hf); ends_at = rw (x, y, z) }
  headed absent (present p) absent t x y z hl hp hf =
      record { size_is = rw x; stop_is = rw (x, y) (two_bytes p hp); frame_is = rw z; ends_at = rw (x, y, z) }
  headed absent (present p) (present f) t x y z hl hp hf =
      record { size_is = rw x; stop_is = rw (x, y) (two_bytes p hp); frame_is = rw (x, y, z) (four_bytes f hf); ends_at = rw (x, y, z) }
  headed (present l) absent absent t x y z hl hp hf =
      record { size_is = rw x (one_byte l hl); stop_is = rw y; frame_is = rw z; ends_at = rw (x, y, z) }
  headed (present l) absent (present f) t x y z hl hp hf =
      record { size_is = rw x (one_byte l hl); stop_is = rw y; frame_is = rw (x, y, z) (four_bytes f hf); ends_at = rw (x, y, z) }
  headed (present l) (present p) absent t x y z hl hp hf =
      record { size_is = rw x (one_byte l hl); stop_is = rw (x, y) (two_bytes p hp); frame_is = rw z; ends_at = rw (x, y, z) }
  headed (present l) (present p) (present f) t x y z hl hp hf =
      record { size_is = rw x (one_byte l hl); stop_is = rw (x, y) (two_bytes p hp); frame_is = rw (x, y, z) (four_bytes f hf); ends_at = rw (x, y, z) }

-- ---- the pairs: behind `pre`, where their count may stand, and before `rest`
pub record Paired (q : PairField) (pre s : List ℕ) : Type 0 where
  pub count_is : pair_count s ≡ length (pairs_in (pairs_of q))
  pub pairs_are : record_pairs s ≡ pairs_of q
  pub ends_at : soft_at s ≡ length pre + length (pair_bytes q)

pub paired : (flags : List ℕ) (q : PairField) (pre rest s : List ℕ) → s ≡ pre ++ (pair_bytes q ++ rest) → count_at s ≡ length pre
    → fields s / 8 % 2 ≡ pair_bit q → Ruled flags (pairs_of q) → Paired q pre s
paired flags unannounced pre rest s split place bit r =
    let c : pair_count s ≡ 0 = ap (λ (b : ℕ). if_present b (two_at s (count_at s)) 0) bit in
    record { count_is = c; pairs_are = ap (λ (k : ℕ). take (4 * k) (drop (pairs_at s) s)) c; ends_at = omega arith }
paired flags (announced q) pre rest s split place bit r =
    let x : ℕ = length (pairs_in q) in
    let halves : s ≡ pre ++ (low_first 2 x ++ (q ++ rest)) = split ∙ ap (λ (l : List ℕ). pre ++ l) (append_assoc (low_first 2 x) q rest) in
    let c : pair_count s ≡ x
    = ap (λ (b : ℕ). if_present b (two_at s (count_at s)) 0) bit ∙ ap₂ two_at halves place ∙ two_behind pre x (q ++ rest) (omega (arith, r.few)) in
    let ahead : List ℕ = pre ++ low_first 2 x in
    let long : length ahead ≡ pairs_at s = omega (arith, length-append pre (low_first 2 x)) in
    let four : 4 * pair_count s ≡ length q = omega (arith, pairs_long q r.whole) in
    let behind : drop (pairs_at s) s ≡ q ++ rest
    = ap (drop (pairs_at s)) (halves ∙ sym (append_assoc pre (low_first 2 x) (q ++ rest))) ∙ drop_at ahead (q ++ rest) (pairs_at s) long in
    record { count_is = c; pairs_are = ap₂ take four behind ∙ take-append_seam q rest; ends_at = omega arith }

-- ---- the soft values
-- a value in range, from its 16 bits
small : (y : ℤ) → out_of_range y ≡ false → mag y < 32768
small (pos k) e = omega (arith, ltb-false 2047 k e)
small (negsuc k) e = omega (arith, ltb-false 2047 k (not_either (ltb 2047 k) false e).0)

sixteen_back : (y : ℤ) → out_of_range y ≡ false → signed16 (sixteen_bits y) ≡ y
sixteen_back y e = signed_back 32768 65535 refl y (small y e)

sixteen : (y : ℤ) → out_of_range y ≡ false → sixteen_bits y < 65536
sixteen y e = omega (arith, bits_within 32768 65535 refl y (small y e))

-- the values behind any bytes
pub soft_back : (xs : List ℕ) (ys : List ℤ) → some out_of_range ys ≡ false → soft_from (xs ++ soft_bytes ys) (length xs) (length ys) ≡ ys
unfolding soft_from some
soft_back xs [] e = refl
soft_back xs (y ∷ ys) e =
    let r = not_either (out_of_range y) (some out_of_range ys) e in
    let x : ℕ = sixteen_bits y in
    let ahead : List ℕ = xs ++ low_first 2 x in
    let s : List ℕ = xs ++ soft_bytes (y ∷ ys) in
    let value : signed16 (two_at s (length xs)) ≡ y
    = ap signed16 (two_behind xs x (soft_bytes ys) (sixteen y r.0)) ∙ sixteen_back y r.0 in
    let split : s ≡ ahead ++ soft_bytes ys = sym (append_assoc xs (low_first 2 x) (soft_bytes ys)) in
    let place : length xs + 2 ≡ length ahead = sym (length-append xs (low_first 2 x)) in
    ap₂ ◌∷◌ value (ap₂ (λ (s : List ℕ) (at : ℕ). soft_from s at (length ys)) split place ∙ soft_back ahead ys r.1)
