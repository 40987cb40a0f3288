-- Numbers of four bytes, signed ones by their 32 bits, and scores in a row: what is written is read again, and what is read of bytes
-- is written again. Assumes nothing.
use Rattle.std.specs.Prelude.{◌≡◌, refl, List, [], ◌∷◌, ◌++◌, ℕ, zero, suc, ◌+◌, ◌*◌, ◌/◌, ◌%◌, ◌≤◌, ◌<◌, length, drop, ℤ}
use Rattle.std.proofs.Common.{sym, ap, ap₂, ◌∙◌, append_assoc, arith, add-one, length-append, drop-cons, get_or-append-add}
use Rattle.std.proofs.Math.Seq.{get_or-append_seam}
use Rattle.std.specs.Int.Signed.{mag}
use Rattle.spec.specs.Record.{byte_at, four_at, signed32}
use Rattle.spec.specs.RecordOf.{low_first, thirty_two_bits}
use Rattle.spec.specs.ResultRecord.{scores_from, first_score}
use Rattle.spec.specs.ResultWriter.{score_bytes}
use Rattle.laws.specs.ListCost.{All, none, more}
use Rattle.laws.specs.Signed.{bits_within, signed_back, bits_back, signed_within}
use Rattle.laws.specs.WrittenForm.{length_low, four_bytes}

-- a signed number of 32 bits, and a byte
abbrev pub Wide : ℤ → Type 0
Wide z = mag z < 2147483648

abbrev pub Byte : ℕ → Type 0
Byte x = x < 256

-- ---- a signed number and its 32 bits
pub bits_wide : (z : ℤ) → Wide z → thirty_two_bits z < 4294967296
bits_wide z h = omega (arith, bits_within 2147483648 4294967295 refl z h)

pub wide_back : (z : ℤ) → Wide z → signed32 (thirty_two_bits z) ≡ z
wide_back z h = signed_back 2147483648 4294967295 refl z h

pub four_bits_back : (x : ℕ) → x < 4294967296 → thirty_two_bits (signed32 x) ≡ x
four_bits_back x h = bits_back 2147483648 4294967295 refl x (omega arith)

pub signed_wide : (x : ℕ) → x < 4294967296 → Wide (signed32 x)
signed_wide x h = signed_within 2147483648 4294967295 refl x (omega arith)

pub same_bits : (a b : ℤ) → Wide a → Wide b → thirty_two_bits a ≡ thirty_two_bits b → a ≡ b
same_bits a b h k e = sym (wide_back a h) ∙ ap signed32 e ∙ wide_back b k

-- the first score is one of 32 bits, also where there is none and it reads 0
pub first_wide : {ys : List ℤ} → All Wide ys → Wide (first_score ys)
first_wide none = omega arith
first_wide (more h w) = h

-- ---- four bytes
-- a number behind any bytes
pub four_back : (xs : List ℕ) (x : ℕ) (t : List ℕ) → x < 4294967296 → four_at (xs ++ (low_first 4 x ++ t)) (length xs) ≡ x
four_back xs x t h =
    let s : List ℕ = xs ++ (low_first 4 x ++ t) in
    let a : byte_at s (length xs) ≡ x % 256 = get_or-append_seam xs (x % 256) (low_first 3 (x / 256) ++ t) 0 in
    let b : byte_at s (length xs + 1) ≡ x / 256 % 256 = get_or-append-add xs (low_first 4 x ++ t) 1 0 in
    let c : byte_at s (length xs + 2) ≡ x / 256 / 256 % 256 = get_or-append-add xs (low_first 4 x ++ t) 2 0 in
    let e : length xs + 2 + 1 ≡ length xs + 3 = omega arith in
    let d : byte_at s (length xs + 2 + 1) ≡ x / 256 / 256 / 256 % 256 = ap (byte_at s) e ∙ get_or-append-add xs (low_first 4 x ++ t) 3 0 in
    rw (a, b, c, d) (four_bytes x h)

byte_at_lem : {s : List ℕ} → All Byte s → (i : ℕ) → byte_at s i < 256
byte_at_lem none i = omega arith
byte_at_lem (more h a) zero = h
byte_at_lem (more h a) (suc i) = byte_at_lem a i

pub four_small : {s : List ℕ} → All Byte s → (at : ℕ) → four_at s at < 4294967296
four_small a at = omega (arith, byte_at_lem a at, byte_at_lem a (at + 1), byte_at_lem a (at + 2), byte_at_lem a (at + 2 + 1))

four_of : (a b c d : ℕ) → a < 256 → b < 256 → c < 256 → d < 256
    → low_first 4 (a + 256 * b + 65536 * (c + 256 * d)) ≡ a ∷ b ∷ c ∷ d ∷ []
four_of a b c d ha hb hc hd =
    let x : ℕ = a + 256 * b + 65536 * (c + 256 * d) in
    let p : x % 256 ≡ a = omega arith in
    let q : x / 256 ≡ b + 256 * (c + 256 * d) = omega arith in
    let r : (b + 256 * (c + 256 * d)) % 256 ≡ b = omega arith in
    let t : (b + 256 * (c + 256 * d)) / 256 ≡ c + 256 * d = omega arith in
    let u : (c + 256 * d) % 256 ≡ c = omega arith in
    let v : (c + 256 * d) / 256 ≡ d = omega arith in
    let w : d % 256 ≡ d = omega arith in
    rw (p, q, r, t, u, v, w)

-- what is left from a place on is the byte there, and then the others
pub byte_first : (s : List ℕ) (i : ℕ) → i < length s → drop i s ≡ byte_at s i ∷ drop (i + 1) s
byte_first s i h = rw (add-one i) (drop-cons s i 0 h)

-- a number read of four bytes is written as these
pub four_form : (s : List ℕ) (at : ℕ) → All Byte s → at + 4 ≤ length s → low_first 4 (four_at s at) ++ drop (at + 4) s ≡ drop at s
four_form s at a h =
    let e1 : at + 1 + 1 ≡ at + 2 = omega arith in
    let e2 : at + 2 + 1 + 1 ≡ at + 4 = omega arith in
    let r1 : drop (at + 1) s ≡ byte_at s (at + 1) ∷ drop (at + 2) s
    = byte_first s (at + 1) (omega arith) ∙ ap (λ (k : ℕ). byte_at s (at + 1) ∷ drop k s) e1 in
    let r2 : drop (at + 2) s ≡ byte_at s (at + 2) ∷ drop (at + 2 + 1) s = byte_first s (at + 2) (omega arith) in
    let r3 : drop (at + 2 + 1) s ≡ byte_at s (at + 2 + 1) ∷ drop (at + 4) s
    = byte_first s (at + 2 + 1) (omega arith) ∙ ap (λ (k : ℕ). byte_at s (at + 2 + 1) ∷ drop k s) e2 in
    ap (λ (l : List ℕ). l ++ drop (at + 4) s)
    (four_of (byte_at s at) (byte_at s (at + 1)) (byte_at s (at + 2)) (byte_at s (at + 2 + 1))
    (byte_at_lem a at) (byte_at_lem a (at + 1)) (byte_at_lem a (at + 2)) (byte_at_lem a (at + 2 + 1)))
    ∙ sym (byte_first s at (omega arith)
    ∙ ap (λ (l : List ℕ). byte_at s at ∷ l)
    (r1 ∙ ap (λ (l : List ℕ). byte_at s (at + 1) ∷ l) (r2 ∙ ap (λ (l : List ℕ). byte_at s (at + 2) ∷ l) r3)))

-- ---- scores in a row
-- written between any bytes, they are read again
pub scores_back : (xs : List ℕ) (ys : List ℤ) (t : List ℕ) → All Wide ys → scores_from (xs ++ (score_bytes ys ++ t)) (length xs) (length ys) ≡ ys
unfolding scores_from score_bytes
scores_back xs [] t w = refl
scores_back xs (y ∷ ys) t (more h w) =
    let x : ℕ = thirty_two_bits y in
    let rest : List ℕ = score_bytes ys ++ t in
    let s : List ℕ = xs ++ (score_bytes (y ∷ ys) ++ t) in
    let ahead : List ℕ = xs ++ low_first 4 x in
    let one : s ≡ xs ++ (low_first 4 x ++ rest) = ap (λ (l : List ℕ). xs ++ l) (append_assoc (low_first 4 x) (score_bytes ys) t) in
    let two : s ≡ ahead ++ rest = one ∙ sym (append_assoc xs (low_first 4 x) rest) in
    let place : length xs + 4 ≡ length ahead = omega (arith, length-append xs (low_first 4 x), length_low 4 x) in
    let value : signed32 (four_at s (length xs)) ≡ y
    = ap signed32 (ap (λ (l : List ℕ). four_at l (length xs)) one ∙ four_back xs x rest (bits_wide y h)) ∙ wide_back y h in
    ap₂ ◌∷◌ value (ap₂ (λ (l : List ℕ) (at : ℕ). scores_from l at (length ys)) two place ∙ scores_back ahead ys t w)

-- read of bytes, they have 32 bits and are written as these bytes
pub scores_wide : (s : List ℕ) (at k : ℕ) → All Byte s → All Wide (scores_from s at k)
unfolding scores_from
scores_wide s at zero a = none
scores_wide s at (suc k) a = more (signed_wide (four_at s at) (four_small a at)) (scores_wide s (at + 4) k a)

pub scores_form : (s : List ℕ) (at k : ℕ) → All Byte s → at + 4 * k ≤ length s → score_bytes (scores_from s at k) ++ drop (at + 4 * k) s ≡ drop at s
unfolding scores_from score_bytes
scores_form s at zero a h = let e : at + 4 * 0 ≡ at = omega arith in ap (λ (i : ℕ). drop i s) e
scores_form s at (suc k) a h =
    let x : ℕ = four_at s at in
    let e : at + 4 * suc k ≡ at + 4 + 4 * k = omega arith in
    let b : thirty_two_bits (signed32 x) ≡ x = four_bits_back x (four_small a at) in
    ap₂ (λ (y i : ℕ). (low_first 4 y ++ score_bytes (scores_from s (at + 4) k)) ++ drop i s) b e
    ∙ append_assoc (low_first 4 x) (score_bytes (scores_from s (at + 4) k)) (drop (at + 4 + 4 * k) s)
    ∙ ap (λ (l : List ℕ). low_first 4 x ++ l) (scores_form s (at + 4) k a (omega arith))
    ∙ four_form s at a (omega arith)
