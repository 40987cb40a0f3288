-- Packed rows of n positions, seen as bytes of so many bits each: rows fill their bytes from eight positions on, and a row of four has a
-- byte of its own. Assumes nothing.
use Rattle.std.specs.Prelude.{◌≡◌, refl, false, ◌||◌, List, [], ◌∷◌, ◌++◌, ℕ, zero, suc, ◌+◌, ◌-◌, ◌*◌, ◌^◌, ◌≤◌, ◌<◌, length, take, drop}
use Rattle.std.proofs.Common.{sym, ap, ap₂, ◌∙◌, append_assoc, arith, length-append, length-take, length-drop, take-append-drop, drop-drop, take_all, take-take, length-take-le, pow-add, pow_mono}
use Rattle.std.proofs.Math.Seq.{take-nil}
use Rattle.spec.specs.Bits.{Bits, bits_of, packed, unpacked}
use Rattle.spec.specs.Code.{map_bytes}
use Rattle.spec.specs.ResultRecord.{rows_from, some_past}
use Rattle.spec.specs.ResultWriter.{packed_bytes, packed_rows}
use Rattle.laws.specs.BitLaws.{packed_lt}
use Rattle.laws.specs.MapBits.{length_unpacked, whole_bytes}

-- the w low bits of each byte, and each w bits as a byte
unfoldable pub bits_of_each : ℕ → List ℕ → List ℕ
bits_of_each w [] = []
bits_of_each w (x ∷ s) = bits_of w x ++ bits_of_each w s

unfoldable pub packed_each : ℕ → ℕ → List ℕ → List ℕ
packed_each w zero u = []
packed_each w (suc c) u = packed (take w u) ∷ packed_each w c (drop w u)

-- at most eight bits make a byte
pub packed_small : {u : List ℕ} → Bits u → length u ≤ 8 → packed u < 256
packed_small {u} b h = omega (arith, packed_lt b, pow_mono {i = length u} {j = 8} h)

-- rows of n bits have n bits each
pub length_rows : (n k : ℕ) (s : List ℕ) → k * map_bytes n ≤ length s → length (rows_from n k s) ≡ k * n
unfolding rows_from
length_rows n zero s h = omega arith
length_rows n (suc k) s h =
    let b : ℕ = map_bytes n in
    let q : suc k * b ≡ b + k * b = omega arith in
    let l : length (take b s) ≡ b = length-take-le b s (omega arith) in
    let row : length (take n (unpacked (take b s))) ≡ n = length-take-le n (unpacked (take b s)) (omega (arith, length_unpacked (take b s))) in
    length-append (take n (unpacked (take b s))) (rows_from n k (drop b s))
    ∙ ap₂ ◌+◌ row (length_rows n k (drop b s) (omega (arith, length-drop b s)))
    ∙ omega arith

-- ---- rows of four
pub rows_of_four : (k : ℕ) (s : List ℕ) → length s ≡ k → rows_from 4 k s ≡ bits_of_each 4 s
unfolding rows_from bits_of_each unpacked bits_of
rows_of_four zero [] e = refl
rows_of_four zero (x ∷ s) e = absurd (omega (arith, e))
rows_of_four (suc k) [] e = absurd (omega (arith, e))
rows_of_four (suc k) (x ∷ s) e = ap (λ (l : List ℕ). bits_of 4 x ++ l) (rows_of_four k s (omega (arith, e)))

pub packed_fours : (k : ℕ) (u : List ℕ) → packed_rows 4 k u ≡ packed_each 4 k u
unfolding packed_rows packed_bytes packed_each
packed_fours zero u = refl
packed_fours (suc k) u =
    ap₂ (λ (w l : List ℕ). packed w ∷ l) (take_all 8 (take 4 u) (omega (arith, length-take 4 u))) (packed_fours k (drop 4 u))

-- ---- rows of whole bytes
-- eight positions or more are whole bytes
pub in_bytes : (m : ℕ) → 3 ≤ m → 2 ^ m ≡ 8 * map_bytes (2 ^ m)
in_bytes m h =
    let p : 2 ^ m ≡ 2 ^ (m - 3) * 8 = ap (λ (k : ℕ). 2 ^ k) (omega arith) ∙ pow-add 2 (m - 3) 3 in
    omega arith

eight_each : (s : List ℕ) → unpacked s ≡ bits_of_each 8 s
unfolding unpacked bits_of_each
eight_each [] = refl
eight_each (x ∷ s) = ap (λ (l : List ℕ). bits_of 8 x ++ l) (eight_each s)

each_append : (w : ℕ) (a b : List ℕ) → bits_of_each w (a ++ b) ≡ bits_of_each w a ++ bits_of_each w b
unfolding bits_of_each
each_append w [] b = refl
each_append w (x ∷ a) b = ap (λ (l : List ℕ). bits_of w x ++ l) (each_append w a b) ∙ sym (append_assoc (bits_of w x) (bits_of_each w a) (bits_of_each w b))

no_bytes : bits_of_each 8 [] ≡ []
unfolding bits_of_each
no_bytes = refl

pub rows_of_bytes : (n k : ℕ) (s : List ℕ) → n ≡ 8 * map_bytes n → length s ≡ k * map_bytes n → rows_from n k s ≡ bits_of_each 8 s
unfolding rows_from
rows_of_bytes n zero [] h e = sym no_bytes
rows_of_bytes n zero (x ∷ s) h e = absurd (omega (arith, e))
rows_of_bytes n (suc k) s h e =
    let b : ℕ = map_bytes n in
    let q : suc k * b ≡ b + k * b = omega arith in
    let l : length (take b s) ≡ b = length-take-le b s (omega arith) in
    let row : take n (unpacked (take b s)) ≡ bits_of_each 8 (take b s)
    = take_all n (unpacked (take b s)) (omega (arith, length_unpacked (take b s))) ∙ eight_each (take b s) in
    ap₂ ◌++◌ row (rows_of_bytes n k (drop b s) h (length-drop b s ∙ omega arith))
    ∙ sym (each_append 8 (take b s) (drop b s))
    ∙ ap (bits_of_each 8) (take-append-drop b s)

-- a part of the front, cut off before and after
drop_within : (i j k : ℕ) (u : List ℕ) → k ≡ i + j → drop i (take k u) ≡ take j (drop i u)
drop_within zero j k u e = let q : k ≡ j = omega arith in ap (λ (i : ℕ). take i u) q
drop_within (suc i) j zero u e = absurd (omega arith)
drop_within (suc i) j (suc k) [] e = sym (take-nil j)
drop_within (suc i) j (suc k) (x ∷ u) e = drop_within i j k u (omega arith)

one_row : (b : ℕ) (u : List ℕ) → packed_bytes b (take (8 * b) u) ≡ packed_each 8 b u
unfolding packed_bytes packed_each
one_row zero u = refl
one_row (suc b) u =
    ap₂ (λ (w l : List ℕ). packed w ∷ packed_bytes b l) (take-take 8 (8 * suc b) u (omega arith)) (drop_within 8 (8 * b) (8 * suc b) u (omega arith))
    ∙ ap (λ (l : List ℕ). packed (take 8 u) ∷ l) (one_row b (drop 8 u))

each_further : (b c : ℕ) (u : List ℕ) → packed_each 8 b u ++ packed_each 8 c (drop (8 * b) u) ≡ packed_each 8 (b + c) u
unfolding packed_each
each_further zero c u = let e : 0 + c ≡ c = omega arith in ap (λ (k : ℕ). packed_each 8 k u) (sym e)
each_further (suc b) c u =
    let e : suc b + c ≡ suc (b + c) = omega arith in
    let f : 8 * suc b ≡ 8 + 8 * b = omega arith in
    ap (λ (l : List ℕ). packed (take 8 u) ∷ (packed_each 8 b (drop 8 u) ++ packed_each 8 c l)) (ap (λ (k : ℕ). drop k u) f ∙ sym (drop-drop (8 * b) 8 u))
    ∙ ap (λ (l : List ℕ). packed (take 8 u) ∷ l) (each_further b c (drop 8 u))
    ∙ ap (λ (k : ℕ). packed_each 8 k u) (sym e)

none_packed : (c : ℕ) (u : List ℕ) → c ≡ 0 → packed_each 8 c u ≡ []
unfolding packed_each
none_packed c u e = rw e

pub packed_bytes_lem : (n k : ℕ) (u : List ℕ) → n ≡ 8 * map_bytes n → packed_rows n k u ≡ packed_each 8 (k * map_bytes n) u
unfolding packed_rows
packed_bytes_lem n zero u h = sym (none_packed (0 * map_bytes n) u (omega arith))
packed_bytes_lem n (suc k) u h =
    let b : ℕ = map_bytes n in
    let q : b + k * b ≡ suc k * b = omega arith in
    ap₂ ◌++◌ (ap (λ (i : ℕ). packed_bytes b (take i u)) h ∙ one_row b u) (packed_bytes_lem n k (drop n u) h ∙ ap (λ (i : ℕ). packed_each 8 (k * b) (drop i u)) h)
    ∙ each_further b (k * b) u
    ∙ ap (λ (c : ℕ). packed_each 8 c u) q

-- so no bit is past them
pub none_past : (m k : ℕ) (s : List ℕ) → 3 ≤ m → k * map_bytes (2 ^ m) ≤ length s → some_past (2 ^ m) k s ≡ false
unfolding some_past
none_past m zero s h l = refl
none_past m (suc k) s h l =
    let b : ℕ = map_bytes (2 ^ m) in
    let q : suc k * b ≡ k * b + b = omega arith in
    ap₂ ◌||◌ (whole_bytes m (take b s) h (length-take-le b s (omega arith))) (none_past m k (drop b s) h (omega (arith, length-drop b s)))
