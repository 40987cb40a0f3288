-- The history of a block: for each position and rank, l places a position, 2 * parent + bit. A path's prefix is read back from it.
use Rattle.std.specs.Prelude.{◌≡◌, refl, List, [], ◌∷◌, ◌++◌, map, ℕ, zero, suc, ◌+◌, ◌-◌, ◌*◌, ◌/◌, ◌%◌, ◌<◌, ◌≤◌, length, take, drop, get_or}
use Rattle.std.proofs.Common.{sym, ap, ap₂, ◌∙◌, arith, mod-eq_of_lt, length-append, take-suc}
use Rattle.std.proofs.Math.Seq.{take-length}
use Rattle.spec.specs.Bits.{Bits, nil}
use Rattle.spec.specs.Outcome.{padded, concat}
use Rattle.laws.specs.BitLaws.{bits_snoc, bits_append, bits_zeros}
use Rattle.rows.specs.Blocks.{filled_row, concat_more}

-- the history g leads back from rank r after i positions to the prefix w
pub data Trace (l : ℕ) (g : List ℕ) : ℕ → ℕ → List ℕ → Type 0 where
  begun : {r : ℕ} → r < l → Trace l g 0 r []
  back : {i r q b : ℕ} {w : List ℕ} → r < l → b < 2 → get_or g (l * i + r) 0 ≡ 2 * q + b → Trace l g i q w → Trace l g (suc i) r (w ++ b ∷ [])

-- after p positions it leads back from each rank to the prefix of that rank in a list
abbrev pub Traced : ℕ → ℕ → List ℕ → List (List ℕ) → Type 0
Traced l p g ps = (r : ℕ) → r < length ps → Trace l g p r (get_or ps r [])

-- The prefix that is read back from rank r after i positions, whatever g holds: the lowest bit of each place read is the path's bit,
-- and the five above it are the rank to read at next.
abbrev pub traced_back : (l : ℕ) (g : List ℕ) (i r : ℕ) → List ℕ
traced_back l g zero r = []
traced_back l g (suc i) r = traced_back l g i (get_or g (l * i + r) 0 / 2 % 32) ++ (get_or g (l * i + r) 0 % 2 ∷ [])

-- the prefixes that are read back from ranks 0 to count - 1 after p positions
abbrev pub prefixes_back : (l : ℕ) (g : List ℕ) (p count : ℕ) → List (List ℕ)
prefixes_back l g p zero = []
prefixes_back l g p (suc r) = prefixes_back l g p r ++ (traced_back l g p r ∷ [])

-- Reading back from rank r after p positions as far as position `from` leads to rank q, and puts the bits from there on into their places
-- of a row. Where the history leads back to a prefix, it leads back from q to the front of it. Whatever it holds, q has five bits.
pub record LedBack (l from p r : ℕ) (g row₀ : List ℕ) (q : ℕ) (row : List ℕ) : Type 0 where
  pub rest : traced_back l g from q ++ drop from row ≡ traced_back l g p r ++ drop p row₀
  pub leads : l ≤ 32 → (w : List ℕ) → Trace l g p r w → Trace l g from q (take from w)
  pub low : q < 32

-- rows of n bytes for count paths of a list of l, after p positions; past is l * p
pub record Fits (l p past n count inputs history : ℕ) : Type 0 where
  pub list : l ≤ 32
  pub few : count ≤ l
  pub size : n ≤ 1024
  pub stop : p ≤ n
  pub past_is : past ≡ l * p
  pub there : past + 32 ≤ history
  pub room : n * l ≤ inputs

-- N places after the input rows are written: the prefixes of count ranks, each filled up to n places, then 0
abbrev pub InputsWritten : ℕ → ℕ → ℕ → ℕ → ℕ → List ℕ → List ℕ → Type 0
InputsWritten l p n count N g inputs = inputs ≡ padded 0 N (concat (map (filled_row n) (prefixes_back l g p count)))

-- ---- laws
pub length_back : (l : ℕ) (g : List ℕ) (i r : ℕ) → length (traced_back l g i r) ≡ i
length_back l g zero r = refl
length_back l g (suc i) r =
    let x : ℕ = get_or g (l * i + r) 0 in
    length-append (traced_back l g i (x / 2 % 32)) (x % 2 ∷ []) ∙ omega (arith, length_back l g i (x / 2 % 32))

-- whatever the history holds, bits are read back
bits_back : (l : ℕ) (g : List ℕ) (i r : ℕ) → Bits (traced_back l g i r)
bits_back l g zero r = nil
bits_back l g (suc i) r =
    let x : ℕ = get_or g (l * i + r) 0 in
    bits_snoc (x % 2) (bits_back l g i (x / 2 % 32)) (omega arith)

bits_rows : (l : ℕ) (g : List ℕ) (p n count : ℕ) → Bits (concat (map (filled_row n) (prefixes_back l g p count)))
bits_rows l g p n zero = nil
bits_rows l g p n (suc r) =
    rw (concat_more (filled_row n) (prefixes_back l g p r) (traced_back l g p r))
    (bits_append (bits_rows l g p n r) (bits_append (bits_back l g p r) (bits_zeros (n - length (traced_back l g p r)))))

pub inputs_bits : (l p n count N : ℕ) (g inputs : List ℕ) → InputsWritten l p n count N g inputs → Bits inputs
inputs_bits l p n count N g inputs e =
    let rows : List ℕ = concat (map (filled_row n) (prefixes_back l g p count)) in
    rw e (bits_append (bits_rows l g p n count) (bits_zeros (N - length rows)))

pub trace_rank : {l i r : ℕ} {g w : List ℕ} → Trace l g i r w → r < l
trace_rank (begun p) = p
trace_rank (back p b e t) = p

-- it reads nothing at or past position i
pub trace_kept : {l : ℕ} {g : List ℕ} {i r : ℕ} {w : List ℕ} (g' : List ℕ) → ((j : ℕ) → j < l * i → get_or g' j 0 ≡ get_or g j 0) → Trace l g i r w → Trace l g' i r w
trace_kept g' h (begun p) = begun p
trace_kept {l} g' h (back {i} {r} p b e t) =
    back p b (h (l * i + r) (omega (arith, step l i)) ∙ e) (trace_kept g' (λ j k. h j (omega (arith, step l i))) t)
  where
    step : (l i : ℕ) → l * suc i ≡ l * i + l
    step l i = omega arith

-- where the history leads back to a prefix, this is read back: ranks of a list have five bits
pub trace_back : {l : ℕ} {g : List ℕ} {i r : ℕ} {w : List ℕ} → l ≤ 32 → Trace l g i r w → traced_back l g i r ≡ w
trace_back hl (begun p) = refl
trace_back {l} {g = g} hl (back {i} {r} {q} {b} {w} p hb e t) =
    let x : ℕ = get_or g (l * i + r) 0 in
    let low : x % 2 ≡ b = omega arith in
    let half : x / 2 ≡ q = omega arith in
    let high : x / 2 % 32 ≡ q = rw half (mod-eq_of_lt (omega (arith, trace_rank t, hl))) in
    ap₂ (λ (j c : ℕ). traced_back l g i j ++ c ∷ []) high low ∙ ap (λ (v : List ℕ). v ++ b ∷ []) (trace_back hl t)

-- it has a bit for each position
pub trace_long : {l i r : ℕ} {g w : List ℕ} → l ≤ 32 → Trace l g i r w → length w ≡ i
trace_long {l} {i} {r} {g} hl t = ap length (sym (trace_back hl t)) ∙ length_back l g i r

-- and so are all prefixes of a list
pub prefixes_back_lem : (l p : ℕ) (g : List ℕ) (ps : List (List ℕ)) → l ≤ 32 → Traced l p g ps → prefixes_back l g p (length ps) ≡ ps
prefixes_back_lem l p g ps hl t = first (length ps) (omega arith) ∙ take-length ps
  where
    first : (k : ℕ) → k ≤ length ps → prefixes_back l g p k ≡ take k ps
    first zero h = refl
    first (suc k) h = ap₂ (λ (xs : List (List ℕ)) (w : List ℕ). xs ++ w ∷ []) (first k (omega arith)) (trace_back hl (t k h)) ∙ sym (take-suc ps k [] h)
