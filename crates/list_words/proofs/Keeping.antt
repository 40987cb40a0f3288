-- One row more behind those that were kept. Assumes nothing.
use mathlib.Core.Path.{◌≡◌, sym, ap, ap₂, ◌∙◌}
use mathlib.Core.List.{List, [], ◌∷◌, ◌++◌, map, map-append}
use Prim.Native.Nat.{ℕ, zero, suc, ◌+◌, ◌*◌, ◌<◌, ◌≤◌}
use native.Mathlib.Omega.{arith}
use lib.ListN.{length, take, drop, set, length-append, length-set, length-map, length-take, length-drop}
use lib.IntN.{ℤ, pos}
use borrow.Rule.Slice.PartMut.{put_mid, same_len_mid}
use Rattle.spec.specs.Code.{Code, size, payload_size}
use Rattle.spec.specs.Outcome.{padded, concat}
use Rattle.laws.specs.Accepted.{Accepted, flag_count}
use Rattle.laws.specs.Inputs.{length_input}
use Rattle.rows.specs.Blocks.{part_put, padded_set, concat_more}
use Rattle.payload_blocks.specs.Numerals.{bits_numeral}
use Rattle.payload_blocks.specs.PayloadBlocks.{length_encoded}
use Rattle.list_words.specs.Hits.{input_at, word_at}
use Rattle.list_words.specs.Kept.{RowFits}

-- ---- the rows are n bytes each
module _ {c : Code} (a : Accepted c) (q : ℕ) where
  pub input_long : length (input_at c q) ≡ size c
  unfolding input_at
  input_long = length_input c (bits_numeral (payload_size c) q) ∙ flag_count a

  pub word_long : length (word_at c q) ≡ size c
  unfolding word_at
  word_long = length_encoded c (bits_numeral (payload_size c) q) a

rows_long : (f : ℕ → List ℕ) (n : ℕ) → ((q : ℕ) → length (f q) ≡ n) → (hs : List ℕ) → length (concat (map f hs)) ≡ n * length hs
rows_long f n e [] = omega arith
rows_long f n e (q ∷ hs) = omega (arith, length-append (f q) (concat (map f hs)), e q, rows_long f n e hs)

-- ---- where the row lies
product : (n r k : ℕ) → r < k → n * r + n ≤ n * k
product n r zero h = absurd (omega arith)
product n zero (suc k) h = omega arith
product n (suc r) (suc k) h = omega (arith, product n r k (omega arith))

module _ {n found inputs words scores : ℕ} (f : RowFits n found inputs words scores) {at : ℕ} (e : at ≡ n * found) where
  pub input_inside : at + n ≤ inputs
  input_inside = omega (arith, e, product n found scores f.place, f.inputs_there)

  pub word_inside : at + n ≤ words
  word_inside = omega (arith, e, product n found scores f.place, f.words_there)

-- the part of a slice that the code lends for it
pub part_long : (at n : ℕ) (s : List ℕ) (k : ℕ) → k ≡ n → at + n ≤ length s → length (take k (drop at s)) ≡ n
part_long at n s k e h = length-take k (drop at s) ∙ omega (arith, length-drop at s, e, h)

-- ---- a row of n bytes put behind the rows of hs, in a slice that holds 0 behind them; the code lends k places for it
module _ (g : ℕ → List ℕ) (n : ℕ) (wide : (q : ℕ) → length (g q) ≡ n) (hs s : List ℕ) (at k : ℕ) (here : at ≡ n * length hs) (ek : k ≡ n)
    (inside : at + n ≤ length s) (is : s ≡ padded 0 (length s) (concat (map g hs))) where
  pub row_put : (q : ℕ) (B : List ℕ) → B ≡ g q → let t : List ℕ = put_mid at k s B in t ≡ padded 0 (length t) (concat (map g (hs ++ (q ∷ []))))
  row_put q B e_b =
      let wide_b : length B ≡ n = ap length e_b ∙ wide q in
      let kept : length (put_mid at k s B) ≡ length s = same_len_mid at k s B (wide_b ∙ sym (part_long at n s k ek inside)) in
      ap₂ (λ (j : ℕ) (t : List ℕ). put_mid at j t B) ek is
      ∙ part_put 0 (concat (map g hs)) at n (length s) (rows_long g n wide hs ∙ sym here) inside B wide_b
      ∙ ap (λ (b : List ℕ). padded 0 (length s) (concat (map g hs) ++ b)) e_b
      ∙ ap₂ (padded 0) (sym kept) (sym (concat_more g hs q))

-- a score put behind the scores of hs
pub score_put : (g : ℕ → ℤ) (hs : List ℕ) (s : List ℤ) (q : ℕ) (v : ℤ) → length hs < length s → v ≡ g q → s ≡ padded (pos 0) (length s) (map g hs)
    → let t : List ℤ = set s (length hs) v in t ≡ padded (pos 0) (length t) (map g (hs ++ (q ∷ [])))
score_put g hs s q v h e is =
    ap (λ (t : List ℤ). set t (length hs) v) is
    ∙ padded_set (pos 0) (length s) (map g hs) v (length hs) (length-map hs g) h
    ∙ ap₂ (padded (pos 0)) (sym (length-set s (length hs) v)) (ap (λ (z : ℤ). map g hs ++ (z ∷ [])) e ∙ sym (map-append g hs (q ∷ [])))
