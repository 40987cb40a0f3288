-- The loop that writes the words of the input rows. Assumes nothing.
use mathlib.Core.Path.{◌≡◌, refl, sym, ap, ◌∙◌}
use mathlib.Core.Bool.{Bool}
use mathlib.Core.List.{List, ◌++◌, map}
use Prim.Native.Nat.{ℕ, ◌+◌, ◌*◌, ◌<◌}
use native.Mathlib.Numerals.{add-one}
use lib.ListN.{length, take, drop}
use borrow.Rule.Slice.PartMut.{put_mid}
use Rattle.spec.specs.Transform.{transform_by}
use Rattle.spec.specs.Outcome.{concat}
use Rattle.laws.specs.BitLaws.{bits_take, bits_drop}
use Rattle.transform.specs.Word.{Word}
use Rattle.rows.specs.Blocks.{rows_of, rows_of_more, concat_more}
use Rattle.rows.specs.Words.{WordsFit}
use Rattle.rows.proofs.Filling.{Filling, row_inside, row_long, filling_more}

-- the words of the first r rows
abbrev pub word_rows : ℕ → Bool → ℕ → List ℕ → ℕ → List ℕ
word_rows m arikan n inputs r = concat (map (transform_by arikan m) (rows_of n r inputs))

module _ {m n l count N : ℕ} {inputs : List ℕ} (f : WordsFit m n l count N inputs) {r : ℕ} (h : r < count) (k : ℕ) (ek : k ≡ n) where
  -- the next row of the inputs
  pub input_long : length (take k (drop (n * r) inputs)) ≡ n
  input_long = row_long n (length inputs) l count r k inputs refl f.few f.there h ek

  pub input_word : Word m (take k (drop (n * r) inputs))
  input_word = record {
    least = f.least;
    most = f.most;
    long = input_long ∙ f.size;
    bits = bits_take (bits_drop f.bits (n * r)) k;
  }

  -- one word more
  pub words_more : (arikan : Bool) {s new : List ℕ} → Filling n r N (word_rows m arikan n inputs r) s
      → new ≡ transform_by arikan m (take k (drop (n * r) inputs)) → length new ≡ length (take k (drop (n * r) s))
      → Filling n (r + 1) N (word_rows m arikan n inputs (r + 1)) (put_mid (n * r) k s new)
  words_more arikan {s} {new} c word kept =
      let here : take k (drop (n * r) inputs) ≡ take n (drop (n * r) inputs) = rw ek in
      let next : word_rows m arikan n inputs (r + 1) ≡ word_rows m arikan n inputs r ++ new =
      ap (λ (j : ℕ). word_rows m arikan n inputs j) (add-one r)
      ∙ ap (λ (xs : List (List ℕ)). concat (map (transform_by arikan m) xs)) (rows_of_more n r inputs)
      ∙ concat_more (transform_by arikan m) (rows_of n r inputs) (take n (drop (n * r) inputs))
      ∙ ap (λ (t : List ℕ). word_rows m arikan n inputs r ++ t) (sym (word ∙ ap (transform_by arikan m) here)) in
      filling_more c (row_inside n N l count r f.few f.room h) k ek new (word_rows m arikan n inputs (r + 1)) kept next
