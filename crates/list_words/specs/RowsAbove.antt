-- The rows of the payloads whose correlations are at the mark or above are the list on paper.
use Rattle.std.specs.Prelude.{◌≡◌, Bool, cond, length, get_or, ℤ}
use Rattle.std.proofs.Math.Path.{refl, ap, ap₂}
use Rattle.std.proofs.Common.{sym, ◌∙◌, arith}
use Rattle.std.proofs.Math.Bool.{true, false}
use mathlib.Core.List.{List, [], ◌∷◌, map}
use Prim.Native.Nat.{ℕ, suc, ◌+◌, ◌<◌}
use Rattle.std.specs.Int.Signed.{le_z}
use Rattle.spec.specs.Code.{Code, payload_size, input_for, code_transform, encoded}
use Rattle.spec.specs.Score.{correlation}
use Rattle.spec.specs.Decoder.{Row}
use Rattle.spec.specs.WordsAbove.{kept, word_row, reaches, words_above}
use Rattle.payload_blocks.specs.Payloads.{numeral, payloads, correlations}
use Rattle.payload_blocks.specs.Numerals.{length_payloads, payload_at}
use Rattle.payload_blocks.specs.InputsInOrder.{inputs_are}
use Rattle.list_words.specs.Hits.{hits, input_at, word_at, row_at}

module _ (c : Code) (y : List ℤ) (mark : ℤ) where
  -- the row of an input
  abbrev row : List ℕ → Row
  row = word_row (code_transform c) c y

  row_is : (q : ℕ) {p : List ℕ} → p ≡ numeral (payload_size c) q → row_at c y q ≡ row (input_for c p)
  unfolding input_at word_at encoded
  row_is q e = ap (λ (u : List ℕ). row (input_for c u)) (sym e)

  -- payloads that stand in a row from number q on
  rows_from_lem : (q : ℕ) (ps : List (List ℕ)) → ((i : ℕ) → i < length ps → get_or ps i [] ≡ numeral (payload_size c) (q + i))
      → map (row_at c y) (hits mark q (map (λ (p : List ℕ). correlation y (encoded c p)) ps))
      ≡ map row (kept (reaches (code_transform c) c y mark) (map (input_for c) ps))
  unfolding encoded
  rows_from_lem q [] e = refl
  rows_from_lem q (p ∷ ps) e =
      let first : p ≡ numeral (payload_size c) q = e 0 (omega arith) ∙ ap (numeral (payload_size c)) (omega arith) in
      go (le_z mark (correlation y (code_transform c (input_for c p)))) first
      (rows_from_lem (suc q) ps (λ i h. e (suc i) (omega (arith, h)) ∙ ap (numeral (payload_size c)) (omega arith)))
    where
      go : (b : Bool) → p ≡ numeral (payload_size c) q
          → map (row_at c y) (hits mark (suc q) (map (λ (p : List ℕ). correlation y (encoded c p)) ps)) ≡ map row (kept (reaches (code_transform c) c y mark) (map (input_for c) ps))
          → map (row_at c y) (cond b (q ∷ hits mark (suc q) (map (λ (p : List ℕ). correlation y (encoded c p)) ps)) (hits mark (suc q) (map (λ (p : List ℕ). correlation y (encoded c p)) ps)))
          ≡ map row (cond b (input_for c p ∷ kept (reaches (code_transform c) c y mark) (map (input_for c) ps)) (kept (reaches (code_transform c) c y mark) (map (input_for c) ps)))
      go true first rest = ap₂ (λ (r : Row) (rs : List Row). r ∷ rs) (row_is q first) rest
      go false first rest = rest

  pub rows_above : map (row_at c y) (hits mark 0 (correlations c y)) ≡ words_above (code_transform c) c y mark
  unfolding correlations words_above
  rows_above =
      let k : ℕ = payload_size c in
      rows_from_lem 0 (payloads k) (λ i h. payload_at k i (omega (arith, h, length_payloads k)) ∙ ap (numeral k) (omega arith))
      ∙ ap (λ (us : List (List ℕ)). map row (kept (reaches (code_transform c) c y mark) us)) (sym (inputs_are c))
