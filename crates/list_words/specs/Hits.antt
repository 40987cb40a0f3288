-- Which payloads have words at a mark or above, by their numbers, and the rows of such numbers.
use Rattle.std.specs.Prelude.{cond, List, [], ◌∷◌, ℕ, suc, ℤ}
use Rattle.std.specs.Int.Signed.{le_z}
use Rattle.spec.specs.Code.{Code, payload_size, input_for, encoded}
use Rattle.spec.specs.Score.{correlation}
use Rattle.spec.specs.Decoder.{Row}
use Rattle.payload_blocks.specs.Payloads.{numeral}

-- 1 where a correlation is at the mark or above, else 0
abbrev pub counts : ℤ → ℤ → ℕ
counts mark z = cond (le_z mark z) 1 0

-- the numbers, from q on, of the correlations that are at the mark or above
abbrev pub hits : ℤ → ℕ → List ℤ → List ℕ
hits mark q [] = []
hits mark q (z ∷ zs) = cond (le_z mark z) (q ∷ hits mark (suc q) zs) (hits mark (suc q) zs)

-- the input, the word and the correlation of payload q
module _ (c : Code) where
  unfoldable pub input_at : ℕ → List ℕ
  input_at q = input_for c (numeral (payload_size c) q)

  unfoldable pub word_at : ℕ → List ℕ
  word_at q = encoded c (numeral (payload_size c) q)

  abbrev pub row_at : List ℤ → ℕ → Row
  row_at y q = record { input = input_at q; word = word_at q; score = correlation y (word_at q) }
