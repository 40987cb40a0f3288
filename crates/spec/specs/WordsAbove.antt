-- Every code word that correlates at a mark or above: 02, wish 10. T is the transform.
use Rattle.std.specs.Prelude.{Bool, cond, List, [], ◌∷◌, ◌++◌, map, ℕ, zero, suc, length, ℤ}
use Rattle.std.specs.Int.Signed.{le_z}
use Rattle.spec.specs.Code.{Code, frozen, frozen_bit}
use Rattle.spec.specs.Score.{correlation}
use Rattle.spec.specs.Decoder.{Row}

-- the elements of a list that pass a test, in its order
abbrev pub kept : {A : Type 0} → (A → Bool) → List A → List A
kept p [] = []
kept p (x ∷ xs) = cond (p x) (x ∷ kept p xs) (kept p xs)

-- all that goes on from w over positions with these flags as the code allows, the smaller bit by bit first: by 0 and then by 1 at a clear
-- position, by its own sum at a frozen one
abbrev pub onward : Code → List ℕ → List ℕ → List (List ℕ)
onward c [] w = w ∷ []
onward c (zero ∷ fs) w = onward c fs (w ++ 0 ∷ []) ++ onward c fs (w ++ 1 ∷ [])
onward c (suc f ∷ fs) w = onward c fs (w ++ frozen_bit c (length w) w ∷ [])

-- all inputs of the code in their order
unfoldable pub code_inputs : Code → List (List ℕ)
code_inputs c = onward c (frozen c) []

module _ (T : List ℕ → List ℕ) (c : Code) (y : List ℤ) where
  -- an input, its word and the word's correlation
  abbrev pub word_row : List ℕ → Row
  word_row u = record { input = u; word = T u; score = correlation y (T u) }

  -- the word of an input correlates at the mark or above
  abbrev pub reaches : ℤ → List ℕ → Bool
  reaches mark u = le_z mark (correlation y (T u))

  unfoldable pub words_above : ℤ → List Row
  words_above mark = map word_row (kept (reaches mark) (code_inputs c))
