-- What the call that writes the words of input rows takes and leaves.
use Rattle.std.specs.Prelude.{◌≡◌, Bool, List, map, ℕ, ◌*◌, ◌^◌, ◌≤◌, length}
use Rattle.spec.specs.Bits.{Bits}
use Rattle.spec.specs.Transform.{transform_by}
use Rattle.spec.specs.Outcome.{padded, concat}
use Rattle.rows.specs.Blocks.{rows_of}

-- rows of n = 2 ^ m bits for count paths of a list of l, with N places for their words
pub record WordsFit (m n l count N : ℕ) (inputs : List ℕ) : Type 0 where
  pub least : 2 ≤ m
  pub most : m ≤ 10
  pub size : n ≡ 2 ^ m
  pub list : l ≤ 32
  pub few : count ≤ l
  pub room : n * l ≤ N
  pub there : n * l ≤ length inputs
  pub bits : Bits inputs

-- N places after the words are written: the transforms of the first count rows of the inputs, then 0
abbrev pub WordsWritten : ℕ → Bool → ℕ → ℕ → ℕ → List ℕ → List ℕ → Type 0
WordsWritten m arikan n count N inputs words = words ≡ padded 0 N (concat (map (transform_by arikan m) (rows_of n count inputs)))
