-- The rows that were kept, one behind the other in slices that held 0, and the room for one more.
use Rattle.std.specs.Prelude.{◌≡◌, List, map, ℕ, ◌+◌, ◌*◌, ◌^◌, ◌<◌, ◌≤◌, length, take, drop, ℤ, pos, nat_abs}
use Rattle.spec.specs.Code.{Code, size, payload_size}
use Rattle.spec.specs.Score.{correlation, taken}
use Rattle.spec.specs.Outcome.{padded, concat}
use Rattle.laws.specs.ListCost.{All}
use Rattle.correlations.specs.Folding.{wrapped}
use Rattle.payload_blocks.specs.Payloads.{correlations}
use Rattle.payload_blocks.specs.BlockFits.{block}
use Rattle.list_words.specs.Hits.{counts, hits, input_at, word_at}

-- the rows of the payloads with numbers hs, and 0 behind them
pub record Kept (c : Code) (y : List ℤ) (hs inputs words : List ℕ) (scores : List ℤ) : Type 0 where
  pub inputs_are : inputs ≡ padded 0 (length inputs) (concat (map (input_at c) hs))
  pub words_are : words ≡ padded 0 (length words) (concat (map (word_at c) hs))
  pub scores_are : scores ≡ padded (pos 0) (length scores) (map (λ (q : ℕ). correlation y (word_at c q)) hs)

-- one row more of n bytes has a place behind `found` rows
pub record RowFits (n found inputs words scores : ℕ) : Type 0 where
  pub short : n ≤ 1024
  pub few : found < 1048576
  pub place : found < scores
  pub inputs_there : n * scores ≤ inputs
  pub words_there : n * scores ≤ words

-- ---- bins that hold correlations
-- small enough to be told apart in 32 bits
abbrev pub Small : ℤ → Type 0
Small z = nat_abs z ≤ 2096128

-- a bin that holds the value z, and the room that its row needs, if any
pub record BinFits (mark : ℤ) (v n found inputs words scores : ℕ) : Type 0 where
  pub value : ℤ
  pub small : Small value
  pub is : v ≡ wrapped value
  pub room : found + counts mark value ≤ scores
  pub short : n ≤ 1024
  pub few : found < 1048576
  pub inputs_there : n * scores ≤ inputs
  pub words_there : n * scores ≤ words

-- the correlations of k payloads from number q on
abbrev pub part : Code → List ℤ → ℕ → ℕ → List ℤ
part c y q k = take k (drop q (correlations c y))

-- the bins hold those of as many payloads
pub record Holds (c : Code) (y : List ℤ) (bins : List ℕ) (q : ℕ) : Type 0 where
  pub inside : q + length bins ≤ 2 ^ payload_size c
  pub small : All Small (correlations c y)
  pub is : bins ≡ map wrapped (part c y q (length bins))

-- and there is room for the rows that they ask for
pub record BlockRoom (c : Code) (mark : ℤ) (bins : List ℕ) (n found q inputs words scores : ℕ) : Type 0 where
  pub y : List ℤ
  pub holds : Holds c y bins q
  pub room : found + length (hits mark q (part c y q (length bins))) ≤ scores
  pub short : n ≤ 1024
  pub bits : payload_size c ≤ 20
  pub early : found ≤ q
  pub inputs_there : n * scores ≤ inputs
  pub words_there : n * scores ≤ words

-- ---- room for the rows of one block behind `found` rows, and for those of all
pub record TurnRoom (c : Code) (soft : List ℤ) (mark : ℤ) (r n found q inputs words scores : ℕ) : Type 0 where
  pub row : n ≡ size c
  pub early : found ≤ q
  pub room : found + length (hits mark q (block c soft r q)) ≤ scores
  pub inputs_there : n * scores ≤ inputs
  pub words_there : n * scores ≤ words

pub record PassRoom (c : Code) (soft : List ℤ) (mark : ℤ) (n inputs words scores : ℕ) : Type 0 where
  pub row : n ≡ size c
  pub room : length (hits mark 0 (correlations c (taken soft))) ≤ scores
  pub inputs_there : n * scores ≤ inputs
  pub words_there : n * scores ≤ words
