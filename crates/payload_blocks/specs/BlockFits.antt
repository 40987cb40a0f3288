-- What a block of correlations is made from: an accepted code of at most 20 payload bits, soft values in range, the columns for the last r
-- bits, and working memory. The last three numbers are the places of payload, word and bins.
use Rattle.std.specs.Prelude.{◌≡◌, false, List, map, ℕ, ◌^◌, ◌≤◌, length, take, drop, ℤ}
use Rattle.spec.specs.Code.{Code, size, payload_size}
use Rattle.spec.specs.Score.{taken}
use Rattle.spec.specs.Faults.{some}
use Rattle.spec.specs.Refusals.{out_of_range}
use Rattle.correlations.specs.Folding.{wrapped, columns}
use Rattle.payload_blocks.specs.Payloads.{generators, correlations}
use Rattle.payload_blocks.specs.WordFits.{WordFits}

pub record BlockFits (c : Code) (soft : List ℤ) (cols : List ℕ) (r payload word bins : ℕ) : Type 0 where
  pub lent : WordFits c payload word
  pub soft_long : length soft ≡ size c
  pub in_range : some out_of_range soft ≡ false
  pub few : payload_size c ≤ 20
  pub last : r ≤ payload_size c
  pub bins_long : bins ≡ 2 ^ r
  pub columns_are : cols ≡ columns (size c) (generators c r)

-- the correlations of the payloads from number q on, 2 ^ r of them, and the bins that hold them
abbrev pub block : Code → List ℤ → ℕ → ℕ → List ℤ
block c soft r q = take (2 ^ r) (drop q (correlations c (taken soft)))

abbrev pub block_bins : Code → List ℤ → ℕ → ℕ → List ℕ
block_bins c soft r q = map wrapped (block c soft r q)
