-- What the calls that write the rows of a decoded block take and leave.
use Rattle.std.specs.Prelude.{◌≡◌, Bool, false, List, ℕ, ◌+◌, ◌*◌, ◌<◌, ◌≤◌, ◌^◌, min, length, drop, get_or, ℤ}
use Rattle.spec.specs.Score.{taken}
use Rattle.spec.specs.Faults.{some}
use Rattle.spec.specs.Refusals.{out_of_range}
use Rattle.laws.specs.Cost.{magnitude}
use Rattle.laws.specs.ScoreCost.{score_from}
use Rattle.live.specs.declared.Live.{Live}
use Rattle.live.specs.Entries.{cost_of}
use Rattle.rows.specs.Trace.{InputsWritten}
use Rattle.rows.specs.Words.{WordsWritten}
use Rattle.rows.specs.Scores.{ScoresWritten}

-- rows of n = 2 ^ m bits for count paths of a list of l, whose history after p positions lies behind 3 * h bytes
pub record BitsFit (m l p n h count inputs words bytes : ℕ) : Type 0 where
  pub least : 2 ≤ m
  pub most : m ≤ 10
  pub size_is : n ≡ 2 ^ m
  pub list : l ≤ 32
  pub few : count ≤ l
  pub stop : p ≤ n
  pub near : h ≤ 1000000
  pub history : 3 * h + l * p + 32 ≤ bytes
  pub input_room : n * l ≤ inputs
  pub word_room : n * l ≤ words

-- the input rows, read back from the history in b, and their words
pub record BitsWritten (m : ℕ) (arikan : Bool) (l p n h count inputRoom wordRoom : ℕ) (b inputs words : List ℕ) : Type 0 where
  pub inputs_left : InputsWritten l p n count inputRoom (drop (3 * h) b) inputs
  pub words_left : WordsWritten m arikan n count wordRoom inputs words

-- the costs of the first count entries
pub record CostsRead (count : ℕ) (code costs : List ℕ) : Type 0 where
  pub long : length costs ≡ 32
  pub are : (r : ℕ) → r < count → get_or costs r 0 ≡ cost_of (get_or code r 0)

-- the ceiling, where the soft values' magnitudes add up to total: the score of the lesser of the first entry's cost and the least cost
-- that was dropped
abbrev pub ceiling_from : ℕ → Live → ℤ
ceiling_from total s = score_from total (min (cost_of (get_or s.code 0 0)) s.lost)

pub record CeilingFits (total : ℕ) (s : Live) : Type 0 where
  pub small : total ≤ 2096128
  pub below : cost_of (get_or s.code 0 0) ≤ total

-- there is an entry, and no cost of the entries is above the sum of the magnitudes of the soft values as they are taken
pub record CostsFit (room : ℕ) (soft : List ℤ) (s : Live) : Type 0 where
  pub short : length soft ≤ 1024
  pub range : some out_of_range soft ≡ false
  pub one : 0 < s.count
  pub few : s.count ≤ 32
  pub places : s.count ≤ room
  pub below : (r : ℕ) → r < s.count → cost_of (get_or s.code r 0) ≤ magnitude (taken soft)

-- the scores of the entries of s, and the ceiling
pub record CostsWritten (room : ℕ) (soft : List ℤ) (s : Live) (top : ℤ) (scores : List ℤ) : Type 0 where
  pub costs : List ℕ
  pub read : CostsRead s.count s.code costs
  pub scores_left : ScoresWritten (magnitude (taken soft)) s.count room costs scores
  pub top_is : top ≡ ceiling_from (magnitude (taken soft)) s
