-- The bits by which live paths go on at a frozen position, and the rows in which their prefixes are kept.
use Rattle.std.specs.Prelude.{◌≡◌, List, ℕ, zero, suc, ◌+◌, ◌*◌, ◌<◌, ◌≤◌, take, drop, get_or}
use Rattle.spec.specs.Code.{pairs_in, sum_at}
use Rattle.rows.specs.Trace.{Trace}
use Rattle.rows.specs.PrefixRows.{PrefixRows, RowsKept}

-- a for the bit 0, b for the bit 1
abbrev pub by_bit : ℕ → ℕ → ℕ → ℕ
by_bit zero a b = a
by_bit (suc x) a b = b

-- no pair from the place `to` on is of position i
abbrev pub Over : ℕ → ℕ → List ℕ → Type 0
Over to i pairs = (w : List ℕ) → sum_at (pairs_in (drop to pairs)) i w ≡ 0

-- the sum at position i of the pairs from a place on, for the prefix in row r of n bytes
abbrev pub own_sum : ℕ → ℕ → ℕ → List ℕ → List ℕ → ℕ → ℕ
own_sum from i n pairs rows r = sum_at (pairs_in (drop from pairs)) i (take i (drop (n * r) rows))

-- the lengths of the byte table and of the rows beside it; the notes of position i go to the place `at`
pub record OwnFits (l h n i seen held at bytes rows : ℕ) : Type 0 where
  pub list : l ≤ 32
  pub size : n ≤ 1024
  pub near : h ≤ 1000000
  pub few : held ≤ l
  pub order : seen ≤ i
  pub stop : i ≤ n
  pub place : at ≡ 3 * h + l * i
  pub there : at + 32 ≤ bytes
  pub room : 3 * h + l * n + n * l ≤ bytes
  pub wide : n * l ≤ rows

-- up to the end of the history of n positions b' is b
abbrev pub FrontKept : ℕ → ℕ → ℕ → List ℕ → List ℕ → Type 0
FrontKept l h n b b' = (j : ℕ) → j < 3 * h + l * n → get_or b' j 0 ≡ get_or b j 0

-- from the rows of the first `held` ranks after `seen` positions to those of the first count ranks after i
pub record Renewed (l h n i seen held count : ℕ) (b b' rows : List ℕ) : Type 0 where
  pub front : FrontKept l h n b b'
  pub kept : RowsKept l n seen held (drop (3 * h) b) → RowsKept l n i count (drop (3 * h) b')
  pub fresh : RowsKept l n seen held (drop (3 * h) b) → PrefixRows l n i count (drop (3 * h) b) rows

-- the rows that are kept are then those of the first held' ranks after seen' positions, and bits has the sums of the first count paths
pub record Owned (l h n i from to seen held count seen' held' : ℕ) (pairs b b' bits : List ℕ) : Type 0 where
  pub few : held' ≤ l
  pub order : seen' ≤ i
  pub front : FrontKept l h n b b'
  pub kept : RowsKept l n seen held (drop (3 * h) b) → RowsKept l n seen' held' (drop (3 * h) b')
  pub sums : RowsKept l n seen held (drop (3 * h) b) → Over to i pairs
      → (k : ℕ) (w : List ℕ) → k < count → Trace l (drop (3 * h) b) i k w → get_or bits k 0 ≡ sum_at (pairs_in (drop from pairs)) i w
