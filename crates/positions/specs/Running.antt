-- What holds after i positions of a call: the live list, the tables, the slot numbers and the history stand for the live prefixes
-- of the paper decoder, and the list has the least cost of those that it dropped.
use Rattle.std.specs.Prelude.{◌≡◌, refl, Bool, List, [], ℕ, zero, suc, ◌+◌, ◌*◌, ◌<◌, ◌≤◌, ◌^◌, length, take, drop, get_or, replicate, ℤ}
use Rattle.spec.specs.Code.{Code, frozen_bit}
use Rattle.laws.specs.Cost.{magnitude}
use Rattle.laws.specs.CodeScore.{code_cost}
use Rattle.laws.specs.CeilingCost.{lost_cost}
use Rattle.laws.specs.MapBits.{flags_of}
use Rattle.laws.specs.Accepted.{Ruled}
use Rattle.tables.specs.Tab.{slot_start}
use Rattle.tables.specs.Right.{AllRight}
use Rattle.tables.specs.Start.{Started}
use Rattle.laws.specs.Windows.{F}
use Rattle.laws.specs.Nodes.{node_soft}
use Rattle.tables.specs.Walk.{slot_w, slot_o, Named}
use Rattle.live.specs.declared.Live.{Live}
use Rattle.live.specs.Entries.{cost_of}
use Rattle.live.specs.Lists.{entries}
use Rattle.live.specs.Stands.{Rep}
use Rattle.rows.specs.Trace.{Traced}
use Rattle.rows.specs.DecodedRows.{prefixes}

-- the prefix at a rank
abbrev pub prefix_at : Code → List ℤ → ℕ → ℕ → ℕ → List ℕ
prefix_at c y l i r = get_or (prefixes c y l i) r []

-- the sizes of a call: deep layers below the top, h nodes in the layers of all slots, n positions
pub record BlockSizes (deep l h n : ℕ) : Type 0 where
  pub deepest : deep ≤ 8
  pub some : 1 ≤ l
  pub list : l ≤ 32
  pub half : h ≡ slot_start (2 ^ suc deep) l 0
  pub whole : n ≡ 2 ^ suc (suc deep)
  pub near : h ≤ 1000000

-- the call's code and soft values
pub record Call (c : Code) (y : List ℤ) (deep : ℕ) : Type 0 where
  pub exponent : c.m ≡ suc (suc deep)
  pub soft : length y ≡ 2 ^ suc (suc deep)
  pub small : magnitude y < 2 ^ 31

pub record Running (c : Code) (y : List ℤ) (deep l h i : ℕ) (s : Live) (t b slots : List ℕ) : Type 0 where
  pub call : Call c y deep
  pub counted : s.count ≡ length (prefixes c y l i)
  pub rep : Rep i (prefixes c y l i) (entries s)
  pub costs : (r : ℕ) → r < length (prefixes c y l i) → cost_of (get_or s.code r 0) ≡ code_cost c y (prefix_at c y l i r)
  pub lost : s.lost ≡ lost_cost c y l i
  pub ready : i < 2 ^ suc (suc deep) → (k d : ℕ) → k + d ≡ deep
      → AllRight c.arikan k d l h s.count y (prefix_at c y l i) t (take (3 * h) b) (slot_w slots d) (slot_o slots d)
  pub base : (j x : ℕ) → j < 2 ^ deep → x < 16 → get_or t (16 * (h + j) + x) 0 ≡ F c.arikan (node_soft deep y j) x
  pub traced : Traced l i (drop (3 * h) b) (prefixes c y l i)

-- what the code itself keeps, whatever the prefixes are
pub record Standing (deep l : ℕ) (s : Live) (slots : List ℕ) : Type 0 where
  pub few : s.count ≤ l
  pub long : length (entries s) ≡ s.count
  pub named : Named deep l s.count slots

-- position i, whose notes go to the place `at`; the lengths of the number table, the byte table, the slot numbers and the map
pub record PositionFits (deep l h n i at numbers bytes slots map : ℕ) : Type 0 where
  pub sizes : BlockSizes deep l h n
  pub inside : i < n
  pub place : at ≡ 3 * h + l * i
  pub words : 16 * (h + 2 ^ deep) ≤ numbers
  pub room : at + l ≤ bytes
  pub long : 800 ≤ slots
  pub flags : n ≤ 8 * map

-- own has, by rank, the bit by which each prefix after i positions goes on where position i is frozen
abbrev pub Owns : Code → List ℤ → ℕ → ℕ → List ℕ → Type 0
Owns c y l i own = (k : ℕ) → k < length (prefixes c y l i) → get_or own k 0 ≡ frozen_bit c i (prefix_at c y l i k)

-- from the place k on, but for the l places at `at`, b' is b
pub record Beside (k at l : ℕ) (b b' : List ℕ) : Type 0 where
  pub below : (j : ℕ) → k ≤ j → j < at → get_or b' j 0 ≡ get_or b j 0
  pub above : (j : ℕ) → at + l ≤ j → get_or b' j 0 ≡ get_or b j 0

-- for whatever code with this transform and map, and whatever soft values: from what holds after i positions to what holds after one more
abbrev pub Moves : Bool → ℕ → ℕ → ℕ → ℕ → List ℕ → List ℕ → Live → List ℕ → List ℕ → List ℕ → Live → List ℕ → List ℕ → List ℕ → Type 0
Moves arikan deep l h i map own s t b slots r t' b' slots' =
    (c : Code) (y : List ℤ) → c.arikan ≡ arikan → c.map ≡ map → Owns c y l i own → Running c y deep l h i s t b slots → Running c y deep l h (suc i) r t' b' slots'

-- positions 0 to p - 1 of n; behind the history there is room for a row of n bytes for each path
pub record RunFits (deep l h n p numbers bytes rows : ℕ) (map pairs : List ℕ) : Type 0 where
  pub sizes : BlockSizes deep l h n
  pub short : n ≤ 1024
  pub stop : p ≤ n
  pub words : 16 * (h + 2 ^ deep) ≤ numbers
  pub there : 3 * h + l * n + 32 ≤ bytes
  pub room : 3 * h + l * n + n * l ≤ bytes
  pub wide : n * l ≤ rows
  pub flags : n ≤ 8 * length map
  pub ruled : Ruled (flags_of n map) pairs

-- a list of zeros
abbrev pub Zeros : List ℕ → Type 0
Zeros b = (j : ℕ) → get_or b j 0 ≡ 0

pub zeros_at : (n : ℕ) → Zeros (replicate n 0)
zeros_at zero j = refl
zeros_at (suc n) zero = refl
zeros_at (suc n) (suc j) = zeros_at n j

-- what holds after p positions, with some slot numbers
pub record Ran (c : Code) (y : List ℤ) (deep l h p : ℕ) (r : Live) (t b : List ℕ) : Type 0 where
  pub slots : List ℕ
  pub running : Running c y deep l h p r t b slots

-- for whatever code with this transform, map and pairs, and whatever soft values: from the start to the stop position
pub record Runs (arikan : Bool) (deep l h p : ℕ) (map pairs t b : List ℕ) (r : Live) (t' b' : List ℕ) : Type 0 where
  pub few : r.count ≤ l
  pub ran : (c : Code) (y : List ℤ) → c.arikan ≡ arikan → c.map ≡ map → c.pairs ≡ pairs → Call c y deep → Started arikan deep l h y t → Zeros b → Ran c y deep l h p r t' b'
