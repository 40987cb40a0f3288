-- What the parts of one position do, over lists.
use Rattle.std.specs.Prelude.{◌≡◌, List, ℕ, ◌+◌, ◌*◌, ◌%◌, ◌<◌, ◌≤◌, length, take, drop, get_or}
use Rattle.windows.specs.Op.{Wrote}
use Rattle.tables.specs.Tab.{slot_start}
use Rattle.tables.specs.Walk.{field_at}
use Rattle.tables.specs.Top.{FitTop, top_cost}
use Rattle.tables.specs.Cut.{CutSlots}
use Rattle.live.specs.declared.Live.{Live}
use Rattle.live.specs.Entries.{parent_of, bit_of, first_of}
use Rattle.live.specs.Stands.{Position}
use Rattle.positions.specs.History.{note_of}

pub record ChooseFits (i l h count : ℕ) (t b slots map : List ℕ) : Type 0 where
  pub top : FitTop l h count t b slots
  pub some : 1 ≤ l
  pub inside : i < 8 * length map

-- r is the list of the best children of s, whose costs are read at the top; f is the flag of the position, and own has each path's bit
-- where it is frozen
pub record Chosen (f i l h : ℕ) (t b slots own : List ℕ) (s r : Live) : Type 0 where
  pub bs : List ℕ
  pub cs : List ℕ
  pub ds : List ℕ
  pub bits : (k : ℕ) → k < s.count → get_or bs k 0 % 2 ≡ first_of f (get_or own k 0 % 2)
  pub firsts : (k : ℕ) → k < s.count → get_or cs k 0 ≡ top_cost i l h t b slots (get_or bs k 0 % 2) k
  pub seconds : f ≡ 0 → (k : ℕ) → k < s.count → get_or ds k 0 ≡ top_cost i l h t b slots 1 k
  pub position : Position f l bs cs ds s r

-- the parents and last bits of the first count entries
pub record Lineage (count : ℕ) (code parents bits : List ℕ) : Type 0 where
  pub parents_long : length parents ≡ 32
  pub bits_long : length bits ≡ 32
  pub parents_are : (r : ℕ) → r < count → get_or parents r 0 ≡ parent_of (get_or code r 0)
  pub bits_are : (r : ℕ) → r < count → get_or bits r 0 ≡ bit_of (get_or code r 0)

pub record SettleFits (deep l h at count bytes slots : ℕ) : Type 0 where
  pub deepest : deep ≤ 8
  pub list : l ≤ 32
  pub few : count ≤ l
  pub low : slot_start 1 l l ≤ h
  pub near : h ≤ 1000000
  pub behind : 3 * h ≤ at
  pub room : at + l ≤ bytes
  pub long : 800 ≤ slots

-- the history, the slot numbers and the bits at the top, after position i, for the first count entries of a list
pub record Settled (deep l h i at count : ℕ) (code b slots b' slots' : List ℕ) : Type 0 where
  pub parents : List ℕ
  pub bits : List ℕ
  pub lineage : Lineage count code parents bits
  pub b₁ : List ℕ
  pub noted : Wrote (λ r. note_of (get_or code r 0)) at count b b₁
  pub cut : CutSlots deep count parents slots slots'
  pub top : Wrote (λ r. get_or bits r 0 % 2) (field_at h (i % 2) + slot_start 1 l 0) count (take (3 * h) b₁) (take (3 * h) b')
  pub history : drop (3 * h) b' ≡ drop (3 * h) b₁
