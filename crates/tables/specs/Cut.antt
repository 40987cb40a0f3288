-- The cut: each live path takes over the slot numbers of its parent.
use Rattle.std.specs.Prelude.{◌≡◌, ◌⊎◌, List, ℕ, ◌+◌, ◌*◌, ◌%◌, ◌<◌, ◌≤◌, get_or, length}
use Rattle.tables.specs.Walk.{slot_w, slot_o}

-- the rank that rank r goes on from
abbrev pub parent : List ℕ → ℕ → ℕ
parent parents r = get_or parents r 0 % 32

-- slots' is slots, but in each of the rows of 32 at `from` the first count numbers are those of the parents
pub record CutRows (from rows count : ℕ) (parents slots slots' : List ℕ) : Type 0 where
  pub same : length slots' ≡ length slots
  pub moved : (d r : ℕ) → d < rows → r < count
      → get_or slots' (from + 32 * d + r) 0 ≡ get_or slots (from + 32 * d + parent parents r) 0
  pub stays : (d r : ℕ) → d < rows → count ≤ r → r < 32
      → get_or slots' (from + 32 * d + r) 0 ≡ get_or slots (from + 32 * d + r) 0
  pub below : (j : ℕ) → j < from → get_or slots' j 0 ≡ get_or slots j 0
  pub above : (j : ℕ) → from + 32 * rows ≤ j → get_or slots' j 0 ≡ get_or slots j 0

-- the same of the layers 0 to deep, for the windows' numbers and the odd bits'; all other numbers stay
pub record CutSlots (deep count : ℕ) (parents slots slots' : List ℕ) : Type 0 where
  pub same : length slots' ≡ length slots
  pub windows : (d r : ℕ) → d ≤ deep → r < count → slot_w slots' d r ≡ slot_w slots d (parent parents r)
  pub odds : (d r : ℕ) → d ≤ deep → r < count → slot_o slots' d r ≡ slot_o slots d (parent parents r)
  pub windows_stay : (d r : ℕ) → d < 16 → r < 32 → (deep < d) ⊎ (count ≤ r) → slot_w slots' d r ≡ slot_w slots d r
  pub odds_stay : (d r : ℕ) → r < 32 → (deep < d) ⊎ (count ≤ r) → slot_o slots' d r ≡ slot_o slots d r
