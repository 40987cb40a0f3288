-- What is read and written at the top of the tree, one node for each live path.
use Rattle.std.specs.Prelude.{List, ℕ, ◌+◌, ◌*◌, ◌%◌, ◌≤◌, get_or, length}
use Rattle.laws.specs.Nodes.{kind}
use Rattle.laws.specs.Cells.{peek}
use Rattle.windows.specs.Op.{tab_at}
use Rattle.tables.specs.Tab.{slot_start, Slots}
use Rattle.tables.specs.Walk.{slot_w, slot_o}

-- the top's windows and odd bits of all slots are there, and so are the slot numbers of the live paths
pub record FitTop (l h count : ℕ) (t b slots : List ℕ) : Type 0 where
  pub long : l ≤ 32
  pub few : count ≤ l
  pub words : 16 * slot_start 1 l l ≤ length t
  pub bytes : 2 * h + slot_start 1 l l ≤ length b
  pub windows : Slots l count 0 slots
  pub odds : Slots l count 512 slots

-- what the prefix of path r, n bits long, costs with the bit x more
abbrev pub top_cost : ℕ → ℕ → ℕ → List ℕ → List ℕ → List ℕ → ℕ → ℕ → ℕ
top_cost n l h t b slots x r
    = peek (kind n) (tab_at t (16 * slot_start 1 l (slot_w slots 0 r))
    (get_or b (2 * h + slot_start 1 l (slot_o slots 0 r)) 0 % 2)) x
