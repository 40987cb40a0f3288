-- A call that is served: what it takes, and what its parts leave.
use Rattle.std.specs.Prelude.{◌≡◌, false, List, ℕ, ◌-◌, ◌*◌, ◌/◌, ◌≤◌, length, ℤ}
use Rattle.spec.specs.Code.{Code, size}
use Rattle.spec.specs.Score.{taken}
use Rattle.spec.specs.Faults.{some}
use Rattle.spec.specs.Refusals.{Room, out_of_range, number_room, byte_room}
use Rattle.laws.specs.Accepted.{Accepted}
use Rattle.live.specs.declared.Live.{Live}
use Rattle.positions.specs.Running.{Ran}

-- a call that is not refused: list size l, stop position p; n positions, and h nodes in the layers of all slots
pub record ServeFits (c : Code) (l p n h : ℕ) (soft : List ℤ) (room : Room) : Type 0 where
  pub accepts : Accepted c
  pub some_path : 1 ≤ l
  pub list : l ≤ 32
  pub stop : p ≤ n
  pub long : length soft ≡ n
  pub range : some out_of_range soft ≡ false
  pub size_is : n ≡ size c
  pub half_is : h ≡ n / 2 * l
  pub numbers : number_room n l ≤ room.numbers
  pub bytes : byte_room n l ≤ room.bytes
  pub inputs : n * l ≤ room.inputs
  pub words : n * l ≤ room.words
  pub scores : l ≤ room.scores

-- the live list at the stop position for the soft values as they are taken, and the tables that stand for it
pub record Stopped (c : Code) (l p h : ℕ) (soft : List ℤ) (r : Live) (t b : List ℕ) : Type 0 where
  pub few : r.count ≤ l
  pub ran : Ran c (taken soft) (c.m - 2) l h p r t b
