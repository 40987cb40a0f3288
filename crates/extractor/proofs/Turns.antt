-- The loop over the positions, as laws of lists: what holds at position i, and one turn. fs are the flags of the n positions.
-- Assumes nothing.
use mathlib.Core.Path.{◌≡◌, sym, ap, ◌∙◌}
use mathlib.Core.List.{List, ◌++◌}
use Prim.Native.Nat.{ℕ, ◌+◌, ◌<◌, ◌≤◌}
use native.Mathlib.Omega.{arith}
use lib.ListN.{length, take, drop, set, get_or, length-set, drop_of_length-le}
use Rattle.spec.specs.Code.{clear, gathered}
use Rattle.laws.specs.FrozenMap.{clear_turn, frozen_turn, gathered_clear, gathered_frozen, gathered_end}

-- the first j bits of the payload are written, from the positions before i of the input u
pub record Gathering (n : ℕ) (fs u out : List ℕ) (k j i : ℕ) : Type 0 where
  pub within : i ≤ n
  pub long : length out ≡ k
  pub left : j + clear (drop i fs) ≡ k
  pub so_far : gathered fs u ≡ take j out ++ gathered (drop i fs) (drop i u)

module _ {n : ℕ} {fs u out : List ℕ} {k j i : ℕ} (s : Gathering n fs u out k j i) (e : length fs ≡ n) (q : length u ≡ n) where
  pub room_left : i < n → get_or fs i 0 ≡ 0 → j < k
  room_left h f = omega (arith, s.left, clear_turn fs i (omega arith) f)

  pub gather_bit : i < n → get_or fs i 0 ≡ 0 → Gathering n fs u (set out j (get_or u i 0)) k (j + 1) (i + 1)
  gather_bit h f = record {
    within = omega arith;
    long = length-set out j (get_or u i 0) ∙ s.long;
    left = omega (arith, s.left, clear_turn fs i (omega arith) f);
    so_far = s.so_far ∙ gathered_clear fs i (omega arith) f u out j (omega arith) (omega (arith, s.long, room_left h f));
  }

  pub gather_none : i < n → (get_or fs i 0 ≡ 0 → ⊥) → Gathering n fs u out k j (i + 1)
  gather_none h f = record {
    within = omega arith;
    long = s.long;
    left = omega (arith, s.left, frozen_turn fs i (omega arith) f);
    so_far = s.so_far ∙ gathered_frozen fs i (omega arith) f u out j (omega arith);
  }

  pub gather_done : n ≤ i → out ≡ gathered fs u
  gather_done h =
      let d : clear (drop i fs) ≡ 0 = ap clear (drop_of_length-le fs {i = i} (omega arith)) in
      sym (s.so_far ∙ gathered_end fs u out i j (omega arith) (omega (arith, s.long, s.left)))
