-- The rule is a test at each of the 16 entries, which antt computes.
use mathlib.Core.Bool.{Bool}
use mathlib.Core.List.{List, [], ◌∷◌}
use Prim.Native.Nat.{ℕ, ◌<◌}
use lib.Dec.{T, eqb, eqb→eq, ltb}
use lib.ListN.{get_or}
use Rattle.spec.specs.Bits.{bits_of, packed}
use Rattle.spec.specs.Transform.{transform, table_entry}
use Rattle.laws.specs.EveryEntry.{both, both_left, both_right, at, below}
use Rattle.transform.proofs.table.entry.Goals as goal

-- the table of the source
abbrev table : List ℕ
table = 0 ∷ 1 ∷ 3 ∷ 2 ∷ 6 ∷ 7 ∷ 5 ∷ 4 ∷ 15 ∷ 14 ∷ 12 ∷ 13 ∷ 9 ∷ 8 ∷ 10 ∷ 11 ∷ []

right : ℕ → ℕ → Bool
right k x = both (eqb x (table_entry k)) (ltb x 16)

-- the test, at each index
rule : (x : ℕ) → x < 16 → T (right x (get_or table x 0))
unfolding right table_entry transform bits_of packed
rule x h = at right table tt x h

pub returns : goal.returns
unfolding right
returns c =
    let e = get_or table c.args.x 0 in
    let t = rule c.args.x c.requires in
    (eqb→eq e (table_entry c.args.x) (both_left (eqb e (table_entry c.args.x)) (ltb e 16) t), below e (both_right (eqb e (table_entry c.args.x)) (ltb e 16) t))
