-- What one turn of each loop does.
-- Assumes nothing.
use mathlib.Core.Path.{◌≡◌, sym, ◌∙◌}
use mathlib.Core.List.{List}
use Prim.Native.Nat.{ℕ, ◌+◌, ◌*◌, ◌%◌, ◌≤◌}
use native.Mathlib.Numerals.{add-one}
use native.Mathlib.Omega.{arith}
use lib.ListN.{length, take, get_or, length-take}
use lib.Seq.{take-take, take_all}
use lib.Dec.{leb}
use Rattle.spec.specs.Decoder.{insert_by, sort_by}
use Rattle.live.specs.Entries.{code_of, lex_of, child_of, branches, children_of}
use Rattle.live.specs.Rising.{Rising}
use Rattle.live.specs.Lists.{insert_all, Filled}
use Rattle.live.proofs.Sorting.{sort_append, take_insert, take_insert_all, pairs_take, rising_cut}

-- ---- entries put in
pub rising_less : (n k : ℕ) (a : List ℕ) → k ≤ n → Rising (take n a) → Rising (take k a)
rising_less n k a h r = rw (take-take k n a h) at (pairs_take k r)

module _ (b s : List ℕ) (r l v : ℕ) (long : length b ≡ 33) (few : r ≤ l) (up : Rising s) where
  pub filled : take r b ≡ take l (insert_by leb v s) → Filled b r l (take l (insert_by leb v s))
  filled e = record { long = long; few = few; are = e; up = rw e (rising_cut l v up) }

  pub filled_all : take r b ≡ insert_by leb v s → Filled b r l (take l (insert_by leb v s))
  filled_all e = filled (rw (← e) (sym (take_all l (take r b) (simp length-take (omega arith)))))

pub branch_two : {a b : List ℕ} {m r : ℕ} (l f z w : ℕ) (s : List ℕ) → f ≡ 0
    → Filled a m l (take l (insert_by leb z s)) → Filled b r l (take l (insert_by leb w (take m a)))
    → Filled b r l (take l (insert_all (branches f z w) s))
branch_two l f z w s h p q = rw (h, ← take_insert l w (insert_by leb z s), ← p.are) q

-- ---- the children of entry i, by its lexicographic number x, are put in
pub children_turn : (f l i x b z w : ℕ) (xs bs cs ds o o' : List ℕ)
    → o ≡ take l (sort_by leb (children_of f xs bs cs ds i))
    → x ≡ lex_of xs (get_or xs i 0) → b ≡ 2 * x + get_or bs i 0 % 2 → z ≡ code_of (get_or cs i 0) b i → w ≡ code_of (get_or ds i 0) (2 * x + 1) i
    → o' ≡ take l (insert_all (branches f z w) o)
    → o' ≡ take l (sort_by leb (children_of f xs bs cs ds (i + 1)))
children_turn f l i x b z w xs bs cs ds o o' e ex eb ez ew e' =
    e' ∙ rw (e, ez, eb, ew, ex, add-one i, sort_append (children_of f xs bs cs ds i))
    (take_insert_all l (branches f (child_of xs (get_or bs i 0 % 2) cs i) (child_of xs 1 ds i)) (sort_by leb (children_of f xs bs cs ds i)))
