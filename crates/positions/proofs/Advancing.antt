-- After one position everything stands for the next prefixes.
use mathlib.Core.Path.{◌≡◌, refl, sym, ap, ap₂, subst, ◌∙◌}
use mathlib.Core.List.{List, [], ◌∷◌, ◌++◌}
use Prim.Native.Nat.{ℕ, suc, ◌+◌, ◌*◌, ◌%◌, ◌<◌, ◌≤◌, ◌^◌}
use native.Mathlib.Omega.{arith}
use native.Mathlib.Nat.{mod-eq_of_lt}
use lib.ListN.{length, take, drop, get_or}
use lib.IntN.{ℤ}
use Rattle.spec.specs.Code.{Code}
use Rattle.laws.specs.CodeScore.{code_cost}
use Rattle.laws.specs.CeilingCost.{lost_cost}
use Rattle.windows.specs.Op.{Wrote}
use Rattle.tables.specs.Tab.{slot_start}
use Rattle.tables.specs.Right.{Right, cell_in}
use Rattle.tables.specs.Walk.{slot_w, slot_o, Paths, Down, grown, field_at, Advance, Kept}
use Rattle.tables.proofs.Reading.{top_down}
use Rattle.tables.proofs.Cutting.{cut_right}
use Rattle.live.specs.declared.Live.{Live}
use Rattle.live.specs.Entries.{bit_of}
use Rattle.live.specs.Lists.{entries}
use Rattle.live.specs.Stands.{Step, Bred, bred_at}
use Rattle.positions.specs.History.{traced_more}
use Rattle.positions.specs.Position.{Settled}
use Rattle.rows.specs.DecodedRows.{prefixes}
use Rattle.positions.specs.Running.{prefix_at, Running}
use Rattle.positions.proofs.Stepping.{prefix_bits, prefix_long}
use Rattle.positions.proofs.Keeping.{take_same}

module _ (c : Code) (y : List ℤ) (deep l h i at : ℕ) (s r : Live) (t b slots b' slots' t'' b'' slots'' : List ℕ)
    (list : l ≤ 32) (few : s.count ≤ l) (few' : r.count ≤ l) (long : length (entries r) ≡ r.count) (low : slot_start 1 l l ≤ h) (place : at ≡ 3 * h + l * i)
    (hi : i < 2 ^ suc (suc deep)) (run : Running c y deep l h i s t b slots)
    (step : Step (code_cost c y) (suc i) (prefixes c y l i) (prefixes c y l (suc i)) (entries r)) (lost : r.lost ≡ lost_cost c y l (suc i))
    (set : Settled deep l h i at r.count r.code b slots b' slots')
    (adv : Advance c.arikan deep l h r.count i t (take (3 * h) b') slots' t'' (take (3 * h) b'') slots'')
    (base : Kept h t t'') (history : drop (3 * h) b'' ≡ drop (3 * h) b') where
  ps : List (List ℕ)
  ps = prefixes c y l i

  qs : List (List ℕ)
  qs = prefixes c y l (suc i)

  count_is : r.count ≡ length qs
  unfolding qs
  count_is = sym long ∙ step.rep.counted

  bred : (k : ℕ) → k < r.count → Bred (code_cost c y) ps (get_or qs k []) (get_or r.code k 0)
  unfolding ps qs
  bred k hk = bred_at r k step long hk

  -- the parents' prefixes and the new bits
  ws : ℕ → List ℕ
  ws k = prefix_at c y l i (get_or set.parents k 0)

  bs : ℕ → ℕ
  bs k = get_or set.bits k 0 % 2

  known : (k : ℕ) → k < r.count → get_or set.parents k 0 < s.count
  unfolding ps
  known k hk = omega (arith, set.lineage.parents_are k hk, (bred k hk).parent, run.counted)

  next_is : (k : ℕ) → k < r.count → grown ws bs k ≡ prefix_at c y l (suc i) k
  unfolding ws bs ps qs
  next_is k hk =
      let x : ℕ = get_or r.code k 0 in
      let e : get_or set.bits k 0 % 2 ≡ bit_of x = ap (λ (z : ℕ). z % 2) (set.lineage.bits_are k hk) ∙ mod-eq_of_lt (omega arith) in
      ap₂ (λ (p z : ℕ). prefix_at c y l i p ++ z ∷ []) (set.lineage.parents_are k hk) e ∙ sym (bred k hk).child

  same_bits : take (3 * h) set.b₁ ≡ take (3 * h) b
  same_bits = take_same (3 * h) b set.b₁ set.noted.same (λ j l. set.noted.below j (omega arith))

  paths : Paths c.arikan deep l h r.count i t (take (3 * h) b) slots'
  unfolding ws bs
  paths = record {
    y = y;
    small = run.call.small;
    ws = ws;
    bs = bs;
    bits = λ k hk. prefix_bits c y l i (get_or set.parents k 0) (omega (arith, known k hk, run.counted));
    bit = λ k hk. omega arith;
    long = λ k hk. prefix_long c y l i (get_or set.parents k 0) (omega (arith, known k hk, run.counted));
    room = hi;
    ready = λ k d e. cut_right deep s.count r.count set.parents slots slots' (omega arith) known set.cut c.arikan k d l h y (prefix_at c y l i) t (take (3 * h) b) (omega arith) (run.ready hi k d e);
    base = run.base;
  }

  down : Down c.arikan l h r.count i 0 ws (grown ws bs) (take (3 * h) b) (take (3 * h) b')
  unfolding bs
  down = top_down c.arikan l h r.count i ws bs (take (3 * h) b) (take (3 * h) b') set.bits few' low (λ k hk. refl)
      (subst (λ (z : List ℕ). Wrote (λ k. get_or set.bits k 0 % 2) (field_at h (i % 2) + slot_start 1 l 0) r.count z (take (3 * h) b')) same_bits set.top)

  pub running_more : Running c y deep l h (suc i) r t'' b'' slots''
  unfolding ps qs paths ws bs
  running_more = record {
    call = run.call;
    counted = count_is;
    rep = step.rep;
    costs = λ k hk. (bred k (omega (arith, count_is))).costs;
    lost = lost;
    ready = λ _ k d e m hm. subst (λ (w : List ℕ). Right c.arikan k d y w (cell_in l h t'' (take (3 * h) b'') (2 ^ d) (slot_w slots'' d m) (slot_o slots'' d m))) (next_is m hm)
        (adv (take (3 * h) b) paths down k d e (omega arith) m hm);
    base = λ j x hj hx. base (16 * (h + j) + x) (omega arith) ∙ run.base j x hj hx;
    traced = rw history (rw set.history
        (traced_more (code_cost c y) l i at (prefixes c y l i) (prefixes c y l (suc i)) r.code b set.b₁ (3 * h)
        (λ k hk. bred k (omega (arith, count_is))) (omega (arith, count_is)) place (rw count_is at set.noted) run.traced));
  }
