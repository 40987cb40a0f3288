-- Before the first position everything stands for the empty prefix.
use mathlib.Core.Path.{◌≡◌, refl, sym, ap, subst, ◌∙◌}
use mathlib.Core.List.{List, [], ◌∷◌}
use Prim.Native.Nat.{ℕ, zero, suc, ◌+◌, ◌*◌, ◌<◌, ◌≤◌, ◌^◌}
use native.Mathlib.Omega.{arith}
use lib.ListN.{length, take, drop, get_or}
use lib.Seq.{get_or-take}
use lib.IntN.{ℤ}
use Rattle.spec.specs.Code.{Code}
use Rattle.spec.specs.Decoder.{live_by}
use Rattle.laws.specs.CodeScore.{code_cost}
use Rattle.laws.specs.Layer.{cost_empty}
use Rattle.laws.specs.CeilingCost.{lost_start}
use Rattle.tables.specs.Right.{Right, cell_in}
use Rattle.tables.specs.Start.{Started}
use Rattle.tables.specs.Walk.{slot_w, slot_o}
use Rattle.tables.proofs.Starting.{started_ready}
use Rattle.live.specs.declared.Live.{Live}
use Rattle.live.specs.Entries.{cost_of}
use Rattle.live.specs.Lists.{entries, entries_at, Holds}
use Rattle.live.specs.Stands.{Rep}
use Rattle.rows.specs.Trace.{Trace, begun}
use Rattle.positions.specs.Running.{BlockSizes, Call, Running, Standing, Zeros}

one : (s : Live) → Holds s 1 (0 ∷ []) → s.count ≡ 1
one s a = sym a.counted ∙ ap length a.are

-- slot numbers that are all 0 name slot 0
pub standing_start : (deep l : ℕ) (s : Live) (slots : List ℕ) → 1 ≤ l → deep ≤ 8 → 800 ≤ length slots → Zeros slots → Holds s 1 (0 ∷ []) → Standing deep l s slots
standing_start deep l s slots hl hd long zeros a = record {
  few = omega (arith, one s a);
  long = a.counted;
  named = record {
    windows = λ d h. record { there = omega (arith, one s a); named = λ r hr. omega (arith, zeros (32 * d + r)) };
    odds = λ d h. record { there = omega (arith, one s a); named = λ r hr. omega (arith, zeros (512 + 32 * d + r)) };
  };
}

module _ (c : Code) (y : List ℤ) (deep l h n : ℕ) (s : Live) (t b slots : List ℕ) (z : BlockSizes deep l h n) (call : Call c y deep) (a : Started c.arikan deep l h y t)
    (zeros : Zeros b) (none : Zeros slots) (holds : Holds s 1 (0 ∷ [])) (rep : Rep 0 ([] ∷ []) (entries s)) (nothing : s.lost ≡ 4294967295) where
  first : get_or s.code 0 0 ≡ 0
  first = sym (entries_at s 0 (omega (arith, one s holds))) ∙ ap (λ (xs : List ℕ). get_or xs 0 0) holds.are

  costless : (r : ℕ) → r < 1 → cost_of (get_or s.code r 0) ≡ code_cost c y (get_or ([] ∷ []) r [])
  costless zero h = ap cost_of first ∙ sym (cost_empty c.arikan c.m y)
  costless (suc r) h = absurd (omega arith)

  empty : (r : ℕ) → r < 1 → get_or {A = List ℕ} ([] ∷ []) r [] ≡ []
  empty zero h = refl
  empty (suc r) h = absurd (omega arith)

  pub running_start : Running c y deep l h 0 s t b slots
  unfolding live_by
  running_start = record {
    call = call;
    counted = one s holds;
    rep = rep;
    costs = costless;
    lost = nothing ∙ sym (lost_start c y l);
    ready = λ _ k d e r hr.
        let h1 : r < 1 = omega (arith, one s holds) in
        subst (λ (w : List ℕ). Right c.arikan k d y w (cell_in l h t (take (3 * h) b) (2 ^ d) (slot_w slots d r) (slot_o slots d r))) (sym (empty r h1))
        (started_ready c.arikan deep l h y t (take (3 * h) b) z.some (omega (arith, z.half)) a (λ j hj. get_or-take (3 * h) b j 0 (omega arith) ∙ zeros j) k d e (slot_w slots d) (slot_o slots d) (none (32 * d + 0)) r h1);
    base = a.base;
    traced = λ r hr. subst (Trace l (drop (3 * h) b) 0 r) (sym (empty r hr)) (begun (omega (arith, z.some)));
  }
