use Rattle.std.proofs.Common.{◌≡◌, refl, sym, ap, ◌∙◌, Bool, true, false, ◌||◌, List, [], ◌∷◌, ℕ, zero, suc, ◌+◌, ◌*◌, ◌≤◌, take, drop, length, ltb, length-drop, arith}
use Rattle.spec.specs.Faults.{some}
use Rattle.code.proofs.bits.above_one_soon.Goals as goal

-- one among the first k, or among the others
either : (p : ℕ → Bool) (k : ℕ) (s : List ℕ) → some p s ≡ (some p (take k s) || some p (drop k s))
unfolding some
either p zero s = refl
either p (suc k) [] = refl
either p (suc k) (x ∷ s) = by_first (p x) (either p k s)
  where
    by_first : (b : Bool) → some p s ≡ (some p (take k s) || some p (drop k s)) → (b || some p s) ≡ ((b || some p (take k s)) || some p (drop k s))
    by_first true e = refl
    by_first false e = e

pub returns-then-above_one : goal.returns-then-above_one
returns-then-above_one c =
    let r = c.loop.rest in
    let first : some (ltb 1) (take 64 r.now) ≡ true = ap (some (ltb 1)) (sym c.split_at.ensures.front) ∙ sym c.above_one.ensures ∙ c.if-above_one.true in
    sym (c.loop.invariant.0 ∙ either (ltb 1) 64 r.now ∙ ap (λ (b : Bool). b || some (ltb 1) (drop 64 r.now)) first)

pub loop-preserved : goal.loop-preserved
loop-preserved c =
    let r = c.loop.rest in
    let none : some (ltb 1) (take 64 r.now) ≡ false = ap (some (ltb 1)) (sym c.split_at.ensures.front) ∙ sym c.above_one.ensures ∙ c.if-above_one.false in (
      c.loop.invariant.0 ∙ either (ltb 1) 64 r.now ∙ ap (λ (b : Bool). b || some (ltb 1) (drop 64 r.now)) none
          ∙ ap (some (ltb 1)) (sym c.split_at.ensures.back),
      omega (arith, c.loop.invariant.1, ap length c.split_at.ensures.back, length-drop 64 r.now),
    )

pub returns : goal.returns
returns c = c.above_one-2.ensures ∙ sym c.loop.invariant.0
