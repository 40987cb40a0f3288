-- 2 ^ m fits, so the shift drops nothing.
use Rattle.std.proofs.Common.{◌≡◌, sym, ap, subst, ◌∙◌, ℕ, ◌*◌, ◌%◌, ◌^◌, ◌≤◌, arith}
use native.Mathlib.Nat.{one-mul, mod-eq_of_lt}
use lib.Pow.{pow-lt, pow_mono}
use Rattle.code.proofs.shape.size.Goals as goal

pub returns : goal.returns
returns c =
    let h : c.args.m ≤ 10 = omega arith in
    let e : (1 * 2 ^ c.args.m) % 2 ^ 64 ≡ 2 ^ c.args.m = ap (λ (x : ℕ). x % 2 ^ 64) (one-mul (2 ^ c.args.m)) ∙ mod-eq_of_lt (pow-lt {i = c.args.m} {j = 64} (omega arith)) in
    (e, subst (λ (x : ℕ). x ≤ 1024) (sym e) (pow_mono {i = c.args.m} {j = 10} h))
