-- 2 ^ k fits, so the shift drops nothing.
use Rattle.std.proofs.Common.{◌≡◌, ap, sym, subst, ◌∙◌, ℕ, ◌*◌, ◌%◌, ◌^◌, ◌<◌, ◌≤◌, arith}
use native.Mathlib.Nat.{one-mul, mod-eq_of_lt}
use lib.Pow.{pow-lt, pow_mono}
use Rattle.list_words.proofs.call.power.Goals as goal

pub returns : goal.returns
returns c =
    let h : c.args.k ≤ 20 = omega arith in
    let e : (1 * 2 ^ c.args.k) % 2 ^ 64 ≡ 2 ^ c.args.k = ap (λ (x : ℕ). x % 2 ^ 64) (one-mul (2 ^ c.args.k)) ∙ mod-eq_of_lt (pow-lt {i = c.args.k} {j = 64} (omega arith)) in
    (e, subst (λ (x : ℕ). x ≤ 1048576) (sym e) (pow_mono {i = c.args.k} {j = 20} h))
