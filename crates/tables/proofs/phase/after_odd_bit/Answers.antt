use Rattle.std.proofs.Common.{arith, ◌≡◌, ℕ, zero, suc, ◌%◌, ◌<◌, refl}
use Rattle.std.specs.Prelude.{nat_eq}
use Rattle.laws.specs.Nodes.{kind, is_even, kind_of_odd, kind_of_even}
use Rattle.tables.proofs.phase.after_odd_bit.Goals as goal

-- the rest of n is 0 or 1, and says its kind
kind_tested : (n r : ℕ) → 0 < n → n % 2 ≡ r → nat_eq r 0 ≡ is_even (kind n)
kind_tested n zero p e = rw (kind_of_even n e p)
kind_tested n (suc zero) p e = rw (kind_of_odd n e)
kind_tested n (suc (suc r)) p e = absurd (omega arith)

pub returns-then-n-ne0 : goal.returns-then-n-ne0
returns-then-n-ne0 c = kind_tested c.args.n _ (omega arith) refl
