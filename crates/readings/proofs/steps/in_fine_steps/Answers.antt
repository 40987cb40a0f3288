-- The lowest 52 bits of the sum.
use mathlib.Core.Path.{sym, ap, subst, ◌∙◌}
use mathlib.Core.Bool.{not}
use Prim.Native.Nat.{ℕ, ◌*◌, ◌^◌, ◌≤◌}
use lib.Dec.{T}
use lib.Ieee.{binary64, fits, is_nan}
use lib.Ieee.Fits.{and_i, fits_widens}
use Rattle.readings.specs.FineSteps.{fine_is, fine_small, fine_reads, moved_reads, moved_bits}
use Rattle.readings.proofs.steps.in_fine_steps.Goals as goal

-- what 32 bits hold, 64 bits hold
pub float_to_float-result : goal.float_to_float-result
float_to_float-result c =
    and_i (fits binary64 c.args.x) (not (is_nan c.args.x)) (fits_widens c.args.x (subst T (sym c.well_formed.0.1) tt)) (fine_reads c.args.x c.requires)

pub float_to_bits-result : goal.float_to_bits-result
float_to_bits-result c = moved_reads c.args.x c.requires

pub returns : goal.returns
returns c =
    let e = moved_bits c.args.x c.requires in
    (ap (λ (n : ℕ). n * 2 ^ 125) e ∙ fine_is c.args.x c.requires, subst (λ (n : ℕ). n ≤ 34342961152) (sym e) (fine_small c.args.x c.requires))
