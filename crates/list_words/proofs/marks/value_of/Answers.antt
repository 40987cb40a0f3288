-- The bits of a small number, read as signed, are that number.
use Rattle.std.proofs.Common.{◌≡◌, ℕ, ◌≤◌, ℤ, pos, negsuc, nat_abs, ap, ◌∙◌, w32, to_z, of_z, arith}
use mir.Val.{SFits}
use mir.ValLaws.{to_z-of_z}
use Rattle.correlations.specs.Folding.{wrapped}
use Rattle.list_words.proofs.marks.value_of.Goals as goal

code_is : (v : ℕ) (z : ℤ) → nat_abs z ≤ 2096128 → v ≡ wrapped z → v ≡ of_z w32 z
unfolding wrapped
code_is v (pos n) s e = omega (arith, s, e)
code_is v (negsuc n) s e = omega (arith, s, e)

small_fits : (z : ℤ) → nat_abs z ≤ 2096128 → SFits w32 z
small_fits (pos n) s = record { sfits = omega (arith, s) }
small_fits (negsuc n) s = record { sfits = omega (arith, s) }

pub returns : goal.returns
returns c z s e =
    to_z-of_z w32 c.cast_signed.result (record { sfits = c.cast_signed.type_inv }) ∙ c.cast_signed.ensures
    ∙ ap (to_z w32) (code_is c.args.v z s e) ∙ to_z-of_z w32 z (small_fits z s)
