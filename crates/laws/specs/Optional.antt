-- A field that a record may have: what it is where it stands, and where it does not.
use Rattle.std.specs.Prelude.{◌≡◌, refl, ℕ, zero, suc}
use Rattle.std.proofs.Common.{suc-ne-zero}
use Rattle.spec.specs.Record.{if_present}

module _ {A : Type 0} where
  pub if_absent : (b : ℕ) (value absence : A) → b ≡ 0 → absence ≡ if_present b value absence
  if_absent zero value absence e = refl
  if_absent (suc b) value absence e = absurd (suc-ne-zero b e)

  pub if_present_lem : (b : ℕ) (value absence : A) → (b ≡ 0 → ⊥) → value ≡ if_present b value absence
  if_present_lem zero value absence x = absurd (x refl)
  if_present_lem (suc b) value absence x = refl
