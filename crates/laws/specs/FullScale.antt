-- −2,048 is full scale: 02, wish 1. A decoder call with it is the call with −2,047 in its place, whatever is lent and whether the call is
-- refused or not.
use Rattle.std.specs.Prelude.{◌≡◌, ℕ, length, ℤ, negsuc}
use Rattle.std.proofs.Common.{sym, ◌∙◌}
use Rattle.std.proofs.Math.Path.{ap, ap₂}
use mathlib.Core.List.{List}
use Rattle.spec.specs.Code.{Code, code_transform}
use Rattle.spec.specs.Score.{taken}
use Rattle.spec.specs.Decoder.{rows, ceiling}
use Rattle.spec.specs.Faults.{settled, some}
use Rattle.spec.specs.Refusals.{Room, out_of_range}
use Rattle.spec.specs.Outcome.{refused_by, Lent, room_of, Decoding, decoding, decoded_rows, decode_refusal, decode_served, decode_outcome}
use Rattle.laws.specs.Taken.{length_taken, taken_range}

-- −2,048 and −2,047
abbrev pub lowest : ℤ
lowest = negsuc 2047

abbrev pub next_lowest : ℤ
next_lowest = negsuc 2046

-- ---- lists that are taken alike: equally long, and both in range or neither
module _ (ys zs : List ℤ) (alike : taken ys ≡ taken zs) where
  length_alike : length ys ≡ length zs
  length_alike = sym (length_taken ys) ∙ ap length alike ∙ length_taken zs

  pub range_alike : some out_of_range ys ≡ some out_of_range zs
  range_alike = sym (taken_range ys) ∙ ap (some out_of_range) alike ∙ taken_range zs

  module _ (c : Code) (l p : ℕ) where
    refusal_alike : (r : Room) → decode_refusal c l p ys r ≡ decode_refusal c l p zs r
    unfolding decode_refusal
    refusal_alike r = rw (length_alike, range_alike)

    served_alike : (r : Room) → decode_served c l p ys r ≡ decode_served c l p zs r
    unfolding decode_served
    served_alike r = ap (λ (y : List ℤ). decoded_rows r (rows (code_transform c) c y l p) (ceiling (code_transform c) c y l p)) alike

    -- Two calls that differ only in soft values that are taken alike have the same outcome.
    pub taken_alike : (x : Lent) → decode_outcome c l p ys x ≡ decode_outcome c l p zs x
    unfolding decode_outcome
    taken_alike x =
        ap₂ (λ (k : ℕ) (o : Decoding). settled k (λ j. decoding (refused_by j) x) o) (refusal_alike (room_of x)) (served_alike (room_of x))
