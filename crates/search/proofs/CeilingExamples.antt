-- A ceiling above the first score does not say that a longer list would gain: by a code of four positions with 1 and 2 frozen and the soft values
-- of 01's sixth example.
use Rattle.std.specs.Prelude.{◌≡◌, refl, ℕ, T, pos, nat_abs}
use Rattle.std.proofs.Common.{ap, arith}
use Rattle.std.specs.Int.Signed.{le_z}
use Rattle.spec.specs.Bits.{bits_of, unpacked}
use Rattle.spec.specs.Transform.{transform}
use Rattle.spec.specs.Code.{size, frozen, frozen_bit}
use Rattle.spec.specs.Score.{largest, score}
use Rattle.spec.specs.Decoder.{children, live_by, dropped_by, ceiling_by, rows}
use Rattle.spec.specs.Faults.{first, some}
use Rattle.spec.specs.Refusals.{past_end}
use Rattle.spec.specs.Outcome.{Lent, decode_refusal, decode_served, decode_outcome}
use Rattle.spec.specs.Examples.{y₂}
use Rattle.laws.specs.DecodeCall.{AcceptedCall}
use Rattle.search.specs.FirstRow.{first_row}
use Rattle.search.specs.CeilingExamples.{frozen12, lent4, found, Converse}
use Rattle.search.proofs.Ceiling.{first_row_is_best}
use Rattle.search.proofs.ListSizes.{no_list_size_gains}

-- no list size gains over list size 1 there
pub none_gains : (l : ℕ) (x : Lent) → AcceptedCall frozen12 l (size frozen12) y₂ x
    → T (le_z (first_row (size frozen12) (decode_outcome frozen12 l (size frozen12) y₂ x)).score (found frozen12 1).0.score)
unfolding frozen12 lent4 y₂ bits_of unpacked transform frozen frozen_bit largest score children live_by dropped_by ceiling_by rows first some past_end decode_refusal decode_served decode_outcome
none_gains l x a = no_list_size_gains frozen12 2 l y₂ lent4 x refl a refl

-- `first_row_is_best` the other way round is false
pub no_converse : Converse → ⊥
unfolding frozen12 lent4 y₂ bits_of unpacked transform frozen frozen_bit largest score children live_by dropped_by ceiling_by rows first some past_end decode_refusal decode_served decode_outcome
no_converse claim =
    let same : pos 8 ≡ pos 2 = claim frozen12 1 y₂ lent4 refl (first_row_is_best frozen12 2 y₂ lent4 refl refl) in
    absurd (omega (arith, ap nat_abs same))
