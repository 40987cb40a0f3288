-- What the operator reader is told of the packed bits: nothing. No code is in scope: the theorems are over the definitions.
use Rattle.std.specs.Prelude.{◌≡◌, length, ℤ}
use Rattle.std.proofs.Math.Path.{refl, sym}
use Rattle.std.proofs.Common.{ap, ◌∙◌}
use mathlib.Core.List.{List}
use Prim.Native.Nat.{ℕ, zero, suc}
use Rattle.spec.specs.Faults.{settled}
use Rattle.spec.specs.ResultRecord.{refused_result, said_by, OperatorReading, operator_reading, operator_refusal, operator_served, operator_outcome, OnlyPackedBitsDiffer}
use Rattle.laws.specs.ResultReading.{same_length_same_operator}
use Rattle.result_round_trip.specs.Operator.{Seen, seen_same, reading_of, by_seen}

-- ---- NON-INTERFERENCE. For two records of equal length that differ only in packed bits the operator reader says the same, refusals
-- included: the answer and what is left in the lent scores.
pub operator_sees_no_bits : (s s' : List ℕ) → OnlyPackedBitsDiffer s s' → (lent : List ℤ) → operator_outcome s lent ≡ operator_outcome s' lent
operator_sees_no_bits s s' d lent =
    by_seen s lent ∙ ap (λ (x : Seen). reading_of x lent) (seen_same s s' d.as_long d.before) ∙ sym (by_seen s' lent)

answer_of_lem : (k : ℕ) (lent : List ℤ) (served : OperatorReading)
    → (settled k (λ j. operator_reading (refused_result j) lent) served).answer ≡ settled k refused_result served.answer
answer_of_lem zero lent served = refl
answer_of_lem (suc k) lent served = refl

-- whatever the lent scores held: lent equally many, it answers the same
pub operator_answers_alike : (s s' : List ℕ) → OnlyPackedBitsDiffer s s' → (lent lent' : List ℤ) → length lent ≡ length lent'
    → (operator_outcome s lent).answer ≡ (operator_outcome s' lent').answer
unfolding operator_outcome operator_served
operator_answers_alike s s' d lent lent' e =
    answer_of_lem (operator_refusal s (length lent)) lent (operator_served s (length lent))
    ∙ ap (λ (n : ℕ). settled (operator_refusal s n) refused_result (said_by s)) e
    ∙ sym (answer_of_lem (operator_refusal s (length lent')) lent' (operator_served s (length lent')))
    ∙ ap (λ (o : OperatorReading). o.answer) (operator_sees_no_bits s s' d lent')

-- and where it accepts, it leaves the same scores too
pub operator_reads_alike : (s s' : List ℕ) → OnlyPackedBitsDiffer s s' → (lent lent' : List ℤ) → length lent ≡ length lent'
    → 0 ≡ operator_refusal s (length lent) → operator_outcome s lent ≡ operator_outcome s' lent'
operator_reads_alike s s' d lent lent' e a = same_length_same_operator s lent lent' e a ∙ operator_sees_no_bits s s' d lent'
