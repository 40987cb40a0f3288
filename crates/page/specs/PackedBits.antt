-- Inputs whose records differ only in packed bits: the same is read of both. No code is in scope: the theorems are over the definition of
-- what is read of an input.
use Rattle.std.specs.Prelude.{◌≡◌, refl, List, [], ◌∷◌, ℕ, zero, suc, length, drop, replicate, pos}
use Rattle.std.proofs.Common.{sym, ap₂, ◌∙◌, suc-ne-zero, arith, length-take}
use Rattle.spec.specs.ResultRecord.{result_end, OperatorReading, OnlyPackedBitsDiffer}
use Rattle.result_round_trip.proofs.Operator.{operator_sees_no_bits}
use Rattle.page.specs.Page.{record_in, operator_says, heard, Shift, stopped, another, at_end, shift_from}

-- two inputs whose records differ only in packed bits: each record of the one and the record of the other at its place
pub data PackedBitsDiffer : List ℕ → List ℕ → Type 0 where
  no_more : PackedBitsDiffer [] []
  a_record : {s s' : List ℕ} → OnlyPackedBitsDiffer (record_in s) (record_in s')
      → PackedBitsDiffer (drop (result_end s) s) (drop (result_end s') s') → PackedBitsDiffer s s'

-- the record that an input begins with has no byte only where the input has none
some_record : (s : List ℕ) → length (record_in s) ≡ 0 → length s ≡ 0
some_record s e = omega (arith, e, length-take (result_end s) s)

-- the end of the one is the end of the other
same_end : {A : Type 0} (s s' : List ℕ) → OnlyPackedBitsDiffer (record_in s) (record_in s') → (end more : A) → at_end s end more ≡ at_end s' end more
same_end [] [] d end more = refl
same_end [] (b ∷ s') d end more = absurd (suc-ne-zero (length s') (some_record (b ∷ s') (sym d.as_long)))
same_end (b ∷ s) [] d end more = absurd (suc-ne-zero (length s) (some_record (b ∷ s) d.as_long))
same_end (b ∷ s) (b' ∷ s') d end more = refl

-- the same is read of both
pub same_shift : (left : ℕ) (s s' : List ℕ) → PackedBitsDiffer s s' → shift_from left s ≡ shift_from left s'
unfolding shift_from
same_shift left [] [] no_more = refl
same_shift zero s s' (a_record d more) = same_end s s' d (stopped 0) (stopped 23)
same_shift (suc left) s s' (a_record d more) =
    let says : operator_says (record_in s) ≡ operator_says (record_in s') = operator_sees_no_bits (record_in s) (record_in s') d (replicate 32 (pos 0)) in
    let later = same_shift left (drop (result_end s) s) (drop (result_end s') s') more in
    ap₂ (λ (o : OperatorReading) (x : Shift). at_end s (stopped 0) (heard o stopped (λ e. another e x))) says later
    ∙ same_end s s' d (stopped 0) (heard (operator_says (record_in s')) stopped (λ e. another e (shift_from left (drop (result_end s') s'))))
