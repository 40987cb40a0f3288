-- The ceiling over the whole code: 02, wish 5. What its equality with the first score says of other list sizes.
use Rattle.std.specs.Prelude.{◌≡◌}
use Rattle.std.proofs.Common.{sym}
use Rattle.std.proofs.Math.Path.{ap, subst}
use mathlib.Core.List.{List}
use Prim.Native.Nat.{ℕ}
use Rattle.std.proofs.Math.Dec.{T}
use Rattle.std.proofs.Math.IntN.{ℤ}
use Rattle.std.specs.Int.Signed.{le_z}
use Rattle.spec.specs.Code.{Code, size}
use Rattle.spec.specs.Decoder.{Row}
use Rattle.spec.specs.Outcome.{Lent, decode_outcome}
use Rattle.laws.specs.DecodeCall.{AcceptedCall}
use Rattle.search.specs.FirstRow.{first_row}
use Rattle.search.specs.Ceiling.{ceiling_of}
use Rattle.search.proofs.Ceiling.{first_row_in_code, first_row_is_best}

-- At stop n, with ceiling and first score equal, no list size gains: the first row of another accepted call at stop n for the same code and soft values scores no higher.
pub no_list_size_gains : (c : Code) (l l' : ℕ) (soft : List ℤ) (x x' : Lent) → AcceptedCall c l (size c) soft x → AcceptedCall c l' (size c) soft x'
    → ceiling_of (decode_outcome c l (size c) soft x).answer ≡ (first_row (size c) (decode_outcome c l (size c) soft x)).score
    → T (le_z (first_row (size c) (decode_outcome c l' (size c) soft x')).score (first_row (size c) (decode_outcome c l (size c) soft x)).score)
no_list_size_gains c l l' soft x x' a a' e =
    let r = first_row_in_code c l' soft x' a' in
    subst (λ (z : ℤ). T (le_z z (first_row (size c) (decode_outcome c l (size c) soft x)).score)) (sym (ap (λ (q : Row). q.score) r.is))
    ((first_row_is_best c l soft x a e).none_above r.payload r.long r.bits)
