-- The first row by two of 01's examples, by a code with a pair and by one with Arikan's transform, and that it is known no sooner: a stop position at the last frozen
-- position is not enough.
use Rattle.std.specs.Prelude.{◌≡◌, refl, false, List, [], ◌∷◌, ℕ, suc, replicate, ℤ, pos, nat_abs}
use Rattle.std.proofs.Common.{ap, arith}
use Rattle.spec.specs.Bits.{bits_of, unpacked}
use Rattle.spec.specs.Transform.{transform, arikan_transform}
use Rattle.spec.specs.Code.{Code, code, size, frozen, frozen_bit}
use Rattle.spec.specs.Score.{largest, score}
use Rattle.spec.specs.Decoder.{Row, children, live_by, rows}
use Rattle.spec.specs.Faults.{first, some}
use Rattle.spec.specs.Refusals.{past_end}
use Rattle.spec.specs.Outcome.{Lent, lent, decode_refusal, decode_served, decode_outcome}
use Rattle.spec.specs.Examples.{word4, y₁, y₂, frozen01, frozen123, arikan01}
use Rattle.laws.specs.DecodeCall.{AcceptedCall}
use Rattle.search.specs.FirstRow.{first_row, known_at, ClearFrom}

-- what is lent for n = 4 and l = 2
unfoldable pub dirty : Lent
dirty = lent (replicate 256 9) (replicate 544 9) (replicate 8 9) (replicate 8 9) (replicate 2 (pos 9))

-- the first row of a call with list size 2 at stop position p
abbrev pub row_at : Code → List ℤ → ℕ → Row
row_at c y p = first_row (size c) (decode_outcome c 2 p y dirty)

abbrev pub row : List ℕ → List ℕ → ℤ → Row
row u w z = record { input = u; word = w; score = z }

-- Frozen 0 and 1: at stop 2 the first two bits and the score are those at stop 4. Frozen 1, 2 and 3: at stop 3 they are not.
pub first_rows : row_at frozen01 y₁ 2 ∷ row_at frozen01 y₁ 4 ∷ row_at frozen123 y₂ 3 ∷ row_at frozen123 y₂ 4 ∷ [] ≡
    row (word4 0 0 0 0) (word4 0 0 0 0) (pos 13)
    ∷ row (word4 0 0 1 0) (word4 0 1 1 0) (pos 13)
    ∷ row (word4 1 0 0 0) (word4 1 0 0 0) (pos 2)
    ∷ row (word4 0 0 0 0) (word4 0 0 0 0) (pos 0)
    ∷ []
unfolding dirty y₁ y₂ frozen01 frozen123 bits_of unpacked transform frozen frozen_bit largest score children live_by rows first some past_end decode_refusal decode_served decode_outcome
first_rows = refl

-- a code of four positions with 2 frozen and the pair (2, 1): the bit at 2 is that at 1
unfoldable pub followed : Code
followed = code 2 false (4 ∷ []) (2 ∷ 0 ∷ 1 ∷ 0 ∷ [])

-- At stop 3 the first three bits and the score are those at stop 4. At stop 2, where the bit that follows is not yet taken, they are not.
pub first_rows_with_pair : row_at followed y₂ 2 ∷ row_at followed y₂ 3 ∷ row_at followed y₂ 4 ∷ [] ≡
    row (word4 1 1 0 0) (word4 0 1 0 0) (pos 10)
    ∷ row (word4 0 1 1 0) (word4 1 0 1 0) (pos 6)
    ∷ row (word4 0 1 1 1) (word4 0 1 0 1) (pos 6)
    ∷ []
unfolding dirty y₂ followed bits_of unpacked transform frozen frozen_bit largest score children live_by rows first some past_end decode_refusal decode_served decode_outcome
first_rows_with_pair = refl

-- With Arikan's transform, frozen 0 and 1: at stop 2 the first two bits and the score are those at stop 4.
pub first_rows_arikan : row_at arikan01 y₂ 2 ∷ row_at arikan01 y₂ 4 ∷ [] ≡
    row (word4 0 0 0 0) (word4 0 0 0 0) (pos 6)
    ∷ row (word4 0 0 1 1) (word4 0 1 0 1) (pos 6)
    ∷ []
unfolding dirty y₂ arikan01 bits_of unpacked arikan_transform frozen frozen_bit largest score children live_by rows first some past_end decode_refusal decode_served decode_outcome
first_rows_arikan = refl

-- the statement of `first_row_early` for a stop position one less: all behind it are clear, and it may be frozen itself
abbrev pub Sooner : Type 0
Sooner = (c : Code) (l p : ℕ) (soft : List ℤ) (x x' : Lent) → AcceptedCall c l p soft x → AcceptedCall c l (size c) soft x' → ClearFrom c (suc p) (size c)
    → first_row (size c) (decode_outcome c l p soft x) ≡ known_at c p (first_row (size c) (decode_outcome c l (size c) soft x'))

-- is false
pub no_sooner : Sooner → ⊥
unfolding dirty y₂ frozen123 bits_of unpacked transform frozen frozen_bit largest score children live_by rows first some past_end decode_refusal decode_served decode_outcome
no_sooner claim =
    let scores : pos 2 ≡ pos 0 = ap (λ (r : Row). r.score) (claim frozen123 2 3 y₂ dirty dirty refl refl (λ i a b. absurd (omega arith))) in
    absurd (omega (arith, ap nat_abs scores))
