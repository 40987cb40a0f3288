-- What the list of words at a mark says of a decoder's first row: with the ceiling as the mark it holds the best words of the code, the first
-- row among them where the ceiling is its score.
use Rattle.std.specs.Prelude.{◌≡◌, refl, Bool, true, false, List, [], ℕ, length, T, ℤ}
use Rattle.std.proofs.Common.{sym, ap, subst, ◌∙◌}
use Rattle.std.specs.Int.Signed.{le_z}
use Rattle.spec.specs.Bits.{Bits}
use Rattle.spec.specs.Code.{Code, size, payload_size, encoded}
use Rattle.spec.specs.Score.{correlation, taken}
use Rattle.spec.specs.Decoder.{Row}
use Rattle.spec.specs.SignedOrder.{le_z_refl, le_z_trans, le_z_antisym}
use Rattle.spec.specs.Outcome.{Lent, decode_outcome}
use Rattle.laws.specs.DecodeCall.{AcceptedCall}
use Rattle.search.specs.ListSearch.{In}
use Rattle.search.specs.FirstRow.{first_row}
use Rattle.search.specs.Ceiling.{ceiling_of, CodeRow, no_code_word_above}
use Rattle.search.proofs.Ceiling.{first_row_in_code}
use Rattle.words_above.specs.ListedWords.{listed, listed_is_code_word, code_word_is_listed, none_listed}

-- an accepted decoder call at any stop position
module _ (c : Code) (l p : ℕ) (soft : List ℤ) (x : Lent) (a : AcceptedCall c l p soft x) where
  -- What is listed at its ceiling has the ceiling as its score.
  pub listed_at_ceiling : (r : Row) → In r (listed c soft (ceiling_of (decode_outcome c l p soft x).answer)) → r.score ≡ ceiling_of (decode_outcome c l p soft x).answer
  listed_at_ceiling r i =
      let top : ℤ = ceiling_of (decode_outcome c l p soft x).answer in
      let q = listed_is_code_word c soft top r i in
      let g : CodeRow c soft r = q.0 in
      le_z_antisym r.score top
      (subst (λ (s : Row). T (le_z s.score top)) (sym g.is) (no_code_word_above c l p soft x a g.payload g.long g.bits)) q.1

  -- At a mark above its ceiling nothing is listed.
  pub none_listed_above_ceiling : (mark : ℤ) → le_z mark (ceiling_of (decode_outcome c l p soft x).answer) ≡ false → listed c soft mark ≡ []
  none_listed_above_ceiling mark h = none_listed c soft mark below
    where
      below : (payload : List ℕ) → length payload ≡ payload_size c → Bits payload → le_z mark (correlation (taken soft) (encoded c payload)) ≡ false
      below payload e t = go (le_z mark (correlation (taken soft) (encoded c payload))) refl
        where
          go : (b : Bool) → le_z mark (correlation (taken soft) (encoded c payload)) ≡ b → b ≡ false
          go true q =
              let z : ℤ = correlation (taken soft) (encoded c payload) in
              let top : ℤ = ceiling_of (decode_outcome c l p soft x).answer in
              absurd (subst T h (le_z_trans mark z top (subst T (sym q) tt) (no_code_word_above c l p soft x a payload e t)))
          go false q = refl

-- an accepted decoder call at stop n whose ceiling is the score of its first row
module _ (c : Code) (l : ℕ) (soft : List ℤ) (x : Lent) (a : AcceptedCall c l (size c) soft x)
    (e : ceiling_of (decode_outcome c l (size c) soft x).answer ≡ (first_row (size c) (decode_outcome c l (size c) soft x)).score) where
  -- The first row is listed at the ceiling.
  pub first_row_is_listed : In (first_row (size c) (decode_outcome c l (size c) soft x)) (listed c soft (ceiling_of (decode_outcome c l (size c) soft x).answer))
  first_row_is_listed =
      let top : ℤ = ceiling_of (decode_outcome c l (size c) soft x).answer in
      let g = first_row_in_code c l soft x a in
      subst (λ (r : Row). In r (listed c soft top)) (sym g.is)
      (code_word_is_listed c soft top g.payload g.bits (subst (λ (z : ℤ). T (le_z top z)) (e ∙ ap (λ (r : Row). r.score) g.is) (le_z_refl top)))

  -- Then every row that is listed there has the score of the first row: none is above it.
  pub then_none_above : (r : Row) → In r (listed c soft (ceiling_of (decode_outcome c l (size c) soft x).answer))
      → r.score ≡ (first_row (size c) (decode_outcome c l (size c) soft x)).score
  then_none_above r i = listed_at_ceiling c l (size c) soft x a r i ∙ e
