-- Blocks whose soft values speak for a word of the code. Where no soft value speaks against some word of the code, the ceiling is the sum of the
-- magnitudes. Where each agrees with the bit of the word and none is 0, the word's input comes first at every stop position, at list size 1 too.
use Rattle.std.specs.Prelude.{◌≡◌, refl, take, pos}
use Rattle.std.proofs.Math.Path.{ap, subst}
use Rattle.std.proofs.Common.{ap₂, ◌∙◌, take_all, length-take-le}
use mathlib.Core.List.{List, ◌++◌, append-nil}
use Prim.Native.Nat.{ℕ, ◌-◌, ◌≤◌}
use native.Mathlib.Omega.{arith}
use Rattle.std.proofs.Math.ListN.{length, replicate}
use Rattle.std.proofs.Math.Dec.{T}
use Rattle.std.proofs.Math.IntN.{ℤ}
use Rattle.std.specs.Int.Signed.{le_z}
use Rattle.spec.specs.Bits.{Bits, nil}
use Rattle.spec.specs.Code.{Code, size, frozen, payload_size, input_for, code_transform, encoded}
use Rattle.spec.specs.Score.{taken}
use Rattle.spec.specs.Decoder.{children, score_of, live, row_of}
use Rattle.spec.specs.SignedOrder.{le_z_antisym}
use Rattle.spec.specs.Outcome.{Lent, decode_outcome}
use Rattle.laws.specs.Cost.{magnitude}
use Rattle.laws.specs.Inputs.{length_input}
use Rattle.laws.specs.ListCost.{children_prefix}
use Rattle.laws.specs.Agreement.{Favours, Allows, Each, allows_taken, allowed_at_sum}
use Rattle.laws.specs.DecodeCall.{AcceptedCall}
use Rattle.search.specs.ListSearch.{Leads, leads_same}
use Rattle.search.specs.SoleLeader.{sole_leads}
use Rattle.search.specs.CodeInputs.{input_follows}
use Rattle.search.specs.FirstRow.{first_row, known_at, some_list, stop_inside}
use Rattle.search.specs.Ceiling.{ceiling_of, flags, no_code_word_above}
use Rattle.search.specs.CleanBlock.{sum_of, sent_row, ceiling_not_above, prefix_score, sent_is_sole}
use Rattle.search.proofs.FirstRow.{first_of_call}

-- ---- any soft values
module _ (c : Code) (l p : ℕ) (soft : List ℤ) (x : Lent) (a : AcceptedCall c l p soft x) where
  -- Where no soft value speaks against the word of some payload, the ceiling is the sum, at every stop position and list size.
  pub ceiling_at_the_sum : (payload : List ℕ) → length payload ≡ payload_size c → Bits payload → Each Allows soft (encoded c payload)
      → ceiling_of (decode_outcome c l p soft x).answer ≡ sum_of soft
  ceiling_at_the_sum payload e t allows =
      let top : ℤ = ceiling_of (decode_outcome c l p soft x).answer in
      le_z_antisym top (sum_of soft) (ceiling_not_above c l p soft x a)
      (subst (λ (z : ℤ). T (le_z z top)) (allowed_at_sum (allows_taken allows)) (no_code_word_above c l p soft x a payload e t))

-- ---- the theorems
module _ (c : Code) (l : ℕ) (soft : List ℤ) (x : Lent) {payload : List ℕ} (t : Bits payload) (agrees : Each Favours soft (encoded c payload)) where
  -- At every stop position the first row is the payload's row as it is known there.
  pub first_row_at_stop : (p : ℕ) → AcceptedCall c l p soft x → first_row (size c) (decode_outcome c l p soft x) ≡ known_at c p (sent_row c soft payload)
  first_row_at_stop p a =
      let u : List ℕ = input_for c payload in
      let s : List ℕ → ℤ = score_of (code_transform c) c (taken soft) l in
      let whole : length (frozen c) ≡ size c = flags c l p soft x a in
      let inside : p ≤ size c = stop_inside c l p soft x a in
      let leads : Leads s (take p u) (live (code_transform c) c (taken soft) l p)
      = sole_leads s (children c) l (some_list c l p soft x a) (record { long = refl; bits = nil }) (children_prefix c)
      (λ i h. input_follows c t i (omega (arith, whole))) (sent_is_sole c l soft whole t agrees) p inside in
      let f = first_of_call c l p soft x a in
      let long : length (take p u) ≡ p = length-take-le p u (omega (arith, length_input c t, whole)) in
      f.is
      ∙ ap (row_of (code_transform c) c (taken soft) l) (leads_same s f.ahead_of leads)
      ∙ ap₂ (λ (k : ℕ) (z : ℤ). let v : List ℕ = take p u ++ replicate (size c - k) 0 in record { input = v; word = code_transform c v; score = z })
      long (prefix_score c l soft whole t agrees p inside)

  -- At stop n it is the payload's row, whatever the list size and the lent memory are.
  pub first_row_is_sent : AcceptedCall c l (size c) soft x
      → first_row (size c) (decode_outcome c l (size c) soft x) ≡ record { input = input_for c payload; word = encoded c payload; score = pos (magnitude (taken soft)) }
  unfolding encoded
  first_row_is_sent a =
      let u : List ℕ = input_for c payload in
      let long : length u ≡ size c = length_input c t ∙ flags c l (size c) soft x a in
      let none_left : size c - size c ≡ 0 = omega arith in
      first_row_at_stop (size c) a
      ∙ ap (λ (v : List ℕ). record { input = v; word = code_transform c v; score = sum_of soft })
      (ap₂ (λ (v : List ℕ) (k : ℕ). v ++ replicate k 0) (take_all (size c) u (omega (arith, long))) none_left ∙ append-nil u)
