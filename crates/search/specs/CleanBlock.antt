-- Blocks whose soft values speak for a word of the code. No score of an accepted decoder call is above the sum of the magnitudes, nor is its
-- ceiling. Where each soft value agrees with the bit of the word and none is 0, the prefixes of the word's input score the sum, and no other
-- prefix does. What follows for the ceiling and the first row stands in proofs/CleanBlock.antt.
use Rattle.std.specs.Prelude.{◌≡◌, take, pos}
use Rattle.std.proofs.Math.Path.{sym, ap, subst}
use Rattle.std.proofs.Common.{◌∙◌, take_at, le→leb}
use mathlib.Core.List.{List, ◌++◌, map}
use Prim.Native.Nat.{ℕ, zero, suc, ◌-◌, ◌≤◌}
use native.Mathlib.Omega.{arith}
use Rattle.std.proofs.Math.ListN.{length, replicate, length-append}
use Rattle.std.proofs.Math.Dec.{T}
use Rattle.std.proofs.Math.IntN.{ℤ}
use Rattle.std.specs.Int.Signed.{le_z}
use Rattle.spec.specs.Bits.{Bits}
use Rattle.spec.specs.Code.{Code, size, frozen, input_for, code_transform, encoded}
use Rattle.spec.specs.Score.{correlation, taken}
use Rattle.spec.specs.Decoder.{Row, score_of, rows}
use Rattle.spec.specs.SignedOrder.{le_z_trans, le_z_antisym}
use Rattle.spec.specs.ScoreIsLargest.{a_completion_attains}
use Rattle.spec.specs.Outcome.{Lent, Decoding, decode_served, decode_outcome}
use Rattle.laws.specs.BitLaws.{bits_append}
use Rattle.laws.specs.Cost.{magnitude}
use Rattle.laws.specs.CodeTransform.{transform_injective, length_transformed, bits_transformed}
use Rattle.laws.specs.Inputs.{length_input, bits_input}
use Rattle.laws.specs.ListCost.{All, none, more, all_append, all_under, Prefix}
use Rattle.laws.specs.EveryScore.{score_has, rows_have, ceiling_has}
use Rattle.laws.specs.Agreement.{Favours, Each, each_allows, favours_taken, allows_taken, allowed_at_sum, none_above_sum, only_at_sum}
use Rattle.laws.specs.DecodeCall.{AcceptedCall, accepted_is}
use Rattle.search.specs.SoleLeader.{Sole}
use Rattle.search.specs.Ceiling.{ceiling_of, prefixes_reach, ceiling_is}

-- ---- the statements' words
-- the sum of the magnitudes of soft values, as they are taken
abbrev pub sum_of : List ℤ → ℤ
sum_of soft = pos (magnitude (taken soft))

-- a score is not above it
abbrev pub AtMostSum : List ℤ → ℤ → Type 0
AtMostSum soft z = T (le_z z (sum_of soft))

-- the row of a payload whose word correlates at it
abbrev pub sent_row : Code → List ℤ → List ℕ → Row
sent_row c soft payload = record { input = input_for c payload; word = encoded c payload; score = sum_of soft }

-- ---- any soft values
module _ (c : Code) (l p : ℕ) (soft : List ℤ) (x : Lent) (a : AcceptedCall c l p soft x) where
  zeros_below : (k : ℕ) → All (AtMostSum soft) (replicate k (pos 0))
  zeros_below zero = none
  zeros_below (suc k) = more (le→leb 0 (magnitude (taken soft)) (omega arith)) (zeros_below k)

  -- No score that an accepted call leaves is above the sum of the magnitudes: none of its rows' and none of the zeros behind them.
  pub no_score_above : All (AtMostSum soft) (decode_outcome c l p soft x).left.scores
  unfolding decode_served
  no_score_above =
      let scores : List ℤ = map (λ (r : Row). r.score) (rows (code_transform c) c (taken soft) l p) in
      let below : All (AtMostSum soft) scores
      = all_under (λ (r : Row). r.score) (AtMostSum soft) (rows_have (AtMostSum soft) (taken soft) (none_above_sum (taken soft)) (code_transform c) c l p) in
      subst (λ (o : Decoding). All (AtMostSum soft) o.left.scores) (sym (accepted_is c l p soft x a)) (all_append below (zeros_below (length x.scores - length scores)))

  -- Nor is its ceiling.
  pub ceiling_not_above : AtMostSum soft (ceiling_of (decode_outcome c l p soft x).answer)
  ceiling_not_above = subst (AtMostSum soft) (sym (ceiling_is c l p soft x a)) (ceiling_has (AtMostSum soft) (taken soft) (none_above_sum (taken soft)) (code_transform c) c l p)

-- ---- soft values that each agree with the bit of a payload's word
module _ (c : Code) (l : ℕ) (soft : List ℤ) (whole : length (frozen c) ≡ size c) {payload : List ℕ} (t : Bits payload) (agrees : Each Favours soft (encoded c payload)) where
  abbrev y : List ℤ
  y = taken soft

  abbrev u : List ℕ
  u = input_for c payload

  abbrev s : List ℕ → ℤ
  s = score_of (code_transform c) c y l

  long_sent : length u ≡ size c
  long_sent = length_input c t ∙ whole

  -- every prefix of the input scores the sum
  not_below : (i : ℕ) → i ≤ size c → T (le_z (sum_of soft) (s (take i u)))
  unfolding encoded
  not_below i h =
      subst (λ (z : ℤ). T (le_z z (s (take i u)))) (allowed_at_sum (allows_taken (each_allows agrees)))
      (prefixes_reach (code_transform c) c y l u long_sent (bits_input c t) i h)

  not_above : (v : List ℕ) → AtMostSum soft (s v)
  not_above v = score_has (AtMostSum soft) y (none_above_sum y) (code_transform c) (size c) v

  pub prefix_score : (i : ℕ) → i ≤ size c → s (take i u) ≡ sum_of soft
  prefix_score i h = le_z_antisym (s (take i u)) (sum_of soft) (not_above (take i u)) (not_below i h)

  -- and no other prefix does: one of the same length that scores as high has a completion with the same word, so it begins the same input
  pub sent_is_sole : Sole s Prefix (size c) u
  unfolding encoded
  sent_is_sole i h v p as_high =
      let T' : List ℕ → List ℕ = code_transform c in
      let a = a_completion_attains T' y (size c) v in
      let r : List ℕ = a.0 in
      let long : length (v ++ r) ≡ size c = omega (arith, length-append v r, a.1, p.long) in
      let bits : Bits (v ++ r) = bits_append p.bits a.2 in
      let reaches : T (le_z (sum_of soft) (correlation y (T' (v ++ r))))
      = subst (λ (z : ℤ). T (le_z (sum_of soft) z)) a.3 (le_z_trans (sum_of soft) (s (take i u)) (s v) (not_below i h) as_high) in
      let same_word : T' (v ++ r) ≡ T' u
      = only_at_sum (favours_taken agrees) (bits_transformed c.arikan c.m bits)
      (length_transformed c.arikan c.m (v ++ r) long ∙ sym (length_transformed c.arikan c.m u long_sent)) reaches in
      let same_input : v ++ r ≡ u = transform_injective c.arikan c.m (v ++ r) u bits (bits_input c t) long long_sent same_word in
      sym (take_at v r i p.long) ∙ ap (take i) same_input
