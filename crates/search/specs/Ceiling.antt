-- The ceiling over the whole code: 02, wish 5. A decoder call's ceiling against every word of the code, at any stop position. What its equality
-- with the first score says of the first row at stop n stands in proofs/Ceiling.antt.
use Rattle.std.specs.Prelude.{◌≡◌, take, drop, pos}
use Rattle.std.proofs.Common.{sym, ◌∙◌, length-take, length-drop, take-append-drop}
use Rattle.std.proofs.Math.Path.{ap, subst}
use mathlib.Core.List.{List, append-nil}
use Prim.Native.Nat.{ℕ, ◌-◌, ◌≤◌}
use native.Mathlib.Omega.{arith}
use Rattle.std.proofs.Math.ListN.{length}
use Rattle.std.proofs.Math.Dec.{T}
use Rattle.std.proofs.Math.IntN.{ℤ, +ℤ_idr}
use Rattle.std.specs.Int.Signed.{le_z}
use Rattle.spec.specs.Bits.{Bits, nil}
use Rattle.spec.specs.Code.{Code, size, frozen, payload_size, input_for, code_transform, encoded}
use Rattle.spec.specs.Score.{correlation, largest, score, taken}
use Rattle.spec.specs.Decoder.{Row, children, score_of, row_of, live_by, dropped_by, ceiling_by, ceiling}
use Rattle.spec.specs.ScoreIsLargest.{no_completion_above}
use Rattle.spec.specs.RowCount.{length_frozen}
use Rattle.spec.specs.Outcome.{Answer, decoded, refused_by, Lent, room_of, Decoding, decode_served, decode_outcome}
use Rattle.laws.specs.BitLaws.{bits_drop}
use Rattle.laws.specs.Inputs.{length_input, bits_input}
use Rattle.laws.specs.Cost.{magnitude}
use Rattle.laws.specs.Layer.{cost_empty}
use Rattle.laws.specs.ScoreCost.{score_from}
use Rattle.laws.specs.CodeScore.{code_score}
use Rattle.laws.specs.Taken.{length_taken}
use Rattle.laws.specs.ListCost.{goes}
use Rattle.laws.specs.DecodeCall.{AcceptedCall, accepted_faults, accepted_is, map_right, soft_long}
use Rattle.search.specs.SearchCeiling.{none_above_ceiling}
use Rattle.search.specs.CodeInputs.{OfPayload, input_follows}
use Rattle.search.specs.FirstRow.{some_list, stop_inside}

-- ---- the statements' words
-- the ceiling that a call gives; a refused one gives none
abbrev pub ceiling_of : Answer → ℤ
ceiling_of (decoded r z) = z
ceiling_of (refused_by k) = pos 0

-- the row of a payload: its input, its word, and the word's correlation
abbrev pub row_of_payload : Code → List ℤ → List ℕ → Row
row_of_payload c soft p = record { input = input_for c p; word = encoded c p; score = correlation (taken soft) (encoded c p) }

-- a row is that of a payload of k bits
abbrev pub CodeRow : Code → List ℤ → Row → Type 0
CodeRow c soft = OfPayload c (row_of_payload c soft)

-- no word of the code correlates above z
abbrev pub NoneAbove : Code → List ℤ → ℤ → Type 0
NoneAbove c soft z = (payload : List ℕ) → length payload ≡ payload_size c → Bits payload → T (le_z (correlation (taken soft) (encoded c payload)) z)

-- a row is that of a payload, and no word of the code correlates above its score
pub record BestRow (c : Code) (soft : List ℤ) (r : Row) : Type 0 where
  pub in_code : CodeRow c soft r
  pub none_above : NoneAbove c soft r.score

-- ---- the decoder on paper
module _ (T' : List ℕ → List ℕ) (c : Code) (y : List ℤ) (l : ℕ) where
  -- an input correlates no higher than any of its prefixes scores
  pub prefixes_reach : (u : List ℕ) → length u ≡ size c → Bits u → (i : ℕ) → i ≤ size c → T (le_z (correlation y (T' u)) (score_of T' c y l (take i u)))
  prefixes_reach u e t i h =
      subst (λ (v : List ℕ). T (le_z (correlation y (T' v)) (score_of T' c y l (take i u)))) (take-append-drop i u)
      (no_completion_above T' y (size c) (take i u) (drop i u) (omega (arith, length-take i u, length-drop i u)) (bits_drop t i))

  -- so the input of a payload correlates no higher than the ceiling
  none_above_paper : 1 ≤ l → length (frozen c) ≡ size c → (p : ℕ) → p ≤ size c → {payload : List ℕ} → Bits payload
      → T (le_z (correlation y (T' (input_for c payload))) (ceiling T' c y l p))
  none_above_paper some flags p h {payload} t =
      let u : List ℕ = input_for c payload in
      none_above_ceiling (score_of T' c y l) (children c) l some (goes c) u (correlation y (T' u)) p
      (λ i k. input_follows c t i (omega (arith, flags)))
      (λ i k. prefixes_reach u (length_input c t ∙ flags) (bits_input c t) i (omega arith))

  -- the row of a path of n bits: nothing is filled up, and nothing is left free in the score
  abbrev pub whole_row : List ℕ → Row
  whole_row u = record { input = u; word = T' u; score = correlation y (T' u) }

  pub row_of_whole : (u : List ℕ) → length u ≡ size c → row_of T' c y l u ≡ whole_row u
  unfolding score largest
  row_of_whole u e = let none_left : size c - length u ≡ 0 = omega arith in rw (none_left, append-nil u)

-- ---- the theorems
module _ (c : Code) (l p : ℕ) (soft : List ℤ) (x : Lent) (a : AcceptedCall c l p soft x) where
  -- there is a flag for each position
  pub flags : length (frozen c) ≡ size c
  flags = length_frozen c (map_right c l p soft (room_of x) (accepted_faults c l p soft x a))

  -- the call gives the ceiling of the decoder on paper
  pub ceiling_is : ceiling_of (decode_outcome c l p soft x).answer ≡ ceiling (code_transform c) c (taken soft) l p
  unfolding decode_served
  ceiling_is = ap (λ (o : Decoding). ceiling_of o.answer) (accepted_is c l p soft x a)

  -- At any stop position no word of the code correlates above the ceiling that an accepted call gives.
  pub no_code_word_above : NoneAbove c soft (ceiling_of (decode_outcome c l p soft x).answer)
  unfolding encoded
  no_code_word_above payload e t =
      subst (λ (z : ℤ). T (le_z (correlation (taken soft) (code_transform c (input_for c payload))) z)) (sym ceiling_is)
      (none_above_paper (code_transform c) c (taken soft) l (some_list c l p soft x a) flags p (stop_inside c l p soft x a) t)

-- At stop 0, where nothing is decided yet, the ceiling is the sum of the magnitudes.
pub ceiling_at_stop_0 : (c : Code) (l : ℕ) (soft : List ℤ) (x : Lent) → AcceptedCall c l 0 soft x
    → ceiling_of (decode_outcome c l 0 soft x).answer ≡ pos (magnitude (taken soft))
unfolding live_by dropped_by ceiling_by
ceiling_at_stop_0 c l soft x a =
    let y : List ℤ = taken soft in
    ceiling_is c l 0 soft x a
    ∙ code_score c y nil (length_taken soft ∙ soft_long c l 0 soft (room_of x) (accepted_faults c l 0 soft x a)) (omega arith)
    ∙ ap (score_from (magnitude y)) (cost_empty c.arikan c.m y)
    ∙ +ℤ_idr (pos (magnitude y))

module _ (c : Code) (l : ℕ) (soft : List ℤ) (x : Lent) where
  -- what an accepted call at stop n comes to
  abbrev pub whole : Decoding
  whole = decode_outcome c l (size c) soft x
