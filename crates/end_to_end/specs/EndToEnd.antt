-- From payload to payload: 02, wish 14. What the encoder wrote, received with no sign changed and no value lost, is what the decoder's first
-- row says, and the extractor gives the payload back. The theorem is over the outcomes of the three calls, for every code, list size and
-- lent memory; no code is in scope.
use Rattle.std.specs.Prelude.{◌≡◌, List, ℕ, ◌≤◌, length, take, ℤ, pos}
use Rattle.std.proofs.Common.{sym, ap, subst, ◌∙◌}
use Rattle.spec.specs.Code.{Code, size, payload_size, input_for, encoded}
use Rattle.spec.specs.Score.{taken}
use Rattle.spec.specs.Decoder.{Row}
use Rattle.spec.specs.Outcome.{padded, written, encode_refusal, encode_outcome, extract_outcome, Lent, Decoding, decode_outcome}
use Rattle.laws.specs.Cost.{magnitude}
use Rattle.laws.specs.Agreement.{Favours, Allows, Each, each_allows}
use Rattle.laws.specs.DecodeCall.{AcceptedCall}
use Rattle.search.specs.FirstRow.{first_row}
use Rattle.search.specs.Ceiling.{ceiling_of}
use Rattle.search.proofs.CleanBlock.{ceiling_at_the_sum, first_row_is_sent}
use Rattle.code.specs.Given.{Given}
use Rattle.encoder.specs.EncodeCall.{encodes}
use Rattle.round_trip.specs.RoundTrip.{word_written, extract_after_encode}

-- ---- the statement's words
-- the word that an encoder's call wrote to the front of out
abbrev pub sent_word : Code → List ℕ → List ℕ → List ℕ
sent_word c payload out = take (size c) (encode_outcome c payload out).output

-- all that was sent is in what a decoder's call at stop n came to
pub record Received (c : Code) (payload out : List ℕ) (soft : List ℤ) (o : Decoding) (back : List ℕ) : Type 0 where
  -- the first row: the payload's input, the word, and as its score the sum of the magnitudes of the soft values as they are taken
  pub row : first_row (size c) o ≡ record { input = input_for c payload; word = sent_word c payload out; score = pos (magnitude (taken soft)) }
  -- the ceiling is that score, so the first row is a best word
  pub top : ceiling_of o.answer ≡ pos (magnitude (taken soft))
  -- the extractor, given the first row's word and room for k bytes, gives the payload
  pub given_back : extract_outcome c (first_row (size c) o).word back ≡ written 0 (padded 0 (length back) payload)

-- it is received wherever each soft value has P with the bit that was sent at its place
abbrev pub ReceivedIf : (ℤ → ℕ → Type 0) → Type 0
ReceivedIf P = (c : Code) (payload : List ℕ) (l : ℕ) (soft : List ℤ) (x : Lent) (out back : List ℕ)
    → encode_refusal c payload (length out) ≡ 0 → Each P soft (sent_word c payload out) → AcceptedCall c l (size c) soft x → payload_size c ≤ length back
    → Received c payload out soft (decode_outcome c l (size c) soft x) back

-- ---- the theorems
-- With soft values that agree in sign with the bit or are 0, the ceiling is the sum of the magnitudes at every stop position.
pub ceiling_of_sent : (c : Code) (payload : List ℕ) (l p : ℕ) (soft : List ℤ) (x : Lent) (out : List ℕ)
    → encode_refusal c payload (length out) ≡ 0 → Each Allows soft (sent_word c payload out) → AcceptedCall c l p soft x
    → ceiling_of (decode_outcome c l p soft x).answer ≡ pos (magnitude (taken soft))
ceiling_of_sent c payload l p soft x out e allows a =
    let g : Given c (payload_size c) payload = (encodes c payload (length out) e).0 in
    ceiling_at_the_sum c l p soft x a payload g.long g.bits (subst (Each Allows soft) (word_written c payload out e) allows)

-- With none of them 0, all that was sent is received, at list size 1 too.
pub sent_is_received : ReceivedIf Favours
sent_is_received c payload l soft x out back e favours a room =
    let word : sent_word c payload out ≡ encoded c payload = word_written c payload out e in
    let g : Given c (payload_size c) payload = (encodes c payload (length out) e).0 in
    let first = first_row_is_sent c l soft x g.bits (subst (Each Favours soft) word favours) a in
    record {
      row = rw word first;
      top = ceiling_of_sent c payload l (size c) soft x out e (each_allows favours) a;
      given_back = ap (λ (r : Row). extract_outcome c r.word back) first ∙ ap (λ (w : List ℕ). extract_outcome c w back) (sym word) ∙ extract_after_encode c payload out back e room;
    }
