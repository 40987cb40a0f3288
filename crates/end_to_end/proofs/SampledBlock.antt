-- From payload to payload through a demodulator's samples: 02, wish 3. Where every part speaks for its bit, all that was sent is received.
-- The theorem is over the outcomes of encoder, quantiser, decoder and extractor, one behind the other.
use Rattle.std.specs.Prelude.{◌≡◌, List, [], ◌∷◌, ℕ, suc, ◌*◌, ◌≤◌, ◌<◌, length, get_or, ℤ, pos}
use Rattle.std.proofs.Common.{sym, ap, subst, ◌∙◌, arith, get_or-take}
use Rattle.spec.specs.Code.{Code, size, payload_size, encoded}
use Rattle.spec.specs.Record.{four_at}
use Rattle.spec.specs.Samples.{quantise_refusal, quantise_outcome}
use Rattle.spec.specs.Outcome.{encode_refusal, Lent, decode_outcome}
use Rattle.laws.specs.BitLaws.{bits_at}
use Rattle.laws.specs.Agreement.{Favours, Each, none, more}
use Rattle.laws.specs.DecodeCall.{AcceptedCall}
use Rattle.laws.specs.SoftPairs.{length_pairs}
use Rattle.laws.specs.SampleCall.{quantises, two_halves, front_is, part_at}
use Rattle.code.specs.Given.{Given}
use Rattle.encoder.specs.EncodeCall.{encodes}
use Rattle.round_trip.specs.RoundTrip.{encoded_given, word_written}
use Rattle.end_to_end.specs.EndToEnd.{sent_word, Received, sent_is_received}
use Rattle.end_to_end.specs.SampledBlock.{Speaks, speaks_favours, sampled_soft}

-- ---- all of them
each_place : (ys : List ℤ) (bs : List ℕ) → length ys ≡ length bs → ((i : ℕ) → i < length bs → Favours (get_or ys i (pos 0)) (get_or bs i 0)) → Each Favours ys bs
each_place [] [] e f = none
each_place [] (b ∷ bs) e f = absurd (let z : ⊥ = omega (arith, e) in z)
each_place (y ∷ ys) [] e f = absurd (let z : ⊥ = omega (arith, e) in z)
each_place (y ∷ ys) (b ∷ bs) e f = more (f 0 (omega arith)) (each_place ys bs (omega (arith, e)) (λ i h. f (suc i) (omega arith)))

module _ (c : Code) (payload s : List ℕ) (soft : List ℤ) (out : List ℕ) (e : encode_refusal c payload (length out) ≡ 0)
    (q : 0 ≡ quantise_refusal c.m (length s) (length soft)) where
  given : Given c (size c) (encoded c payload)
  given = let g = (encodes c payload (length out) e).0 in encoded_given g.accepts g.bits

  long : length (sampled_soft c payload s soft out e q) ≡ size c
  long = ap length (front_is c.m s soft q) ∙ length_pairs s 0 _ ∙ sym (two_halves c.m (quantises c.m (length s) (length soft) q).low)

  pub speaking_favours : ((i : ℕ) → i < size c → Speaks (four_at s (4 * i)) (get_or (sent_word c payload out) i 0)) → Each Favours (sampled_soft c payload s soft out e q) (sent_word c payload out)
  speaking_favours f =
      let w : sent_word c payload out ≡ encoded c payload = word_written c payload out e in
      let n : length (sent_word c payload out) ≡ size c = ap length w ∙ given.long in
      each_place (sampled_soft c payload s soft out e q) (sent_word c payload out) (long ∙ sym n)
      (λ i h. let k : i < size c = omega arith in
      subst (λ (y : ℤ). Favours y (get_or (sent_word c payload out) i 0))
      (sym (get_or-take (size c) (quantise_outcome c.m s soft).soft i (pos 0) k ∙ part_at c.m s soft q i k))
      (speaks_favours (subst (λ (l : List ℕ). get_or l i 0 < 2) (sym w) (bits_at given.bits i)) (f i k)))

  -- Encode a payload, and take samples of which each part speaks for the bit at its position: then the decoder's first row, given the
  -- quantiser's soft values, is what was sent, and the extractor gives the payload back.
  pub sampled_is_received : (l : ℕ) (x : Lent) (back : List ℕ)
      → ((i : ℕ) → i < size c → Speaks (four_at s (4 * i)) (get_or (sent_word c payload out) i 0))
      → AcceptedCall c l (size c) (sampled_soft c payload s soft out e q) x → payload_size c ≤ length back
      → Received c payload out (sampled_soft c payload s soft out e q) (decode_outcome c l (size c) (sampled_soft c payload s soft out e q) x) back
  sampled_is_received l x back f a room = sent_is_received c payload l (sampled_soft c payload s soft out e q) x out back e (speaking_favours f) a room
