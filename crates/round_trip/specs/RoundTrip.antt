-- Theorems of the encoder and the extractor, over the outcomes of their calls, with no code in scope and for either transform: what they
-- do to each other's results, which words the extractor refuses with 12, and what a refused call writes.
use Rattle.std.specs.Prelude.{◌≡◌, refl, Bool, true, false, List, [], ℕ, zero, suc, ◌-◌, ◌≤◌, length, take, replicate}
use Rattle.std.proofs.Math.Path.{sym, ap}
use Rattle.std.proofs.Common.{◌∙◌, true≢false, arith, take_at}
use Rattle.spec.specs.Bits.{Bits}
use Rattle.spec.specs.Code.{Code, size, frozen, payload_size, input_for, gathered, broken, code_transform, encoded, input_of, extracted}
use Rattle.spec.specs.Faults.{first, settled}
use Rattle.spec.specs.Refusals.{extract_faults}
use Rattle.spec.specs.Outcome.{padded, Written, written, encode_refusal, encode_outcome, extract_refusal, extract_outcome}
use Rattle.laws.specs.FirstFault.{First, none, here, later, is_first, of_first, first_after}
use Rattle.laws.specs.FrozenMap.{length_gathered, bits_gathered}
use Rattle.laws.specs.Inputs.{intact_input, input_intact, length_input, bits_input, input_gives}
use Rattle.laws.specs.Accepted.{Accepted, accepted_of, flag_count}
use Rattle.laws.specs.CodeTransform.{undone, redone, length_transformed, bits_transformed, length_inverted, bits_inverted}
use Rattle.code.specs.Given.{Given, given_faults, given_numbers, given_of}
use Rattle.encoder.specs.EncodeCall.{encodes, encode_accepted, encode_served}
use Rattle.extractor.specs.ExtractCall.{input_faults, extracts, extract_accepted, extract_served}

-- ---- a payload of bits and its word
module _ {c : Code} (a : Accepted c) {p : List ℕ} (t : Bits p) where
  long_input : length (input_for c p) ≡ size c
  long_input = length_input c t ∙ flag_count a

  input_of_encoded : input_of c (encoded c p) ≡ input_for c p
  unfolding encoded input_of
  input_of_encoded = undone c.m (input_for c p) (bits_input c t) long_input c.arikan

  pub encoded_intact : broken c (input_of c (encoded c p)) ≡ false
  encoded_intact = ap (broken c) input_of_encoded ∙ input_intact c a.ruled.right t

  pub encoded_given : Given c (size c) (encoded c p)
  unfolding encoded
  encoded_given = record { accepts = a; long = length_transformed c.arikan c.m (input_for c p) long_input; bits = bits_transformed c.arikan c.m (bits_input c t) }

  pub extracted_encoded : length p ≡ payload_size c → extracted c (encoded c p) ≡ p
  unfolding extracted
  extracted_encoded e = ap (gathered (frozen c)) input_of_encoded ∙ input_gives c t e

-- ---- a word of n bits and its payload
module _ {c : Code} {w : List ℕ} (g : Given c (size c) w) where
  flags_of_input : length (input_of c w) ≡ length (frozen c)
  unfolding input_of
  flags_of_input = length_inverted c.arikan c.m w g.long ∙ sym (flag_count g.accepts)

  pub extracted_given : Given c (payload_size c) (extracted c w)
  unfolding extracted input_of
  extracted_given = record {
    accepts = g.accepts;
    long = length_gathered (frozen c) (input_of c w) flags_of_input;
    bits = bits_gathered (frozen c) (bits_inverted c.arikan c.m g.bits);
  }

  pub encoded_extracted : broken c (input_of c w) ≡ false → encoded c (extracted c w) ≡ w
  unfolding encoded extracted input_of
  encoded_extracted b =
      ap (code_transform c) (intact_input c g.accepts.ruled.right (bits_inverted c.arikan c.m g.bits) flags_of_input b)
      ∙ redone c.m w g.bits g.long c.arikan

-- ---- the calls, one after the other
-- the front of what a call wrote
front : (w out : List ℕ) (n : ℕ) (o : Written) → written 0 (padded 0 (length out) w) ≡ o → length w ≡ n → take n o.output ≡ w
front w out n o e l = ap (λ (o : Written). take n o.output) (sym e) ∙ take_at w (replicate (length out - length w) 0) n l

-- the encoder's output begins with the word
pub word_written : (c : Code) (payload out : List ℕ) → encode_refusal c payload (length out) ≡ 0 → take (size c) (encode_outcome c payload out).output ≡ encoded c payload
word_written c payload out e =
    let g : Given c (payload_size c) payload = (encodes c payload (length out) e).0 in
    front (encoded c payload) out (size c) (encode_outcome c payload out) (encode_served c payload out (sym e)) (encoded_given g.accepts g.bits).long

-- the word of an accepted payload, given to the extractor with room for k bytes, is accepted and gives the payload
pub extract_after_encode : (c : Code) (payload out back : List ℕ) → encode_refusal c payload (length out) ≡ 0 → payload_size c ≤ length back
    → extract_outcome c (take (size c) (encode_outcome c payload out).output) back ≡ written 0 (padded 0 (length back) payload)
extract_after_encode c payload out back e h =
    let g : Given c (payload_size c) payload = (encodes c payload (length out) e).0 in
    let w : List ℕ = encoded c payload in
    let x : Given c (size c) w = encoded_given g.accepts g.bits in
    let z : extract_refusal c w (length back) ≡ 0 = extract_accepted c w (length back) x (encoded_intact g.accepts g.bits) h in
    ap (λ (l : List ℕ). extract_outcome c l back) (word_written c payload out e)
    ∙ sym (extract_served c w back (sym z))
    ∙ ap (λ (l : List ℕ). written 0 (padded 0 (length back) l)) (extracted_encoded g.accepts g.bits g.long)

-- the payload of an accepted word, given to the encoder with room for n bytes, is accepted and gives the word
pub encode_after_extract : (c : Code) (word out back : List ℕ) → extract_refusal c word (length out) ≡ 0 → size c ≤ length back
    → encode_outcome c (take (payload_size c) (extract_outcome c word out).output) back ≡ written 0 (padded 0 (length back) word)
encode_after_extract c word out back e h =
    let x = extracts c word (length out) e in
    let g : Given c (size c) word = x.0 in
    let p : List ℕ = extracted c word in
    let q : Given c (payload_size c) p = extracted_given g in
    ap (λ (l : List ℕ). encode_outcome c l back) (front p out (payload_size c) (extract_outcome c word out) (extract_served c word out (sym e)) q.long)
    ∙ sym (encode_served c p back (sym (encode_accepted c p (length back) q h)))
    ∙ ap (λ (l : List ℕ). written 0 (padded 0 (length back) l)) (encoded_extracted g x.1)

-- ---- the words of the code
-- a payload of k bits has this code word
pub record CodeWord (c : Code) (word : List ℕ) : Type 0 where
  pub payload : List ℕ
  pub long : length payload ≡ payload_size c
  pub bits : Bits payload
  pub gives : encoded c payload ≡ word

-- where 1, 2, 3, 15, 6 and 11 do not apply, a word that is no code word is refused with 12
pub outside_refused : (c : Code) (word : List ℕ) (room : ℕ) → first (given_faults c (size c) word) ≡ 0 → (CodeWord c word → ⊥) → extract_refusal c word room ≡ 12
unfolding extract_refusal
outside_refused c word room e n = by_test (broken c (input_of c word)) refl
  where
    by_test : (b : Bool) → broken c (input_of c word) ≡ b → first (extract_faults c word room) ≡ 12
    by_test true i =
        sym (first_after (given_faults c (size c) word) (input_faults c (input_of c word) room) 0 (sym e) (given_numbers c (size c) word) refl 12
        (is_first (input_faults c (input_of c word) room) 12 (here i)))
    by_test false i =
        let g : Given c (size c) word = given_of (of_first (given_faults c (size c) word) 0 (sym e)) in
        let q : Given c (payload_size c) (extracted c word) = extracted_given g in
        absurd (n (record { payload = extracted c word; long = q.long; bits = q.bits; gives = encoded_extracted g i }))

-- and what is refused with 12 is no code word
not_intact : (c : Code) (word : List ℕ) (room : ℕ) → First (extract_faults c word room) 12 → Accepted c × (broken c (input_of c word) ≡ true)
unfolding first
not_intact c word room (later a (later b (later d (later w (later f (later r (later l (later t (here e))))))))) =
    (accepted_of (later a (later b (later d (later w (later f (later r none)))))), e)
not_intact c word room (later a (later b (later d (later w (later f (later r (later l (later t (later i (later o z)))))))))) =
    absurd (omega (arith, is_first [] 12 z))

pub refused_outside : (c : Code) (word : List ℕ) (room : ℕ) → extract_refusal c word room ≡ 12 → CodeWord c word → ⊥
unfolding extract_refusal
refused_outside c word room e w =
    let b = not_intact c word room (of_first (extract_faults c word room) 12 (sym e)) in
    true≢false (sym b.1 ∙ ap (λ (l : List ℕ). broken c (input_of c l)) (sym w.gives) ∙ encoded_intact b.0 w.bits)

-- ---- a call that is refused leaves its output as it was lent
settled_leaves : (r : ℕ) (out : List ℕ) (s : Written) → s.number ≡ 0 → ((settled r (λ k. written k out) s).number ≡ 0 → ⊥) → (settled r (λ k. written k out) s).output ≡ out
settled_leaves zero out s e n = absurd (n e)
settled_leaves (suc k) out s e n = refl

pub encode_refused_writes_nothing : (c : Code) (payload out : List ℕ) → ((encode_outcome c payload out).number ≡ 0 → ⊥) → (encode_outcome c payload out).output ≡ out
unfolding encode_outcome
encode_refused_writes_nothing c payload out =
    settled_leaves (encode_refusal c payload (length out)) out (written 0 (padded 0 (length out) (encoded c payload))) refl

pub extract_refused_writes_nothing : (c : Code) (word out : List ℕ) → ((extract_outcome c word out).number ≡ 0 → ⊥) → (extract_outcome c word out).output ≡ out
unfolding extract_outcome
extract_refused_writes_nothing c word out =
    settled_leaves (extract_refusal c word (length out)) out (written 0 (padded 0 (length out) (extracted c word))) refl
