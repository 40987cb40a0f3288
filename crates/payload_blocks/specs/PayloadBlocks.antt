-- Code words whose payloads stand in a row: those of 2 ^ r payloads from a multiple of 2 ^ r on are the word of the first of them plus each
-- sum of the words of the last r bits alone. So their correlations are a part of those of all code words.
use Rattle.std.specs.Prelude.{◌≡◌, refl, length, get_or, take, drop, ℤ, pos}
use Rattle.std.proofs.Common.{sym, ap₂, ◌∙◌, arith, drop-cons, drop-drop, take-add}
use Rattle.std.proofs.Math.Path.{ap}
use mathlib.Core.List.{List, [], ◌∷◌, ◌++◌, map, map-append, map-map}
use Prim.Native.Nat.{ℕ, zero, suc, ◌+◌, ◌^◌, ◌<◌, ◌≤◌}
use Rattle.std.proofs.Math.ListN.{length-map}
use Rattle.std.proofs.lemmas.List.{take-map, drop-map}
use Rattle.spec.specs.Bits.{Bits}
use Rattle.spec.specs.Transform.{added}
use Rattle.spec.specs.Code.{Code, size, payload_size, input_for, encoded}
use Rattle.spec.specs.Score.{correlation}
use Rattle.laws.specs.ListCost.{All, none, more}
use Rattle.laws.specs.Accepted.{Accepted, flag_count}
use Rattle.laws.specs.CodeTransform.{length_transformed, bits_transformed}
use Rattle.laws.specs.Inputs.{length_input, bits_input}
use Rattle.laws.specs.Additive.{encoded_added}
use Rattle.correlations.specs.Folding.{spanned}
use Rattle.payload_blocks.specs.Payloads.{numeral, payloads, generators, correlations, Multiple}
use Rattle.payload_blocks.specs.Numerals.{length_numeral, bits_numeral, length_payloads, get_d_map, payload_at, multiple_low, multiple_high, numeral_plus}

-- ---- the words of the last r bits alone
pub length_generators : (c : Code) (r : ℕ) → length (generators c r) ≡ r
unfolding generators
length_generators c zero = refl
length_generators c (suc r) = ap suc (length_generators c r)

-- the word of a payload of bits has n bits
pub length_encoded : (c : Code) {p : List ℕ} → Bits p → Accepted c → length (encoded c p) ≡ size c
unfolding encoded
length_encoded c {p} t a = length_transformed c.arikan c.m (input_for c p) (length_input c t ∙ flag_count a)

pub bits_encoded : (c : Code) {p : List ℕ} → Bits p → Bits (encoded c p)
unfolding encoded
bits_encoded c t = bits_transformed c.arikan c.m (bits_input c t)

pub generators_words : (c : Code) → Accepted c → (r : ℕ) → All (λ (g : List ℕ). length g ≡ size c) (generators c r)
unfolding generators
generators_words c a zero = none
generators_words c a (suc r) = more (length_encoded c (bits_numeral (payload_size c) (2 ^ r)) a) (generators_words c a r)

pub generators_bits : (c : Code) (r : ℕ) → All Bits (generators c r)
unfolding generators
generators_bits c zero = none
generators_bits c (suc r) = more (bits_encoded c (bits_numeral (payload_size c) (2 ^ r))) (generators_bits c r)

-- ---- a block of words
-- the words of 2 ^ r and of a multiple of 2 ^ (r + 1)
word_plus : (c : Code) (r q : ℕ) → Multiple (suc r) q
    → added (encoded c (numeral (payload_size c) q)) (encoded c (numeral (payload_size c) (2 ^ r))) ≡ encoded c (numeral (payload_size c) (q + 2 ^ r))
word_plus c r q m =
    let k : ℕ = payload_size c in
    sym (encoded_added c (bits_numeral k q) (bits_numeral k (2 ^ r)) (length_numeral k q ∙ sym (length_numeral k (2 ^ r)))) ∙ ap (encoded c) (numeral_plus r k q m)

-- a part of a list of twice the length, by its halves
two_blocks : {A : Type 0} (a q : ℕ) (xs : List A) → take a (drop q xs) ++ take a (drop (q + a) xs) ≡ take (a + a) (drop q xs)
two_blocks {A} a q xs = ap (λ (l : List A). take a (drop q xs) ++ take a l) (sym (drop-drop a q xs)) ∙ sym (take-add a a (drop q xs))

-- The words of 2 ^ r payloads in a row, the first of them a multiple of 2 ^ r.
pub block_is : (c : Code) (r q : ℕ) → Multiple r q → q + 2 ^ r ≤ 2 ^ payload_size c
    → spanned (encoded c (numeral (payload_size c) q)) (generators c r) ≡ map (encoded c) (take (2 ^ r) (drop q (payloads (payload_size c))))
unfolding generators spanned
block_is c zero q m l =
    let k : ℕ = payload_size c in
    let ps : List (List ℕ) = payloads k in
    sym (ap (λ (xs : List (List ℕ)). map (encoded c) (take 1 xs)) (drop-cons ps q [] (omega (arith, length_payloads k))) ∙ ap (λ (p : List ℕ). encoded c p ∷ []) (payload_at k q (omega arith)))
block_is c (suc r) q m l =
    let k : ℕ = payload_size c in
    let ps : List (List ℕ) = payloads k in
    let a : ℕ = 2 ^ r in
    let twice : a + a ≡ 2 ^ suc r = omega arith in
    ap₂ (λ (u : List (List ℕ)) (w : List ℕ). u ++ spanned w (generators c r)) (block_is c r q (multiple_low m) (omega arith)) (word_plus c r q m)
    ∙ ap (λ (u : List (List ℕ)). map (encoded c) (take a (drop q ps)) ++ u) (block_is c r (q + a) (multiple_high m) (omega arith))
    ∙ sym (map-append (encoded c) (take a (drop q ps)) (take a (drop (q + a) ps)))
    ∙ ap (map (encoded c)) (two_blocks a q ps ∙ ap (λ (n : ℕ). take n (drop q ps)) twice)

-- ---- the correlations of a block of words, and of all of them
module _ (c : Code) (y : List ℤ) where
  -- the correlation of the word of a payload
  abbrev correlated : List ℕ → ℤ
  correlated p = correlation y (encoded c p)

  -- The correlations of such words are those of all code words, from the first payload on.
  pub block_correlations : (r q : ℕ) → Multiple r q → q + 2 ^ r ≤ 2 ^ payload_size c
      → map (correlation y) (spanned (encoded c (numeral (payload_size c) q)) (generators c r)) ≡ take (2 ^ r) (drop q (correlations c y))
  unfolding correlations
  block_correlations r q m l =
      let ps : List (List ℕ) = payloads (payload_size c) in
      ap (map (correlation y)) (block_is c r q m l)
      ∙ map-map (correlation y) (encoded c) (take (2 ^ r) (drop q ps))
      ∙ sym (take-map correlated (2 ^ r) (drop q ps))
      ∙ ap (take (2 ^ r)) (sym (drop-map correlated q ps))

  pub length_correlations : length (correlations c y) ≡ 2 ^ payload_size c
  unfolding correlations
  length_correlations = length-map (payloads (payload_size c)) correlated ∙ length_payloads (payload_size c)

  pub correlation_at : (q : ℕ) → q < 2 ^ payload_size c → get_or (correlations c y) q (pos 0) ≡ correlation y (encoded c (numeral (payload_size c) q))
  unfolding correlations
  correlation_at q h =
      let k : ℕ = payload_size c in
      get_d_map correlated (payloads k) q [] (pos 0) (omega (arith, length_payloads k)) ∙ ap correlated (payload_at k q h)
