-- The call of the extractor, taken apart: the tests of the code and of the word, those on its input, and what a call then comes to.
use Rattle.std.specs.Prelude.{◌≡◌, false, ℕ, ◌≤◌, length}
use Rattle.std.proofs.Math.Path.{refl, sym, ap}
use mathlib.Core.List.{List, [], ◌∷◌, ◌++◌}
use borrow.Author.Tests.{le-ltb, ltb-false}
use Rattle.spec.specs.Code.{Code, size, frozen, payload_size, gathered, broken, input_of, extracted}
use Rattle.spec.specs.Faults.{Fault, fault, first, settled}
use Rattle.spec.specs.Refusals.{room_fault}
use Rattle.spec.specs.Outcome.{padded, Written, written, extract_refusal, extract_outcome}
use Rattle.laws.specs.FirstFault.{First, none, later, is_first, of_first, found_after, first_after, none_before, none_after, settled_refused, settled_served}
use Rattle.code.specs.Given.{Given, given_faults, given_numbers, given_of, given_none}

-- 12 and 10 are tested on the input, and what is left of the call once it is known
abbrev pub input_faults : Code → List ℕ → ℕ → List Fault
input_faults c input room = fault 12 (broken c input) ∷ room_fault (payload_size c) room ∷ []

unfoldable pub payload_outcome : Code → List ℕ → List ℕ → Written
payload_outcome c input out =
    settled (first (input_faults c input (length out))) (λ k. written k out) (written 0 (padded 0 (length out) (gathered (frozen c) input)))

module _ (c : Code) (input out : List ℕ) where
  pub payload_refused : (k : ℕ) → k ≡ first (input_faults c input (length out)) → (k ≡ 0 → ⊥) → written k out ≡ payload_outcome c input out
  unfolding payload_outcome
  payload_refused k e n =
      settled_refused (λ k. written k out) (written 0 (padded 0 (length out) (gathered (frozen c) input))) k (first (input_faults c input (length out))) e n

  pub payload_served : 0 ≡ first (input_faults c input (length out)) → written 0 (padded 0 (length out) (gathered (frozen c) input)) ≡ payload_outcome c input out
  unfolding payload_outcome
  payload_served e =
      settled_served (λ k. written k out) (written 0 (padded 0 (length out) (gathered (frozen c) input))) (first (input_faults c input (length out))) e

module _ (c : Code) (word : List ℕ) (room : ℕ) where
  pub extracts : extract_refusal c word room ≡ 0 → Given c (size c) word × (broken c (input_of c word) ≡ false) × (payload_size c ≤ room)
  unfolding extract_refusal
  extracts e =
      let rest : List Fault = input_faults c (input_of c word) room in
      let all : First (given_faults c (size c) word ++ rest) 0 = of_first (given_faults c (size c) word ++ rest) 0 (sym e) in
      parts (given_of (none_before rest (given_numbers c (size c) word) all)) (none_after (given_numbers c (size c) word) all)
    where
      parts : Given c (size c) word → First (input_faults c (input_of c word) room) 0
          → Given c (size c) word × (broken c (input_of c word) ≡ false) × (payload_size c ≤ room)
      parts g (later i (later d none)) = (g, i, ltb-false room (payload_size c) d)

  pub extract_accepted : Given c (size c) word → broken c (input_of c word) ≡ false → payload_size c ≤ room → extract_refusal c word room ≡ 0
  unfolding extract_refusal
  extract_accepted g i h =
      let rest : List Fault = input_faults c (input_of c word) room in
      let all : First (given_faults c (size c) word ++ rest) 0
      = found_after (given_numbers c (size c) word) (given_none g) (later i (later (le-ltb room (payload_size c) h) none)) in
      sym (is_first (given_faults c (size c) word ++ rest) 0 all)

module _ (c : Code) (word out : List ℕ) where
  pub extract_refused : (k : ℕ) → k ≡ extract_refusal c word (length out) → (k ≡ 0 → ⊥) → written k out ≡ extract_outcome c word out
  unfolding extract_outcome
  extract_refused k e n =
      settled_refused (λ k. written k out) (written 0 (padded 0 (length out) (extracted c word))) k (extract_refusal c word (length out)) e n

  pub extract_served : 0 ≡ extract_refusal c word (length out) → written 0 (padded 0 (length out) (extracted c word)) ≡ extract_outcome c word out
  unfolding extract_outcome
  extract_served e = settled_served (λ k. written k out) (written 0 (padded 0 (length out) (extracted c word))) (extract_refusal c word (length out)) e

  -- past the tests of the code and the word, the call is what is left on the input
  pub extract_input : 0 ≡ first (given_faults c (size c) word) → payload_outcome c (input_of c word) out ≡ extract_outcome c word out
  unfolding extract_outcome extract_refusal payload_outcome extracted
  extract_input e =
      let rest : List Fault = input_faults c (input_of c word) (length out) in
      ap (λ (r : ℕ). settled r (λ k. written k out) (written 0 (padded 0 (length out) (gathered (frozen c) (input_of c word)))))
      (first_after (given_faults c (size c) word) rest 0 e (given_numbers c (size c) word) refl (first rest) refl)
