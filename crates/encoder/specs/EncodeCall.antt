-- The call of the encoder, taken apart: the tests of the code and of the payload, that of the room, and what a call then comes to.
use Rattle.std.specs.Prelude.{◌≡◌, ℕ, ◌≤◌, length}
use Rattle.std.proofs.Math.Path.{sym}
use mathlib.Core.List.{List, [], ◌∷◌, ◌++◌}
use borrow.Author.Tests.{le-ltb, ltb-false}
use Rattle.spec.specs.Code.{Code, size, payload_size, encoded}
use Rattle.spec.specs.Faults.{Fault}
use Rattle.spec.specs.Refusals.{room_fault}
use Rattle.spec.specs.Outcome.{padded, written, encode_refusal, encode_outcome}
use Rattle.laws.specs.FirstFault.{First, none, later, is_first, of_first, found_after, none_before, none_after, settled_refused, settled_served}
use Rattle.code.specs.Given.{Given, given_faults, given_numbers, given_of, given_none}

module _ (c : Code) (payload : List ℕ) (room : ℕ) where
  pub encodes : encode_refusal c payload room ≡ 0 → Given c (payload_size c) payload × (size c ≤ room)
  unfolding encode_refusal
  encodes e =
      let rest : List Fault = room_fault (size c) room ∷ [] in
      let all : First (given_faults c (payload_size c) payload ++ rest) 0 = of_first (given_faults c (payload_size c) payload ++ rest) 0 (sym e) in
      (given_of (none_before rest (given_numbers c (payload_size c) payload) all), fits (none_after (given_numbers c (payload_size c) payload) all))
    where
      fits : First (room_fault (size c) room ∷ []) 0 → size c ≤ room
      fits (later d none) = ltb-false room (size c) d

  pub encode_accepted : Given c (payload_size c) payload → size c ≤ room → encode_refusal c payload room ≡ 0
  unfolding encode_refusal
  encode_accepted g h =
      let all : First (given_faults c (payload_size c) payload ++ (room_fault (size c) room ∷ [])) 0
      = found_after (given_numbers c (payload_size c) payload) (given_none g) (later (le-ltb room (size c) h) none) in
      sym (is_first (given_faults c (payload_size c) payload ++ (room_fault (size c) room ∷ [])) 0 all)

module _ (c : Code) (payload out : List ℕ) where
  pub encode_refused : (k : ℕ) → k ≡ encode_refusal c payload (length out) → (k ≡ 0 → ⊥) → written k out ≡ encode_outcome c payload out
  unfolding encode_outcome
  encode_refused k e n =
      settled_refused (λ k. written k out) (written 0 (padded 0 (length out) (encoded c payload))) k (encode_refusal c payload (length out)) e n

  pub encode_served : 0 ≡ encode_refusal c payload (length out) → written 0 (padded 0 (length out) (encoded c payload)) ≡ encode_outcome c payload out
  unfolding encode_outcome
  encode_served e = settled_served (λ k. written k out) (written 0 (padded 0 (length out) (encoded c payload))) (encode_refusal c payload (length out)) e
