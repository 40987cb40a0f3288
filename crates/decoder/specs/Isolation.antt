-- What two links can see of each other: nothing. These follow from the whole-call equation of `decode`, whose right side is
-- `decode_outcome`.
use Rattle.std.specs.Prelude.{◌≡◌, List, length, replicate, ℤ}
use Rattle.std.proofs.Math.Path.{refl, sym, ap}
use Rattle.std.proofs.Common.{◌∙◌}
use Prim.Native.Nat.{ℕ, zero, suc}
use Rattle.spec.specs.Code.{Code}
use Rattle.spec.specs.Faults.{settled}
use Rattle.spec.specs.Refusals.{Room}
use Rattle.spec.specs.Outcome.{Answer, refused_by, Lent, room_of, Decoding, decoding, decode_refusal, decode_served, decode_outcome}
use Rattle.laws.specs.DecodeCall.{AcceptedCall, accepted_is}

-- what a host gets: the answer, with the ceiling in it, and the three outputs
pub record Received : Type 0 where
  pub answer : Answer
  pub inputs : List ℕ
  pub words : List ℕ
  pub scores : List ℤ

abbrev pub received : Decoding → Received
received o = record { answer = o.answer; inputs = o.left.inputs; words = o.left.words; scores = o.left.scores }

-- outputs that are equally long
pub record AsLong (x x' : Lent) : Type 0 where
  pub inputs : length x.inputs ≡ length x'.inputs
  pub words : length x.words ≡ length x'.words
  pub scores : length x.scores ≡ length x'.scores

module _ (c : Code) (l p : ℕ) (soft : List ℤ) where
  abbrev pub outcome : Lent → Decoding
  outcome = decode_outcome c l p soft

  alike : (x x' : Lent) → AsLong x x' → received (decode_served c l p soft (room_of x)) ≡ received (decode_served c l p soft (room_of x'))
  unfolding decode_served
  alike x x' long = rw (long.inputs, long.words, long.scores)

  -- Two accepted calls that agree on code, list size, stop position and soft values, and whose outputs are equally long, give the
  -- same answer and the same outputs, whatever tables were lent and whatever tables and outputs held before.
  pub same_block_same_rows : (x x' : Lent) → AsLong x x' → AcceptedCall c l p soft x → AcceptedCall c l p soft x' → received (outcome x) ≡ received (outcome x')
  same_block_same_rows x x' long a a' =
      ap received (accepted_is c l p soft x a) ∙ alike x x' long ∙ ap received (sym (accepted_is c l p soft x' a'))

  -- Whether a call is accepted, and its answer, depend on the lengths of what is lent and not on what that holds.
  pub same_lengths_same_answer : (x x' : Lent) → room_of x ≡ room_of x' → (outcome x).answer ≡ (outcome x').answer
  unfolding decode_outcome
  same_lengths_same_answer x x' e =
      answer_of_lem (decode_refusal c l p soft (room_of x)) x (decode_served c l p soft (room_of x))
      ∙ ap (λ (r : Room). settled (decode_refusal c l p soft r) refused_by (decode_served c l p soft r).answer) e
      ∙ sym (answer_of_lem (decode_refusal c l p soft (room_of x')) x' (decode_served c l p soft (room_of x')))
    where
      answer_of_lem : (k : ℕ) (x : Lent) (s : Decoding) → (settled k (λ j. decoding (refused_by j) x) s).answer ≡ settled k refused_by s.answer
      answer_of_lem zero x s = refl
      answer_of_lem (suc k) x s = refl

  -- After an accepted call both tables are 0 to their last place: they hold nothing of it.
  pub tables_left_zero : (x : Lent) → AcceptedCall c l p soft x
      → ((outcome x).left.numbers ≡ replicate (length x.numbers) 0) × ((outcome x).left.bytes ≡ replicate (length x.bytes) 0)
  unfolding decode_served
  tables_left_zero x a = (ap (λ (o : Decoding). o.left.numbers) (accepted_is c l p soft x a), ap (λ (o : Decoding). o.left.bytes) (accepted_is c l p soft x a))

  -- A refused call leaves everything that it was lent as it was.
  pub refused_writes_nothing : (x : Lent) → (AcceptedCall c l p soft x → ⊥) → (outcome x).left ≡ x
  unfolding decode_outcome
  refused_writes_nothing x n = left_of (decode_refusal c l p soft (room_of x)) n
    where
      left_of : (k : ℕ) → (k ≡ 0 → ⊥) → (settled k (λ j. decoding (refused_by j) x) (decode_served c l p soft (room_of x))).left ≡ x
      left_of zero n = absurd (n refl)
      left_of (suc k) n = refl
