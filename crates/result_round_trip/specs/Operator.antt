-- What the operator reader goes by, and what it makes of that. And the two readers agree. No code is in scope: the theorems are over the
-- definitions.
use Rattle.std.specs.Prelude.{◌≡◌, not, ◌&&◌, length, take, replicate, ltb, eqb, ℤ, pos}
use Rattle.std.proofs.Math.Path.{refl, sym, ap₂}
use Rattle.std.proofs.Common.{ap, ◌∙◌, arith, take_at}
use mathlib.Core.List.{List, [], ◌∷◌}
use Prim.Native.Nat.{ℕ, zero, suc, ◌+◌, ◌-◌, ◌*◌, ◌/◌, ◌%◌, ◌^◌, ◌≤◌, ◌<◌}
use Rattle.std.specs.Int.Signed.{le_z}
use Rattle.spec.specs.Code.{map_bytes}
use Rattle.spec.specs.Faults.{Fault, fault, first, settled, outside}
use Rattle.spec.specs.Refusals.{room_fault}
use Rattle.spec.specs.Record.{byte_at, four_at, signed32, if_present, fields, exponent}
use Rattle.spec.specs.Outcome.{padded}
use Rattle.spec.specs.ResultRecord.{scores_from, first_score, rising, ceiling_at, scores_at, row_count, packed_at, result_frame, result_scores, result_ceiling, operator_faults, customer_faults, result_says, refused_result, OperatorReading, operator_reading, operator_refusal, operator_served, operator_outcome, CustomerReading, customer_refusal, customer_served, customer_outcome}
use Rattle.laws.specs.FirstFault.{of_first, is_first, Numbered, end, next, none_before, first_before, first_after}
use Rattle.laws.specs.ResultReading.{length_scores_from, customer_last, operator_served_lem, customer_served_lem}

-- ---- all that the operator reader goes by
pub record Seen : Type 0 where
  long : ℕ
  map : ℕ
  m : ℕ
  rows : ℕ
  frame : ℕ
  ceiling : ℤ
  scores : List ℤ

abbrev seen : List ℕ → Seen
seen s = record {
  long = length s;
  map = fields s;
  m = exponent s;
  rows = row_count s;
  frame = result_frame s;
  ceiling = result_ceiling s;
  scores = result_scores s;
}

same_seen : {a b c e f a' b' c' e' f' : ℕ} {y y' : ℤ} {ys ys' : List ℤ} → a ≡ a' → b ≡ b' → c ≡ c' → e ≡ e' → f ≡ f' → y ≡ y' → ys ≡ ys'
    → ◌≡◌ {A = Seen}
    (record { long = a; map = b; m = c; rows = e; frame = f; ceiling = y; scores = ys })
    (record { long = a'; map = b'; m = c'; rows = e'; frame = f'; ceiling = y'; scores = ys' })
same_seen i j k l n p q = rw (i, j, k, l, n, p, q)

-- two records of equal length give it the same to go by where all bytes before the packed rows are the same
module _ (s s' : List ℕ) (long : length s ≡ length s') (before : (i : ℕ) → i < packed_at s → byte_at s i ≡ byte_at s' i) where
  pub seen_same : seen s ≡ seen s'
  unfolding scores_from
  seen_same = same_seen long map_same (before 1 (omega arith)) rows_same frame_same ceiling_same listed_same
    where
      four_same : (at : ℕ) → at + 3 < packed_at s → four_at s at ≡ four_at s' at
      four_same at h =
          let a : byte_at s at ≡ byte_at s' at = before at (omega arith) in
          let b : byte_at s (at + 1) ≡ byte_at s' (at + 1) = before (at + 1) (omega arith) in
          let e : byte_at s (at + 2) ≡ byte_at s' (at + 2) = before (at + 2) (omega arith) in
          let f : byte_at s (at + 2 + 1) ≡ byte_at s' (at + 2 + 1) = before (at + 2 + 1) (omega arith) in
          omega arith

      scores_same : (n at : ℕ) → at + 4 * n ≤ packed_at s → scores_from s at n ≡ scores_from s' at n
      scores_same zero at h = refl
      scores_same (suc n) at h = ap₂ ◌∷◌ (ap signed32 (four_same at (omega arith))) (scores_same n (at + 4) (omega arith))

      map_same : fields s ≡ fields s'
      map_same = before 0 (omega arith)

      rows_same : row_count s ≡ row_count s'
      rows_same = before 2 (omega arith)

      frame_same : result_frame s ≡ result_frame s'
      frame_same = by_bit (fields s % 2) refl ∙ ap (λ (f : ℕ). if_present (f % 2) (four_at s' 3) 0) map_same
        where
          by_bit : (b : ℕ) → fields s % 2 ≡ b → if_present b (four_at s 3) 0 ≡ if_present b (four_at s' 3) 0
          by_bit zero e = refl
          by_bit (suc b) e = four_same 3 (omega arith)

      listed_same : result_scores s ≡ result_scores s'
      listed_same =
          scores_same (row_count s) (scores_at (fields s)) (omega arith)
          ∙ ap₂ (λ (f n : ℕ). scores_from s' (scores_at f) n) map_same rows_same

      ceiling_same : result_ceiling s ≡ result_ceiling s'
      ceiling_same =
          by_bit (fields s / 2 % 2) refl
          ∙ ap (λ (f : ℕ). if_present (f / 2 % 2) (signed32 (four_at s' (ceiling_at f))) (first_score (result_scores s'))) map_same
        where
          by_bit : (b : ℕ) → fields s / 2 % 2 ≡ b
              → if_present b (signed32 (four_at s (ceiling_at (fields s)))) (first_score (result_scores s))
              ≡ if_present b (signed32 (four_at s' (ceiling_at (fields s)))) (first_score (result_scores s'))
          by_bit zero e = ap first_score listed_same
          by_bit (suc b) e = ap signed32 (four_same (ceiling_at (fields s)) (omega arith))

-- ---- what the operator reader makes of it
faults_of : Seen → ℕ → List Fault
faults_of x lent =
    fault 13 (eqb x.long 0)
    ∷ fault 14 (ltb 3 x.map)
    ∷ fault 13 (ltb x.long 3)
    ∷ fault 1 (outside 2 10 x.m)
    ∷ fault 4 (outside 1 32 x.rows)
    ∷ fault 13 (not (eqb x.long (scores_at x.map + 4 * x.rows + x.rows * map_bytes (2 ^ x.m))))
    ∷ fault 22 (rising x.scores)
    ∷ fault 22 (eqb (x.map % 2) 1 && eqb x.frame 0)
    ∷ fault 22 (eqb (x.map / 2 % 2) 1 && le_z x.ceiling (first_score x.scores))
    ∷ room_fault x.rows lent
    ∷ []

pub reading_of : Seen → List ℤ → OperatorReading
reading_of x lent =
    settled (first (faults_of x (length lent)))
    (λ k. operator_reading (refused_result k) lent)
    (operator_reading (result_says x.m x.rows x.frame x.ceiling) (padded (pos 0) (length lent) x.scores))

pub by_seen : (s : List ℕ) (lent : List ℤ) → operator_outcome s lent ≡ reading_of (seen s) lent
unfolding operator_outcome operator_refusal operator_served reading_of faults_of
by_seen s lent = refl

-- ---- the customer reader beside it: it has the operator reader's conditions, and then two of its own
operator_numbers : (s : List ℕ) (scores : ℕ) → Numbered (operator_faults s scores)
operator_numbers s scores = next (next (next (next (next (next (next (next (next (next end)))))))))

module _ (s : List ℕ) (scores inputs : ℕ) where
  -- what the customer reader accepts the operator reader accepts
  pub customer_then_operator : 0 ≡ customer_refusal s scores inputs → 0 ≡ operator_refusal s scores
  unfolding customer_refusal operator_refusal
  customer_then_operator e =
      is_first (operator_faults s scores) 0
      (none_before (customer_last s inputs) (operator_numbers s scores) (of_first (customer_faults s scores inputs) 0 e))

  -- what the operator reader accepts the customer reader refuses only for the room of the rows or a packed bit past n
  pub operator_then_customer : 0 ≡ operator_refusal s scores → customer_refusal s scores inputs ≡ first (customer_last s inputs)
  unfolding customer_refusal operator_refusal
  operator_then_customer e =
      sym (first_after (operator_faults s scores) (customer_last s inputs) 0 e (operator_numbers s scores) refl (first (customer_last s inputs)) refl)

  -- a number by which the operator reader refuses is the customer reader's too
  pub refused_alike : (k : ℕ) → k ≡ operator_refusal s scores → (k ≡ 0 → ⊥) → k ≡ customer_refusal s scores inputs
  unfolding customer_refusal operator_refusal
  refused_alike k e n = first_before (operator_faults s scores) (customer_last s inputs) k e n

-- the scores at the front of what a reader leaves
listed : (s : List ℕ) (lent : ℕ) → take (row_count s) (padded (pos 0) lent (result_scores s)) ≡ result_scores s
listed s lent =
    let ys : List ℤ = result_scores s in
    take_at ys (replicate (lent - length ys) (pos 0)) (row_count s) (length_scores_from s (scores_at (fields s)) (row_count s))

-- where both readers accept they agree on m, row count, frame number and ceiling, and on the scores, however many were lent to either and
-- whatever these held
pub readers_agree : (s : List ℕ) (scores scores' : List ℤ) (inputs : List ℕ)
    → 0 ≡ customer_refusal s (length scores) (length inputs) → 0 ≡ operator_refusal s (length scores')
    → ((customer_outcome s scores inputs).answer ≡ (operator_outcome s scores').answer)
    × (take (row_count s) (customer_outcome s scores inputs).scores ≡ take (row_count s) (operator_outcome s scores').scores)
unfolding customer_served operator_served
readers_agree s scores scores' inputs c o =
    let a = sym (customer_served_lem s scores inputs c) in
    let b = operator_served_lem s scores' o in (
      ap (λ (r : CustomerReading). r.answer) a ∙ ap (λ (r : OperatorReading). r.answer) b,
      ap (λ (r : CustomerReading). take (row_count s) r.scores) a
          ∙ listed s (length scores)
          ∙ sym (listed s (length scores'))
          ∙ ap (λ (r : OperatorReading). take (row_count s) r.scores) b,
    )
