-- The calls of the two readers of result records, taken apart: what is known of a record that is not refused, and what each call comes to.
use Rattle.std.specs.Prelude.{◌≡◌, false, List, [], ◌∷◌, ◌++◌, ℕ, zero, suc, ◌+◌, ◌*◌, ◌≤◌, length, ℤ}
use Rattle.std.proofs.Math.Path.{refl}
use Rattle.std.proofs.Common.{sym, ap, ap₂, ◌∙◌, ltb-false}
use Rattle.spec.specs.Faults.{Fault, fault, first}
use Rattle.spec.specs.Refusals.{room_fault}
use Rattle.spec.specs.Record.{fields, exponent, positions}
use Rattle.spec.specs.ResultRecord.{scores_from, some_past, rising, row_count, result_end, result_scores, packed_part, zero_frame, low_ceiling, result_head_faults, result_shape_faults, result_value_faults, operator_faults, customer_faults, refused_result, operator_reading, operator_refusal, operator_served, operator_outcome, customer_reading, customer_refusal, customer_served, customer_outcome}
use Rattle.laws.specs.FirstFault.{First, none, later, of_first, Numbered, end, next, none_before, none_after, first_before, first_after, inside_of, same_of, settled_refused, settled_served}

pub length_scores_from : (s : List ℕ) (at n : ℕ) → length (scores_from s at n) ≡ n
unfolding scores_from
length_scores_from s at zero = refl
length_scores_from s at (suc n) = ap suc (length_scores_from s (at + 4) n)

module _ (s : List ℕ) where
  -- a record that no condition of its shape applies to
  pub record ShapedResult : Type 0 where
    pub known : fields s ≤ 3
    pub begun : 3 ≤ length s
    pub low : 2 ≤ exponent s
    pub high : exponent s ≤ 10
    pub some_rows : 1 ≤ row_count s
    pub few_rows : row_count s ≤ 32
    pub ends : length s ≡ result_end s

  pub shaped_result : First (result_shape_faults s) 0 → ShapedResult
  shaped_result (later _ (later f (later b (later m (later k (later e none)))))) =
      let i = inside_of 2 10 (exponent s) m in
      let j = inside_of 1 32 (row_count s) k in
      record {
        known = ltb-false 3 (fields s) f;
        begun = ltb-false (length s) 3 b;
        low = i.0;
        high = i.1;
        some_rows = j.0;
        few_rows = j.1;
        ends = same_of (length s) (result_end s) e;
      }

  -- nor one of its values
  pub record SoundResult : Type 0 where
    pub falling : rising (result_scores s) ≡ false
    pub frame_shown : zero_frame s ≡ false
    pub ceiling_shown : low_ceiling s ≡ false

  pub sound_result : First (result_value_faults s) 0 → SoundResult
  sound_result (later a (later b (later c none))) = record { falling = a; frame_shown = b; ceiling_shown = c }

  abbrev pub result_head_numbers : Numbered (result_head_faults s)
  result_head_numbers = next (next (next (next (next end))))

  abbrev pub result_shape_numbers : Numbered (result_shape_faults s)
  result_shape_numbers = next (next (next (next (next (next end)))))

  abbrev pub result_value_numbers : Numbered (result_value_faults s)
  result_value_numbers = next (next (next end))

  -- the conditions behind those of the shape
  abbrev pub operator_rest : ℕ → List Fault
  operator_rest scores = result_value_faults s ++ (room_fault (row_count s) scores ∷ [])

  abbrev pub customer_last : ℕ → List Fault
  customer_last inputs = room_fault (row_count s * positions s) inputs ∷ fault 21 (some_past (positions s) (row_count s) (packed_part s)) ∷ []

  abbrev pub customer_rest : ℕ → ℕ → List Fault
  customer_rest scores inputs = operator_rest scores ++ customer_last inputs

  abbrev pub operator_rest_numbers : (scores : ℕ) → Numbered (operator_rest scores)
  operator_rest_numbers scores = next (next (next (next end)))

  -- ---- the number is that of the shape, or else that of the rest
  module _ (scores : ℕ) where
    pub operator_shape : (k : ℕ) → k ≡ first (result_shape_faults s) → (k ≡ 0 → ⊥) → k ≡ operator_refusal s scores
    unfolding operator_refusal
    operator_shape k e n = first_before (result_shape_faults s) (operator_rest scores) k e n

    pub operator_behind : 0 ≡ first (result_shape_faults s) → (k : ℕ) → k ≡ first (operator_rest scores) → k ≡ operator_refusal s scores
    unfolding operator_refusal
    operator_behind e k f = first_after (result_shape_faults s) (operator_rest scores) 0 e result_shape_numbers refl k f

    -- a record that the operator reader accepts: there is room for its scores
    pub record OperatorAccepts : Type 0 where
      pub shaped : ShapedResult
      pub sound : SoundResult
      pub score_room : row_count s ≤ scores

    room_of : First (room_fault (row_count s) scores ∷ []) 0 → row_count s ≤ scores
    room_of (later a none) = ltb-false scores (row_count s) a

    accepts_of : First (result_shape_faults s) 0 → First (operator_rest scores) 0 → OperatorAccepts
    accepts_of f g = record {
      shaped = shaped_result f;
      sound = sound_result (none_before (room_fault (row_count s) scores ∷ []) result_value_numbers g);
      score_room = room_of (none_after result_value_numbers g);
    }

    pub operator_accepts : 0 ≡ operator_refusal s scores → OperatorAccepts
    unfolding operator_refusal
    operator_accepts e =
        let all = of_first (operator_faults s scores) 0 e in
        accepts_of (none_before (operator_rest scores) result_shape_numbers all) (none_after result_shape_numbers all)

    module _ (inputs : ℕ) where
      pub customer_shape : (k : ℕ) → k ≡ first (result_shape_faults s) → (k ≡ 0 → ⊥) → k ≡ customer_refusal s scores inputs
      unfolding customer_refusal
      customer_shape k e n = first_before (result_shape_faults s) (customer_rest scores inputs) k e n

      pub customer_behind : 0 ≡ first (result_shape_faults s) → (k : ℕ) → k ≡ first (customer_rest scores inputs) → k ≡ customer_refusal s scores inputs
      unfolding customer_refusal
      customer_behind e k f = first_after (result_shape_faults s) (customer_rest scores inputs) 0 e result_shape_numbers refl k f

      -- a record that the customer reader accepts: there is room for its rows too, and no bit is set past n
      pub record CustomerAccepts : Type 0 where
        pub as_operator : OperatorAccepts
        pub input_room : row_count s * positions s ≤ inputs
        pub clean : some_past (positions s) (row_count s) (packed_part s) ≡ false

      customer_of : OperatorAccepts → First (customer_last inputs) 0 → CustomerAccepts
      customer_of o (later a (later b none)) = record { as_operator = o; input_room = ltb-false inputs (row_count s * positions s) a; clean = b }

      pub customer_accepts : 0 ≡ customer_refusal s scores inputs → CustomerAccepts
      unfolding customer_refusal
      customer_accepts e =
          let all = of_first (customer_faults s scores inputs) 0 e in
          let rest = none_after result_shape_numbers all in
          customer_of
          (accepts_of (none_before (customer_rest scores inputs) result_shape_numbers all) (none_before (customer_last inputs) (operator_rest_numbers scores) rest))
          (none_after (operator_rest_numbers scores) rest)

  -- ---- a call of the operator reader
  module _ (scores : List ℤ) where
    pub operator_refused : (k : ℕ) → k ≡ operator_refusal s (length scores) → (k ≡ 0 → ⊥) → operator_reading (refused_result k) scores ≡ operator_outcome s scores
    unfolding operator_outcome
    operator_refused k e n =
        settled_refused (λ k. operator_reading (refused_result k) scores) (operator_served s (length scores)) k (operator_refusal s (length scores)) e n

    pub operator_served_lem : 0 ≡ operator_refusal s (length scores) → operator_served s (length scores) ≡ operator_outcome s scores
    unfolding operator_outcome
    operator_served_lem e =
        settled_served (λ k. operator_reading (refused_result k) scores) (operator_served s (length scores)) (operator_refusal s (length scores)) e

    -- where a condition applies, the answer is its number alone, and the scores are as before
    pub operator_writes_nothing : (operator_refusal s (length scores) ≡ 0 → ⊥)
        → operator_outcome s scores ≡ operator_reading (refused_result (operator_refusal s (length scores))) scores
    operator_writes_nothing x = sym (operator_refused (operator_refusal s (length scores)) refl x)

    -- ---- a call of the customer reader
    module _ (inputs : List ℕ) where
      abbrev number : ℕ
      number = customer_refusal s (length scores) (length inputs)

      pub customer_refused : (k : ℕ) → k ≡ number → (k ≡ 0 → ⊥) → customer_reading (refused_result k) scores inputs ≡ customer_outcome s scores inputs
      unfolding customer_outcome
      customer_refused k e n =
          settled_refused (λ k. customer_reading (refused_result k) scores inputs) (customer_served s (length scores) (length inputs)) k number e n

      pub customer_served_lem : 0 ≡ number → customer_served s (length scores) (length inputs) ≡ customer_outcome s scores inputs
      unfolding customer_outcome
      customer_served_lem e =
          settled_served (λ k. customer_reading (refused_result k) scores inputs) (customer_served s (length scores) (length inputs)) number e

      pub customer_writes_nothing : (number ≡ 0 → ⊥) → customer_outcome s scores inputs ≡ customer_reading (refused_result number) scores inputs
      customer_writes_nothing x = sym (customer_refused number refl x)

-- ---- what an accepted call gives does not depend on what the slices held
pub same_length_same_operator : (s : List ℕ) (scores scores' : List ℤ) → length scores ≡ length scores' → 0 ≡ operator_refusal s (length scores)
    → operator_outcome s scores ≡ operator_outcome s scores'
same_length_same_operator s scores scores' h e =
    sym (operator_served_lem s scores e) ∙ ap (operator_served s) h ∙ operator_served_lem s scores' (e ∙ ap (operator_refusal s) h)

pub same_length_same_customer : (s : List ℕ) (scores scores' : List ℤ) (inputs inputs' : List ℕ) → length scores ≡ length scores' → length inputs ≡ length inputs'
    → 0 ≡ customer_refusal s (length scores) (length inputs) → customer_outcome s scores inputs ≡ customer_outcome s scores' inputs'
same_length_same_customer s scores scores' inputs inputs' h k e =
    sym (customer_served_lem s scores inputs e) ∙ ap₂ (customer_served s) h k ∙ customer_served_lem s scores' inputs' (e ∙ ap₂ (customer_refusal s) h k)
