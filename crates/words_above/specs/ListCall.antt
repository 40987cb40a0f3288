-- The call that lists the words at a mark: what it answers, what it leaves of the memory that was lent, and what that depends on. These
-- follow from `list_outcome`.
use Rattle.std.specs.Prelude.{◌≡◌, Bool, cond, ◌||◌, List, [], ◌∷◌, length, replicate, ltb, eqb, ℤ}
use Rattle.std.proofs.Math.Path.{refl, sym, ap}
use Rattle.std.proofs.Common.{◌∙◌, arith, le-ltb}
use Rattle.std.proofs.Math.Bool.{true, false}
use Rattle.std.proofs.lemmas.Bool.{false≢true, eqb-false}
use Prim.Native.Nat.{ℕ, zero, suc, ◌≤◌}
use Rattle.spec.specs.Code.{Code}
use Rattle.spec.specs.Decoder.{Row}
use Rattle.spec.specs.Faults.{Fault, fault, settled}
use Rattle.spec.specs.Refusals.{Room}
use Rattle.spec.specs.Outcome.{Lent, room_of}
use Rattle.spec.specs.WordList.{list_faults, list_refusal, Count, counted, refused_count, Listing, listing, listed_rows, crowded, list_served, list_outcome}
use Rattle.laws.specs.FirstFault.{First, none, here, later, of_first, not_either, settled_served}
use Rattle.words_above.specs.ListedWords.{listed}

-- what a host gets: the answer and the three outputs
pub record Received : Type 0 where
  pub answer : Count
  pub inputs : List ℕ
  pub words : List ℕ
  pub scores : List ℤ

abbrev pub received : Listing → Received
received o = record { answer = o.answer; inputs = o.left.inputs; words = o.left.words; scores = o.left.scores }

-- outputs that are equally long
pub record AsLong (x x' : Lent) : Type 0 where
  pub inputs : length x.inputs ≡ length x'.inputs
  pub words : length x.words ≡ length x'.words
  pub scores : length x.scores ≡ length x'.scores

-- outputs that hold the same
pub record SameOutputs (x x' : Lent) : Type 0 where
  pub inputs : x.inputs ≡ x'.inputs
  pub words : x.words ≡ x'.words
  pub scores : x.scores ≡ x'.scores

-- not refused by any of the numbers that come before 19
abbrev pub AcceptedList : Code → List ℤ → Lent → Type 0
AcceptedList c soft x = list_refusal c soft (room_of x) ≡ 0

-- ---- 19 is the number of none of the conditions that come before it
-- a condition with the number k stands in a table
abbrev has_number : ℕ → List Fault → Bool
has_number k [] = false
has_number k (fault j b ∷ fs) = eqb j k || has_number k fs

never_first : (k : ℕ) {fs : List Fault} → has_number k fs ≡ false → First fs k → k ≡ 0
never_first k h none = refl
never_first k h (here {fs = fs} e) = absurd (eqb-false k k (not_either (eqb k k) (has_number k fs) h).0 refl)
never_first k h (later {k = j} {fs = fs} e f) = never_first k (not_either (eqb j k) (has_number k fs) h).1 f

never_19_before : (c : Code) (soft : List ℤ) (r : Room) → list_refusal c soft r ≡ 19 → ⊥
unfolding list_refusal
never_19_before c soft r e = omega (arith, never_first 19 refl (of_first (list_faults c soft r) 19 (sym e)))

-- ---- answers
-- the number of a refusal; 0 where words were counted
abbrev number_of : Count → ℕ
number_of (counted k) = 0
number_of (refused_count k) = k

abbrev is_refusal : Count → Bool
is_refusal (counted k) = false
is_refusal (refused_count k) = true

not_both : (j k : ℕ) → counted j ≡ refused_count k → ⊥
not_both j k e = false≢true (ap is_refusal e)

module _ (c : Code) (mark : ℤ) (soft : List ℤ) where
  abbrev pub outcome : Lent → Listing
  outcome = list_outcome c mark soft

  -- the scores have fewer places than there are words
  abbrev pub too_many : Lent → Bool
  too_many x = ltb (length x.scores) (length (listed c soft mark))

  -- what a call comes to that is not refused before 19, by whether there are too many words
  abbrev by : Bool → Lent → Listing
  by b x = cond b (crowded x) (listed_rows (room_of x) (listed c soft mark))

  accepted_is : (x : Lent) → AcceptedList c soft x → outcome x ≡ by (too_many x) x
  unfolding list_outcome list_served
  accepted_is x a = sym (settled_served (λ k. listing (refused_count k) x) (list_served c mark soft x) (list_refusal c soft (room_of x)) (sym a))

  -- its answer
  abbrev answer_if : Bool → Count
  answer_if b = cond b (refused_count 19) (counted (length (listed c soft mark)))

  answer_by : (b : Bool) (x : Lent) → (by b x).answer ≡ answer_if b
  answer_by true x = refl
  answer_by false x = refl

  accepted_answer : (x : Lent) → AcceptedList c soft x → (outcome x).answer ≡ answer_if (too_many x)
  accepted_answer x a = ap (λ (o : Listing). o.answer) (accepted_is x a) ∙ answer_by (too_many x) x

  -- ---- the theorems
  -- For a call that is not refused before: the answer is 19 exactly where the scores have fewer places than there are words.
  pub crowded_exactly : (x : Lent) → AcceptedList c soft x
      → ((outcome x).answer ≡ refused_count 19 → too_many x ≡ true) × (too_many x ≡ true → (outcome x).answer ≡ refused_count 19)
  crowded_exactly x a = (λ e. only (too_many x) (sym (accepted_answer x a) ∙ e), λ e. accepted_answer x a ∙ ap answer_if e)
    where
      only : (b : Bool) → answer_if b ≡ refused_count 19 → b ≡ true
      only true e = refl
      only false e = absurd (not_both (length (listed c soft mark)) 19 e)

  -- Where they have the places, it is how many words there are.
  pub words_counted : (x : Lent) → AcceptedList c soft x → length (listed c soft mark) ≤ length x.scores → (outcome x).answer ≡ counted (length (listed c soft mark))
  words_counted x a h = accepted_answer x a ∙ ap answer_if (le-ltb (length x.scores) (length (listed c soft mark)) h)

  -- So where no word is listed the call is served, with room for none too.
  pub room_0_served : (x : Lent) → AcceptedList c soft x → listed c soft mark ≡ [] → (outcome x).answer ≡ counted 0
  room_0_served x a e = words_counted x a (omega (arith, ap length e)) ∙ ap (λ (rs : List Row). counted (length rs)) e

  -- A call that answers 19 was not refused before.
  pub crowded_is_accepted : (x : Lent) → (outcome x).answer ≡ refused_count 19 → AcceptedList c soft x
  unfolding list_outcome
  crowded_is_accepted x e = go (list_refusal c soft (room_of x)) refl e
    where
      go : (k : ℕ) → list_refusal c soft (room_of x) ≡ k → (settled k (λ j. listing (refused_count j) x) (list_served c mark soft x)).answer ≡ refused_count 19 → k ≡ 0
      go zero r e = refl
      go (suc k) r e = absurd (never_19_before c soft (room_of x) (r ∙ ap number_of e))

  -- With 19 the outputs are as they were.
  pub crowded_leaves_outputs : (x : Lent) → (outcome x).answer ≡ refused_count 19 → SameOutputs (outcome x).left x
  crowded_leaves_outputs x e =
      let a : AcceptedList c soft x = crowded_is_accepted x e in
      let is : outcome x ≡ crowded x = accepted_is x a ∙ ap (λ (b : Bool). by b x) ((crowded_exactly x a).0 e) in
      record {
        inputs = ap (λ (o : Listing). o.left.inputs) is;
        words = ap (λ (o : Listing). o.left.words) is;
        scores = ap (λ (o : Listing). o.left.scores) is;
      }

  -- After a call that is not refused before 19 both tables are 0 to their last place, with 19 too: they hold nothing of it.
  pub tables_left_zero : (x : Lent) → AcceptedList c soft x
      → ((outcome x).left.numbers ≡ replicate (length x.numbers) 0) × ((outcome x).left.bytes ≡ replicate (length x.bytes) 0)
  tables_left_zero x a =
      (ap (λ (o : Listing). o.left.numbers) (accepted_is x a) ∙ numbers (too_many x), ap (λ (o : Listing). o.left.bytes) (accepted_is x a) ∙ bytes (too_many x))
    where
      numbers : (b : Bool) → (by b x).left.numbers ≡ replicate (length x.numbers) 0
      numbers true = refl
      numbers false = refl

      bytes : (b : Bool) → (by b x).left.bytes ≡ replicate (length x.bytes) 0
      bytes true = refl
      bytes false = refl

  -- A call that is refused by another number than 19 leaves everything that it was lent as it was.
  pub refused_writes_nothing : (x : Lent) (k : ℕ) → (outcome x).answer ≡ refused_count k → (k ≡ 19 → ⊥) → (outcome x).left ≡ x
  unfolding list_outcome list_served
  refused_writes_nothing x k e n = go (list_refusal c soft (room_of x)) e
    where
      other : (b : Bool) → (by b x).answer ≡ refused_count k → ⊥
      other true e = n (sym (ap number_of e))
      other false e = not_both (length (listed c soft mark)) k e

      go : (r : ℕ) → (settled r (λ j. listing (refused_count j) x) (list_served c mark soft x)).answer ≡ refused_count k
          → (settled r (λ j. listing (refused_count j) x) (list_served c mark soft x)).left ≡ x
      go zero e = absurd (other (too_many x) e)
      go (suc r) e = refl

  -- Whether a call is refused, and its answer, depend on the lengths of what is lent and not on what that holds.
  pub same_lengths_same_answer : (x x' : Lent) → room_of x ≡ room_of x' → (outcome x).answer ≡ (outcome x').answer
  unfolding list_outcome list_served
  same_lengths_same_answer x x' e = answer_of_lem (list_refusal c soft (room_of x)) x ∙ ap answer_at e ∙ sym (answer_of_lem (list_refusal c soft (room_of x')) x')
    where
      answer_at : Room → Count
      answer_at r = settled (list_refusal c soft r) refused_count (answer_if (ltb r.scores (length (listed c soft mark))))

      answer_of_lem : (k : ℕ) (x : Lent) → (settled k (λ j. listing (refused_count j) x) (list_served c mark soft x)).answer ≡ settled k refused_count (answer_if (too_many x))
      answer_of_lem zero x = answer_by (too_many x) x
      answer_of_lem (suc k) x = refl

  -- ---- what two calls can see of each other
  alike : (x x' : Lent) → AsLong x x' → AcceptedList c soft x → AcceptedList c soft x' → (too_many x ≡ true → SameOutputs x x') → received (outcome x) ≡ received (outcome x')
  alike x x' long a a' same =
      ap received (accepted_is x a)
      ∙ either (too_many x) same
      ∙ ap (λ (k : ℕ). received (by (ltb k (length (listed c soft mark))) x')) long.scores
      ∙ ap received (sym (accepted_is x' a'))
    where
      either : (b : Bool) → (b ≡ true → SameOutputs x x') → received (by b x) ≡ received (by b x')
      either true s = let q = s refl in rw (q.inputs, q.words, q.scores)
      either false s = rw (long.inputs, long.words, long.scores)

  -- Two calls that are not refused, not by 19 either, that agree on code, mark and soft values, and whose outputs are equally long, give the same
  -- answer and the same outputs, whatever tables were lent and whatever tables and outputs held before.
  pub same_block_same_words : (x x' : Lent) → AsLong x x' → AcceptedList c soft x → AcceptedList c soft x' → ((outcome x).answer ≡ refused_count 19 → ⊥)
      → received (outcome x) ≡ received (outcome x')
  same_block_same_words x x' long a a' n = alike x x' long a a' (λ e. absurd (n ((crowded_exactly x a).1 e)))

  -- With outputs that hold the same it is so with 19 too.
  pub same_outputs_same_words : (x x' : Lent) → SameOutputs x x' → AcceptedList c soft x → AcceptedList c soft x' → received (outcome x) ≡ received (outcome x')
  same_outputs_same_words x x' same a a' =
      alike x x' (record { inputs = ap length same.inputs; words = ap length same.words; scores = ap length same.scores }) a a' (λ e. same)
