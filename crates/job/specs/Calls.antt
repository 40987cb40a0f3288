-- The call of the reader: what is known of a record that is not refused, and what the call comes to.
use Rattle.std.proofs.Math.Path.{◌≡◌, refl, ap}
use Rattle.std.specs.Prelude.{Bool, false, List, ◌++◌, length, ℤ}
use Prim.Native.Nat.{ℕ, zero, suc, ◌*◌, ◌≤◌}
use Rattle.std.proofs.Common.{arith, ltb-false}
use Rattle.spec.specs.Code.{map_bytes}
use Rattle.spec.specs.Faults.{first, settled, some}
use Rattle.spec.specs.Refusals.{out_of_range}
use Rattle.spec.specs.Record.{exponent, positions, pair_count, record_soft, shape_faults, field_faults}
use Rattle.spec.specs.Outcome.{Job, job, refused_job, Reading, reading, read_refusal, read_served, read_outcome}
use Rattle.laws.specs.FirstFault.{First, none, later, of_first, none_before, none_after, first_before, first_after, settled_refused, settled_served}
use Rattle.job_fields.specs.Laid.{Shaped}
use Rattle.job_refusals.specs.Shape.{shape_numbers, shaped_of}
use Rattle.job_refusals.specs.Conditions.{lent_faults, code_and_range_numbers}

-- an answer is its parts
pub same_job : {m m' l l' p p' f f' k k' : ℕ} {a a' : Bool} → m ≡ m' → a ≡ a' → l ≡ l' → p ≡ p' → f ≡ f' → k ≡ k'
    → job m a l p f k ≡ job m' a' l' p' f' k'
same_job g h i j q r = rw (g, h, i, j, q, r)

-- a reading is its answer and what the three slices hold
pub same_reading : {j j' : Job} {map map' : List ℕ} {soft soft' : List ℤ} {pairs pairs' : List ℕ} → j ≡ j' → map ≡ map' → soft ≡ soft' → pairs ≡ pairs'
    → reading j map soft pairs ≡ reading j' map' soft' pairs'
same_reading p q r t = rw (p, q, r, t)

module _ (s : List ℕ) where
  -- a record that is not refused: its shape is right, its soft values are in range, and the lent slices have room for it
  pub record AcceptedRecord (maps softs pairs : ℕ) : Type 0 where
    pub shaped : Shaped s
    pub range : some out_of_range (record_soft s) ≡ false
    pub map_room : map_bytes (positions s) ≤ maps
    pub soft_room : positions s ≤ softs
    pub pair_room : 4 * pair_count s ≤ pairs

  module _ (maps softs pairs : ℕ) where
    good : Shaped s → First (lent_faults s maps softs pairs) 0 → AcceptedRecord maps softs pairs
    good w (later a (later b (later d (later e none)))) = record {
      shaped = w;
      range = a;
      map_room = ltb-false maps (map_bytes (positions s)) b;
      soft_room = ltb-false softs (positions s) d;
      pair_room = ltb-false pairs (4 * pair_count s) e;
    }

    pub accepted_record : 0 ≡ read_refusal s maps softs pairs → AcceptedRecord maps softs pairs
    unfolding read_refusal
    accepted_record e =
        let all = of_first (shape_faults s ++ field_faults s maps softs pairs) 0 e in
        good (shaped_of s (none_before (field_faults s maps softs pairs) (shape_numbers s) all))
        (none_after (code_and_range_numbers s) (none_after (shape_numbers s) all))

    -- the number is that of the shape, or else that of the fields
    pub shape_refused : (k : ℕ) → k ≡ first (shape_faults s) → (k ≡ 0 → ⊥) → k ≡ read_refusal s maps softs pairs
    unfolding read_refusal
    shape_refused k e n = first_before (shape_faults s) (field_faults s maps softs pairs) k e n

    pub shape_passed : 0 ≡ first (shape_faults s) → (k : ℕ) → k ≡ first (field_faults s maps softs pairs) → k ≡ read_refusal s maps softs pairs
    unfolding read_refusal
    shape_passed e k f = first_after (shape_faults s) (field_faults s maps softs pairs) 0 e (shape_numbers s) refl k f

  -- a record that is refused, and one that is read
  module _ (map : List ℕ) (soft : List ℤ) (pairs : List ℕ) where
    abbrev number : ℕ
    number = read_refusal s (length map) (length soft) (length pairs)

    abbrev served : Reading
    served = read_served s (length map) (length soft) (length pairs)

    pub read_refused : (k : ℕ) → k ≡ number → (k ≡ 0 → ⊥) → reading (refused_job k) map soft pairs ≡ read_outcome s map soft pairs
    unfolding read_outcome
    read_refused k e n = settled_refused (λ k. reading (refused_job k) map soft pairs) served k number e n

    pub read_served_lem : 0 ≡ number → served ≡ read_outcome s map soft pairs
    unfolding read_outcome
    read_served_lem e = settled_served (λ k. reading (refused_job k) map soft pairs) served number e

    -- fields that were read: m is from 2 to 10, and there are at most 256 pairs
    pub read_limits : {m l p f k : ℕ} {a : Bool} {map' : List ℕ} {soft' : List ℤ} {pairs' : List ℕ}
        → reading (job m a l p f k) map' soft' pairs' ≡ read_outcome s map soft pairs → (2 ≤ m) × (m ≤ 10) × (k ≤ 256)
    unfolding read_outcome read_served
    read_limits {m} {l} {p} {f} {k} {a} {map'} {soft'} {pairs'} = by_number number refl
      where
        by_number : (r : ℕ) → r ≡ number → reading (job m a l p f k) map' soft' pairs' ≡ settled r (λ k. reading (refused_job k) map soft pairs) served
            → (2 ≤ m) × (m ≤ 10) × (k ≤ 256)
        by_number zero z e =
            let w = (accepted_record (length map) (length soft) (length pairs) z).shaped in
            let q : job m a l p f k ≡ served.answer = ap (λ (o : Reading). o.answer) e in
            let i : m ≡ exponent s = cc in
            let j : k ≡ pair_count s = cc in
            (omega (arith, w.low), omega (arith, w.high), omega (arith, w.few))
        by_number (suc r) z e =
            let q : job m a l p f k ≡ refused_job (suc r) = ap (λ (o : Reading). o.answer) e in
            let n : ◌≡◌ {A = ℕ} 0 1 = cc in
            absurd (omega arith)
