-- Each set of fields has one written form, and no record with those fields is shorter: 02, wish 2. No code is in scope: the theorems
-- are over the definitions.
--
-- The fields that the reader hands out for a record are `fields_in`. The written form of them, `written_record (fields_in s)`, is what every
-- call wrote whose record reads to the same fields.
use Rattle.std.proofs.Math.Path.{◌≡◌, refl, sym, ap}
use Rattle.std.proofs.Common.{◌∙◌, arith, ltb-false, take_at}
use Rattle.std.specs.Prelude.{Bool, false, take, get_or, ltb, ℤ}
use mathlib.Core.List.{List, [], ◌∷◌, ◌++◌}
use Prim.Native.Nat.{ℕ, zero, suc, ◌+◌, ◌*◌, ◌/◌, ◌%◌, ◌^◌, ◌≤◌, ◌<◌}
use Rattle.std.proofs.Math.ListN.{length}
use Rattle.spec.specs.Code.{Code, code, size, map_bytes}
use Rattle.spec.specs.Score.{taken}
use Rattle.spec.specs.Faults.{some, settled}
use Rattle.spec.specs.Record.{four_at, frame_at, if_present, fields, exponent, positions, list_size, stop_position, frame_number, pair_count, record_map, record_pairs, record_soft, soft_at, is_arikan, record_code}
use Rattle.spec.specs.RecordOf.{Content}
use Rattle.spec.specs.Outcome.{job, refused_job, Reading, reading, read_refusal, read_served, read_outcome, long, writing}
use Rattle.spec.specs.JobWriter.{Fields, fields_of, leanest, written_record, write_outcome}
use Rattle.laws.specs.FirstFault.{not_either}
use Rattle.laws.specs.Taken.{taken_twice}
use Rattle.laws.specs.WriteCall.{Writable}
use Rattle.laws.specs.WrittenForm.{value_back, code_back}
use Rattle.job_fields.specs.Laid.{Shaped, length_map, length_pairs}
use Rattle.job.specs.SoftValues.{length_soft}
use Rattle.job.specs.Calls.{accepted_record}
use Rattle.job.specs.ReadBack as built
use Rattle.job.specs.ReadBack.{above_byte}
use Rattle.job_round_trip.specs.WrittenBack.{valid_of, call_accepted, length_said, record_said}
use Rattle.job_round_trip.specs.NeverLonger.{fields_in, never_longer, read_writable}

-- fields with −2,047 for −2,048
abbrev pub handed : Fields → Fields
handed f = fields_of f.code f.list_size f.stop f.frame (taken f.soft)

same_fields : {c c' : Code} {l l' p p' q q' : ℕ} {y y' : List ℤ} → c ≡ c' → l ≡ l' → p ≡ p' → q ≡ q' → y ≡ y' → fields_of c l p q y ≡ fields_of c' l' p' q' y'
same_fields a b d e g = rw (a, b, d, e, g)

-- ---- what was written says the fields, and is the written form of what it says
pub handed_written : (f : Fields) → written_record (handed f) ≡ written_record f
unfolding written_record
handed_written f = rw (taken_twice f.soft)

module _ (f : Fields) (w : Writable f) (h : f.frame < 4294967296) where
  pub fields_back : fields_in (written_record f) ≡ handed f
  unfolding written_record
  fields_back =
      let c : Content = leanest f in
      let v = valid_of f w h in
      let t = built.head_of_lem c v in
      same_fields (built.code_back c v ∙ code_back f) (t.size_is ∙ value_back 4 f.list_size) (t.stop_is ∙ value_back (size f.code) f.stop)
      (t.frame_is ∙ value_back 0 f.frame) (ap taken (built.values_back c v) ∙ taken_twice f.soft)

  pub written_again : written_record (fields_in (written_record f)) ≡ written_record f
  written_again = ap written_record fields_back ∙ handed_written f

-- lists of one length with anything behind them
fronts : {A : Type 0} (a b c d : List A) → length a ≡ length b → a ++ c ≡ b ++ d → a ≡ b
fronts a b c d e g = sym (take_at a c (length a) refl) ∙ ap (take (length a)) g ∙ take_at b d (length a) (sym e)

-- ---- what the reader gave decides the fields: a reading of fields, in slices that it was lent
module _ (maps : List ℕ) (softs : List ℤ) (pairs : List ℕ) where
  abbrev number : List ℕ → ℕ
  number s = read_refusal s (length maps) (length softs) (length pairs)

  abbrev served : List ℕ → Reading
  served s = read_served s (length maps) (length softs) (length pairs)

  -- the reader gave fields, and not a number
  pub read_of : (s : List ℕ) {m l p f q : ℕ} {a : Bool} {x z : List ℕ} {y : List ℤ} → read_outcome s maps softs pairs ≡ reading (job m a l p f q) x y z
      → (0 ≡ read_refusal s (length maps) (length softs) (length pairs))
      × (read_served s (length maps) (length softs) (length pairs) ≡ reading (job m a l p f q) x y z)
  unfolding read_outcome
  read_of s {m} {l} {p} {f} {q} {a} {x} {z} {y} = by_number (number s) refl
    where
      by_number : (r : ℕ) → r ≡ number s → settled r (λ k. reading (refused_job k) maps softs pairs) (served s) ≡ reading (job m a l p f q) x y z
          → (0 ≡ number s) × (served s ≡ reading (job m a l p f q) x y z)
      by_number zero e o = (e, o)
      by_number (suc r) e o =
          let g : refused_job (suc r) ≡ job m a l p f q = ap (λ (w : Reading). w.answer) o in
          let n : ◌≡◌ {A = ℕ} 0 1 = cc in
          absurd (omega arith)

  -- two records of which it gave the same say the same fields
  served_same : (s t : List ℕ) → Shaped s → Shaped t → served s ≡ served t → fields_in s ≡ fields_in t
  unfolding read_served
  served_same s t ws wt e =
      let j : job (exponent s) (is_arikan s) (list_size s) (stop_position s) (frame_number s) (pair_count s)
      ≡ job (exponent t) (is_arikan t) (list_size t) (stop_position t) (frame_number t) (pair_count t) = ap (λ (w : Reading). w.answer) e in
      let jm : exponent s ≡ exponent t = cc in
      let ja : is_arikan s ≡ is_arikan t = cc in
      let jl : list_size s ≡ list_size t = cc in
      let jp : stop_position s ≡ stop_position t = cc in
      let jf : frame_number s ≡ frame_number t = cc in
      let jq : pair_count s ≡ pair_count t = cc in
      let n : positions s ≡ positions t = ap (λ (m : ℕ). 2 ^ m) jm in
      let em : record_map s ≡ record_map t
      = fronts (record_map s) (record_map t) _ _ (length_map ws ∙ ap map_bytes n ∙ sym (length_map wt)) (ap (λ (w : Reading). w.map) e) in
      let eq : record_pairs s ≡ record_pairs t
      = fronts (record_pairs s) (record_pairs t) _ _ (length_pairs ws ∙ ap (λ (k : ℕ). 4 * k) jq ∙ sym (length_pairs wt)) (ap (λ (w : Reading). w.pairs) e) in
      let ls : (r : List ℕ) → length (taken (record_soft r)) ≡ positions r = λ r. length_soft r (soft_at r) (positions r) in
      let es : taken (record_soft s) ≡ taken (record_soft t)
      = fronts (taken (record_soft s)) (taken (record_soft t)) _ _ (ls s ∙ n ∙ sym (ls t)) (ap (λ (w : Reading). w.soft) e) in
      same_fields (same_code jm ja em eq) jl jp jf es
    where
      same_code : {m m' : ℕ} {a a' : Bool} {x x' y y' : List ℕ} → m ≡ m' → a ≡ a' → x ≡ x' → y ≡ y' → code m a x y ≡ code m' a' x' y'
      same_code i p q r = rw (i, p, q, r)

  pub read_same : (s t : List ℕ) {m l p f q : ℕ} {a : Bool} {x z : List ℕ} {y : List ℤ}
      → read_outcome s maps softs pairs ≡ reading (job m a l p f q) x y z → read_outcome t maps softs pairs ≡ reading (job m a l p f q) x y z → fields_in s ≡ fields_in t
  read_same s t d e =
      let a = read_of s d in
      let b = read_of t e in
      served_same s t (shape s a.0) (shape t b.0) (a.1 ∙ sym b.1)
    where
      shape : (s : List ℕ) → 0 ≡ number s → Shaped s
      shape s e = (accepted_record s (length maps) (length softs) (length pairs) e).shaped

-- ---- of any record of bytes that is read: what is written of its fields says the same fields
byte_at_lem : (s : List ℕ) (i : ℕ) → above_byte s ≡ false → get_or s i 0 ≤ 255
unfolding some
byte_at_lem [] i e = omega arith
byte_at_lem (x ∷ s) zero e = ltb-false 255 x (not_either (ltb 255 x) (some (ltb 255) s) e).0
byte_at_lem (x ∷ s) (suc i) e = byte_at_lem s i (not_either (ltb 255 x) (some (ltb 255) s) e).1

frame_small : (s : List ℕ) → above_byte s ≡ false → frame_number s < 4294967296
frame_small s e = go (fields s / 4 % 2)
  where
    go : (b : ℕ) → if_present b (four_at s (frame_at (fields s))) 0 < 4294967296
    go zero = omega arith
    go (suc b) =
        let a = frame_at (fields s) in
        omega (arith, byte_at_lem s a e, byte_at_lem s (a + 1) e, byte_at_lem s (a + 2) e, byte_at_lem s (a + 2 + 1) e)

pub same_said : (s : List ℕ) (maps softs pairs : ℕ) → 0 ≡ read_refusal s maps softs pairs → above_byte s ≡ false
    → fields_in (written_record (fields_in s)) ≡ fields_in s
same_said s maps softs pairs r e =
    fields_back (fields_in s) (read_writable s maps softs pairs r) (frame_small s e)
    ∙ ap (fields_of (record_code s) (list_size s) (stop_position s) (frame_number s)) (taken_twice (record_soft s))

-- ---- the theorems, of calls that gave a length. f wrote the k first bytes of o
module _ (f : Fields) (out : List ℕ) {k : ℕ} {o : List ℕ} (e : write_outcome f out ≡ writing (long k) o) (h : f.frame < 4294967296) where
  -- what it wrote is a function of the fields that the reader gives of it
  pub form_of_read : take k o ≡ written_record (fields_in (take k o))
  form_of_read =
      let same = record_said f out e in
      same ∙ sym (written_again f (call_accepted f out e).0 h) ∙ ap (λ (s : List ℕ). written_record (fields_in s)) (sym same)

  module _ (maps : List ℕ) (softs : List ℤ) (pairs : List ℕ) {m l p fr q : ℕ} {a : Bool} {x z : List ℕ} {y : List ℤ}
      (told : read_outcome (take k o) maps softs pairs ≡ reading (job m a l p fr q) x y z) where
    -- a record that reads to the same: what was written is the form of its fields, and is never longer
    pub form_of_any : (s : List ℕ) → read_outcome s maps softs pairs ≡ reading (job m a l p fr q) x y z → take k o ≡ written_record (fields_in s)
    form_of_any s d = form_of_read ∙ ap written_record (read_same maps softs pairs (take k o) s told d)

    pub shortest : (s : List ℕ) → read_outcome s maps softs pairs ≡ reading (job m a l p fr q) x y z → k ≤ length s
    shortest s d =
        let t : length (written_record f) ≡ length (written_record (fields_in s)) = ap length (sym (record_said f out e) ∙ form_of_any s d) in
        omega (arith, length_said f out e, never_longer s (length maps) (length softs) (length pairs) (read_of maps softs pairs s d).0)

    -- another call whose record reads to the same wrote the same bytes
    pub one_form : (g : Fields) (out' : List ℕ) {k' : ℕ} {o' : List ℕ} → write_outcome g out' ≡ writing (long k') o' → g.frame < 4294967296
        → read_outcome (take k' o') maps softs pairs ≡ reading (job m a l p fr q) x y z → (k ≡ k') × (take k o ≡ take k' o')
    one_form g out' {k'} {o'} e' h' d =
        let g-again = written_again g (call_accepted g out' e').0 h' in
        let same : take k o ≡ take k' o'
        = form_of_any (take k' o') d ∙ ap (λ (s : List ℕ). written_record (fields_in s)) (record_said g out' e') ∙ g-again ∙ sym (record_said g out' e') in
        (sym (length_said f out e) ∙ ap length (sym (record_said f out e) ∙ same ∙ record_said g out' e') ∙ length_said g out' e', same)
