-- A record that is built from what it says is read back to exactly that, soft values as they are taken, with any of its optional fields
-- standing or not, for either transform. No code is in scope: the theorem is over the definitions.
use Rattle.std.specs.Prelude.{◌≡◌, refl, Bool, ◌||◌, ltb, take, ℤ, pos}
use Rattle.std.proofs.Math.Path.{sym, ap, ap₂}
use Rattle.std.proofs.Common.{subst, ◌∙◌, arith, le-ltb, ne_eqb, drop_at}
use Rattle.std.proofs.Math.Bool.{false}
use mathlib.Core.List.{List, [], ◌∷◌, ◌++◌, append_assoc}
use Prim.Native.Nat.{ℕ, zero, suc, ◌+◌, ◌*◌, ◌/◌, ◌%◌, ◌^◌, ◌≤◌, ◌<◌}
use Rattle.std.proofs.Math.Dec.{eqb}
use Rattle.std.proofs.Math.ListN.{length, length-append}
use Rattle.std.proofs.Math.Seq.{take_at}
use Rattle.spec.specs.Code.{code, map_bytes, frozen, pairs_in}
use Rattle.spec.specs.Score.{taken}
use Rattle.spec.specs.Faults.{some}
use Rattle.spec.specs.Refusals.{out_of_range, code_faults}
use Rattle.spec.specs.Record.{soft_from, fields, list_size, stop_position, map_at, count_at, pairs_at, pair_count, is_arikan, record_code, soft_at, record_map, record_soft, shape_faults, field_faults}
use Rattle.spec.specs.RecordOf.{Field, absent, present, value_or, PairField, unannounced, announced, pairs_of, Content, code_said, low_first, field_bytes, fields_byte, pair_bytes, sixteen_bits, soft_bytes, head_of, record_of}
use Rattle.spec.specs.Outcome.{padded, reading, job, read_refusal, read_served, read_outcome}
use Rattle.laws.specs.FirstFault.{First, none, later, is_first, found_after, inside, same, not_either}
use Rattle.laws.specs.Accepted.{Accepted, no_fault, size_small}
use Rattle.laws.specs.Pairs.{pairs_long}
use Rattle.laws.specs.WrittenForm.{length_soft_bytes}
use Rattle.job_refusals.specs.Conditions.{record_code_faults, record_code_numbers}
use Rattle.job.specs.Calls.{same_job, same_reading, read_served_lem}
use Rattle.job.specs.RecordParts.{flag_back, bits_of, Headed, headed, Paired, paired, soft_back}

-- what a record may say: the ranges of 01 and 02
pub record Valid (c : Content) : Type 0 where
  pub accepts : Accepted (code_said c)
  pub some_rows : 1 ≤ value_or 4 c.size
  pub few_rows : value_or 4 c.size ≤ 32
  pub stops : value_or (2 ^ c.m) c.stop ≤ 2 ^ c.m
  pub counted : value_or 0 c.frame < 4294967296
  pub values : length c.soft ≡ 2 ^ c.m
  pub in_range : some out_of_range c.soft ≡ false

-- ---- the whole record
module _ (c : Content) where
  abbrev s : List ℕ
  s = record_of c

  abbrev head : List ℕ
  head = head_of (fields_byte c) c.m c.size c.stop c.frame

  abbrev rest : List ℕ
  rest = c.map ++ (pair_bytes c.pairs ++ soft_bytes c.soft)

  -- what stands before the soft values
  abbrev ahead : List ℕ
  ahead = (head ++ c.map) ++ pair_bytes c.pairs

  module _ (v : Valid c) where
    pub head_of_lem : Headed (fields_byte c) c.m c.size c.stop c.frame s
    unfolding record_of
    head_of_lem =
        let b = bits_of c in
        headed (fields_byte c) c.m c.size c.stop c.frame rest b.bit0 b.bit1 b.bit2
        (omega (arith, v.few_rows)) (omega (arith, v.stops, size_small v.accepts)) v.counted

    pairs_of_lem : Paired c.pairs (head ++ c.map) s
    unfolding record_of
    pairs_of_lem =
        let place : count_at s ≡ length (head ++ c.map) = omega (arith, length-append head c.map, head_of_lem.ends_at, v.accepts.bytes) in
        paired (frozen (code_said c)) c.pairs (head ++ c.map) (soft_bytes c.soft) s
        (sym (append_assoc head c.map (pair_bytes c.pairs ++ soft_bytes c.soft))) place (bits_of c).bit3 v.accepts.ruled

    in_two : s ≡ ahead ++ soft_bytes c.soft
    unfolding record_of
    in_two =
        sym (append_assoc head c.map (pair_bytes c.pairs ++ soft_bytes c.soft))
        ∙ sym (append_assoc (head ++ c.map) (pair_bytes c.pairs) (soft_bytes c.soft))

    soft_begins : soft_at s ≡ length ahead
    soft_begins = pairs_of_lem.ends_at ∙ sym (length-append (head ++ c.map) (pair_bytes c.pairs))

    long : length s ≡ soft_at s + 2 * 2 ^ c.m
    long =
        let e : length s ≡ length ahead + length (soft_bytes c.soft) = ap length in_two ∙ length-append ahead (soft_bytes c.soft) in
        omega (arith, soft_begins, v.values, length_soft_bytes c.soft)

    map_back : record_map s ≡ c.map
    unfolding record_of
    map_back =
        ap (take (map_bytes (2 ^ c.m))) (drop_at head rest (map_at (fields s)) head_of_lem.ends_at)
        ∙ take_at c.map (pair_bytes c.pairs ++ soft_bytes c.soft) (map_bytes (2 ^ c.m)) v.accepts.bytes

    transform_back : is_arikan s ≡ c.arikan
    unfolding record_of
    transform_back = ap (λ (b : ℕ). eqb b 1) (bits_of c).bit4 ∙ flag_back c.arikan

    pub code_back : record_code s ≡ code_said c
    unfolding record_of
    code_back = same_code transform_back map_back pairs_of_lem.pairs_are
      where
        same_code : {a a' : Bool} {u u' q q' : List ℕ} → a ≡ a' → u ≡ u' → q ≡ q' → code c.m a u q ≡ code c.m a' u' q'
        same_code i j k = rw (i, j, k)

    pub values_back : record_soft s ≡ c.soft
    unfolding record_of
    values_back =
        ap (soft_from s (soft_at s)) (sym v.values) ∙ ap₂ (λ (s : List ℕ) (at : ℕ). soft_from s at (length c.soft)) in_two soft_begins
        ∙ soft_back ahead c.soft v.in_range

    -- nothing is wrong with its code
    code_accepted : First (record_code_faults s) 0
    unfolding record_of
    code_accepted = behind (no_fault (subst Accepted (sym code_back) v.accepts))
      where
        behind : First (code_faults (record_code s)) 0 → First (record_code_faults s) 0
        behind (later _ (later _ f)) = f

    -- nor with the rest
    accepted : (maps softs pairs : ℕ) → map_bytes (2 ^ c.m) ≤ maps → 2 ^ c.m ≤ softs → 4 * pair_count s ≤ pairs → 0 ≡ read_refusal s maps softs pairs
    unfolding record_of read_refusal
    accepted maps softs pairs hm hs hp =
        let h = head_of_lem in
        let n : ℕ = 2 ^ c.m in
        let past_soft : some out_of_range (record_soft s) ≡ false = ap (some out_of_range) values_back ∙ v.in_range in
        let few : pair_count s ≤ 256 = omega (arith, pairs_of_lem.count_is, v.accepts.ruled.few) in
        is_first (shape_faults s ++ field_faults s maps softs pairs) 0
        (later (ne_eqb (length s) 0 (λ q. omega (arith, long)))
        (later (le-ltb 31 (fields s) (bits_of c).known)
        (later (ne_eqb (length s) 1 (λ q. omega (arith, long)))
        (later (inside 2 10 c.m v.accepts.low v.accepts.high)
        (later (le-ltb (length s) (pairs_at s) (omega (arith, long)))
        (later (le-ltb 256 (pair_count s) few)
        (later (same (length s) (soft_at s + 2 * n) long)
        (found_after (record_code_numbers s) code_accepted
        (later (inside 1 32 (list_size s) (omega (arith, h.size_is, v.some_rows)) (omega (arith, h.size_is, v.few_rows)))
        (later (le-ltb n (stop_position s) (omega (arith, h.stop_is, v.stops)))
        (later past_soft
        (later (le-ltb maps (map_bytes n) hm)
        (later (le-ltb softs n hs)
        (later (le-ltb pairs (4 * pair_count s) hp)
        none))))))))))))))

-- the theorem: with room for the map, the values and the pairs, the reader's outcome is what the record says, and 0 behind it
pub read_back : (c : Content) → Valid c → (map : List ℕ) (soft : List ℤ) (pairs : List ℕ) → map_bytes (2 ^ c.m) ≤ length map
    → 2 ^ c.m ≤ length soft → length (pairs_of c.pairs) ≤ length pairs
    → read_outcome (record_of c) map soft pairs
    ≡ reading
    (job c.m c.arikan (value_or 4 c.size) (value_or (2 ^ c.m) c.stop) (value_or 0 c.frame) (length (pairs_in (pairs_of c.pairs))))
    (padded 0 (length map) c.map)
    (padded (pos 0) (length soft) (taken c.soft))
    (padded 0 (length pairs) (pairs_of c.pairs))
unfolding record_of read_served
read_back c v map soft pairs hm hs hp =
    let h = head_of_lem c v in
    let q = pairs_of_lem c v in
    let room : 4 * pair_count (s c) ≤ length pairs = omega (arith, q.count_is, pairs_long (pairs_of c.pairs) v.accepts.ruled.whole) in
    sym (read_served_lem (s c) map soft pairs (accepted c v (length map) (length soft) (length pairs) hm hs room))
    ∙ same_reading (same_job refl (transform_back c v) h.size_is h.stop_is h.frame_is q.count_is) (ap (padded 0 (length map)) (map_back c v))
    (ap (λ (y : List ℤ). padded (pos 0) (length soft) (taken y)) (values_back c v)) (ap (padded 0 (length pairs)) q.pairs_are)

-- ---- what is built from a map and pairs of bytes is bytes, so that a slice can hold it: no element is above 255
abbrev pub above_byte : List ℕ → Bool
above_byte = some (ltb 255)

some_append : (p : ℕ → Bool) (xs ys : List ℕ) → some p xs ≡ false → some p ys ≡ false → some p (xs ++ ys) ≡ false
unfolding some
some_append p [] ys a b = b
some_append p (x ∷ xs) ys a b =
    let r = not_either (p x) (some p xs) a in
    ap₂ ◌||◌ r.0 (some_append p xs ys r.1 b)

low_first_bytes : (k x : ℕ) → above_byte (low_first k x) ≡ false
unfolding some
low_first_bytes zero x = refl
low_first_bytes (suc k) x = ap₂ ◌||◌ (le-ltb 255 (x % 256) (omega arith)) (low_first_bytes k (x / 256))

field_bytes_lem : (k : ℕ) (f : Field) → above_byte (field_bytes k f) ≡ false
unfolding some
field_bytes_lem k absent = refl
field_bytes_lem k (present x) = low_first_bytes k x

pair_bytes_lem : (q : PairField) → above_byte (pairs_of q) ≡ false → above_byte (pair_bytes q) ≡ false
unfolding some
pair_bytes_lem unannounced e = refl
pair_bytes_lem (announced s) e = some_append (ltb 255) (low_first 2 (length (pairs_in s))) s (low_first_bytes 2 (length (pairs_in s))) e

soft_bytes_lem : (ys : List ℤ) → above_byte (soft_bytes ys) ≡ false
unfolding some
soft_bytes_lem [] = refl
soft_bytes_lem (y ∷ ys) = some_append (ltb 255) (low_first 2 (sixteen_bits y)) (soft_bytes ys) (low_first_bytes 2 (sixteen_bits y)) (soft_bytes_lem ys)

pub record_bytes : (c : Content) → c.m ≤ 10 → above_byte c.map ≡ false → above_byte (pairs_of c.pairs) ≡ false → above_byte (record_of c) ≡ false
unfolding record_of some
record_bytes c h e q =
    let known : fields_byte c ≤ 255 = omega (arith, (bits_of c).known) in
    let stand : above_byte (field_bytes 1 c.size ++ (field_bytes 2 c.stop ++ field_bytes 4 c.frame)) ≡ false
    = some_append (ltb 255) (field_bytes 1 c.size) (field_bytes 2 c.stop ++ field_bytes 4 c.frame) (field_bytes_lem 1 c.size)
    (some_append (ltb 255) (field_bytes 2 c.stop) (field_bytes 4 c.frame) (field_bytes_lem 2 c.stop) (field_bytes_lem 4 c.frame)) in
    some_append (ltb 255) (head c) (rest c)
    (ap₂ ◌||◌ (le-ltb 255 (fields_byte c) known) (ap₂ ◌||◌ (le-ltb 255 c.m (omega arith)) stand))
    (some_append (ltb 255) c.map (pair_bytes c.pairs ++ soft_bytes c.soft) e
    (some_append (ltb 255) (pair_bytes c.pairs) (soft_bytes c.soft) (pair_bytes_lem c.pairs q) (soft_bytes_lem c.soft)))
