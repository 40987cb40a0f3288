-- −2,048 is full scale: 02, wish 1. A record with it is read as the record with −2,047 in its place: the answer and the three slices, whether
-- it is refused or not.
use Rattle.std.specs.Prelude.{◌≡◌, Bool, true, false, ltb, eqb, length, take, drop, ℤ}
use Rattle.std.proofs.Math.Path.{refl, ap₂}
use Rattle.std.proofs.Common.{sym, ap, ◌∙◌, arith, ltb-true, ltb-false, eqb-true, length-append, length-take, length-drop, get_or-take, get_or-drop, get_or-append-add, ext_get_or}
use mathlib.Core.List.{List, ◌∷◌, ◌++◌}
use Prim.Native.Nat.{ℕ, zero, suc, ◌+◌, ◌-◌, ◌*◌, ◌/◌, ◌%◌, ◌^◌, ◌≤◌, ◌<◌, min}
use Rattle.std.proofs.lemmas.Bool.{eqb-false}
use Rattle.std.proofs.Math.ListN.{get_or-append}
use Rattle.std.proofs.Math.Seq.{get_or-append_seam}
use Rattle.spec.specs.Code.{map_bytes}
use Rattle.spec.specs.Score.{saturated, taken}
use Rattle.spec.specs.Faults.{settled, some}
use Rattle.spec.specs.Refusals.{out_of_range}
use Rattle.spec.specs.Record.{byte_at, two_at, four_at, signed16, soft_from, if_present, stop_at, frame_at, map_at, fields, exponent, positions, list_size, stop_position, frame_number, count_at, pairs_at, pair_count, record_map, record_pairs, is_arikan, soft_at, record_soft}
use Rattle.spec.specs.Outcome.{refused_job, Reading, reading, read_refusal, read_served, read_outcome}
use Rattle.laws.specs.FullScale.{range_alike}

-- ---- two records that agree up to the soft values, and whose soft values are taken alike
present_same : (b x y absent : ℕ) → (0 < b → x ≡ y) → if_present b x absent ≡ if_present b y absent
present_same zero x y absent e = refl
present_same (suc b) x y absent e = e (omega arith)

pub record Alike (s s' : List ℕ) : Type 0 where
  pub long : length s ≡ length s'
  pub begin : (j : ℕ) → j < soft_at s → byte_at s j ≡ byte_at s' j
  pub values : taken (record_soft s) ≡ taken (soft_from s' (soft_at s) (positions s))

module _ (s s' : List ℕ) (a : Alike s s') where
  fields_same : fields s ≡ fields s'
  fields_same = a.begin 0 (omega arith)

  transform_same : is_arikan s ≡ is_arikan s'
  transform_same = ap (λ (f : ℕ). eqb (f / 16 % 2) 1) fields_same

  exponent_same : exponent s ≡ exponent s'
  exponent_same = a.begin 1 (omega arith)

  size_same : list_size s ≡ list_size s'
  size_same =
      present_same (fields s % 2) (byte_at s 2) (byte_at s' 2) 4 (λ h. a.begin 2 (omega arith))
      ∙ ap (λ (f : ℕ). if_present (f % 2) (byte_at s' 2) 4) fields_same

  two_same : (at : ℕ) → at + 1 < soft_at s → two_at s at ≡ two_at s' at
  two_same at h = ap₂ (λ (x y : ℕ). x + 256 * y) (a.begin at (omega arith)) (a.begin (at + 1) h)

  stop_same : stop_position s ≡ stop_position s'
  stop_same =
      present_same (fields s / 2 % 2) (two_at s (stop_at (fields s))) (two_at s' (stop_at (fields s))) (positions s) (λ h. two_same (stop_at (fields s)) (omega arith))
      ∙ ap₂ (λ (f m : ℕ). if_present (f / 2 % 2) (two_at s' (stop_at f)) (2 ^ m)) fields_same exponent_same

  frame_same : frame_number s ≡ frame_number s'
  frame_same =
      let at : ℕ = frame_at (fields s) in
      present_same (fields s / 4 % 2) (four_at s at) (four_at s' at) 0
      (λ h. ap₂ (λ (x y : ℕ). x + 65536 * y) (two_same at (omega arith)) (two_same (at + 2) (omega arith)))
      ∙ ap (λ (f : ℕ). if_present (f / 4 % 2) (four_at s' (frame_at f)) 0) fields_same

  part_same : (at k : ℕ) → at + k ≤ soft_at s → take k (drop at s) ≡ take k (drop at s')
  part_same at k h =
      let long : (t : List ℕ) → length (take k (drop at t)) ≡ min k (length t - at) = λ t. length-take k (drop at t) ∙ ap (min k) (length-drop at t) in
      ext_get_or 0 (take k (drop at s)) (take k (drop at s')) (long s ∙ ap (λ (n : ℕ). min k (n - at)) a.long ∙ sym (long s'))
      (λ i hi. let below : i < k = omega (arith, long s) in
      get_or-take k (drop at s) i 0 below ∙ get_or-drop at s i 0 ∙ a.begin (at + i) (omega arith)
      ∙ sym (get_or-take k (drop at s') i 0 below ∙ get_or-drop at s' i 0))

  map_same : record_map s ≡ record_map s'
  map_same =
      part_same (map_at (fields s)) (map_bytes (positions s)) (omega arith)
      ∙ ap₂ (λ (f m : ℕ). take (map_bytes (2 ^ m)) (drop (map_at f) s')) fields_same exponent_same

  count_same : pair_count s ≡ pair_count s'
  count_same =
      present_same (fields s / 8 % 2) (two_at s (count_at s)) (two_at s' (count_at s)) 0 (λ h. two_same (count_at s) (omega arith))
      ∙ ap₂ (λ (f m : ℕ). if_present (f / 8 % 2) (two_at s' (map_at f + map_bytes (2 ^ m))) 0) fields_same exponent_same

  begin_same : pairs_at s ≡ pairs_at s'
  begin_same = ap₂ (λ (f m : ℕ). map_at f + map_bytes (2 ^ m) + 2 * (f / 8 % 2)) fields_same exponent_same

  pairs_same : record_pairs s ≡ record_pairs s'
  pairs_same =
      part_same (pairs_at s) (4 * pair_count s) (omega arith) ∙ ap₂ (λ (at k : ℕ). take (4 * k) (drop at s')) begin_same count_same

  soft_same : taken (record_soft s) ≡ taken (record_soft s')
  soft_same =
      let at : soft_at s ≡ soft_at s' = ap₂ (λ (at k : ℕ). at + 4 * k) begin_same count_same in
      a.values ∙ ap₂ (λ (at m : ℕ). taken (soft_from s' at (2 ^ m))) at exponent_same

  refusal_same : (maps softs pairs : ℕ) → read_refusal s maps softs pairs ≡ read_refusal s' maps softs pairs
  unfolding read_refusal
  refusal_same maps softs pairs =
      let range : some out_of_range (record_soft s) ≡ some out_of_range (record_soft s') = range_alike (record_soft s) (record_soft s') soft_same in
      cc (a.long, fields_same, exponent_same, size_same, stop_same, count_same, map_same, pairs_same, range)

  served_same : (maps softs pairs : ℕ) → read_served s maps softs pairs ≡ read_served s' maps softs pairs
  unfolding read_served
  served_same maps softs pairs = cc (exponent_same, transform_same, size_same, stop_same, frame_same, count_same, map_same, pairs_same, soft_same)

  pub read_alike : (map : List ℕ) (soft : List ℤ) (pairs : List ℕ) → read_outcome s map soft pairs ≡ read_outcome s' map soft pairs
  unfolding read_outcome
  read_alike map soft pairs =
      ap₂ (λ (k : ℕ) (o : Reading). settled k (λ j. reading (refused_job j) map soft pairs) o)
      (refusal_same (length map) (length soft) (length pairs)) (served_same (length map) (length soft) (length pairs))

-- ---- −2,048 is 00 F8, −2,047 is 01 F8, low byte first
module _ (a b : List ℕ) where
  -- a record that holds a value of two bytes, the second F8
  abbrev held : ℕ → List ℕ
  held low = a ++ low ∷ 248 ∷ b

  ahead : (j : ℕ) → j < length a → byte_at (held 0) j ≡ byte_at (held 1) j
  ahead j h = get_or-append a (0 ∷ 248 ∷ b) 0 j h ∙ sym (get_or-append a (1 ∷ 248 ∷ b) 0 j h)

  behind : (k : ℕ) → byte_at (held 0) (length a + suc k) ≡ byte_at (held 1) (length a + suc k)
  behind k = get_or-append-add a (0 ∷ 248 ∷ b) (suc k) 0 ∙ sym (get_or-append-add a (1 ∷ 248 ∷ b) (suc k) 0)

  -- every other byte is the same
  other : (j : ℕ) → (j ≡ length a → ⊥) → byte_at (held 0) j ≡ byte_at (held 1) j
  other j x = go (ltb j (length a)) refl
    where
      go : (t : Bool) → ltb j (length a) ≡ t → byte_at (held 0) j ≡ byte_at (held 1) j
      go true e = ahead j (ltb-true j (length a) e)
      go false e =
          let k : ℕ = j - length a - 1 in
          let at : length a + suc k ≡ j = omega (arith, ltb-false j (length a) e, x) in
          rw at at (behind k)

  -- the value there, and every other
  value : (at : ℕ) → (at + length a) % 2 ≡ 0 → saturated (signed16 (two_at (held 0) at)) ≡ saturated (signed16 (two_at (held 1) at))
  value at even = go (eqb at (length a)) refl
    where
      go : (t : Bool) → eqb at (length a) ≡ t → saturated (signed16 (two_at (held 0) at)) ≡ saturated (signed16 (two_at (held 1) at))
      go true e =
          let two : (low : ℕ) → two_at (held low) (length a) ≡ low + 256 * 248
          = λ low. ap₂ (λ (x y : ℕ). x + 256 * y) (get_or-append_seam a low (248 ∷ b) 0) (get_or-append-add a (low ∷ 248 ∷ b) 1 0) in
          rw (eqb-true at (length a) e) (ap (λ (z : ℕ). saturated (signed16 z)) (two 0) ∙ ap (λ (z : ℕ). saturated (signed16 z)) (sym (two 1)))
      go false e =
          ap₂ (λ (x y : ℕ). saturated (signed16 (x + 256 * y))) (other at (eqb-false at (length a) e)) (other (at + 1) (λ q. omega arith))

  values_alike : (n at : ℕ) → (at + length a) % 2 ≡ 0 → taken (soft_from (held 0) at n) ≡ taken (soft_from (held 1) at n)
  unfolding soft_from
  values_alike zero at even = refl
  values_alike (suc n) at even = ap₂ ◌∷◌ (value at even) (values_alike n (at + 2) (omega arith))

  -- A record whose soft value i is −2,048, and the same with −2,047 for it: one outcome, whatever the lent slices hold.
  pub full_scale_record : (i : ℕ) → length a ≡ soft_at (held 0) + 2 * i → (map : List ℕ) (soft : List ℤ) (pairs : List ℕ)
      → read_outcome (held 0) map soft pairs ≡ read_outcome (held 1) map soft pairs
  full_scale_record i e = read_alike (held 0) (held 1) record {
    long = length-append a (0 ∷ 248 ∷ b) ∙ sym (length-append a (1 ∷ 248 ∷ b));
    begin = λ j h. ahead j (omega arith);
    values = values_alike (positions (held 0)) (soft_at (held 0)) (omega arith);
  }
