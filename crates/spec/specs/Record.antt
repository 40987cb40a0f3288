-- The job record, as a function on its bytes: 01, "Job record". Low byte first throughout.
use Rattle.std.specs.Prelude.{Bool, not, cond, List, [], ◌∷◌, ◌++◌, ℕ, zero, suc, ◌+◌, ◌*◌, ◌/◌, ◌%◌, ◌^◌, length, take, drop, get_or, ltb, eqb, ℤ, pos, ◌-ℤ◌}
use Rattle.spec.specs.Code.{Code, code, map_bytes, frozen}
use Rattle.spec.specs.Faults.{Fault, fault, outside, some}
use Rattle.spec.specs.Refusals.{past_end, out_of_range, pair_faults, room_fault}

-- the byte at a place, and numbers of two and four bytes
abbrev pub byte_at : List ℕ → ℕ → ℕ
byte_at s at = get_or s at 0

abbrev pub two_at : List ℕ → ℕ → ℕ
two_at s at = byte_at s at + 256 * byte_at s (at + 1)

abbrev pub four_at : List ℕ → ℕ → ℕ
four_at s at = two_at s at + 65536 * two_at s (at + 2)

-- a number below twice a half, read as a signed one: from the half on it lies below 0
abbrev pub signed_from : ℕ → ℕ → ℤ
signed_from half x = cond (ltb x half) (pos x) (pos x -ℤ pos (2 * half))

-- a number of 16 and of 32 bits
abbrev pub signed16 : ℕ → ℤ
signed16 x = signed_from 32768 x

abbrev pub signed32 : ℕ → ℤ
signed32 x = signed_from 2147483648 x

-- n signed numbers of two bytes from a place
unfoldable pub soft_from : List ℕ → ℕ → ℕ → List ℤ
soft_from s at zero = []
soft_from s at (suc n) = signed16 (two_at s at) ∷ soft_from s (at + 2) n

-- where each field begins, by byte 0, the map of fields: bit 0 list size, bit 1 stop position, bit 2 frame number, bit 3 pairs;
-- bit 4 is no field but the choice of the transform
abbrev pub stop_at : ℕ → ℕ
stop_at fields = 2 + fields % 2

abbrev pub frame_at : ℕ → ℕ
frame_at fields = stop_at fields + 2 * (fields / 2 % 2)

abbrev pub map_at : ℕ → ℕ
map_at fields = frame_at fields + 4 * (fields / 4 % 2)

-- a field whose bit stands, or what its absence means
abbrev pub if_present : {A : Type 0} → ℕ → A → A → A
if_present zero value absent = absent
if_present (suc b) value absent = value

module _ (s : List ℕ) where
  abbrev pub fields : ℕ
  fields = byte_at s 0

  abbrev pub exponent : ℕ
  exponent = byte_at s 1

  abbrev pub positions : ℕ
  positions = 2 ^ exponent

  abbrev pub list_size : ℕ
  list_size = if_present (fields % 2) (byte_at s 2) 4

  abbrev pub stop_position : ℕ
  stop_position = if_present (fields / 2 % 2) (two_at s (stop_at fields)) positions

  abbrev pub frame_number : ℕ
  frame_number = if_present (fields / 4 % 2) (four_at s (frame_at fields)) 0

  abbrev pub record_map : List ℕ
  record_map = take (map_bytes positions) (drop (map_at fields) s)

  -- behind the frozen map, where bit 3 stands, the number of pairs in two bytes, and four bytes for each: 02, wish 6
  abbrev pub count_at : ℕ
  count_at = map_at fields + map_bytes positions

  abbrev pub pairs_at : ℕ
  pairs_at = count_at + 2 * (fields / 8 % 2)

  abbrev pub pair_count : ℕ
  pair_count = if_present (fields / 8 % 2) (two_at s count_at) 0

  abbrev pub record_pairs : List ℕ
  record_pairs = take (4 * pair_count) (drop pairs_at s)

  -- bit 4 selects Arikan's transform: 02, wish 13
  abbrev pub is_arikan : Bool
  is_arikan = eqb (fields / 16 % 2) 1

  abbrev pub record_code : Code
  record_code = code exponent is_arikan record_map record_pairs

  abbrev pub soft_at : ℕ
  soft_at = pairs_at + 4 * pair_count

  abbrev pub record_soft : List ℤ
  record_soft = soft_from s soft_at positions

  -- 13 if empty, 14, 13 if one byte, 1, 13 if it ends before or inside the count, 15 for the count, 13 if not exactly as long as its
  -- fields need. Where bit 3 does not stand there is no count, and a record that ends before the soft values has both conditions 13.
  abbrev pub shape_faults : List Fault
  shape_faults =
      fault 13 (eqb (length s) 0)
      ∷ fault 14 (ltb 31 fields)
      ∷ fault 13 (eqb (length s) 1)
      ∷ fault 1 (outside 2 10 exponent)
      ∷ fault 13 (ltb (length s) pairs_at)
      ∷ fault 15 (ltb 256 pair_count)
      ∷ fault 13 (not (eqb (length s) (soft_at + 2 * positions)))
      ∷ []

  -- then 3, 15, 4, 5, 7, 10: the lent slices have `maps` bytes, `softs` numbers and `pairs` bytes
  abbrev pub field_faults : ℕ → ℕ → ℕ → List Fault
  field_faults maps softs pairs =
      (fault 3 (past_end positions record_map) ∷ pair_faults (frozen record_code) record_pairs)
      ++ (fault 4 (outside 1 32 list_size)
      ∷ fault 5 (ltb positions stop_position)
      ∷ fault 7 (some out_of_range record_soft)
      ∷ room_fault (map_bytes positions) maps
      ∷ room_fault positions softs
      ∷ room_fault (4 * pair_count) pairs
      ∷ [])
