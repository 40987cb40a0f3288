-- The sample record of 01, "The program's output", records that are refused, records with pairs (02, wish 6) and one with Arikan's
-- transform (02, wish 13), by the definitions.
use Rattle.std.specs.Prelude.{◌≡◌, refl, true, false, List, [], ◌∷◌, ◌++◌, map, ℕ, replicate, pos, negsuc}
use Rattle.spec.specs.Bits.{bits_of, unpacked}
use Rattle.spec.specs.Code.{frozen}
use Rattle.spec.specs.Faults.{first, some}
use Rattle.spec.specs.Refusals.{past_end}
use Rattle.spec.specs.Record.{soft_from}
use Rattle.spec.specs.Outcome.{reading, job, refused_job, read_refusal, read_served, read_outcome}
use Rattle.spec.specs.RecordExample.{sample}

-- read into slices of 2 bytes, 5 numbers and 1 byte
pub sample_read : read_outcome sample (9 ∷ 9 ∷ []) (pos 9 ∷ pos 9 ∷ pos 9 ∷ pos 9 ∷ pos 9 ∷ []) (9 ∷ [])
    ≡ reading (job 2 false 2 4 0 0) (3 ∷ 0 ∷ []) (pos 5 ∷ negsuc 2 ∷ pos 2 ∷ pos 7 ∷ pos 0 ∷ []) (0 ∷ [])
unfolding sample read_outcome read_refusal read_served first some past_end unpacked bits_of frozen soft_from
sample_read = refl

-- no room for the fourth value: the number, and all as before
pub sample_refused : read_outcome sample (9 ∷ []) (pos 9 ∷ pos 9 ∷ pos 9 ∷ []) (9 ∷ [])
    ≡ reading (refused_job 10) (9 ∷ []) (pos 9 ∷ pos 9 ∷ pos 9 ∷ []) (9 ∷ [])
unfolding sample read_outcome read_refusal read_served first some past_end unpacked bits_of frozen soft_from
sample_refused = refl

-- -2,048, 2,047, -2,047 and 7: -2,047 is handed out for the first
pub full_scale_read : read_outcome (0 ∷ 2 ∷ 3 ∷ 0 ∷ 248 ∷ 255 ∷ 7 ∷ 1 ∷ 248 ∷ 7 ∷ 0 ∷ []) (9 ∷ []) (pos 9 ∷ pos 9 ∷ pos 9 ∷ pos 9 ∷ []) []
    ≡ reading (job 2 false 4 4 0 0) (3 ∷ []) (negsuc 2046 ∷ pos 2047 ∷ negsuc 2046 ∷ pos 7 ∷ []) []
unfolding read_outcome read_refusal read_served first some past_end unpacked bits_of frozen soft_from
full_scale_read = refl

-- the number for a record of four positions with all fields, and room for it
abbrev pub number_for : List ℕ → ℕ
number_for s = read_refusal s 1 4 4

abbrev pub values : List ℕ
values = 5 ∷ 0 ∷ 253 ∷ 255 ∷ 2 ∷ 0 ∷ 7 ∷ 0 ∷ []

-- each condition of a record, in its order: empty; first byte 20 and 80 hex, of one byte and of two; one byte, 10 hex and 7; m = 1; one byte
-- too many; map 10 hex; list size 0 and 33; stop position 5; soft values -2,049 and 2,048; and records with nothing wrong, the first with -2,048
unfoldable pub records : List (List ℕ)
records =
    []
    ∷ (32 ∷ [])
    ∷ (128 ∷ [])
    ∷ (128 ∷ 1 ∷ [])
    ∷ (16 ∷ [])
    ∷ (7 ∷ [])
    ∷ (7 ∷ 1 ∷ [])
    ∷ ((7 ∷ 2 ∷ 0 ∷ 5 ∷ 0 ∷ 1 ∷ 2 ∷ 3 ∷ 4 ∷ 16 ∷ 9 ∷ []) ++ values)
    ∷ ((7 ∷ 2 ∷ 0 ∷ 5 ∷ 0 ∷ 1 ∷ 2 ∷ 3 ∷ 4 ∷ 16 ∷ []) ++ values)
    ∷ ((7 ∷ 2 ∷ 0 ∷ 5 ∷ 0 ∷ 1 ∷ 2 ∷ 3 ∷ 4 ∷ 15 ∷ []) ++ values)
    ∷ ((7 ∷ 2 ∷ 33 ∷ 5 ∷ 0 ∷ 1 ∷ 2 ∷ 3 ∷ 4 ∷ 15 ∷ []) ++ values)
    ∷ ((7 ∷ 2 ∷ 32 ∷ 5 ∷ 0 ∷ 1 ∷ 2 ∷ 3 ∷ 4 ∷ 15 ∷ []) ++ values)
    ∷ (7 ∷ 2 ∷ 32 ∷ 4 ∷ 0 ∷ 1 ∷ 2 ∷ 3 ∷ 4 ∷ 15 ∷ 5 ∷ 0 ∷ 253 ∷ 255 ∷ 2 ∷ 0 ∷ 255 ∷ 247 ∷ [])
    ∷ (7 ∷ 2 ∷ 32 ∷ 4 ∷ 0 ∷ 1 ∷ 2 ∷ 3 ∷ 4 ∷ 15 ∷ 5 ∷ 0 ∷ 253 ∷ 255 ∷ 2 ∷ 0 ∷ 0 ∷ 8 ∷ [])
    ∷ (7 ∷ 2 ∷ 32 ∷ 4 ∷ 0 ∷ 1 ∷ 2 ∷ 3 ∷ 4 ∷ 15 ∷ 5 ∷ 0 ∷ 253 ∷ 255 ∷ 2 ∷ 0 ∷ 0 ∷ 248 ∷ [])
    ∷ ((7 ∷ 2 ∷ 32 ∷ 4 ∷ 0 ∷ 1 ∷ 2 ∷ 3 ∷ 4 ∷ 15 ∷ []) ++ values)
    ∷ []

pub refused_in_order : map number_for records ≡ 13 ∷ 14 ∷ 14 ∷ 14 ∷ 13 ∷ 13 ∷ 1 ∷ 13 ∷ 3 ∷ 4 ∷ 4 ∷ 5 ∷ 7 ∷ 7 ∷ 0 ∷ 0 ∷ []
unfolding records read_refusal first some past_end unpacked bits_of frozen soft_from
refused_in_order = refl

-- ---- pairs: n = 4, frozen map 3, then what follows, then four soft values of 0
abbrev pub with_pairs : List ℕ → List ℕ
with_pairs pairs = 8 ∷ 2 ∷ 3 ∷ (pairs ++ replicate 8 0)

-- the pair (1, 0), written to a third slice of 5 bytes
pub pair_read : read_outcome (with_pairs (1 ∷ 0 ∷ 1 ∷ 0 ∷ 0 ∷ 0 ∷ [])) (9 ∷ []) (pos 9 ∷ pos 9 ∷ pos 9 ∷ pos 9 ∷ []) (9 ∷ 9 ∷ 9 ∷ 9 ∷ 9 ∷ [])
    ≡ reading (job 2 false 4 4 0 1) (3 ∷ []) (replicate 4 (pos 0)) (1 ∷ 0 ∷ 0 ∷ 0 ∷ 0 ∷ [])
unfolding read_outcome read_refusal read_served first some past_end unpacked bits_of frozen soft_from
pair_read = refl

-- and refused for want of room where that slice has three
pub third_slice : read_refusal (with_pairs (1 ∷ 0 ∷ 1 ∷ 0 ∷ 0 ∷ 0 ∷ [])) 1 4 3 ≡ 10
unfolding read_refusal first some past_end unpacked bits_of frozen soft_from
third_slice = refl

unfoldable pub paired : List (List ℕ)
paired =
    (8 ∷ [])  -- 13: one byte
    ∷ (8 ∷ 1 ∷ [])  -- 1
    ∷ (8 ∷ 2 ∷ 3 ∷ [])  -- 13: ends before the count
    ∷ (8 ∷ 2 ∷ 3 ∷ 1 ∷ [])  -- 13: ends inside the count
    ∷ (8 ∷ 2 ∷ 3 ∷ 1 ∷ 1 ∷ [])  -- 15: count 257, before the final length
    ∷ (8 ∷ 2 ∷ 3 ∷ 0 ∷ 1 ∷ [])  -- 13: count 256, no pair
    ∷ (8 ∷ 2 ∷ 19 ∷ 1 ∷ 0 ∷ [])  -- 13: count 1, no pair, and a map bit at n
    ∷ with_pairs (0 ∷ 0 ∷ [])  -- 0: no pair
    ∷ with_pairs (1 ∷ 0 ∷ 1 ∷ 0 ∷ 0 ∷ 0 ∷ [])  -- 0: the pair (1, 0)
    ∷ with_pairs (1 ∷ 0 ∷ 0 ∷ 0 ∷ 0 ∷ 0 ∷ [])  -- 15: e not below f
    ∷ with_pairs (1 ∷ 0 ∷ 2 ∷ 0 ∷ 0 ∷ 0 ∷ [])  -- 15: f not frozen
    ∷ with_pairs (1 ∷ 0 ∷ 1 ∷ 1 ∷ 0 ∷ 0 ∷ [])  -- 15: f past n
    ∷ with_pairs (2 ∷ 0 ∷ 1 ∷ 0 ∷ 0 ∷ 0 ∷ 1 ∷ 0 ∷ 0 ∷ 0 ∷ [])  -- 15: the same pair twice
    ∷ (8 ∷ 2 ∷ 19 ∷ 1 ∷ 0 ∷ 0 ∷ 0 ∷ 0 ∷ 0 ∷ replicate 8 0)  -- 3 before 15
    ∷ (9 ∷ 2 ∷ 0 ∷ 3 ∷ 1 ∷ 0 ∷ 0 ∷ 0 ∷ 0 ∷ 0 ∷ replicate 8 0)  -- 15 before 4
    ∷ []

pub pairs_in_order : map number_for paired ≡ 13 ∷ 1 ∷ 13 ∷ 13 ∷ 15 ∷ 13 ∷ 13 ∷ 0 ∷ 0 ∷ 15 ∷ 15 ∷ 15 ∷ 15 ∷ 3 ∷ 15 ∷ []
unfolding paired read_refusal first some past_end unpacked bits_of frozen soft_from
pairs_in_order = refl

-- ---- Arikan's transform, in a record of all fields: list size 2, stop position 3, frame 9, the pair (1, 0)
abbrev pub with_arikan : List ℕ
with_arikan = (31 ∷ 2 ∷ 2 ∷ 3 ∷ 0 ∷ 9 ∷ 0 ∷ 0 ∷ 0 ∷ 3 ∷ 1 ∷ 0 ∷ 1 ∷ 0 ∷ 0 ∷ 0 ∷ []) ++ values

pub arikan_read : read_outcome with_arikan (9 ∷ []) (replicate 4 (pos 9)) (replicate 4 9)
    ≡ reading (job 2 true 2 3 9 1) (3 ∷ []) (pos 5 ∷ negsuc 2 ∷ pos 2 ∷ pos 7 ∷ []) (1 ∷ 0 ∷ 0 ∷ 0 ∷ [])
unfolding read_outcome read_refusal read_served first some past_end unpacked bits_of frozen soft_from
arikan_read = refl
