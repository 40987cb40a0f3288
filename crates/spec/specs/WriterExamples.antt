-- Records that the job writer gives, and the order of its refusals, by the definitions: 02, wish 2. n = 4 throughout.
use Rattle.std.specs.Prelude.{◌≡◌, refl, Bool, true, false, List, [], ◌∷◌, map, ℕ, ◌+◌, length, replicate, ℤ, pos, negsuc}
use Rattle.spec.specs.Bits.{bits_of, unpacked}
use Rattle.spec.specs.Code.{Code, code, frozen}
use Rattle.spec.specs.Faults.{first, some}
use Rattle.spec.specs.Refusals.{past_end}
use Rattle.spec.specs.RecordOf.{record_of}
use Rattle.spec.specs.RecordExample.{sample}
use Rattle.spec.specs.Outcome.{long, refused_length, writing}
use Rattle.spec.specs.JobWriter.{Fields, fields_of, written_record, write_refusal, write_served, write_outcome}

-- 5, −3, 2, 7
unfoldable pub values : List ℤ
values = pos 5 ∷ negsuc 2 ∷ pos 2 ∷ pos 7 ∷ []

-- positions 0 and 1 frozen, and these pairs
abbrev pub with_pairs : List ℕ → Code
with_pairs pairs = code 2 false (3 ∷ []) pairs

-- list size 2, and no other field but the code and the values
unfoldable pub sample_fields : Fields
sample_fields = fields_of (with_pairs []) 2 4 0 values

-- the record of 01
pub sample_written : written_record sample_fields ≡ sample
unfolding sample_fields sample values written_record record_of
sample_written = refl

-- every optional field has the value that absence means: list size 4, stop position 4, frame 0, no pairs
abbrev pub barest : Bool → Fields
barest a = fields_of (code 2 a (3 ∷ []) []) 4 4 0 values

pub barest_long : map (λ (a : Bool). length (written_record (barest a))) (false ∷ true ∷ []) ≡ (2 + 1 + 8) ∷ (2 + 1 + 8) ∷ []
unfolding values written_record record_of
barest_long = refl

-- that with either transform; then every field with another value, −2,048 and −2,047 among the soft values
unfoldable pub jobs : List Fields
jobs =
    barest false
    ∷ barest true
    ∷ fields_of (with_pairs (1 ∷ 0 ∷ 0 ∷ 0 ∷ [])) 32 3 67305985 (pos 5 ∷ negsuc 2047 ∷ pos 2047 ∷ negsuc 2046 ∷ [])
    ∷ []

pub records : map written_record jobs
    ≡ (0 ∷ 2 ∷ 3 ∷ 5 ∷ 0 ∷ 253 ∷ 255 ∷ 2 ∷ 0 ∷ 7 ∷ 0 ∷ [])
    ∷ (16 ∷ 2 ∷ 3 ∷ 5 ∷ 0 ∷ 253 ∷ 255 ∷ 2 ∷ 0 ∷ 7 ∷ 0 ∷ [])
    ∷ (15 ∷ 2 ∷ 32 ∷ 3 ∷ 0 ∷ 1 ∷ 2 ∷ 3 ∷ 4 ∷ 3 ∷ 1 ∷ 0 ∷ 1 ∷ 0 ∷ 0 ∷ 0 ∷ 5 ∷ 0 ∷ 1 ∷ 248 ∷ 255 ∷ 7 ∷ 1 ∷ 248 ∷ [])
    ∷ []
unfolding jobs values written_record record_of
records = refl

-- fields of which more and more is right: 1, 2, 3, 15 (a part of a pair, f not frozen, e not below f), 4, 5, 6, 7, and none
unfoldable pub faulty : List Fields
faulty =
    fields_of (code 1 false [] (1 ∷ [])) 0 5 0 []
    ∷ fields_of (code 2 false [] (1 ∷ [])) 0 5 0 []
    ∷ fields_of (code 2 false (16 ∷ []) (1 ∷ [])) 0 5 0 []
    ∷ fields_of (with_pairs (1 ∷ [])) 0 5 0 []
    ∷ fields_of (with_pairs (2 ∷ 0 ∷ 0 ∷ 0 ∷ [])) 0 5 0 []
    ∷ fields_of (with_pairs (1 ∷ 0 ∷ 1 ∷ 0 ∷ [])) 0 5 0 []
    ∷ fields_of (with_pairs (1 ∷ 0 ∷ 0 ∷ 0 ∷ [])) 0 5 0 []
    ∷ fields_of (with_pairs []) 33 5 0 []
    ∷ fields_of (with_pairs []) 32 5 0 []
    ∷ fields_of (with_pairs []) 32 4 0 []
    ∷ fields_of (with_pairs []) 32 4 0 (negsuc 2048 ∷ pos 0 ∷ pos 0 ∷ pos 0 ∷ [])
    ∷ fields_of (with_pairs []) 32 4 0 (negsuc 2047 ∷ pos 0 ∷ pos 0 ∷ pos 0 ∷ [])
    ∷ []

pub refused_in_order : map (λ (f : Fields). write_refusal f 12) faulty ≡ 1 ∷ 2 ∷ 3 ∷ 15 ∷ 15 ∷ 15 ∷ 4 ∷ 4 ∷ 5 ∷ 6 ∷ 7 ∷ 0 ∷ []
unfolding faulty write_refusal written_record record_of first some past_end unpacked bits_of frozen
refused_in_order = refl

-- the sample needs 12 bytes: in 11 it is refused and nothing is written, in 14 there is 0 behind it
pub outcomes : map (write_outcome sample_fields) (replicate 11 9 ∷ replicate 14 9 ∷ [])
    ≡ writing (refused_length 10) (replicate 11 9)
    ∷ writing (long 12) (1 ∷ 2 ∷ 2 ∷ 3 ∷ 5 ∷ 0 ∷ 253 ∷ 255 ∷ 2 ∷ 0 ∷ 7 ∷ 0 ∷ 0 ∷ 0 ∷ [])
    ∷ []
unfolding sample_fields values write_outcome write_served write_refusal written_record record_of first some past_end unpacked bits_of frozen
outcomes = refl
