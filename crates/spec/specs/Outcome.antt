-- What each call answers, and what every lent slice then holds, on refusal too. A refused call gives the number alone and leaves
-- all lent memory as before.
use Rattle.std.specs.Prelude.{Bool, List, [], ◌∷◌, ◌++◌, map, ℕ, ◌-◌, length, replicate, ℤ, pos}
use Rattle.spec.specs.Code.{Code, code_transform, encoded, extracted}
use Rattle.spec.specs.Score.{taken}
use Rattle.spec.specs.Decoder.{Row, rows, ceiling}
use Rattle.spec.specs.Faults.{first, settled}
use Rattle.spec.specs.Refusals.{Room, room, encode_faults, extract_faults, decode_faults}
use Rattle.spec.specs.Record.{exponent, is_arikan, list_size, stop_position, frame_number, record_map, record_soft, pair_count, record_pairs, shape_faults, field_faults}

-- a list at the front of a slice of n places, and z behind it
abbrev pub padded : {A : Type 0} → A → ℕ → List A → List A
padded z n xs = xs ++ replicate (n - length xs) z

-- ---- encoder and extractor: 0 or the refusal number, and the output
pub record Written : Type 0 where
  pub number : ℕ
  pub output : List ℕ

abbrev pub written : ℕ → List ℕ → Written
written k out = record { number = k; output = out }

unfoldable pub encode_refusal : Code → List ℕ → ℕ → ℕ
encode_refusal c payload lent = first (encode_faults c payload lent)

unfoldable pub encode_outcome : Code → List ℕ → List ℕ → Written
encode_outcome c payload out =
    settled (encode_refusal c payload (length out)) (λ k. written k out) (written 0 (padded 0 (length out) (encoded c payload)))

unfoldable pub extract_refusal : Code → List ℕ → ℕ → ℕ
extract_refusal c word lent = first (extract_faults c word lent)

unfoldable pub extract_outcome : Code → List ℕ → List ℕ → Written
extract_outcome c word out =
    settled (extract_refusal c word (length out)) (λ k. written k out) (written 0 (padded 0 (length out) (extracted c word)))

-- ---- decoder: the row count and the ceiling, or the refusal number, and the five lent slices
pub data Answer : Type 0 where
  decoded : ℕ → ℤ → Answer
  refused_by : ℕ → Answer

pub record Lent : Type 0 where
  pub numbers : List ℕ
  pub bytes : List ℕ
  pub inputs : List ℕ
  pub words : List ℕ
  pub scores : List ℤ

abbrev pub lent : List ℕ → List ℕ → List ℕ → List ℕ → List ℤ → Lent
lent a b i w s = record { numbers = a; bytes = b; inputs = i; words = w; scores = s }

abbrev pub room_of : Lent → Room
room_of x = room (length x.numbers) (length x.bytes) (length x.inputs) (length x.words) (length x.scores)

pub record Decoding : Type 0 where
  pub answer : Answer
  pub left : Lent

abbrev pub decoding : Answer → Lent → Decoding
decoding a x = record { answer = a; left = x }

abbrev pub concat : {A : Type 0} → List (List A) → List A
concat [] = []
concat (x ∷ xs) = x ++ concat xs

unfoldable pub decode_refusal : Code → ℕ → ℕ → List ℤ → Room → ℕ
decode_refusal c l p soft r = first (decode_faults c l p soft r)

-- rows with their ceiling, in slices of these lengths: the tables are 0, and the outputs hold the rows by rank and then 0
abbrev pub decoded_rows : Room → List Row → ℤ → Decoding
decoded_rows r rs top = decoding (decoded (length rs) top) (lent
    (replicate r.numbers 0)
    (replicate r.bytes 0)
    (padded 0 r.inputs (concat (map (λ (x : Row). x.input) rs)))
    (padded 0 r.words (concat (map (λ (x : Row). x.word) rs)))
    (padded (pos 0) r.scores (map (λ (x : Row). x.score) rs)))

-- a call that is served holds the rows of the paper decoder, which is fed the soft values as they are taken, and gives its ceiling
unfoldable pub decode_served : Code → ℕ → ℕ → List ℤ → Room → Decoding
decode_served c l p soft r = decoded_rows r (rows (code_transform c) c (taken soft) l p) (ceiling (code_transform c) c (taken soft) l p)

unfoldable pub decode_outcome : Code → ℕ → ℕ → List ℤ → Lent → Decoding
decode_outcome c l p soft x =
    settled (decode_refusal c l p soft (room_of x)) (λ k. decoding (refused_by k) x) (decode_served c l p soft (room_of x))

-- ---- record reader: m, whether the transform is Arikan's, list size, stop position, frame number and the number of pairs, or the refusal
-- number, and the three lent slices: the frozen map, the soft values as they are taken, and the pairs
pub data Job : Type 0 where
  job : ℕ → Bool → ℕ → ℕ → ℕ → ℕ → Job
  refused_job : ℕ → Job

pub record Reading : Type 0 where
  pub answer : Job
  pub map : List ℕ
  pub soft : List ℤ
  pub pairs : List ℕ

abbrev pub reading : Job → List ℕ → List ℤ → List ℕ → Reading
reading a map soft pairs = record { answer = a; map = map; soft = soft; pairs = pairs }

unfoldable pub read_refusal : List ℕ → ℕ → ℕ → ℕ → ℕ
read_refusal s maps softs pairs = first (shape_faults s ++ field_faults s maps softs pairs)

unfoldable pub read_served : List ℕ → ℕ → ℕ → ℕ → Reading
read_served s maps softs pairs = reading
    (job (exponent s) (is_arikan s) (list_size s) (stop_position s) (frame_number s) (pair_count s))
    (padded 0 maps (record_map s))
    (padded (pos 0) softs (taken (record_soft s)))
    (padded 0 pairs (record_pairs s))

unfoldable pub read_outcome : List ℕ → List ℕ → List ℤ → List ℕ → Reading
read_outcome s map soft pairs =
    settled (read_refusal s (length map) (length soft) (length pairs)) (λ k. reading (refused_job k) map soft pairs)
    (read_served s (length map) (length soft) (length pairs))

-- ---- record writers: the length of the record that was written, or the refusal number, and the output
pub data Length : Type 0 where
  long : ℕ → Length
  refused_length : ℕ → Length

pub record Writing : Type 0 where
  pub answer : Length
  pub output : List ℕ

abbrev pub writing : Length → List ℕ → Writing
writing a out = record { answer = a; output = out }
