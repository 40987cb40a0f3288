-- A job record built from what it says: 01, "Job record"; 02, wishes 6 and 13. Low byte first throughout.
use Rattle.std.specs.Prelude.{Bool, cond, List, [], ◌∷◌, ◌++◌, ℕ, zero, suc, ◌+◌, ◌-◌, ◌*◌, ◌/◌, ◌%◌, length, ℤ, pos, negsuc}
use Rattle.spec.specs.Code.{Code, code, pairs_in}

-- a field that may be left out, and the value that it says or that its absence means
pub data Field : Type 0 where
  absent : Field
  present : ℕ → Field

abbrev pub value_or : ℕ → Field → ℕ
value_or absence absent = absence
value_or absence (present x) = x

-- the pairs, four bytes each, which may be left out where there are none, and may be announced where there are none
pub data PairField : Type 0 where
  unannounced : PairField
  announced : List ℕ → PairField

abbrev pub pairs_of : PairField → List ℕ
pairs_of unannounced = []
pairs_of (announced s) = s

-- what a record says: m, whether the transform is Arikan's, list size, stop position, frame number, frozen map, pairs and soft values
pub record Content : Type 0 where
  pub m : ℕ
  pub arikan : Bool
  pub size : Field
  pub stop : Field
  pub frame : Field
  pub map : List ℕ
  pub pairs : PairField
  pub soft : List ℤ

abbrev pub code_said : Content → Code
code_said c = code c.m c.arikan c.map (pairs_of c.pairs)

-- the k low bytes of a number
abbrev pub low_first : ℕ → ℕ → List ℕ
low_first zero x = []
low_first (suc k) x = x % 256 ∷ low_first k (x / 256)

-- the bit of a field in byte 0, that of the transform, and all of byte 0
abbrev pub field_bit : Field → ℕ
field_bit absent = 0
field_bit (present x) = 1

abbrev pub pair_bit : PairField → ℕ
pair_bit unannounced = 0
pair_bit (announced s) = 1

abbrev pub flag_bit : Bool → ℕ
flag_bit b = cond b 1 0

abbrev pub fields_byte : Content → ℕ
fields_byte c = field_bit c.size + 2 * field_bit c.stop + 4 * field_bit c.frame + 8 * pair_bit c.pairs + 16 * flag_bit c.arikan

-- the k bytes of a field that stands; the pairs behind their count of two bytes
abbrev pub field_bytes : ℕ → Field → List ℕ
field_bytes k absent = []
field_bytes k (present x) = low_first k x

abbrev pub pair_bytes : PairField → List ℕ
pair_bytes unannounced = []
pair_bytes (announced s) = low_first 2 (length (pairs_in s)) ++ s

-- the bits of a signed number in two's complement: −1 has all bits set, and is `top`
abbrev pub bits_under : ℕ → ℤ → ℕ
bits_under top (pos k) = k
bits_under top (negsuc k) = top - k

abbrev pub sixteen_bits : ℤ → ℕ
sixteen_bits y = bits_under 65535 y

abbrev pub thirty_two_bits : ℤ → ℕ
thirty_two_bits y = bits_under 4294967295 y

-- the bytes of all soft values
abbrev pub soft_bytes : List ℤ → List ℕ
soft_bytes [] = []
soft_bytes (y ∷ ys) = low_first 2 (sixteen_bits y) ++ soft_bytes ys

-- byte 0, m, and the fields that stand: list size 1 byte, stop position 2, frame number 4
abbrev pub head_of : ℕ → ℕ → Field → Field → Field → List ℕ
head_of b m l p f = b ∷ m ∷ (field_bytes 1 l ++ (field_bytes 2 p ++ field_bytes 4 f))

-- then the frozen map, the pairs and the soft values
unfoldable pub record_of : Content → List ℕ
record_of c =
    head_of (fields_byte c) c.m c.size c.stop c.frame ++ (c.map ++ (pair_bytes c.pairs ++ soft_bytes c.soft))
