-- What each call is refused for, in the order of 01, "Codes for a call not served". Lent outputs count by their lengths.
use Rattle.std.specs.Prelude.{Bool, false, not, ◌&&◌, ◌||◌, List, [], ◌∷◌, ◌++◌, ℕ, ◌+◌, ◌*◌, ◌%◌, length, drop, get_or, ltb, eqb, ℤ, pos, negsuc}
use Rattle.std.specs.Int.Signed.{lt_z}
use Rattle.spec.specs.Bits.{unpacked}
use Rattle.spec.specs.Code.{Code, size, map_bytes, frozen, payload_size, Pair, pairs_in, broken, input_of}
use Rattle.spec.specs.Faults.{Fault, fault, outside, some}

-- a map bit is set at or past n
unfoldable pub past_end : ℕ → List ℕ → Bool
past_end n map = some (ltb 0) (drop n (unpacked map))

-- a soft value is out of range: below −2,048 or above 2,047
abbrev pub out_of_range : ℤ → Bool
out_of_range y = lt_z y (negsuc 2047) || lt_z (pos 2047) y

-- ---- 15: 02, wish 6
-- f is not frozen, or e is not below f; a position at or past n is not frozen
abbrev pub wrong_pair : List ℕ → Pair → Bool
wrong_pair flags p = eqb (get_or flags p.f 0) 0 || not (ltb p.e p.f)

-- rising by f, then by e
abbrev pub before : Pair → Pair → Bool
before p q = ltb p.f q.f || (eqb p.f q.f && ltb p.e q.e)

abbrev pub not_rising : List Pair → Bool
not_rising [] = false
not_rising (p ∷ []) = false
not_rising (p ∷ q ∷ ps) = not (before p q) || not_rising (q ∷ ps)

-- a part of a pair, a count above 256, a pair that breaks the rules; the flags are those of the n positions
abbrev pub pair_faults : List ℕ → List ℕ → List Fault
pair_faults flags pairs =
    fault 15 (not (eqb (length pairs % 4) 0))
    ∷ fault 15 (ltb 256 (length (pairs_in pairs)))
    ∷ fault 15 (some (wrong_pair flags) (pairs_in pairs) || not_rising (pairs_in pairs))
    ∷ []

-- 1 to 3 and 15, which every call on a code has
abbrev pub code_faults : Code → List Fault
code_faults c =
    fault 1 (outside 2 10 c.m)
    ∷ fault 2 (not (eqb (length c.map) (map_bytes (size c))))
    ∷ fault 3 (past_end (size c) c.map)
    ∷ pair_faults (frozen c) c.pairs

-- a slice that must be n long, a list of which all must be bits, and an output of so many places that must hold n
abbrev pub length_fault : ℕ → ℕ → Fault
length_fault n given = fault 6 (not (eqb given n))

abbrev pub bit_fault : List ℕ → Fault
bit_fault xs = fault 11 (some (ltb 1) xs)

abbrev pub room_fault : ℕ → ℕ → Fault
room_fault n lent = fault 10 (ltb lent n)

-- the encoder: 1, 2, 3, 15, 6, 11, 10
abbrev pub encode_faults : Code → List ℕ → ℕ → List Fault
encode_faults c payload lent =
    code_faults c ++ (length_fault (payload_size c) (length payload) ∷ bit_fault payload ∷ room_fault (size c) lent ∷ [])

-- the extractor: 1, 2, 3, 15, 6, 11, 12, 10
abbrev pub extract_faults : Code → List ℕ → ℕ → List Fault
extract_faults c word lent =
    code_faults c
    ++ (length_fault (size c) (length word)
    ∷ bit_fault word
    ∷ fault 12 (broken c (input_of c word))
    ∷ room_fault (payload_size c) lent
    ∷ [])

-- 4 to 7: list size l, stop position p and soft values for n positions
abbrev pub run_faults : ℕ → ℕ → ℕ → List ℤ → List Fault
run_faults n l p soft =
    fault 4 (outside 1 32 l)
    ∷ fault 5 (ltb n p)
    ∷ length_fault n (length soft)
    ∷ fault 7 (some out_of_range soft)
    ∷ []

-- how many words and bytes of tables a decoder call needs
abbrev pub number_room : ℕ → ℕ → ℕ
number_room n l = 32 * (n * l)

abbrev pub byte_room : ℕ → ℕ → ℕ
byte_room n l = (4 * n + 256) * l

-- how many places each slice has that a decoder call is lent
pub record Room : Type 0 where
  pub numbers : ℕ
  pub bytes : ℕ
  pub inputs : ℕ
  pub words : ℕ
  pub scores : ℕ

abbrev pub room : ℕ → ℕ → ℕ → ℕ → ℕ → Room
room numbers bytes inputs words scores = record { numbers = numbers; bytes = bytes; inputs = inputs; words = words; scores = scores }

-- 8 to 10
abbrev pub table_faults : ℕ → ℕ → Room → List Fault
table_faults n l r =
    fault 8 (ltb r.numbers (number_room n l))
    ∷ fault 9 (ltb r.bytes (byte_room n l))
    ∷ room_fault (n * l) r.inputs
    ∷ room_fault (n * l) r.words
    ∷ room_fault l r.scores
    ∷ []

-- the decoder: 1 to 10 in turn, 15 after 3
abbrev pub decode_faults : Code → ℕ → ℕ → List ℤ → Room → List Fault
decode_faults c l p soft r = code_faults c ++ (run_faults (size c) l p soft ++ table_faults (size c) l r)
