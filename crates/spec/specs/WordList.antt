-- The call that lists every code word at a mark or above: 02, wish 10. What it is refused for, what it answers, and what every lent slice
-- then holds.
use Rattle.std.specs.Prelude.{cond, List, [], ◌∷◌, ◌++◌, map, ℕ, ◌*◌, length, replicate, ltb, ℤ, pos}
use Rattle.spec.specs.Code.{Code, size, payload_size, code_transform}
use Rattle.spec.specs.Score.{taken}
use Rattle.spec.specs.Decoder.{Row}
use Rattle.spec.specs.Faults.{Fault, fault, first, settled, some}
use Rattle.spec.specs.Refusals.{Room, code_faults, out_of_range, length_fault, room_fault, number_room, byte_room}
use Rattle.spec.specs.Outcome.{Lent, lent, room_of, padded, concat}
use Rattle.spec.specs.WordsAbove.{words_above}

-- 6 to 10: soft values, tables as for a list of one, and n bytes of inputs and of words for each place of the scores
abbrev pub list_room_faults : ℕ → List ℤ → Room → List Fault
list_room_faults n soft r =
    length_fault n (length soft)
    ∷ fault 7 (some out_of_range soft)
    ∷ fault 8 (ltb r.numbers (number_room n 1))
    ∷ fault 9 (ltb r.bytes (byte_room n 1))
    ∷ room_fault (n * r.scores) r.inputs
    ∷ room_fault (n * r.scores) r.words
    ∷ []

-- 1, 2, 3, 15, 20, 6, 7, 8, 9, 10
abbrev pub list_faults : Code → List ℤ → Room → List Fault
list_faults c soft r = code_faults c ++ (fault 20 (ltb 20 (payload_size c)) ∷ list_room_faults (size c) soft r)

unfoldable pub list_refusal : Code → List ℤ → Room → ℕ
list_refusal c soft r = first (list_faults c soft r)

-- how many words there are, or the refusal number
pub data Count : Type 0 where
  counted : ℕ → Count
  refused_count : ℕ → Count

pub record Listing : Type 0 where
  pub answer : Count
  pub left : Lent

abbrev pub listing : Count → Lent → Listing
listing a x = record { answer = a; left = x }

-- rows that have room: the tables are 0, and the outputs hold the rows in their order and then 0
abbrev pub listed_rows : Room → List Row → Listing
listed_rows r rs = listing (counted (length rs)) (lent
    (replicate r.numbers 0)
    (replicate r.bytes 0)
    (padded 0 r.inputs (concat (map (λ (x : Row). x.input) rs)))
    (padded 0 r.words (concat (map (λ (x : Row). x.word) rs)))
    (padded (pos 0) r.scores (map (λ (x : Row). x.score) rs)))

-- 19, more rows than the scores have places: the tables are 0, and the outputs are as before
abbrev pub crowded : Lent → Listing
crowded x = listing (refused_count 19) (lent
    (replicate (length x.numbers) 0)
    (replicate (length x.bytes) 0)
    x.inputs
    x.words
    x.scores)

abbrev pub listed_or19 : List Row → Lent → Listing
listed_or19 rs x = cond (ltb (length x.scores) (length rs)) (crowded x) (listed_rows (room_of x) rs)

-- a call that is not refused before holds the words above the mark, for the soft values as they are taken
unfoldable pub list_served : Code → ℤ → List ℤ → Lent → Listing
list_served c mark soft x = listed_or19 (words_above (code_transform c) c (taken soft) mark) x

unfoldable pub list_outcome : Code → ℤ → List ℤ → Lent → Listing
list_outcome c mark soft x = settled (list_refusal c soft (room_of x)) (λ k. listing (refused_count k) x) (list_served c mark soft x)
