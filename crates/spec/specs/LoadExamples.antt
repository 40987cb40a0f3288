-- Test loads and the order of their refusals, by the definitions: 02, wish 14. n = 4 throughout.
use Rattle.std.specs.Prelude.{◌≡◌, refl, Bool, true, false, List, [], ◌∷◌, map, ℕ, replicate, pos, negsuc}
use Rattle.spec.specs.Bits.{bits_of, unpacked}
use Rattle.spec.specs.Transform.{transform, arikan_transform}
use Rattle.spec.specs.Code.{Code, code, frozen, frozen_bit, input_for, encoded}
use Rattle.spec.specs.Faults.{first, some}
use Rattle.spec.specs.Refusals.{past_end}
use Rattle.spec.specs.RecordOf.{record_of}
use Rattle.spec.specs.JobWriter.{written_record}
use Rattle.spec.specs.TestLoad.{draw, draws, after_draws, drawn_payload, drawn_soft, next_state, load_record, load_refusal, loaded, refused_load, loading, load_served, load_outcome}

-- a draw from 1, one from the state that the generator's author begins with, and one that needs all 32 bits
pub drawn : map draw (1 ∷ 2463534242 ∷ 4294967295 ∷ []) ≡ 270369 ∷ 723471715 ∷ 253983 ∷ []
unfolding draw
drawn = refl

-- positions 0 and 1 frozen, by either transform
abbrev pub half_frozen : Bool → Code
half_frozen a = code 2 a (3 ∷ []) []

-- from state 7: the payload 1, 1 has the words 1001 and 0101; the last value is −20 + 0 − 20
pub soft_values : map (λ (a : Bool). drawn_soft 7 (half_frozen a)) (false ∷ true ∷ [])
    ≡ (negsuc 31 ∷ pos 14 ∷ pos 26 ∷ negsuc 39 ∷ [])
    ∷ (pos 8 ∷ negsuc 25 ∷ pos 26 ∷ negsuc 39 ∷ [])
    ∷ []
unfolding drawn_soft drawn_payload draws after_draws draw encoded input_for frozen_bit frozen unpacked bits_of transform arikan_transform
soft_values = refl

-- from state 1 with frame number 7, where the bit at position 3 is the sum of those at 0 and 2; two bytes more than the record needs, and one more than the payload
pub with_pairs_lem : load_outcome 1 (code 2 false (10 ∷ []) (3 ∷ 0 ∷ 0 ∷ 0 ∷ 3 ∷ 0 ∷ 2 ∷ 0 ∷ [])) 7 (replicate 27 9) (replicate 3 9)
    ≡ loading (loaded 25 745495504)
    (12 ∷ 2 ∷ 7 ∷ 0 ∷ 0 ∷ 0 ∷ 10 ∷ 2 ∷ 0 ∷ 3 ∷ 0 ∷ 0 ∷ 0 ∷ 3 ∷ 0 ∷ 2 ∷ 0 ∷ 241 ∷ 255 ∷ 240 ∷ 255 ∷ 234 ∷ 255 ∷ 7 ∷ 0 ∷ 0 ∷ 0 ∷ [])
    (1 ∷ 1 ∷ 0 ∷ [])
unfolding load_outcome load_served load_refusal load_record written_record record_of next_state drawn_soft drawn_payload draws after_draws draw encoded input_for frozen_bit frozen unpacked bits_of transform first some past_end
with_pairs_lem = refl

-- with nothing clear there is no payload, and the soft values have the first draws
pub none_clear : load_outcome 5 (code 2 false (15 ∷ []) []) 0 (replicate 11 9) []
    ≡ loading (loaded 11 3580160835) (0 ∷ 2 ∷ 15 ∷ 34 ∷ 0 ∷ 8 ∷ 0 ∷ 11 ∷ 0 ∷ 40 ∷ 0 ∷ []) []
unfolding load_outcome load_served load_refusal load_record written_record record_of next_state drawn_soft drawn_payload draws after_draws draw encoded input_for frozen_bit frozen unpacked bits_of transform first some past_end
none_clear = refl

-- a call of which more and more is right: the state, the code, and the places of the two outputs
pub record Call : Type 0 where
  pub state : ℕ
  pub code : Code
  pub records : ℕ
  pub payloads : ℕ

abbrev pub call : ℕ → Code → ℕ → ℕ → Call
call s c records payloads = record { state = s; code = c; records = records; payloads = payloads }

-- 1, 2, 3, 15, 24, 10 of the record, 10 of the payload, and none
unfoldable pub faulty : List Call
faulty =
    call 0 (code 1 false [] (1 ∷ [])) 10 1
    ∷ call 0 (code 2 false [] (1 ∷ [])) 10 1
    ∷ call 0 (code 2 false (16 ∷ []) (1 ∷ [])) 10 1
    ∷ call 0 (code 2 false (3 ∷ []) (1 ∷ [])) 10 1
    ∷ call 0 (half_frozen false) 10 1
    ∷ call 1 (half_frozen false) 10 2
    ∷ call 1 (half_frozen false) 11 1
    ∷ call 1 (half_frozen false) 11 2
    ∷ []

pub refused_in_order : map (λ (x : Call). load_refusal x.state x.code 0 x.records x.payloads) faulty
    ≡ 1 ∷ 2 ∷ 3 ∷ 15 ∷ 24 ∷ 10 ∷ 10 ∷ 0 ∷ []
unfolding faulty load_refusal load_record written_record record_of drawn_soft drawn_payload draws after_draws draw encoded input_for frozen_bit frozen unpacked bits_of transform first some past_end
refused_in_order = refl

-- a refused call writes nowhere
pub refused_leaves : load_outcome 0 (half_frozen true) 0 (replicate 11 9) (replicate 2 9) ≡ loading (refused_load 24) (replicate 11 9) (replicate 2 9)
unfolding load_outcome load_refusal load_record written_record record_of drawn_soft drawn_payload draws after_draws draw encoded input_for frozen_bit frozen unpacked bits_of arikan_transform first some past_end
refused_leaves = refl
