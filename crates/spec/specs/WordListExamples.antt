-- Lists of the words at a mark or above and the order of their refusals, by the definitions: 02, wish 10. n = 4 unless said.
use Rattle.std.specs.Prelude.{◌≡◌, refl, false, List, [], ◌∷◌, map, ℕ, replicate, ℤ, pos, negsuc}
use Rattle.spec.specs.Bits.{bits_of, unpacked}
use Rattle.spec.specs.Transform.{transform, arikan_transform}
use Rattle.spec.specs.Code.{Code, code, frozen, frozen_bit}
use Rattle.spec.specs.Faults.{first, some}
use Rattle.spec.specs.Refusals.{Room, room, past_end}
use Rattle.spec.specs.Outcome.{Lent, lent}
use Rattle.spec.specs.WordsAbove.{code_inputs, words_above}
use Rattle.spec.specs.WordList.{list_refusal, Count, counted, refused_count, Listing, listing, list_served, list_outcome}
use Rattle.spec.specs.Examples.{y₁, yₘ, frozen01, none_frozen, summed, arikan01}

-- lent memory that holds 9: tables of one place more than is needed, and so many places of inputs, of words and of scores
abbrev pub lent9 : ℕ → ℕ → ℕ → Lent
lent9 i w s = lent (replicate 129 9) (replicate 273 9) (replicate i 9) (replicate w 9) (replicate s (pos 9))

-- an answer, the tables set to 0 to their last place, and the outputs
abbrev pub gives : Count → List ℕ → List ℕ → List ℤ → Listing
gives a i w s = listing a (lent (replicate 129 0) (replicate 273 0) i w s)

-- ---- words that are listed, for y = (5, −3, 2, 7) unless said
-- frozen 0 and 1, at 11, with room for three: the words of 0000 and 0010 correlate at 11 and at 13, those of 0001 and 0011 at −11 and at −13
pub several : list_outcome frozen01 (pos 11) y₁ (lent9 12 13 3) ≡ gives (counted 2)
    (0 ∷ 0 ∷ 0 ∷ 0 ∷ 0 ∷ 0 ∷ 1 ∷ 0 ∷ 0 ∷ 0 ∷ 0 ∷ 0 ∷ [])
    (0 ∷ 0 ∷ 0 ∷ 0 ∷ 0 ∷ 1 ∷ 1 ∷ 0 ∷ 0 ∷ 0 ∷ 0 ∷ 0 ∷ 0 ∷ [])
    (pos 11 ∷ pos 13 ∷ pos 0 ∷ [])
unfolding frozen01 y₁ bits_of unpacked transform frozen frozen_bit first some past_end code_inputs words_above list_refusal list_served list_outcome
several = refl

-- the same with Arikan's transform, at −3: all but the word of 0001, with no place left over
pub with_arikan_lem : list_outcome arikan01 (negsuc 2) y₁ (lent9 12 12 3) ≡ gives (counted 3)
    (0 ∷ 0 ∷ 0 ∷ 0 ∷ 0 ∷ 0 ∷ 1 ∷ 0 ∷ 0 ∷ 0 ∷ 1 ∷ 1 ∷ [])
    (0 ∷ 0 ∷ 0 ∷ 0 ∷ 1 ∷ 0 ∷ 1 ∷ 0 ∷ 0 ∷ 1 ∷ 0 ∷ 1 ∷ [])
    (pos 11 ∷ negsuc 2 ∷ pos 3 ∷ [])
unfolding arikan01 y₁ bits_of unpacked arikan_transform frozen frozen_bit first some past_end code_inputs words_above list_refusal list_served list_outcome
with_arikan_lem = refl

-- where the bit at 2 follows that at 1, and the bit at 3 is the sum of both
pub with_pairs_lem : list_outcome summed (negsuc 2) y₁ (lent9 8 8 2) ≡ gives (counted 2)
    (0 ∷ 0 ∷ 0 ∷ 0 ∷ 0 ∷ 1 ∷ 1 ∷ 0 ∷ [])
    (0 ∷ 0 ∷ 0 ∷ 0 ∷ 1 ∷ 0 ∷ 1 ∷ 0 ∷ [])
    (pos 11 ∷ negsuc 2 ∷ [])
unfolding summed y₁ bits_of unpacked transform frozen frozen_bit first some past_end code_inputs words_above list_refusal list_served list_outcome
with_pairs_lem = refl

-- four times −2,048, which is taken as −2,047, and nothing frozen: 1111 correlates at 8,188, and nothing higher
pub full_scale : map (λ (mark : ℤ). list_outcome none_frozen mark yₘ (lent9 4 4 1)) (pos 8188 ∷ pos 8189 ∷ []) ≡
    gives (counted 1) (0 ∷ 0 ∷ 0 ∷ 1 ∷ []) (1 ∷ 1 ∷ 1 ∷ 1 ∷ []) (pos 8188 ∷ [])
    ∷ gives (counted 0) (replicate 4 0) (replicate 4 0) (pos 0 ∷ [])
    ∷ []
unfolding none_frozen yₘ bits_of unpacked transform frozen frozen_bit first some past_end code_inputs words_above list_refusal list_served list_outcome
full_scale = refl

-- a word at the mark is listed, and with a mark one higher it is not; the lowest and the highest mark of 32 bits
pub by_mark : map (λ (mark : ℤ). (list_outcome frozen01 mark y₁ (lent9 16 16 4)).answer)
    (negsuc 2147483647 ∷ negsuc 12 ∷ negsuc 11 ∷ pos 11 ∷ pos 12 ∷ pos 13 ∷ pos 14 ∷ pos 2147483647 ∷ [])
    ≡ counted 4 ∷ counted 4 ∷ counted 3 ∷ counted 2 ∷ counted 1 ∷ counted 1 ∷ counted 0 ∷ counted 0 ∷ []
unfolding frozen01 y₁ bits_of unpacked transform frozen frozen_bit first some past_end code_inputs words_above list_refusal list_served list_outcome
by_mark = refl

-- ---- 19: two words with room for none and with room for one; the outputs stay as they were
pub crowded_out : map (list_outcome frozen01 (pos 11) y₁) (lent9 5 6 0 ∷ lent9 4 4 1 ∷ []) ≡
    gives (refused_count 19) (replicate 5 9) (replicate 6 9) []
    ∷ gives (refused_count 19) (replicate 4 9) (replicate 4 9) (pos 9 ∷ [])
    ∷ []
unfolding frozen01 y₁ bits_of unpacked transform frozen frozen_bit first some past_end code_inputs words_above list_refusal list_served list_outcome
crowded_out = refl

-- with room for none a call is served where no word reaches the mark
pub room_for_none : list_outcome frozen01 (pos 14) y₁ (lent9 5 6 0) ≡ gives (counted 0) (replicate 5 0) (replicate 6 0) []
unfolding frozen01 y₁ bits_of unpacked transform frozen frozen_bit first some past_end code_inputs words_above list_refusal list_served list_outcome
room_for_none = refl

-- ---- refusals
-- a call of which more and more is right
pub record Call : Type 0 where
  pub code : Code
  pub soft : List ℤ
  pub room : Room

abbrev pub call : Code → List ℤ → Room → Call
call c soft r = record { code = c; soft = soft; room = r }

-- a code of 32 positions
abbrev pub wide : List ℕ → List ℕ → Code
wide map pairs = code 5 false map pairs

-- 1, 2, 3, 15, 20 with k = 32 and k = 21, 6 with k = 20, 6 of three soft values, 7 at both ends, 8, 9, 10 of the inputs, 10 of the words, and none
unfoldable pub faulty : List Call
faulty =
    call (code 1 false [] (1 ∷ [])) [] (room 0 0 0 0 1)
    ∷ call (wide [] (1 ∷ [])) [] (room 0 0 0 0 1)
    ∷ call (code 2 false (16 ∷ []) (1 ∷ [])) [] (room 0 0 0 0 1)
    ∷ call (wide (replicate 4 0) (1 ∷ [])) [] (room 0 0 0 0 1)
    ∷ call (wide (replicate 4 0) []) [] (room 0 0 0 0 1)
    ∷ call (wide (255 ∷ 7 ∷ 0 ∷ 0 ∷ []) []) [] (room 0 0 0 0 1)
    ∷ call (wide (255 ∷ 15 ∷ 0 ∷ 0 ∷ []) []) [] (room 0 0 0 0 1)
    ∷ call frozen01 (replicate 3 (pos 2048)) (room 0 0 0 0 1)
    ∷ call frozen01 (replicate 4 (pos 2048)) (room 0 0 0 0 1)
    ∷ call frozen01 (replicate 4 (negsuc 2048)) (room 0 0 0 0 1)
    ∷ call frozen01 yₘ (room 127 271 3 3 1)
    ∷ call frozen01 yₘ (room 128 271 3 3 1)
    ∷ call frozen01 yₘ (room 128 272 3 4 1)
    ∷ call frozen01 yₘ (room 128 272 4 3 1)
    ∷ call frozen01 yₘ (room 128 272 4 4 1)
    ∷ []

pub refused_in_order : map (λ (x : Call). list_refusal x.code x.soft x.room) faulty
    ≡ 1 ∷ 2 ∷ 3 ∷ 15 ∷ 20 ∷ 20 ∷ 6 ∷ 6 ∷ 7 ∷ 7 ∷ 8 ∷ 9 ∷ 10 ∷ 10 ∷ 0 ∷ []
unfolding faulty frozen01 yₘ bits_of unpacked frozen first some past_end list_refusal
refused_in_order = refl

-- 10 goes by the places of the scores: with two of them and seven bytes of inputs or of words it is refused where no word reaches the mark, and
-- with one of them and three bytes of inputs before 19. A refused call writes nowhere.
pub ten_by_places : list_outcome frozen01 (pos 14) y₁ (lent9 7 8 2) ∷ list_outcome frozen01 (pos 14) y₁ (lent9 8 7 2) ∷ list_outcome frozen01 (pos 11) y₁ (lent9 3 4 1) ∷ [] ≡
    listing (refused_count 10) (lent9 7 8 2)
    ∷ listing (refused_count 10) (lent9 8 7 2)
    ∷ listing (refused_count 10) (lent9 3 4 1)
    ∷ []
unfolding frozen01 y₁ bits_of unpacked transform frozen frozen_bit first some past_end code_inputs words_above list_refusal list_served list_outcome
ten_by_places = refl
