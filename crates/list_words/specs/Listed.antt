-- What the parts of a call that is served take and leave.
use Rattle.std.specs.Prelude.{◌≡◌, false, List, ℕ, ◌*◌, ◌^◌, ◌<◌, ◌≤◌, length, ℤ}
use Rattle.spec.specs.Code.{Code, size, payload_size}
use Rattle.spec.specs.Score.{taken}
use Rattle.spec.specs.Faults.{some}
use Rattle.spec.specs.Refusals.{Room, out_of_range, number_room, byte_room}
use Rattle.laws.specs.Accepted.{Accepted}
use Rattle.payload_blocks.specs.Payloads.{correlations}
use Rattle.payload_blocks.specs.WordFits.{WordFits}
use Rattle.list_words.specs.Hits.{hits}
use Rattle.list_words.specs.Kept.{Kept}

-- the arguments of a call that is not refused before 19: n and k, and the places of what is lent
pub record ServeFits (c : Code) (soft : List ℤ) (n k : ℕ) (lent : Room) : Type 0 where
  pub accepts : Accepted c
  pub row : n ≡ size c
  pub bits : k ≡ payload_size c
  pub few : payload_size c ≤ 20
  pub soft_long : length soft ≡ size c
  pub in_range : some out_of_range soft ≡ false
  pub numbers_there : number_room (size c) 1 ≤ lent.numbers
  pub bytes_there : byte_room (size c) 1 ≤ lent.bytes
  pub inputs_there : size c * lent.scores ≤ lent.inputs
  pub words_there : size c * lent.scores ≤ lent.words

-- the same, with working memory for r bits at once and `total` payloads; the last seven numbers are places
pub record ListFits (c : Code) (soft : List ℤ) (r n total cols payload word bins inputs words scores : ℕ) : Type 0 where
  pub memory : WordFits c payload word
  pub row : n ≡ size c
  pub all : total ≡ 2 ^ payload_size c
  pub few : payload_size c ≤ 20
  pub last : r ≤ payload_size c
  pub soft_long : length soft ≡ size c
  pub in_range : some out_of_range soft ≡ false
  pub cols_long : cols ≡ size c
  pub bins_long : bins ≡ 2 ^ r
  pub inputs_there : n * scores ≤ inputs
  pub words_there : n * scores ≤ words

-- k words are at the mark or above: their rows, where there is room, or the outputs as before
pub record Listed (c : Code) (soft : List ℤ) (mark : ℤ) (k : ℕ) (inputs words : List ℕ) (scores : List ℤ) (inputs' words' : List ℕ) (scores' : List ℤ) : Type 0 where
  pub count : k ≡ length (hits mark 0 (correlations c (taken soft)))
  pub rows_are : k ≤ length scores → Kept c (taken soft) (hits mark 0 (correlations c (taken soft))) inputs' words' scores'
  pub untouched : length scores < k → (inputs' ≡ inputs) × (words' ≡ words) × (scores' ≡ scores)
