-- The test load: 02, wish 14. What is drawn of a state, the payload and the soft values made of it, what a call is refused for, and
-- what it comes to.
use Rattle.std.specs.Prelude.{cond, List, [], ◌∷◌, ◌++◌, map, ℕ, zero, suc, ◌*◌, ◌/◌, ◌%◌, ◌^◌, eqb, length, ℤ, pos, negsuc, ◌+ℤ◌, ◌-ℤ◌}
use Rattle.std.specs.Int.Bits.{bit_xor}
use Rattle.spec.specs.Code.{Code, size, payload_size, encoded}
use Rattle.spec.specs.Faults.{Fault, fault, first, settled}
use Rattle.spec.specs.Refusals.{code_faults, room_fault}
use Rattle.spec.specs.Outcome.{padded}
use Rattle.spec.specs.JobWriter.{Fields, fields_of, written_record}

-- ---- draws
-- s shifted left by k places, kept to 32 bits, and right by k places
abbrev pub left_by : ℕ → ℕ → ℕ
left_by k s = s * 2 ^ k % 2 ^ 32

abbrev pub right_by : ℕ → ℕ → ℕ
right_by k s = s / 2 ^ k

-- s with a shift of itself xored into it
abbrev pub mixed : (ℕ → ℕ) → ℕ → ℕ
mixed shift s = bit_xor s (shift s)

-- a draw is the new state
unfoldable pub draw : ℕ → ℕ
draw s = mixed (left_by 5) (mixed (right_by 17) (mixed (left_by 13) s))

-- k draws one after the other, and the state after them
unfoldable pub draws : ℕ → ℕ → List ℕ
draws zero s = []
draws (suc k) s = draw s ∷ draws k (draw s)

unfoldable pub after_draws : ℕ → ℕ → ℕ
after_draws zero s = s
after_draws (suc k) s = after_draws k (draw s)

-- the low bits of k draws
abbrev pub drawn_bits : ℕ → ℕ → List ℕ
drawn_bits k s = map (λ (x : ℕ). x % 2) (draws k s)

-- 20 or −20 as the code bit is 0 or 1, plus the draw x modulo 41, minus 20; negsuc 19 is −20
abbrev pub noisy : ℕ → ℕ → ℤ
noisy bit x = (cond (eqb bit 0) (pos 20) (negsuc 19) +ℤ pos (x % 41)) -ℤ pos 20

-- a draw for each bit of a word
abbrev pub noisy_word : List ℕ → List ℕ → List ℤ
noisy_word [] xs = []
noisy_word (b ∷ w) [] = []
noisy_word (b ∷ w) (x ∷ xs) = noisy b x ∷ noisy_word w xs

-- ---- the load of a state and a code
module _ (s : ℕ) (c : Code) where
  -- the payload is drawn first, and then the soft values of its code word
  unfoldable pub drawn_payload : List ℕ
  drawn_payload = drawn_bits (payload_size c) s

  unfoldable pub drawn_soft : List ℤ
  drawn_soft = noisy_word (encoded c drawn_payload) (draws (size c) (after_draws (payload_size c) s))

  unfoldable pub next_state : ℕ
  next_state = after_draws (size c) (after_draws (payload_size c) s)

  -- the job of a frame number, list size 4 and stop n
  abbrev pub load_fields : ℕ → Fields
  load_fields frame = fields_of c 4 (size c) frame drawn_soft

  unfoldable pub load_record : ℕ → List ℕ
  load_record frame = written_record (load_fields frame)

  -- 1, 2, 3, 15, 24 and then 10: the outputs have `records` and `payloads` bytes
  abbrev pub load_faults : ℕ → ℕ → ℕ → List Fault
  load_faults frame records payloads =
      code_faults c
      ++ (fault 24 (eqb s 0)
      ∷ room_fault (length (load_record frame)) records
      ∷ room_fault (payload_size c) payloads
      ∷ [])

  unfoldable pub load_refusal : ℕ → ℕ → ℕ → ℕ
  load_refusal frame records payloads = first (load_faults frame records payloads)

-- ---- the call: the length of the record and the next state, or the refusal number, and the two outputs
pub data Load : Type 0 where
  loaded : ℕ → ℕ → Load
  refused_load : ℕ → Load

pub record Loading : Type 0 where
  pub answer : Load
  pub job : List ℕ
  pub payload : List ℕ

abbrev pub loading : Load → List ℕ → List ℕ → Loading
loading a job payload = record { answer = a; job = job; payload = payload }

-- the record and the payload at the front of the outputs, and 0 behind both
unfoldable pub load_served : ℕ → Code → ℕ → ℕ → ℕ → Loading
load_served s c frame records payloads = loading
    (loaded (length (load_record s c frame)) (next_state s c))
    (padded 0 records (load_record s c frame))
    (padded 0 payloads (drawn_payload s c))

unfoldable pub load_outcome : ℕ → Code → ℕ → List ℕ → List ℕ → Loading
load_outcome s c frame job payload =
    settled (load_refusal s c frame (length job) (length payload)) (λ k. loading (refused_load k) job payload)
    (load_served s c frame (length job) (length payload))
