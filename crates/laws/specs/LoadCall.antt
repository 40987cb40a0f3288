-- The call of a test load, taken apart: what is known of one that is not refused, and what it then comes to. Its record is what the job
-- writer gives, and the next state is not 0.
use Rattle.std.proofs.Math.Path.{◌≡◌, refl, sym, ap, ap₂}
use Rattle.std.proofs.Common.{subst, ◌∙◌, arith}
use Rattle.std.specs.Prelude.{false, eqb, replicate}
use mathlib.Core.List.{List, [], ◌∷◌}
use Prim.Native.Nat.{ℕ, zero, suc, ◌-◌, ◌≤◌, ◌<◌}
use borrow.Author.Tests.{ltb-false, eqb-false}
use Rattle.std.proofs.Math.ListN.{length, take}
use Rattle.std.proofs.Math.Seq.{take_at}
use Rattle.spec.specs.Bits.{Bits}
use Rattle.spec.specs.Code.{Code, size, payload_size, input_for, encoded}
use Rattle.spec.specs.Faults.{Fault, fault, first, some, settled}
use Rattle.spec.specs.Refusals.{out_of_range, code_faults, room_fault}
use Rattle.spec.specs.Outcome.{long, writing}
use Rattle.spec.specs.JobWriter.{Fields, written_record, write_served, write_outcome}
use Rattle.spec.specs.TestLoad.{draws, after_draws, drawn_payload, drawn_soft, next_state, load_fields, load_record, load_faults, load_refusal, loaded, refused_load, Loading, loading, load_served, load_outcome}
use Rattle.laws.specs.CodeTransform.{length_transformed, bits_transformed}
use Rattle.laws.specs.FirstFault.{First, none, later, is_first, of_first, first_before, first_after, none_before, none_after, settled_refused, settled_served}
use Rattle.laws.specs.Inputs.{length_input, bits_input}
use Rattle.laws.specs.Accepted.{Accepted, accepted_of, code_numbers, flag_count}
use Rattle.laws.specs.WriteCall.{Writable, write_accepted, write_served_lem}
use Rattle.laws.specs.Noise.{word_range}
use Rattle.laws.specs.Draws.{State, after_state, length_draws, length_bits, bits_drawn, length_noisy}

module _ (s : ℕ) (c : Code) where
  -- ---- the payload and its word
  pub length_payload : length (drawn_payload s c) ≡ payload_size c
  unfolding drawn_payload
  length_payload = length_bits (payload_size c) s

  pub bits_payload : Bits (drawn_payload s c)
  unfolding drawn_payload
  bits_payload = bits_drawn (payload_size c) s

  pub length_word : Accepted c → length (encoded c (drawn_payload s c)) ≡ size c
  unfolding encoded
  length_word a = length_transformed c.arikan c.m (input_for c (drawn_payload s c)) (length_input c bits_payload ∙ flag_count a)

  pub bits_word : Bits (encoded c (drawn_payload s c))
  unfolding encoded
  bits_word = bits_transformed c.arikan c.m (bits_input c bits_payload)

  -- it has as many bits as there are draws for them
  pub drawn_long : Accepted c → length (encoded c (drawn_payload s c)) ≡ length (draws (size c) (after_draws (payload_size c) s))
  drawn_long a = length_word a ∙ sym (length_draws (size c) (after_draws (payload_size c) s))

  pub length_soft : Accepted c → length (drawn_soft s c) ≡ size c
  unfolding drawn_soft
  length_soft a = length_noisy (encoded c (drawn_payload s c)) (draws (size c) (after_draws (payload_size c) s)) (drawn_long a) ∙ length_word a

  pub soft_range : some out_of_range (drawn_soft s c) ≡ false
  unfolding drawn_soft
  soft_range = word_range (encoded c (drawn_payload s c)) (draws (size c) (after_draws (payload_size c) s))

  pub next_state_lem : State s → State (next_state s c)
  unfolding next_state
  next_state_lem t = after_state (size c) (after_draws (payload_size c) s) (after_state (payload_size c) s t)

  module _ (frame : ℕ) where
    -- the writer serves the fields of a load
    pub load_writable : Accepted c → Writable (load_fields s c frame)
    load_writable a = record {
      accepts = a;
      some_rows = omega arith;
      few_rows = omega arith;
      stops = omega arith;
      values = length_soft a;
      in_range = soft_range;
    }

    -- ---- refusals
    -- 24 and 10, which come after those of the code
    abbrev pub own_faults : ℕ → ℕ → List Fault
    own_faults records payloads = fault 24 (eqb s 0) ∷ room_fault (length (load_record s c frame)) records ∷ room_fault (payload_size c) payloads ∷ []

    -- a load that is not refused
    pub record Loads (records payloads : ℕ) : Type 0 where
      pub accepts : Accepted c
      pub some_state : s ≡ 0 → ⊥
      pub record_fits : length (load_record s c frame) ≤ records
      pub payload_fits : payload_size c ≤ payloads

    module _ (records payloads : ℕ) where
      pub loads : 0 ≡ load_refusal s c frame records payloads → Loads records payloads
      unfolding load_refusal
      loads e =
          let all = of_first (load_faults s c frame records payloads) 0 e in
          parts (none_before (own_faults records payloads) (code_numbers c) all) (none_after (code_numbers c) all)
        where
          parts : First (code_faults c) 0 → First (own_faults records payloads) 0 → Loads records payloads
          parts f (later a (later b (later d none))) = record {
            accepts = accepted_of f;
            some_state = eqb-false s 0 a;
            record_fits = ltb-false records (length (load_record s c frame)) b;
            payload_fits = ltb-false payloads (payload_size c) d;
          }

      -- the number of the code, where it has one, and else the load's own
      pub code_refused : (k : ℕ) → k ≡ first (code_faults c) → (k ≡ 0 → ⊥) → k ≡ load_refusal s c frame records payloads
      unfolding load_refusal
      code_refused k e n = first_before (code_faults c) (own_faults records payloads) k e n

      pub own_refused : 0 ≡ first (code_faults c) → (k : ℕ) → First (own_faults records payloads) k → k ≡ load_refusal s c frame records payloads
      unfolding load_refusal
      own_refused e k f = first_after (code_faults c) (own_faults records payloads) 0 e (code_numbers c) refl k (is_first (own_faults records payloads) k f)

    -- ---- the call
    module _ (job payload : List ℕ) where
      pub load_refused : (k : ℕ) → k ≡ load_refusal s c frame (length job) (length payload) → (k ≡ 0 → ⊥)
          → loading (refused_load k) job payload ≡ load_outcome s c frame job payload
      unfolding load_outcome
      load_refused k e n =
          settled_refused (λ k. loading (refused_load k) job payload) (load_served s c frame (length job) (length payload)) k
          (load_refusal s c frame (length job) (length payload)) e n

      pub load_served_lem : 0 ≡ load_refusal s c frame (length job) (length payload) → load_served s c frame (length job) (length payload) ≡ load_outcome s c frame job payload
      unfolding load_outcome
      load_served_lem e =
          settled_served (λ k. loading (refused_load k) job payload) (load_served s c frame (length job) (length payload))
          (load_refusal s c frame (length job) (length payload)) e

      -- where a condition applies, the answer is its number alone, and both outputs are as before
      pub refused_writes_nothing : (load_refusal s c frame (length job) (length payload) ≡ 0 → ⊥)
          → load_outcome s c frame job payload ≡ loading (refused_load (load_refusal s c frame (length job) (length payload))) job payload
      refused_writes_nothing x = sym (load_refused (load_refusal s c frame (length job) (length payload)) refl x)

      -- what an accepted call gives does not depend on what the outputs held
      pub same_lengths_same_load : (job' payload' : List ℕ) → length job ≡ length job' → length payload ≡ length payload'
          → 0 ≡ load_refusal s c frame (length job) (length payload) → load_outcome s c frame job payload ≡ load_outcome s c frame job' payload'
      unfolding load_outcome
      same_lengths_same_load job' payload' h g e =
          sym (load_served_lem e) ∙ ap₂ (load_served s c frame) h g
          ∙ settled_served (λ k. loading (refused_load k) job' payload') (load_served s c frame (length job') (length payload'))
          (load_refusal s c frame (length job') (length payload')) (e ∙ ap₂ (load_refusal s c frame) h g)

-- ---- a call that gave a length and a state
module _ (s : ℕ) (c : Code) (frame : ℕ) (job payload : List ℕ) {k t : ℕ} {o p : List ℕ} (e : load_outcome s c frame job payload ≡ loading (loaded k t) o p) where
  -- it was not refused, and is served
  served_of : (0 ≡ load_refusal s c frame (length job) (length payload)) × (load_served s c frame (length job) (length payload) ≡ loading (loaded k t) o p)
  unfolding load_outcome
  served_of = by_number (load_refusal s c frame (length job) (length payload)) refl e
    where
      by_number : (r : ℕ) → r ≡ load_refusal s c frame (length job) (length payload)
          → settled r (λ k. loading (refused_load k) job payload) (load_served s c frame (length job) (length payload)) ≡ loading (loaded k t) o p
          → (0 ≡ load_refusal s c frame (length job) (length payload)) × (load_served s c frame (length job) (length payload) ≡ loading (loaded k t) o p)
      by_number zero z g = (z, g)
      by_number (suc r) z g =
          let x : refused_load (suc r) ≡ loaded k t = ap (λ (w : Loading). w.answer) g in
          let n : ◌≡◌ {A = ℕ} 0 1 = cc in
          absurd (omega arith)

  pub loads_of : Loads s c frame (length job) (length payload)
  loads_of = loads s c frame (length job) (length payload) served_of.0

  answer_is : loaded (length (load_record s c frame)) (next_state s c) ≡ loaded k t
  unfolding load_served
  answer_is = ap (λ (w : Loading). w.answer) served_of.1

  -- The length and the record are what the job writer gives for the frame number, list size 4 and stop n.
  pub load_is_written : write_outcome (load_fields s c frame) job ≡ writing (long k) o
  unfolding load_served load_record write_served
  load_is_written =
      let f : Fields = load_fields s c frame in
      let n : loaded (length (written_record f)) (next_state s c) ≡ loaded k t = answer_is in
      let l : length (written_record f) ≡ k = cc in
      sym (write_served_lem f job (write_accepted f (length job) (load_writable s c frame loads_of.accepts) loads_of.record_fits))
      ∙ ap₂ (λ (k : ℕ) (o : List ℕ). writing (long k) o) l (ap (λ (w : Loading). w.job) served_of.1)

  -- The first k bytes of the other output are the payload that was drawn.
  pub payload_given : take (payload_size c) p ≡ drawn_payload s c
  unfolding load_served
  payload_given =
      ap (λ (w : Loading). take (payload_size c) w.payload) (sym served_of.1)
      ∙ take_at (drawn_payload s c) (replicate (length payload - length (drawn_payload s c)) 0) (payload_size c) (length_payload s c)

  -- The state does not become 0.
  pub state_stays : s < 4294967296 → State t
  state_stays h =
      let n = answer_is in
      let l : next_state s c ≡ t = cc in
      subst State l (next_state_lem s c (record { small = h; some_bit = loads_of.some_state }))
