-- The call of the job writer, taken apart: what is known of fields that are not refused, and what the call then comes to.
use Rattle.std.proofs.Math.Path.{◌≡◌, refl, sym, ap}
use Rattle.std.proofs.Common.{◌∙◌, arith}
use Rattle.std.specs.Prelude.{false}
use mathlib.Core.List.{List, [], ◌∷◌, ◌++◌}
use Prim.Native.Nat.{ℕ, zero, suc, ◌≤◌, ◌<◌}
use borrow.Author.Tests.{ltb-false, le-ltb, lt-ltb}
use Rattle.std.proofs.Math.ListN.{length}
use Rattle.spec.specs.Code.{size}
use Rattle.spec.specs.Refusals.{out_of_range, code_faults, run_faults, room_fault}
use Rattle.spec.specs.Faults.{Fault, first, some, settled}
use Rattle.spec.specs.Outcome.{long, refused_length, Writing, writing}
use Rattle.spec.specs.JobWriter.{Fields, written_record, write_faults, write_refusal, write_served, write_outcome}
use Rattle.laws.specs.FirstFault.{First, none, here, later, first_before, first_after, is_first, of_first, Numbered, end, next, none_before, none_after, found_after, inside, inside_of, same, same_of, settled_refused, settled_served}
use Rattle.laws.specs.Accepted.{Accepted, accepted_of, no_fault, code_numbers}

-- fields that are not refused by 1 to 7 and 15
pub record Writable (f : Fields) : Type 0 where
  pub accepts : Accepted f.code
  pub some_rows : 1 ≤ f.list_size
  pub few_rows : f.list_size ≤ 32
  pub stops : f.stop ≤ size f.code
  pub values : length f.soft ≡ size f.code
  pub in_range : some out_of_range f.soft ≡ false

module _ (f : Fields) where
  abbrev pub ran_faults : List Fault
  ran_faults = run_faults (size f.code) f.list_size f.stop f.soft

  abbrev pub run_numbers : Numbered ran_faults
  run_numbers = next (next (next (next end)))

  pub writable_of : First (code_faults f.code) 0 → First ran_faults 0 → Writable f
  writable_of c (later a (later b (later d (later e none)))) =
      let l = inside_of 1 32 f.list_size a in
      record {
        accepts = accepted_of c;
        some_rows = l.0;
        few_rows = l.1;
        stops = ltb-false (size f.code) f.stop b;
        values = same_of (length f.soft) (size f.code) d;
        in_range = e;
      }

  pub run_none : Writable f → First ran_faults 0
  run_none w =
      later (inside 1 32 f.list_size w.some_rows w.few_rows) (later (le-ltb (size f.code) f.stop w.stops)
      (later (same (length f.soft) (size f.code) w.values) (later w.in_range none)))

  -- a call that is not refused, and that none other is
  pub writes : (room : ℕ) → 0 ≡ write_refusal f room → Writable f × (length (written_record f) ≤ room)
  unfolding write_refusal
  writes room e =
      let last : List Fault = room_fault (length (written_record f)) room ∷ [] in
      let all = of_first (write_faults f room) 0 e in
      let run = none_after (code_numbers f.code) all in
      (writable_of (none_before (ran_faults ++ last) (code_numbers f.code) all) (none_before last run_numbers run), fits (none_after run_numbers run))
    where
      fits : First (room_fault (length (written_record f)) room ∷ []) 0 → length (written_record f) ≤ room
      fits (later d none) = ltb-false room (length (written_record f)) d

  pub write_accepted : (room : ℕ) → Writable f → length (written_record f) ≤ room → 0 ≡ write_refusal f room
  unfolding write_refusal
  write_accepted room w h =
      is_first (write_faults f room) 0
      (found_after (code_numbers f.code) (no_fault w.accepts) (found_after run_numbers (run_none w) (later (le-ltb room (length (written_record f)) h) none)))

  -- 1 to 7 and 15, and then 10
  abbrev pub given_faults : List Fault
  given_faults = code_faults f.code ++ ran_faults

  abbrev pub given_numbers : Numbered given_faults
  given_numbers = next (next (next (next (next (next run_numbers)))))

  pub given_none : 0 ≡ first given_faults → Writable f
  given_none e =
      let all = of_first given_faults 0 e in
      writable_of (none_before ran_faults (code_numbers f.code) all) (none_after (code_numbers f.code) all)

  pub given_refused : (room k : ℕ) → k ≡ first given_faults → (k ≡ 0 → ⊥) → k ≡ write_refusal f room
  unfolding write_refusal
  given_refused room k e n = first_before given_faults (room_fault (length (written_record f)) room ∷ []) k e n

  pub room_refused : (room : ℕ) → 0 ≡ first given_faults → room < length (written_record f) → 10 ≡ write_refusal f room
  unfolding write_refusal
  room_refused room e h =
      let last : List Fault = room_fault (length (written_record f)) room ∷ [] in
      first_after given_faults last 0 e given_numbers refl 10 (is_first last 10 (here (lt-ltb room (length (written_record f)) h)))

  module _ (out : List ℕ) where
    pub write_refused : (k : ℕ) → k ≡ write_refusal f (length out) → (k ≡ 0 → ⊥) → writing (refused_length k) out ≡ write_outcome f out
    unfolding write_outcome
    write_refused k e n = settled_refused (λ k. writing (refused_length k) out) (write_served f (length out)) k (write_refusal f (length out)) e n

    pub write_served_lem : 0 ≡ write_refusal f (length out) → write_served f (length out) ≡ write_outcome f out
    unfolding write_outcome
    write_served_lem e = settled_served (λ k. writing (refused_length k) out) (write_served f (length out)) (write_refusal f (length out)) e

    -- where a condition applies, the answer is its number alone, and the output is as before
    pub refused_writes_nothing : (write_refusal f (length out) ≡ 0 → ⊥) → write_outcome f out ≡ writing (refused_length (write_refusal f (length out))) out
    refused_writes_nothing x = sym (write_refused (write_refusal f (length out)) refl x)

    -- what an accepted call gives does not depend on what the output held
    pub same_length_same_writing : (out' : List ℕ) → length out ≡ length out' → 0 ≡ write_refusal f (length out) → write_outcome f out ≡ write_outcome f out'
    unfolding write_outcome
    same_length_same_writing out' h e =
        sym (write_served_lem e) ∙ ap (write_served f) h
        ∙ settled_served (λ k. writing (refused_length k) out') (write_served f (length out')) (write_refusal f (length out')) (e ∙ ap (write_refusal f) h)

    -- a call that gave a length was not refused, and is served
    pub served_of : {k : ℕ} {o : List ℕ} → write_outcome f out ≡ writing (long k) o → (0 ≡ write_refusal f (length out)) × (write_served f (length out) ≡ writing (long k) o)
    unfolding write_outcome
    served_of {k} {o} = by_number (write_refusal f (length out)) refl
      where
        by_number : (r : ℕ) → r ≡ write_refusal f (length out) → settled r (λ k. writing (refused_length k) out) (write_served f (length out)) ≡ writing (long k) o
            → (0 ≡ write_refusal f (length out)) × (write_served f (length out) ≡ writing (long k) o)
        by_number zero z e = (z, e)
        by_number (suc r) z e =
            let q : refused_length (suc r) ≡ long k = ap (λ (w : Writing). w.answer) e in
            let n : ◌≡◌ {A = ℕ} 0 1 = cc in
            absurd (omega arith)
