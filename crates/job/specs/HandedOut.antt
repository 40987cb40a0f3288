-- What the reader hands out for a record that it reads: soft values within ±2,047, and a block that the decoder accepts.
use Rattle.std.specs.Prelude.{◌≡◌, ℕ, zero, suc, ◌-◌, ◌*◌, ◌^◌, take, replicate, ℤ, pos}
use Rattle.std.proofs.Math.Path.{refl, subst}
use Rattle.std.proofs.Common.{sym, ◌∙◌, take_at}
use mathlib.Core.List.{List, ◌++◌}
use Rattle.std.proofs.Math.ListN.{length}
use Rattle.spec.specs.Code.{code, map_bytes}
use Rattle.spec.specs.Score.{taken}
use Rattle.spec.specs.Faults.{first, settled}
use Rattle.spec.specs.Refusals.{Room, code_faults, run_faults, table_faults, decode_faults}
use Rattle.spec.specs.Record.{exponent, is_arikan, positions, list_size, stop_position, pair_count, record_map, record_pairs, record_code, soft_at, record_soft, shape_faults, field_faults}
use Rattle.spec.specs.Outcome.{padded, Job, job, refused_job, Reading, reading, read_refusal, read_served, read_outcome, decode_refusal}
use Rattle.laws.specs.FirstFault.{First, none, later, of_first, first_is, is_first, end, next, found_after, same}
use Rattle.laws.specs.Accepted.{code_numbers}
use Rattle.laws.specs.ListCost.{All}
use Rattle.laws.specs.Taken.{taken_range}
use Rattle.laws.specs.SmallSoft.{Small, taken_small, small_padded}
use Rattle.job_fields.specs.Laid.{Shaped, length_map, length_pairs}
use Rattle.job.specs.SoftValues.{length_soft}
use Rattle.job.specs.Calls.{accepted_record, read_served_lem}

module _ (s : List ℕ) (maps softs pairs : ℕ) (e : 0 ≡ read_refusal s maps softs pairs) where
  faults : First (shape_faults s ++ field_faults s maps softs pairs) 0
  unfolding read_refusal
  faults = of_first (shape_faults s ++ field_faults s maps softs pairs) 0 e

  shaped : Shaped s
  shaped = (accepted_record s maps softs pairs e).shaped

  -- the map, the pairs and the soft values, each at the front of its slice
  pub map_at_front : (a : ℕ) → take (map_bytes (positions s)) (padded 0 a (record_map s)) ≡ record_map s
  map_at_front a = take_at (record_map s) (replicate (a - length (record_map s)) 0) (map_bytes (positions s)) (length_map shaped)

  pub pairs_at_front : (a : ℕ) → take (4 * pair_count s) (padded 0 a (record_pairs s)) ≡ record_pairs s
  pairs_at_front a = take_at (record_pairs s) (replicate (a - length (record_pairs s)) 0) (4 * pair_count s) (length_pairs shaped)

  pub soft_at_front : (a : ℕ) → take (positions s) (padded (pos 0) a (taken (record_soft s))) ≡ taken (record_soft s)
  soft_at_front a =
      take_at (taken (record_soft s)) (replicate (a - length (taken (record_soft s))) (pos 0)) (positions s) (length_soft s (soft_at s) (positions s))

  -- a block that the decoder does not refuse for its code or its run: 1 to 7 and 15
  pub block_accepted : First (code_faults (record_code s)) 0 × First (run_faults (positions s) (list_size s) (stop_position s) (taken (record_soft s))) 0
  block_accepted = go faults
    where
      go : First (shape_faults s ++ field_faults s maps softs pairs) 0
          → First (code_faults (record_code s)) 0 × First (run_faults (positions s) (list_size s) (stop_position s) (taken (record_soft s))) 0
      go (later _ (later _ (later _ (later m (later _ (later _ (later _ (later map (later part (later many (later rule (later l (later p (later y _)))))))))))))) =
          let long-map = same (length (record_map s)) (map_bytes (positions s)) (length_map shaped) in
          let long-soft = same (length (taken (record_soft s))) (positions s) (length_soft s (soft_at s) (positions s)) in (
            later m (later long-map (later map (later part (later many (later rule none))))),
            later l (later p (later long-soft (later (taken_range (record_soft s) ∙ y) none))),
          )

  -- the decoder can refuse the block for the tables and outputs alone that are lent to it: 8 to 10
  pub block_refusal : (r : Room) → first (table_faults (positions s) (list_size s) r)
      ≡ decode_refusal (record_code s) (list_size s) (stop_position s) (taken (record_soft s)) r
  unfolding decode_refusal
  block_refusal r =
      is_first (decode_faults (record_code s) (list_size s) (stop_position s) (taken (record_soft s)) r) _
      (found_after (code_numbers (record_code s)) block_accepted.0
      (found_after (next (next (next (next end)))) block_accepted.1 (first_is (table_faults (positions s) (list_size s) r))))

-- an answer with fields: the decoder, given these and the fronts of the three slices, the map, four bytes a pair and n soft values,
-- refuses for the tables and outputs alone that are lent to it
abbrev pub OnlyByRoom : Job → List ℕ → List ℤ → List ℕ → Room → Type 0
OnlyByRoom (job m a l p f k) map soft pairs r =
    decode_refusal (code m a (take (map_bytes (2 ^ m)) map) (take (4 * k) pairs)) l p (take (2 ^ m) soft) r ≡ first (table_faults (2 ^ m) l r)
OnlyByRoom (refused_job k) map soft pairs r = Unit {0}

module _ (s map : List ℕ) (soft : List ℤ) (pairs : List ℕ) where
  -- Every soft value in the slice lies within ±2,047, once a record is read.
  pub handed_out_in_range : 0 ≡ read_refusal s (length map) (length soft) (length pairs)
      → All Small (read_outcome s map soft pairs).soft
  unfolding read_served
  handed_out_in_range e =
      subst (λ (o : Reading). All Small o.soft) (read_served_lem s map soft pairs e)
      (small_padded (length soft - length (taken (record_soft s))) (taken_small (record_soft s) (accepted_record s (length map) (length soft) (length pairs) e).range))

  -- What the reader hands out is accepted by every decoder call that is lent enough.
  pub handed_out_accepted : (r : Room) → let o : Reading = read_outcome s map soft pairs in OnlyByRoom o.answer o.map o.soft o.pairs r
  unfolding read_outcome read_served
  handed_out_accepted r = by_number (read_refusal s (length map) (length soft) (length pairs)) refl
    where
      same_call : {u u' q q' : List ℕ} {y y' : List ℤ} → u ≡ u' → q ≡ q' → y ≡ y'
          → decode_refusal (code (exponent s) (is_arikan s) u q) (list_size s) (stop_position s) y r
          ≡ decode_refusal (code (exponent s) (is_arikan s) u' q') (list_size s) (stop_position s) y' r
      same_call a b d = rw (a, b, d)

      by_number : (k : ℕ) → k ≡ read_refusal s (length map) (length soft) (length pairs)
          → let o : Reading = settled k (λ j. reading (refused_job j) map soft pairs) (read_served s (length map) (length soft) (length pairs)) in
          OnlyByRoom o.answer o.map o.soft o.pairs r
      by_number zero e =
          let maps : ℕ = length map in
          let softs : ℕ = length soft in
          let many : ℕ = length pairs in
          same_call (map_at_front s maps softs many e maps) (pairs_at_front s maps softs many e many) (soft_at_front s maps softs many e softs)
          ∙ sym (block_refusal s maps softs many e r)
      by_number (suc k) e = tt
