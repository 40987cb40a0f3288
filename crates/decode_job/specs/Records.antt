-- What is written for a record, by what the reader makes of it.
use Rattle.std.proofs.Math.Path.{◌≡◌, refl, ap}
use Rattle.std.proofs.Common.{sym, ◌∙◌, arith, lt-ltb, le-ltb, ltb-false}
use Rattle.std.specs.Prelude.{Bool, length, pos}
use mathlib.Core.List.{List, ◌++◌}
use Prim.Native.Nat.{ℕ, zero, suc, ◌+◌, ◌*◌, ◌≤◌, ◌<◌}
use Rattle.std.proofs.Math.IntN.{ℤ}
use Rattle.spec.specs.Code.{code_transform}
use Rattle.spec.specs.Score.{taken}
use Rattle.spec.specs.Decoder.{rows, ceiling}
use Rattle.spec.specs.Faults.{first, settled}
use Rattle.spec.specs.Record.{positions, exponent, is_arikan, list_size, stop_position, frame_number, record_map, pair_count, record_pairs, record_code, record_soft, shape_faults, field_faults}
use Rattle.spec.specs.Refusals.{table_faults}
use Rattle.spec.specs.Outcome.{job, refused_job, Job, Reading, reading, padded, read_refusal, read_served, read_outcome, decode_refusal}
use Rattle.laws.specs.FirstFault.{First, none, later, of_first, is_first, first_before, first_after, Numbered, end, next, settled_refused, settled_served}
use Rattle.laws.specs.Taken.{taken_twice}
use Rattle.job.specs.HandedOut.{map_at_front, pairs_at_front, soft_at_front, block_refusal}
use Rattle.row_text.specs.Output.{refused_text}
use Rattle.row_text.specs.RowsText.{text_of}
use Rattle.decode_job.specs.ProgramOutput.{record_faults, record_rows, record_ceiling, program_output}
use Rattle.block_output.specs.Block.{limit_faults, block_room, decoded_text, block_text, tables_fit}

-- what is written for the reader's answer and what it leaves
abbrev text_for : Job → List ℕ → List ℤ → List ℕ → List ℕ
text_for (job m a l p f k) map soft pairs = block_text m a l p f k map pairs soft
text_for (refused_job k) map soft pairs = refused_text k

-- the output for an input that is not too long
unfoldable pub record_output : List ℕ → List ℕ
record_output s = settled (first (record_faults s)) refused_text (text_of (frame_number s) (record_rows s) (record_ceiling s))

pub too_long : (s : List ℕ) → 4096 < length s → refused_text 13 ≡ program_output s
unfolding program_output first
too_long s h = rw (lt-ltb 4096 (length s) h)

pub not_too_long : (s : List ℕ) → length s ≤ 4096 → record_output s ≡ program_output s
unfolding program_output record_output first
not_too_long s h = rw (le-ltb 4096 (length s) h)

module _ (s : List ℕ) where
  abbrev reader : ℕ
  reader = read_refusal s 128 1024 1024

  reader_numbers : Numbered (shape_faults s ++ field_faults s 128 1024 1024)
  reader_numbers = next (next (next (next (next (next (next (next (next (next (next (next (next (next (next (next (next end))))))))))))))))

  -- the block that the reader hands out
  abbrev handed : List ℤ
  handed = taken (record_soft s)

  -- if the program's tables can hold it, the decoder does not refuse it
  decoder_accepts : 0 ≡ reader → 0 ≡ first (limit_faults (positions s) (list_size s))
      → 0 ≡ decode_refusal (record_code s) (list_size s) (stop_position s) handed block_room
  decoder_accepts e g = within (of_first (limit_faults (positions s) (list_size s)) 0 g) ∙ block_refusal s 128 1024 1024 e block_room
    where
      within : First (limit_faults (positions s) (list_size s)) 0 → 0 ≡ first (table_faults (positions s) (list_size s) block_room)
      within (later n (later k none)) =
          let few = ltb-false 4 (list_size s) k in
          let fit = tables_fit (positions s) (list_size s) (ltb-false 64 (positions s) n) few in
          is_first (table_faults (positions s) (list_size s) block_room) 0
          (later (le-ltb 8192 (32 * (positions s * list_size s)) fit.0)
          (later (le-ltb 2048 ((4 * positions s + 256) * list_size s) fit.1)
          (later (le-ltb 256 (positions s * list_size s) fit.2)
          (later (le-ltb 256 (positions s * list_size s) fit.2)
          (later (le-ltb 4 (list_size s) few)
          none)))))

  -- a record that is good so far: its output is decided by the program's tables
  tables_decide : 0 ≡ reader → first (limit_faults (positions s) (list_size s)) ≡ first (record_faults s)
  unfolding read_refusal
  tables_decide e =
      first_after (shape_faults s ++ field_faults s 128 1024 1024) (limit_faults (positions s) (list_size s)) 0 e reader_numbers refl (first (limit_faults (positions s) (list_size s))) refl

  good_record : 0 ≡ reader
      → settled (first (limit_faults (positions s) (list_size s))) refused_text (decoded_text (record_code s) (list_size s) (stop_position s) (frame_number s) handed) ≡ record_output s
  unfolding record_output decoded_text
  good_record e = by_number (first (limit_faults (positions s) (list_size s))) refl ∙ ap output (tables_decide e)
    where
      text : List ℤ → List ℕ
      text y =
          text_of (frame_number s) (rows (code_transform (record_code s)) (record_code s) y (list_size s) (stop_position s))
          (ceiling (code_transform (record_code s)) (record_code s) y (list_size s) (stop_position s))

      output : ℕ → List ℕ
      output r = settled r refused_text (text handed)

      by_number : (t : ℕ) → t ≡ first (limit_faults (positions s) (list_size s))
          → settled t refused_text (decoded_text (record_code s) (list_size s) (stop_position s) (frame_number s) handed) ≡ output t
      by_number zero g = sym (settled_served refused_text (text (taken handed)) _ (decoder_accepts e g)) ∙ ap text (taken_twice (record_soft s))
      by_number (suc t) g = refl

  -- the map, the pairs and the soft values at the front of slices are those of the record
  front : 0 ≡ reader → (a b c : ℕ)
      → block_text (exponent s) (is_arikan s) (list_size s) (stop_position s) (frame_number s) (pair_count s) (padded 0 a (record_map s)) (padded 0 c (record_pairs s)) (padded (pos 0) b handed)
      ≡ settled (first (limit_faults (positions s) (list_size s))) refused_text (decoded_text (record_code s) (list_size s) (stop_position s) (frame_number s) handed)
  unfolding block_text
  front e a b c = rw (map_at_front s 128 1024 1024 e a, pairs_at_front s 128 1024 1024 e c, soft_at_front s 128 1024 1024 e b)

  -- the reader's slices, which have room for every record, and what it leaves in them
  module _ (map map' : List ℕ) (soft soft' : List ℤ) (pairs pairs' : List ℕ) (maps : length map ≡ 128) (softs : length soft ≡ 1024) (many : length pairs ≡ 1024) where
    reader_is : read_refusal s (length map) (length soft) (length pairs) ≡ reader
    reader_is = rw (maps, softs, many)

    pub refused_record : (k : ℕ) → reading (refused_job k) map' soft' pairs' ≡ read_outcome s map soft pairs → refused_text k ≡ record_output s
    unfolding read_outcome read_served read_refusal record_output
    refused_record k = by_number (read_refusal s (length map) (length soft) (length pairs)) reader_is
      where
        by_number : (r : ℕ) → r ≡ reader → reading (refused_job k) map' soft' pairs' ≡ settled r (λ j. reading (refused_job j) map soft pairs) (read_served s (length map) (length soft) (length pairs))
            → refused_text k ≡ record_output s
        by_number zero e q =
            let a : refused_job k ≡ job (exponent s) (is_arikan s) (list_size s) (stop_position s) (frame_number s) (pair_count s) = ap (λ (o : Reading). o.answer) q in
            let n : ◌≡◌ {A = ℕ} 0 1 = cc in
            absurd (omega arith)
        by_number (suc r) e q =
            let a : refused_job k ≡ refused_job (suc r) = ap (λ (o : Reading). o.answer) q in
            let n : k ≡ suc r = cc in
            ap refused_text n
            ∙ settled_refused refused_text (text_of (frame_number s) (record_rows s) (record_ceiling s)) (suc r) (first (record_faults s))
            (first_before (shape_faults s ++ field_faults s 128 1024 1024) (limit_faults (positions s) (list_size s)) (suc r) e (λ z. omega arith)) (λ z. omega arith)

    pub read_record : {m : ℕ} {a : Bool} {l p f k : ℕ} → reading (job m a l p f k) map' soft' pairs' ≡ read_outcome s map soft pairs → block_text m a l p f k map' pairs' soft' ≡ record_output s
    unfolding read_outcome read_served
    read_record {m} {a} {l} {p} {f} {k} = by_number (read_refusal s (length map) (length soft) (length pairs)) reader_is
      where
        by_number : (r : ℕ) → r ≡ reader → reading (job m a l p f k) map' soft' pairs' ≡ settled r (λ j. reading (refused_job j) map soft pairs) (read_served s (length map) (length soft) (length pairs))
            → block_text m a l p f k map' pairs' soft' ≡ record_output s
        by_number zero e q =
            let b = ap (λ (o : Reading). text_for o.answer o.map o.soft o.pairs) q in
            b ∙ front e (length map) (length soft) (length pairs) ∙ good_record e
        by_number (suc r) e q =
            let w : job m a l p f k ≡ refused_job (suc r) = ap (λ (o : Reading). o.answer) q in
            let n : ◌≡◌ {A = ℕ} 0 1 = cc in
            absurd (omega arith)
