-- The shape of a record: what is known of it on the way to where its parts lie, and the conditions that are tested there.
use Rattle.std.specs.Prelude.{◌≡◌, Result, Ok, Err, not, List, [], ◌∷◌, ℕ, ◌+◌, ◌*◌, ◌≤◌, ltb, eqb, length}
use Rattle.std.proofs.Common.{ltb-false}
use Rattle.spec.specs.Faults.{Fault, fault, first}
use Rattle.spec.specs.Record.{fields, exponent, positions, pairs_at, pair_count, soft_at, shape_faults}
use Rattle.laws.specs.FirstFault.{First, none, later, Numbered, end, next, inside_of, same_of}
use Rattle.job_fields.specs.Laid.{Shaped}
use Rattle.job_fields.specs.declared.record.JobRecord.{JobRecord}
use Rattle.refusals.specs.declared.Refusal.{Refusal}
use Rattle.refusals.specs.Number.{number_of}

module _ (s : List ℕ) where
  -- the last conditions of shapeFaults: the length and the count
  abbrev pub length_faults : List Fault
  length_faults =
      fault 13 (ltb (length s) (pairs_at s))
      ∷ fault 15 (ltb 256 (pair_count s))
      ∷ fault 13 (not (eqb (length s) (soft_at s + 2 * positions s)))
      ∷ []

  -- the map of fields and m are read, and m is in range
  pub record Headed (f m : ℕ) : Type 0 where
    pub fields_are : f ≡ fields s
    pub m_is : m ≡ exponent s
    pub low : 2 ≤ exponent s
    pub high : exponent s ≤ 10

  -- an answer: the record with its layout, if none of the conditions applies, or the first that does
  abbrev pub Found : List Fault → Result JobRecord Refusal → Type 0
  Found fs (Ok r) = (r.bytes.now ≡ s) × (0 ≡ first fs)
  Found fs (Err e) = number_of e ≡ first fs

  -- a record that no condition applies to, and the numbers of all
  pub shaped_of : First (shape_faults s) 0 → Shaped s
  shaped_of (later _ (later _ (later _ (later m (later _ (later k (later e none))))))) =
      let r = inside_of 2 10 (exponent s) m in
      record { low = r.0; high = r.1; few = ltb-false 256 (pair_count s) k; whole = same_of (length s) (soft_at s + 2 * positions s) e }

  abbrev pub shape_numbers : Numbered (shape_faults s)
  shape_numbers = next (next (next (next (next (next (next end))))))
