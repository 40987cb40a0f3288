-- The shape of a result record: what is known of it once its first three bytes are read, and what the answer says.
use Rattle.std.specs.Prelude.{◌≡◌, List, ℕ, ◌+◌, ◌*◌, ◌^◌, ◌≤◌, length, Result, Ok, Err}
use Rattle.spec.specs.Code.{map_bytes}
use Rattle.spec.specs.Faults.{Fault, first}
use Rattle.spec.specs.Record.{fields, exponent}
use Rattle.spec.specs.ResultRecord.{scores_at, row_count, result_end, result_head_faults}
use Rattle.refusals.specs.declared.Refusal.{Refusal}
use Rattle.refusals.specs.Number.{number_of}
use Rattle.result_fields.specs.declared.record.ResultRecord.{ResultRecord}
use Rattle.result_refusals.specs.declared.head.Head.{Head}

module _ (s : List ℕ) where
  -- the map of fields, m and the row count are read, and in range
  pub record Headed (f m k : ℕ) : Type 0 where
    pub fields_are : f ≡ fields s
    pub m_is : m ≡ exponent s
    pub rows_are : k ≡ row_count s
    pub begun : 3 ≤ length s
    pub known : fields s ≤ 3
    pub low : 2 ≤ exponent s
    pub high : exponent s ≤ 10
    pub some_rows : 1 ≤ row_count s
    pub few_rows : row_count s ≤ 32

  -- an answer about the head: the three numbers, if none of its conditions applies, or the first that does
  abbrev pub HeadFound : Result Head Refusal → Type 0
  HeadFound (Ok h) = Headed h.fields h.m h.rows × (0 ≡ first (result_head_faults s))
  HeadFound (Err e) = number_of e ≡ first (result_head_faults s)

  -- an answer: the record with its layout, if none of the conditions applies, or the first that does
  abbrev pub Found : List Fault → Result ResultRecord Refusal → Type 0
  Found fs (Ok r) = (r.bytes.now ≡ s) × (0 ≡ first fs)
  Found fs (Err e) = number_of e ≡ first fs

-- where a record with this head must end
pub end_is : {s : List ℕ} {f m k : ℕ} → Headed s f m k → scores_at f + 4 * k + k * map_bytes (2 ^ m) ≡ result_end s
end_is w = rw (w.fields_are, w.m_is, w.rows_are)
