-- The conditions that the fields of a record are refused for, in the parts that the code tests one after the other: fieldFaults as
-- codeAndRangeFaults and lentFaults.
use Rattle.std.specs.Prelude.{List, [], ◌∷◌, ◌++◌, ℕ, ◌*◌}
use Rattle.spec.specs.Code.{map_bytes, frozen}
use Rattle.spec.specs.Faults.{Fault, fault, some}
use Rattle.spec.specs.Refusals.{past_end, out_of_range, pair_faults, room_fault}
use Rattle.spec.specs.Record.{positions, list_size, stop_position, pair_count, record_map, record_pairs, record_code, record_soft}
use Rattle.laws.specs.FirstFault.{Numbered, end, next}
use Rattle.ranges.specs.Ranges.{range_faults, range_numbers}

module _ (s : List ℕ) where
  abbrev pub record_code_faults : List Fault
  record_code_faults = fault 3 (past_end (positions s) (record_map s)) ∷ pair_faults (frozen (record_code s)) (record_pairs s)

  abbrev pub code_and_range_faults : List Fault
  code_and_range_faults = record_code_faults ++ range_faults (positions s) (list_size s) (stop_position s)

  abbrev pub lent_faults : ℕ → ℕ → ℕ → List Fault
  lent_faults maps softs pairs =
      fault 7 (some out_of_range (record_soft s))
      ∷ room_fault (map_bytes (positions s)) maps
      ∷ room_fault (positions s) softs
      ∷ room_fault (4 * pair_count s) pairs
      ∷ []

  abbrev pub record_code_numbers : Numbered record_code_faults
  record_code_numbers = next (next (next (next end)))

  abbrev pub code_and_range_numbers : Numbered code_and_range_faults
  code_and_range_numbers = next (next (next (next (range_numbers (positions s) (list_size s) (stop_position s)))))
