-- The conditions 4 to 7 in two parts: every call with a list and every call with soft values takes its part from here.
use Rattle.std.specs.Prelude.{List, [], ◌∷◌, ℕ, ltb, ℤ, length}
use Rattle.spec.specs.Faults.{Fault, fault, outside, some}
use Rattle.spec.specs.Refusals.{out_of_range, length_fault}
use Rattle.laws.specs.FirstFault.{Numbered, end, next}

-- 4 and 5: list size l and stop position p for n positions
abbrev pub range_faults : ℕ → ℕ → ℕ → List Fault
range_faults n l p = fault 4 (outside 1 32 l) ∷ fault 5 (ltb n p) ∷ []

abbrev pub range_numbers : (n l p : ℕ) → Numbered (range_faults n l p)
range_numbers n l p = next (next end)

-- 6 and 7: soft values for n positions
abbrev pub soft_faults : ℕ → List ℤ → List Fault
soft_faults n soft = length_fault n (length soft) ∷ fault 7 (some out_of_range soft) ∷ []
