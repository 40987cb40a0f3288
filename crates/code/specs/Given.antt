-- The refusals 1, 2, 3, 15, 6 and 11: of a code and of what is given with it, which must be n bits.
use Rattle.std.specs.Prelude.{◌≡◌, Bool, List, [], ◌∷◌, ◌++◌, ℕ, ◌^◌, length}
use Rattle.std.proofs.Common.{ap}
use Rattle.spec.specs.Bits.{Bits}
use Rattle.spec.specs.Code.{Code, code, frozen}
use Rattle.spec.specs.Faults.{Fault}
use Rattle.spec.specs.Refusals.{code_faults, length_fault, bit_fault}
use Rattle.laws.specs.FirstFault.{First, none, later, found_after, none_before, none_after, Numbered, end, next, same, same_of}
use Rattle.laws.specs.MapBits.{flags_of, no_above, bits_not_above}
use Rattle.laws.specs.Accepted.{Accepted, accepted_of, no_fault, code_numbers}

-- the flags that a loop over n positions reads
pub flags_are : (m n : ℕ) (arikan : Bool) (map pairs : List ℕ) → n ≡ 2 ^ m → flags_of n map ≡ frozen (code m arikan map pairs)
unfolding frozen
flags_are m n arikan map pairs e = ap (λ (k : ℕ). flags_of k map) e

abbrev pub bit_faults : ℕ → List ℕ → List Fault
bit_faults n given = length_fault n (length given) ∷ bit_fault given ∷ []

abbrev pub given_faults : Code → ℕ → List ℕ → List Fault
given_faults c n given = code_faults c ++ bit_faults n given

pub record Given (c : Code) (n : ℕ) (given : List ℕ) : Type 0 where
  pub accepts : Accepted c
  pub long : length given ≡ n
  pub bits : Bits given

abbrev pub given_numbers : (c : Code) (n : ℕ) (given : List ℕ) → Numbered (given_faults c n given)
given_numbers c n given = next (next (next (next (next (next (next (next end)))))))

module _ {c : Code} {n : ℕ} {given : List ℕ} where
  given_parts : First (code_faults c) 0 → First (bit_faults n given) 0 → Given c n given
  given_parts f (later a (later b none)) = record { accepts = accepted_of f; long = same_of (length given) n a; bits = no_above given b }

  pub given_of : First (given_faults c n given) 0 → Given c n given
  given_of f = given_parts (none_before (bit_faults n given) (code_numbers c) f) (none_after (code_numbers c) f)

  pub given_none : Given c n given → First (given_faults c n given) 0
  given_none g = found_after (code_numbers c) (no_fault g.accepts) (later (same (length given) n g.long) (later (bits_not_above g.bits) none))
