-- A code that is not refused: m from 2 to 10, the map of the right length, no bit of it set past the last position, and pairs that keep
-- their rules.
use Rattle.std.specs.Prelude.{◌≡◌, false, ◌||◌, List, ℕ, ◌%◌, ◌≤◌, length}
use Rattle.std.proofs.Common.{ap₂, pow_mono, ltb-false, le-ltb}
use Rattle.spec.specs.Code.{Code, size, map_bytes, frozen, pairs_in}
use Rattle.spec.specs.Faults.{first, some}
use Rattle.spec.specs.Refusals.{past_end, wrong_pair, not_rising, pair_faults, code_faults}
use Rattle.laws.specs.FirstFault.{First, none, later, of_first, Numbered, end, next, inside, inside_of, same, same_of, not_either}
use Rattle.laws.specs.MapBits.{length_frozen}

-- pairs that are not refused, by the flags of the positions
pub record Ruled (flags pairs : List ℕ) : Type 0 where
  pub whole : length pairs % 4 ≡ 0
  pub few : length (pairs_in pairs) ≤ 256
  pub right : some (wrong_pair flags) (pairs_in pairs) ≡ false
  pub rising : not_rising (pairs_in pairs) ≡ false

ruled_of : {flags pairs : List ℕ} → First (pair_faults flags pairs) 0 → Ruled flags pairs
ruled_of {flags} {pairs} (later w (later f (later r none))) =
    let q = not_either (some (wrong_pair flags) (pairs_in pairs)) (not_rising (pairs_in pairs)) r in
    record { whole = same_of (length pairs % 4) 0 w; few = ltb-false 256 (length (pairs_in pairs)) f; right = q.0; rising = q.1 }

no_pair_fault : {flags pairs : List ℕ} → Ruled flags pairs → First (pair_faults flags pairs) 0
no_pair_fault {flags} {pairs} a =
    later (same (length pairs % 4) 0 a.whole)
    (later (le-ltb 256 (length (pairs_in pairs)) a.few) (later (ap₂ ◌||◌ a.right a.rising) none))

pub record Accepted (c : Code) : Type 0 where
  pub low : 2 ≤ c.m
  pub high : c.m ≤ 10
  pub bytes : length c.map ≡ map_bytes (size c)
  pub ends : past_end (size c) c.map ≡ false
  pub ruled : Ruled (frozen c) c.pairs

pub accepted_of : {c : Code} → First (code_faults c) 0 → Accepted c
accepted_of {c} (later a (later b (later d f))) =
    let m = inside_of 2 10 c.m a in
    record { low = m.0; high = m.1; bytes = same_of (length c.map) (map_bytes (size c)) b; ends = d; ruled = ruled_of f }

pub no_fault : {c : Code} → Accepted c → First (code_faults c) 0
no_fault {c} a =
    later (inside 2 10 c.m a.low a.high)
    (later (same (length c.map) (map_bytes (size c)) a.bytes) (later a.ends (no_pair_fault a.ruled)))

-- each of the code's conditions has a number
abbrev pub code_numbers : (c : Code) → Numbered (code_faults c)
code_numbers c = next (next (next (next (next (next end)))))

pub accepted : (c : Code) → 0 ≡ first (code_faults c) → Accepted c
accepted c e = accepted_of (of_first (code_faults c) 0 e)

module _ {c : Code} (a : Accepted c) where
  pub size_small : size c ≤ 1024
  size_small = pow_mono {i = c.m} {j = 10} a.high

  pub flag_count : length (frozen c) ≡ size c
  flag_count = length_frozen c a.bytes
