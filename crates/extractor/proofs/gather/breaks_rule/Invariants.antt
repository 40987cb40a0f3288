-- What is left to look at decides, run by run.
use Rattle.std.proofs.Common.{◌≡◌, Bool, ℕ, ◌-◌, ◌≤◌, length, drop}
use Rattle.spec.specs.Code.{code, broken_from}
use Rattle.laws.specs.MapBits.{flags_of}
use Rattle.laws.specs.PairRuns.{Part, Reached}
use Rattle.extractor.proofs.gather.breaks_rule.Given as goal

abbrev pub invariant-loop-at : goal.invariant-loop-at
invariant-loop-at l =
    (Part l.at l.at l.pairs)
    × (Reached (flags_of (length l.input) l.map) l.i l.at l.pairs)
    × (l.i ≤ length l.input)
    × ((m : ℕ) (arikan : Bool) → broken_from (code m arikan l.map l.pairs) l.input 0 (flags_of (length l.input) l.map)
    ≡ broken_from (code m arikan l.map l.pairs) l.input l.i (drop l.i (flags_of (length l.input) l.map)))

abbrev pub decreases-loop-at : goal.decreases-loop-at
decreases-loop-at l = length l.input - l.i
