use Rattle.std.proofs.Common.{get_or}
use Rattle.windows.specs.Op.{Wrote}
use Rattle.positions.specs.History.{note_of}
use Rattle.positions.proofs.history.note.Given as goal

abbrev pub invariant-loop-r : goal.invariant-loop-r
invariant-loop-r l = Wrote (λ k. note_of (get_or l.code k 0)) l.at l.r l.fn.b l.b
