use Rattle.std.proofs.Common.{◌≡◌, ◌+◌, ◌-◌, ◌*◌, ◌≤◌, drop}
use Rattle.place.specs.Put.{Left}
use Rattle.row_text.specs.Output.{row_lines}
use Rattle.row_text.proofs.listing.put_rows.Given as goal

-- The rows that are left complete the lines, and what is left of the slices and of the buffer is enough for them.
abbrev pub invariant-loop-rank : goal.invariant-loop-rank
invariant-loop-rank l = record {
  bits : l.from + (l.rows - l.rank) * l.n ≡ l.rows * l.n;
  room : l.next + (l.rows - l.rank) * (2 * l.n + 25) ≤ l.at + l.rows * (2 * l.n + 25);
  lines : Left l.at (row_lines l.n 0 l.rows l.inputs l.words l.scores) l.fn.out l.next (row_lines l.n l.rank (l.rows - l.rank) (drop l.from l.inputs) (drop l.from l.words) (drop l.rank l.scores)) l.out;
}
