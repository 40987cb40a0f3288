-- The head, the scores and the rows one behind the other.
use Rattle.std.proofs.Common.{◌≡◌, ap, ◌∙◌, List, ◌++◌, ℕ, ◌+◌, length, length-append, arith}
use Rattle.spec.specs.ResultWriter.{Result, head_bytes, score_bytes, packed_rows, size, written_result}
use Rattle.place.specs.Put.{then}
use Rattle.laws.specs.ResultWriting.{length_score_bytes, length_result}
use Rattle.result_writer.specs.Given.{given_of}
use Rattle.result_writer.proofs.block.BlockResult.put.Goals as goal

-- the parts of the record
abbrev rows_of : Result → List ℕ
rows_of r = packed_rows (size r) r.rows r.inputs

parts : (r : Result) → length (written_result r) ≡ length (head_bytes r) + (length (score_bytes r.scores) + length (rows_of r))
unfolding written_result
parts r =
    length-append (head_bytes r) (score_bytes r.scores ++ rows_of r)
    ∙ ap (λ (k : ℕ). length (head_bytes r) + k) (length-append (score_bytes r.scores) (rows_of r))

pub put_head-a-requires : goal.put_head-a-requires
put_head-a-requires c =
    let w = c.requires.0 in
    (w, omega (arith, length_result (given_of c.args.self) w.scores_long, w.some_rows, c.requires.1))

pub put_scores-b-requires : goal.put_scores-b-requires
put_scores-b-requires c =
    let r = given_of c.args.self in
    omega (arith, c.put_head-a.ensures.place, parts r, length_score_bytes r.scores, c.requires.1, c.put_head-a.auto.out)

pub put_rows-requires : goal.put_rows-requires
put_rows-requires c = (
  c.requires.0,
  omega (
    arith,
    c.put_head-a.ensures.place,
    c.put_scores-b.ensures.0.place,
    parts (given_of c.args.self),
    c.requires.1,
    c.put_head-a.auto.out,
    c.put_scores-b.auto.out,
  ),
)

pub returns : goal.returns
unfolding written_result
returns c = then c.put_head-a.ensures (then c.put_scores-b.ensures.0 c.put_rows.ensures)
