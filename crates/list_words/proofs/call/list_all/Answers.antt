-- The columns, the count, and then the rows or nothing.
use Rattle.std.proofs.Common.{◌≡◌, refl, subst, ◌∙◌, List, ℕ, ℤ, length, arith, rules}
use mir.Syntax.{w32}
use mir.ValLaws.{to_z-of_z}
use Rattle.spec.specs.Code.{Code, size}
use Rattle.spec.specs.Score.{taken}
use Rattle.code.specs.Codes.{code_of}
use Rattle.correlations.specs.Folding.{columns}
use Rattle.payload_blocks.specs.Payloads.{generators, correlations}
use Rattle.payload_blocks.specs.BlockFits.{BlockFits}
use Rattle.list_words.specs.Hits.{hits}
use Rattle.list_words.specs.Kept.{Kept}
use Rattle.list_words.specs.Listed.{ListFits}
use Rattle.list_words.proofs.Passing.{block_again}
use Rattle.list_words.proofs.call.list_all.Goals as goal

pub find_columns-requires : goal.find_columns-requires
find_columns-requires c = let p = c.requires in (p.memory, p.cols_long, omega (arith, p.last, p.few))

-- what a block is made from, once the columns are found
fits : {o : Code} {soft : List ℤ} {r n total cols payload word bins inputs words scores payload' word' : ℕ} {made : List ℕ}
    → ListFits o soft r n total cols payload word bins inputs words scores → payload' ≡ payload → word' ≡ word → made ≡ columns (size o) (generators o r)
    → BlockFits o soft made r payload' word' bins
fits p ep ew e = record {
  lent = record { accepts = p.memory.accepts; payload_long = ep ∙ p.memory.payload_long; word_long = ew ∙ p.memory.word_long };
  soft_long = p.soft_long;
  in_range = p.in_range;
  few = p.few;
  last = p.last;
  bins_long = p.bins_long;
  columns_are = e;
}

pub count_words-found-requires : goal.count_words-found-requires
count_words-found-requires c =
    (fits c.requires c.find_columns.auto.payload c.find_columns.auto.word c.find_columns.ensures, c.requires.all)

pub returns-then-found-scores : goal.returns-then-found-scores
returns-then-found-scores c =
    let o : Code = code_of c.args.code in
    record {
      count = subst (λ (z : ℤ). c.count_words-found.result ≡ length (hits z 0 (correlations o (taken c.args.soft.now)))) (to_z-of_z w32 c.args.mark c.ranges.mark) c.count_words-found.ensures;
      rows_are = λ h. absurd (omega (arith, h, c.if-found-scores.true));
      untouched = λ h. (refl, refl, refl);
    }

pub write_rows-requires : goal.write_rows-requires
write_rows-requires c =
    let p = c.requires in (
      block_again (fits p c.find_columns.auto.payload c.find_columns.auto.word c.find_columns.ensures)
          c.count_words-found.auto.payload c.count_words-found.auto.word c.count_words-found.auto.bins,
      p.all,
      record { row = p.row; room = omega (arith, c.count_words-found.ensures, c.if-found-scores.false); inputs_there = p.inputs_there; words_there = p.words_there },
    )

pub returns : goal.returns
returns c =
    let o : Code = code_of c.args.code in
    let y : List ℤ = taken c.args.soft.now in
    let mark = to_z-of_z w32 c.args.mark c.ranges.mark in
    record {
      count = subst (λ (z : ℤ). c.count_words-found.result ≡ length (hits z 0 (correlations o y))) mark c.count_words-found.ensures;
      rows_are = λ h. subst (λ (z : ℤ). Kept o y (hits z 0 (correlations o y)) c.write_rows.new.inputs c.write_rows.new.words c.write_rows.new.scores) mark c.write_rows.ensures;
      untouched = λ h. absurd (omega (arith, h, c.if-found-scores.false));
    }
