use Rattle.std.proofs.Common.{sym, ◌∙◌, length, arith}
use Rattle.rows.proofs.Filling.{row_long}
use Rattle.rows.proofs.WordRows.{input_long, input_word, words_more}
use Rattle.rows.proofs.words.write_words.Goals as goal

pub put_word-requires : goal.put_word-requires
put_word-requires c =
    let a = c.args in
    let f = c.requires in
    let h = c.loop-r-test.true in (
      row_long a.n (length a.words.now) a.l a.count c.loop-r.r _ c.loop-r.words (omega arith) f.few f.room h (omega arith) ∙ sym (input_long f h _ (omega arith)),
      input_word f h _ (omega arith),
    )

pub loop-r-preserved : goal.loop-r-preserved
loop-r-preserved c = words_more c.requires c.loop-r-test.true _ (omega arith) c.args.arikan c.loop-r.invariant c.put_word.ensures c.put_word.auto.row
