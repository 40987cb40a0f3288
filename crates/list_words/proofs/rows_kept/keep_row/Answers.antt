-- One row more in each output.
use Rattle.std.proofs.Common.{◌≡◌, sym, ap, subst, ◌∙◌, List, [], ◌∷◌, ◌++◌, map, ℕ, ◌+◌, ◌-◌, ◌*◌, ◌≤◌, ℤ, pos, length, set, arith, to_z, of_z, w32}
use mir.ValLaws.{to_z-of_z}
use Rattle.spec.specs.Code.{Code}
use Rattle.spec.specs.Outcome.{padded}
use Rattle.spec.specs.Score.{correlation}
use Rattle.code.specs.Codes.{code_of}
use Rattle.list_words.specs.Hits.{input_at, word_at}
use Rattle.list_words.proofs.Keeping.{input_long, word_long, part_long, input_inside, word_inside, row_put, score_put}
use Rattle.list_words.proofs.rows_kept.keep_row.Goals as goal

pub returns : goal.returns
returns c y hs e es k =
    let o : Code = code_of c.args.code in
    let f = c.requires.0 in
    let n : ℕ = c.args.n in
    let at : ℕ = c.row_start-at.result in
    let width : at + n - at ≡ n = omega arith in
    let input_room : at + n ≤ length c.args.inputs.now = input_inside c.requires.1 c.row_start-at.ensures in
    let word_room : at + n ≤ length c.args.words.now = word_inside c.requires.1 c.row_start-at.ensures in
    let here : at ≡ n * length hs = c.row_start-at.ensures ∙ ap (λ (j : ℕ). n * j) (sym e) in
    record {
      inputs_are = row_put (input_at o) n (λ q. input_long f.accepts q ∙ sym f.word_long) hs c.args.inputs.now at (at + n - at) here width input_room k.inputs_are c.args.q c.put_row.new.input c.put_row.ensures.0;
      words_are = row_put (word_at o) n (λ q. word_long f.accepts q ∙ sym f.word_long) hs c.args.words.now at (at + n - at) here width word_room k.words_are c.args.q c.put_row.new.word c.put_row.ensures.1;
      scores_are = subst (λ (j : ℕ). let t : List ℤ = set c.args.scores.now j (to_z w32 (of_z w32 c.args.s)) in t ≡ padded (pos 0) (length t) (map (λ (q : ℕ). correlation y (word_at o q)) (hs ++ (c.args.q ∷ [])))) e
          (score_put (λ (q : ℕ). correlation y (word_at o q)) hs c.args.scores.now c.args.q (to_z w32 (of_z w32 c.args.s)) (omega (arith, e, c.requires.1.place)) (to_z-of_z w32 c.args.s c.ranges.s ∙ es) k.scores_are);
    }
