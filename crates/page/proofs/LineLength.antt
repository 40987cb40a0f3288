-- Every line of a page has 43 columns and a line feed behind them: the numbers fit into their columns, whatever the bytes of the input are,
-- and a column shows a space or a visible character.
use Rattle.std.specs.Prelude.{refl, List, [], ◌∷◌, ◌++◌, ℕ, zero, suc, ◌<◌, length}
use Rattle.std.proofs.Common.{sym, subst, append_assoc, arith, length-append}
use Rattle.spec.specs.ResultRecord.{first_score}
use Rattle.laws.specs.ListCost.{All, none, more, all_append}
use Rattle.result_round_trip.specs.FourBytes.{Byte, first_wide}
use Rattle.text.specs.Decimal.{signed_decimal}
use Rattle.text.specs.Words.{space}
use Rattle.columns.specs.Columns.{right, length_right}
use Rattle.page.specs.Lines.{lead, counts, result_line, refused_line, last_line}
use Rattle.page.specs.Lead.{score_short, lead_short}
use Rattle.page.specs.Page.{Entry, Shift, shift_from, entry_lines, row_sum, closing, page_of, page}
use Rattle.page.specs.LineLength.{right_shown, signed_shown, lead_shown, space_shown, counts_shown, Line, counts_long, refused_line_lem, last_line_lem, Small, shift_fine, InLines, a_line, one_line, rows_few}

-- ---- the line of a record
pub result_line_lem : (e : Entry) → Small e → Line (result_line e.frame e.rows e.scores)
unfolding result_line
result_line_lem e s =
    let a : List ℕ = counts e.frame e.rows in
    let b : List ℕ = right 12 (signed_decimal (first_score e.scores)) in
    let c : List ℕ = right 12 (lead e.scores) in
    record {
      columns = a ++ (space ++ b) ++ (space ++ c);
      long =
          omega (
            arith,
            length-append (a ++ (space ++ b)) (space ++ c),
            length-append a (space ++ b),
            length-append space b,
            length-append space c,
            counts_long e.frame e.rows s.frame (omega (arith, s.rows)),
            length_right 12 (signed_decimal (first_score e.scores)) (score_short (first_score e.scores) (first_wide s.scores)),
            length_right 12 (lead e.scores) (lead_short e.scores s.scores s.falling),
          );
      shown =
          all_append
          (all_append (counts_shown e.frame e.rows) (space_shown (right_shown 12 (signed_shown (first_score e.scores)))))
          (space_shown (right_shown 12 (lead_shown e.scores)));
      is = refl;
    }

-- ---- the page in lines
entries_in_lines : (es : List Entry) → All Small es → (u : List ℕ) → InLines u → InLines (entry_lines es ++ u)
unfolding entry_lines
entries_in_lines [] none u l = l
entries_in_lines (e ∷ es) (more h all) u l =
    let line : List ℕ = result_line e.frame e.rows e.scores in
    subst InLines (sym (append_assoc line (entry_lines es) u))
    (a_line line (entry_lines es ++ u) (result_line_lem e h) (entries_in_lines es all u l))

closing_in_lines : (n k rows : ℕ) → n < 100 → k < 4294967296 → rows < 1000000 → InLines (closing n k rows)
closing_in_lines zero k rows h i j = one_line (last_line k rows) (last_line_lem k rows i j)
closing_in_lines (suc n) k rows h i j =
    a_line (refused_line (suc n)) (last_line k rows) (refused_line_lem (suc n) (omega arith)) (one_line (last_line k rows) (last_line_lem k rows i j))

-- 43 COLUMNS. The page of any input of bytes is such lines, one behind the other.
pub page_in_lines : (s : List ℕ) → All Byte s → InLines (page s)
unfolding page page_of
page_in_lines s bytes =
    let x : Shift = shift_from 1000 s in
    let n : ℕ = length x.entries in
    let sum : ℕ = row_sum x.entries in
    let fine = shift_fine 1000 s bytes in
    let few : sum < 1000000 = omega (arith, fine.few, rows_few x.entries fine.entries) in
    entries_in_lines x.entries fine.entries (closing x.refusal n sum)
    (closing_in_lines x.refusal n sum fine.number (omega (arith, fine.few)) few)
