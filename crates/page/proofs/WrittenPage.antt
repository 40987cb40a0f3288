-- The page of results that the writer wrote, one record behind the other: none is refused, and each has the line of its own numbers. No code
-- is in scope: the theorems are over the definitions.
use Rattle.std.specs.Prelude.{◌≡◌, refl, length}
use Rattle.std.proofs.Common.{sym, ◌∙◌, arith}
use Rattle.std.proofs.Math.Path.{ap, ap₂}
use mathlib.Core.List.{List, [], ◌∷◌, ◌++◌, map, append_assoc, append-nil}
use Prim.Native.Nat.{ℕ, zero, suc, ◌+◌, ◌-◌, ◌≤◌}
use Rattle.std.proofs.lemmas.List.{length-map}
use Rattle.spec.specs.ResultWriter.{Result, written_result}
use Rattle.laws.specs.ListCost.{All, none, more}
use Rattle.page.specs.Lines.{refused_line, last_line}
use Rattle.page.specs.Page.{Entry, stopped, another, shift_from, entry_lines, row_sum, page_of, page}
use Rattle.page.specs.WrittenPage.{Writes, entry_of, stream, one_written, ahead, rows_of}

-- ---- entries in front of what is read behind them
pub written_ahead : (rs : List Result) → All Writes rs → (left : ℕ) (s : List ℕ) → shift_from (length rs + left) (stream rs ++ s) ≡ ahead (map entry_of rs) (shift_from left s)
written_ahead [] none left s = let e : 0 + left ≡ left = omega arith in ap (λ (n : ℕ). shift_from n s) e
written_ahead (r ∷ rs) (more x all) left s =
    let n : length (r ∷ rs) + left ≡ suc (length rs + left) = omega arith in
    ap₂ shift_from n (append_assoc (written_result r) (stream rs) s)
    ∙ one_written r x (length rs + left) (stream rs ++ s)
    ∙ ap (another (entry_of r)) (written_ahead rs all left s)

-- ---- THE PAGE OF A SHIFT. Of at most a thousand results that were written: a line for each, and then the last line.
pub written_page : (rs : List Result) → All Writes rs → length rs ≤ 1000
    → page (stream rs) ≡ entry_lines (map entry_of rs) ++ last_line (length rs) (rows_of rs)
unfolding page page_of shift_from
written_page rs all h =
    let n : length rs + (1000 - length rs) ≡ 1000 = omega arith in
    sym (ap₂ (λ (k : ℕ) (s : List ℕ). page_of (shift_from k s)) n (append-nil (stream rs)))
    ∙ ap page_of (written_ahead rs all (1000 - length rs) [] ∙ ap (ahead (map entry_of rs)) (ended (1000 - length rs)))
    ∙ ap (λ (es : List Entry). entry_lines es ++ last_line (length es) (row_sum es)) (append-nil (map entry_of rs))
    ∙ ap (λ (k : ℕ). entry_lines (map entry_of rs) ++ last_line k (rows_of rs)) (length-map rs entry_of)
  where
    ended : (left : ℕ) → shift_from left [] ≡ stopped 0
    ended zero = refl
    ended (suc left) = refl

-- and with anything behind a thousand: 23, and the last line counts the thousand
pub written_too_many : (rs : List Result) → All Writes rs → length rs ≡ 1000 → (b : ℕ) (s : List ℕ)
    → page (stream rs ++ b ∷ s) ≡ entry_lines (map entry_of rs) ++ (refused_line 23 ++ last_line 1000 (rows_of rs))
unfolding page page_of shift_from
written_too_many rs all h b s =
    let n : 1000 ≡ length rs + 0 = omega arith in
    ap (λ (k : ℕ). page_of (shift_from k (stream rs ++ b ∷ s))) n
    ∙ ap page_of (written_ahead rs all 0 (b ∷ s))
    ∙ ap (λ (es : List Entry). entry_lines es ++ (refused_line 23 ++ last_line (length es) (row_sum es))) (append-nil (map entry_of rs))
    ∙ ap (λ (k : ℕ). entry_lines (map entry_of rs) ++ (refused_line 23 ++ last_line k (rows_of rs))) (length-map rs entry_of ∙ h)
