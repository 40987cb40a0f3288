-- The inputs of results make no difference: two shifts of which each result shows the same have the same page. No code is in scope: the
-- theorem is over the definitions.
use Rattle.std.specs.Prelude.{◌≡◌, length}
use Rattle.std.proofs.Common.{sym, ◌∙◌, arith}
use Rattle.std.proofs.Math.Path.{ap, ap₂}
use mathlib.Core.List.{List, ◌++◌, map}
use Prim.Native.Nat.{ℕ, ◌≤◌}
use Rattle.std.proofs.lemmas.List.{length-map}
use Rattle.spec.specs.ResultWriter.{Result}
use Rattle.laws.specs.ListCost.{All}
use Rattle.page.specs.Lines.{last_line}
use Rattle.page.specs.Page.{Entry, entry_lines, row_sum, page}
use Rattle.page.specs.WrittenPage.{Writes, entry_of, stream}
use Rattle.page.proofs.WrittenPage.{written_page}

pub same_entries_same_page : (rs rs' : List Result) → All Writes rs → All Writes rs' → length rs ≤ 1000 → map entry_of rs ≡ map entry_of rs'
    → page (stream rs) ≡ page (stream rs')
same_entries_same_page rs rs' all all' h e =
    let n : length rs ≡ length rs' = sym (length-map rs entry_of) ∙ ap length e ∙ length-map rs' entry_of in
    written_page rs all h
    ∙ ap₂ (λ (es : List Entry) (k : ℕ). entry_lines es ++ last_line k (row_sum es)) e n
    ∙ sym (written_page rs' all' (omega arith))
