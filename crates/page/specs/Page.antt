-- The page for the shift log, as a function on all of the program's input: 02, wish 12. Result records stand back to back, and each is read
-- as an operator reads it.
use Rattle.std.specs.Prelude.{List, [], ◌∷◌, ◌++◌, ℕ, zero, suc, ◌+◌, length, take, drop, replicate, ℤ, pos}
use Rattle.spec.specs.Faults.{settled}
use Rattle.spec.specs.ResultRecord.{result_end, ResultAnswer, result_says, refused_result, OperatorReading, operator_outcome}
use Rattle.page.specs.Lines.{result_line, refused_line, last_line}

-- ---- one record
-- The record that the rest of the input begins with: it ends where its fields end, or where the input stops sooner.
abbrev pub record_in : List ℕ → List ℕ
record_in s = take (result_end s) s

-- what the operator reader says of it, lent 32 scores, which is room for every record; where the input stopped sooner, 13 or what comes
-- before it in the reader's order
abbrev pub operator_says : List ℕ → OperatorReading
operator_says t = operator_outcome t (replicate 32 (pos 0))

-- what the page shows of a record that is read
pub record Entry : Type 0 where
  pub frame : ℕ
  pub rows : ℕ
  pub scores : List ℤ

abbrev pub entry : ℕ → ℕ → List ℤ → Entry
entry frame rows scores = record { frame = frame; rows = rows; scores = scores }

-- what comes of the reader's answer and of the scores that it leaves: by the refusal number, or by the entry
abbrev pub answered : {A : Type 0} → ResultAnswer → List ℤ → (ℕ → A) → (Entry → A) → A
answered (refused_result k) scores refused read = refused k
answered (result_says m rows frame ceiling) scores refused read = read (entry frame rows (take rows scores))

abbrev pub heard : {A : Type 0} → OperatorReading → (ℕ → A) → (Entry → A) → A
heard o = answered o.answer o.scores

-- ---- all records: the entries of those that were read, and the number by which one was refused, or 0 where the input came to its end
pub record Shift : Type 0 where
  pub entries : List Entry
  pub refusal : ℕ

abbrev pub stopped : ℕ → Shift
stopped k = record { entries = []; refusal = k }

abbrev pub another : Entry → Shift → Shift
another e x = record { entries = e ∷ x.entries; refusal = x.refusal }

-- the end of the input, or something more
abbrev pub at_end : {A : Type 0} → List ℕ → A → A → A
at_end [] end more = end
at_end (b ∷ s) end more = more

-- From a record on, where so many may still come: the end of the input before the first record or after a whole one is the end. A record
-- that is refused ends the reading. 23 for any byte where no record may come, before any other number.
unfoldable pub shift_from : ℕ → List ℕ → Shift
shift_from zero s = at_end s (stopped 0) (stopped 23)
shift_from (suc left) s =
    at_end s (stopped 0) (heard (operator_says (record_in s)) stopped (λ e. another e (shift_from left (drop (result_end s) s))))

-- ---- the page: a line for each record that was read, one for a refusal, and the last line
unfoldable pub entry_lines : List Entry → List ℕ
entry_lines [] = []
entry_lines (e ∷ es) = result_line e.frame e.rows e.scores ++ entry_lines es

unfoldable pub row_sum : List Entry → ℕ
row_sum [] = 0
row_sum (e ∷ es) = e.rows + row_sum es

abbrev pub closing : ℕ → ℕ → ℕ → List ℕ
closing refusal records rows = settled refusal refused_line [] ++ last_line records rows

unfoldable pub page_of : Shift → List ℕ
page_of x = entry_lines x.entries ++ closing x.refusal (length x.entries) (row_sum x.entries)

-- all that the program prints for an input
unfoldable pub page : List ℕ → List ℕ
page input = page_of (shift_from 1000 input)
