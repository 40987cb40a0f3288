-- The page record by record: what the program prints for one, behind those that came before, and what is then left to print.
use Rattle.std.specs.Prelude.{◌≡◌, Bool, true, false, ℕ, suc, ◌+◌, eqb, length}
use Rattle.std.proofs.Math.Path.{refl}
use Rattle.std.proofs.Common.{sym, ap₂, ◌∙◌, suc-ne-zero, arith, eq-eqb, ne_eqb}
use Rattle.std.proofs.Math.Bool.{cond}
use mathlib.Core.List.{List, [], ◌∷◌, ◌++◌, append_assoc}
use Rattle.page.specs.Lines.{result_line}
use Rattle.page.specs.Page.{operator_says, Entry, heard, Shift, stopped, another, at_end, entry_lines, row_sum, closing, page_of}

-- one step: what it prints, whether it was the last, and how many records have been read then, with how many rows
pub record Step : Type 0 where
  pub text : List ℕ
  pub ended : Bool
  pub records : ℕ
  pub rows : ℕ

abbrev pub stepped : List ℕ → Bool → ℕ → ℕ → Step
stepped text ended records rows = record { text = text; ended = ended; records = records; rows = rows }

module _ (k rows : ℕ) where
  abbrev pub last_step : ℕ → Step
  last_step refusal = stepped (closing refusal k rows) true k rows

  abbrev pub entry_step : Entry → Step
  entry_step e = stepped (result_line e.frame e.rows e.scores) false (k + 1) (rows + e.rows)

  -- the step of a record of these bytes behind k others, which had so many rows; no bytes are the end of the input
  unfoldable pub step_of : List ℕ → Step
  step_of t = at_end t (last_step 0) (cond (eqb k 1000) (last_step 23) (heard (operator_says t) last_step entry_step))

  -- the end of the input, a record too many, and one that may come
  pub end_step : (t : List ℕ) → length t ≡ 0 → last_step 0 ≡ step_of t
  unfolding step_of
  end_step [] e = refl
  end_step (b ∷ t) e = absurd (suc-ne-zero (length t) e)

  module _ (t : List ℕ) (some : length t ≡ 0 → ⊥) where
    by_count : cond (eqb k 1000) (last_step 23) (heard (operator_says t) last_step entry_step) ≡ step_of t
    unfolding step_of
    by_count = of_bytes t some
      where
        of_bytes : (t : List ℕ) → (length t ≡ 0 → ⊥) → cond (eqb k 1000) (last_step 23) (heard (operator_says t) last_step entry_step) ≡ step_of t
        of_bytes [] x = absurd (x refl)
        of_bytes (b ∷ t) x = refl

    pub full_step : k ≡ 1000 → last_step 23 ≡ step_of t
    full_step e = rw (← by_count, eq-eqb k 1000 e)

    pub some_step : (k ≡ 1000 → ⊥) → heard (operator_says t) last_step entry_step ≡ step_of t
    some_step few = rw (← by_count, ne_eqb k 1000 few)

-- ---- what is printed behind k records that had so many rows
abbrev pub rest : ℕ → ℕ → Shift → List ℕ
rest k rows x = entry_lines x.entries ++ closing x.refusal (k + length x.entries) (rows + row_sum x.entries)

pub rest_of_all : (x : Shift) → rest 0 0 x ≡ page_of x
unfolding page_of
rest_of_all x =
    let n : 0 + length x.entries ≡ length x.entries = omega arith in
    let r : 0 + row_sum x.entries ≡ row_sum x.entries = omega arith in
    ap₂ (λ (i j : ℕ). entry_lines x.entries ++ closing x.refusal i j) n r

pub rest_stopped : (n k rows : ℕ) → closing n k rows ≡ rest k rows (stopped n)
unfolding entry_lines row_sum
rest_stopped n k rows =
    let i : k ≡ k + 0 = omega arith in
    let j : rows ≡ rows + 0 = omega arith in
    ap₂ (closing n) i j

pub rest_another : (k rows : ℕ) (e : Entry) (x : Shift)
    → result_line e.frame e.rows e.scores ++ rest (k + 1) (rows + e.rows) x ≡ rest k rows (another e x)
unfolding entry_lines row_sum
rest_another k rows e x =
    let i : k + 1 + length x.entries ≡ k + suc (length x.entries) = omega arith in
    let j : rows + e.rows + row_sum x.entries ≡ rows + (e.rows + row_sum x.entries) = omega arith in
    let line : List ℕ = result_line e.frame e.rows e.scores in
    ap₂ (λ (a b : ℕ). line ++ (entry_lines x.entries ++ closing x.refusal a b)) i j
    ∙ sym (append_assoc line (entry_lines x.entries) (closing x.refusal (k + suc (length x.entries)) (rows + (e.rows + row_sum x.entries))))
