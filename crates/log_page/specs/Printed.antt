-- What the program prints for an input is its page. The program's loop takes a record, makes its step, prints the step's text, and goes on
-- behind what it took; `printed` is that loop, and the theorem goes by induction over the records.
use Rattle.std.specs.Prelude.{◌≡◌, length, take, drop, replicate, ℤ, pos}
use Rattle.std.proofs.Math.Path.{refl, ap}
use Rattle.std.proofs.Common.{sym, ◌∙◌, suc-ne-zero, arith}
use Rattle.std.proofs.Math.Bool.{cond}
use mathlib.Core.List.{List, [], ◌∷◌, ◌++◌, append-nil}
use Prim.Native.Nat.{ℕ, zero, suc, ◌+◌}
use Rattle.std.proofs.Math.Seq.{take-nil}
use Rattle.spec.specs.ResultRecord.{result_end, ResultAnswer, result_says, refused_result, OperatorReading}
use Rattle.laws.specs.ResultReading.{operator_refused}
use Rattle.page.specs.Lines.{result_line}
use Rattle.page.specs.Page.{record_in, operator_says, Entry, answered, heard, Shift, stopped, another, shift_from, entry, closing, page}
use Rattle.log_page.specs.Steps.{Step, last_step, entry_step, step_of, full_step, some_step, rest, rest_of_all, rest_stopped, rest_another}
use Rattle.log_page.specs.Reading.{extent, taken, taken_some, Decided, all_of_it, refused_alike, decided}

-- what so many steps print, behind k records that had so many rows, for the rest s of the input
unfoldable pub printed : ℕ → ℕ → ℕ → List ℕ → List ℕ
printed zero k rows s = []
printed (suc steps) k rows s =
    let x : Step = step_of k rows (taken k s) in
    x.text ++ cond x.ended [] (printed steps x.records x.rows (drop (length (taken k s)) s))

-- ---- what is said of what is taken is said of the record
pub said_same : (t r : List ℕ) → Decided t r → operator_says t ≡ operator_says r
said_same t r (all_of_it e) = ap operator_says e
said_same t r (refused_alike n x a b) =
    sym (operator_refused t (replicate 32 (pos 0)) n a x) ∙ operator_refused r (replicate 32 (pos 0)) n b x

-- behind what was taken of a record that is read goes the rest
drop_taken : {A : Type 0} (n : ℕ) (s : List A) → drop (length (take n s)) s ≡ drop n s
drop_taken zero s = refl
drop_taken (suc n) [] = refl
drop_taken (suc n) (x ∷ s) = drop_taken n s

-- ---- one step
module _ (steps k rows : ℕ) (s : List ℕ) where
  -- a last step prints its text and no more
  last_prints : (n : ℕ) → last_step k rows n ≡ step_of k rows (taken k s) → printed (suc steps) k rows s ≡ closing n k rows
  unfolding printed
  last_prints n e =
      ap (λ (x : Step). x.text ++ cond x.ended [] (printed steps x.records x.rows (drop (length (taken k s)) s))) (sym e)
      ∙ append-nil (closing n k rows)

  -- one that goes on prints its line, and then what is printed behind it
  entry_prints : (e : Entry) → entry_step k rows e ≡ step_of k rows (taken k s)
      → printed (suc steps) k rows s
      ≡ result_line e.frame e.rows e.scores ++ printed steps (k + 1) (rows + e.rows) (drop (length (taken k s)) s)
  unfolding printed
  entry_prints e q =
      ap (λ (x : Step). x.text ++ cond x.ended [] (printed steps x.records x.rows (drop (length (taken k s)) s))) (sym q)

-- what is taken of a record that is read is the record
read_whole : {m r f : ℕ} {z : ℤ} (t u : List ℕ) → Decided t u → (operator_says u).answer ≡ result_says m r f z → t ≡ u
read_whole t u (all_of_it e) q = e
read_whole {m} {r} {f} {z} t u (refused_alike n x a b) q =
    let p : refused_result n ≡ result_says m r f z = ap (λ (o : OperatorReading). o.answer) (operator_refused u (replicate 32 (pos 0)) n b x) ∙ q in
    let o : ◌≡◌ {A = ℕ} 0 1 = cc in
    absurd (omega arith)

-- ---- no record may come: any byte is 23
none_left : (k rows : ℕ) (s : List ℕ) → k ≡ 1000 → printed 1 k rows s ≡ rest k rows (shift_from 0 s)
unfolding shift_from step_of
none_left k rows [] h = last_prints 0 k rows [] 0 (rw (take-nil {A = ℕ} (extent k []))) ∙ rest_stopped 0 k rows
none_left k rows (b ∷ s) h = last_prints 0 k rows (b ∷ s) 23 (full_step k rows (taken k (b ∷ s)) (taken_some k (b ∷ s) (suc-ne-zero (length s))) h) ∙ rest_stopped 23 k rows

-- ---- one may come: it is read or refused, and the reading goes on or ends
module _ (left k rows : ℕ) (few : k ≡ 1000 → ⊥) (go : (rows' : ℕ) (s' : List ℕ) → printed (suc left) (k + 1) rows' s' ≡ rest (k + 1) rows' (shift_from left s')) where
  more_left : (s : List ℕ) → printed (suc (suc left)) k rows s ≡ rest k rows (shift_from (suc left) s)
  unfolding shift_from step_of
  more_left [] = last_prints (suc left) k rows [] 0 (rw (take-nil {A = ℕ} (extent k []))) ∙ rest_stopped 0 k rows
  more_left (b ∷ s) = by_answer (operator_says u).answer refl
    where
      u : List ℕ
      u = record_in (b ∷ s)

      t : List ℕ
      t = taken k (b ∷ s)

      d : Decided t u
      d = decided k (b ∷ s) few (suc-ne-zero (length s))

      step_is : answered (operator_says u).answer (operator_says u).scores (last_step k rows) (entry_step k rows) ≡ step_of k rows t
      step_is = ap (λ (o : OperatorReading). heard o (last_step k rows) (entry_step k rows)) (sym (said_same t u d)) ∙ some_step k rows t (taken_some k (b ∷ s) (suc-ne-zero (length s))) few

      later : Entry → Shift
      later e = another e (shift_from left (drop (result_end (b ∷ s)) (b ∷ s)))

      by_answer : (a : ResultAnswer) → (operator_says u).answer ≡ a
          → printed (suc (suc left)) k rows (b ∷ s) ≡ rest k rows (answered (operator_says u).answer (operator_says u).scores stopped later)
      by_answer (refused_result n) q =
          last_prints (suc left) k rows (b ∷ s) n (ap (λ (a : ResultAnswer). answered a (operator_says u).scores (last_step k rows) (entry_step k rows)) (sym q) ∙ step_is)
          ∙ rest_stopped n k rows
          ∙ ap (λ (a : ResultAnswer). rest k rows (answered a (operator_says u).scores stopped later)) (sym q)
      by_answer (result_says m r f z) q =
          let e : Entry = entry f r (take r (operator_says u).scores) in
          let behind : drop (length t) (b ∷ s) ≡ drop (result_end (b ∷ s)) (b ∷ s)
          = ap (λ (x : List ℕ). drop (length x) (b ∷ s)) (read_whole t u d q) ∙ drop_taken (result_end (b ∷ s)) (b ∷ s) in
          entry_prints (suc left) k rows (b ∷ s) e (ap (λ (a : ResultAnswer). answered a (operator_says u).scores (last_step k rows) (entry_step k rows)) (sym q) ∙ step_is)
          ∙ ap (λ (x : List ℕ). result_line f r e.scores ++ x) (go (rows + r) (drop (length t) (b ∷ s)) ∙ ap (λ (x : List ℕ). rest (k + 1) (rows + r) (shift_from left x)) behind)
          ∙ rest_another k rows e (shift_from left (drop (result_end (b ∷ s)) (b ∷ s)))
          ∙ ap (λ (a : ResultAnswer). rest k rows (answered a (operator_says u).scores stopped later)) (sym q)

pub printed_from : (left k rows : ℕ) (s : List ℕ) → left + k ≡ 1000 → printed (suc left) k rows s ≡ rest k rows (shift_from left s)
printed_from zero k rows s h = none_left k rows s (omega arith)
printed_from (suc left) k rows s h =
    more_left left k rows (λ q. omega (arith, q, h)) (λ rows' s'. printed_from left (k + 1) rows' s' (omega arith)) s

-- ---- THE PAGE. 1,001 steps, each for a record that it takes from the input or for its end, print the page of the input, whatever it is.
pub printed_is_page : (s : List ℕ) → printed 1001 0 0 s ≡ page s
unfolding page
printed_is_page s = printed_from 1000 0 0 s refl ∙ rest_of_all (shift_from 1000 s)
