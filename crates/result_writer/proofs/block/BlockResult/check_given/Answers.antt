-- At each return the tests that were passed, and the one that was not.
use Rattle.std.proofs.Common.{◌≡◌, refl, sym, ap, ◌∙◌, Bool, true, false, not, ℕ, ◌*◌, ◌≤◌, length, drop, eqb}
use Rattle.spec.specs.ResultWriter.{Result, size}
use Rattle.laws.specs.FirstFault.{First, none, here, later, is_first, below, above, inside, differ, same}
use Rattle.laws.specs.ResultWriting.{result_given_faults}
use Rattle.result_writer.specs.Given.{given_of}
use Rattle.result_writer.proofs.block.BlockResult.check_given.Goals as goal

-- the table behind its first two conditions, and behind both lengths
module _ (r : Result) {k : ℕ} (low : 2 ≤ r.m) (high : r.m ≤ 10) (some : 1 ≤ r.rows) (few : r.rows ≤ 32) where
  past_2 : First (drop 2 (result_given_faults r)) k → First (result_given_faults r) k
  past_2 f = later (inside 2 10 r.m low high) (later (inside 1 32 r.rows some few) f)

  past_4 : length r.inputs ≡ r.rows * size r → length r.scores ≡ r.rows → First (drop 4 (result_given_faults r)) k → First (result_given_faults r) k
  past_4 i s f = past_2 (later (same (length r.inputs) (r.rows * size r) i) (later (same (length r.scores) r.rows s) f))

-- scores that are not one a row: 6 for them, or before them 6 for the inputs
not_one_a_row : (r : Result) → (length r.scores ≡ r.rows → ⊥) → First (drop 2 (result_given_faults r)) 6
not_one_a_row r x = by_inputs (not (eqb (length r.inputs) (r.rows * size r))) refl
  where
    by_inputs : (b : Bool) → not (eqb (length r.inputs) (r.rows * size r)) ≡ b → First (drop 2 (result_given_faults r)) 6
    by_inputs true e = here e
    by_inputs false e = later e (here (differ (length r.scores) r.rows x))

pub returns-then-self-lt2 : goal.returns-then-self-lt2
returns-then-self-lt2 c =
    let r = given_of c.args.self in
    is_first (result_given_faults r) 1 (here (below 2 10 r.m c.if-self-lt2.true))

pub returns-then-self-gt10 : goal.returns-then-self-gt10
returns-then-self-gt10 c =
    let r = given_of c.args.self in
    is_first (result_given_faults r) 1 (here (above 2 10 r.m c.if-self-gt10.true))

pub returns-then-self-lt1 : goal.returns-then-self-lt1
returns-then-self-lt1 c =
    let r = given_of c.args.self in
    is_first (result_given_faults r) 4 (later (inside 2 10 r.m c.if-self-lt2.false c.if-self-gt10.false) (here (below 1 32 r.rows c.if-self-lt1.true)))

pub returns-then-self-gt32 : goal.returns-then-self-gt32
returns-then-self-gt32 c =
    let r = given_of c.args.self in
    is_first (result_given_faults r) 4 (later (inside 2 10 r.m c.if-self-lt2.false c.if-self-gt10.false) (here (above 1 32 r.rows c.if-self-gt32.true)))

pub returns-then-self : goal.returns-then-self
returns-then-self c =
    let r = given_of c.args.self in
    is_first (result_given_faults r) 6
    (past_2 r c.if-self-lt2.false c.if-self-gt10.false c.if-self-lt1.false c.if-self-gt32.false (not_one_a_row r c.if-self.true))

pub returns-then-self-times : goal.returns-then-self-times
returns-then-self-times c =
    let r = given_of c.args.self in
    let cells : c.times.result ≡ r.rows * size r = c.times.ensures.0 ∙ ap (λ (n : ℕ). r.rows * n) c.size-n.ensures.0 in
    is_first (result_given_faults r) 6
    (past_2 r c.if-self-lt2.false c.if-self-gt10.false c.if-self-lt1.false c.if-self-gt32.false
    (here (differ (length r.inputs) (r.rows * size r) (λ q. c.if-self-times.true (q ∙ sym cells)))))

pub returns-then-some_not_bit : goal.returns-then-some_not_bit
returns-then-some_not_bit c =
    let r = given_of c.args.self in
    let cells : c.times.result ≡ r.rows * size r = c.times.ensures.0 ∙ ap (λ (n : ℕ). r.rows * n) c.size-n.ensures.0 in
    is_first (result_given_faults r) 11
    (past_4 r c.if-self-lt2.false c.if-self-gt10.false c.if-self-lt1.false c.if-self-gt32.false (c.if-self-times.false ∙ cells) c.if-self.false
    (here (sym c.some_not_bit.ensures ∙ c.if-some_not_bit.true)))

pub returns : goal.returns
returns c =
    let r = given_of c.args.self in
    let cells : c.times.result ≡ r.rows * size r = c.times.ensures.0 ∙ ap (λ (n : ℕ). r.rows * n) c.size-n.ensures.0 in
    is_first (result_given_faults r) 0
    (past_4 r c.if-self-lt2.false c.if-self-gt10.false c.if-self-lt1.false c.if-self-gt32.false (c.if-self-times.false ∙ cells) c.if-self.false
    (later (sym c.some_not_bit.ensures ∙ c.if-some_not_bit.false) none))
