-- The soft values, then at each return the tests that were passed, and the one that was not.
use Rattle.std.proofs.Common.{◌≡◌, refl, sym, ap, ◌∙◌, false, List, [], ◌∷◌, ◌++◌, ℕ, ◌+◌, ◌*◌, ℤ, ltb, lt-ltb, le-ltb, arith, rules}
use Rattle.spec.specs.Faults.{Fault, fault, first}
use Rattle.spec.specs.Refusals.{Room, room_fault, number_room, byte_room}
use Rattle.refusals.specs.Number.{refused, number_of, not_zero}
use Rattle.refusals.specs.Places.{places_of}
use Rattle.laws.specs.FirstFault.{First, none, here, later, is_first, first_before, first_after, end, next}
use Rattle.ranges.specs.Ranges.{soft_faults}
use Rattle.list_words.proofs.check.check_room.Goals as goal

abbrev lent : ℕ → Room → List Fault
lent n r =
    fault 8 (ltb r.numbers (number_room n 1))
    ∷ fault 9 (ltb r.bytes (byte_room n 1))
    ∷ room_fault (n * r.scores) r.inputs
    ∷ room_fault (n * r.scores) r.words
    ∷ []

-- the tests, over n
numbers_are : (n x : ℕ) → ltb x (number_room n 1) ≡ ltb x (32 * n)
numbers_are n x = let e : number_room n 1 ≡ 32 * n = omega arith in ap (ltb x) e

bytes_are : (n x : ℕ) → ltb x (byte_room n 1) ≡ ltb x (4 * n + 256)
bytes_are n x = let e : byte_room n 1 ≡ 4 * n + 256 = omega arith in ap (ltb x) e

-- past the soft values the rest decides
decided : (n : ℕ) (soft : List ℤ) (r : Room) (k : ℕ) → 0 ≡ first (soft_faults n soft) → First (lent n r) k → k ≡ first (soft_faults n soft ++ lent n r)
decided n soft r k z f = first_after (soft_faults n soft) (lent n r) 0 z (next (next end)) refl k (is_first (lent n r) k f)

pub returns-in_err-check_soft : goal.returns-in_err-check_soft
returns-in_err-check_soft c =
    let told : refused c.from_residual.result ≡ number_of c.in_err-check_soft.field-0.0 = search rules in
    told ∙ first_before (soft_faults c.args.n c.args.soft.now) (lent c.args.n (places_of c.args.lent)) _ c.in_err-check_soft.ensures (not_zero c.in_err-check_soft.field-0.0)

pub returns-then-few_numbers : goal.returns-then-few_numbers
returns-then-few_numbers c =
    let a = c.args in
    decided a.n a.soft.now (places_of a.lent) 8 c.in_ok-check_soft.ensures (here (numbers_are a.n a.lent.numbers ∙ lt-ltb _ _ c.if-few_numbers.true))

pub returns-then-few_bytes : goal.returns-then-few_bytes
returns-then-few_bytes c =
    let a = c.args in
    decided a.n a.soft.now (places_of a.lent) 9 c.in_ok-check_soft.ensures
    (later (numbers_are a.n a.lent.numbers ∙ le-ltb _ _ c.if-few_numbers.false) (here (bytes_are a.n a.lent.bytes ∙ lt-ltb _ _ c.if-few_bytes.true)))

pub returns-then-few_inputs : goal.returns-then-few_inputs
returns-then-few_inputs c =
    let a = c.args in
    decided a.n a.soft.now (places_of a.lent) 10 c.in_ok-check_soft.ensures
    (later (numbers_are a.n a.lent.numbers ∙ le-ltb _ _ c.if-few_numbers.false) (later (bytes_are a.n a.lent.bytes ∙ le-ltb _ _ c.if-few_bytes.false)
    (here (sym c.rows_short-few_inputs.ensures ∙ c.if-few_inputs.true))))

pub returns-then-few_words : goal.returns-then-few_words
returns-then-few_words c =
    let a = c.args in
    decided a.n a.soft.now (places_of a.lent) 10 c.in_ok-check_soft.ensures
    (later (numbers_are a.n a.lent.numbers ∙ le-ltb _ _ c.if-few_numbers.false) (later (bytes_are a.n a.lent.bytes ∙ le-ltb _ _ c.if-few_bytes.false)
    (later (sym c.rows_short-few_inputs.ensures ∙ c.if-few_inputs.false) (here (sym c.rows_short-few_words.ensures ∙ c.if-few_words.true)))))

pub returns : goal.returns
returns c =
    let a = c.args in
    decided a.n a.soft.now (places_of a.lent) 0 c.in_ok-check_soft.ensures
    (later (numbers_are a.n a.lent.numbers ∙ le-ltb _ _ c.if-few_numbers.false) (later (bytes_are a.n a.lent.bytes ∙ le-ltb _ _ c.if-few_bytes.false)
    (later (sym c.rows_short-few_inputs.ensures ∙ c.if-few_inputs.false) (later (sym c.rows_short-few_words.ensures ∙ c.if-few_words.false) none))))
