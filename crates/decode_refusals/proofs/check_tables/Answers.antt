-- At each return the tests that were passed, and the one that was not.
use Rattle.std.proofs.Common.{◌≡◌, refl, sym, Bool, true, false, ◌||◌, true≢false, [], ◌∷◌, lt-ltb, le-ltb, arith}
use Rattle.spec.specs.Faults.{fault}
use Rattle.spec.specs.Refusals.{table_faults}
use Rattle.laws.specs.FirstFault.{First, none, here, later, is_first}
use Rattle.refusals.specs.Places.{places_of}
use Rattle.decode_refusals.proofs.check_tables.Goals as goal

-- one condition in three parts
some_short : (x y z : Bool) → (x || (y || z)) ≡ true → First (fault 10 x ∷ fault 10 y ∷ fault 10 z ∷ []) 10
some_short true y z e = here refl
some_short false true z e = later refl (here refl)
some_short false false z e = later refl (later refl (here e))

none_short : (x y z : Bool) → (x || (y || z)) ≡ false → First (fault 10 x ∷ fault 10 y ∷ fault 10 z ∷ []) 0
none_short true y z e = absurd (true≢false e)
none_short false true z e = absurd (true≢false e)
none_short false false z e = later refl (later refl (later e none))

pub returns-then-few_numbers : goal.returns-then-few_numbers
returns-then-few_numbers c =
    let a = c.args in
    is_first (table_faults a.n a.l (places_of a.room)) 8 (here (lt-ltb _ _ (omega (arith, c.times-area.ensures.0))))

pub returns-then-few_bytes : goal.returns-then-few_bytes
returns-then-few_bytes c =
    let a = c.args in
    is_first (table_faults a.n a.l (places_of a.room)) 9
    (later (le-ltb _ _ (omega (arith, c.times-area.ensures.0))) (here (lt-ltb _ _ (omega (arith, c.times-small.ensures.0)))))

pub returns-then-few_places : goal.returns-then-few_places
returns-then-few_places c =
    let a = c.args in
    is_first (table_faults a.n a.l (places_of a.room)) 10
    (later (le-ltb _ _ (omega (arith, c.times-area.ensures.0))) (later (le-ltb _ _ (omega (arith, c.times-small.ensures.0)))
    (some_short _ _ _ (sym (rw c.times-area.ensures.0 at c.if-few_places.ensures)))))

pub returns : goal.returns
returns c =
    let a = c.args in
    is_first (table_faults a.n a.l (places_of a.room)) 0
    (later (le-ltb _ _ (omega (arith, c.times-area.ensures.0))) (later (le-ltb _ _ (omega (arith, c.times-small.ensures.0)))
    (none_short _ _ _ (sym (rw c.times-area.ensures.0 at c.if-few_places.ensures)))))
