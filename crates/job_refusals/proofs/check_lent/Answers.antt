-- At each return the tests that were passed, and the one that was not.
use Rattle.std.proofs.Common.{◌≡◌, refl, sym, ◌∙◌, ap₂, Bool, true, false, ◌||◌, [], ◌∷◌, List, ℕ, ◌*◌, ltb}
use Rattle.spec.specs.Code.{map_bytes}
use Rattle.spec.specs.Faults.{fault}
use Rattle.spec.specs.Record.{positions, pair_count}
use Rattle.laws.specs.FirstFault.{First, none, here, later, is_first, not_either}
use Rattle.job_fields.specs.declared.layout.Layout.{Layout}
use Rattle.job_fields.specs.Laid.{Laid}
use Rattle.job_refusals.specs.Conditions.{lent_faults}
use Rattle.job_refusals.proofs.check_lent.Goals as goal

-- three conditions of one number
one_of : {k : ℕ} (a b d : Bool) → (a || (b || d)) ≡ true → First (fault k a ∷ fault k b ∷ fault k d ∷ []) k
one_of true b d e = here refl
one_of false true d e = later refl (here refl)
one_of false false d e = later refl (later refl (here e))

none_of : {k : ℕ} (a b d : Bool) → (a || (b || d)) ≡ false → First (fault k a ∷ fault k b ∷ fault k d ∷ []) 0
none_of a b d e =
    let r = not_either a (b || d) e in
    let q = not_either b d r.1 in
    later r.0 (later q.0 (later q.1 none))

-- the room that was measured is that of the record
measured : {s : List ℕ} {at : Layout} (maps softs pairs : ℕ) → Laid s at → (ltb maps (map_bytes at.n) || (ltb softs at.n || ltb pairs (4 * at.count)))
    ≡ (ltb maps (map_bytes (positions s)) || (ltb softs (positions s) || ltb pairs (4 * pair_count s)))
measured maps softs pairs w = ap₂ (λ (n k : ℕ). ltb maps (map_bytes n) || (ltb softs n || ltb pairs (4 * k))) w.n_is w.count_is

pub returns-then-outside : goal.returns-then-outside
returns-then-outside c =
    let a = c.args in
    is_first (lent_faults a.job.bytes.now a.lent.map a.lent.soft a.lent.pairs) 7 (here (sym c.some_out_of_range-outside.ensures ∙ c.if-outside.true))

pub returns-then-short : goal.returns-then-short
returns-then-short c =
    let a = c.args in
    let e = c.too_short-short.ensures ∙ measured a.lent.map a.lent.soft a.lent.pairs a.job.laid in
    is_first (lent_faults a.job.bytes.now a.lent.map a.lent.soft a.lent.pairs) 10
    (later (sym c.some_out_of_range-outside.ensures ∙ c.if-outside.false) (one_of _ _ _ (sym e ∙ c.if-short.true)))

pub returns : goal.returns
returns c =
    let a = c.args in
    let e = c.too_short-short.ensures ∙ measured a.lent.map a.lent.soft a.lent.pairs a.job.laid in
    is_first (lent_faults a.job.bytes.now a.lent.map a.lent.soft a.lent.pairs) 0
    (later (sym c.some_out_of_range-outside.ensures ∙ c.if-outside.false) (none_of _ _ _ (sym e ∙ c.if-short.false)))
