-- At each return the tests that were passed, and the one that was not.
use Rattle.std.proofs.Common.{◌≡◌, sym, ap, ◌∙◌, Bool, true, false, not, ℕ, ◌*◌, ltb, eqb, lt-ltb, le-ltb}
use Rattle.laws.specs.FirstFault.{none, here, later, below, above, inside, differ, same}
use Rattle.laws.specs.SampleCall.{refused_by_lem}
use Rattle.quantise.proofs.check.check_samples.Goals as goal

-- the tests of the length and of the room are of n, which is 2 ^ m
length_test : {n p : ℕ} → n ≡ p → (bytes : ℕ) (b : Bool) → not (eqb bytes (4 * n)) ≡ b → not (eqb bytes (4 * p)) ≡ b
length_test e bytes b t = ap (λ (k : ℕ). not (eqb bytes (4 * k))) (sym e) ∙ t

room_test : {n p : ℕ} → n ≡ p → (softs : ℕ) (b : Bool) → ltb softs n ≡ b → ltb softs p ≡ b
room_test e softs b t = ap (ltb softs) (sym e) ∙ t

pub returns-then-m-lt2 : goal.returns-then-m-lt2
returns-then-m-lt2 c = refused_by_lem c.args.m c.args.bytes c.args.softs 1 (here (below 2 10 c.args.m c.if-m-lt2.true))

pub returns-then-m-gt10 : goal.returns-then-m-gt10
returns-then-m-gt10 c = refused_by_lem c.args.m c.args.bytes c.args.softs 1 (here (above 2 10 c.args.m c.if-m-gt10.true))

pub returns-then-wrong : goal.returns-then-wrong
returns-then-wrong c =
    refused_by_lem c.args.m c.args.bytes c.args.softs 6
    (later (inside 2 10 _ c.if-m-lt2.false c.if-m-gt10.false)
    (here (length_test c.size-n.ensures.0 c.args.bytes true (differ _ _ c.if-wrong.true))))

pub returns-then-short : goal.returns-then-short
returns-then-short c =
    refused_by_lem c.args.m c.args.bytes c.args.softs 10
    (later (inside 2 10 _ c.if-m-lt2.false c.if-m-gt10.false)
    (later (length_test c.size-n.ensures.0 c.args.bytes false (same _ _ c.if-wrong.false))
    (here (room_test c.size-n.ensures.0 c.args.softs true (lt-ltb _ _ c.if-short.true)))))

pub returns : goal.returns
returns c =
    refused_by_lem c.args.m c.args.bytes c.args.softs 0
    (later (inside 2 10 _ c.if-m-lt2.false c.if-m-gt10.false)
    (later (length_test c.size-n.ensures.0 c.args.bytes false (same _ _ c.if-wrong.false))
    (later (room_test c.size-n.ensures.0 c.args.softs false (le-ltb _ _ c.if-short.false)) none)))
