-- The rows or 19, and both tables 0.
use Rattle.std.proofs.Common.{◌≡◌, ap, subst, ◌∙◌, List, ℕ, ◌≤◌, ℤ, length, replicate, arith}
use lib.Pow.{pow_mono}
use mir.Syntax.{w32}
use mir.ValLaws.{to_z-of_z}
use Rattle.spec.specs.Code.{Code, payload_size}
use Rattle.spec.specs.Score.{taken}
use Rattle.code.specs.Codes.{code_of}
use Rattle.payload_blocks.specs.Payloads.{correlations}
use Rattle.payload_blocks.specs.PayloadBlocks.{length_correlations}
use Rattle.list_words.specs.HitLaws.{hits_few}
use Rattle.list_words.specs.Listed.{Listed}
use Rattle.list_words.proofs.Serving.{served_19, served_rows}
use Rattle.list_words.proofs.call.serve.Goals as goal

-- no more words than payloads
found_small : {o : Code} {soft : List ℤ} {mark : ℤ} {k : ℕ} {i w i' w' : List ℕ} {s s' : List ℤ} → payload_size o ≤ 20 → Listed o soft mark k i w s i' w' s' → k ≤ 1048576
found_small {o} {soft} {mark} few l =
    let y : List ℤ = taken soft in
    omega (arith, l.count, hits_few mark 0 (correlations o y), length_correlations o y, pow_mono {i = payload_size o} {j = 20} few)

-- a table once it is cleared
cleared : {n k : ℕ} {t : List ℕ} → t ≡ replicate k 0 → k ≡ n → t ≡ replicate n 0
cleared e q = e ∙ ap (λ (j : ℕ). replicate j 0) q

pub overflow_cast-k : goal.overflow_cast-k
overflow_cast-k c = omega (arith, c.requires.bits, c.requires.few)

pub returns-then-scores-found : goal.returns-then-scores-found
returns-then-scores-found c =
    let d = c.list_in_tables-found in
    let l = subst (λ (z : ℤ). Listed (code_of c.args.code) c.args.soft.now z d.result c.args.inputs.now c.args.words.now c.args.scores.now d.new.inputs d.new.words d.new.scores)
    (to_z-of_z w32 c.args.mark c.ranges.mark) d.ensures in
    served_19 c.args.numbers.now c.args.bytes.now l (cleared c.clear_tables.ensures.0 d.auto.numbers) (cleared c.clear_tables.ensures.1 d.auto.bytes)
    (omega (arith, c.if-scores-found.true, d.auto.scores))

pub overflow_cast-result : goal.overflow_cast-result
overflow_cast-result c = omega (arith, found_small c.requires.few c.list_in_tables-found.ensures)

pub returns : goal.returns
returns c =
    let d = c.list_in_tables-found in
    let l = subst (λ (z : ℤ). Listed (code_of c.args.code) c.args.soft.now z d.result c.args.inputs.now c.args.words.now c.args.scores.now d.new.inputs d.new.words d.new.scores)
    (to_z-of_z w32 c.args.mark c.ranges.mark) d.ensures in
    served_rows c.args.numbers.now c.args.bytes.now l (cleared c.clear_tables.ensures.0 d.auto.numbers) (cleared c.clear_tables.ensures.1 d.auto.bytes)
    d.auto.inputs d.auto.words d.auto.scores (omega (arith, c.if-scores-found.false, d.auto.scores))
