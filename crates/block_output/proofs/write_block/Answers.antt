-- 8 by n or by l, or the block as it is decoded.
use Rattle.std.proofs.Common.{ap, ◌∙◌, ℕ, ◌+◌, ◌*◌, ◌/◌, ◌^◌, ◌≤◌, ◌<◌, take, arith}
use Rattle.spec.specs.Code.{code}
use Rattle.place.specs.Put.{begins_same}
use Rattle.row_text.specs.Output.{refused_text}
use Rattle.block_output.specs.Block.{decoded_text, too_wide, too_many, fitting}
use Rattle.block_output.proofs.write_block.Goals as goal

pub returns-then-n-gt64 : goal.returns-then-n-gt64
returns-then-n-gt64 c =
    let s = c.args in
    let n : 64 < 2 ^ s.job.m = omega (arith, c.size-n.ensures.0, c.if-n-gt64.true) in
    begins_same (ap refused_text c.number.ensures.0 ∙ too_wide s.job.m s.job.arikan s.job.list_size s.job.stop s.job.frame s.job.pairs s.map.now s.pairs.now s.soft.now n) c.write_refused.ensures

pub returns-then-l-gt4 : goal.returns-then-l-gt4
returns-then-l-gt4 c =
    let s = c.args in
    let n : 2 ^ s.job.m ≤ 64 = omega (arith, c.size-n.ensures.0, c.if-n-gt64.false) in
    begins_same
    (ap refused_text c.number-then-l-gt4.ensures.0 ∙ too_many s.job.m s.job.arikan s.job.list_size s.job.stop s.job.frame s.job.pairs s.map.now s.pairs.now s.soft.now n c.if-l-gt4.true)
    c.write_refused-then-l-gt4.ensures

pub returns : goal.returns
returns c =
    let s = c.args in
    let narrow : 2 ^ s.job.m ≤ 64 = omega (arith, c.size-n.ensures.0, c.if-n-gt64.false) in
    begins_same
    (ap (λ (k : ℕ). decoded_text (code s.job.m s.job.arikan (take ((k + 7) / 8) s.map.now) (take (4 * s.job.pairs) s.pairs.now)) s.job.list_size s.job.stop s.job.frame (take k s.soft.now)) c.size-n.ensures.0
    ∙ fitting s.job.m s.job.arikan s.job.list_size s.job.stop s.job.frame s.job.pairs s.map.now s.pairs.now s.soft.now narrow c.if-l-gt4.false)
    c.write_decoded.ensures
