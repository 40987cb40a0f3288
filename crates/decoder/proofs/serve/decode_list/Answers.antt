use Rattle.std.proofs.Common.{refl, ap, ◌∙◌, List, ℕ, length, get_or, arith}
use Rattle.spec.specs.Score.{taken}
use Rattle.laws.specs.Taken.{length_taken}
use Rattle.code.specs.Codes.{code_of}
use Rattle.positions.specs.Running.{zeros_at}
use Rattle.decoder.proofs.Serving.{start_fits, run_fits, exponent, whole}
use Rattle.decoder.proofs.serve.decode_list.Goals as goal

pub start-requires : goal.start-requires
start-requires c =
    start_fits (code_of c.args.code) c.args.l c.args.p c.args.n c.args.h c.args.soft.now _ c.requires c.args.t.now (omega arith)

pub positions-requires : goal.positions-requires
positions-requires c =
    run_fits (code_of c.args.code) c.args.l c.args.p c.args.n c.args.h c.args.soft.now _ c.requires _ _ _
    (omega (arith, c.start.auto.t)) (omega (arith, c.fill.auto.self)) (omega arith)

pub returns : goal.returns
returns c =
    let o = code_of c.args.code in
    let a = c.start.ensures.0 in
    let q = c.positions.ensures in
    record {
      few = q.few;
      ran = q.ran o (taken c.args.soft.now) refl refl refl
          (record {
            exponent = exponent o c.args.l c.args.p c.args.n c.args.h c.args.soft.now _ c.requires;
            soft = length_taken c.args.soft.now ∙ c.requires.long ∙ whole o c.args.l c.args.p c.args.n c.args.h c.args.soft.now _ c.requires;
            small = a.small;
          })
          a (λ j. ap (λ (b : List ℕ). get_or b j 0) (c.fill.ensures.after (λ y e. e)) ∙ zeros_at (length c.args.b.now) j);
    }
