use Rattle.std.proofs.Common.{ap, subst, ◌∙◌, ℕ, ℤ, length, replicate, arith, w32}
use Rattle.std.proofs.lemmas.Int.{to_z-of_z}
use Rattle.spec.specs.Outcome.{decoding, decoded, lent}
use Rattle.code.specs.Codes.{code_of}
use Rattle.block_rows.specs.BlockRows.{BitsWritten}
use Rattle.decoder.proofs.Serving.{bits_fit}
use Rattle.decoder.proofs.Outputs.{enough, costs_fit, served}
use Rattle.decoder.proofs.serve.serve.Goals as goal

pub decode_list-s-requires : goal.decode_list-s-requires
decode_list-s-requires c = enough (code_of c.args.code) c.args.l c.args.p c.args.n c.args.h c.args.soft.now _ c.requires

pub write_bits-requires : goal.write_bits-requires
write_bits-requires c =
    let d = c.decode_list-s in
    rw d.auto.inputs
    (bits_fit (code_of c.args.code) c.args.l c.args.p c.args.n c.args.h c.args.soft.now _ c.requires d.result.count _ d.ensures.few (omega (arith, d.auto.b)))

pub write_costs-ceiling-requires : goal.write_costs-ceiling-requires
write_costs-ceiling-requires c =
    let d = c.decode_list-s in
    costs_fit (code_of c.args.code) c.args.l c.args.p c.args.n c.args.h c.args.soft.now _ c.requires d.result d.new.t d.new.b d.ensures

pub returns : goal.returns
returns c =
    let d = c.decode_list-s in
    let w = c.write_bits in
    let k = c.write_costs-ceiling in
    let z = c.clear_tables in
    let bits = subst (λ (x : ℕ). BitsWritten c.args.code.m c.args.code.arikan c.args.l c.args.p c.args.n c.args.h d.result.count x (length c.args.words.now) d.new.b w.new.inputs w.new.words) d.auto.inputs w.ensures in
    ap (λ (top : ℤ). decoding (decoded d.result.count top) (lent z.new.t z.new.b w.new.inputs w.new.words k.new.scores)) (to_z-of_z w32 k.result (record { sfits = k.type_inv }))
    ∙ served (code_of c.args.code) c.args.l c.args.p c.args.n c.args.h c.args.soft.now _ c.requires d.result d.new.t d.new.b d.ensures
    w.new.inputs w.new.words k.result k.new.scores bits k.ensures z.new.t z.new.b
    (z.ensures.0 ∙ ap (λ (j : ℕ). replicate j 0) d.auto.t) (z.ensures.1 ∙ ap (λ (j : ℕ). replicate j 0) d.auto.b)
