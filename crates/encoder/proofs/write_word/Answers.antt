-- The word is filled with the payload's input, and that is transformed.
use Rattle.std.proofs.Common.{sym, ap, subst, ◌∙◌, List, ℕ, ◌*◌, ◌^◌, ◌≤◌, length, arith}
use Rattle.spec.specs.Code.{clear, code_transform, encoded}
use Rattle.laws.specs.Accepted.{Ruled}
use Rattle.laws.specs.Inputs.{bits_input}
use Rattle.laws.specs.MapBits.{enough_bits}
use Rattle.code.specs.Codes.{code_of}
use Rattle.code.specs.Given.{flags_are}
use Rattle.encoder.proofs.write_word.Goals as goal

pub fill_input-requires : goal.fill_input-requires
fill_input-requires c =
    let s = c.args.code in
    let g = c.requires.1 in
    let b : 2 ^ s.m ≤ 8 * length s.map.now = enough_bits (2 ^ s.m) s.map.now g.accepts.bytes in
    let f = flags_are s.m (length c.args.word.now) s.arikan s.map.now s.pairs.now c.requires.0 in
    (omega arith, ap clear f ∙ sym g.long, subst (λ (fs : List ℕ). Ruled fs s.pairs.now) (sym f) g.accepts.ruled)

pub transform_word-requires : goal.transform_word-requires
transform_word-requires c =
    let s = c.args.code in
    let g = c.requires.1 in
    let e = c.fill_input.ensures s.m s.arikan c.requires.0 in
    record {
      least = g.accepts.low;
      most = g.accepts.high;
      long = c.fill_input.auto.input ∙ c.requires.0;
      bits = rw e (bits_input (code_of s) g.bits);
    }

pub returns : goal.returns
unfolding encoded
returns c =
    let s = c.args.code in
    c.transform_word.ensures ∙ ap (code_transform (code_of s)) (c.fill_input.ensures s.m s.arikan c.requires.0)
