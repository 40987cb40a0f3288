-- The word of the payload that was put.
use Rattle.std.proofs.Common.{◌≡◌, ℕ, length, ap, sym, subst, ◌∙◌}
use Rattle.spec.specs.Bits.{Bits}
use Rattle.spec.specs.Code.{payload_size}
use Rattle.code.specs.Codes.{code_of}
use Rattle.payload_blocks.specs.Payloads.{numeral}
use Rattle.payload_blocks.specs.Numerals.{length_numeral, bits_numeral}
use Rattle.payload_blocks.proofs.payload_bits.put_word.Goals as goal

pub write_word-requires : goal.write_word-requires
write_word-requires c =
    let k = payload_size (code_of c.args.code) in
    let put : c.put_payload.new.payload ≡ numeral k c.args.q = c.put_payload.ensures ∙ ap (λ (k : ℕ). numeral k c.args.q) c.requires.payload_long in (
      c.requires.word_long,
      record {
        accepts = c.requires.accepts;
        long = ap length put ∙ length_numeral k c.args.q;
        bits = subst Bits (sym put) (bits_numeral k c.args.q);
      },
    )
