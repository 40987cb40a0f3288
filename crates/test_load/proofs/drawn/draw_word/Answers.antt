-- The payload is drawn, and its word written.
use Rattle.std.proofs.Common.{◌≡◌, ap, ◌∙◌, ℕ}
use Rattle.spec.specs.Code.{Code, payload_size, encoded}
use Rattle.spec.specs.TestLoad.{after_draws, drawn_bits, drawn_payload}
use Rattle.laws.specs.LoadCall.{bits_payload}
use Rattle.code.specs.Codes.{code_of}
use Rattle.test_load.proofs.drawn.draw_word.Goals as goal

-- as many bits as the payload has
payload_is : (s : ℕ) (c : Code) {n : ℕ} → n ≡ payload_size c → drawn_bits n s ≡ drawn_payload s c
unfolding drawn_payload
payload_is s c e = ap (λ (k : ℕ). drawn_bits k s) e

pub write_word-requires : goal.write_word-requires
write_word-requires c =
    let e = c.draw_bits-state.ensures.1 ∙ payload_is c.args.s (code_of c.args.code) c.requires.1 in (
      c.requires.2,
      record {
        accepts = c.requires.0;
        long = c.draw_bits-state.auto.bits ∙ c.requires.1;
        bits = rw e (bits_payload c.args.s (code_of c.args.code));
      },
    )

pub returns : goal.returns
returns c =
    let k = code_of c.args.code in
    let e = c.draw_bits-state.ensures.1 ∙ payload_is c.args.s k c.requires.1 in
    (c.draw_bits-state.ensures.0 ∙ ap (λ (n : ℕ). after_draws n c.args.s) c.requires.1, e, c.write_word.ensures ∙ ap (encoded k) e)
