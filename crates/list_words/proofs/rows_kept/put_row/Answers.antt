-- The payload is put, the input is filled from it, and the word is its transform.
use Rattle.std.proofs.Common.{◌≡◌, sym, ap, subst, ◌∙◌, List, ℕ, ◌*◌, ◌^◌, ◌≤◌, length, arith}
use Rattle.spec.specs.Bits.{Bits}
use Rattle.spec.specs.Code.{Code, frozen, clear, payload_size, input_for, code_transform, encoded}
use Rattle.laws.specs.Accepted.{Ruled}
use Rattle.laws.specs.Inputs.{bits_input}
use Rattle.laws.specs.MapBits.{flags_of, enough_bits}
use Rattle.code.specs.Codes.{code_of}
use Rattle.code.specs.Given.{flags_are}
use Rattle.payload_blocks.specs.Payloads.{numeral}
use Rattle.payload_blocks.specs.Numerals.{length_numeral, bits_numeral}
use Rattle.payload_blocks.specs.WordFits.{WordFits}
use Rattle.list_words.specs.Hits.{input_at, word_at}
use Rattle.list_words.proofs.rows_kept.put_row.Goals as goal

-- the payload once it is put
put_is : {o : Code} {n word : ℕ} {p : List ℕ} (q : ℕ) → WordFits o n word → p ≡ numeral n q → p ≡ numeral (payload_size o) q
put_is {o} q f e = e ∙ ap (λ (k : ℕ). numeral k q) f.payload_long

pub fill_input-requires : goal.fill_input-requires
fill_input-requires c =
    let o : Code = code_of c.args.code in
    let f = c.requires.0 in
    let flags : flags_of (length c.args.input.now) c.args.code.map.now ≡ frozen o
    = flags_are c.args.code.m (length c.args.input.now) c.args.code.arikan c.args.code.map.now c.args.code.pairs.now f.word_long in
    let b : 2 ^ c.args.code.m ≤ 8 * length c.args.code.map.now = enough_bits (2 ^ c.args.code.m) c.args.code.map.now f.accepts.bytes in
    let e : length c.args.input.now ≡ 2 ^ c.args.code.m = f.word_long in (
      omega arith,
      ap clear flags ∙ sym (ap length (put_is c.args.q f c.put_payload.ensures) ∙ length_numeral (payload_size o) c.args.q),
      subst (λ (fs : List ℕ). Ruled fs c.args.code.pairs.now) (sym flags) f.accepts.ruled,
    )

pub put_word-requires : goal.put_word-requires
put_word-requires c =
    let o : Code = code_of c.args.code in
    let f = c.requires.0 in
    let is : c.fill_input.new.input ≡ input_for o (numeral (payload_size o) c.args.q)
    = c.fill_input.ensures c.args.code.m c.args.code.arikan f.word_long ∙ ap (input_for o) (put_is c.args.q f c.put_payload.ensures) in (
      c.requires.1 ∙ sym c.fill_input.auto.input,
      record {
        least = f.accepts.low;
        most = f.accepts.high;
        long = c.fill_input.auto.input ∙ f.word_long;
        bits = subst Bits (sym is) (bits_input o (bits_numeral (payload_size o) c.args.q));
      },
    )

pub returns : goal.returns
unfolding input_at word_at encoded
returns c =
    let o : Code = code_of c.args.code in
    let f = c.requires.0 in
    let is : c.fill_input.new.input ≡ input_for o (numeral (payload_size o) c.args.q)
    = c.fill_input.ensures c.args.code.m c.args.code.arikan f.word_long ∙ ap (input_for o) (put_is c.args.q f c.put_payload.ensures) in
    (is, c.put_word.ensures ∙ ap (code_transform o) is)
