-- A lexicographic number is below 2^26: where the entries are crowded it is a rank among 32 at most.
use Rattle.std.proofs.Common.{◌≡◌, get_or, sym, ◌∙◌, arith}
use Rattle.live.specs.Entries.{lex_of}
use Rattle.live.proofs.Lexical.{lex_lt}
use Rattle.live.proofs.lex.Goals as goal

pub returns-then-anew : goal.returns-then-anew
returns-then-anew c =
    let a = c.args.entries.now in
    let e : c.places_below.result ≡ lex_of a (get_or a c.args.i 0) = rw (sym c.requires.2 ∙ c.if-anew.true) (cc) in
    (omega (arith, lex_lt a c.args.i c.requires.0 c.requires.1), e)

pub returns : goal.returns
returns c =
    let a = c.args.entries.now in
    let e : c.entry_place-place.result ≡ lex_of a (get_or a c.args.i 0) = rw (sym c.requires.2 ∙ c.if-anew.false) (cc) in
    (omega (arith, lex_lt a c.args.i c.requires.0 c.requires.1), e)
