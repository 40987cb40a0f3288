-- Nothing, or the count and the pairs.
use Rattle.std.proofs.Common.{◌≡◌, sym, ap, ◌∙◌, ◌++◌, ℕ, ◌/◌, length, arith}
use Rattle.spec.specs.Code.{pairs_in}
use Rattle.spec.specs.RecordOf.{low_first, pair_bytes}
use Rattle.place.specs.Put.{then, put_none, put_same}
use Rattle.laws.specs.Pairs.{pairs_long}
use Rattle.laws.specs.WrittenForm.{no_pairs, some_pairs}
use Rattle.job_parts.proofs.parts.put_pairs.Goals as goal

pub returns-then-pairs-eq0 : goal.returns-then-pairs-eq0
returns-then-pairs-eq0 c = let a = c.args in put_same (put_none a.at a.out.now) (sym (ap pair_bytes (no_pairs a.pairs.now c.if-pairs-eq0.true)))

pub returns : goal.returns
returns c =
    let q = c.args.pairs.now in
    let e : length q / 4 ≡ length (pairs_in q) = omega (arith, pairs_long q c.requires.0) in
    put_same (then c.put_low-next.ensures.0 c.put_bytes.ensures.0)
    (ap (λ (k : ℕ). low_first 2 k ++ q) e ∙ sym (ap pair_bytes (some_pairs q c.if-pairs-eq0.false)))
