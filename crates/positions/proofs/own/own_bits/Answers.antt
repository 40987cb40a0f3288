use Rattle.std.proofs.Common.{ℕ, List, refl, sym, ap, ◌∙◌, arith, drop, get_or}
use Rattle.spec.specs.Code.{pairs_in, sum_at}
use Rattle.positions.specs.Own.{own_sum}
use Rattle.positions.specs.Running.{zeros_at}
use Rattle.positions.proofs.Choosing.{written}
use Rattle.positions.proofs.own.own_bits.Goals as goal

pub returns-then-from-to : goal.returns-then-from-to
returns-then-from-to c =
    let a = c.args in
    record {
      few = c.requires.0.few;
      order = c.requires.0.order;
      front = λ j h. refl;
      kept = λ rows. rows;
      sums = λ rows over k w hk t.
          ap (λ (u : List ℕ). get_or u k 0) c.requires.3
          ∙ zeros_at 32 k
          ∙ sym (over w)
          ∙ ap (λ (j : ℕ). sum_at (pairs_in (drop j a.pairs.now)) a.i w) (sym c.if-from-to.true);
    }

pub returns : goal.returns
returns c =
    let a = c.args in
    record {
      few = c.requires.2;
      order = omega arith;
      front = c.renew.ensures.front;
      kept = c.renew.ensures.kept;
      sums = λ rows over k w hk t.
          written (own_sum a.from a.i a.n a.pairs.now c.renew.new.rows) a.count a.bits.now _ (c.sum_rows.ensures over) k hk
          ∙ ap (sum_at (pairs_in (drop a.from a.pairs.now)) a.i) (c.renew.ensures.fresh rows k w hk t);
    }
