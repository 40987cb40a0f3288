use Rattle.std.proofs.Common.{◌≡◌, sym, ◌∙◌, List, ℕ, ◌<◌, ◌≤◌, length, arith}
use Rattle.spec.specs.Code.{Code, frozen_bit}
use Rattle.laws.specs.MapBits.{flags_of, length_flags, flag_at}
use Rattle.laws.specs.FrozenMap.{broken_clear, broken_frozen, broken_here}
use Rattle.laws.specs.PairRuns.{Unsummed}
use Rattle.extractor.proofs.gather.frozen_bit_set.Goals as goal
use Rattle.extractor.proofs.gather.frozen_bit_set.Goals.{else-flag-ne0-via-then-flag-ne0+else-input-i-ne0, else-flag-ne0-via-else-flag-ne0}

-- the sum at a position that has no pairs
no_sum : (k : Code) (from to i : ℕ) (u : List ℕ) → from ≤ i → i < to → Unsummed from to k.pairs → frozen_bit k i u ≡ 0
unfolding frozen_bit
no_sum k from to i u h l a = a i u h l

pub returns-then-input-i-ne0 : goal.returns-then-input-i-ne0
returns-then-input-i-ne0 c = λ k a.
    let u = c.args.input.now in
    let i = c.loop-i.i in
    let h : i < length u = omega arith in
    let fs = flags_of (length u) c.args.map.now in
    let f = flag_at (length u) c.args.map.now i h ∙ sym c.flag.ensures in
    c.loop-i.invariant k a
    ∙ broken_here fs i (omega (arith, length_flags (length u) c.args.map.now c.requires.0)) (λ e. c.if-flag-ne0.true (sym f ∙ e)) k u
    (λ e. c.if-input-i-ne0.true (e ∙ no_sum k c.args.from c.args.to i u (omega arith) (omega arith) a))

pub loop-i-preserved : goal.loop-i-preserved
loop-i-preserved c = λ k a.
    let u = c.args.input.now in
    let i = c.loop-i.i in
    let h : i < length u = omega arith in
    let fs = flags_of (length u) c.args.map.now in
    let f = flag_at (length u) c.args.map.now i h ∙ sym c.flag.ensures in
    let l : i < length fs = omega (arith, length_flags (length u) c.args.map.now c.requires.0) in
    c.loop-i.invariant k a
    ∙ (elim c.else-flag-ne0.branch [
      | else-flag-ne0-via-then-flag-ne0+else-input-i-ne0 w ↦
          broken_frozen fs i l (λ e. w.if-flag-ne0.true (sym f ∙ e)) k u
          (w.if-input-i-ne0.false ∙ sym (no_sum k c.args.from c.args.to i u (omega arith) (omega arith) a))
      | else-flag-ne0-via-else-flag-ne0 w ↦ broken_clear fs i l (f ∙ w.if-flag-ne0.false) k u
    ])
