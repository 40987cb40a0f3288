-- At each return the tests that were passed, and the one that was not.
use Rattle.std.proofs.Common.{◌≡◌, refl, sym, ap, ap₂, ◌∙◌, List, ℕ, ◌+◌, ◌*◌, ◌/◌, ◌%◌, ◌^◌, arith}
use Rattle.spec.specs.Code.{map_bytes}
use Rattle.spec.specs.Record.{if_present, two_at, positions, map_at, count_at, pairs_at, pair_count, soft_at}
use Rattle.job_refusals.specs.Shape.{Headed}
use Rattle.job_refusals.proofs.Located.{too_short, too_many, wrong_length, none_applies}
use Rattle.job_refusals.proofs.shape.locate_parts.Goals as goal

-- n, where the frozen map ends, where the pairs begin, and how many there are
module _ {s : List ℕ} {f m n ends : ℕ} (w : Headed s f m) (size : n ≡ 2 ^ m) (end : ends ≡ map_at f + map_bytes n) where
  n_is : n ≡ positions s
  n_is = size ∙ ap (λ (m : ℕ). 2 ^ m) w.m_is

  ends_at : ends ≡ count_at s
  ends_at = end ∙ ap₂ (λ (f n : ℕ). map_at f + map_bytes n) w.fields_are n_is

  begin : ends + 2 * (f / 8 % 2) ≡ pairs_at s
  begin = ap₂ (λ (f e : ℕ). e + 2 * (f / 8 % 2)) w.fields_are ends_at

  module _ {k : ℕ} (e : k ≡ if_present (f / 8 % 2) (two_at s ends) 0) where
    counted : k ≡ pair_count s
    counted = e ∙ ap₂ (λ (f e : ℕ). if_present (f / 8 % 2) (two_at s e) 0) w.fields_are ends_at

    needed : ends + 2 * (f / 8 % 2) + 4 * k + 2 * n ≡ soft_at s + 2 * positions s
    needed = omega (arith, begin, counted, n_is)

pub returns-then-bytes-pairs : goal.returns-then-bytes-pairs
returns-then-bytes-pairs c =
    let b = begin c.requires c.size-n.ensures.0 c.map_end-end.ensures.0 in
    too_short c.args.bytes.now (omega (arith, b, c.if-bytes-pairs.true))

pub returns-then-many : goal.returns-then-many
returns-then-many c =
    let b = begin c.requires c.size-n.ensures.0 c.map_end-end.ensures.0 in
    let k = counted c.requires c.size-n.ensures.0 c.map_end-end.ensures.0 c.pair_count-count.ensures.0 in
    too_many c.args.bytes.now (omega (arith, b, c.if-bytes-pairs.false)) (omega (arith, k, c.if-many.true))

pub returns-then-wrong : goal.returns-then-wrong
returns-then-wrong c =
    let b = begin c.requires c.size-n.ensures.0 c.map_end-end.ensures.0 in
    let k = counted c.requires c.size-n.ensures.0 c.map_end-end.ensures.0 c.pair_count-count.ensures.0 in
    let e = needed c.requires c.size-n.ensures.0 c.map_end-end.ensures.0 c.pair_count-count.ensures.0 in
    wrong_length c.args.bytes.now (omega (arith, b, c.if-bytes-pairs.false)) (omega (arith, k, c.if-many.false)) (λ q. c.if-wrong.true (q ∙ sym e))

pub returns : goal.returns
returns c =
    let b = begin c.requires c.size-n.ensures.0 c.map_end-end.ensures.0 in
    let k = counted c.requires c.size-n.ensures.0 c.map_end-end.ensures.0 c.pair_count-count.ensures.0 in
    let e = needed c.requires c.size-n.ensures.0 c.map_end-end.ensures.0 c.pair_count-count.ensures.0 in
    (refl, none_applies c.args.bytes.now (omega (arith, b, c.if-bytes-pairs.false)) (omega (arith, k, c.if-many.false)) (c.if-wrong.false ∙ e))
