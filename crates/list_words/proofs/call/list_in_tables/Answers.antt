-- The parts that are lent are as long as they must be.
use Rattle.std.proofs.Common.{◌≡◌, sym, ap, subst, ◌∙◌, List, ℕ, ◌+◌, ◌*◌, ◌^◌, ◌≤◌, ℤ, length, take, replicate, length-take-le, pow-add, arith}
use lib.Pow.{pow_mono}
use mir.Syntax.{w32}
use mir.ValLaws.{to_z-of_z}
use Rattle.spec.specs.Code.{Code}
use Rattle.spec.specs.Refusals.{Room}
use Rattle.laws.specs.Accepted.{size_small}
use Rattle.code.specs.Codes.{code_of}
use Rattle.list_words.specs.Listed.{ServeFits, Listed}
use Rattle.list_words.proofs.call.list_in_tables.Goals as goal

-- the parts: columns, payload, word and bins
module _ {o : Code} {soft : List ℤ} {n k : ℕ} {lent : Room} (f : ServeFits o soft n k lent) where
  n_small : n ≤ 1024
  n_small = omega (arith, f.row, size_small f.accepts)

  k_small : k ≤ 20
  k_small = omega (arith, f.bits, f.few)

  bytes_enough : n ≤ lent.bytes
  bytes_enough = omega (arith, f.row, f.bytes_there)

  -- 2 ^ r is at most 16 n
  numbers_enough : (r step : ℕ) → r ≤ o.m + 4 → step ≡ 2 ^ r → step ≤ lent.numbers
  numbers_enough r step h e =
      let up : 2 ^ r ≤ 2 ^ (o.m + 4) = pow_mono {i = r} {j = o.m + 4} h in
      let is : 2 ^ (o.m + 4) ≡ 2 ^ o.m * 16 = pow-add 2 o.m 4 in
      omega (arith, e, up, is, f.numbers_there)

pub power-step-requires : goal.power-step-requires
power-step-requires c = omega (arith, c.requires.0.bits, c.requires.0.few, c.requires.1)

pub power-total-requires : goal.power-total-requires
power-total-requires c = omega (arith, c.requires.0.bits, c.requires.0.few)

pub slice_bounds-cols-end : goal.slice_bounds-cols-end
slice_bounds-cols-end c = n_small c.requires.0

pub slice_bounds-list_all-end : goal.slice_bounds-list_all-end
slice_bounds-list_all-end c = sym (length-take-le c.args.n (replicate 1024 0) (n_small c.requires.0))

pub slice_bounds-list_all-end-5 : goal.slice_bounds-list_all-end-5
slice_bounds-list_all-end-5 c = numbers_enough c.requires.0 c.args.r c.power-step.result c.requires.2 c.power-step.ensures.0

pub slice_bounds-list_all-end-6 : goal.slice_bounds-list_all-end-6
slice_bounds-list_all-end-6 c =
    sym (length-take-le c.power-step.result c.args.numbers.now (numbers_enough c.requires.0 c.args.r c.power-step.result c.requires.2 c.power-step.ensures.0))

pub list_all-requires : goal.list_all-requires
list_all-requires c =
    let f = c.requires.0 in
    record {
      memory = record {
        accepts = f.accepts;
        payload_long = length-take-le c.args.k (replicate 20 0) (k_small f) ∙ f.bits;
        word_long = length-take-le c.args.n c.args.bytes.now (bytes_enough f) ∙ f.row;
      };
      row = f.row;
      all = c.power-total.ensures.0 ∙ ap (λ (j : ℕ). 2 ^ j) f.bits;
      few = f.few;
      last = omega (arith, c.requires.1, f.bits);
      soft_long = f.soft_long;
      in_range = f.in_range;
      cols_long = length-take-le c.args.n (replicate 1024 0) (n_small f) ∙ f.row;
      bins_long = length-take-le c.power-step.result c.args.numbers.now (numbers_enough f c.args.r c.power-step.result c.requires.2 c.power-step.ensures.0) ∙ c.power-step.ensures.0;
      inputs_there = rw f.row f.inputs_there;
      words_there = rw f.row f.words_there;
    }

pub returns : goal.returns
returns c =
    let a = c.args in
    subst (λ (z : ℤ). Listed (code_of a.code) a.soft.now z c.list_all.result a.inputs.now a.words.now a.scores.now
    c.list_all.new.inputs c.list_all.new.words c.list_all.new.scores)
    (to_z-of_z w32 a.mark c.ranges.mark) c.list_all.ensures
