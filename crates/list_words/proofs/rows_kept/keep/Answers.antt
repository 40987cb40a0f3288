-- The bin is read as the correlation that it holds, and tested as that.
use Rattle.std.proofs.Common.{◌≡◌, sym, ap, ap₂, ◌∙◌, Bool, true, false, cond, List, [], ◌∷◌, ◌++◌, ℕ, ◌+◌, ◌<◌, ℤ, length, append-nil, length-append, arith, to_z, of_z, w32}
use mir.Val.{SFits}
use mir.ValLaws.{to_z-of_z}
use lib.Signed.{le_z}
use Rattle.correlations.specs.Folding.{wrapped}
use Rattle.list_words.specs.Hits.{counts, hits}
use Rattle.list_words.specs.Kept.{Small}
use Rattle.list_words.proofs.rows_kept.keep.Goals as goal

-- the number that the bin was read as
read_is : (s z : ℤ) → SFits w32 s → s ≡ z → to_z w32 (of_z w32 s) ≡ z
read_is s z f e = to_z-of_z w32 s f ∙ e

-- the test that was made is the test of the correlation
tested : (mark s z : ℤ) (b : Bool) → SFits w32 mark → SFits w32 s → s ≡ z → le_z (to_z w32 (of_z w32 mark)) (to_z w32 (of_z w32 s)) ≡ b → le_z mark z ≡ b
tested mark s z b fm fs e t = ap₂ le_z (sym (to_z-of_z w32 mark fm)) (sym (read_is s z fs e)) ∙ t

pub keep_row-requires : goal.keep_row-requires
keep_row-requires c =
    let f = c.requires.1 in
    let t = tested c.args.mark c.value_of-s.result f.value true c.ranges.mark (record { sfits = c.value_of-s.type_inv }) (c.value_of-s.ensures f.value f.small f.is) c.if-mark-s.true in
    let one : counts c.args.mark f.value ≡ 1 = ap (λ (b : Bool). cond b 1 0) t in
    (c.requires.0, record { short = f.short; few = f.few; place = omega (arith, f.room, one); inputs_there = f.inputs_there; words_there = f.words_there })

pub returns-then-mark-s : goal.returns-then-mark-s
returns-then-mark-s c y hs z e sm ev ez =
    let q : ℕ = c.args.q in
    let s = c.value_of-s.ensures z sm ev in
    let fits : SFits w32 c.value_of-s.result = record { sfits = c.value_of-s.type_inv } in
    let t = tested c.args.mark c.value_of-s.result z true c.ranges.mark fits s c.if-mark-s.true in
    let one : hits c.args.mark q (z ∷ []) ≡ q ∷ [] = ap (λ (b : Bool). cond b (q ∷ []) []) t in
    rw one (sym (length-append hs (q ∷ []) ∙ omega (arith, e)), c.keep_row.ensures y hs e (read_is c.value_of-s.result z fits s ∙ ez))

pub returns : goal.returns
returns c y hs z e sm ev ez =
    let q : ℕ = c.args.q in
    let s = c.value_of-s.ensures z sm ev in
    let t = tested c.args.mark c.value_of-s.result z false c.ranges.mark (record { sfits = c.value_of-s.type_inv }) s c.if-mark-s.false in
    let none : hits c.args.mark q (z ∷ []) ≡ [] = ap (λ (b : Bool). cond b (q ∷ []) []) t in
    rw (none, append-nil hs) (sym e, λ k. k)
