use Rattle.std.proofs.Common.{◌≡◌, ℕ, false, ◌++◌, List, length, get_or, ℤ, pos, ◌-ℤ◌, ap, ◌∙◌, sym, w32, to_z, of_z, arith, rules}
use mir.Val.{SFits}
use Rattle.std.specs.Fmt.{decimal as printed}
use Rattle.std.proofs.lemmas.Int.{to_z-of_z}
use Rattle.text.specs.Decimal.{as_printed, decimal_32, signed_decimal}
use Rattle.text.specs.Words.{space}
use Rattle.place.specs.Put.{put_same}
use Rattle.columns.specs.Columns.{right}
use Rattle.page.specs.Lead.{one_score, two_scores}
use Rattle.log_lines.proofs.scores.put_lead.Goals as goal

pub returns-then-scores-lt2 : goal.returns-then-scores-lt2
returns-then-scores-lt2 c =
    (put_same c.put_none.ensures.0 (ap (λ (l : List ℕ). space ++ right 12 l) (one_score c.args.scores.now c.if-scores-lt2.true)), c.put_none.ensures.1)

pub minus-requires : goal.minus-requires
minus-requires c =
    let s = c.args.scores.now in
    let y = get_or s 0 (pos 0) in
    let z = get_or s 1 (pos 0) in
    let f : SFits w32 y = search rules in
    let g : SFits w32 z = search rules in
    let two = two_scores s c.if-scores-lt2.false c.requires.0 in
    rw (to_z-of_z w32 y f) (rw (to_z-of_z w32 z g) two.0)

pub put_number-requires : goal.put_number-requires
put_number-requires c = (omega (arith, ap length (as_printed c.minus.result (omega arith)), decimal_32 c.minus.result (omega arith)), omega arith)

pub returns : goal.returns
returns c =
    let s = c.args.scores.now in
    let y = get_or s 0 (pos 0) in
    let z = get_or s 1 (pos 0) in
    let apart_by : (to_z w32 (of_z w32 y) -ℤ to_z w32 (of_z w32 z)) ≡ pos c.minus.result = c.minus.ensures in
    let f : SFits w32 y = search rules in
    let g : SFits w32 z = search rules in
    let d : (y -ℤ z) ≡ pos c.minus.result = simp to_z-of_z at apart_by in
    let two = two_scores s c.if-scores-lt2.false c.requires.0 in
    let text : printed c.minus.result ≡ _ = as_printed c.minus.result (omega arith) ∙ ap signed_decimal (sym d) ∙ two.1 in
    (put_same c.put_number.ensures.0 (ap (λ (l : List ℕ). space ++ right 12 l) text), c.put_number.ensures.1)
