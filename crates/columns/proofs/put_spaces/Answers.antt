use Rattle.std.proofs.Common.{◌≡◌, ◌+◌, ◌-◌, ℕ, refl, ap, ◌∙◌, arith}
use Rattle.std.proofs.lemmas.List.{length-replicate}
use borrow.Rule.Slice.PartMut.{mid_len}
use Rattle.place.specs.Put.{put_part}
use Rattle.columns.specs.Columns.{spaces}
use Rattle.columns.proofs.put_spaces.Goals as goal

pub returns : goal.returns
returns c =
    let a = c.args in
    let long : a.at + a.k - a.at ≡ a.k = omega arith in
    let filled : c.fill.new.self ≡ spaces a.k = c.fill.ensures.after (λ y h. h) ∙ ap spaces (mid_len a.at (a.at + a.k) a.out.now c.requires ∙ long) in
    (rw filled (put_part a.at (a.at + a.k) (spaces a.k) a.out.now (omega (arith, length-replicate {A = ℕ} a.k 32)) c.requires), refl)
