-- What the bits differ by is the difference, since the first is not below the second.
use Rattle.std.proofs.Common.{◌≡◌, ap, ◌∙◌, w32, arith}
use mir.ValLaws.{to_z-of_z}
use Rattle.spec.specs.RecordOf.{thirty_two_bits}
use Rattle.page.specs.Lead.{difference_is}
use Rattle.log_lines.proofs.scores.minus.Goals as goal

pub returns : goal.returns
returns c =
    let y = c.args.y in
    let z = c.args.z in
    let first : c.thirty_two_bits.result ≡ thirty_two_bits y = c.thirty_two_bits.ensures ∙ ap thirty_two_bits (to_z-of_z w32 y c.ranges.y) in
    let second : c.thirty_two_bits-2.result ≡ thirty_two_bits z = c.thirty_two_bits-2.ensures ∙ ap thirty_two_bits (to_z-of_z w32 z c.ranges.z) in
    difference_is y z _ c.ranges.y.sfits c.ranges.z.sfits c.requires (omega arith)
    (omega (arith, first, second))
