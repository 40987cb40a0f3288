-- The table's entry at the word's number has the bits of its transform.
use Rattle.std.proofs.Common.{ℕ, ap, ◌∙◌}
use Rattle.spec.specs.Bits.{bits_of}
use Rattle.transform.specs.Strided.{placed}
use Rattle.transform.specs.Word.{turned_entry}
use Rattle.transform.proofs.ShortWords.{turned_four_at}
use Rattle.transform.proofs.base.four.Goals as goal

pub returns : goal.returns
returns g c =
    c.unpack.ensures
    ∙ ap (λ (y : ℕ). placed c.args.at c.args.d (bits_of 4 y) c.args.s.now) (c.turned_entry-y.ensures.0 ∙ ap (turned_entry _) c.pack-x.ensures.0)
    ∙ turned_four_at c.requires _
