-- A refusal's line or none, and the last line.
use Rattle.std.proofs.Common.{refl, arith}
use Rattle.place.specs.Put.{then, whole}
use Rattle.log_page.proofs.steps.close.Goals as goal

pub returns : goal.returns
returns c = record {
  text = whole (then c.put_refusal-at.ensures.0 c.put_last-count.ensures.0) (omega (arith, c.put_last-count.ensures.1, c.put_refusal-at.ensures.1, c.requires.1));
  ended = refl;
  records = refl;
  rows = refl;
}
