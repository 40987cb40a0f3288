-- The line, and the counts with one record more.
use Rattle.std.proofs.Common.{refl, arith}
use Rattle.place.specs.Put.{whole}
use Rattle.log_page.proofs.steps.enter.Goals as goal

pub returns : goal.returns
returns c = record {
  text = whole c.put_result-count.ensures.0 (omega (arith, c.put_result-count.ensures.1, c.requires));
  ended = refl;
  records = refl;
  rows = refl;
}
