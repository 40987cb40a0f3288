-- Nothing, or a line.
use Rattle.std.proofs.Common.{sym, ap, [], Option, arith}
use Rattle.spec.specs.Faults.{settled}
use Rattle.place.specs.Put.{put_none, put_same}
use Rattle.refusals.specs.declared.Refusal.{Refusal}
use Rattle.page.specs.Lines.{refused_line}
use Rattle.log_page.specs.Stop.{number_if}
use Rattle.log_page.proofs.steps.put_refusal.Goals as goal

pub returns-in-None : goal.returns-in-None
returns-in-None c =
    (put_same (put_none 0 c.args.out.now) (sym (ap (λ (o : Option Refusal). settled (number_if o) refused_line []) c.in-None.is)), omega arith)
