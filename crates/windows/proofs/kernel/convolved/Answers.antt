use Rattle.windows.specs.Op.{wrap_of}
use Rattle.windows.proofs.Records.{sixteen_ext}
use Rattle.windows.proofs.kernel.convolved.Goals as goal

pub returns : goal.returns
unfolding wrap_of
returns c = sixteen_ext _ _ c.cell.ensures c.cell-2.ensures c.cell-3.ensures c.cell-4.ensures c.cell-5.ensures
    c.cell-6.ensures c.cell-7.ensures c.cell-8.ensures c.cell-9.ensures c.cell-10.ensures c.cell-11.ensures
    c.cell-12.ensures c.cell-13.ensures c.cell-14.ensures c.cell-15.ensures c.cell-16.ensures
