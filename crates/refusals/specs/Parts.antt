-- A table in two parts: what the first is refused for, the whole is.
use Rattle.std.specs.Prelude.{◌≡◌, List, ◌++◌, Result}
use Rattle.std.proofs.Common.{◌∙◌}
use Rattle.spec.specs.Faults.{Fault, first}
use Rattle.laws.specs.FirstFault.{first_before}
use Rattle.refusals.specs.declared.Refusal.{Refusal}
use Rattle.refusals.specs.Number.{number_of, refused, not_zero}

pub refused_before : {A : Type 0} (fs gs : List Fault) (r : Result A Refusal) (e : Refusal) → refused r ≡ number_of e → number_of e ≡ first fs
    → refused r ≡ first (fs ++ gs)
refused_before fs gs r e s q = s ∙ first_before fs gs (number_of e) q (not_zero e)
