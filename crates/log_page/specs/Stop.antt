-- Why the page ends: the number of a refusal, or 0 at the end of the input; and what a value of the type `ControlFlow` says of a step.
use Rattle.std.specs.Prelude.{Bool, true, false, ℕ, Option, Some, None}
use Rattle.std.specs.declared.ops.ControlFlow.{ControlFlow}
use Rattle.std.specs.declared.ops.ControlFlow.TheVariants.{Continue, Break}
use Rattle.refusals.specs.declared.Refusal.{Refusal}
use Rattle.refusals.specs.Number.{number_of}
use Rattle.log_page.specs.declared.steps.Totals.{Totals}

abbrev pub number_if : Option Refusal → ℕ
number_if None = 0
number_if (Some e) = number_of e

abbrev pub has_ended : ControlFlow Totals Totals → Bool
has_ended (Continue t) = false
has_ended (Break t) = true

-- what has been read either way
abbrev pub counted : ControlFlow Totals Totals → Totals
counted (Continue t) = t
counted (Break t) = t
