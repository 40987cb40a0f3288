-- What a step of the code is: the text at the front of the buffer, and the rest of the definition's step.
use Rattle.std.specs.Prelude.{◌≡◌, List, ℕ}
use Rattle.place.specs.Put.{Begins}
use Rattle.log_page.specs.Steps.{Step}
use Rattle.log_page.specs.Stop.{has_ended, counted}
use Rattle.log_page.specs.declared.steps.LogStep.{LogStep}

-- the buffer t has become u
pub record Made (x : Step) (t : List ℕ) (r : LogStep) (u : List ℕ) : Type 0 where
  pub text : Begins x.text t r.count u
  pub ended : has_ended r.flow ≡ x.ended
  pub records : (counted r.flow).records ≡ x.records
  pub rows : (counted r.flow).rows ≡ x.rows
