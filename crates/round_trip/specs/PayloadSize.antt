-- k does not depend on the transform or on the pairs of a code.
use Rattle.std.specs.Prelude.{◌≡◌, refl, Bool, List, ℕ}
use Rattle.spec.specs.Code.{code, payload_size, frozen}

pub same_payload_size : (m : ℕ) (a b : Bool) (map p q : List ℕ) → payload_size (code m a map p) ≡ payload_size (code m b map q)
unfolding frozen
same_payload_size m a b map p q = refl
