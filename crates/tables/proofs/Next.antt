-- After an advance the tables stand for the longer prefixes: the step of a loop over the positions.
use mathlib.Core.Path.{◌∙◌}
use mathlib.Core.List.{List}
use mathlib.Core.Bool.{Bool}
use Prim.Native.Nat.{ℕ, suc, ◌+◌, ◌*◌, ◌<◌, ◌^◌}
use native.Mathlib.Omega.{arith}
use Rattle.laws.specs.Nodes.{bits_snoc}
use Rattle.tables.specs.Walk.{Paths, grown, Down, Advance, Kept}
use Rattle.tables.proofs.Grounded.{grown_long}

-- ---- what depends on the layer rule
module _ (arikan : Bool) where
  pub next : (deep l h count n : ℕ) (t b slots t' b' slots' b₀ : List ℕ) (p : Paths arikan deep l h count n t b₀ slots)
      (bs : ℕ → ℕ) → ((r : ℕ) → r < count → bs r < 2) → suc n < 2 ^ suc (suc deep)
      → Down arikan l h count n 0 p.ws (grown p.ws p.bs) b₀ b → Advance arikan deep l h count n t b slots t' b' slots'
      → Kept h t t' → Paths arikan deep l h count (suc n) t' b' slots'
  next deep l h count n t b slots t' b' slots' b₀ p bs hb room top a kept = record {
    y = p.y;
    small = p.small;
    ws = grown p.ws p.bs;
    bs = bs;
    bits = λ r hr. bits_snoc (p.bs r) (p.bits r hr) (p.bit r hr);
    bit = hb;
    long = grown_long count n p.ws p.bs p.long;
    room = room;
    ready = λ k d e. a b₀ p top k d e (omega arith);
    base = λ i x hi hx. kept (16 * (h + i) + x) (omega arith) ∙ p.base i x hi hx;
  }
