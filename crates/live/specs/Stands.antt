-- What it is for entries to stand for prefixes, and for one position to lead from the prefixes ps to the prefixes qs.
use Rattle.std.specs.Prelude.{◌≡◌, List, [], ◌∷◌, ◌++◌, map, ℕ, ◌+◌, ◌%◌, ◌<◌, length, take, drop, get_or, leb}
use Rattle.std.proofs.Common.{arith}
use Rattle.spec.specs.Decoder.{sort_by, lex_before, continued, families}
use Rattle.laws.specs.ListCost.{cheaper, All, Long}
use Rattle.laws.specs.CeilingCost.{least_of}
use Rattle.live.specs.declared.Live.{Live}
use Rattle.live.specs.Entries.{cost_of, place_of, bit_of, parent_of, first_of, children_of}
use Rattle.live.specs.Lists.{entries, entries_at, Holds}

-- the entries xs stand for the prefixes ps, each of n bits, rank by rank
pub record Rep (n : ℕ) (ps : List (List ℕ)) (xs : List ℕ) : Type 0 where
  pub counted : length xs ≡ length ps
  pub sized : All (Long n) ps
  pub agree : (i j : ℕ) → i < length ps → j < length ps
      → lex_before (get_or ps i []) (get_or ps j []) ≡ leb (place_of (get_or xs i 0)) (place_of (get_or xs j 0))

-- the entry x tells of the prefix p its cost, and that it is a prefix of ps with one more bit
pub record Bred (cost : List ℕ → ℕ) (ps : List (List ℕ)) (p : List ℕ) (x : ℕ) : Type 0 where
  pub costs : cost_of x ≡ cost p
  pub parent : parent_of x < length ps
  pub child : p ≡ get_or ps (parent_of x) [] ++ bit_of x ∷ []

-- after a position the entries xs stand for the prefixes qs, children of the prefixes ps
pub record Step (cost : List ℕ → ℕ) (n : ℕ) (ps qs : List (List ℕ)) (xs : List ℕ) : Type 0 where
  pub rep : Rep n qs xs
  pub bred : (i : ℕ) → i < length qs → Bred cost ps (get_or qs i []) (get_or xs i 0)

-- cs has, by rank, the costs of the children of the prefixes ps by the bits b
abbrev pub CostsAre : (List ℕ → ℕ) → (ℕ → ℕ) → List ℕ → List (List ℕ) → Type 0
CostsAre cost b cs ps = (i : ℕ) → i < length ps → get_or cs i 0 ≡ cost (get_or ps i [] ++ b i ∷ [])

-- bs has, by rank, the bit of each prefix's first child, where rule gives the bit of a prefix at a frozen position
abbrev pub BitsAre : ℕ → (List ℕ → ℕ) → List ℕ → List (List ℕ) → Type 0
BitsAre f rule bs ps = (i : ℕ) → i < length ps → get_or bs i 0 % 2 ≡ first_of f (rule (get_or ps i []))

-- of the prefixes ws in order the first l stay in the list r, children of the prefixes ps, and the costs of the others are lost
pub record Kept (cost : List ℕ → ℕ) (n l : ℕ) (ps ws : List (List ℕ)) (s r : Live) : Type 0 where
  pub step : Step cost n ps (take l ws) (entries r)
  pub lost : r.lost ≡ least_of s.lost (map cost (drop l ws))

-- A position leads from the list s to the list r: frozen where f is not 0, else clear. The entries of r are the best l children of
-- those of s, and for any prefixes, costs of prefixes and rule for their bits they stand for the best l of the children, and the others are
-- lost.
pub record Position (f l : ℕ) (bs cs ds : List ℕ) (s r : Live) : Type 0 where
  pub holds : Holds r l (take l (sort_by leb (children_of f (entries s) bs cs ds s.count)))
  pub keeps : (cost rule : List ℕ → ℕ) (n : ℕ) (ps : List (List ℕ)) → Rep n ps (entries s) → BitsAre f rule bs ps
      → CostsAre cost (λ i. get_or bs i 0 % 2) cs ps → (f ≡ 0 → CostsAre cost (λ i. 1) ds ps)
      → Kept cost (n + 1) l ps (sort_by (cheaper cost) (families (λ w. continued f (rule w) w) ps)) s r

-- the entry at a rank r, as the code reads it, tells of the prefix at that rank
pub bred_at : {cost : List ℕ → ℕ} {n : ℕ} {ps qs : List (List ℕ)} (s : Live) (r : ℕ)
    → Step cost n ps qs (entries s) → length (entries s) ≡ s.count → r < s.count
    → Bred cost ps (get_or qs r []) (get_or s.code r 0)
bred_at {cost} {n} {ps} {qs} s r S e h =
    let c : length (entries s) ≡ length qs = S.rep.counted in
    rw (← entries_at s r h) (S.bred r (omega arith))
