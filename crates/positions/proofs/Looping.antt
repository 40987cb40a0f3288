-- The loop over the positions: what holds at each turn.
use mathlib.Core.Path.{◌≡◌, refl, sym, ap, subst, ◌∙◌}
use mathlib.Core.Bool.{Bool}
use mathlib.Core.List.{List, [], ◌∷◌}
use Prim.Native.Nat.{ℕ, ◌+◌, ◌*◌, ◌<◌, ◌≤◌}
use native.Mathlib.Omega.{arith}
use native.Mathlib.Numerals.{add-one}
use lib.ListN.{length, drop}
use lib.IntN.{ℤ}
use Rattle.spec.specs.Code.{Code, pairs_in, sum_at, frozen_bit}
use Rattle.laws.specs.MapBits.{flags_of}
use Rattle.laws.specs.PairRuns.{Part, Reached, RunEnds, reached_start, sum_left}
use Rattle.tables.specs.Start.{Started}
use Rattle.live.specs.declared.Live.{Live}
use Rattle.live.specs.Lists.{entries, Holds}
use Rattle.live.specs.Stands.{Rep}
use Rattle.positions.specs.Running.{prefix_at, Call, Running, Standing, Owns, Beside, Moves, RunFits, Zeros, Runs}
use Rattle.rows.specs.PrefixRows.{RowsKept}
use Rattle.positions.specs.Own.{Owned}
use Rattle.positions.proofs.Starting.{standing_start, running_start}
use Rattle.positions.proofs.Keeping.{kept_on, running_front}

pub record Looping (arikan : Bool) (deep l h n i from seen held : ℕ) (map pairs t₀ b₀ t b slots : List ℕ) (s : Live) : Type 0 where
  pub numbers : length slots ≡ 1024
  pub part : Part from from pairs
  pub reached : Reached (flags_of n map) i from pairs
  pub few : held ≤ l
  pub order : seen ≤ i
  pub kept : RowsKept l n seen held (drop (3 * h) b)
  pub standing : Standing deep l s slots
  pub running : (c : Code) (y : List ℤ) → c.arikan ≡ arikan → c.map ≡ map → c.pairs ≡ pairs → Call c y deep → Started arikan deep l h y t₀ → Zeros b₀ → Running c y deep l h i s t b slots

module _ (arikan : Bool) (deep l h n p rows₀ : ℕ) (map pairs t₀ b₀ : List ℕ) (f : RunFits deep l h n p (length t₀) (length b₀) rows₀ map pairs) where
  pub looping_start : (slots : List ℕ) (s : Live) → length slots ≡ 1024 → Zeros slots → Holds s 1 (0 ∷ []) → Rep 0 ([] ∷ []) (entries s) → s.lost ≡ 4294967295
      → Looping arikan deep l h n 0 0 0 0 map pairs t₀ b₀ t₀ b₀ slots s
  looping_start slots s long none holds rep nothing = record {
    numbers = long;
    part = record { whole = f.ruled.whole; begins = refl; ends = refl; order = omega arith; inside = omega arith };
    reached = reached_start (flags_of n map) pairs f.ruled;
    few = omega arith;
    order = omega arith;
    kept = λ r w hr t. absurd (omega arith);
    standing = standing_start deep l s slots f.sizes.some f.sizes.deepest (omega arith) none holds;
    running = λ c y ea em ep call a zeros. running_start c y deep l h n s t₀ b₀ slots f.sizes call (subst (λ (x : Bool). Started x deep l h y t₀) (sym ea) a) zeros none holds rep nothing;
  }

  module _ (i from seen held : ℕ) (t b slots : List ℕ) (s : Live) (k : Looping arikan deep l h n i from seen held map pairs t₀ b₀ t b slots s) (hi : i < p) where
    module _ (to : ℕ) (part : Part from to pairs) (ends : (flags : List ℕ) → Reached flags i from pairs → RunEnds flags i to pairs)
        (seen' held' : ℕ) (b' own : List ℕ) (eb : length b' ≡ length b) (got : Owned l h n i from to seen held s.count seen' held' pairs b b' own) where
      run : RunEnds (flags_of n map) i to pairs
      run = ends (flags_of n map) k.reached

      -- the bits that were summed are those of the prefixes
      owns : (c : Code) (y : List ℤ) → c.pairs ≡ pairs → Running c y deep l h i s t b slots → Owns c y l i own
      unfolding frozen_bit
      owns c y ep r j hj =
          let w : List ℕ = prefix_at c y l i j in
          got.sums k.kept run.over j w (omega (arith, r.counted)) (r.traced j hj)
          ∙ sym (sum_left (flags_of n map) pairs k.reached w)
          ∙ ap (λ (u : List ℕ). sum_at (pairs_in u) i w) (sym ep)

      pub looping_more : (t' b'' slots' : List ℕ) (r : Live) → length b'' ≡ length b' → length slots' ≡ length slots
          → Standing deep l r slots' → Beside (3 * h) (3 * h + l * i) l b' b'' → Moves arikan deep l h i map own s t b' slots r t' b'' slots'
          → Looping arikan deep l h n (i + 1) to seen' held' map pairs t₀ b₀ t' b'' slots' r
      looping_more t' b'' slots' r eb' es st side mv = record {
        numbers = es ∙ k.numbers;
        part = record { whole = part.whole; begins = part.ends; ends = part.ends; order = omega arith; inside = part.inside };
        reached = subst (λ (j : ℕ). Reached (flags_of n map) j to pairs) (sym (add-one i)) run.next;
        few = got.few;
        order = omega (arith, got.order);
        kept = kept_on l h n i seen' held' (3 * h + l * i) b' b'' refl got.order (omega (arith, f.stop)) eb' side (got.kept k.kept);
        standing = st;
        running = λ c y ea em ep call a zeros.
            let old : Running c y deep l h i s t b slots = k.running c y ea em ep call a zeros in
            subst (λ (j : ℕ). Running c y deep l h j r t' b'' slots') (sym (add-one i))
            (mv c y ea em (owns c y ep old) (running_front c y deep l h n i s t b b' slots (omega (arith, f.stop)) eb got.front old));
      }

pub looping_end : (arikan : Bool) (deep l h n p i from seen held : ℕ) (map pairs t₀ b₀ t b slots : List ℕ) (s : Live) → i ≡ p
    → Looping arikan deep l h n i from seen held map pairs t₀ b₀ t b slots s → Runs arikan deep l h p map pairs t₀ b₀ s t b
looping_end arikan deep l h n p i from seen held map pairs t₀ b₀ t b slots s e k = record {
  few = k.standing.few;
  ran = λ c y ea em ep call a zeros.
      record { slots = slots; running = subst (λ (j : ℕ). Running c y deep l h j s t b slots) e (k.running c y ea em ep call a zeros) };
}
