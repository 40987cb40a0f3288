-- The loops over the positions and over the runs of pairs, as laws of lists: what holds at a turn, and one turn. fs are the flags of the n
-- positions. Assumes nothing.
use mathlib.Core.Path.{◌≡◌, refl, sym, ap, subst, ◌∙◌}
use mathlib.Core.Bool.{Bool, true, false}
use mathlib.Core.List.{List, [], ◌∷◌, ◌++◌}
use Prim.Native.Nat.{ℕ, zero, suc, ◌+◌, ◌-◌, ◌*◌, ◌^◌, ◌<◌, ◌≤◌}
use native.Mathlib.Omega.{arith}
use borrow.Author.Tests.{eqb-true, eqb-false}
use lib.Dec.{eqb}
use lib.ListN.{length, take, drop, set, get_or, length-set}
use lib.Seq.{set-get_or, drop-set-lt}
use Rattle.spec.specs.Code.{Code, code, clear, pairs_in, sum_at, frozen_bit, filled, input_for}
use Rattle.spec.specs.Record.{two_at}
use Rattle.laws.specs.Accepted.{Ruled}
use Rattle.laws.specs.FrozenMap.{spread, rest, written_more, clear_turn, frozen_turn, spread_clear, spread_frozen, spread_end, filled_clear, filled_frozen, filled_end}
use Rattle.laws.specs.MapBits.{flags_of, length_flags}
use Rattle.laws.specs.PairRuns.{Part, Reached, RunEnds, Unsummed, Run, reached_start, part_start, part_next, next_run, unsummed_end}
use Rattle.code.specs.Given.{flags_are}

-- ---- the input is written up to position i, with the first j bits of the payload
pub record Spreading (n : ℕ) (fs p out : List ℕ) (j i : ℕ) : Type 0 where
  pub within : i ≤ n
  pub long : length out ≡ n
  pub left : j + clear (drop i fs) ≡ length p
  pub so_far : spread fs p ≡ take i out ++ spread (drop i fs) (drop j p)

module _ {n : ℕ} {fs p out : List ℕ} {j i : ℕ} (s : Spreading n fs p out j i) (e : length fs ≡ n) where
  pub payload_left : i < n → get_or fs i 0 ≡ 0 → j < length p
  payload_left h f = omega (arith, s.left, clear_turn fs i (omega arith) f)

  pub spread_bit : i < n → get_or fs i 0 ≡ 0 → Spreading n fs p (set out i (get_or p j 0)) (j + 1) (i + 1)
  spread_bit h f = record {
    within = omega arith;
    long = length-set out i (get_or p j 0) ∙ s.long;
    left = omega (arith, s.left, clear_turn fs i (omega arith) f);
    so_far = s.so_far
        ∙ ap (λ (l : List ℕ). take i out ++ l) (spread_clear fs i (omega arith) f p j (payload_left h f))
        ∙ written_more out i (get_or p j 0) (spread (drop (i + 1) fs) (drop (j + 1) p)) (omega (arith, s.long));
  }

  pub spread_zero : i < n → (get_or fs i 0 ≡ 0 → ⊥) → Spreading n fs p (set out i 0) j (i + 1)
  spread_zero h f = record {
    within = omega arith;
    long = length-set out i 0 ∙ s.long;
    left = omega (arith, s.left, frozen_turn fs i (omega arith) f);
    so_far = s.so_far
        ∙ ap (λ (l : List ℕ). take i out ++ l) (spread_frozen fs i (omega arith) f p j)
        ∙ written_more out i 0 (spread (drop (i + 1) fs) (drop j p)) (omega (arith, s.long));
  }

  pub spread_done : n ≤ i → out ≡ spread fs p
  spread_done h = sym (s.so_far ∙ spread_end fs p out i j (omega arith) (omega (arith, s.long)))

-- ---- the input has its sums up to position i, where j bits of the payload are passed
record Summed (map pairs fs p out : List ℕ) (i : ℕ) : Type 0 where
  j : ℕ
  left : j + clear (drop i fs) ≡ length p
  behind : drop i out ≡ spread (drop i fs) (drop j p)
  so_far : (m : ℕ) (arikan : Bool) → filled (code m arikan map pairs) fs p [] ≡ filled (code m arikan map pairs) (drop i fs) (drop j p) (take i out)

head_is : {x y : ℕ} {l r : List ℕ} → x ∷ l ≡ y ∷ r → (x ≡ y) × (l ≡ r)
head_is e = (cc, cc)

module _ {map pairs fs p out : List ℕ} (e : length out ≡ length fs) where
  -- a position that has no pair has its bit
  summed_one : {i : ℕ} → i < length fs → ((w : List ℕ) → sum_at (pairs_in pairs) i w ≡ 0) → Summed map pairs fs p out i → Summed map pairs fs p out (i + 1)
  unfolding frozen_bit
  summed_one {i} h a s = go (eqb (get_or fs i 0) 0) refl
    where
      own : {x : ℕ} → get_or out i 0 ≡ x → set out i x ≡ out
      own q = ap (set out i) (sym q) ∙ set-get_or out i 0

      go : (b : Bool) → eqb (get_or fs i 0) 0 ≡ b → Summed map pairs fs p out (i + 1)
      go true t =
          let f : get_or fs i 0 ≡ 0 = eqb-true (get_or fs i 0) 0 t in
          let l : s.j < length p = omega (arith, s.left, clear_turn fs i h f) in
          let q = head_is (sym (rest out i (omega arith)) ∙ s.behind ∙ spread_clear fs i h f p s.j l) in
          record {
            j = s.j + 1;
            left = omega (arith, s.left, clear_turn fs i h f);
            behind = q.1;
            so_far = λ m arikan. s.so_far m arikan ∙ filled_clear fs i h f (code m arikan map pairs) p out s.j l (omega arith)
                ∙ ap (λ (o : List ℕ). filled (code m arikan map pairs) (drop (i + 1) fs) (drop (s.j + 1) p) (take (i + 1) o)) (own q.0);
          }
      go false t =
          let f : get_or fs i 0 ≡ 0 → ⊥ = eqb-false (get_or fs i 0) 0 t in
          let q = head_is (sym (rest out i (omega arith)) ∙ s.behind ∙ spread_frozen fs i h f p s.j) in
          record {
            j = s.j;
            left = omega (arith, s.left, frozen_turn fs i h f);
            behind = q.1;
            so_far = λ m arikan. s.so_far m arikan ∙ filled_frozen fs i h f (code m arikan map pairs) p out s.j 0 (omega arith) (sym (a (take i out)))
                ∙ ap (λ (o : List ℕ). filled (code m arikan map pairs) (drop (i + 1) fs) (drop s.j p) (take (i + 1) o)) (own q.0);
          }

  summed_more : (d i k : ℕ) → i + d ≡ k → k ≤ length fs → Unsummed i k pairs → Summed map pairs fs p out i → Summed map pairs fs p out k
  summed_more zero i k q h a s = let z : i ≡ k = omega (arith, q) in subst (Summed map pairs fs p out) z s
  summed_more (suc d) i k q h a s =
      summed_more d (i + 1) k (omega (arith, q)) h (λ x w l u. a x w (omega arith) u)
      (summed_one (omega (arith, q)) (λ w. a i w (omega arith) (omega (arith, q))) s)

  -- position f gets its sum
  summed_run : {f b : ℕ} → f < length fs → (get_or fs f 0 ≡ 0 → ⊥) → b ≡ sum_at (pairs_in pairs) f (take f out) → Summed map pairs fs p out f
      → Summed map pairs fs p (set out f b) (f + 1)
  unfolding frozen_bit
  summed_run {f} {b} h n q s =
      let t = head_is (sym (rest out f (omega arith)) ∙ s.behind ∙ spread_frozen fs f h n p s.j) in
      record {
        j = s.j;
        left = omega (arith, s.left, frozen_turn fs f h n);
        behind = drop-set-lt (f + 1) out f b (omega arith) ∙ t.1;
        so_far = λ m arikan. s.so_far m arikan ∙ filled_frozen fs f h n (code m arikan map pairs) p out s.j b (omega arith) q;
      }

-- ---- the input has the sums of the pairs before `at`
pub record Summing (map pairs p : List ℕ) (n : ℕ) (out : List ℕ) (at : ℕ) : Type 0 where
  i : ℕ
  within : i ≤ n
  reached : Reached (flags_of n map) i at pairs
  summed : Summed map pairs (flags_of n map) p out i
  pub part : Part at at pairs
  pub long : length out ≡ n

module _ {map pairs p : List ℕ} {n : ℕ} (h : n ≤ 8 * length map) where
  pub summing_start : Ruled (flags_of n map) pairs → clear (flags_of n map) ≡ length p → {out : List ℕ} → length out ≡ n → out ≡ spread (flags_of n map) p
      → Summing map pairs p n out 0
  summing_start a e l q = record {
    i = 0;
    within = omega arith;
    reached = reached_start (flags_of n map) pairs a;
    summed = record { j = 0; left = omega (arith, e); behind = q; so_far = λ m arikan. refl };
    part = part_start a.whole;
    long = l;
  }

  module _ {out : List ℕ} {at : ℕ} (s : Summing map pairs p n out at) where
    long_flags : length out ≡ length (flags_of n map)
    long_flags = s.long ∙ sym (length_flags n map h)

    -- the next run
    pub record Next (f to : ℕ) : Type 0 where
      run : Run (flags_of n map) s.i f at to pairs
      pub forward : at < to
      pub inside : f < length out
      pub pairs_of : Part at to pairs

    pub next : {f to : ℕ} → f ≡ two_at pairs at → at < length pairs → Part at to pairs
        → ((flags : List ℕ) → Reached flags f at pairs → RunEnds flags f to pairs) → Next f to
    next e l a ends =
        let r = next_run s.reached e l a ends in
        record { run = r; forward = r.forward; inside = omega (arith, r.inside, long_flags); pairs_of = a }

    pub summing_run : {f to : ℕ} → Next f to → {b : ℕ}
        → (sum_at (pairs_in (drop to pairs)) f (take f out) ≡ 0 → b ≡ sum_at (pairs_in (drop at pairs)) f (take f out)) → Summing map pairs p n (set out f b) to
    summing_run {f} x {b} g =
        let r = x.run in
        record {
          i = f + 1;
          within = omega (arith, x.inside, s.long);
          reached = r.next;
          summed = summed_run long_flags r.inside r.frozen (g (r.over (take f out)) ∙ r.sum (take f out))
              (summed_more long_flags (f - s.i) s.i f (omega (arith, r.order)) (omega (arith, r.inside)) r.between s.summed);
          part = part_next r.part;
          long = length-set out f b ∙ s.long;
        }

    pub summing_end : length pairs ≤ at → (m : ℕ) (arikan : Bool) → n ≡ 2 ^ m → out ≡ input_for (code m arikan map pairs) p
    unfolding input_for
    summing_end a m arikan e =
        let c : Code = code m arikan map pairs in
        let fs : List ℕ = flags_of n map in
        let t = summed_more long_flags (n - s.i) s.i n (omega (arith, s.within)) (omega (arith, length_flags n map h)) (unsummed_end s.reached n a) s.summed in
        sym (ap (λ (fs : List ℕ). filled c fs p []) (sym (flags_are m n arikan map pairs e))
        ∙ t.so_far m arikan
        ∙ filled_end c fs p out n t.j (omega (arith, length_flags n map h)) (omega (arith, s.long)))
