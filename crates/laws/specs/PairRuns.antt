-- The pairs of one position stand next to each other, since they rise. A loop over the positions, or over the runs of pairs, keeps the
-- place from which on the pairs are those of the positions that are left.
use Rattle.std.specs.Prelude.{◌≡◌, refl, Bool, true, false, not, ◌&&◌, ◌||◌, List, [], ◌∷◌, ℕ, suc, ◌+◌, ◌%◌, ◌<◌, ◌≤◌, length, drop, get_or, ltb, eqb}
use Rattle.std.proofs.Common.{sym, ap, subst, ◌∙◌, true≢false, arith, add-one, ne_eqb, eqb-true, ltb-true, ltb-false}
use Rattle.std.proofs.lemmas.Bool.{eqb-false, not-false}
use Rattle.std.proofs.Math.ListN.{get_or-eq_default}
use Rattle.spec.specs.Code.{Pair, pair, pairs_in, sum_at}
use Rattle.spec.specs.Faults.{some}
use Rattle.spec.specs.Record.{two_at}
use Rattle.spec.specs.Refusals.{wrong_pair, before, not_rising}
use Rattle.laws.specs.FirstFault.{not_either}
use Rattle.laws.specs.Accepted.{Ruled}
use Rattle.laws.specs.ListCost.{All, none, more}
use Rattle.laws.specs.Pairs.{pair_at, pairs_at_lem, pairs_end}

-- bytes of whole pairs, from one pair's place to another's
pub record Part (from to : ℕ) (pairs : List ℕ) : Type 0 where
  pub whole : length pairs % 4 ≡ 0
  pub begins : from % 4 ≡ 0
  pub ends : to % 4 ≡ 0
  pub order : from ≤ to
  pub inside : to ≤ length pairs

-- every f is i or above
abbrev pub From : ℕ → List Pair → Type 0
From i = All (λ (p : Pair). i ≤ p.f)

-- position i is reached: the pairs before the place `from` are of earlier positions, and those from it on are not
pub record Reached (flags : List ℕ) (i from : ℕ) (pairs : List ℕ) : Type 0 where
  pub passed : (j : ℕ) (w : List ℕ) → i ≤ j → sum_at (pairs_in pairs) j w ≡ sum_at (pairs_in (drop from pairs)) j w
  pub left : From i (pairs_in (drop from pairs))
  pub right : some (wrong_pair flags) (pairs_in (drop from pairs)) ≡ false
  pub rising : not_rising (pairs_in (drop from pairs)) ≡ false

-- the pairs of position i end at the place `to`
pub record RunEnds (flags : List ℕ) (i to : ℕ) (pairs : List ℕ) : Type 0 where
  pub next : Reached flags (suc i) to pairs
  pub over : (w : List ℕ) → sum_at (pairs_in (drop to pairs)) i w ≡ 0

-- the positions from i on and before `to` have no pair
abbrev pub Unsummed : ℕ → ℕ → List ℕ → Type 0
Unsummed i to pairs = (k : ℕ) (w : List ℕ) → i ≤ k → k < to → sum_at (pairs_in pairs) k w ≡ 0

-- the next run of pairs once position i is reached: those of position f, from one place to another
pub record Run (flags : List ℕ) (i f from to : ℕ) (pairs : List ℕ) : Type 0 where
  pub part : Part from to pairs
  pub forward : from < to
  pub order : i ≤ f
  pub inside : f < length flags
  pub frozen : get_or flags f 0 ≡ 0 → ⊥
  pub between : Unsummed i f pairs
  pub sum : (w : List ℕ) → sum_at (pairs_in (drop from pairs)) f w ≡ sum_at (pairs_in pairs) f w
  pub over : (w : List ℕ) → sum_at (pairs_in (drop to pairs)) f w ≡ 0
  pub next : Reached flags (f + 1) to pairs

-- what holds of all pairs holds of the first, and of those behind it
module _ {P : Pair → Type 0} {p : Pair} {ps : List Pair} where
  head_all : All P (p ∷ ps) → P p
  head_all (more h a) = h

  tail_all : All P (p ∷ ps) → All P ps
  tail_all (more h a) = a

-- ---- pairs that rise
all_from : (ps : List Pair) → From 0 ps
all_from [] = none
all_from (p ∷ ps) = more {x = p} (omega arith) (all_from ps)

tail_rising : (p : Pair) (ps : List Pair) → not_rising (p ∷ ps) ≡ false → not_rising ps ≡ false
tail_rising p [] e = refl
tail_rising p (q ∷ ps) e = (not_either (not (before p q)) (not_rising (q ∷ ps)) e).1

tail_right : (flags : List ℕ) (p : Pair) (ps : List Pair) → some (wrong_pair flags) (p ∷ ps) ≡ false → some (wrong_pair flags) ps ≡ false
unfolding some
tail_right flags p ps e = (not_either (wrong_pair flags p) (some (wrong_pair flags) ps) e).1

next_f : (p q : Pair) → before p q ≡ true → p.f ≤ q.f
next_f p q e = go (ltb p.f q.f) refl e
  where
    same : (b : Bool) → eqb p.f q.f ≡ b → (b && ltb p.e q.e) ≡ true → p.f ≤ q.f
    same true h k = omega (arith, eqb-true p.f q.f h)
    same false h k = absurd (true≢false (sym k))

    go : (b : Bool) → ltb p.f q.f ≡ b → (b || (eqb p.f q.f && ltb p.e q.e)) ≡ true → p.f ≤ q.f
    go true h k = omega (arith, ltb-true p.f q.f h)
    go false h k = same (eqb p.f q.f) refl k

-- what the first f has reached all have
rising_from : (i : ℕ) (p : Pair) (ps : List Pair) → not_rising (p ∷ ps) ≡ false → i ≤ p.f → From i (p ∷ ps)
rising_from i p [] e h = more h none
rising_from i p (q ∷ ps) e h =
    let r = not_either (not (before p q)) (not_rising (q ∷ ps)) e in
    more h (rising_from i q ps r.1 (omega (arith, next_f p q (not-false (before p q) r.0))))

-- where every f is above i, nothing is summed at i
sum_none : (i : ℕ) {ps : List Pair} → From (suc i) ps → (w : List ℕ) → sum_at ps i w ≡ 0
sum_none i none w = refl
sum_none i (more {x = p} {xs = ps} h a) w = rw (ne_eqb p.f i (λ e. omega (arith, e))) (sum_none i a w)

-- ---- a loop over the positions
module _ (flags pairs : List ℕ) where
  pub reached_start : Ruled flags pairs → Reached flags 0 0 pairs
  reached_start a = record { passed = λ j w h. refl; left = all_from (pairs_in pairs); right = a.right; rising = a.rising }

  -- the bit of a prefix is the sum of the pairs from the place on
  pub sum_left : {i from : ℕ} → Reached flags i from pairs → (w : List ℕ) → sum_at (pairs_in pairs) i w ≡ sum_at (pairs_in (drop from pairs)) i w
  sum_left {i} r w = r.passed i w (omega arith)

-- ---- a loop over the pairs of position i: all that it passed are of this position
pub record Within (flags : List ℕ) (i to : ℕ) (pairs : List ℕ) : Type 0 where
  pub passed : (j : ℕ) (w : List ℕ) → suc i ≤ j → sum_at (pairs_in pairs) j w ≡ sum_at (pairs_in (drop to pairs)) j w
  pub left : From i (pairs_in (drop to pairs))
  pub right : some (wrong_pair flags) (pairs_in (drop to pairs)) ≡ false
  pub rising : not_rising (pairs_in (drop to pairs)) ≡ false

module _ (flags : List ℕ) (i to : ℕ) (pairs : List ℕ) where
  pub within_start : Reached flags i to pairs → Within flags i to pairs
  within_start r = record { passed = λ j w h. r.passed j w (omega arith); left = r.left; right = r.right; rising = r.rising }

  pub within_more : to + 3 < length pairs → two_at pairs to ≡ i → Within flags i to pairs → Within flags i (to + 4) pairs
  within_more h e r =
      let p : Pair = pair_at pairs to in
      let ps : List Pair = pairs_in (drop (to + 4) pairs) in
      let s : pairs_in (drop to pairs) ≡ p ∷ ps = pairs_at_lem pairs to h in
      record {
        passed = λ j w k. r.passed j w k ∙ ap (λ (qs : List Pair). sum_at qs j w) s ∙ rw (ne_eqb (two_at pairs to) j (λ q. omega (arith, q)));
        left = tail_all (subst (From i) s r.left);
        right = tail_right flags p ps (ap (some (wrong_pair flags)) (sym s) ∙ r.right);
        rising = tail_rising p ps (ap not_rising (sym s) ∙ r.rising);
      }

  ends : From (suc i) (pairs_in (drop to pairs)) → Within flags i to pairs → RunEnds flags i to pairs
  ends a r = record { next = record { passed = r.passed; left = a; right = r.right; rising = r.rising }; over = sum_none i a }

  pub within_end : length pairs ≤ to → Within flags i to pairs → RunEnds flags i to pairs
  within_end h r = ends (subst (From (suc i)) (sym (pairs_end pairs to h)) none) r

  pub within_past : to + 3 < length pairs → (two_at pairs to ≡ i → ⊥) → Within flags i to pairs → RunEnds flags i to pairs
  within_past h n r =
      let p : Pair = pair_at pairs to in
      let ps : List Pair = pairs_in (drop (to + 4) pairs) in
      let s : pairs_in (drop to pairs) ≡ p ∷ ps = pairs_at_lem pairs to h in
      let f : i ≤ two_at pairs to = head_all (subst (From i) s r.left) in
      ends (subst (From (suc i)) (sym s) (rising_from (suc i) p ps (ap not_rising (sym s) ∙ r.rising) (omega (arith, f, n)))) r

-- ---- a loop over the runs
pub part_start : {pairs : List ℕ} → length pairs % 4 ≡ 0 → Part 0 0 pairs
part_start w = record { whole = w; begins = refl; ends = refl; order = omega arith; inside = omega arith }

pub part_next : {from to : ℕ} {pairs : List ℕ} → Part from to pairs → Part to to pairs
part_next p = record { whole = p.whole; begins = p.ends; ends = p.ends; order = omega arith; inside = p.inside }

-- a place before the end has room for a pair
pub room : {from to : ℕ} {pairs : List ℕ} → Part from to pairs → to < length pairs → to + 3 < length pairs
room p h = omega (arith, p.whole, p.ends)

-- a frozen position is one of the flags
flag_inside : (flags : List ℕ) (f : ℕ) → (get_or flags f 0 ≡ 0 → ⊥) → f < length flags
flag_inside flags f n = go (ltb f (length flags)) refl
  where
    go : (b : Bool) → ltb f (length flags) ≡ b → f < length flags
    go true e = ltb-true f (length flags) e
    go false e = absurd (n (get_or-eq_default flags 0 (ltb-false f (length flags) e)))

head_frozen : (flags : List ℕ) (p : Pair) (ps : List Pair) → some (wrong_pair flags) (p ∷ ps) ≡ false → get_or flags p.f 0 ≡ 0 → ⊥
unfolding some
head_frozen flags p ps e =
    eqb-false (get_or flags p.f 0) 0
    (not_either (eqb (get_or flags p.f 0) 0) (not (ltb p.e p.f)) (not_either (wrong_pair flags p) (some (wrong_pair flags) ps) e).0).0

module _ {flags pairs : List ℕ} {i from : ℕ} (r : Reached flags i from pairs) where
  -- no pair is left
  pub unsummed_end : (to : ℕ) → length pairs ≤ from → Unsummed i to pairs
  unsummed_end to h k w l u = r.passed k w l ∙ ap (λ (ps : List Pair). sum_at ps k w) (pairs_end pairs from h)

  -- the first pair that is left is of position f
  pub next_run : {f to : ℕ} → f ≡ two_at pairs from → from < length pairs → Part from to pairs
      → ((flags : List ℕ) → Reached flags f from pairs → RunEnds flags f to pairs) → Run flags i f from to pairs
  next_run {f} {to} e h a ends =
      let q : Pair = pair f (two_at pairs (from + 2)) in
      let ps : List Pair = pairs_in (drop (from + 4) pairs) in
      let s : pairs_in (drop from pairs) ≡ q ∷ ps
      = pairs_at_lem pairs from (omega (arith, a.whole, a.begins)) ∙ ap (λ (k : ℕ). pair k (two_at pairs (from + 2)) ∷ ps) (sym e) in
      let rise : not_rising (q ∷ ps) ≡ false = ap not_rising (sym s) ∙ r.rising in
      let low : i ≤ f = head_all (subst (From i) s r.left) in
      let set : get_or flags f 0 ≡ 0 → ⊥ = head_frozen flags q ps (ap (some (wrong_pair flags)) (sym s) ∙ r.right) in
      let here : Reached flags f from pairs
      = record {
        passed = λ j w k. r.passed j w (omega arith);
        left = subst (From f) (sym s) (rising_from f q ps rise (omega arith));
        right = r.right;
        rising = r.rising;
      } in
      let z : RunEnds flags f to pairs = ends flags here in
      let back : to ≤ from → ⊥
      = λ l. let same : to ≡ from = omega (arith, a.order) in
      omega (arith, head_all (subst (From (suc f)) (ap (λ (k : ℕ). pairs_in (drop k pairs)) same ∙ s) z.next.left)) in
      record {
        part = a;
        forward = omega (arith, back);
        order = low;
        inside = flag_inside flags f set;
        frozen = set;
        between = λ k w l u. r.passed k w l ∙ sum_none k (subst (From (suc k)) (sym s) (rising_from (suc k) q ps rise u)) w;
        sum = λ w. sym (r.passed f w low);
        over = z.over;
        next = subst (λ (k : ℕ). Reached flags k to pairs) (sym (add-one f)) z.next;
      }
