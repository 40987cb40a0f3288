-- At each return the tests that were passed, and the one that was not.
use Rattle.std.proofs.Common.{◌≡◌, refl, sym, ap₂, ◌∙◌, Bool, true, false, cond, ◌||◌, List, [], ◌∷◌, ℕ, ◌/◌, ◌%◌, ◌≤◌, ltb, length, lt-ltb, le-ltb, arith}
use Rattle.spec.specs.Code.{pairs_in}
use Rattle.spec.specs.Faults.{first, some}
use Rattle.spec.specs.Refusals.{wrong_pair, not_rising, pair_faults}
use Rattle.laws.specs.FirstFault.{none, here, later, is_first, differ, same}
use Rattle.laws.specs.MapBits.{flags_of}
use Rattle.laws.specs.Pairs.{pairs_long}
use Rattle.code.proofs.pairs.pairs_refused.Goals as goal

no_pairs : (flags s : List ℕ) → length s ≡ 0 → first (pair_faults flags s) ≡ 0
unfolding first some
no_pairs flags [] e = refl
no_pairs flags (x ∷ s) e = absurd (omega (arith, e))

-- past the tests of the length
few : (s : List ℕ) → length s % 4 ≡ 0 → length s / 4 ≤ 256 → ltb 256 (length (pairs_in s)) ≡ false
few s e h = le-ltb 256 (length (pairs_in s)) (omega (arith, pairs_long s e, h))

-- what is left decides
decided : (flags s : List ℕ) (w r : Bool) → length s % 4 ≡ 0 → length s / 4 ≤ 256 → w ≡ some (wrong_pair flags) (pairs_in s) → r ≡ not_rising (pairs_in s)
    → first (pair_faults flags s) ≡ cond (w || r) 15 0
decided flags s w r e h ew er = go (w || r) (ap₂ ◌||◌ (sym ew) (sym er))
  where
    go : (b : Bool) → (some (wrong_pair flags) (pairs_in s) || not_rising (pairs_in s)) ≡ b → first (pair_faults flags s) ≡ cond b 15 0
    go true q = sym (is_first (pair_faults flags s) 15 (later (same _ _ e) (later (few s e h) (here q))))
    go false q = sym (is_first (pair_faults flags s) 0 (later (same _ _ e) (later (few s e h) (later q none))))

pub returns-then-pairs-eq0 : goal.returns-then-pairs-eq0
returns-then-pairs-eq0 c = no_pairs (flags_of c.args.n c.args.map.now) c.args.pairs.now c.if-pairs-eq0.true

pub returns-then-pairs-ne0 : goal.returns-then-pairs-ne0
returns-then-pairs-ne0 c =
    let s : List ℕ = c.args.pairs.now in
    sym (is_first (pair_faults (flags_of c.args.n c.args.map.now) s) 15 (here (differ (length s % 4) 0 c.if-pairs-ne0.true)))

pub returns-then-pairs-gt256 : goal.returns-then-pairs-gt256
returns-then-pairs-gt256 c =
    let s : List ℕ = c.args.pairs.now in
    sym (is_first (pair_faults (flags_of c.args.n c.args.map.now) s) 15
    (later (same _ _ c.if-pairs-ne0.false) (here (lt-ltb 256 (length (pairs_in s)) (omega (arith, pairs_long s c.if-pairs-ne0.false, c.if-pairs-gt256.true))))))

pub returns-then-some_wrong : goal.returns-then-some_wrong
returns-then-some_wrong c =
    decided (flags_of c.args.n c.args.map.now) c.args.pairs.now true (not_rising (pairs_in c.args.pairs.now)) c.if-pairs-ne0.false c.if-pairs-gt256.false
    (sym c.if-some_wrong.true ∙ c.some_wrong.ensures) refl

pub returns : goal.returns
returns c =
    decided (flags_of c.args.n c.args.map.now) c.args.pairs.now false c.not_rising.result c.if-pairs-ne0.false c.if-pairs-gt256.false
    (sym c.if-some_wrong.false ∙ c.some_wrong.ensures) c.not_rising.ensures
