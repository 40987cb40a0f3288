-- The pairs of a code as a loop goes over their bytes: the pair that begins at a place, and those behind it.
use Rattle.std.specs.Prelude.{◌≡◌, refl, Bool, false, not, cond, ◌||◌, List, [], ◌∷◌, ℕ, ◌+◌, ◌-◌, ◌*◌, ◌%◌, ◌<◌, ◌≤◌, length, drop, get_or, eqb}
use Rattle.std.proofs.Common.{sym, ap, ap₂, ◌∙◌, arith, drop_of_length-le, length-drop, length-take}
use Rattle.std.proofs.Math.ListN.{get_or-eq_default}
use Rattle.spec.specs.Bits.{◌⊕◌, unpacked}
use Rattle.spec.specs.Code.{Pair, pair, pairs_in, sum_at}
use Rattle.spec.specs.Faults.{some}
use Rattle.spec.specs.Record.{two_at}
use Rattle.spec.specs.Refusals.{before, not_rising}
use Rattle.laws.specs.FrozenMap.{rest}
use Rattle.laws.specs.MapBits.{flags_of}

-- four bytes a pair
pub pairs_long : (s : List ℕ) → length s % 4 ≡ 0 → 4 * length (pairs_in s) ≡ length s
pairs_long [] e = refl
pairs_long (a ∷ []) e = absurd (omega (arith, e))
pairs_long (a ∷ b ∷ []) e = absurd (omega (arith, e))
pairs_long (a ∷ b ∷ c ∷ []) e = absurd (omega (arith, e))
pairs_long (a ∷ b ∷ c ∷ d ∷ s) e =
    let h : length s % 4 ≡ 0 = omega arith in
    omega (arith, pairs_long s h)

-- the pair that begins at a place
abbrev pub pair_at : List ℕ → ℕ → Pair
pair_at s at = pair (two_at s at) (two_at s (at + 2))

pub pairs_at_lem : (s : List ℕ) (at : ℕ) → at + 3 < length s → pairs_in (drop at s) ≡ pair_at s at ∷ pairs_in (drop (at + 4) s)
pairs_at_lem s at h =
    let one : at + 1 + 1 ≡ at + 2 = omega arith in
    let two : at + 2 + 1 ≡ at + 3 = omega arith in
    let four : at + 3 + 1 ≡ at + 4 = omega arith in
    let d : drop (at + 3) s ≡ get_or s (at + 3) 0 ∷ drop (at + 4) s = rest s (at + 3) h ∙ ap (λ (k : ℕ). get_or s (at + 3) 0 ∷ drop k s) four in
    let c : drop (at + 2) s ≡ get_or s (at + 2) 0 ∷ get_or s (at + 3) 0 ∷ drop (at + 4) s
    = rest s (at + 2) (omega arith) ∙ ap (λ (l : List ℕ). get_or s (at + 2) 0 ∷ l) (ap (λ (k : ℕ). drop k s) two ∙ d) in
    let b : drop (at + 1) s ≡ get_or s (at + 1) 0 ∷ get_or s (at + 2) 0 ∷ get_or s (at + 3) 0 ∷ drop (at + 4) s
    = rest s (at + 1) (omega arith) ∙ ap (λ (l : List ℕ). get_or s (at + 1) 0 ∷ l) (ap (λ (k : ℕ). drop k s) one ∙ c) in
    ap pairs_in (rest s at (omega arith) ∙ ap (λ (l : List ℕ). get_or s at 0 ∷ l) b)
    ∙ ap (λ (k : ℕ). pair (two_at s at) (get_or s (at + 2) 0 + 256 * get_or s k 0) ∷ pairs_in (drop (at + 4) s)) (sym two)

pub pairs_end : (s : List ℕ) (at : ℕ) → length s ≤ at → pairs_in (drop at s) ≡ []
pairs_end s at h = ap pairs_in (drop_of_length-le s h)

-- one turn of a search
pub some_pair : (p : Pair → Bool) (s : List ℕ) (at : ℕ) (b : Bool) → at + 3 < length s → b ≡ p (pair_at s at)
    → some p (pairs_in (drop at s)) ≡ (b || some p (pairs_in (drop (at + 4) s)))
unfolding some
some_pair p s at b h e = rw (pairs_at_lem s at h, e)

-- one turn over pairs that rise: the pair before the place, and the one at it
pub rising_pair : (s : List ℕ) (at : ℕ) (b : Bool) → 4 ≤ at → at + 3 < length s
    → b ≡ before (pair (two_at s (at - 4)) (two_at s (at - 2))) (pair_at s at)
    → not_rising (pairs_in (drop (at - 4) s)) ≡ (not b || not_rising (pairs_in (drop (at + 4 - 4) s)))
rising_pair s at b h g e =
    let i : at - 4 + 4 ≡ at = omega arith in
    let j : at + 4 - 4 ≡ at = omega arith in
    let k : at - 4 + 2 ≡ at - 2 = omega arith in
    let two : pairs_in (drop (at - 4) s) ≡ pair (two_at s (at - 4)) (two_at s (at - 2)) ∷ pair_at s at ∷ pairs_in (drop (at + 4) s)
    = pairs_at_lem s (at - 4) (omega arith)
    ∙ ap₂ (λ (x y : ℕ). pair (two_at s (at - 4)) (two_at s x) ∷ pairs_in (drop y s)) k i
    ∙ ap (λ (l : List Pair). pair (two_at s (at - 4)) (two_at s (at - 2)) ∷ l) (pairs_at_lem s at g) in
    ap not_rising two ∙ ap₂ (λ (t : Bool) (l : List Pair). not t || not_rising l) (sym e) (sym (ap (λ (x : ℕ). pairs_in (drop x s)) j ∙ pairs_at_lem s at g))

-- the last pair, or none
pub rising_end : (s : List ℕ) (at : ℕ) → 4 ≤ at → length s ≤ at → not_rising (pairs_in (drop (at - 4) s)) ≡ false
rising_end s at h g = short (drop (at - 4) s) (omega (arith, length-drop (at - 4) s))
  where
    short : (l : List ℕ) → length l ≤ 4 → not_rising (pairs_in l) ≡ false
    short [] e = refl
    short (a ∷ []) e = refl
    short (a ∷ b ∷ []) e = refl
    short (a ∷ b ∷ c ∷ []) e = refl
    short (a ∷ b ∷ c ∷ d ∷ []) e = refl
    short (a ∷ b ∷ c ∷ d ∷ x ∷ l) e = absurd (omega (arith, e))

-- a position past the end has no flag
pub past_flags : (n : ℕ) (map : List ℕ) (f : ℕ) → n ≤ f → get_or (flags_of n map) f 0 ≡ 0
past_flags n map f h = get_or-eq_default (flags_of n map) 0 (omega (arith, length-take n (unpacked map)))

-- the sum with one pair more, that which begins at a place
pub sum_pair : (s : List ℕ) (at i : ℕ) (w : List ℕ) (sum : ℕ) → at + 3 < length s → sum ≡ sum_at (pairs_in (drop (at + 4) s)) i w
    → cond (eqb (two_at s at) i) (get_or w (two_at s (at + 2)) 0 ⊕ sum) sum ≡ sum_at (pairs_in (drop at s)) i w
sum_pair s at i w sum h e = rw (pairs_at_lem s at h, e)
