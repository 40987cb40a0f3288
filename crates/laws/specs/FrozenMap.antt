-- The input of a payload, the payload gathered from an input, and a bit that breaks its rule: one turn of a loop over the positions
-- for each.
use Rattle.std.specs.Prelude.{◌≡◌, refl, true, false, not, ◌||◌, eqb, List, [], ◌∷◌, ◌++◌, ℕ, zero, suc, ◌+◌, ◌-◌, ◌<◌, ◌≤◌, length, take, drop, set, get_or}
use Rattle.std.proofs.Common.{sym, ap, ◌∙◌, eq-eqb, ne_eqb, append-nil, arith, add-one, drop_of_length-le, take_all, take-suc-set, drop-cons, length-take-le}
use Rattle.std.proofs.Math.Nat.{suc_inj}
use Rattle.std.proofs.Math.Seq.{append_snoc}
use Rattle.spec.specs.Bits.{Bits, nil, cons}
use Rattle.spec.specs.Code.{Code, clear, frozen_bit, filled, gathered, broken_from}

-- the input of a payload where there are no pairs: its bits at the clear positions in rising order, 0 at each frozen one
abbrev pub spread : List ℕ → List ℕ → List ℕ
spread [] p = []
spread (zero ∷ fs) [] = 0 ∷ spread fs []
spread (zero ∷ fs) (b ∷ p) = b ∷ spread fs p
spread (suc f ∷ fs) p = 0 ∷ spread fs p

pub length_gathered : (fs u : List ℕ) → length u ≡ length fs → length (gathered fs u) ≡ clear fs
length_gathered [] u e = refl
length_gathered (f ∷ fs) [] e = absurd (omega (arith, e))
length_gathered (zero ∷ fs) (b ∷ u) e = ap suc (length_gathered fs u (suc_inj e))
length_gathered (suc f ∷ fs) (b ∷ u) e = length_gathered fs u (suc_inj e)

pub bits_gathered : (fs : List ℕ) {u : List ℕ} → Bits u → Bits (gathered fs u)
bits_gathered [] t = nil
bits_gathered (f ∷ fs) nil = nil
bits_gathered (zero ∷ fs) (cons h t) = cons h (bits_gathered fs t)
bits_gathered (suc f ∷ fs) (cons h t) = bits_gathered fs t

-- ---- one turn at position i: fs are the flags, and `out` is what was written so far
-- the rest of a list begins with what stands at i
pub rest : (l : List ℕ) (i : ℕ) → i < length l → drop i l ≡ get_or l i 0 ∷ drop (i + 1) l
rest l i h = rw (add-one i) (drop-cons l i 0 h)

-- a flag and its place: the rest of the flags begins with it
clear_rest : (fs : List ℕ) (i : ℕ) → i < length fs → get_or fs i 0 ≡ 0 → drop i fs ≡ 0 ∷ drop (i + 1) fs
clear_rest fs i h e = rest fs i h ∙ ap (λ (f : ℕ). f ∷ drop (i + 1) fs) e

frozen_rest : (fs : List ℕ) (i : ℕ) → i < length fs → (get_or fs i 0 ≡ 0 → ⊥) → drop i fs ≡ suc (get_or fs i 0 - 1) ∷ drop (i + 1) fs
frozen_rest fs i h n =
    let e : get_or fs i 0 ≡ suc (get_or fs i 0 - 1) = omega arith in
    rest fs i h ∙ ap (λ (f : ℕ). f ∷ drop (i + 1) fs) e

-- what was written, with one element more
pub written_more : (out : List ℕ) (i x : ℕ) (l : List ℕ) → i < length out → take i out ++ x ∷ l ≡ take (i + 1) (set out i x) ++ l
written_more out i x l h = rw (add-one i, take-suc-set out i x h) (sym (append_snoc (take i out) x l))

module _ (fs : List ℕ) (i : ℕ) (h : i < length fs) where
  module _ (f : get_or fs i 0 ≡ 0) where
    pub clear_turn : clear (drop i fs) ≡ suc (clear (drop (i + 1) fs))
    clear_turn = rw (clear_rest fs i h f)

    pub spread_clear : (p : List ℕ) (j : ℕ) → j < length p → spread (drop i fs) (drop j p) ≡ get_or p j 0 ∷ spread (drop (i + 1) fs) (drop (j + 1) p)
    spread_clear p j hp = rw (clear_rest fs i h f, rest p j hp) refl

    pub filled_clear : (c : Code) (p out : List ℕ) (j : ℕ) → j < length p → i < length out
        → filled c (drop i fs) (drop j p) (take i out) ≡ filled c (drop (i + 1) fs) (drop (j + 1) p) (take (i + 1) (set out i (get_or p j 0)))
    filled_clear c p out j hp ho =
        rw (clear_rest fs i h f, rest p j hp) (ap (filled c (drop (i + 1) fs) (drop (j + 1) p)) (sym (rw (add-one i) (take-suc-set out i (get_or p j 0) ho))))

    pub gathered_clear : (u out : List ℕ) (j : ℕ) → i < length u → j < length out
        → take j out ++ gathered (drop i fs) (drop i u) ≡ take (j + 1) (set out j (get_or u i 0)) ++ gathered (drop (i + 1) fs) (drop (i + 1) u)
    gathered_clear u out j hu ho = rw (clear_rest fs i h f, rest u i hu) (written_more out j (get_or u i 0) (gathered (drop (i + 1) fs) (drop (i + 1) u)) ho)

    pub broken_clear : (c : Code) (u : List ℕ) → broken_from c u i (drop i fs) ≡ broken_from c u (i + 1) (drop (i + 1) fs)
    broken_clear c u = rw (clear_rest fs i h f, add-one i) refl

  module _ (f : get_or fs i 0 ≡ 0 → ⊥) where
    pub frozen_turn : clear (drop i fs) ≡ clear (drop (i + 1) fs)
    frozen_turn = rw (frozen_rest fs i h f)

    pub spread_frozen : (p : List ℕ) (j : ℕ) → spread (drop i fs) (drop j p) ≡ 0 ∷ spread (drop (i + 1) fs) (drop j p)
    spread_frozen p j = rw (frozen_rest fs i h f) refl

    pub filled_frozen : (c : Code) (p out : List ℕ) (j b : ℕ) → i < length out → b ≡ frozen_bit c i (take i out)
        → filled c (drop i fs) (drop j p) (take i out) ≡ filled c (drop (i + 1) fs) (drop j p) (take (i + 1) (set out i b))
    filled_frozen c p out j b ho e =
        let l : length (take i out) ≡ i = length-take-le i out (omega arith) in
        let t : take i out ++ frozen_bit c (length (take i out)) (take i out) ∷ [] ≡ take (i + 1) (set out i b)
        = ap (λ (k : ℕ). take i out ++ frozen_bit c k (take i out) ∷ []) l ∙ ap (λ (x : ℕ). take i out ++ x ∷ []) (sym e)
        ∙ sym (rw (add-one i) (take-suc-set out i b ho)) in
        rw (frozen_rest fs i h f) (ap (filled c (drop (i + 1) fs) (drop j p)) t)

    pub gathered_frozen : (u out : List ℕ) (j : ℕ) → i < length u
        → take j out ++ gathered (drop i fs) (drop i u) ≡ take j out ++ gathered (drop (i + 1) fs) (drop (i + 1) u)
    gathered_frozen u out j hu = rw (frozen_rest fs i h f, rest u i hu)

    pub broken_frozen : (c : Code) (u : List ℕ) → get_or u i 0 ≡ frozen_bit c i u → broken_from c u i (drop i fs) ≡ broken_from c u (i + 1) (drop (i + 1) fs)
    broken_frozen c u e = rw (frozen_rest fs i h f, eq-eqb (get_or u i 0) (frozen_bit c i u) e, add-one i) refl

    pub broken_here : (c : Code) (u : List ℕ) → (get_or u i 0 ≡ frozen_bit c i u → ⊥) → broken_from c u i (drop i fs) ≡ true
    broken_here c u n = rw (frozen_rest fs i h f, ne_eqb (get_or u i 0) (frozen_bit c i u) n) refl

    pub broken_turn : (c : Code) (u : List ℕ) {b : ℕ} → b ≡ frozen_bit c i u
        → broken_from c u i (drop i fs) ≡ (not (eqb (get_or u i 0) b) || broken_from c u (i + 1) (drop (i + 1) fs))
    broken_turn c u e = rw (frozen_rest fs i h f, e, add-one i) refl

-- ---- the end of a loop: all positions passed
pub filled_end : (c : Code) (fs p out : List ℕ) (i j : ℕ) → length fs ≤ i → length out ≤ i → filled c (drop i fs) (drop j p) (take i out) ≡ out
filled_end c fs p out i j hf ho = rw (drop_of_length-le fs hf, take_all i out ho) refl

pub spread_end : (fs p out : List ℕ) (i j : ℕ) → length fs ≤ i → length out ≤ i → take i out ++ spread (drop i fs) (drop j p) ≡ out
spread_end fs p out i j hf ho = rw (drop_of_length-le fs hf, take_all i out ho) (append-nil out)

pub gathered_end : (fs u out : List ℕ) (i j : ℕ) → length fs ≤ i → length out ≤ j → take j out ++ gathered (drop i fs) (drop i u) ≡ out
gathered_end fs u out i j hf ho = rw (drop_of_length-le fs hf, take_all j out ho) (append-nil out)

pub broken_end : (c : Code) (fs u : List ℕ) (i : ℕ) → length fs ≤ i → broken_from c u i (drop i fs) ≡ false
broken_end c fs u i hf = rw (drop_of_length-le fs hf) refl
