-- The inputs of a code. What goes on from a prefix as the code asks is what the encoder fills in from its payload, and what breaks no
-- rule: this stands behind both round trips, the extractor's refusal 12, and what a search by the code's children can reach.
use Rattle.std.specs.Prelude.{◌≡◌, refl, Bool, true, false, not, cond, ◌||◌, ℕ, zero, suc, ◌+◌, ◌<◌, length, take, get_or, ltb, eqb}
use Rattle.std.proofs.Common.{sym, ap₂, ◌∙◌, arith, eqb-true, eq-eqb, ltb-true, length-append, take_at, get_or-take, get_or-append-add}
use Rattle.std.proofs.Math.Path.{ap, subst}
use mathlib.Core.List.{List, [], ◌∷◌, ◌++◌, append_assoc, append-nil}
use Rattle.std.proofs.Math.Nat.{suc_inj}
use Rattle.std.proofs.lemmas.Bool.{not-false}
use Rattle.spec.specs.Bits.{◌⊕◌, Bits, nil, cons}
use Rattle.spec.specs.Code.{Code, frozen, clear, payload_size, Pair, pairs_in, sum_at, frozen_bit, filled, input_for, gathered, broken_from, broken}
use Rattle.spec.specs.Faults.{some}
use Rattle.spec.specs.Refusals.{wrong_pair}
use Rattle.laws.specs.BitLaws.{bits_snoc}
use Rattle.laws.specs.FirstFault.{not_either}
use Rattle.laws.specs.ListCost.{frozen_lt}

-- r goes on from w over positions with these flags as the code asks
pub data Obeys (c : Code) : List ℕ → List ℕ → List ℕ → Type 0 where
  done : {w : List ℕ} → Obeys c [] w []
  free : {fs w r : List ℕ} {b : ℕ} → b < 2 → Obeys c fs (w ++ b ∷ []) r → Obeys c (0 ∷ fs) w (b ∷ r)
  bound : {fs w r : List ℕ} {f : ℕ} → Obeys c fs (w ++ frozen_bit c (length w) w ∷ []) r → Obeys c (suc f ∷ fs) w (frozen_bit c (length w) w ∷ r)

pub snoc_cons : (w r : List ℕ) (b : ℕ) → (w ++ b ∷ []) ++ r ≡ w ++ b ∷ r
snoc_cons w r b = append_assoc w (b ∷ []) r

module _ (c : Code) where
  pub obeys_long : {fs w r : List ℕ} → Obeys c fs w r → length r ≡ length fs
  obeys_long done = refl
  obeys_long (free h o) = ap suc (obeys_long o)
  obeys_long (bound o) = ap suc (obeys_long o)

  pub obeys_bits : {fs w r : List ℕ} → Bits w → Obeys c fs w r → Bits r
  obeys_bits t done = nil
  obeys_bits t (free {b = b} h o) = cons h (obeys_bits (bits_snoc b t h) o)
  obeys_bits t (bound {w = w} o) =
      let h : frozen_bit c (length w) w < 2 = frozen_lt c (length w) t in
      cons h (obeys_bits (bits_snoc (frozen_bit c (length w) w) t h) o)

  -- what the encoder fills in obeys, and has the payload at the clear positions
  pub record Filled (fs p w : List ℕ) : Type 0 where
    pub rest : List ℕ
    pub obeys : Obeys c fs w rest
    pub is : filled c fs p w ≡ w ++ rest
    pub gives : length p ≡ clear fs → gathered fs rest ≡ p

  filled_obeys : (fs : List ℕ) {p : List ℕ} → Bits p → (w : List ℕ) → Filled fs p w
  filled_obeys [] nil w = record { rest = []; obeys = done; is = sym (append-nil w); gives = λ e. refl }
  filled_obeys [] (cons h t) w = record { rest = []; obeys = done; is = sym (append-nil w); gives = λ e. absurd (omega (arith, e)) }
  filled_obeys (zero ∷ fs) nil w =
      let q = filled_obeys fs nil (w ++ 0 ∷ []) in
      record { rest = 0 ∷ q.rest; obeys = free {b = 0} (omega arith) q.obeys; is = q.is ∙ snoc_cons w q.rest 0; gives = λ e. absurd (omega (arith, e)) }
  filled_obeys (zero ∷ fs) (cons {x = b} h t) w =
      let q = filled_obeys fs t (w ++ b ∷ []) in
      record {
        rest = b ∷ q.rest;
        obeys = free h q.obeys;
        is = q.is ∙ snoc_cons w q.rest b;
        gives = λ e. ap (λ (l : List ℕ). b ∷ l) (q.gives (suc_inj e));
      }
  filled_obeys (suc f ∷ fs) t w =
      let b : ℕ = frozen_bit c (length w) w in
      let q = filled_obeys fs t (w ++ b ∷ []) in
      record { rest = b ∷ q.rest; obeys = bound q.obeys; is = q.is ∙ snoc_cons w q.rest b; gives = q.gives }

  -- and what obeys is filled in from the payload gathered from it
  pub obeys_filled : {fs w r : List ℕ} → Obeys c fs w r → filled c fs (gathered fs r) w ≡ w ++ r
  obeys_filled (done {w}) = sym (append-nil w)
  obeys_filled (free {w = w} {r = r} {b = b} h o) = obeys_filled o ∙ snoc_cons w r b
  obeys_filled (bound {w = w} {r = r} o) = obeys_filled o ∙ snoc_cons w r (frozen_bit c (length w) w)

-- ---- rules that are broken: where every e is below its f, the sum at i looks at the bits before i alone
sum_before : (flags : List ℕ) (ps : List Pair) (i : ℕ) (u : List ℕ) → some (wrong_pair flags) ps ≡ false → sum_at ps i u ≡ sum_at ps i (take i u)
unfolding some
sum_before flags [] i u h = refl
sum_before flags (p ∷ ps) i u h =
    let q = not_either (wrong_pair flags p) (some (wrong_pair flags) ps) h in
    go (eqb p.f i) refl (not_either (eqb (get_or flags p.f 0) 0) (not (ltb p.e p.f)) q.0).1 (sum_before flags ps i u q.1)
  where
    go : (b : Bool) → eqb p.f i ≡ b → not (ltb p.e p.f) ≡ false → sum_at ps i u ≡ sum_at ps i (take i u)
        → cond b (get_or u p.e 0 ⊕ sum_at ps i u) (sum_at ps i u) ≡ cond b (get_or (take i u) p.e 0 ⊕ sum_at ps i (take i u)) (sum_at ps i (take i u))
    go true e low ih =
        let l : p.e < p.f = ltb-true p.e p.f (not-false (ltb p.e p.f) low) in
        ap₂ ◌⊕◌ (sym (get_or-take i u p.e 0 (omega (arith, eqb-true p.f i e)))) ih
    go false e low ih = ih

next_is : (w r : List ℕ) (b : ℕ) → get_or (w ++ b ∷ r) (length w) 0 ≡ b
next_is w r b = let e : length w ≡ length w + 0 = omega arith in ap (λ (i : ℕ). get_or (w ++ b ∷ r) i 0) e ∙ get_or-append-add w (b ∷ r) 0 0

module _ (c : Code) (right : some (wrong_pair (frozen c)) (pairs_in c.pairs) ≡ false) where
  frozen_before : (w r : List ℕ) → frozen_bit c (length w) (w ++ r) ≡ frozen_bit c (length w) w
  unfolding frozen_bit
  frozen_before w r =
      sum_before (frozen c) (pairs_in c.pairs) (length w) (w ++ r) right ∙ ap (sum_at (pairs_in c.pairs) (length w)) (take_at w r (length w) refl)

  -- r, behind w, breaks no rule
  abbrev Intact : List ℕ → List ℕ → List ℕ → Type 0
  Intact fs w r = broken_from c (w ++ r) (length w) fs ≡ false

  -- one bit further
  further : (fs w r : List ℕ) (b : ℕ) → broken_from c (w ++ b ∷ [] ++ r) (length (w ++ b ∷ [])) fs ≡ broken_from c (w ++ b ∷ r) (suc (length w)) fs
  further fs w r b =
      ap₂ (λ (u : List ℕ) (i : ℕ). broken_from c u i fs) (snoc_cons w r b) (omega (arith, length-append w (b ∷ [])))

  -- the bit by which w goes on is the sum that stands at its position
  own_bit : (w r : List ℕ) (b : ℕ) → eqb (get_or (w ++ b ∷ r) (length w) 0) (frozen_bit c (length w) (w ++ b ∷ r)) ≡ eqb b (frozen_bit c (length w) w)
  own_bit w r b = ap₂ eqb (next_is w r b) (frozen_before w (b ∷ r))

  obeys_intact : {fs w r : List ℕ} → Obeys c fs w r → Intact fs w r
  obeys_intact done = refl
  obeys_intact (free {fs = fs} {w = w} {r = r} {b = b} h o) = sym (further fs w r b) ∙ obeys_intact o
  obeys_intact (bound {fs = fs} {w = w} {r = r} o) =
      let b : ℕ = frozen_bit c (length w) w in
      ap₂ (λ (s t : Bool). not s || t) (own_bit w r b ∙ eq-eqb b b refl) (sym (further fs w r b) ∙ obeys_intact o)

  intact_obeys : (fs w : List ℕ) {r : List ℕ} → Bits r → length r ≡ length fs → Intact fs w r → Obeys c fs w r
  intact_obeys [] w nil e h = done
  intact_obeys [] w (cons a t) e h = absurd (omega (arith, e))
  intact_obeys (zero ∷ fs) w nil e h = absurd (omega (arith, e))
  intact_obeys (suc f ∷ fs) w nil e h = absurd (omega (arith, e))
  intact_obeys (zero ∷ fs) w (cons {x = b} {w = r} a t) e h = free a (intact_obeys fs (w ++ b ∷ []) t (suc_inj e) (further fs w r b ∙ h))
  intact_obeys (suc f ∷ fs) w (cons {x = b} {w = r} a t) e h =
      let i : ℕ = length w in
      let u : List ℕ = w ++ b ∷ r in
      let q = not_either (not (eqb (get_or u i 0) (frozen_bit c i u))) (broken_from c u (suc i) fs) h in
      let own : frozen_bit c i w ≡ b = sym (eqb-true b (frozen_bit c i w) (sym (own_bit w r b) ∙ not-false (eqb (get_or u i 0) (frozen_bit c i u)) q.0)) in
      let o : Obeys c fs (w ++ b ∷ []) r = intact_obeys fs (w ++ b ∷ []) t (suc_inj e) (further fs w r b ∙ q.1) in
      subst (λ (x : ℕ). Obeys c (suc f ∷ fs) w (x ∷ r)) own
      (bound (subst (λ (x : ℕ). Obeys c fs (w ++ x ∷ []) r) (sym own) o))

  -- an input of n bits that breaks no rule is that of its payload
  pub intact_input : {u : List ℕ} → Bits u → length u ≡ length (frozen c) → broken c u ≡ false → input_for c (gathered (frozen c) u) ≡ u
  unfolding broken input_for
  intact_input t e h = obeys_filled c (intact_obeys (frozen c) [] t e h)

  -- and that of a payload breaks none
  pub input_intact : {p : List ℕ} → Bits p → broken c (input_for c p) ≡ false
  unfolding broken input_for
  input_intact t = let q = filled_obeys c (frozen c) t [] in ap (λ (u : List ℕ). broken_from c u 0 (frozen c)) q.is ∙ obeys_intact q.obeys

-- ---- the input of a payload of bits: n bits, with the payload at the clear positions
module _ (c : Code) {p : List ℕ} (t : Bits p) where
  pub input_obeys : Obeys c (frozen c) [] (input_for c p)
  unfolding input_for
  input_obeys = let q = filled_obeys c (frozen c) t [] in subst (Obeys c (frozen c) []) (sym q.is) q.obeys

  pub length_input : length (input_for c p) ≡ length (frozen c)
  length_input = obeys_long c input_obeys

  pub bits_input : Bits (input_for c p)
  bits_input = obeys_bits c nil input_obeys

  pub input_gives : length p ≡ payload_size c → gathered (frozen c) (input_for c p) ≡ p
  unfolding input_for
  input_gives e = let q = filled_obeys c (frozen c) t [] in ap (gathered (frozen c)) q.is ∙ q.gives e
