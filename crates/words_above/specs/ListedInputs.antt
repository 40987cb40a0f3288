-- The inputs of a code in their order, as `code_inputs` lists them: those that go on from nothing as the code asks, and no others, which are
-- those that break no rule; and each is smaller bit by bit than all that follow it.
use Rattle.std.specs.Prelude.{◌≡◌, refl, Bool, true, false, ◌&&◌, ◌||◌, ℕ, zero, suc, ◌<◌, length}
use Rattle.std.proofs.Common.{sym, ap₂, ◌∙◌, true≢false, arith, eq-eqb, le-ltb}
use Rattle.std.proofs.Math.Path.{subst}
use mathlib.Core.List.{List, [], ◌∷◌, ◌++◌, append-nil}
use Rattle.spec.specs.Bits.{Bits, nil}
use Rattle.spec.specs.Code.{Code, size, frozen, frozen_bit, input_for, broken}
use Rattle.spec.specs.Decoder.{lex_before}
use Rattle.spec.specs.WordsAbove.{onward, code_inputs}
use Rattle.laws.specs.FrozenMap.{bits_gathered}
use Rattle.laws.specs.Accepted.{Accepted, flag_count}
use Rattle.laws.specs.Inputs.{Obeys, done, free, bound, snoc_cons, obeys_long, obeys_bits, input_obeys, intact_input, input_intact}
use Rattle.laws.specs.ListCost.{All, none, more, all_append, all_map}
use Rattle.search.specs.ListSearch.{In, here, all_in, in_left, in_right}
use Rattle.search.specs.CodeInputs.{Input, obeys_input}
use Rattle.words_above.specs.ListsInOrder.{Ordered, end, next, ordered_append}

-- ---- the order: u has the smaller bit at the first place where the two differ
pub record Before (u v : List ℕ) : Type 0 where
  pub before : lex_before u v ≡ true
  pub not_after : lex_before v u ≡ false

pub never_before_itself : {u : List ℕ} → Before u u → ⊥
never_before_itself b = true≢false (sym b.before ∙ b.not_after)

-- 0 before 1 behind the same bits
zero_first : (w r s : List ℕ) → Before (w ++ 0 ∷ r) (w ++ 1 ∷ s)
zero_first [] r s = record { before = refl; not_after = refl }
zero_first (x ∷ w) r s =
    let b = zero_first w r s in
    record {
      before = ap₂ (λ (p q : Bool). p || (q && lex_before (w ++ 0 ∷ r) (w ++ 1 ∷ s))) (le-ltb x x (omega arith)) (eq-eqb x x refl) ∙ b.before;
      not_after = ap₂ (λ (p q : Bool). p || (q && lex_before (w ++ 1 ∷ s) (w ++ 0 ∷ r))) (le-ltb x x (omega arith)) (eq-eqb x x refl) ∙ b.not_after;
    }

module _ (c : Code) where
  -- ---- which inputs are listed
  -- u is w and behind it what goes on as the code asks over positions with these flags
  record Onward (fs w u : List ℕ) : Type 0 where
    rest : List ℕ
    obeys : Obeys c fs w rest
    is : u ≡ w ++ rest

  onward_obeys : (fs w : List ℕ) → All (Onward fs w) (onward c fs w)
  onward_obeys [] w = more (record { rest = []; obeys = done; is = sym (append-nil w) }) none
  onward_obeys (zero ∷ fs) w = all_append (all_map (by 0 (omega arith)) (onward_obeys fs (w ++ 0 ∷ []))) (all_map (by 1 (omega arith)) (onward_obeys fs (w ++ 1 ∷ [])))
    where
      by : (b : ℕ) → b < 2 → (u : List ℕ) → Onward fs (w ++ b ∷ []) u → Onward (zero ∷ fs) w u
      by b h u o = record { rest = b ∷ o.rest; obeys = free h o.obeys; is = o.is ∙ snoc_cons w o.rest b }
  onward_obeys (suc f ∷ fs) w = all_map own (onward_obeys fs (w ++ frozen_bit c (length w) w ∷ []))
    where
      own : (u : List ℕ) → Onward fs (w ++ frozen_bit c (length w) w ∷ []) u → Onward (suc f ∷ fs) w u
      own u o = record { rest = frozen_bit c (length w) w ∷ o.rest; obeys = bound o.obeys; is = o.is ∙ snoc_cons w o.rest (frozen_bit c (length w) w) }

  obeys_onward : {fs w r : List ℕ} → Obeys c fs w r → In (w ++ r) (onward c fs w)
  obeys_onward (done {w}) = rw (append-nil w) here
  obeys_onward (free {fs} {w} {r} {b = zero} h o) = in_left (onward c fs (w ++ 1 ∷ [])) (rw (snoc_cons w r 0) at (obeys_onward o))
  obeys_onward (free {fs} {w} {r} {b = suc zero} h o) = in_right (onward c fs (w ++ 0 ∷ [])) (rw (snoc_cons w r 1) at (obeys_onward o))
  obeys_onward (free {b = suc (suc b)} h o) = absurd (omega arith)
  obeys_onward (bound {fs} {w} {r} o) = rw (snoc_cons w r (frozen_bit c (length w) w)) at (obeys_onward o)

  listed_obeys : All (Obeys c (frozen c) []) (code_inputs c)
  unfolding code_inputs
  listed_obeys = all_map (λ (u : List ℕ) (o : Onward (frozen c) [] u). subst (Obeys c (frozen c) []) (sym o.is) o.obeys) (onward_obeys (frozen c) [])

  -- every input that is listed is that of a payload of k bits
  pub listed_inputs : All (Input c) (code_inputs c)
  listed_inputs = all_map (λ (u : List ℕ) (o : Obeys c (frozen c) [] u). obeys_input c o) listed_obeys

  -- and that of every payload is listed
  pub input_listed : {p : List ℕ} → Bits p → In (input_for c p) (code_inputs c)
  unfolding code_inputs
  input_listed t = obeys_onward (input_obeys c t)

  -- ---- their order
  onward_rise : (fs w : List ℕ) → Ordered Before (onward c fs w)
  onward_rise [] w = next none end
  onward_rise (zero ∷ fs) w =
      ordered_append (onward_rise fs (w ++ 0 ∷ [])) (onward_rise fs (w ++ 1 ∷ []))
      (all_map (λ (u : List ℕ) (o : Onward fs (w ++ 0 ∷ []) u). all_map (λ (v : List ℕ) (q : Onward fs (w ++ 1 ∷ []) v). split o q) (onward_obeys fs (w ++ 1 ∷ [])))
      (onward_obeys fs (w ++ 0 ∷ [])))
    where
      split : {u v : List ℕ} → Onward fs (w ++ 0 ∷ []) u → Onward fs (w ++ 1 ∷ []) v → Before u v
      split o q = rw (o.is, q.is, snoc_cons w o.rest 0, snoc_cons w q.rest 1) (zero_first w o.rest q.rest)
  onward_rise (suc f ∷ fs) w = onward_rise fs (w ++ frozen_bit c (length w) w ∷ [])

  -- each input has the smaller bit at the first place where it differs from one that follows it
  pub listed_inputs_rise : Ordered Before (code_inputs c)
  unfolding code_inputs
  listed_inputs_rise = onward_rise (frozen c) []

-- ---- the theorems
-- n bits that break no rule of the code
pub record Unbroken (c : Code) (u : List ℕ) : Type 0 where
  pub bits : Bits u
  pub long : length u ≡ size c
  pub intact : broken c u ≡ false

module _ {c : Code} (a : Accepted c) where
  -- An input is listed where it is n bits that break no rule of the code, and nowhere else.
  pub listed_is_unbroken : (u : List ℕ) → In u (code_inputs c) → Unbroken c u
  listed_is_unbroken u i =
      let o : Obeys c (frozen c) [] u = all_in (listed_obeys c) i in
      let g : Input c u = obeys_input c o in
      record {
        bits = obeys_bits c nil o;
        long = obeys_long c o ∙ flag_count a;
        intact = subst (λ (v : List ℕ). broken c v ≡ false) (sym g.is) (input_intact c a.ruled.right g.bits);
      }

  pub unbroken_is_listed : (u : List ℕ) → Unbroken c u → In u (code_inputs c)
  unbroken_is_listed u b =
      subst (λ (v : List ℕ). In v (code_inputs c)) (intact_input c a.ruled.right b.bits (b.long ∙ sym (flag_count a)) b.intact)
      (input_listed c (bits_gathered (frozen c) b.bits))
