-- Which inputs a search by the children of a code can reach: those of payloads, and no others. A path of n positions that the
-- children allow has its payload at the clear positions and its own sum at each frozen one.
use Rattle.std.specs.Prelude.{◌≡◌, take, ℤ}
use Rattle.std.proofs.Math.Path.{refl, sym, subst}
use Rattle.std.proofs.Common.{◌∙◌, arith, take-suc}
use mathlib.Core.List.{List, [], ◌∷◌, ◌++◌, append-nil}
use Prim.Native.Nat.{ℕ, zero, suc, ◌<◌, ◌≤◌}
use Rattle.std.proofs.Math.ListN.{length, get_or}
use Rattle.std.proofs.Math.Seq.{take-length, length-take-le}
use Rattle.spec.specs.Bits.{Bits, nil}
use Rattle.spec.specs.Code.{Code, frozen, payload_size, frozen_bit, input_for, gathered}
use Rattle.spec.specs.Decoder.{continued, children, live_by}
use Rattle.laws.specs.FrozenMap.{length_gathered, bits_gathered}
use Rattle.laws.specs.Inputs.{Obeys, done, free, bound, snoc_cons, obeys_long, obeys_bits, obeys_filled, input_obeys, length_input}
use Rattle.laws.specs.ListCost.{All, none, more, live_all}
use Rattle.search.specs.ListSearch.{In, here, there, all_in, Follows}

-- a is what f gives for a payload of k bits
pub record OfPayload {A : Type 0} (c : Code) (f : List ℕ → A) (a : A) : Type 0 where
  pub payload : List ℕ
  pub long : length payload ≡ payload_size c
  pub bits : Bits payload
  pub is : a ≡ f payload

module _ (c : Code) where
  -- ---- a payload's input is allowed
  -- how a prefix goes on where the next position has flag f
  abbrev Next : ℕ → List ℕ → List (List ℕ)
  Next f w = continued f (frozen_bit c (length w) w) w

  clear_goes : (w : List ℕ) (b : ℕ) → b < 2 → In (w ++ b ∷ []) (Next 0 w)
  clear_goes w zero h = here
  clear_goes w (suc zero) h = there here
  clear_goes w (suc (suc b)) h = absurd (omega arith)

  -- what obeys goes on so at each of its positions
  obeys_goes : {fs w r : List ℕ} → Obeys c fs w r → (j : ℕ) → j < length fs → In (w ++ take (suc j) r) (Next (get_or fs j 0) (w ++ take j r))
  obeys_goes done j h = absurd (omega arith)
  obeys_goes (free {w = w} {b = b} k o) zero h = rw (append-nil w) (clear_goes w b k)
  obeys_goes (bound {w = w} o) zero h = rw (append-nil w) here
  obeys_goes (free {w = w} {r = r} k o) (suc j) h = rw (snoc_cons w (take (suc j) r), snoc_cons w (take j r)) at (obeys_goes o j (omega arith))
  obeys_goes (bound {w = w} {r = r} o) (suc j) h = rw (snoc_cons w (take (suc j) r), snoc_cons w (take j r)) at (obeys_goes o j (omega arith))

  pub input_follows : {p : List ℕ} → Bits p → Follows (children c) (length (frozen c)) (input_for c p)
  unfolding children
  input_follows {p} t i h =
      let u : List ℕ = input_for c p in
      let long : length (take i u) ≡ i = length-take-le i u (omega (arith, length_input c t)) in
      subst (λ (k : ℕ). In (take (suc i) u) (continued (get_or (frozen c) i 0) (frozen_bit c k (take i u)) (take i u))) long (obeys_goes (input_obeys c t) i h)

  -- ---- what is allowed is a payload's input
  obeys_append : {fs gs w r s : List ℕ} → Obeys c fs w r → Obeys c gs (w ++ r) s → Obeys c (fs ++ gs) w (r ++ s)
  obeys_append done q = rw append-nil at q
  obeys_append (free {w = w} {r = r} {b = b} h o) q = free h (obeys_append o (rw (sym (snoc_cons w r b)) at q))
  obeys_append (bound {w = w} {r = r} o) q = bound (obeys_append o (rw (sym (snoc_cons w r (frozen_bit c (length w) w))) at q))

  -- a prefix over the first i positions is as the code asks; past the last position nothing is claimed
  abbrev Allowed : ℕ → List ℕ → Type 0
  Allowed i w = i ≤ length (frozen c) → Obeys c (take i (frozen c)) [] w

  children_allowed : (i : ℕ) (w : List ℕ) → Allowed i w → All (Allowed (suc i)) (children c i w)
  unfolding children
  children_allowed i w a = by_flag (get_or (frozen c) i 0) refl
    where
      child : {f : ℕ} (b : ℕ) → get_or (frozen c) i 0 ≡ f → (length w ≡ i → Obeys c (f ∷ []) w (b ∷ [])) → Allowed (suc i) (w ++ b ∷ [])
      child b e q h =
          let o : Obeys c (take i (frozen c)) [] w = a (omega arith) in
          rw (take-suc (frozen c) i 0 h, e) (obeys_append o (q (obeys_long c o ∙ length-take-le i (frozen c) (omega arith))))

      by_flag : (f : ℕ) → get_or (frozen c) i 0 ≡ f → All (Allowed (suc i)) (continued f (frozen_bit c i w) w)
      by_flag zero e = more (child 0 e (λ l. free (omega arith) done)) (more (child 1 e (λ l. free (omega arith) done)) none)
      by_flag (suc f) e = more (child (frozen_bit c i w) e (λ l. subst (λ (k : ℕ). Obeys c (suc f ∷ []) w (frozen_bit c k w ∷ [])) l (bound done))) none

  abbrev pub Input : List ℕ → Type 0
  Input = OfPayload c (input_for c)

  pub obeys_input : {u : List ℕ} → Obeys c (frozen c) [] u → Input u
  unfolding input_for
  obeys_input {u} o = record {
    payload = gathered (frozen c) u;
    long = length_gathered (frozen c) u (obeys_long c o);
    bits = bits_gathered (frozen c) (obeys_bits c nil o);
    is = sym (obeys_filled c o);
  }

  -- so every prefix that is live after all positions is one, whatever the scores and the list size are
  pub live_input : (s : List ℕ → ℤ) (l : ℕ) {u : List ℕ} → In u (live_by s (children c) l (length (frozen c))) → Input u
  live_input s l {u} i =
      let n : ℕ = length (frozen c) in
      let o : Obeys c (take n (frozen c)) [] u = all_in (live_all s (children c) l {P = Allowed} (λ h. done) children_allowed n) i (omega arith) in
      obeys_input (subst (λ (fs : List ℕ). Obeys c fs [] u) (take-length (frozen c)) o)
