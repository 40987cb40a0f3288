-- The operator of the code is that of the laws: the cluster, the bottom, the top and the start.
use Rattle.std.proofs.Common.{◌≡◌, ℕ, zero, suc, ◌+◌, ◌*◌, ◌/◌, ◌%◌, ◌^◌, ◌<◌, min, Bool, true, false, List, [], ◌∷◌, get_or, ℤ, refl, ap, ◌∙◌, ap₂, le_of_suc-le-suc, not-suc-le-zero, arith}
use Rattle.spec.specs.Bits.{◌⊕◌}
use Rattle.laws.specs.Places.{carry, by_places}
use Rattle.laws.specs.Cost.{bit_cost}
use Rattle.laws.specs.Layer.{least}
use Rattle.laws.specs.Windows.{at4, F, F4}
use Rattle.laws.specs.Nodes.{odd}
use Rattle.laws.specs.Cells.{read3, peek}
use Rattle.windows.specs.declared.window.Sixteen.{Sixteen}
use Rattle.windows.specs.Op.{wrap_of, op4w, three, odd_read, even_read, read_b, entry, eight, sixteen, listed}
use Rattle.windows.specs.Op.{rearranged, order_at, bottom_order_at, flipped, kind_b, tab_at, plain32, Wrote, bottom_f}
use Rattle.windows.specs.Start.{pair_costs, word_costs, free_last, woven, first32}
use Rattle.windows.proofs.Records.{sixteen_ext, listed_at}
use Rattle.windows.proofs.Runs.{wrote_by}

-- ---- the cluster
-- costs that are flipped by e, and then the operator at 0, are the operator at e
operated : (A B : ℕ → ℕ) (e : ℕ) → e < 2
    → sixteen (wrap_of false (entry (flipped e (eight A))) (entry (eight B)) 0) ≡ sixteen (wrap_of false A B e)
unfolding wrap_of
operated A B zero h = refl
operated A B (suc zero) h = refl
operated A B (suc (suc e)) h = absurd (not-suc-le-zero (le_of_suc-le-suc (le_of_suc-le-suc h)))

read_is : (b : Bool) (o : ℕ) (t : List ℕ) (p x₁ x₂ x₃ : ℕ)
    → three (read_b b o t p) x₁ x₂ x₃ ≡ read3 (kind_b b) (tab_at t p o) x₁ x₂ x₃
read_is true o t p x₁ x₂ x₃ = ap (λ (k : ℕ). get_or t k 0) (omega arith)
read_is false o t p x₁ x₂ x₃ = ap₂ (λ (k j : ℕ). min (get_or t k 0) (get_or t j 0)) (omega arith) (omega arith)

op_is : (arikan : Bool) (f f' g g' : ℕ → ℕ → ℕ → ℕ)
    → ((a b c : ℕ) → f a b c ≡ f' a b c) → ((a b c : ℕ) → g a b c ≡ g' a b c)
    → (e x₁ x₂ x₃ x₄ : ℕ) → op4w arikan f g e x₁ x₂ x₃ x₄ ≡ op4w arikan f' g' e x₁ x₂ x₃ x₄
op_is arikan f f' g g' p q e x₁ x₂ x₃ x₄ = ap₂ min (at 0) (at 1)
  where
    s : ℕ
    s = x₁ ⊕ carry arikan x₂

    u : ℕ
    u = x₃ ⊕ carry arikan x₄

    at : (t : ℕ) → (f (e ⊕ s) (x₂ ⊕ u) (x₄ ⊕ t) + g s u t) % 2 ^ 32 ≡ (f' (e ⊕ s) (x₂ ⊕ u) (x₄ ⊕ t) + g' s u t) % 2 ^ 32
    at t = ap₂ (λ (v w : ℕ). (v + w) % 2 ^ 32) (p (e ⊕ s) (x₂ ⊕ u) (x₄ ⊕ t)) (q s u t)

wrap_at : (A B : ℕ → ℕ) (e x : ℕ) → wrap_of false A B e x ≡ at4 (op4w false (three A) (three B) e) x
unfolding wrap_of
wrap_at A B e x = refl

module _ (b : Bool) (e oa ob pa pb to : ℕ) (t t' : List ℕ) (he : e < 2) where
  abbrev A : ℕ → ℕ
  A = read_b b oa t pa

  abbrev B : ℕ → ℕ
  B = read_b b ob t pb

  abbrev made : Sixteen
  made = sixteen (wrap_of false (entry (flipped e (eight A))) (entry (eight B)) 0)

  made_at : (x : ℕ) → x < 16 → get_or (listed made) x 0 ≡ plain32 (kind_b b) (tab_at t pa oa) (tab_at t pb ob) e x
  made_at x l =
      ap (λ (s : Sixteen). get_or (listed s) x 0) (operated A B e he)
      ∙ listed_at (wrap_of false A B e) x l
      ∙ wrap_at A B e x
      ∙ op_is false (three A) (read3 (kind_b b) (tab_at t pa oa)) (three B) (read3 (kind_b b) (tab_at t pb ob))
      (read_is b oa t pa) (read_is b ob t pb) e (x % 2) (x / 2 % 2) (x / 4 % 2) (x / 8 % 2)

  pub node_wrote : (s : Sixteen) → s ≡ made → Wrote (λ x. get_or (listed s) x 0) to 16 t t'
      → Wrote (plain32 (kind_b b) (tab_at t pa oa) (tab_at t pb ob) e) to 16 t t'
  node_wrote s r =
      wrote_by (λ x. get_or (listed s) x 0) (plain32 (kind_b b) (tab_at t pa oa) (tab_at t pb ob) e) to 16 t t'
      (λ x l. ap (λ (s : Sixteen). get_or (listed s) x 0) r ∙ made_at x l)

-- a window that is given by its function
pub sixteen_wrote : (f : ℕ → ℕ) (to : ℕ) (t t' : List ℕ) (s : Sixteen) → s ≡ sixteen f
    → Wrote (λ x. get_or (listed s) x 0) to 16 t t' → Wrote f to 16 t t'
sixteen_wrote f to t t' s r
    = wrote_by (λ x. get_or (listed s) x 0) f to 16 t t'
    (λ x l. ap (λ (s : Sixteen). get_or (listed s) x 0) r ∙ listed_at f x l)

-- ---- the bottom
pub even_bottom : (t : List ℕ) (p z : ℕ)
    → sixteen (λ x. entry (eight (even_read z t p)) (x % 8)) ≡ sixteen (bottom_f false t p z)
even_bottom t p z = sixteen_ext _ _ (at 0) (at 1) (at 2) (at 3) (at 4) (at 5) (at 6) (at 7) (at 0) (at 1) (at 2)
    (at 3) (at 4) (at 5) (at 6) (at 7)
  where
    at : (c : ℕ) → get_or t (p + z + 2 * c) 0 ≡ get_or t (p + (z + 2 * c)) 0
    at c = ap (λ (k : ℕ). get_or t k 0) (omega arith)

pub last_bottom : (t : List ℕ) (p z : ℕ)
    → sixteen (λ x. get_or (get_or t (p + z) 0 ∷ get_or t (p + z + 8) 0 ∷ []) (x % 2) 0) ≡ sixteen (bottom_f true t p z)
last_bottom t p z =
    let e : get_or t (p + z) 0 ≡ get_or t (p + (z + 0)) 0 = ap (λ (k : ℕ). get_or t k 0) (omega arith) in
    let f : get_or t (p + z + 8) 0 ≡ get_or t (p + (z + 8)) 0 = ap (λ (k : ℕ). get_or t k 0) (omega arith) in
    sixteen_ext _ _ e f e f e f e f e f e f e f e f

-- ---- the top
pub peek_least : (b : Bool) (o : ℕ) (t : List ℕ) (p x : ℕ)
    → least (λ u. least (λ v. three (read_b b o t p) x u v)) ≡ peek (kind_b b) (tab_at t p o) x
peek_least b o t p x
    = ap₂ min (ap₂ min (read_is b o t p x 0 0) (read_is b o t p x 0 1))
    (ap₂ min (read_is b o t p x 1 0) (read_is b o t p x 1 1)) ∙ by_phase b
  where
    by_phase : (b : Bool)
        → least (λ u. least (λ v. read3 (kind_b b) (tab_at t p o) x u v)) ≡ peek (kind_b b) (tab_at t p o) x
    by_phase true = refl
    by_phase false = refl

-- ---- the start
pub bottom_is : (arikan : Bool) (a b c d : ℤ) → rearranged (bottom_order_at arikan) (word_costs (pair_costs a b) (pair_costs c d)) ≡ sixteen (F arikan (a ∷ b ∷ c ∷ d ∷ []))
unfolding F4 by_places
bottom_is arikan a b c d = go arikan
  where
    -- by the channel bits
    at : (p q r s : ℕ) → (bit_cost a p + bit_cost b q) + (bit_cost c r + bit_cost d s)
        ≡ bit_cost a p + (bit_cost b q + (bit_cost c r + (bit_cost d s + 0)))
    at p q r s = omega arith

    go : (arikan : Bool) → rearranged (bottom_order_at arikan) (word_costs (pair_costs a b) (pair_costs c d)) ≡ sixteen (F arikan (a ∷ b ∷ c ∷ d ∷ []))
    go false = sixteen_ext _ _
        (at 0 0 0 0) (at 1 0 0 0) (at 1 1 0 0) (at 0 1 0 0) (at 0 1 1 0) (at 1 1 1 0) (at 1 0 1 0) (at 0 0 1 0)
        (at 1 1 1 1) (at 0 1 1 1) (at 0 0 1 1) (at 1 0 1 1) (at 1 0 0 1) (at 0 0 0 1) (at 0 1 0 1) (at 1 1 0 1)
    go true = sixteen_ext _ _
        (at 0 0 0 0) (at 1 0 0 0) (at 1 1 0 0) (at 0 1 0 0) (at 1 0 1 0) (at 0 0 1 0) (at 0 1 1 0) (at 1 1 1 0)
        (at 1 1 1 1) (at 0 1 1 1) (at 0 0 1 1) (at 1 0 1 1) (at 0 1 0 1) (at 1 1 0 1) (at 1 0 0 1) (at 0 0 0 1)

-- the order of the costs is all that differs between the transforms
pub ordered_is : (arikan : Bool) (A B : ℕ → ℕ) → rearranged (order_at arikan) (sixteen (wrap_of false A B 0)) ≡ sixteen (wrap_of arikan A B 0)
unfolding wrap_of
ordered_is true A B = refl
ordered_is false A B = refl

module _ (t : List ℕ) (pa pb : ℕ) where
  abbrev odd_a : ℕ → ℕ
  odd_a = odd_read t pa

  abbrev odd_b : ℕ → ℕ
  odd_b = odd_read t pb

  -- by the window's bits
  first_at : (arikan : Bool) (x₁ x₂ x₃ x₄ : ℕ)
      → least (λ f. op4w arikan (three odd_a) (three odd_b) x₁ x₂ x₃ x₄ f)
      ≡ least (λ f. op4w arikan (read3 odd (tab_at t pa 0)) (read3 odd (tab_at t pb 0)) x₁ x₂ x₃ x₄ f)
  first_at arikan x₁ x₂ x₃ x₄ = ap₂ min (free 0) (free 1)
    where
      free : (f : ℕ) → op4w arikan (three odd_a) (three odd_b) x₁ x₂ x₃ x₄ f
          ≡ op4w arikan (read3 odd (tab_at t pa 0)) (read3 odd (tab_at t pb 0)) x₁ x₂ x₃ x₄ f
      free = op_is arikan (three odd_a) (read3 odd (tab_at t pa 0)) (three odd_b) (read3 odd (tab_at t pb 0))
          (read_is false 0 t pa) (read_is false 0 t pb) x₁ x₂ x₃ x₄

  pub first_is : (arikan : Bool) → woven (free_last (sixteen (wrap_of arikan (entry (eight odd_a)) (entry (eight odd_b)) 0)))
      (free_last (sixteen (wrap_of arikan (entry (flipped 1 (eight odd_a))) (entry (eight odd_b)) 0)))
      ≡ sixteen (first32 arikan (tab_at t pa 0) (tab_at t pb 0))
  unfolding wrap_of
  first_is true = sixteen_ext _ _
      (first_at true 0 0 0 0) (first_at true 1 0 0 0) (first_at true 0 1 0 0) (first_at true 1 1 0 0)
      (first_at true 0 0 1 0) (first_at true 1 0 1 0) (first_at true 0 1 1 0) (first_at true 1 1 1 0)
      (first_at true 0 0 0 1) (first_at true 1 0 0 1) (first_at true 0 1 0 1) (first_at true 1 1 0 1)
      (first_at true 0 0 1 1) (first_at true 1 0 1 1) (first_at true 0 1 1 1) (first_at true 1 1 1 1)
  first_is false = sixteen_ext _ _
      (first_at false 0 0 0 0) (first_at false 1 0 0 0) (first_at false 0 1 0 0) (first_at false 1 1 0 0)
      (first_at false 0 0 1 0) (first_at false 1 0 1 0) (first_at false 0 1 1 0) (first_at false 1 1 1 0)
      (first_at false 0 0 0 1) (first_at false 1 0 0 1) (first_at false 0 1 0 1) (first_at false 1 1 0 1)
      (first_at false 0 0 1 1) (first_at false 1 0 1 1) (first_at false 0 1 1 1) (first_at false 1 1 1 1)
