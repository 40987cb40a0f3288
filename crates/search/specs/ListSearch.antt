-- A list search, whatever the scores are and however a prefix goes on: what its order and its cuts say of the first of a list.
-- Nothing here depends on a transform or on a rule for frozen bits.
use Rattle.std.specs.Prelude.{◌≡◌, refl, Bool, true, false, not, cond, ◌&&◌, ◌||◌, ◌⊎◌, take, drop, T, ℤ}
use Rattle.std.proofs.Common.{sym, subst, inl, inr, arith}
use mathlib.Core.List.{List, [], ◌∷◌, ◌++◌}
use Prim.Native.Nat.{ℕ, zero, suc, ◌<◌, ◌≤◌}
use Rattle.std.specs.Int.Signed.{le_z}
use Rattle.spec.specs.Decoder.{insert_by, sort_by, lex_before, ahead, families, head_of, live_by}
use Rattle.spec.specs.SignedOrder.{le_z_flip}
use Rattle.spec.specs.OrderIsTotal.{ahead_refl, ahead_total, ahead_trans, ahead_antisym}
use Rattle.laws.specs.ListCost.{All, none, more, all_insert, all_sort, all_take, Goes, by, both}

-- ---- members of a list
pub data In {A : Type 0} (x : A) : List A → Type 0 where
  here : {xs : List A} → In x (x ∷ xs)
  there : {y : A} {xs : List A} → In x xs → In x (y ∷ xs)

module _ {A : Type 0} where
  pub all_in : {P : A → Type 0} {x : A} {xs : List A} → All P xs → In x xs → P x
  all_in {P = P} none i = elim i [ ]
  all_in (more p a) here = p
  all_in (more p a) (there i) = all_in a i

  pub in_left : {x : A} {u : List A} (v : List A) → In x u → In x (u ++ v)
  in_left v here = here
  in_left v (there i) = there (in_left v i)

  pub in_right : {x : A} (u : List A) {v : List A} → In x v → In x (u ++ v)
  in_right [] i = i
  in_right (y ∷ u) i = there (in_right u i)

  in_cond : {x : A} (b : Bool) {u v : List A} → In x u → In x v → In x (cond b u v)
  in_cond true p q = p
  in_cond false p q = q

  in_inserted : (le : A → A → Bool) (x : A) (ys : List A) → In x (insert_by le x ys)
  in_inserted le x [] = here
  in_inserted le x (y ∷ ys) = in_cond (le x y) here (there (in_inserted le x ys))

  in_insert : (le : A → A → Bool) {x : A} (z : A) {ys : List A} → In x ys → In x (insert_by le z ys)
  in_insert le {x} z here = in_cond (le z x) (there here) here
  in_insert le z (there {y} i) = in_cond (le z y) (there (there i)) (there (in_insert le z i))

  pub in_sort : (le : A → A → Bool) {x : A} {xs : List A} → In x xs → In x (sort_by le xs)
  in_sort le {x} (here {xs}) = in_inserted le x (sort_by le xs)
  in_sort le (there {y} i) = in_insert le y (in_sort le i)

  -- a cut keeps it or leaves it behind
  pub in_cut : (l : ℕ) {x : A} {xs : List A} → In x xs → In x (take l xs) ⊎ In x (drop l xs)
  in_cut zero i = inr i
  in_cut (suc l) here = inl here
  in_cut (suc l) {x} (there {y} i) = behind y (in_cut l i)
    where
      behind : (y : A) {u v : List A} → In x u ⊎ In x v → In x (y ∷ u) ⊎ In x v
      behind y (inl j) = inl (there j)
      behind y (inr j) = inr j

-- a child of a member is a member of the children
pub in_families : {v w : List ℕ} (f : List ℕ → List (List ℕ)) {ws : List (List ℕ)} → In w ws → In v (f w) → In v (families f ws)
in_families f (here {xs}) i = in_left (families f xs) i
in_families f (there {y} j) i = in_right (f y) (in_families f j i)

-- a rule for children allows the first n bits of u: each prefix is a child of the one before it
abbrev pub Follows : (ℕ → List ℕ → List (List ℕ)) → ℕ → List ℕ → Type 0
Follows kids n u = (i : ℕ) → i < n → In (take (suc i) u) (kids i (take i u))

-- ---- the order of prefixes by a score
module _ (s : List ℕ → ℤ) (v w : List ℕ) where
  -- ahead: no lower score
  pub ahead_score : T (ahead s v w) → T (le_z (s w) (s v))
  ahead_score h = go (le_z (s v) (s w)) (le_z (s w) (s v)) (le_z_flip (s v) (s w)) h
    where
      go : (a b : Bool) → (T (not a) → T b) → T (not a || (b && lex_before v w)) → T b
      go a true flip t = tt
      go true false flip t = absurd t
      go false false flip t = flip tt

  -- ahead with no higher score: before it in the dictionary
  pub ahead_lex : T (ahead s v w) → T (le_z (s v) (s w)) → T (lex_before v w)
  ahead_lex h k = go (le_z (s v) (s w)) (le_z (s w) (s v)) k h
    where
      go : (a b : Bool) → T a → T (not a || (b && lex_before v w)) → T (lex_before v w)
      go true true k t = t
      go true false k t = absurd t
      go false b k t = absurd k

  -- and these two make it so
  pub ahead_when : T (le_z (s w) (s v)) → (T (le_z (s v) (s w)) → T (lex_before v w)) → T (ahead s v w)
  ahead_when h k = go (le_z (s v) (s w)) (le_z (s w) (s v)) h k
    where
      go : (a b : Bool) → T b → (T a → T (lex_before v w)) → T (not a || (b && lex_before v w))
      go true true h k = k tt
      go true false h k = absurd h
      go false b h k = tt

-- ---- the first of a list, which may stand before all others
module _ (s : List ℕ → ℤ) where
  pub data Leads (h : List ℕ) : List (List ℕ) → Type 0 where
    leads : {ws : List (List ℕ)} → All (λ w. T (ahead s h w)) ws → Leads h (h ∷ ws)

  pub leads_all : {h : List ℕ} {ws : List (List ℕ)} → Leads h ws → All (λ w. T (ahead s h w)) ws
  leads_all {h} (leads a) = more (ahead_refl s h) a

  pub leads_in : {h : List ℕ} {ws : List (List ℕ)} → Leads h ws → In h ws
  leads_in (leads a) = here

  pub leads_head : {h : List ℕ} {ws : List (List ℕ)} → Leads h ws → head_of ws ≡ h
  leads_head (leads a) = refl

  -- none scores higher
  pub leads_score : {h w : List ℕ} {ws : List (List ℕ)} → Leads h ws → In w ws → T (le_z (s w) (s h))
  leads_score {h} {w} q i = ahead_score s h w (all_in (leads_all q) i)

  -- there is one such prefix alone
  pub leads_one : {g h : List ℕ} {ws : List (List ℕ)} → Leads g ws → In h ws → All (λ w. T (ahead s h w)) ws → g ≡ h
  leads_one (leads a) here b = refl
  leads_one {g} {h} (leads a) (there i) (more t b) = ahead_antisym s g h (all_in a i) t

  pub leads_same : {g h : List ℕ} {ws : List (List ℕ)} → Leads g ws → Leads h ws → g ≡ h
  leads_same p q = leads_one p (leads_in q) (leads_all q)

  -- a cut leaves it
  pub leads_take : {h : List ℕ} {ws : List (List ℕ)} (l : ℕ) → 1 ≤ l → Leads h ws → Leads h (take l ws)
  leads_take zero some q = absurd (omega arith)
  leads_take (suc l) some (leads a) = leads (all_take l a)

  -- a list that is sorted and not empty has one
  after : (v h : List ℕ) {ws : List (List ℕ)} → T (ahead s v h) → All (λ w. T (ahead s h w)) ws → All (λ w. T (ahead s v w)) ws
  after v h t none = none
  after v h t (more {x = w} p a) = more (ahead_trans s v h w t p) (after v h t a)

  insert_leads : (v : List ℕ) {h : List ℕ} {ws : List (List ℕ)} → Leads h ws → (g : List ℕ) × Leads g (insert_by (ahead s) v ws)
  insert_leads v {h} (leads {ws} a) = go (ahead s v h) refl
    where
      other : T (ahead s v h) ⊎ T (ahead s h v) → ahead s v h ≡ false → T (ahead s h v)
      other (inl t) e = absurd (subst T e t)
      other (inr t) e = t

      go : (b : Bool) → ahead s v h ≡ b → (g : List ℕ) × Leads g (cond b (v ∷ h ∷ ws) (h ∷ insert_by (ahead s) v ws))
      go true e = let t : T (ahead s v h) = subst T (sym e) tt in (v, leads (more t (after v h t a)))
      go false e = (h, leads (all_insert (ahead s) v (other (ahead_total s v h) e) a))

  pub sort_leads : (v : List ℕ) (ws : List (List ℕ)) → (h : List ℕ) × Leads h (sort_by (ahead s) (v ∷ ws))
  sort_leads v [] = (v, leads none)
  sort_leads v (w ∷ ws) = insert_leads v (sort_leads w ws).1

  -- a prefix of a list that may stand before all of it comes first
  pub sort_first : {h : List ℕ} {ws : List (List ℕ)} → In h ws → All (λ w. T (ahead s h w)) ws → Leads h (sort_by (ahead s) ws)
  sort_first {h} {ws} i a = settle (some_first i)
    where
      some_first : {v : List ℕ} {vs : List (List ℕ)} → In v vs → (g : List ℕ) × Leads g (sort_by (ahead s) vs)
      some_first {v} (here {xs}) = sort_leads v xs
      some_first (there {y} {xs} i) = sort_leads y xs

      settle : (g : List ℕ) × Leads g (sort_by (ahead s) ws) → Leads h (sort_by (ahead s) ws)
      settle (g, q) = subst (λ (v : List ℕ). Leads v (sort_by (ahead s) ws)) (leads_one q (in_sort (ahead s) i) (all_sort (ahead s) a)) q

module _ (s : List ℕ → ℤ) (kids : ℕ → List ℕ → List (List ℕ)) (l : ℕ) (some : 1 ≤ l) (rule : (i : ℕ) (w : List ℕ) → Goes w (kids i w)) where
  -- a list is never empty, and has such a first prefix
  pub live_leads : (i : ℕ) → (h : List ℕ) × Leads s h (live_by s kids l i)
  unfolding live_by
  live_leads zero = ([], leads none)
  live_leads (suc i) = next (live_leads i).1
    where
      family : {h : List ℕ} {ks : List (List ℕ)} → Goes h ks → (vs : List (List ℕ)) → (g : List ℕ) × Leads s g (sort_by (ahead s) (ks ++ vs))
      family {h} (by b) vs = sort_leads s (h ++ b ∷ []) vs
      family {h} both vs = sort_leads s (h ++ 0 ∷ []) ((h ++ 1 ∷ []) ∷ vs)

      next : {h : List ℕ} {ws : List (List ℕ)} → Leads s h ws → (g : List ℕ) × Leads s g (take l (sort_by (ahead s) (families (kids i) ws)))
      next {h} (leads {ws} a) = let q = family (rule i h) (families (kids i) ws) in (q.0, leads_take s l some q.1)
