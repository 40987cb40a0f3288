-- The first prefix of a list search goes on, where positions are clear, by a child of its own that scores the same: a prefix that
-- scores as the better of its two children has one as good as itself, no child of another prefix is better, and among equals the
-- order by bits picks the child of the first.
use Rattle.std.specs.Prelude.{◌≡◌, refl, Bool, true, false, not, cond, List, [], ◌∷◌, ◌++◌, ◌⊎◌, ℕ, zero, suc, ◌+◌, ◌<◌, ◌≤◌, length, T, ltb, eqb, ℤ}
use Rattle.std.proofs.Common.{sym, ap, ap₂, subst, ◌∙◌, append_assoc, append-nil, inl, inr, arith, length-append, eqb→eq, nltb→le}
use Rattle.std.proofs.Math.Nat.{suc_inj}
use Rattle.std.specs.Int.Signed.{le_z}
use Rattle.spec.specs.Score.{maxℤ}
use Rattle.spec.specs.Decoder.{lex_before, ahead, families, live_by}
use Rattle.spec.specs.SignedOrder.{tested, clash, le_z_refl, le_z_trans, le_z_flip, le_z_antisym}
use Rattle.spec.specs.OrderIsTotal.{Either, strictly, equally, either, eqb_refl, lex_by}
use Rattle.spec.specs.ScoreIsLargest.{left_le, right_le}
use Rattle.laws.specs.ListCost.{All, none, more, all_append, Goes, Long, search_long}
use Rattle.search.specs.ListSearch.{In, here, there, all_in, in_left, ahead_score, ahead_lex, ahead_when, Leads, leads, leads_all, leads_in, leads_take, sort_first}

-- ---- the dictionary, one bit more on words of one length
lex_more : (v w : List ℕ) (b d : ℕ) → length v ≡ length w → T (lex_before v w) → (v ≡ w → b ≤ d) → T (lex_before (v ++ b ∷ []) (w ++ d ∷ []))
lex_more [] (y ∷ w) b d e t f = absurd (omega (arith, e))
lex_more (x ∷ v) [] b d e t f = absurd (omega (arith, e))
lex_more [] [] b d e t f = lex_by b d [] [] (last (tested (ltb b d)))
  where
    last : T (ltb b d) ⊎ T (not (ltb b d)) → Either (ltb b d) (eqb b d) true
    last (inl h) = strictly h
    last (inr h) =
        let same : b ≡ d = omega (arith, nltb→le b d h, f refl) in
        equally (subst (λ (n : ℕ). T (eqb b n)) same (eqb_refl b)) tt
lex_more (x ∷ v) (y ∷ w) b d e t f = go (either (ltb x y) (eqb x y) (lex_before v w) t) (lex_more v w b d (suc_inj e))
  where
    go : Either (ltb x y) (eqb x y) (lex_before v w) → (T (lex_before v w) → (v ≡ w → b ≤ d) → T (lex_before (v ++ b ∷ []) (w ++ d ∷ [])))
        → T (lex_before (x ∷ v ++ b ∷ []) (y ∷ w ++ d ∷ []))
    go (strictly h) ih = lex_by x y (v ++ b ∷ []) (w ++ d ∷ []) (strictly h)
    go (equally h q) ih =
        lex_by x y (v ++ b ∷ []) (w ++ d ∷ []) (equally h (ih q (λ same. f (ap₂ (λ (n : ℕ) (r : List ℕ). n ∷ r) (eqb→eq x y h) same))))

module _ (s : List ℕ → ℤ) where
  -- a prefix scores as the better of its two children
  abbrev pub Splits : List ℕ → Type 0
  Splits w = s w ≡ maxℤ (s (w ++ 0 ∷ [])) (s (w ++ 1 ∷ []))

  child_below : (w : List ℕ) (d : ℕ) → d < 2 → Splits w → T (le_z (s (w ++ d ∷ [])) (s w))
  child_below w zero h e = subst (λ (z : ℤ). T (le_z (s (w ++ 0 ∷ [])) z)) (sym e) (left_le (s (w ++ 0 ∷ [])) (s (w ++ 1 ∷ [])))
  child_below w (suc zero) h e = subst (λ (z : ℤ). T (le_z (s (w ++ 1 ∷ [])) z)) (sym e) (right_le (s (w ++ 0 ∷ [])) (s (w ++ 1 ∷ [])))
  child_below w (suc (suc d)) h e = absurd (omega arith)

  -- the bit of the better child, 0 where both score the same
  pub data Best (h : List ℕ) : ℕ → Type 0 where
    by_0 : T (le_z (s (h ++ 1 ∷ [])) (s (h ++ 0 ∷ []))) → Best h 0
    by_1 : T (not (le_z (s (h ++ 1 ∷ [])) (s (h ++ 0 ∷ [])))) → Best h 1

  best_bit : (h : List ℕ) → (b : ℕ) × Best h b
  best_bit h = go (tested (le_z (s (h ++ 1 ∷ [])) (s (h ++ 0 ∷ []))))
    where
      go : T (le_z (s (h ++ 1 ∷ [])) (s (h ++ 0 ∷ []))) ⊎ T (not (le_z (s (h ++ 1 ∷ [])) (s (h ++ 0 ∷ [])))) → (b : ℕ) × Best h b
      go (inl t) = (0, by_0 t)
      go (inr t) = (1, by_1 t)

  best_same : (h : List ℕ) {b : ℕ} → Splits h → Best h b → s (h ++ b ∷ []) ≡ s h
  best_same h e (by_0 t) = sym (e ∙ go (le_z (s (h ++ 0 ∷ [])) (s (h ++ 1 ∷ []))) refl)
    where
      go : (a : Bool) → le_z (s (h ++ 0 ∷ [])) (s (h ++ 1 ∷ [])) ≡ a → cond a (s (h ++ 1 ∷ [])) (s (h ++ 0 ∷ [])) ≡ s (h ++ 0 ∷ [])
      go true q = le_z_antisym (s (h ++ 1 ∷ [])) (s (h ++ 0 ∷ [])) t (subst T (sym q) tt)
      go false q = refl
  best_same h e (by_1 t) = sym (e ∙ go (le_z (s (h ++ 0 ∷ [])) (s (h ++ 1 ∷ []))) (le_z_flip (s (h ++ 1 ∷ [])) (s (h ++ 0 ∷ [])) t))
    where
      go : (a : Bool) → T a → cond a (s (h ++ 1 ∷ [])) (s (h ++ 0 ∷ [])) ≡ s (h ++ 1 ∷ [])
      go true t = refl
      go false t = absurd t

  -- a child of h that scores as high as the better one has no smaller bit
  best_tie : (h : List ℕ) {b : ℕ} (d : ℕ) → d < 2 → Best h b → T (le_z (s (h ++ b ∷ [])) (s (h ++ d ∷ []))) → b ≤ d
  best_tie h d k (by_0 t) q = omega arith
  best_tie h zero k (by_1 t) q = absurd (clash (le_z (s (h ++ 1 ∷ [])) (s (h ++ 0 ∷ []))) q t)
  best_tie h (suc d) k (by_1 t) q = omega arith

  -- the better child of the first prefix is ahead of every child of every prefix
  child_ahead : (h w : List ℕ) {b : ℕ} (d : ℕ) → d < 2 → length h ≡ length w → Splits h → Splits w → Best h b → T (ahead s h w)
      → T (ahead s (h ++ b ∷ []) (w ++ d ∷ []))
  child_ahead h w {b} d k e eh ew best q =
      let c : List ℕ = h ++ b ∷ [] in
      let y : List ℕ = w ++ d ∷ [] in
      let yw : T (le_z (s y) (s w)) = child_below w d k ew in
      let wh : T (le_z (s w) (s h)) = ahead_score s h w q in
      let hc : T (le_z (s h) (s c)) = subst (λ (z : ℤ). T (le_z z (s c))) (best_same h eh best) (le_z_refl (s c)) in
      ahead_when s c y (le_z_trans (s y) (s w) (s c) yw (le_z_trans (s w) (s h) (s c) wh hc))
      (λ cy. lex_more h w b d e (ahead_lex s h w q (le_z_trans (s h) (s c) (s w) hc (le_z_trans (s c) (s y) (s w) cy yw)))
      (λ same. best_tie h d k best (subst (λ (v : List ℕ). T (le_z (s c) (s (v ++ d ∷ [])))) (sym same) cy)))

-- ---- a search at clear positions
module _ (s : List ℕ → ℤ) (kids : ℕ → List ℕ → List (List ℕ)) (l : ℕ) (some : 1 ≤ l) (rule : (i : ℕ) (w : List ℕ) → Goes w (kids i w)) where
  -- at position i every prefix goes on by both bits, and scores as the better of the two
  pub record Clear (i : ℕ) : Type 0 where
    pub kids_both : (w : List ℕ) → kids i w ≡ (w ++ 0 ∷ []) ∷ (w ++ 1 ∷ []) ∷ []
    pub splits : (w : List ℕ) → length w ≡ i → Splits s w

  -- the first prefix of the list at i goes on by this bit
  pub record Grows (i : ℕ) (h : List ℕ) : Type 0 where
    pub bit : ℕ
    pub first : Leads s (h ++ bit ∷ []) (live_by s kids l (suc i))
    pub same : s (h ++ bit ∷ []) ≡ s h

  children_behind : (i : ℕ) (h : List ℕ) {b : ℕ} → Clear i → Long i h → Best s h b → {ws : List (List ℕ)}
      → All (λ w. T (ahead s h w)) ws → All (Long i) ws → All (λ v. T (ahead s (h ++ b ∷ []) v)) (families (kids i) ws)
  children_behind i h clear eh best none none = none
  children_behind i h {b} clear eh best (more {x = w} t a) (more ew long) =
      all_append
      (subst (All (λ v. T (ahead s (h ++ b ∷ []) v))) (sym (clear.kids_both w)) (more (child 0 (omega arith)) (more (child 1 (omega arith)) none)))
      (children_behind i h clear eh best a long)
    where
      child : (d : ℕ) → d < 2 → T (ahead s (h ++ b ∷ []) (w ++ d ∷ []))
      child d k = child_ahead s h w d k (eh ∙ sym ew) (clear.splits h eh) (clear.splits w ew) best t

  pub first_grows : (i : ℕ) {h : List ℕ} → Clear i → Leads s h (live_by s kids l i) → Grows i h
  unfolding live_by
  first_grows i {h} clear q =
      let long : All (Long i) (live_by s kids l i) = search_long s kids l rule i in
      let eh : Long i h = all_in long (leads_in s q) in
      let best = best_bit s h in
      record {
        bit = best.0;
        first = leads_take s l some (sort_first s (own_child q best.1) (children_behind i h clear eh best.1 (leads_all s q) long));
        same = best_same s h (clear.splits h eh) best.1;
      }
    where
      among : {b : ℕ} → Best s h b → In (h ++ b ∷ []) ((h ++ 0 ∷ []) ∷ (h ++ 1 ∷ []) ∷ [])
      among (by_0 t) = here
      among (by_1 t) = there here

      own_child : {b : ℕ} {ws : List (List ℕ)} → Leads s h ws → Best s h b → In (h ++ b ∷ []) (families (kids i) ws)
      own_child {b} (leads {ws} a) best = in_left (families (kids i) ws) (subst (In (h ++ b ∷ [])) (sym (clear.kids_both h)) (among best))

  -- after k more positions, all clear, the first prefix has k more bits and the same score
  pub record Extends (p k : ℕ) (h : List ℕ) : Type 0 where
    pub rest : List ℕ
    pub long : length rest ≡ k
    pub first : Leads s (h ++ rest) (live_by s kids l (p + k))
    pub same : s (h ++ rest) ≡ s h

  none_more : (p : ℕ) {h : List ℕ} → Leads s h (live_by s kids l p) → Extends p 0 h
  none_more p {h} q =
      let e : p + 0 ≡ p = omega arith in
      record { rest = []; long = refl; first = rw (append-nil h, e) q; same = ap s (append-nil h) }

  one_more : (p k : ℕ) {h : List ℕ} (x : Extends p k h) → Grows (p + k) (h ++ x.rest) → Extends p (suc k) h
  one_more p k {h} x g =
      let e : p + suc k ≡ suc (p + k) = omega arith in
      let joined : h ++ (x.rest ++ g.bit ∷ []) ≡ (h ++ x.rest) ++ g.bit ∷ [] = sym (append_assoc h x.rest (g.bit ∷ [])) in
      record {
        rest = x.rest ++ g.bit ∷ [];
        long = omega (arith, length-append x.rest (g.bit ∷ []), x.long);
        first = rw (joined, e) g.first;
        same = ap s joined ∙ g.same ∙ x.same;
      }

  pub first_extends : (p k : ℕ) {h : List ℕ} → ((i : ℕ) → p ≤ i → i < p + k → Clear i) → Leads s h (live_by s kids l p) → Extends p k h
  first_extends p zero clear q = none_more p q
  first_extends p (suc k) clear q =
      let x = first_extends p k (λ i a b. clear i a (omega arith)) q in
      one_more p k x (first_grows (p + k) (clear (p + k) (omega arith) (omega arith)) x.first)
