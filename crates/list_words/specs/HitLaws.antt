-- The numbers of payloads at the mark, part by part.
use Rattle.std.specs.Prelude.{◌≡◌, Bool, true, false, cond, List, [], ◌∷◌, ◌++◌, ℕ, suc, ◌+◌, ◌≤◌, length, ℤ}
use Rattle.std.proofs.Common.{ap, ◌∙◌, arith}
use Rattle.std.specs.Int.Signed.{le_z}
use Rattle.list_words.specs.Hits.{counts, hits}

-- one correlation and the rest
pub hits_first : (mark : ℤ) (q : ℕ) (z : ℤ) (zs : List ℤ) → length (hits mark q (z ∷ zs)) ≡ counts mark z + length (hits mark (suc q) zs)
hits_first mark q z zs = go (le_z mark z)
  where
    go : (b : Bool) → length (cond b (q ∷ hits mark (suc q) zs) (hits mark (suc q) zs)) ≡ cond b 1 0 + length (hits mark (suc q) zs)
    go true = omega arith
    go false = omega arith

-- no more of them than correlations
pub hits_few : (mark : ℤ) (q : ℕ) (zs : List ℤ) → length (hits mark q zs) ≤ length zs
hits_few mark q [] = omega arith
hits_few mark q (z ∷ zs) = go (le_z mark z) (hits_few mark (suc q) zs)
  where
    go : (b : Bool) → length (hits mark (suc q) zs) ≤ length zs → length (cond b (q ∷ hits mark (suc q) zs) (hits mark (suc q) zs)) ≤ suc (length zs)
    go true h = omega (arith, h)
    go false h = omega (arith, h)

-- those of two parts, one after the other
pub hits_append : (mark : ℤ) (q : ℕ) (us vs : List ℤ) → hits mark q (us ++ vs) ≡ hits mark q us ++ hits mark (q + length us) vs
hits_append mark q [] vs = let e : q ≡ q + 0 = omega arith in ap (λ (k : ℕ). hits mark k vs) e
hits_append mark q (z ∷ us) vs = go (le_z mark z) (hits_append mark (suc q) us vs)
  where
    same : suc q + length us ≡ q + suc (length us)
    same = omega arith

    go : (b : Bool) → hits mark (suc q) (us ++ vs) ≡ hits mark (suc q) us ++ hits mark (suc q + length us) vs
        → cond b (q ∷ hits mark (suc q) (us ++ vs)) (hits mark (suc q) (us ++ vs))
        ≡ cond b (q ∷ hits mark (suc q) us) (hits mark (suc q) us) ++ hits mark (q + suc (length us)) vs
    go true e = ap (λ (l : List ℕ). q ∷ l) (e ∙ ap (λ (k : ℕ). hits mark (suc q) us ++ hits mark k vs) same)
    go false e = e ∙ ap (λ (k : ℕ). hits mark (suc q) us ++ hits mark k vs) same
