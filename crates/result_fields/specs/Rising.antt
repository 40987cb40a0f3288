-- The loop over scores that asks whether they rise, as laws of lists: one turn, and the end. Assumes nothing.
use Rattle.std.specs.Prelude.{◌≡◌, refl, Bool, false, ◌||◌, List, [], ◌∷◌, ℕ, zero, suc, ◌+◌, ◌-◌, ◌≤◌, ◌<◌, length, drop, get_or, ℤ, pos}
use Rattle.std.proofs.Common.{sym, ap, ◌∙◌, arith, drop-cons}
use Rattle.std.specs.Int.Signed.{lt_z}
use Rattle.spec.specs.ResultRecord.{rising}

-- one score and the next
pub rise_turn : (ys : List ℤ) (i : ℕ) (b : Bool) → 1 ≤ i → i < length ys → lt_z (get_or ys (i - 1) (pos 0)) (get_or ys i (pos 0)) ≡ b
    → rising (drop (i - 1) ys) ≡ (b || rising (drop (i + 1 - 1) ys))
unfolding rising
rise_turn ys i b l h e =
    let p : suc (i - 1) ≡ i = omega arith in
    let q : i + 1 - 1 ≡ i = omega arith in
    let one : drop i ys ≡ get_or ys i (pos 0) ∷ drop (suc i) ys = drop-cons ys i (pos 0) h in
    let two : drop (i - 1) ys ≡ get_or ys (i - 1) (pos 0) ∷ get_or ys i (pos 0) ∷ drop (suc i) ys
    = drop-cons ys (i - 1) (pos 0) (omega arith) ∙ ap (λ (l : List ℤ). get_or ys (i - 1) (pos 0) ∷ l) (ap (λ (k : ℕ). drop k ys) p ∙ one) in
    ap rising two ∙ ap (λ (c : Bool). c || rising (get_or ys i (pos 0) ∷ drop (suc i) ys)) e
    ∙ ap (λ (l : List ℤ). b || rising l) (sym (ap (λ (k : ℕ). drop k ys) q ∙ one))

pub rise_end : (ys : List ℤ) (i : ℕ) → 1 ≤ i → length ys ≤ i → rising (drop (i - 1) ys) ≡ false
unfolding rising
rise_end ys i l h = go ys (i - 1) (omega arith)
  where
    go : (ys : List ℤ) (k : ℕ) → length ys ≤ suc k → rising (drop k ys) ≡ false
    go [] zero h = refl
    go [] (suc k) h = refl
    go (y ∷ []) zero h = refl
    go (y ∷ z ∷ ys) zero h = absurd (omega arith)
    go (y ∷ ys) (suc k) h = go ys k (omega arith)
