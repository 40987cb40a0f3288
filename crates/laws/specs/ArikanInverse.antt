-- The inverse of Arikan's transform: on words of 2 ^ m bits the two undo each other, and they are the same map.
use Rattle.std.specs.Prelude.{◌≡◌, List, [], ◌∷◌, ◌++◌, ℕ, zero, suc, ◌^◌, length, take, drop}
use Rattle.std.proofs.Math.Path.{refl}
use Rattle.std.proofs.Common.{sym, ap, ap₂, ◌∙◌, arith, length-append, length-take, length-drop, take-append-drop, take_at, drop_at}
use Rattle.std.proofs.Math.Nat.{suc_inj}
use Rattle.spec.specs.Bits.{◌⊕◌, Bits, nil, cons}
use Rattle.spec.specs.Transform.{added, arikan_transform, arikan_inverse}
use Rattle.laws.specs.BitLaws.{⊕-twice, bits_append, bits_take, bits_drop}
use Rattle.laws.specs.ArikanPlaces.{length_sum, length_added, added_append, added_swap_any, bits_added, arikan_halves, length_arikan}

added_twice : {v : List ℕ} (w : List ℕ) → Bits v → length v ≡ length w → added (added v w) w ≡ v
added_twice [] nil e = refl
added_twice (y ∷ w) nil e = refl
added_twice [] (cons a s) e = absurd (omega (arith, e))
added_twice (y ∷ w) (cons {x = x} a s) e = ap₂ (λ (h : ℕ) (t : List ℕ). h ∷ t) (⊕-twice x y a) (added_twice w s (suc_inj e))

pub bits_arikan : (m : ℕ) {u : List ℕ} → Bits u → Bits (arikan_transform m u)
unfolding arikan_transform
bits_arikan zero t = t
bits_arikan (suc m) t = bits_append (bits_arikan m (bits_added (bits_take t (2 ^ m)) (bits_drop t (2 ^ m)))) (bits_arikan m (bits_drop t (2 ^ m)))

pub bits_arikan_inverse : (m : ℕ) {c : List ℕ} → Bits c → Bits (arikan_inverse m c)
unfolding arikan_inverse
bits_arikan_inverse zero t = t
bits_arikan_inverse (suc m) t =
    let b = bits_arikan_inverse m (bits_drop t (2 ^ m)) in
    bits_append (bits_added (bits_arikan_inverse m (bits_take t (2 ^ m))) b) b

pub length_arikan_inverse : (m : ℕ) (c : List ℕ) → length c ≡ 2 ^ m → length (arikan_inverse m c) ≡ 2 ^ m
unfolding arikan_inverse
length_arikan_inverse zero c e = e
length_arikan_inverse (suc m) c e =
    let a : List ℕ = arikan_inverse m (take (2 ^ m) c) in
    let b : List ℕ = arikan_inverse m (drop (2 ^ m) c) in
    let la : length a ≡ 2 ^ m = length_arikan_inverse m (take (2 ^ m) c) (omega (arith, length-take (2 ^ m) c)) in
    let lb : length b ≡ 2 ^ m = length_arikan_inverse m (drop (2 ^ m) c) (omega (arith, length-drop (2 ^ m) c)) in
    omega (arith, length-append (added a b) b, length_added a b (la ∙ sym lb))

pub arikan_undone : (m : ℕ) (u : List ℕ) → Bits u → length u ≡ 2 ^ m → arikan_inverse m (arikan_transform m u) ≡ u
unfolding arikan_transform arikan_inverse
arikan_undone zero u t e = refl
arikan_undone (suc m) u t e =
    let v : List ℕ = take (2 ^ m) u in
    let w : List ℕ = drop (2 ^ m) u in
    let ev : length v ≡ 2 ^ m = omega (arith, length-take (2 ^ m) u) in
    let ew : length w ≡ 2 ^ m = omega (arith, length-drop (2 ^ m) u) in
    let vw : length v ≡ length w = ev ∙ sym ew in
    let tv : Bits v = bits_take t (2 ^ m) in
    let tw : Bits w = bits_drop t (2 ^ m) in
    let p : List ℕ = arikan_transform m (added v w) in
    let q : List ℕ = arikan_transform m w in
    let ls : length (added v w) ≡ 2 ^ m = length_added v w vw ∙ ev in
    let lp : length p ≡ 2 ^ m = length_arikan m (added v w) ls in
    let a : arikan_inverse m (take (2 ^ m) (p ++ q)) ≡ added v w = ap (arikan_inverse m) (take_at p q (2 ^ m) lp) ∙ arikan_undone m (added v w) (bits_added tv tw) ls in
    let b : arikan_inverse m (drop (2 ^ m) (p ++ q)) ≡ w = ap (arikan_inverse m) (drop_at p q (2 ^ m) lp) ∙ arikan_undone m w tw ew in
    ap₂ (λ (x y : List ℕ). added x y ++ y) a b ∙ ap (λ (x : List ℕ). x ++ w) (added_twice w tv vw) ∙ take-append-drop (2 ^ m) u

pub arikan_redone : (m : ℕ) (c : List ℕ) → Bits c → length c ≡ 2 ^ m → arikan_transform m (arikan_inverse m c) ≡ c
unfolding arikan_inverse
arikan_redone zero c t e = unfold arikan_transform in refl
arikan_redone (suc m) c t e =
    let x : List ℕ = take (2 ^ m) c in
    let y : List ℕ = drop (2 ^ m) c in
    let ex : length x ≡ 2 ^ m = omega (arith, length-take (2 ^ m) c) in
    let ey : length y ≡ 2 ^ m = omega (arith, length-drop (2 ^ m) c) in
    let a : List ℕ = arikan_inverse m x in
    let b : List ℕ = arikan_inverse m y in
    let ta : Bits a = bits_arikan_inverse m (bits_take t (2 ^ m)) in
    let la : length a ≡ 2 ^ m = length_arikan_inverse m x ex in
    let lb : length b ≡ 2 ^ m = length_arikan_inverse m y ey in
    let ab : length a ≡ length b = la ∙ sym lb in
    arikan_halves m (added a b) b (length_added a b ab ∙ la)
    ∙ ap₂ ◌++◌ (ap (arikan_transform m) (added_twice b ta ab) ∙ arikan_redone m x (bits_take t (2 ^ m)) ex) (arikan_redone m y (bits_drop t (2 ^ m)) ey)
    ∙ take-append-drop (2 ^ m) c

-- ---- the transform of a sum is the sum of the transforms, so the transform is its own inverse
take_added : (n : ℕ) (v w : List ℕ) → take n (added v w) ≡ added (take n v) (take n w)
take_added zero v w = refl
take_added (suc n) [] w = refl
take_added (suc n) (x ∷ v) [] = refl
take_added (suc n) (x ∷ v) (y ∷ w) = ap (λ (l : List ℕ). (x ⊕ y) ∷ l) (take_added n v w)

drop_added : (n : ℕ) (v w : List ℕ) → length v ≡ length w → drop n (added v w) ≡ added (drop n v) (drop n w)
drop_added zero v w e = refl
drop_added (suc n) [] w e = refl
drop_added (suc n) (x ∷ v) [] e = absurd (omega (arith, e))
drop_added (suc n) (x ∷ v) (y ∷ w) e = drop_added n v w (suc_inj e)

-- two words of one length: their parts, the sums of these and the transforms are of one length too
same_drops : (n : ℕ) (v w : List ℕ) → length v ≡ length w → length (drop n v) ≡ length (drop n w)
same_drops n v w e = omega (arith, length-drop n v, length-drop n w)

same_sums : (n : ℕ) (v w : List ℕ) → length v ≡ length w → length (added (take n v) (drop n v)) ≡ length (added (take n w) (drop n w))
same_sums n v w e =
    omega (arith, length_sum (take n v) (drop n v), length_sum (take n w) (drop n w), length-take n v, length-take n w, same_drops n v w e)

same_arikan : (m : ℕ) (v w : List ℕ) → length v ≡ length w → length (arikan_transform m v) ≡ length (arikan_transform m w)
unfolding arikan_transform
same_arikan zero v w e = e
same_arikan (suc m) v w e =
    let h : ℕ = 2 ^ m in
    let a : List ℕ = added (take h v) (drop h v) in
    let c : List ℕ = added (take h w) (drop h w) in
    omega (
      arith,
      length-append (arikan_transform m a) (arikan_transform m (drop h v)),
      length-append (arikan_transform m c) (arikan_transform m (drop h w)),
      same_arikan m a c (same_sums h v w e),
      same_arikan m (drop h v) (drop h w) (same_drops h v w e),
    )

pub arikan_added_alike : (m : ℕ) {v w : List ℕ} → Bits v → Bits w → length v ≡ length w → arikan_transform m (added v w) ≡ added (arikan_transform m v) (arikan_transform m w)
unfolding arikan_transform
arikan_added_alike zero s t e = refl
arikan_added_alike (suc m) {v} {w} s t e =
    let h : ℕ = 2 ^ m in
    let b : List ℕ = drop h v in
    let d : List ℕ = drop h w in
    let x : List ℕ = added (take h v) b in
    let y : List ℕ = added (take h w) d in
    let ta : Bits (take h v) = bits_take s h in
    let tb : Bits b = bits_drop s h in
    let tc : Bits (take h w) = bits_take t h in
    let td : Bits d = bits_drop t h in
    let xy : length x ≡ length y = same_sums h v w e in
    ap₂ ◌++◌
    (ap (arikan_transform m) (ap₂ added (take_added h v w) (drop_added h v w e) ∙ added_swap_any ta tc tb td) ∙ arikan_added_alike m (bits_added ta tb) (bits_added tc td) xy)
    (ap (arikan_transform m) (drop_added h v w e) ∙ arikan_added_alike m tb td (same_drops h v w e))
    ∙ sym (added_append (arikan_transform m x) (arikan_transform m b) (arikan_transform m y) (arikan_transform m d) (same_arikan m x y xy))

-- the same of words that are as long as the transform takes them
pub arikan_added : (m : ℕ) {v w : List ℕ} → Bits v → Bits w → length v ≡ 2 ^ m → length w ≡ 2 ^ m
    → arikan_transform m (added v w) ≡ added (arikan_transform m v) (arikan_transform m w)
arikan_added m s t e f = arikan_added_alike m s t (e ∙ sym f)

pub arikan_own_inverse : (m : ℕ) {c : List ℕ} → Bits c → length c ≡ 2 ^ m → arikan_transform m c ≡ arikan_inverse m c
unfolding arikan_transform arikan_inverse
arikan_own_inverse zero t e = refl
arikan_own_inverse (suc m) {c} t e =
    let x : List ℕ = take (2 ^ m) c in
    let y : List ℕ = drop (2 ^ m) c in
    let ex : length x ≡ 2 ^ m = omega (arith, length-take (2 ^ m) c) in
    let ey : length y ≡ 2 ^ m = omega (arith, length-drop (2 ^ m) c) in
    let tx : Bits x = bits_take t (2 ^ m) in
    let ty : Bits y = bits_drop t (2 ^ m) in
    ap (λ (l : List ℕ). l ++ arikan_transform m y) (arikan_added_alike m tx ty (ex ∙ sym ey))
    ∙ ap₂ (λ (a b : List ℕ). added a b ++ b) (arikan_own_inverse m tx ex) (arikan_own_inverse m ty ey)
