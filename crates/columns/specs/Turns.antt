-- Spaces written one by one, and a text read back from the front of an array. Assumes nothing.
use Rattle.std.specs.Prelude.{◌≡◌, refl, List, ℕ, suc, ◌+◌, ◌-◌, ◌≤◌, ◌<◌, length, take, drop, set}
use Rattle.std.proofs.Common.{sym, ap, ap₂, ◌∙◌, arith, take_at}
use Rattle.place.specs.Put.{Put, placed, placed_none, whole}
use Rattle.place.specs.Turns.{further}
use Rattle.columns.specs.Columns.{spaces}

pub space_turn : (at k i : ℕ) (t : List ℕ) → i < k → placed (at + i) (spaces (k - i)) t ≡ placed (at + (i + 1)) (spaces (k - (i + 1))) (set t (at + i) 32)
space_turn at k i t h =
    let e : k - i ≡ suc (k - (i + 1)) = omega arith in
    ap (λ (j : ℕ). placed (at + i) (spaces j) t) e ∙ further at i 32 (spaces (k - (i + 1))) t

pub spaces_done : (at k i : ℕ) (t : List ℕ) → k ≤ i → placed (at + i) (spaces (k - i)) t ≡ t
spaces_done at k i t h =
    let e : k - i ≡ 0 = omega arith in
    ap (λ (j : ℕ). placed (at + i) (spaces j) t) e ∙ sym (placed_none (at + i) t)

-- the text that was written to the front, and its length
pub front_is : {xs t u : List ℕ} {r : ℕ} → Put 0 xs t r u → r ≤ length t → (take r u ≡ xs) × (r ≡ length xs)
front_is {xs} {t} {u} {r} p h =
    let b = whole p h in
    (ap₂ take b.count b.bytes ∙ take_at xs (drop (length xs) t) (length xs) refl, b.count)
