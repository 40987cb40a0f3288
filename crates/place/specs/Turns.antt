-- The loops that write byte by byte, as laws of lists: one turn, and the end. Assumes nothing.
use Rattle.std.specs.Prelude.{◌≡◌, List, [], ◌∷◌, ◌++◌, ℕ, ◌+◌, ◌-◌, ◌≤◌, ◌<◌, length, take, drop, set, get_or}
use Rattle.std.proofs.Common.{sym, ap, ◌∙◌, add-one, append_assoc, append-nil, arith, drop_of_length-le, drop-cons}
use Rattle.std.proofs.lemmas.List.{take_all, take_more_set, length-take, length-drop}
use borrow.Rule.Slice.PartMut.{put_mid}
use Rattle.place.specs.Put.{Put, placed, placed_none, placed_next, put_part}

-- the rest of a list begins with what stands at i
pub rest : {A : Type 0} (s : List A) (i : ℕ) (d : A) → i < length s → drop i s ≡ get_or s i d ∷ drop (i + 1) s
rest s i d h = rw (add-one i) (drop-cons s i d h)

-- one byte is written, and the place is one further
pub further : (at i x : ℕ) (xs t : List ℕ) → placed (at + i) (x ∷ xs) t ≡ placed (at + (i + 1)) xs (set t (at + i) x)
further at i x xs t =
    let e : at + i + 1 ≡ at + (i + 1) = omega arith in
    placed_next (at + i) x xs t ∙ ap (λ (k : ℕ). placed k xs (set t (at + i) x)) e

pub byte_turn : (at i : ℕ) (s t : List ℕ) → i < length s
    → placed (at + i) (drop i s) t ≡ placed (at + (i + 1)) (drop (i + 1) s) (set t (at + i) (get_or s i 0))
byte_turn at i s t h = ap (λ (l : List ℕ). placed (at + i) l t) (rest s i 0 h) ∙ further at i (get_or s i 0) (drop (i + 1) s) t

-- all bytes are written
pub bytes_done : (at i : ℕ) (s t : List ℕ) → length s ≤ i → placed (at + i) (drop i s) t ≡ t
bytes_done at i s t h = rw (drop_of_length-le s h, ← placed_none (at + i) t)

-- a part of t as a loop writes it from its front on: p is the part, what stands in it before i and what is left make the text xs.
-- One more byte, and all of it.
module _ (xs : List ℕ) (at next : ℕ) (t p : List ℕ) (long : length p ≡ length (take (next - at) (drop at t))) (i : ℕ) (ys : List ℕ) (e : xs ≡ take i p ++ ys) where
  pub one_more : (x : ℕ) (zs : List ℕ) → i < length (take (next - at) (drop at t)) → ys ≡ x ∷ zs → xs ≡ take (i + 1) (set p i x) ++ zs
  one_more x zs h f =
      e ∙ ap (λ (l : List ℕ). take i p ++ l) f ∙ sym (append_assoc (take i p) (x ∷ []) zs)
      ∙ sym (ap (λ (l : List ℕ). l ++ zs) (take_more_set p i x (omega arith)))

  pub put_all : length (take (next - at) (drop at t)) ≤ i → ys ≡ [] → at ≤ next → next ≤ length t → Put at xs t next (put_mid at (next - at) t p)
  put_all h f g l =
      let same : p ≡ xs = sym (e ∙ ap (λ (l : List ℕ). take i p ++ l) f ∙ append-nil (take i p) ∙ take_all i p (omega arith)) in
      let k : next ≡ at + length xs = omega (arith, ap length same, length-take (next - at) (drop at t), length-drop at t) in
      rw same (put_part at next xs t k l)
