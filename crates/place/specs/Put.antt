-- Bytes written into a buffer at a place.
use Rattle.std.specs.Prelude.{◌≡◌, refl, List, [], ◌∷◌, ◌++◌, ℕ, suc, ◌+◌, ◌-◌, ◌≤◌, length, take, drop, set}
use Rattle.std.proofs.Common.{sym, ap, ap₂, subst, ◌∙◌, add-one, append_assoc, arith, length-append}
use Rattle.std.proofs.lemmas.List.Edits.{sets, sets-eq}
use borrow.Rule.Slice.PartMut.{put_mid, Post-is}

-- the bytes t with the text xs from the place `at` on
unfoldable pub placed : ℕ → List ℕ → List ℕ → List ℕ
placed at xs t = sets t at xs

-- no text, one byte, and a text behind another
pub placed_none : (at : ℕ) (t : List ℕ) → t ≡ placed at [] t
unfolding placed
placed_none at t = refl

pub placed_one : (at x : ℕ) (t : List ℕ) → set t at x ≡ placed at (x ∷ []) t
unfolding placed
placed_one at x t = refl

sets_then : (xs ys t : List ℕ) (at : ℕ) → sets (sets t at xs) (at + length xs) ys ≡ sets t at (xs ++ ys)
sets_then [] ys t at = let e : at + 0 ≡ at = omega arith in ap (λ (k : ℕ). sets t k ys) e
sets_then (x ∷ xs) ys t at =
    let e : at + length (x ∷ xs) ≡ suc at + length xs = omega arith in
    ap (λ (k : ℕ). sets (sets (set t at x) (suc at) xs) k ys) e ∙ sets_then xs ys (set t at x) (suc at)

pub placed_then : (at : ℕ) (xs ys t : List ℕ) → placed (at + length xs) ys (placed at xs t) ≡ placed at (xs ++ ys) t
unfolding placed
placed_then at xs ys t = sets_then xs ys t at

-- the first byte of a text, and the rest behind it
pub placed_next : (at x : ℕ) (xs t : List ℕ) → placed at (x ∷ xs) t ≡ placed (at + 1) xs (set t at x)
unfolding placed
placed_next at x xs t = rw (add-one at)

-- what stands before the place, the text, and what stands behind it
pub placed_is : (at : ℕ) (xs t : List ℕ) → at + length xs ≤ length t → placed at xs t ≡ take at t ++ xs ++ drop (at + length xs) t
unfolding placed
placed_is at xs t h = sets-eq xs t at h

-- xs was written into t at a place: `next` is the place behind it, and u is what t has become
pub record Put (at : ℕ) (xs t : List ℕ) (next : ℕ) (u : List ℕ) : Type 0 where
  pub place : next ≡ at + length xs
  pub bytes : u ≡ placed at xs t

-- nothing was written
pub put_none : (at : ℕ) (t : List ℕ) → Put at [] t at t
put_none at t = record { place = omega arith; bytes = placed_none at t }

module _ {at next : ℕ} {xs t u : List ℕ} (p : Put at xs t next u) where
  -- and ys behind it
  pub then : {next' : ℕ} {ys v : List ℕ} → Put next ys u next' v → Put at (xs ++ ys) t next' v
  then {next'} {ys} {v} q = record {
    place = omega (arith, length-append xs ys, p.place, q.place);
    bytes = q.bytes ∙ ap₂ (λ (i : ℕ) (x : List ℕ). placed i ys x) p.place p.bytes ∙ placed_then at xs ys t;
  }

  -- the same text, said otherwise
  pub put_same : {ys : List ℕ} → xs ≡ ys → Put at ys t next u
  put_same {ys} e = subst (λ (zs : List ℕ). Put at zs t next u) e p

-- a part of t that holds xs now
pub put_part : (at next : ℕ) (xs t : List ℕ) → next ≡ at + length xs → next ≤ length t → Put at xs t next (put_mid at (next - at) t xs)
put_part at next xs t e h = record {
  place = e;
  bytes =
      ap (λ (l : List ℕ). take at t ++ (xs ++ l)) (Post-is at next t (omega arith) ∙ ap (λ (k : ℕ). drop k t) e)
      ∙ sym (placed_is at xs t (omega arith) ∙ append_assoc (take at t) xs (drop (at + length xs) t));
}

-- ys is left to write: into u from the place `next` on it completes xs, written into t at `at`
pub record Left (at : ℕ) (xs t : List ℕ) (next : ℕ) (ys u : List ℕ) : Type 0 where
  pub place : at + length xs ≡ next + length ys
  pub bytes : placed at xs t ≡ placed next ys u

pub all_left : (at : ℕ) (xs t : List ℕ) → Left at xs t at xs t
all_left at xs t = record { place = refl; bytes = refl }

-- the same of what a loop counts down from n
pub all_left_of : (f : ℕ → List ℕ) (at n : ℕ) (t : List ℕ) → Left at (f n) t at (f (n - 0)) t
all_left_of f at n t =
    let e : n - 0 ≡ n = omega arith in
    rw e (all_left at (f n) t)

pub less_left : {at next next' : ℕ} {xs left ys zs t u v : List ℕ} → Left at xs t next left u → left ≡ ys ++ zs → Put next ys u next' v → Left at xs t next' zs v
less_left {next = next} {left = left} {ys = ys} {zs = zs} {u = u} l e p = record {
  place = omega (arith, ap length e, length-append ys zs, l.place, p.place);
  bytes =
      l.bytes ∙ ap (λ (x : List ℕ). placed next x u) e ∙ sym (placed_then next ys zs u)
      ∙ sym (ap₂ (λ (i : ℕ) (x : List ℕ). placed i zs x) p.place p.bytes);
}

pub none_left : {at next : ℕ} {xs left t u : List ℕ} → Left at xs t next left u → left ≡ [] → Put at xs t next u
none_left {next = next} {u = u} l e = record {
  place = omega (arith, ap length e, l.place);
  bytes = placed_none next u ∙ sym (l.bytes ∙ ap (λ (x : List ℕ). placed next x u) e);
}

-- a whole text at the front of t: r is its length, and behind it t is as before
pub record Begins (xs t : List ℕ) (r : ℕ) (u : List ℕ) : Type 0 where
  pub count : r ≡ length xs
  pub fits : r ≤ length t
  pub bytes : u ≡ xs ++ drop (length xs) t

pub whole : {xs t u : List ℕ} {r : ℕ} → Put 0 xs t r u → r ≤ length t → Begins xs t r u
whole {xs} {t} {u} {r} p h =
    let e : r ≡ length xs = omega (arith, p.place) in
    let z : 0 + length xs ≡ length xs = omega arith in
    record { count = e; fits = h; bytes = p.bytes ∙ placed_is 0 xs t (omega arith) ∙ ap (λ (k : ℕ). xs ++ drop k t) z }

-- the same text, said otherwise
pub begins_same : {xs ys t u : List ℕ} {r : ℕ} → xs ≡ ys → Begins xs t r u → Begins ys t r u
begins_same {t = t} {u = u} {r = r} e b = subst (λ (zs : List ℕ). Begins zs t r u) e b
