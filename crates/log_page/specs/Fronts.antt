-- The program reads a front of the input and asks again how far it must read, until that is there or the input stops. The longer the front,
-- the larger its extent, and a front that is as long as its extent has that of the whole input: so what is read in the end is what `taken`
-- says.
use Rattle.std.specs.Prelude.{◌≡◌, refl, Bool, true, false, List, ℕ, zero, suc, ◌≤◌, ◌<◌, ltb, eqb, length, take}
use Rattle.std.proofs.Common.{sym, ap, ◌∙◌, arith, ltb-true, ltb-false, eqb-true, take_all, take-take, get_or-take, length-take-le}
use Rattle.std.proofs.lemmas.Bool.{eqb-false}
use Rattle.spec.specs.Faults.{first}
use Rattle.spec.specs.Record.{fields}
use Rattle.spec.specs.ResultRecord.{result_head_faults}
use Rattle.log_page.specs.Reading.{extent, taken, extent_first, extent_none, extent_all, extent_map, extent_head, map_refused, map_good, too_few, end_same, head_same, at_least_three, extent_some}

-- a front of s of n bytes
module _ (k : ℕ) (s : List ℕ) (n : ℕ) (within : n ≤ length s) where
  abbrev t : List ℕ
  t = take n s

  long : length t ≡ n
  long = length-take-le n s within

  first_byte : 1 ≤ n → fields t ≡ fields s
  first_byte h = get_or-take n s 0 0 (omega arith)

  module _ (few : k ≡ 1000 → ⊥) (h : 1 ≤ n) where
    some : (length t ≡ 0 → ⊥)
    some q = omega (arith, q, long)

    some_all : (length s ≡ 0 → ⊥)
    some_all q = omega (arith, q, h)

    -- the first byte is refused, and then one is enough
    map_bad : 3 < fields s → (1 ≡ extent k t) × (1 ≡ extent k s)
    map_bad x = (
      extent_map k t some few 14 (map_refused t some (omega (arith, x, first_byte h))) refl,
      extent_map k s some_all few 14 (map_refused s some_all x) refl,
    )

    -- the head is there, and then the extents are the same
    same_extent : fields s ≤ 3 → 3 ≤ n → extent k t ≡ extent k s
    same_extent x j = by_number (first (result_head_faults s)) refl
      where
        by_number : (r : ℕ) → r ≡ first (result_head_faults s) → extent k t ≡ extent k s
        by_number zero e =
            sym (extent_all k t some few (e ∙ sym (head_same s n j (omega arith)))) ∙ end_same s n j ∙ extent_all k s some_all few e
        by_number (suc r) e =
            let z : (suc r ≡ 0 → ⊥) = λ q. omega (arith, q) in
            let y = map_good s (suc r) x e in
            sym (extent_head k t some few (suc r) (e ∙ sym (head_same s n j (omega arith))) z y) ∙ extent_head k s some_all few (suc r) e z y

    -- it is not there yet, and then three are needed
    head_first : fields s ≤ 3 → n < 3 → 3 ≡ extent k t
    head_first x j =
        extent_head k t some few 13 (too_few t some (omega (arith, long)) (omega (arith, x, first_byte h))) (λ q. omega (arith, q)) (λ q. omega (arith, q))

  -- ---- what the front tells: nothing yet, that the head is needed, or as much as all of s
  data Tells : Type 0 where
    nothing : n ≡ 0 → 1 ≡ extent k t → Tells
    head : n < 3 → 3 ≡ extent k t → 3 ≤ extent k s → Tells
    all : extent k t ≡ extent k s → Tells

  tells : Tells
  tells = by_length (ltb n 1) refl
    where
      by_three : (k ≡ 1000 → ⊥) → 1 ≤ n → fields s ≤ 3 → (b : Bool) → ltb n 3 ≡ b → Tells
      by_three few h x true e = let j = ltb-true n 3 e in head j (head_first few h x j) (at_least_three k s few (some_all few h) x)
      by_three few h x false e = all (same_extent few h x (ltb-false n 3 e))

      by_map : (k ≡ 1000 → ⊥) → 1 ≤ n → (b : Bool) → ltb 3 (fields s) ≡ b → Tells
      by_map few h true e = let m = map_bad few h (ltb-true 3 (fields s) e) in all (sym m.0 ∙ m.1)
      by_map few h false e = by_three few h (ltb-false 3 (fields s) e) (ltb n 3) refl

      by_count : 1 ≤ n → (b : Bool) → eqb k 1000 ≡ b → Tells
      by_count h true e = let full = eqb-true k 1000 e in all (sym (extent_none k t full) ∙ extent_none k s full)
      by_count h false e = by_map (eqb-false k 1000 e) h (ltb 3 (fields s)) refl

      by_length : (b : Bool) → ltb n 1 ≡ b → Tells
      by_length true e =
          let none : n ≡ 0 = omega (arith, ltb-true n 1 e) in
          nothing none (extent_first k t (long ∙ none))
      by_length false e = by_count (ltb-false n 1 e) (eqb k 1000) refl

  -- the extent grows with the front, up to that of all
  pub extent_grows : extent k t ≤ extent k s
  extent_grows = by_case tells
    where
      by_case : Tells → extent k t ≤ extent k s
      by_case (nothing e one) = omega (arith, one, extent_some k s)
      by_case (head j three more) = omega (arith, three, more)
      by_case (all e) = omega (arith, e)

  -- a front that is as long as its extent has the extent of all
  pub extent_stays : extent k t ≤ n → extent k t ≡ extent k s
  extent_stays enough = by_case tells
    where
      by_case : Tells → extent k t ≡ extent k s
      by_case (nothing e one) = absurd (omega (arith, e, one, enough))
      by_case (head j three more) = absurd (omega (arith, j, three, enough))
      by_case (all e) = e

  -- ---- WHAT IS READ. A front no longer than its own extent, which is shorter only where the input stops, is what is taken of the input.
  pub front_is_taken : n ≤ extent k t → (n < extent k t → n ≡ length s) → t ≡ taken k s
  front_is_taken most stops = by_test (ltb n (extent k t)) refl
    where
      by_test : (b : Bool) → ltb n (extent k t) ≡ b → t ≡ taken k s
      by_test true e =
          let all : n ≡ length s = stops (ltb-true n (extent k t) e) in
          take_all n s (omega arith) ∙ sym (take_all (extent k s) s (omega (arith, most, extent_grows)))
      by_test false e =
          let enough : extent k t ≤ n = ltb-false n (extent k t) e in
          let exact : n ≡ extent k s = omega (arith, most, enough, extent_stays enough) in
          ap (λ (i : ℕ). take i s) exact

-- the same of two buffers that begin alike: n bytes were there, and there are more now
pub extent_more : (k n more : ℕ) (u v : List ℕ) → take n v ≡ take n u → n ≤ more → more ≤ length v → extent k (take n u) ≤ extent k (take more v)
extent_more k n more u v same h within =
    let front : take n (take more v) ≡ take n u = take-take n more v h ∙ same in
    let grows = extent_grows k (take more v) n (omega (arith, length-take-le more v within)) in
    omega (arith, grows, ap (extent k) front)
