-- How far the program reads for one record: no byte further than it must to tell what it prints for it.
use Rattle.std.specs.Prelude.{◌≡◌, Bool, ◌||◌, List, [], ◌∷◌, ℕ, zero, suc, ◌≤◌, ◌<◌, ltb, eqb, length, take}
use Rattle.std.proofs.Math.Path.{refl}
use Rattle.std.proofs.Common.{sym, ap, ◌∙◌, arith, length-take, take_all, get_or-take}
use Rattle.std.proofs.Math.Bool.{true, false, cond}
use borrow.Author.Tests.{lt-ltb, le-ltb, ltb-true, ltb-false, eq-eqb, ne_eqb}
use Rattle.spec.specs.Faults.{Fault, fault, first, settled, outside}
use Rattle.spec.specs.Record.{fields, exponent}
use Rattle.spec.specs.ResultRecord.{row_count, result_end, result_head_faults, result_length_faults, operator_refusal}
use Rattle.laws.specs.FirstFault.{First, none, here, later, of_first, is_first, first_before, settled_refused, settled_served}
use Rattle.laws.specs.ResultReading.{operator_shape}
use Rattle.page.specs.Page.{record_in}

-- ---- How many bytes of a record are needed to tell what is printed for it, as far as its front t tells, where k records came before: one
-- where nothing is there yet, where no record may come, or where the first byte is refused; three for the head; and all of the record where
-- that is good.
unfoldable pub extent : ℕ → List ℕ → ℕ
extent k t =
    cond (eqb (length t) 0 || eqb k 1000) 1 (settled (first (result_head_faults t)) (λ n. cond (eqb n 14) 1 3) (result_end t))

-- what is taken of an input for its first record
abbrev pub taken : ℕ → List ℕ → List ℕ
taken k s = take (extent k s) s

-- ---- the extent by its cases
module _ (k : ℕ) (t : List ℕ) where
  pub extent_first : length t ≡ 0 → 1 ≡ extent k t
  unfolding extent
  extent_first e = rw e

  pub extent_none : k ≡ 1000 → 1 ≡ extent k t
  unfolding extent
  extent_none e = rw e (by_length (eqb (length t) 0))
    where
      by_length : (b : Bool) → 1 ≡ cond (b || true) 1 (settled (first (result_head_faults t)) (λ n. cond (eqb n 14) 1 3) (result_end t))
      by_length true = refl
      by_length false = refl

  module _ (some : length t ≡ 0 → ⊥) (few : k ≡ 1000 → ⊥) where
    by_head : settled (first (result_head_faults t)) (λ n. cond (eqb n 14) 1 3) (result_end t) ≡ extent k t
    unfolding extent
    by_head = rw (ne_eqb (length t) 0 some, ne_eqb k 1000 few)

    pub extent_all : 0 ≡ first (result_head_faults t) → result_end t ≡ extent k t
    extent_all e = settled_served (λ n. cond (eqb n 14) 1 3) (result_end t) (first (result_head_faults t)) e ∙ by_head

    module _ (n : ℕ) (e : n ≡ first (result_head_faults t)) where
      refused : (b : Bool) → eqb n 14 ≡ b → (n ≡ 0 → ⊥) → cond b 1 3 ≡ extent k t
      refused b q x =
          ap (λ (c : Bool). cond c 1 3) (sym q)
          ∙ settled_refused (λ j. cond (eqb j 14) 1 3) (result_end t) n (first (result_head_faults t)) e x
          ∙ by_head

      pub extent_map : n ≡ 14 → 1 ≡ extent k t
      extent_map q = refused true (eq-eqb n 14 q) (λ z. omega (arith, z, q))

      pub extent_head : (n ≡ 0 → ⊥) → (n ≡ 14 → ⊥) → 3 ≡ extent k t
      extent_head x y = refused false (ne_eqb n 14 y) x

-- ---- the head of a record
-- the first byte decides about 14
pub map_refused : (t : List ℕ) → (length t ≡ 0 → ⊥) → 3 < fields t → 14 ≡ first (result_head_faults t)
map_refused t some h = is_first (result_head_faults t) 14 (later (ne_eqb (length t) 0 some) (here (lt-ltb 3 (fields t) h)))

pub map_good : (t : List ℕ) (n : ℕ) → fields t ≤ 3 → n ≡ first (result_head_faults t) → n ≡ 14 → ⊥
map_good t n h e = by_case n (of_first (result_head_faults t) n e)
  where
    by_case : (j : ℕ) → First (result_head_faults t) j → j ≡ 14 → ⊥
    by_case j (here _) q = omega (arith, q)
    by_case j (later _ (here a)) q = omega (arith, h, ltb-true 3 (fields t) a)
    by_case j (later _ (later _ (here _))) q = omega (arith, q)
    by_case j (later _ (later _ (later _ (here _)))) q = omega (arith, q)
    by_case j (later _ (later _ (later _ (later _ (here _))))) q = omega (arith, q)
    by_case j (later _ (later _ (later _ (later _ (later _ none))))) q = omega (arith, q)

-- what its head is refused for it is refused for whatever follows
pub head_decides : (u : List ℕ) (n : ℕ) → n ≡ first (result_head_faults u) → (n ≡ 0 → ⊥) → n ≡ operator_refusal u 32
head_decides u n e x = operator_shape u 32 n (first_before (result_head_faults u) (result_length_faults u) n e x) x

-- fewer than three bytes are refused with 13
pub too_few : (t : List ℕ) → (length t ≡ 0 → ⊥) → length t < 3 → fields t ≤ 3 → 13 ≡ first (result_head_faults t)
too_few t some j h =
    is_first (result_head_faults t) 13
    (later (ne_eqb (length t) 0 some) (later (le-ltb 3 (fields t) h) (here (lt-ltb (length t) 3 j))))

-- by three bytes
abbrev head_of : ℕ → ℕ → ℕ → List Fault
head_of f m k = fault 14 (ltb 3 f) ∷ fault 1 (outside 2 10 m) ∷ fault 4 (outside 1 32 k) ∷ []

by_three : (u : List ℕ) → 3 ≤ length u → first (head_of (fields u) (exponent u) (row_count u)) ≡ first (result_head_faults u)
unfolding first
by_three u h = rw (ne_eqb (length u) 0 (λ q. omega (arith, q)), le-ltb (length u) 3 h) (by_map (ltb 3 (fields u)))
  where
    by_map : (b : Bool)
        → first (fault 14 b ∷ fault 1 (outside 2 10 (exponent u)) ∷ fault 4 (outside 1 32 (row_count u)) ∷ [])
        ≡ first (fault 14 b ∷ fault 13 false ∷ fault 1 (outside 2 10 (exponent u)) ∷ fault 4 (outside 1 32 (row_count u)) ∷ [])
    by_map true = refl
    by_map false = refl

-- a front of at least three bytes has the same head, and ends at the same place
module _ (s : List ℕ) (j : ℕ) (h : 3 ≤ j) where
  fields_same : fields (take j s) ≡ fields s
  fields_same = get_or-take j s 0 0 (omega arith)

  m_same : exponent (take j s) ≡ exponent s
  m_same = get_or-take j s 1 0 (omega arith)

  rows_same : row_count (take j s) ≡ row_count s
  rows_same = get_or-take j s 2 0 (omega arith)

  pub end_same : result_end (take j s) ≡ result_end s
  end_same = rw (fields_same, m_same, rows_same)

  pub head_same : 3 ≤ length s → first (result_head_faults (take j s)) ≡ first (result_head_faults s)
  head_same l = sym (by_three (take j s) (omega (arith, length-take j s))) ∙ rw (fields_same, m_same, rows_same) (by_three s l)

-- ---- what is taken is the record, or enough to refuse it with the same number
pub data Decided (t r : List ℕ) : Type 0 where
  all_of_it : t ≡ r → Decided t r
  refused_alike : (n : ℕ) → (n ≡ 0 → ⊥) → n ≡ operator_refusal t 32 → n ≡ operator_refusal r 32 → Decided t r

module _ (k : ℕ) (s : List ℕ) (few : k ≡ 1000 → ⊥) (some : length s ≡ 0 → ⊥) where
  -- the first byte tells that it is refused
  one_byte : 3 < fields s → Decided (taken k s) (record_in s)
  one_byte h =
      rw (← extent_map k s some few 14 (map_refused s some h) refl)
      (refused_alike 14 (λ q. omega (arith, q)) (front 1 (omega arith)) (front (result_end s) (omega arith)))
    where
      front : (j : ℕ) → 1 ≤ j → 14 ≡ operator_refusal (take j s) 32
      front j i =
          let f : fields (take j s) ≡ fields s = get_or-take j s 0 0 (omega arith) in
          let x : (length (take j s) ≡ 0 → ⊥) = λ q. omega (arith, q, some, length-take j s) in
          head_decides (take j s) 14 (map_refused (take j s) x (omega (arith, f, h))) (λ q. omega (arith, q))

  -- the input stops before the head does
  short : fields s ≤ 3 → length s < 3 → Decided (taken k s) (record_in s)
  short h j =
      let three : 3 ≡ extent k s = extent_head k s some few 13 (too_few s some j h) (λ q. omega (arith, q)) (λ q. omega (arith, q)) in
      all_of_it (take_all (extent k s) s (omega arith) ∙ sym (take_all (result_end s) s (omega arith)))

  -- the head is there: it is refused, or all of the record is taken
  headed : fields s ≤ 3 → 3 ≤ length s → Decided (taken k s) (record_in s)
  headed h j = by_number (first (result_head_faults s)) refl
    where
      by_number : (n : ℕ) → n ≡ first (result_head_faults s) → Decided (taken k s) (record_in s)
      by_number zero e = all_of_it (ap (λ (i : ℕ). take i s) (sym (extent_all k s some few e)))
      by_number (suc n) e =
          let x : (suc n ≡ 0 → ⊥) = λ q. omega (arith, q) in
          rw (← extent_head k s some few (suc n) e x (map_good s (suc n) h e))
          (refused_alike (suc n) x
          (head_decides (take 3 s) (suc n) (e ∙ sym (head_same s 3 (omega arith) j)) x)
          (head_decides (record_in s) (suc n) (e ∙ sym (head_same s (result_end s) (omega arith) j)) x))

  pub decided : Decided (taken k s) (record_in s)
  decided = by_map (ltb 3 (fields s)) refl
    where
      by_length : fields s ≤ 3 → (c : Bool) → ltb (length s) 3 ≡ c → Decided (taken k s) (record_in s)
      by_length h true e = short h (ltb-true (length s) 3 e)
      by_length h false e = headed h (ltb-false (length s) 3 e)

      by_map : (c : Bool) → ltb 3 (fields s) ≡ c → Decided (taken k s) (record_in s)
      by_map true e = one_byte (ltb-true 3 (fields s) e)
      by_map false e = by_length (ltb-false 3 (fields s) e) (ltb (length s) 3) refl

-- three bytes are needed where the first is good
pub at_least_three : (k : ℕ) (s : List ℕ) → (k ≡ 1000 → ⊥) → (length s ≡ 0 → ⊥) → fields s ≤ 3 → 3 ≤ extent k s
at_least_three k s few some x = by_number (first (result_head_faults s)) refl
  where
    by_number : (r : ℕ) → r ≡ first (result_head_faults s) → 3 ≤ extent k s
    by_number zero e = omega (arith, extent_all k s some few e)
    by_number (suc r) e = omega (arith, extent_head k s some few (suc r) e (λ q. omega (arith, q)) (map_good s (suc r) x e))

-- ---- something is taken where there is something
pub extent_some : (k : ℕ) (t : List ℕ) → 1 ≤ extent k t
unfolding extent
extent_some k t = by_test (eqb (length t) 0 || eqb k 1000)
  where
    by_map : (b : Bool) → 1 ≤ cond b 1 3
    by_map true = omega arith
    by_map false = omega arith

    by_number : (r : ℕ) → 1 ≤ settled r (λ n. cond (eqb n 14) 1 3) (result_end t)
    by_number zero = omega arith
    by_number (suc n) = by_map (eqb (suc n) 14)

    by_test : (b : Bool) → 1 ≤ cond b 1 (settled (first (result_head_faults t)) (λ n. cond (eqb n 14) 1 3) (result_end t))
    by_test true = omega arith
    by_test false = by_number (first (result_head_faults t))

pub taken_some : (k : ℕ) (s : List ℕ) → (length s ≡ 0 → ⊥) → length (taken k s) ≡ 0 → ⊥
taken_some k s some q = omega (arith, q, some, extent_some k s, length-take (extent k s) s)
