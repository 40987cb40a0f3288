-- No byte of a record's extent could be left unread: if the input ended sooner, the record would be refused with 13, and it is not where all of
-- its extent is there.
use Rattle.std.specs.Prelude.{◌≡◌, refl, Bool, true, false, List, ℕ, zero, suc, ◌≤◌, ◌<◌, ltb, length, take}
use Rattle.std.proofs.Common.{sym, ◌∙◌, arith, ltb-true, ltb-false, eqb-true, get_or-take, length-take-le}
use Rattle.spec.specs.Faults.{first}
use Rattle.spec.specs.Record.{fields}
use Rattle.spec.specs.ResultRecord.{result_end, result_head_faults, result_length_faults, result_shape_faults, operator_refusal}
use Rattle.laws.specs.FirstFault.{First, none, here, later, of_first, is_first, first_after, differ, same}
use Rattle.laws.specs.ResultReading.{result_head_numbers, operator_rest, operator_shape, operator_behind}
use Rattle.log_page.specs.Reading.{extent, taken, extent_all, extent_map, extent_head, map_refused, map_good, too_few, head_decides, end_same, head_same, at_least_three, extent_some}

module _ (k : ℕ) (s : List ℕ) (few : k ≡ 1000 → ⊥) (there : extent k s ≤ length s) where
  begun : (length s ≡ 0 → ⊥)
  begun q = omega (arith, q, there, extent_some k s)

  -- a good head, whose length is another
  cut : (n : ℕ) → 3 ≤ n → n ≤ length s → 0 ≡ first (result_head_faults s) → (n ≡ result_end s → ⊥) → 13 ≡ operator_refusal (take n s) 32
  cut n h l e x =
      let t : List ℕ = take n s in
      let long : length t ≡ n = length-take-le n s l in
      let f : 13 ≡ first (result_length_faults t) = is_first (result_length_faults t) 13 (here (differ (length t) (result_end t) (λ q. x (sym long ∙ q ∙ end_same s n h)))) in
      let g : 0 ≡ first (result_head_faults t) = e ∙ sym (head_same s n h (omega arith)) in
      operator_shape t 32 13 (first_after (result_head_faults t) (result_length_faults t) 0 g (result_head_numbers t) refl 13 f) (λ q. omega (arith, q))

  -- ---- an input that ended sooner
  pub sooner_stops : (n : ℕ) → 1 ≤ n → n < extent k s → 13 ≡ operator_refusal (take n s) 32
  sooner_stops n h l = by_map (ltb 3 (fields s)) refl
    where
      long : length (take n s) ≡ n
      long = length-take-le n s (omega arith)

      first_byte : fields (take n s) ≡ fields s
      first_byte = get_or-take n s 0 0 (omega arith)

      by_head : fields s ≤ 3 → 3 ≤ n → (r : ℕ) → r ≡ first (result_head_faults s) → 13 ≡ operator_refusal (take n s) 32
      by_head x j zero e = cut n j (omega arith) e (λ q. omega (arith, q, l, extent_all k s begun few e))
      by_head x j (suc r) e =
          absurd (omega (arith, j, l, extent_head k s begun few (suc r) e (λ q. omega (arith, q)) (map_good s (suc r) x e)))

      by_three : fields s ≤ 3 → (b : Bool) → ltb n 3 ≡ b → 13 ≡ operator_refusal (take n s) 32
      by_three x true e =
          let t : List ℕ = take n s in
          head_decides t 13
          (too_few t (λ q. omega (arith, q, long, h)) (omega (arith, long, ltb-true n 3 e)) (omega (arith, x, first_byte)))
          (λ q. omega (arith, q))
      by_three x false e = by_head x (ltb-false n 3 e) (first (result_head_faults s)) refl

      by_map : (b : Bool) → ltb 3 (fields s) ≡ b → 13 ≡ operator_refusal (take n s) 32
      by_map true e = absurd (omega (arith, h, l, extent_map k s begun few 14 (map_refused s begun (ltb-true 3 (fields s) e)) refl))
      by_map false e = by_three (ltb-false 3 (fields s) e) (ltb n 3) refl

  -- ---- and one that has all of it
  pub enough_tells : operator_refusal (taken k s) 32 ≡ 13 → ⊥
  enough_tells q = by_map (ltb 3 (fields s)) refl
    where
      long : length (taken k s) ≡ extent k s
      long = length-take-le (extent k s) s there

      -- what its head is refused for, other than 13
      by_number : (n : ℕ) → (n ≡ 0 → ⊥) → (n ≡ 13 → ⊥) → n ≡ first (result_head_faults (taken k s)) → ⊥
      by_number n x y e = y (head_decides (taken k s) n e x ∙ q)

      -- numbers behind those of the shape
      behind : (n : ℕ) → First (operator_rest (taken k s) 32) n → n ≡ 13 → ⊥
      behind n (here _) p = omega (arith, p)
      behind n (later _ (here _)) p = omega (arith, p)
      behind n (later _ (later _ (here _))) p = omega (arith, p)
      behind n (later _ (later _ (later _ (here _)))) p = omega (arith, p)
      behind n (later _ (later _ (later _ (later _ none)))) p = omega (arith, p)

      -- all of a record with a good head: its length is right
      whole : 3 ≤ length s → 0 ≡ first (result_head_faults s) → ⊥
      whole j e =
          let t : List ℕ = taken k s in
          let end : result_end s ≡ extent k s = extent_all k s begun few e in
          let g : 0 ≡ first (result_head_faults t) = e ∙ sym (head_same s (extent k s) (omega (arith, end)) j) in
          let right : length t ≡ result_end t = long ∙ sym end ∙ sym (end_same s (extent k s) (omega (arith, end))) in
          let f : 0 ≡ first (result_length_faults t) = is_first (result_length_faults t) 0 (later (same (length t) (result_end t) right) none) in
          let shape : 0 ≡ first (result_shape_faults t) = first_after (result_head_faults t) (result_length_faults t) 0 g (result_head_numbers t) refl 0 f in
          let r : ℕ = first (operator_rest t 32) in
          behind r (of_first (operator_rest t 32) r refl) (operator_behind t 32 shape r refl ∙ q)

      -- the first byte is good: three are there
      by_head : fields s ≤ 3 → 3 ≤ extent k s → (r : ℕ) → r ≡ first (result_head_faults s) → ⊥
      by_head x j zero e = whole (omega (arith, j, there)) e
      by_head x j (suc r) e =
          let l : 3 ≤ length s = omega (arith, j, there) in
          let three : 3 ≡ extent k s = extent_head k s begun few (suc r) e (λ p. omega (arith, p)) (map_good s (suc r) x e) in
          by_number (suc r) (λ p. omega (arith, p)) (not_short (suc r) (of_first (result_head_faults s) (suc r) e)) (e ∙ sym (head_same s (extent k s) (omega arith) l))
        where
          not_short : (n : ℕ) → First (result_head_faults s) n → n ≡ 13 → ⊥
          not_short n (here a) p = begun (eqb-true (length s) 0 a)
          not_short n (later _ (here _)) p = omega (arith, p)
          not_short n (later _ (later _ (here a))) p = omega (arith, j, there, ltb-true (length s) 3 a)
          not_short n (later _ (later _ (later _ (here _)))) p = omega (arith, p)
          not_short n (later _ (later _ (later _ (later _ (here _))))) p = omega (arith, p)
          not_short n (later _ (later _ (later _ (later _ (later _ none))))) p = omega (arith, p)

      by_map : (b : Bool) → ltb 3 (fields s) ≡ b → ⊥
      by_map true e =
          let h = ltb-true 3 (fields s) e in
          let same_byte : fields (taken k s) ≡ fields s = get_or-take (extent k s) s 0 0 (omega (arith, extent_some k s)) in
          by_number 14 (λ p. omega (arith, p)) (λ p. omega (arith, p))
          (map_refused (taken k s) (λ p. omega (arith, p, long, extent_some k s)) (omega (arith, h, same_byte)))
      by_map false e = let x = ltb-false 3 (fields s) e in by_head x (at_least_three k s few begun x) (first (result_head_faults s)) refl
