-- The first row is known early: 02, wish 7. Once the stop position is past every frozen position, the first row of a decoder call is
-- that of the call at stop n with 0 from the stop position on, and has its score.
use Rattle.std.specs.Prelude.{◌≡◌, List, ◌++◌, map, ℕ, ◌+◌, ◌-◌, ◌≤◌, replicate, ℤ}
use Rattle.std.proofs.Common.{sym, subst, ◌∙◌, arith}
use Rattle.std.proofs.Math.Path.{ap}
use Rattle.std.proofs.Math.ListN.{length}
use Rattle.spec.specs.Code.{Code, size, code_transform}
use Rattle.spec.specs.Score.{taken}
use Rattle.spec.specs.Decoder.{Row, children, score_of, live, row_of, rows, ceiling}
use Rattle.spec.specs.Outcome.{Lent, room_of, decoded_rows, decode_served, decode_outcome}
use Rattle.laws.specs.CodeTransform.{length_transformed}
use Rattle.laws.specs.ListCost.{goes, live_long, filled_long}
use Rattle.laws.specs.DecodeCall.{AcceptedCall, accepted_is}
use Rattle.search.specs.ListSearch.{all_in, Leads, leads, leads_in, leads_same, live_leads}
use Rattle.search.specs.FirstPrefix.{first_extends}
use Rattle.search.specs.FirstRow.{first_row, known_at, ClearFrom, clear_at, first_written, FirstOfCall, some_list, stop_inside, known_of}

-- ---- the first row of a call that is accepted: it is the row of the first live prefix
module _ (c : Code) (l p : ℕ) (soft : List ℤ) (x : Lent) (a : AcceptedCall c l p soft x) where
  abbrev T : List ℕ → List ℕ
  T = code_transform c

  abbrev y : List ℤ
  y = taken soft

  row_of_lem : (h : List ℕ) → length h ≡ p → {ws : List (List ℕ)} → Leads (score_of T c y l) h ws
      → first_row (size c) (decoded_rows (room_of x) (map (row_of T c y l) ws) (ceiling T c y l p)) ≡ row_of T c y l h
  row_of_lem h e (leads {ws} q) =
      let u : List ℕ = h ++ replicate (size c - length h) 0 in
      let long : length u ≡ size c = filled_long (size c) h (omega (arith, e, stop_inside c l p soft x a)) in
      first_written (size c) (row_of T c y l h) (map (row_of T c y l) ws) (ceiling T c y l p) (room_of x) long (length_transformed c.arikan c.m u long)

  pub first_of_call : FirstOfCall c l p soft x a
  unfolding decode_served rows
  first_of_call =
      let h = live_leads (score_of T c y l) (children c) l (some_list c l p soft x a) (goes c) p in
      let long : length h.0 ≡ p = all_in (live_long T c y l p) (leads_in (score_of T c y l) h.1) in
      record {
        prefix = h.0;
        ahead_of = h.1;
        long = long;
        is = ap (first_row (size c)) (accepted_is c l p soft x a) ∙ row_of_lem h.0 long h.1;
      }

-- ---- the theorems
module _ (c : Code) (l p q : ℕ) (soft : List ℤ) (x x' : Lent) where
  abbrev row_for : List ℕ → Row
  row_for = row_of (code_transform c) c (taken soft) l

  -- Two accepted calls for the same code, list size and soft values, at stop positions p and q with no frozen position from p up to q: the first
  -- row at p is the first row at q as it is known at p. So what a display shows of it at p still stands at q.
  pub first_row_stays : AcceptedCall c l p soft x → AcceptedCall c l q soft x' → p ≤ q → ClearFrom c p q
      → first_row (size c) (decode_outcome c l p soft x) ≡ known_at c p (first_row (size c) (decode_outcome c l q soft x'))
  first_row_stays a a' below clear =
      let s : List ℕ → ℤ = score_of (code_transform c) c (taken soft) l in
      let some : 1 ≤ l = some_list c l p soft x a in
      let at_p = first_of_call c l p soft x a in
      let at-q = first_of_call c l q soft x' a' in
      let there : q ≤ size c = stop_inside c l q soft x' a' in
      let on = first_extends s (children c) l some (goes c) p (q - p)
      (λ i lo hi. clear_at c (taken soft) l some i (omega (arith, there)) (clear i (omega arith) (omega arith))) at_p.ahead_of in
      let e : p + (q - p) ≡ q = omega arith in
      let is : at-q.prefix ≡ at_p.prefix ++ on.rest
      = leads_same s at-q.ahead_of (subst (λ (j : ℕ). Leads s (at_p.prefix ++ on.rest) (live (code_transform c) c (taken soft) l j)) e on.first) in
      at_p.is ∙ known_of c l p soft at_p.prefix on.rest at_p.long on.same ∙ ap (λ (h : List ℕ). known_at c p (row_for h)) (sym is) ∙ ap (known_at c p) (sym at-q.is)

-- Past every frozen position: the same at stop n, whatever the code, the soft values, the list size and the lent memory are.
pub first_row_early : (c : Code) (l p : ℕ) (soft : List ℤ) (x x' : Lent) → AcceptedCall c l p soft x → AcceptedCall c l (size c) soft x' → ClearFrom c p (size c)
    → first_row (size c) (decode_outcome c l p soft x) ≡ known_at c p (first_row (size c) (decode_outcome c l (size c) soft x'))
first_row_early c l p soft x x' a a' clear = first_row_stays c l p (size c) soft x x' a a' (stop_inside c l p soft x a) clear
