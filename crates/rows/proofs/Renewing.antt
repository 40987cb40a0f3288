-- The prefixes of paths brought up to a later position. Assumes nothing.
use mathlib.Core.Path.{◌≡◌, refl, sym, ap, ap₂, subst, ◌∙◌}
use mathlib.Core.Bool.{Bool, true, false}
use mathlib.Core.List.{List, ◌++◌}
use Prim.Native.Nat.{ℕ, ◌+◌, ◌*◌, ◌<◌, ◌≤◌}
use native.Mathlib.Omega.{arith}
use native.Mathlib.Nat.{mul-le-mul_left}
use borrow.Author.Tests.{ltb-true, ltb-false}
use lib.Dec.{ltb}
use lib.ListN.{length, take, drop}
use lib.Seq.{take_at, drop_at, drop-drop, take-append-le, length-take-le}
use borrow.Rule.Slice.PartMut.{put_mid, post_of, take_put}
use Rattle.rows.specs.Trace.{Trace, traced_back, trace_back, trace_long, LedBack}
use Rattle.rows.specs.PrefixRows.{RenewFits, RowRenewed, RowsRenewed, same_part}

-- ---- one row: what the path had is put in front of what was read back
module _ (l n seen held i past kept r q : ℕ) (g row₀ row₁ : List ℕ) (f : RenewFits l n seen held i past kept (length g)) (led : LedBack l seen i r g row₀ q row₁) where
  -- the front of a row is right once the bits that were read back have theirs before them
  row_right : (row w : List ℕ) → Trace l g i r w → row ≡ traced_back l g seen q ++ drop seen row₁ → take i row ≡ w
  row_right row w t e =
      let whole : row ≡ w ++ drop i row₀ = e ∙ led.rest ∙ ap (λ (v : List ℕ). v ++ drop i row₀) (trace_back f.list t) in
      ap (take i) whole ∙ take_at w (drop i row₀) i (trace_long f.list t)

  pub row_copied : q < held → (k : ℕ) → k ≡ seen → (new : List ℕ) → new ≡ take k (drop (kept + n * q) g) → RowRenewed l n seen held i r g (new ++ drop seen row₁)
  row_copied low k ek new is saved w t =
      let tv : Trace l g seen q (take seen w) = led.leads f.list w t in
      let copied : new ≡ take seen w
      = is ∙ ap₂ (λ (j m : ℕ). take j (drop (m + n * q) g)) ek f.kept_is ∙ ap (take seen) (sym (drop-drop (n * q) (l * n) g)) ∙ saved q (take seen w) low tv in
      row_right (new ++ drop seen row₁) w t (ap (λ (v : List ℕ). v ++ drop seen row₁) (copied ∙ sym (trace_back f.list tv)))

  pub row_read : (first : ℕ) (row : List ℕ) → LedBack l 0 seen q g row₁ first row → RowRenewed l n seen held i r g row
  row_read first row all saved w t = row_right row w t all.rest

-- ---- all rows
-- the part that is put in
part_here : (i at k : ℕ) (s new : List ℕ) → at ≤ length s → i ≤ length new → take i (drop at (put_mid at k s new)) ≡ take i new
part_here i at k s new room h =
    ap (take i) (drop_at (take at s) (new ++ post_of at k s) at (length-take-le at s room)) ∙ take-append-le i new (post_of at k s) h

-- one row more
pub renewing_more : (l n seen held i r k : ℕ) (g rows new : List ℕ) → i ≤ n → n * r + n ≤ length rows → RowsRenewed l n seen held i r g rows → k ≡ n → length new ≡ n
    → RowRenewed l n seen held i r g new → RowsRenewed l n seen held i (r + 1) g (put_mid (n * r) k rows new)
renewing_more l n seen held i r k g rows new stop inside done ek long renewed s j w hj t = by_place j w (omega arith) t (ltb j r) refl
  where
    by_place : (j : ℕ) (w : List ℕ) → j ≤ r → Trace l g i j w → (b : Bool) → ltb j r ≡ b → take i (drop (n * j) (put_mid (n * r) k rows new)) ≡ w
    by_place j w hj t true b =
        let below : j < r = ltb-true j r b in
        same_part (n * j) i (n * r) (put_mid (n * r) k rows new) rows (omega (arith, mul-le-mul_left n below)) (take_put (n * r) k rows new (omega arith))
        ∙ done s j w below t
    by_place j w hj t false b =
        let here : j ≡ r = omega (arith, ltb-false j r b) in
        ap (λ (x : ℕ). take i (drop (n * x) (put_mid (n * r) k rows new))) here
        ∙ part_here i (n * r) k rows new (omega arith) (omega arith)
        ∙ renewed s w (subst (λ (x : ℕ). Trace l g i x w) here t)
