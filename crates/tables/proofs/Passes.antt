-- The passes over a layer's windows: one path more, and what a pass reads no path writes.
use mathlib.Core.Path.{◌≡◌, refl, ap}
use mathlib.Core.Bool.{Bool, false}
use mathlib.Core.List.{List}
use Prim.Native.Nat.{ℕ, ◌+◌, ◌*◌, ◌/◌, ◌%◌, ◌<◌, ◌≤◌}
use native.Mathlib.Omega.{arith}
use lib.ListN.{length, get_or}
use Rattle.windows.specs.Op.{tab_at, kind_b, inside, source, Wrote}
use Rattle.windows.proofs.Finishing.{inside_room, source_lt, lift_source}
use Rattle.tables.specs.Tab.{slot_start, WroteRows, flat16, plain_f, finish_f, lifted, row_f, FitWindows}
use Rattle.tables.proofs.Places.{slot_times, slot_apart, slot_child}
use Rattle.tables.proofs.Rows.{rows_more, rows_flat, rows_again}
use Rattle.tables.proofs.Operator.{lift32_same}

-- what a path's row reads and writes is there
pub row_asks : (w l h s o r : ℕ) (t b : List ℕ) (src q dst : ℕ) → FitWindows w l h t b → r < l → s < l → o < l
    → src ≡ slot_start (2 * w) l s → q ≡ slot_start (2 * w) l o → dst ≡ slot_start w l r
    → (16 * (src + 2 * w) ≤ length t) × (dst + w ≤ src) × (2 * h + q + 2 * w ≤ length b) × (dst + w ≤ length b)
row_asks w l h s o r t b src q dst f hr hs ho e₁ e₂ e₃ =
    let m₁ : slot_start (2 * w) l s + 2 * w ≤ slot_start (2 * w) l l = slot_apart (2 * w) l s l hs in
    let m₂ : slot_start (2 * w) l o + 2 * w ≤ slot_start (2 * w) l l = slot_apart (2 * w) l o l ho in
    let m₃ : slot_start w l r + w ≤ slot_start (2 * w) l s = slot_child w l r s hr in
    (omega (arith, f.words), omega arith, omega (arith, f.bytes), omega (arith, f.bytes))

pub fit_same : (w l h : ℕ) (t t' b : List ℕ) → length t' ≡ length t → FitWindows w l h t b → FitWindows w l h t' b
fit_same w l h t t' b e f = record { wide = f.wide; long = f.long; words = rw e f.words; bytes = f.bytes }

-- ---- what depends on the layer rule
module _ (arikan : Bool) where
  -- what is read of t and t' is the same where they agree on the children
  pub lifted_same : (ev : Bool) (n src w odds evens : ℕ) (b t t' : List ℕ)
      → ((j : ℕ) → 16 * src ≤ j → get_or t' j 0 ≡ get_or t j 0)
      → (i x : ℕ) → lifted arikan ev n src w odds evens b t' i x ≡ lifted arikan ev n src w odds evens b t i x
  lifted_same ev n src w odds evens b t t' p i x =
      lift32_same arikan n (kind_b ev)
      (tab_at t' (16 * (src + i)) (get_or b (odds + i) 0 % 2))
      (tab_at t' (16 * (src + w + i)) (get_or b (odds + w + i) 0 % 2))
      (tab_at t (16 * (src + i)) (get_or b (odds + i) 0 % 2)) (tab_at t (16 * (src + w + i)) (get_or b (odds + w + i) 0 % 2))
      (get_or b (evens + i) 0 % 2) (omega arith)
      (λ z h. p (16 * (src + i) + z) (omega arith)) (λ z h. p (16 * (src + w + i) + z) (omega arith)) refl refl
      (omega arith) (omega arith) x

  -- a path's row, written and finished
  pub row_wrote : (ev : Bool) (n w l h : ℕ) (b t : List ℕ) (s o r src q dst : ℕ) (t' t'' : List ℕ) → n % 2 ≡ 1
      → src ≡ slot_start (2 * w) l s → q ≡ slot_start (2 * w) l o → dst ≡ slot_start w l r
      → WroteRows (plain_f ev src w (2 * h + q) dst b t) (16 * dst) 16 w t t'
      → WroteRows (finish_f arikan n dst t') (16 * dst) 16 w t' t''
      → Wrote (flat16 (row_f arikan ev n w l h b t s o r)) (16 * slot_start w l r) (16 * w) t t''
  row_wrote ev n w l h b t s o r src q dst t' t'' odd e₁ e₂ e₃ a f =
      rows_flat (row_f arikan ev n w l h b t s o r) (16 * slot_start w l r) w t t'' (rw (e₁, e₂, e₃) at finished)
    where
      finished : WroteRows (lifted arikan ev n src w (2 * h + q) dst b t) (16 * dst) 16 w t t''
      finished = rows_again (plain_f ev src w (2 * h + q) dst b t) (lifted arikan ev n src w (2 * h + q) dst b t)
          (source arikan n) dst w t t' t'' (source_lt arikan n)
          (λ i x hx. lift_source arikan n (kind_b ev) (tab_at t (16 * (src + i)) (get_or b (2 * h + q + i) 0 % 2))
          (tab_at t (16 * (src + w + i)) (get_or b (2 * h + q + w + i) 0 % 2)) (get_or b (dst + i) 0 % 2) x odd hx)
          a f

  -- one path more: what it reads lies in the layer below, which no path writes
  pub layer_more : (ev : Bool) (n w l h : ℕ) (b t : List ℕ) (S O : ℕ → ℕ) (r : ℕ) (t' t'' : List ℕ) → r < l
      → WroteRows (λ z. flat16 (row_f arikan ev n w l h b t (S z) (O z) z)) (16 * slot_start w l 0) (16 * w) r t t'
      → Wrote (flat16 (row_f arikan ev n w l h b t' (S r) (O r) r)) (16 * slot_start w l r) (16 * w) t' t''
      → WroteRows (λ z. flat16 (row_f arikan ev n w l h b t (S z) (O z) z)) (16 * slot_start w l 0) (16 * w) (r + 1) t t''
  layer_more ev n w l h b t S O r t' t'' lr a p =
      rows_more (λ z. flat16 (row_f arikan ev n w l h b t (S z) (O z) z)) (16 * slot_start w l 0) (16 * w) t
      (flat16 (row_f arikan ev n w l h b t' (S r) (O r) r)) r (16 * slot_start w l r) t' t''
      (slot_times 16 w l r) a p
      (λ m _. lifted_same ev n (slot_start (2 * w) l (S r)) w (2 * h + slot_start (2 * w) l (O r))
      (slot_start w l r) b t t'
      (λ j g. a.above j (omega (arith, slot_times 16 w l r, slot_child w l r (S r) lr))) (m / 16) (m % 16))

-- so with what the operator makes: that is a window with room, as where 5 places are left
pub plain_same : (ev : Bool) (src w odds evens : ℕ) (b t t' : List ℕ)
    → ((j : ℕ) → 16 * src ≤ j → get_or t' j 0 ≡ get_or t j 0)
    → (i x : ℕ) → plain_f ev src w odds evens b t' i x ≡ plain_f ev src w odds evens b t i x
plain_same ev = lifted_same false ev 5

-- where the word has room the convolutional windows stay as they are
pub finished_already : (n dst w : ℕ) (t : List ℕ) → 3 < n → WroteRows (finish_f false n dst t) (16 * dst) 16 w t t
finished_already n dst w t h = record {
  same = refl;
  inside = λ i x hi hx.
      let e : 16 * dst + 16 * i + x ≡ 16 * (dst + i) + inside n x = omega (arith, inside_room n x h) in
      ap (λ (k : ℕ). get_or t k 0) e;
  below = λ j _. refl;
  above = λ j _. refl;
}
