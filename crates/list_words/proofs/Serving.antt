-- What a call that is not refused before 19 comes to, from what its parts leave. Assumes nothing.
use mathlib.Core.Path.{◌≡◌, sym, ap, ap₂, ◌∙◌}
use mathlib.Core.Bool.{Bool, cond}
use mathlib.Core.List.{List, map, map-map}
use Prim.Native.Nat.{ℕ, ◌<◌, ◌≤◌}
use borrow.Author.Tests.{lt-ltb, le-ltb}
use lib.Dec.{ltb}
use lib.ListN.{length, replicate, length-map}
use lib.IntN.{ℤ, pos}
use Rattle.spec.specs.Code.{Code}
use Rattle.spec.specs.Score.{taken}
use Rattle.spec.specs.Decoder.{Row}
use Rattle.spec.specs.Outcome.{Lent, lent, room_of, padded, concat}
use Rattle.spec.specs.WordList.{counted, refused_count, listing, crowded, listed_rows, listed_or19, list_served}
use Rattle.payload_blocks.specs.Payloads.{correlations}
use Rattle.list_words.specs.Hits.{hits, row_at}
use Rattle.list_words.specs.RowsAbove.{rows_above}
use Rattle.list_words.specs.Listed.{Listed}

module _ {c : Code} {soft : List ℤ} {mark : ℤ} {k : ℕ} {inputs words : List ℕ} {scores : List ℤ} {inputs' words' : List ℕ} {scores' : List ℤ}
    (numbers bytes : List ℕ) (l : Listed c soft mark k inputs words scores inputs' words' scores') where
  abbrev hs : List ℕ
  hs = hits mark 0 (correlations c (taken soft))

  abbrev rs : List Row
  rs = map (row_at c (taken soft)) hs

  abbrev given : Lent
  given = lent numbers bytes inputs words scores

  rows_counted : length rs ≡ k
  rows_counted = length-map hs (row_at c (taken soft)) ∙ sym l.count

  by_room : (b : Bool) → ltb (length scores) k ≡ b → cond b (crowded given) (listed_rows (room_of given) rs) ≡ list_served c mark soft given
  unfolding list_served
  by_room b e =
      ap (λ (t : Bool). cond t (crowded given) (listed_rows (room_of given) rs)) (sym (ap (ltb (length scores)) rows_counted ∙ e))
      ∙ ap (λ (x : List Row). listed_or19 x given) (rows_above c (taken soft) mark)

  module _ {numbers' bytes' : List ℕ} (en : numbers' ≡ replicate (length numbers) 0) (eb : bytes' ≡ replicate (length bytes) 0) where
    pub served_19 : length scores < k → listing (refused_count 19) (lent numbers' bytes' inputs' words' scores') ≡ list_served c mark soft given
    served_19 h =
        let u = l.untouched h in
        rw (en, eb, u.0, u.1, u.2) (by_room _ (lt-ltb (length scores) k h))

    pub served_rows : length inputs' ≡ length inputs → length words' ≡ length words → length scores' ≡ length scores → k ≤ length scores
        → listing (counted k) (lent numbers' bytes' inputs' words' scores') ≡ list_served c mark soft given
    served_rows li lw ls h =
        let r = l.rows_are h in
        let i : inputs' ≡ padded 0 (length inputs) (concat (map (λ (x : Row). x.input) rs))
        = r.inputs_are ∙ ap₂ (λ (n : ℕ) (x : List (List ℕ)). padded 0 n (concat x)) li (sym (map-map (λ (x : Row). x.input) (row_at c (taken soft)) hs)) in
        let w : words' ≡ padded 0 (length words) (concat (map (λ (x : Row). x.word) rs))
        = r.words_are ∙ ap₂ (λ (n : ℕ) (x : List (List ℕ)). padded 0 n (concat x)) lw (sym (map-map (λ (x : Row). x.word) (row_at c (taken soft)) hs)) in
        let s : scores' ≡ padded (pos 0) (length scores) (map (λ (x : Row). x.score) rs)
        = r.scores_are ∙ ap₂ (λ (n : ℕ) (x : List ℤ). padded (pos 0) n x) ls (sym (map-map (λ (x : Row). x.score) (row_at c (taken soft)) hs)) in
        rw (en, eb, i, w, s, sym rows_counted) (by_room _ (le-ltb (length scores) k h))
