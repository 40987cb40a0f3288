-- A call that is refused, and one that has what it takes to be served. Assumes nothing.
use mathlib.Core.Path.{◌≡◌, sym, ap, ◌∙◌}
use mathlib.Core.List.{List}
use Prim.Native.Nat.{ℕ, ◌*◌}
use borrow.Author.Tests.{ltb-false}
use lib.ListN.{length}
use lib.IntN.{ℤ}
use Rattle.spec.specs.Code.{Code, size, payload_size}
use Rattle.spec.specs.Faults.{first}
use Rattle.spec.specs.Refusals.{Room, number_room, byte_room}
use Rattle.spec.specs.Outcome.{Lent, room_of}
use Rattle.spec.specs.WordList.{list_faults, refused_count, Listing, listing, list_refusal, list_served, list_outcome}
use Rattle.laws.specs.FirstFault.{First, none, later, of_first, same_of, settled_refused, settled_served}
use Rattle.laws.specs.Accepted.{accepted_of}
use Rattle.refusals.specs.declared.Refusal.{Refusal}
use Rattle.refusals.specs.Number.{number_of, not_zero}
use Rattle.list_words.specs.Listed.{ServeFits}

unrefused : (c : Code) (soft : List ℤ) (n k : ℕ) (r : Room) → n ≡ size c → k ≡ payload_size c → First (list_faults c soft r) 0 → ServeFits c soft n k r
unrefused c soft n k r en ek
    (later a (later b (later d (later u (later v (later w (later e₂₀ (later e₆ (later e₇ (later e₈ (later e₉ (later x (later y none))))))))))))) =
    record {
      accepts = accepted_of {c = c} (later a (later b (later d (later u (later v (later w none))))));
      row = en;
      bits = ek;
      few = ltb-false 20 (payload_size c) e₂₀;
      soft_long = same_of (length soft) (size c) e₆;
      in_range = e₇;
      numbers_there = ltb-false r.numbers (number_room (size c) 1) e₈;
      bytes_there = ltb-false r.bytes (byte_room (size c) 1) e₉;
      inputs_there = ltb-false r.inputs (size c * r.scores) x;
      words_there = ltb-false r.words (size c * r.scores) y;
    }

module _ (c : Code) (soft : List ℤ) where
  -- what is found by the lengths that were measured
  pub by_room : {k : ℕ} {r s : Room} → r ≡ s → k ≡ first (list_faults c soft r) → k ≡ first (list_faults c soft s)
  by_room e f = f ∙ ap (λ (r : Room). first (list_faults c soft r)) e

  pub serve_fits : (r : Room) → 0 ≡ first (list_faults c soft r) → (n j : ℕ) → n ≡ size c → j ≡ payload_size c → ServeFits c soft n j r
  serve_fits r e n j en ej = unrefused c soft n j r en ej (of_first (list_faults c soft r) 0 e)

  pub refused_call : (mark : ℤ) (x : Lent) (e : Refusal) → number_of e ≡ first (list_faults c soft (room_of x))
      → listing (refused_count (number_of e)) x ≡ list_outcome c mark soft x
  unfolding list_outcome list_refusal
  refused_call mark x e f =
      settled_refused (λ j. listing (refused_count j) x) (list_served c mark soft x) (number_of e) (first (list_faults c soft (room_of x))) f (not_zero e)

  pub served_call : (mark z : ℤ) (x : Lent) → z ≡ mark → 0 ≡ first (list_faults c soft (room_of x)) → (o : Listing) → o ≡ list_served c z soft x
      → o ≡ list_outcome c mark soft x
  unfolding list_outcome list_refusal
  served_call mark z x e f o s =
      s ∙ ap (λ (m : ℤ). list_served c m soft x) e
      ∙ settled_served (λ j. listing (refused_count j) x) (list_served c mark soft x) (first (list_faults c soft (room_of x))) f
