-- A call whose refusals do not apply has what it takes to be served.
use Rattle.std.proofs.Common.{◌≡◌, sym, ap, ◌∙◌, List, ℕ, ◌*◌, ◌/◌, length, ℤ, ltb-false, arith}
use Rattle.spec.specs.Code.{Code, size}
use Rattle.spec.specs.Faults.{first}
use Rattle.spec.specs.Refusals.{Room, decode_faults, number_room, byte_room}
use Rattle.spec.specs.Outcome.{Lent, decoding, refused_by, room_of, decode_refusal, decode_served, decode_outcome}
use Rattle.laws.specs.FirstFault.{First, none, later, of_first, inside_of, same_of, settled_refused, settled_served}
use Rattle.laws.specs.Accepted.{accepted_of}
use Rattle.refusals.specs.declared.Refusal.{Refusal}
use Rattle.refusals.specs.Number.{number_of, not_zero}
use Rattle.decoder.specs.Serving.{ServeFits}

unrefused : (c : Code) (l p n h : ℕ) (soft : List ℤ) (r : Room) → n ≡ size c → h ≡ n / 2 * l → First (decode_faults c l p soft r) 0 → ServeFits c l p n h soft r
unrefused c l p n h soft r en eh
    (later a (later b (later d (later u (later v (later w (later e₄ (later e₅ (later e₆ (later e₇ (later e₈ (later e₉ (later x (later y (later z none))))))))))))))) =
    let q = inside_of 1 32 l e₄ in
    record {
      accepts = accepted_of {c = c} (later a (later b (later d (later u (later v (later w none))))));
      some_path = q.0;
      list = q.1;
      stop = omega (arith, en, ltb-false (size c) p e₅);
      long = same_of (length soft) (size c) e₆ ∙ sym en;
      range = e₇;
      size_is = en;
      half_is = eh;
      numbers = rw en (ltb-false r.numbers (number_room (size c) l) e₈);
      bytes = rw en (ltb-false r.bytes (byte_room (size c) l) e₉);
      inputs = rw en (ltb-false r.inputs (size c * l) x);
      words = rw en (ltb-false r.words (size c * l) y);
      scores = ltb-false r.scores l z;
    }

module _ (c : Code) (l p : ℕ) (soft : List ℤ) where
  -- what is found by the lengths that were measured
  pub by_room : {k : ℕ} {r s : Room} → r ≡ s → k ≡ first (decode_faults c l p soft r) → k ≡ first (decode_faults c l p soft s)
  by_room e f = f ∙ ap (λ (r : Room). first (decode_faults c l p soft r)) e

  pub serve_fits : (r : Room) → 0 ≡ first (decode_faults c l p soft r) → (n h : ℕ) → n ≡ size c → h ≡ n / 2 * l → ServeFits c l p n h soft r
  serve_fits r e n h en eh = unrefused c l p n h soft r en eh (of_first (decode_faults c l p soft r) 0 e)

  pub refused_call : (x : Lent) (e : Refusal) → number_of e ≡ first (decode_faults c l p soft (room_of x))
      → decoding (refused_by (number_of e)) x ≡ decode_outcome c l p soft x
  unfolding decode_outcome decode_refusal
  refused_call x e f =
      settled_refused (λ j. decoding (refused_by j) x) (decode_served c l p soft (room_of x)) (number_of e)
      (first (decode_faults c l p soft (room_of x))) f (not_zero e)

  pub served_call : (x : Lent) → 0 ≡ first (decode_faults c l p soft (room_of x)) → decode_served c l p soft (room_of x) ≡ decode_outcome c l p soft x
  unfolding decode_outcome decode_refusal
  served_call x f =
      settled_served (λ j. decoding (refused_by j) x) (decode_served c l p soft (room_of x)) (first (decode_faults c l p soft (room_of x))) f
