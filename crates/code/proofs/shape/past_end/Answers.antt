-- One byte of four positions, or whole bytes.
use Rattle.std.proofs.Common.{◌≡◌, sym, ap, ◌∙◌, List, [], ◌∷◌, ℕ, ◌^◌, ◌<◌, length, get_or, ltb, ne_eqb, arith}
use Rattle.spec.specs.Code.{map_bytes}
use Rattle.spec.specs.Refusals.{past_end}
use Rattle.laws.specs.MapBits.{one_byte, whole_bytes}
use Rattle.code.proofs.shape.past_end.Goals as goal

of_one : (s : List ℕ) (m : ℕ) → m ≡ 2 → length s ≡ 1 → get_or s 0 0 < 256 → ltb 15 (get_or s 0 0) ≡ past_end (2 ^ m) s
of_one [] m e h b = absurd (omega (arith, h))
of_one (x ∷ []) m e h b = rw e (one_byte x b)
of_one (x ∷ y ∷ s) m e h b = absurd (omega (arith, h))

one : (s : List ℕ) (m : ℕ) → m ≡ 2 → length s ≡ map_bytes (2 ^ m) → length s ≡ 1
one s m e h = h ∙ ap (λ (k : ℕ). map_bytes (2 ^ k)) e

pub bounds-map-0 : goal.bounds-map-0
bounds-map-0 c = omega (arith, one c.args.map.now c.args.m c.if-m-eq2.true c.requires.1)

pub returns-then-m-eq2 : goal.returns-then-m-eq2
returns-then-m-eq2 c =
    let b : get_or c.args.map.now 0 0 < 256 = omega (arith, c.type_inv.map 0) in
    of_one c.args.map.now c.args.m c.if-m-eq2.true (one c.args.map.now c.args.m c.if-m-eq2.true c.requires.1) b

pub returns-else-m-eq2 : goal.returns-else-m-eq2
returns-else-m-eq2 c =
    let p = c.requires.0 in
    let q = c.if-m-eq2.false in
    ne_eqb _ _ q ∙ sym (whole_bytes c.args.m c.args.map.now (omega arith) c.requires.1)
