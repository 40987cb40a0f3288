use Rattle.std.proofs.Common.{◌≡◌, sym, ap, ◌∙◌, List, [], ◌∷◌, ◌++◌, ℕ, ◌+◌, ◌<◌, ◌≤◌, ℤ, pos, length, take, drop, set, get_or, length-take-le, take_all, arith}
use Rattle.std.proofs.lemmas.Int.{to_z-of_z}
use Rattle.std.proofs.lemmas.List.{map_more}
use mir.Syntax.{w16}
use mir.Val.{to_z, of_z}
use Rattle.spec.specs.Score.{saturated, taken}
use Rattle.spec.specs.Refusals.{out_of_range}
use Rattle.spec.specs.Record.{positions, soft_at, record_soft}
use Rattle.slices.specs.Fill.{filled_front}
use Rattle.slices.specs.Front.{front_more}
use Rattle.ranges.specs.InRange.{in_range_at}
use Rattle.laws.specs.Taken.{length_taken}
use Rattle.job_fields.specs.SoftAt.{length_soft_from}
use Rattle.job.proofs.copying.write_soft.Goals as goal

-- one value more
step : (y t o : List ℤ) (i : ℕ) (v : ℤ) → i < length y → i < length t → o ≡ taken (take i y) ++ drop i t → v ≡ saturated (get_or y i (pos 0))
    → set o i v ≡ taken (take (i + 1) y) ++ drop (i + 1) t
step y t o i v hy h e f =
    let done : List ℤ = taken (take i y) in
    front_more done t o i v (length_taken (take i y) ∙ length-take-le i y (omega arith)) h e
    ∙ ap (λ (l : List ℤ). l ++ drop (i + 1) t) (ap (λ (z : ℤ). done ++ (z ∷ [])) f ∙ sym (map_more saturated y i (pos 0) hy))

pub saturated-requires : goal.saturated-requires
saturated-requires c =
    ap out_of_range (to_z-of_z w16 c.soft.result (record { sfits = c.soft.type_inv }) ∙ c.soft.ensures)
    ∙ in_range_at (record_soft c.args.job.bytes.now) c.loop-i.i c.requires.1

pub loop-i-preserved : goal.loop-i-preserved
loop-i-preserved c =
    let r = c.args.job in
    let s = r.bytes.now in
    let y = record_soft s in
    let i = c.loop-i.i in
    let t = c.args.soft.now in
    let hy : i < length y = omega (arith, length_soft_from s (soft_at s) (positions s), r.laid.n_is, c.loop-i-test.true) in
    let h : i < length t = omega (arith, r.laid.n_is, c.loop-i-test.true, c.requires.0) in
    let v : to_z w16 (of_z w16 c.saturated.result) ≡ saturated (get_or y i (pos 0))
    = to_z-of_z w16 c.saturated.result (record { sfits = c.saturated.type_inv }) ∙ c.saturated.ensures
    ∙ ap saturated (to_z-of_z w16 c.soft.result (record { sfits = c.soft.type_inv }) ∙ c.soft.ensures) in
    step y t c.loop-i.soft i _ hy h c.loop-i.invariant v

pub returns : goal.returns
returns c =
    let r = c.args.job in
    let s = r.bytes.now in
    let y = record_soft s in
    let t = c.args.soft.now in
    let n : length (taken y) ≡ r.at.n = length_taken y ∙ length_soft_from s (soft_at s) (positions s) ∙ sym r.laid.n_is in
    let i : c.loop-i.i ≡ length (taken y) = omega (arith, n, c.loop-i-test.false) in
    let all : length y ≤ c.loop-i.i = omega (arith, length_taken y, i) in
    let done : c.loop-i.soft ≡ taken y ++ drop (length (taken y)) t
    = c.loop-i.invariant ∙ ap (λ (l : List ℤ). taken l ++ drop c.loop-i.i t) (take_all c.loop-i.i y all) ∙ ap (λ (k : ℕ). taken y ++ drop k t) i in
    c.fill_from.ensures ∙ filled_front (pos 0) (taken y) t c.loop-i.soft r.at.n done (sym n) (omega (arith, n, r.laid.n_is, c.requires.0))
