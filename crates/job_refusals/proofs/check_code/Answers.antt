-- Of the conditions of a code all but the first two are left.
use Rattle.std.proofs.Common.{◌≡◌, ◌∙◌, Bool, List, ℕ, ◌^◌, length}
use Rattle.spec.specs.Code.{code, map_bytes}
use Rattle.spec.specs.Faults.{first}
use Rattle.spec.specs.Refusals.{code_faults}
use Rattle.spec.specs.Record.{exponent, record_map, is_arikan, record_code}
use Rattle.laws.specs.FirstFault.{inside, same}
use Rattle.job_fields.specs.Laid.{Shaped, length_map}
use Rattle.job_refusals.specs.Conditions.{record_code_faults}
use Rattle.job_refusals.proofs.check_code.Goals as goal

left : (s : List ℕ) → Shaped s → first (code_faults (record_code s)) ≡ first (record_code_faults s)
unfolding first
left s w =
    rw (inside 2 10 (exponent s) w.low w.high, same (length (record_map s)) (map_bytes (2 ^ exponent s)) (length_map w))

same_code : (arikan : Bool) {m m' : ℕ} {map map' pairs pairs' : List ℕ} → m ≡ m' → map ≡ map' → pairs ≡ pairs'
    → first (code_faults (code m arikan map pairs)) ≡ first (code_faults (code m' arikan map' pairs'))
same_code arikan a b d = rw (a, b, d)

pub returns : goal.returns
returns c =
    let r = c.args.job in
    let s = r.bytes.now in
    c.check.ensures (is_arikan s) ∙ same_code (is_arikan s) r.laid.m_is c.map.ensures c.pairs.ensures ∙ left s r.laid.shaped
