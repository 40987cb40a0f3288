-- The decoder's call with what the reader gave of a record. No code is in scope: the theorem is over the definitions.
use Rattle.std.specs.Prelude.{◌≡◌, Bool, List, ℕ, ◌*◌, ◌^◌, length, take, ℤ}
use Rattle.std.proofs.Common.{sym, ap, ap₂, ◌∙◌}
use Rattle.spec.specs.Code.{code, map_bytes}
use Rattle.spec.specs.Record.{exponent, is_arikan, list_size, stop_position, frame_number, pair_count}
use Rattle.spec.specs.Outcome.{Lent, Decoding, decode_outcome, job, Reading, reading, read_served, read_outcome}
use Rattle.spec.specs.JobWriter.{Fields}
use Rattle.job.specs.HandedOut.{map_at_front, pairs_at_front, soft_at_front}
use Rattle.job_round_trip.specs.NeverLonger.{fields_in}
use Rattle.job_round_trip.specs.OneForm.{read_of}

-- the decoder's call with the fields of a job
abbrev pub decoded : Fields → Lent → Decoding
decoded f t = decode_outcome f.code f.list_size f.stop f.soft t

-- the call that a host makes of what the reader gave: the fields, and the fronts of the three slices
abbrev pub decoded_from : ℕ → Bool → ℕ → ℕ → ℕ → List ℕ → List ℤ → List ℕ → Lent → Decoding
decoded_from m a l p q x y z t = decode_outcome (code m a (take (map_bytes (2 ^ m)) x) (take (4 * q) z)) l p (take (2 ^ m) y) t

same_call : {m m' l l' p p' : ℕ} {a a' : Bool} {x x' z z' : List ℕ} {y y' : List ℤ} (t : Lent)
    → m ≡ m' → a ≡ a' → l ≡ l' → p ≡ p' → x ≡ x' → y ≡ y' → z ≡ z' → decode_outcome (code m a x z) l p y t ≡ decode_outcome (code m' a' x' z') l' p' y' t
same_call t b d e g i j k = rw (b, d, e, g, i, j, k)

-- of any record that is read, it is the call with the fields that the record says
pub read_decoded : (s maps : List ℕ) (softs : List ℤ) (pairs : List ℕ) {m l p fr q : ℕ} {a : Bool} {x z : List ℕ} {y : List ℤ}
    → read_outcome s maps softs pairs ≡ reading (job m a l p fr q) x y z → (t : Lent) → decoded_from m a l p q x y z t ≡ decoded (fields_in s) t
unfolding read_served
read_decoded s maps softs pairs {m} {l} {p} {fr} {q} {a} told t =
    let r = read_of maps softs pairs s told in
    let g : job (exponent s) (is_arikan s) (list_size s) (stop_position s) (frame_number s) (pair_count s) ≡ job m a l p fr q = ap (λ (w : Reading). w.answer) r.1 in
    let gm : m ≡ exponent s = cc in
    let ga : a ≡ is_arikan s = cc in
    let gl : l ≡ list_size s = cc in
    let gp : p ≡ stop_position s = cc in
    let gq : q ≡ pair_count s = cc in
    let maps' : ℕ = length maps in
    let softs' : ℕ = length softs in
    let pairs' : ℕ = length pairs in
    same_call t gm ga gl gp
    (ap₂ (λ (m : ℕ) (x : List ℕ). take (map_bytes (2 ^ m)) x) gm (sym (ap (λ (w : Reading). w.map) r.1)) ∙ map_at_front s maps' softs' pairs' r.0 maps')
    (ap₂ (λ (m : ℕ) (y : List ℤ). take (2 ^ m) y) gm (sym (ap (λ (w : Reading). w.soft) r.1)) ∙ soft_at_front s maps' softs' pairs' r.0 softs')
    (ap₂ (λ (q : ℕ) (z : List ℕ). take (4 * q) z) gq (sym (ap (λ (w : Reading). w.pairs) r.1)) ∙ pairs_at_front s maps' softs' pairs' r.0 pairs')
