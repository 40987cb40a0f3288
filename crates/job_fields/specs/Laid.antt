-- What is known of a record of the right shape, of a layout of it, and of its frozen map and its pairs as the parts that a layout names.
use Rattle.std.specs.Prelude.{◌≡◌, List, ℕ, ◌+◌, ◌-◌, ◌*◌, ◌≤◌, length, take, drop}
use Rattle.std.proofs.Common.{ap₂, arith, length-take, length-drop}
use Rattle.spec.specs.Code.{map_bytes}
use Rattle.spec.specs.Record.{fields, exponent, positions, map_at, pairs_at, pair_count, soft_at, record_map, record_pairs}
use Rattle.job_fields.specs.declared.layout.Layout.{Layout}

module _ (s : List ℕ) where
  -- a record whose m and count of pairs are in range, and that is as long as its fields need
  pub record Shaped : Type 0 where
    pub low : 2 ≤ exponent s
    pub high : exponent s ≤ 10
    pub few : pair_count s ≤ 256
    pub whole : length s ≡ soft_at s + 2 * positions s

  -- a layout is that of the record
  pub record Laid (at : Layout) : Type 0 where
    pub shaped : Shaped
    pub fields_are : at.fields ≡ fields s
    pub m_is : at.m ≡ exponent s
    pub n_is : at.n ≡ positions s
    pub small : at.n ≤ 1024
    pub count_is : at.count ≡ pair_count s
    pub map_begins : at.map ≡ map_at (fields s)
    pub pairs_begin : at.pairs ≡ pairs_at s
    pub soft_begins : at.soft ≡ soft_at s

pub length_map : {s : List ℕ} → Shaped s → length (record_map s) ≡ map_bytes (positions s)
length_map {s} w = simp (length-take, length-drop) (omega (arith, w.whole))

pub length_pairs : {s : List ℕ} → Shaped s → length (record_pairs s) ≡ 4 * pair_count s
length_pairs {s} w = simp (length-take, length-drop) (omega (arith, w.whole))

-- where each part ends, and the part
module _ {s : List ℕ} {at : Layout} (w : Laid s at) where
  pub map_within : at.map + map_bytes at.n ≤ length s
  map_within = omega (arith, w.map_begins, w.n_is, w.shaped.whole)

  pub pairs_first : at.pairs ≤ at.soft
  pairs_first = omega (arith, w.pairs_begin, w.soft_begins)

  pub pairs_within : at.soft ≤ length s
  pairs_within = omega (arith, w.soft_begins, w.shaped.whole)

  pub map_part : take (at.map + map_bytes at.n - at.map) (drop at.map s) ≡ record_map s
  map_part =
      let long : at.map + map_bytes at.n - at.map ≡ map_bytes (positions s) = omega (arith, w.n_is) in
      ap₂ (λ (k i : ℕ). take k (drop i s)) long w.map_begins

  pub pairs_span : at.soft - at.pairs ≡ 4 * pair_count s
  pairs_span = omega (arith, w.pairs_begin, w.soft_begins)

  pub pairs_part : take (at.soft - at.pairs) (drop at.pairs s) ≡ record_pairs s
  pairs_part = ap₂ (λ (k i : ℕ). take k (drop i s)) pairs_span w.pairs_begin
