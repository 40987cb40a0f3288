-- The written form of a job: which fields stand in it, that it says what they were, and how long it is. Assumes nothing.
use Rattle.std.specs.Prelude.{◌≡◌, refl, Bool, true, false, cond, List, [], ◌∷◌, ◌++◌, ℕ, zero, suc, ◌+◌, ◌*◌, ◌/◌, ◌%◌, ◌≤◌, ◌<◌, eqb, length, ℤ}
use Rattle.std.proofs.Common.{sym, ap, suc-ne-zero, arith, eq-eqb, ne_eqb, eqb-true, length-append, pow_mono}
use Rattle.spec.specs.Code.{Code, code, size}
use Rattle.spec.specs.Score.{taken}
use Rattle.spec.specs.RecordOf.{Field, absent, present, value_or, PairField, unannounced, announced, pairs_of, Content, code_said, low_first, field_bit, pair_bit, fields_byte, field_bytes, pair_bytes, soft_bytes, head_of, record_of}
use Rattle.spec.specs.JobWriter.{Fields, unless, unless_none, leanest, written_record}
use Rattle.laws.specs.Accepted.{Accepted, size_small}
use Rattle.laws.specs.Pairs.{pairs_long}
use Rattle.laws.specs.Taken.{length_taken}
use Rattle.laws.specs.WriteCall.{Writable}

-- ---- a field with the value that absence means is left out, one with another stands; either says its value
pub left_out : (absence x : ℕ) → x ≡ absence → unless absence x ≡ absent
left_out absence x e = rw (eq-eqb x absence e)

pub stands : (absence x : ℕ) → (x ≡ absence → ⊥) → unless absence x ≡ present x
stands absence x n = rw (ne_eqb x absence n)

pub value_back : (absence x : ℕ) → value_or absence (unless absence x) ≡ x
value_back absence x = go (eqb x absence) refl
  where
    go : (b : Bool) → eqb x absence ≡ b → value_or absence (cond b absent (present x)) ≡ x
    go true e = sym (eqb-true x absence e)
    go false e = refl

-- the same of the pairs
pub no_pairs : (s : List ℕ) → length s ≡ 0 → unless_none s ≡ unannounced
no_pairs [] e = refl
no_pairs (x ∷ s) e = absurd (suc-ne-zero (length s) e)

pub some_pairs : (s : List ℕ) → (length s ≡ 0 → ⊥) → unless_none s ≡ announced s
some_pairs [] n = absurd (n refl)
some_pairs (x ∷ s) n = refl

pub pairs_back : (s : List ℕ) → pairs_of (unless_none s) ≡ s
pairs_back [] = refl
pairs_back (x ∷ s) = refl

pub code_back : (f : Fields) → code_said (leanest f) ≡ f.code
code_back f = ap (code f.code.m f.code.arikan f.code.map) (pairs_back f.code.pairs)

-- a number of 32 bits is made of its four bytes
pub four_bytes : (x : ℕ) → x < 4294967296
    → x % 256 + 256 * (x / 256 % 256) + 65536 * (x / 256 / 256 % 256 + 256 * (x / 256 / 256 / 256 % 256)) ≡ x
four_bytes x h = omega arith

-- ---- how long a record is, by what it says
pub length_soft_bytes : (ys : List ℤ) → length (soft_bytes ys) ≡ 2 * length ys
length_soft_bytes [] = refl
length_soft_bytes (y ∷ ys) = omega (arith, length_soft_bytes ys)

pub length_low : (k x : ℕ) → length (low_first k x) ≡ k
length_low zero x = refl
length_low (suc k) x = ap suc (length_low k (x / 256))

pub field_bit_lem : (f : Field) → field_bit f ≤ 1
field_bit_lem absent = omega arith
field_bit_lem (present x) = omega arith

pub length_field : (k : ℕ) (f : Field) → length (field_bytes k f) ≡ k * field_bit f
length_field k absent = omega arith
length_field k (present x) = omega (arith, length_low k x)

length_pair_bytes : (q : PairField) → length (pair_bytes q) ≡ 2 * pair_bit q + length (pairs_of q)
length_pair_bytes unannounced = refl
length_pair_bytes (announced s) = omega arith

pub length_record : (c : Content) → length (record_of c)
    ≡ 2 + field_bit c.size + 2 * field_bit c.stop + 4 * field_bit c.frame + length c.map + 2 * pair_bit c.pairs + length (pairs_of c.pairs)
    + 2 * length c.soft
unfolding record_of
length_record c =
    let l = field_bytes 1 c.size in
    let p = field_bytes 2 c.stop in
    let f = field_bytes 4 c.frame in
    let head = head_of (fields_byte c) c.m c.size c.stop c.frame in
    let y = soft_bytes c.soft in
    let q = pair_bytes c.pairs in
    omega (
      arith,
      length-append head (c.map ++ (q ++ y)),
      length-append c.map (q ++ y),
      length-append q y,
      length-append l (p ++ f),
      length-append p f,
      length_field 1 c.size,
      length_field 2 c.stop,
      length_field 4 c.frame,
      length_pair_bytes c.pairs,
      length_soft_bytes c.soft,
    )

-- ---- how long the written form is
pub written_length : (f : Fields) → length (written_record f)
    ≡ 2 + field_bit (unless 4 f.list_size) + 2 * field_bit (unless (size f.code) f.stop) + 4 * field_bit (unless 0 f.frame) + length f.code.map
    + 2 * pair_bit (unless_none f.code.pairs) + length f.code.pairs + 2 * length f.soft
unfolding written_record
written_length f = omega (arith, length_record (leanest f), ap length (pairs_back f.code.pairs), length_taken f.soft)

-- what stands behind its head
pub rest_length : (x q : List ℕ) (y : List ℤ) → length (x ++ (pair_bytes (unless_none q) ++ soft_bytes (taken y)))
    ≡ length x + length (pair_bytes (unless_none q)) + 2 * length y
rest_length x q y =
    let p = pair_bytes (unless_none q) in
    let s = soft_bytes (taken y) in
    omega (arith, length-append x (p ++ s), length-append p s, length_soft_bytes (taken y), length_taken y)

pub pairs_within : (q : List ℕ) → length q ≤ length (pair_bytes (unless_none q))
pairs_within [] = omega arith
pairs_within (x ∷ q) = omega arith

-- of a code that is not refused each part has its bound
pub record Bounded (c : Code) : Type 0 where
  pub exponent : c.m ≤ 10
  pub map : length c.map ≤ 128
  pub pairs : length c.pairs ≤ 1024
  pub whole : length c.pairs % 4 ≡ 0
  pub some : 4 ≤ size c
  pub few : size c ≤ 1024

pub bounded : {c : Code} → Accepted c → Bounded c
bounded {c} a =
    let n : size c ≤ 1024 = size_small a in
    record {
      exponent = a.high;
      map = omega (arith, a.bytes);
      pairs = omega (arith, pairs_long c.pairs a.ruled.whole, a.ruled.few);
      whole = a.ruled.whole;
      some = pow_mono {i = 2} {j = c.m} a.low;
      few = n;
    }

-- and 3,211 bytes are enough for all that is written
pub written_at_most : (f : Fields) → Writable f → length (written_record f) ≤ 3211
written_at_most f w =
    let b = bounded w.accepts in
    omega (
      arith,
      written_length f,
      one (unless 4 f.list_size),
      one (unless (size f.code) f.stop),
      one (unless 0 f.frame),
      pair_one (unless_none f.code.pairs),
      b.map,
      b.pairs,
      b.few,
      w.values,
    )
  where
    one : (x : Field) → field_bit x ≤ 1
    one absent = omega arith
    one (present x) = omega arith

    pair_one : (q : PairField) → pair_bit q ≤ 1
    pair_one unannounced = omega arith
    pair_one (announced s) = omega arith
