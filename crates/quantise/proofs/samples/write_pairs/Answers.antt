use Rattle.std.proofs.Common.{◌≡◌, refl, sym, ap, ap₂, ◌∙◌, List, [], ◌∷◌, ◌++◌, ℕ, suc, ◌+◌, ◌-◌, ◌*◌, ◌<◌, ◌≤◌, ℤ, length, take, drop, set, get_or, arith, length-append, length-drop, append_assoc, append-nil, length-take-le}
use native.Mathlib.Nat.{add_assoc}
use lib.Seq.{drop-length, get_or-take, get_or-drop}
use lib.Ieee.{Float, binary32, of_bits}
use Rattle.spec.specs.Record.{two_at, four_at}
use Rattle.spec.specs.Samples.{soft_of, soft_pairs}
use Rattle.laws.specs.SoftPairs.{length_pairs, pairs_more}
use Rattle.slices.specs.Front.{front_more}
use Rattle.readings.specs.Parts.{part_of, soft_part}
use Rattle.readings.specs.SoftOfPart.{soft_bits}
use Rattle.quantise.proofs.samples.write_pairs.Goals as goal

-- ---- the eight bytes from a place on, as a part of all of them
module _ (s : List ℕ) (at k : ℕ) (e : k ≡ 8) where
  eight_long : at + 8 ≤ length s → length (take k (drop at s)) ≡ 8
  eight_long h = rw e (length-take-le 8 (drop at s) (omega (arith, length-drop at s)))

  byte_of : (i : ℕ) → i < 8 → get_or (take k (drop at s)) i 0 ≡ get_or s (at + i) 0
  byte_of i h = rw e (get_or-take 8 (drop at s) i 0 h) ∙ get_or-drop at s i 0

  two_of : (i : ℕ) → i < 7 → two_at (take k (drop at s)) i ≡ two_at s (at + i)
  two_of i h =
      ap₂ (λ (a b : ℕ). a + 256 * b) (byte_of i (omega arith))
      (byte_of (i + 1) (omega arith) ∙ ap (λ (n : ℕ). get_or s n 0) (sym (add_assoc at i 1)))

  four_of : (i : ℕ) → i < 5 → four_at (take k (drop at s)) i ≡ four_at s (at + i)
  four_of i h =
      ap₂ (λ (a b : ℕ). a + 65536 * b) (two_of i (omega arith)) (two_of (i + 2) (omega arith) ∙ ap (two_at s) (sym (add_assoc at i 2)))

  part_of_lem : (x : Float) (i : ℕ) → i < 5 → x ≡ of_bits binary32 (four_at (take k (drop at s)) i) → four_at (take k (drop at s)) i < 4294967296
      → soft_part (part_of x) ≡ soft_of (four_at s (at + i))
  part_of_lem x i h v l = ap (λ (y : Float). soft_part (part_of y)) v ∙ soft_bits (four_at (take k (drop at s)) i) l ∙ ap soft_of (four_of i h)

-- ---- one pair more, written over what stands at its two places
module _ (s : List ℕ) (t o : List ℤ) (j : ℕ) (h : 2 * j + 1 < length t) (e : o ≡ soft_pairs s 0 j ++ drop (2 * j) t) where
  pair_written : (v w : ℤ) → v ≡ soft_of (four_at s (8 * j)) → w ≡ soft_of (four_at s (8 * j + 4))
      → set (set o (2 * j) v) (2 * j + 1) w ≡ soft_pairs s 0 (j + 1) ++ drop (2 * (j + 1)) t
  pair_written v w p q =
      let done : List ℤ = soft_pairs s 0 j in
      let k : j + 1 ≡ suc j = omega arith in
      let z : 0 + 8 * j ≡ 8 * j = omega arith in
      let l : length (done ++ (v ∷ [])) ≡ 2 * j + 1 = length-append done (v ∷ []) ∙ ap (λ (n : ℕ). n + 1) (length_pairs s 0 j) in
      let both : soft_pairs s 0 (j + 1) ≡ (done ++ (v ∷ [])) ++ (w ∷ []) =
      ap (soft_pairs s 0) k ∙ pairs_more s 0 j
      ∙ ap (λ (n : ℕ). done ++ (soft_of (four_at s n) ∷ soft_of (four_at s (n + 4)) ∷ [])) z
      ∙ ap₂ (λ (a b : ℤ). done ++ (a ∷ b ∷ [])) (sym p) (sym q)
      ∙ sym (append_assoc done (v ∷ []) (w ∷ [])) in
      let past : 2 * j + 1 + 1 ≡ 2 * (j + 1) = omega arith in
      front_more (done ++ (v ∷ [])) t (set o (2 * j) v) (2 * j + 1) w l h (front_more done t o (2 * j) v (length_pairs s 0 j) (omega arith) e)
      ∙ ap₂ (λ (a : List ℤ) (n : ℕ). a ++ drop n t) (sym both) past

pub loop-j-init : goal.loop-j-init
unfolding soft_pairs
loop-j-init c = refl

pub sample_of-s-requires : goal.sample_of-s-requires
sample_of-s-requires c =
    let j = c.loop-j.j in
    eight_long c.args.bytes.now (8 * j) (8 * j + 8 - 8 * j) (omega arith) (omega arith)

pub loop-j-preserved : goal.loop-j-preserved
loop-j-preserved c =
    let s = c.args.bytes.now in
    let j = c.loop-j.j in
    let r = c.sample_of-s in
    let h : 2 * j + 1 < length c.args.soft.now = omega arith in
    let eight : 8 * j + 8 - 8 * j ≡ 8 = omega arith in
    let re = part_of_lem s (8 * j) (8 * j + 8 - 8 * j) eight r.result.re 0 (omega arith) r.ensures.0 r.ensures.2 in
    let im = part_of_lem s (8 * j) (8 * j + 8 - 8 * j) eight r.result.im 4 (omega arith) r.ensures.1 r.ensures.3 in
    let first : 8 * j + 0 ≡ 8 * j = omega arith in
    c.quantise_sample.ensures
    ∙ pair_written s c.args.soft.now c.loop-j.soft j h c.loop-j.invariant _ _ (re ∙ ap (λ (n : ℕ). soft_of (four_at s n)) first) im

pub returns : goal.returns
returns c =
    let s = c.args.bytes.now in
    let soft = c.args.soft.now in
    let e : c.loop-j.j ≡ c.args.pairs = omega arith in
    let w : 2 * c.args.pairs ≡ length soft = omega arith in
    c.loop-j.invariant
    ∙ ap (λ (k : ℕ). soft_pairs s 0 k ++ drop (2 * k) soft) e
    ∙ ap (λ (k : ℕ). soft_pairs s 0 c.args.pairs ++ drop k soft) w
    ∙ rw (drop-length soft) (append-nil (soft_pairs s 0 c.args.pairs))
