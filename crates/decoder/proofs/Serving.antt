-- The sizes of a call that is served, and what its parts ask for.
use mathlib.Core.Path.{◌≡◌, sym, ap, ap₂, subst, ◌∙◌}
use mathlib.Core.List.{List}
use Prim.Native.Nat.{ℕ, suc, ◌+◌, ◌-◌, ◌*◌, ◌/◌, ◌≤◌, ◌^◌}
use native.Mathlib.Omega.{arith}
use native.Mathlib.Nat.{mul_assoc, mul_comm, add-mul, mul-le-mul, mul-le-mul_left, le-mul_of_pos_right, add-zero}
use lib.ListN.{length}
use lib.IntN.{ℤ}
use Rattle.spec.specs.Code.{Code, size}
use Rattle.spec.specs.Refusals.{Room}
use Rattle.laws.specs.Accepted.{Ruled, size_small}
use Rattle.laws.specs.MapBits.{enough_bits}
use Rattle.code.specs.Given.{flags_are}
use Rattle.tables.specs.Tab.{slot_start}
use Rattle.tables.specs.Start.{StartSize}
use Rattle.block_rows.specs.BlockRows.{BitsFit}
use Rattle.positions.specs.Running.{BlockSizes, RunFits}
use Rattle.decoder.specs.Serving.{ServeFits}

module _ (c : Code) (l p n h : ℕ) (soft : List ℤ) (r : Room) (f : ServeFits c l p n h soft r) where
  pub exponent : c.m ≡ suc (suc (c.m - 2))
  exponent = omega (arith, f.accepts.low)

  pub whole : n ≡ 2 ^ suc (suc (c.m - 2))
  whole = f.size_is ∙ ap (λ (k : ℕ). 2 ^ k) exponent

  halved : n / 2 ≡ 2 ^ suc (c.m - 2)
  halved = omega (arith, whole)

  pub twice : n * l ≡ 2 * h
  twice =
      let e : n ≡ 2 * (n / 2) = omega (arith, whole) in
      ap (λ (k : ℕ). k * l) e ∙ mul_assoc 2 (n / 2) l ∙ ap (λ (k : ℕ). 2 * k) (sym f.half_is)

  pub small : n ≤ 1024
  small = omega (arith, size_small f.accepts, f.size_is)

  sizes_of : BlockSizes (c.m - 2) l h n
  unfolding slot_start
  sizes_of = record {
    deepest = omega (arith, f.accepts.high);
    some = f.some_path;
    list = f.list;
    half = f.half_is ∙ ap₂ ◌*◌ halved (sym (add-zero l));
    whole = whole;
    near = let e : n / 2 * l ≤ 512 * 32 = mul-le-mul {n₁ = n / 2} {m₁ = l} {n₂ = 512} {m₂ = 32} (omega (arith, small)) f.list in omega (arith, f.half_is);
  }

  wide : n ≤ n * l
  wide = le-mul_of_pos_right n f.some_path

  words_there : 16 * (h + 2 ^ (c.m - 2)) ≤ r.numbers
  words_there = omega (arith, whole, twice, wide, f.numbers)

  -- the bits, the history up to any stop position and 32 bytes more
  bytes_there : (k : ℕ) → k ≤ n → 3 * h + l * k + 32 ≤ r.bytes
  bytes_there k hk =
      let a : l * k ≤ l * n = mul-le-mul_left l hk in
      let q : l * n ≡ n * l = mul_comm l n in
      let d : (4 * n + 256) * l ≡ 4 * n * l + 256 * l = add-mul (4 * n) 256 l in
      let e : 4 * n * l ≡ 4 * (n * l) = mul_assoc 4 n l in
      omega (arith, twice, f.bytes, f.some_path)

  flags_there : n ≤ 8 * length c.map
  flags_there = omega (arith, enough_bits (size c) c.map f.accepts.bytes, f.size_is)

  pub start_fits : (t : List ℕ) → r.numbers ≤ length t → StartSize (c.m - 2) (n / 4) l h t soft
  start_fits t e = record {
    deepest = sizes_of.deepest;
    bottom = omega (arith, whole);
    paths = f.some_path;
    long = f.list;
    low = omega (arith, sizes_of.half);
    near = sizes_of.near;
    costs = omega (arith, words_there);
    whole = f.long ∙ whole;
    range = f.range;
  }

  -- a row of n bytes for each path behind the history
  rows_there : 3 * h + l * n + n * l ≤ r.bytes
  rows_there =
      let q : l * n ≡ n * l = mul_comm l n in
      let d : (4 * n + 256) * l ≡ 4 * n * l + 256 * l = add-mul (4 * n) 256 l in
      let e : 4 * n * l ≡ 4 * (n * l) = mul_assoc 4 n l in
      omega (arith, twice, f.bytes)

  pub run_fits : (t b rows : ℕ) → r.numbers ≤ t → r.bytes ≤ b → r.inputs ≤ rows → RunFits (c.m - 2) l h n p t b rows c.map c.pairs
  run_fits t b rows et eb er = record {
    sizes = sizes_of;
    short = small;
    stop = f.stop;
    words = omega (arith, words_there);
    there = omega (arith, bytes_there n (omega arith));
    room = omega (arith, rows_there);
    wide = omega (arith, f.inputs);
    flags = flags_there;
    ruled = subst (λ (fs : List ℕ). Ruled fs c.pairs) (sym (flags_are c.m n c.arikan c.map c.pairs f.size_is)) f.accepts.ruled;
  }

  pub bits_fit : (count bytes : ℕ) → count ≤ l → r.bytes ≤ bytes → BitsFit c.m l p n h count r.inputs r.words bytes
  bits_fit count bytes few e = record {
    least = f.accepts.low;
    most = f.accepts.high;
    size_is = f.size_is;
    list = f.list;
    few = few;
    stop = f.stop;
    near = sizes_of.near;
    history = omega (arith, bytes_there p f.stop);
    input_room = f.inputs;
    word_room = f.words;
  }
