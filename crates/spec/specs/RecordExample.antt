-- The sample record of 01, "The program's output", and what it says.
use Rattle.std.specs.Prelude.{◌≡◌, refl, false, List, [], ◌∷◌, ℕ, pos, negsuc}
use Rattle.spec.specs.RecordOf.{absent, present, unannounced, Content, record_of}

-- 01 02 02 03 05 00 FD FF 02 00 07 00
unfoldable pub sample : List ℕ
sample = 1 ∷ 2 ∷ 2 ∷ 3 ∷ 5 ∷ 0 ∷ 253 ∷ 255 ∷ 2 ∷ 0 ∷ 7 ∷ 0 ∷ []

-- list size 2, positions 0 and 1 frozen, soft values 5, -3, 2, 7; what is absent: stop position 4, frame 0, no pairs
unfoldable pub said : Content
said = record {
  m = 2;
  arikan = false;
  size = present 2;
  stop = absent;
  frame = absent;
  map = 3 ∷ [];
  pairs = unannounced;
  soft = pos 5 ∷ negsuc 2 ∷ pos 2 ∷ pos 7 ∷ [];
}

pub sample_built : record_of said ≡ sample
unfolding record_of said sample
sample_built = refl
