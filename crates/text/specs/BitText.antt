-- Bits as text.
use Rattle.std.specs.Prelude.{◌≡◌, List, map, ℕ, zero, suc, length}
use Rattle.std.proofs.lemmas.List.{length-map}

-- `0` where the byte is 0, `1` otherwise
abbrev pub bit_byte : ℕ → ℕ
bit_byte zero = 48
bit_byte (suc b) = 49

unfoldable pub bit_text : List ℕ → List ℕ
bit_text = map bit_byte

pub length_bits : (w : List ℕ) → length (bit_text w) ≡ length w
unfolding bit_text
length_bits w = length-map w bit_byte
