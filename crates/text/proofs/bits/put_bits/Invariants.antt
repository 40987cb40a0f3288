use Rattle.std.proofs.Common.{◌≡◌, ◌+◌, drop}
use Rattle.text.specs.BitText.{bit_text}
use Rattle.place.specs.Put.{placed}
use Rattle.text.proofs.bits.put_bits.Given as goal

-- writing what is left completes the text
abbrev pub invariant-loop-i : goal.invariant-loop-i
invariant-loop-i l = placed l.at (bit_text l.bits) l.fn.out ≡ placed (l.at + l.i) (bit_text (drop l.i l.bits)) l.out
