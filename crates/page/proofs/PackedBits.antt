-- The operator's page says nothing of packed bits. No code is in scope: the theorem is over the definition of the page.
use Rattle.std.specs.Prelude.{◌≡◌, List, ℕ}
use Rattle.std.proofs.Common.{ap}
use Rattle.page.specs.Page.{page_of, page}
use Rattle.page.specs.PackedBits.{PackedBitsDiffer, same_shift}

-- ---- NON-INTERFERENCE. Two inputs whose records differ only in packed bits have the same page, refusals included.
pub page_sees_no_bits : (s s' : List ℕ) → PackedBitsDiffer s s' → page s ≡ page s'
unfolding page
page_sees_no_bits s s' d = ap page_of (same_shift 1000 s s' d)
