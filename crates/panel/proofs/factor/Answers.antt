-- `panel::factor`: the float is the factor, exactly.
use lib.Dec.{lit≤}
use lib.Ieee.{of_bits}
use Rattle.panel.proofs.Exact.{by_factor, factor_is, meets}
use Rattle.panel.proofs.factor.Goals as goal

pub returns : goal.returns
unfolding of_bits
returns c = rw c.from.ensures (meets by_factor 1 8 factor_is (lit≤ tt) (lit≤ tt) _ _ c.ranges.word.fits c.signed.ensures)
