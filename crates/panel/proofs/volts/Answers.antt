-- `panel::volts`: the float is the volts, exactly.
use lib.Dec.{lit≤}
use lib.Ieee.{of_bits}
use Rattle.panel.proofs.Exact.{by_volts, volts_is, meets}
use Rattle.panel.proofs.volts.Goals as goal

pub returns : goal.returns
unfolding of_bits
returns c = rw c.from.ensures (meets by_volts 10 15 volts_is (lit≤ tt) (lit≤ tt) _ _ c.ranges.word.fits c.signed.ensures)
