-- The worked addresses of the paper, by computation. Assumes nothing.
use mathlib.Core.Path.{refl}
use Rattle.map.specs.Map.{scan, channel_rows, card_rows, block, regions}
use Rattle.map.specs.Addresses.{Worked}

pub worked : Worked
unfolding scan channel_rows card_rows block regions
worked = record { step = refl; is = refl; slot = refl; at = refl }
