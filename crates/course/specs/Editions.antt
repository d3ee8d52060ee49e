-- Document 02, Six, of a tick: the edition is seen in the sums alone, and 'wherever S is 0x0100' not even there.
use Rattle.std.specs.Prelude.{◌≡◌, List, ℕ}
use Rattle.sum.specs.declared.Edition.{Edition}
use Rattle.channel.specs.declared.Place.{Place}
use Rattle.channel.specs.declared.Loaded.{Loaded}
use Rattle.channel.specs.declared.Channel.{Channel}
use Rattle.channel.specs.Ramp.{sample_at}
use Rattle.channel.specs.Channel.{first_of, tick_of}

-- what was loaded, with its table at `first`, has the same sample in both editions at every place
abbrev pub SumsAlike : Edition → Edition → List ℕ → ℕ → Loaded → Type 0
SumsAlike edition other l first ld = (p : Place) → sample_at edition l first ld p ≡ sample_at other l first ld p

pub record SumsAlone : Type 0 where
  -- a channel whose sums are alike ticks alike, whatever it is doing
  pub tick : (edition other : Edition) (s w l : List ℕ) (c : ℕ) (ch : Channel) → SumsAlike edition other l (first_of c) ch.loaded
      → tick_of edition s w l c ch ≡ tick_of other s w l c ch
  -- so does one that has loaded a scale factor of 0x0100
  pub one : (edition other : Edition) (s w l : List ℕ) (c : ℕ) (ch : Channel) → ch.loaded.scale ≡ 0x0100 → tick_of edition s w l c ch ≡ tick_of other s w l c ch
