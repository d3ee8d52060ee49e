-- What the sine does for every wave table: its range, how near it is to amplitude × word / 16384, and the symmetries of the quarter wave.
use Rattle.std.specs.Prelude.{◌≡◌, List, ℕ, ◌+◌, ◌-◌, ◌<◌, ℤ, pos, neg_ℤ, ◌*ℤ◌, ◌≤ℤ◌, None}
use Rattle.word.specs.Word.{signed_of}
use Rattle.sum.specs.declared.Side.TheVariants.{Within}
use Rattle.sum.specs.Floor.{IsFloor}
use Rattle.sum.specs.Sample.{side_of}
use Rattle.sum.specs.Product.{scaled_by, product_of}
use Rattle.wave.specs.Sine.{wave_at, wave_word}

-- a word of a wave table: 'each −16384 to 16384'
pub record InWave (x : ℤ) : Type 0 where
  pub least : neg_ℤ (pos 16384) ≤ℤ x
  pub most : x ≤ℤ pos 16384

-- the amplitude is a word of 16 bits, and x a word of a wave table, negated or not
pub record Sines (amplitude : ℕ) (x : ℤ) : Type 0 where
  -- within 1 of amplitude × word / 16384, from below
  pub near : IsFloor (signed_of amplitude *ℤ x) 16384 (scaled_by amplitude x)
  -- a word of 16 bits, but for −32768 × −16384
  pub within : ((signed_of amplitude ≡ neg_ℤ (pos 32768)) × (x ≡ neg_ℤ (pos 16384)) → ⊥) → side_of (scaled_by amplitude x) ≡ Within
  pub beyond : signed_of amplitude ≡ neg_ℤ (pos 32768) → x ≡ neg_ℤ (pos 16384) → product_of amplitude x ≡ None

unfoldable pub SinesRight : Type 0
SinesRight = (amplitude : ℕ) → amplitude < 65536 → (x : ℤ) → InWave x → Sines amplitude x

-- the four quarters, for any table: the second is the first backwards, the third and the fourth are the first two negated
pub record Quarters (waves : List ℕ) (c counter : ℕ) : Type 0 where
  pub mirrored : wave_word waves c (0x7FFF - counter) ≡ wave_word waves c counter
  pub negated : wave_word waves c (counter + 0x8000) ≡ neg_ℤ (wave_word waves c counter)

unfoldable pub QuartersRight : Type 0
QuartersRight = (waves : List ℕ) (c counter : ℕ) → counter < 0x8000 → Quarters waves c counter

-- a table whose words are in range gives words in range at every counter
unfoldable pub WordsInRange : Type 0
WordsInRange =
    (waves : List ℕ) (c : ℕ) → ((i : ℕ) → i < 1024 → InWave (wave_at waves c i)) → (counter : ℕ) → InWave (wave_word waves c counter)
