-- Document 02, Two: 'the output is floor(amplitude × word / 16384)'.
use Rattle.std.specs.Prelude.{ℕ, ℤ, ◌*ℤ◌, Option}
use Rattle.word.specs.Word.{signed_of}
use Rattle.sum.specs.Floor.{floor}
use Rattle.sum.specs.Sample.{settled}

-- 16384 stands for 1
abbrev pub one : ℕ
one = 16384

-- the amplitude is a word, the wave's word a number
abbrev pub scaled_by : ℕ → ℤ → ℤ
scaled_by amplitude x = floor (signed_of amplitude *ℤ x) one

-- 'amplitude −32768 times word −16384 doesn't fit'
abbrev pub product_of : ℕ → ℤ → Option ℕ
product_of amplitude x = settled (scaled_by amplitude x)
