-- Document 02, Two: the sine of an amplitude, from a counter of 16 bits and the wave tables, 1,024 words a channel.
use Rattle.std.specs.Prelude.{Bool, cond, List, ℕ, ◌+◌, ◌*◌, ◌-◌, ◌/◌, ◌%◌, eqb, ℤ, neg_ℤ, get_or, Option}
use Rattle.word.specs.Word.{signed_of}
use Rattle.sum.specs.Product.{product_of}

-- 'one of 1,024 words of the channel's wave table'
abbrev pub entries : ℕ
entries = 1024

-- 'bits 13..4 pick' it
abbrev pub index : ℕ → ℕ
index counter = counter / 16 % entries

-- 'bit 14 reads it backwards (1023 minus the index)'
abbrev pub backwards : ℕ → Bool
backwards counter = eqb (counter / 0x4000 % 2) 1

abbrev pub entry : ℕ → ℕ
entry counter = cond (backwards counter) (entries - 1 - index counter) (index counter)

-- where channel c's wave table begins among the four
abbrev pub wave_of : ℕ → ℕ
wave_of c = entries * c

-- the word there, signed
abbrev pub wave_at : List ℕ → ℕ → ℕ → ℤ
wave_at waves c i = signed_of (get_or waves (wave_of c + i) 0)

-- 'bit 15 negates the word'
abbrev pub negates : ℕ → Bool
negates counter = eqb (counter / 0x8000 % 2) 1

unfoldable pub wave_word : List ℕ → ℕ → ℕ → ℤ
wave_word waves c counter = cond (negates counter) (neg_ℤ (wave_at waves c (entry counter))) (wave_at waves c (entry counter))

-- 'the output is floor(amplitude × word / 16384)'
abbrev pub sine_of : List ℕ → ℕ → ℕ → ℕ → Option ℕ
sine_of waves c counter amplitude = product_of amplitude (wave_word waves c counter)
