-- 'Addresses and words have 16 bits': a word as a signed number, as a counter, as a time.
use Rattle.std.specs.Prelude.{ℕ, suc, ◌+◌, ◌-◌, ◌*◌, ◌%◌, cond, ℤ, pos, negsuc, ◌-ℤ◌, nat_lt}

-- a word from 0x8000 up stands for the number 65,536 below it
unfoldable pub signed_of : ℕ → ℤ
signed_of w = cond (nat_lt w 0x8000) (pos w) (pos w -ℤ pos 0x10000)

-- the word that stands for a number from −32768 to 32767; negsuc n is −(n + 1)
abbrev pub word_of : ℤ → ℕ
word_of (pos n) = n
word_of (negsuc n) = 0x10000 - suc n

-- a counter grows by 1, and 65,535 goes round to 0
abbrev pub grown : ℕ → ℕ
grown count = (count + 1) % 65536

-- the microseconds between two samples
abbrev pub period : ℕ
period = 10

-- the microseconds that n samples last
abbrev pub lasting : ℕ → ℕ
lasting n = period * n
