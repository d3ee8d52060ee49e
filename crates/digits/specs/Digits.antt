-- 'Hexadecimal (0-9, A-F)': numbers read from digits and written as digits.
use Rattle.std.specs.Prelude.{Bool, ◌&&◌, ◌||◌, cond, List, [], ◌∷◌, ◌++◌, ℕ, zero, suc, ◌+◌, ◌*◌, ◌-◌, ◌/◌, ◌%◌, leb, ltb, get_or}
use Rattle.word.specs.Every.{every}

-- ---- digits read

-- a byte from lo to hi
abbrev pub inside : ℕ → ℕ → ℕ → Bool
inside lo hi b = leb lo b && leb b hi

-- a digit: 0 to 9 are the bytes 48 to 57, A to F the bytes 65 to 70
abbrev pub is_digit : ℕ → Bool
is_digit b = inside 48 57 b || inside 65 70 b

-- its value
abbrev pub value_of : ℕ → ℕ
value_of b = cond (inside 48 57 b) (b - 48) (cond (inside 65 70 b) (b - 55) 0)

-- a line of digits alone
abbrev pub all_digits : List ℕ → Bool
all_digits s = every is_digit s

-- the numbers that the two digits, and the four digits, from place i on are
unfoldable pub byte_at : List ℕ → ℕ → ℕ
byte_at s i = value_of (get_or s i 0) * 16 + value_of (get_or s (i + 1) 0)

unfoldable pub word_at : List ℕ → ℕ → ℕ
word_at s i = byte_at s i * 256 + byte_at s (i + 2)

-- n words of four digits, one after the other from place `at` on
unfoldable pub words_from : ℕ → ℕ → List ℕ → List ℕ
words_from at zero s = []
words_from at (suc n) s = words_from at n s ++ word_at s (at + 4 * n) ∷ []

-- ---- digits written

-- the digit of a number below 16
abbrev pub digit_of : ℕ → ℕ
digit_of n = cond (ltb n 10) (48 + n) (55 + n)

-- '2 digits'
unfoldable pub hex2 : ℕ → List ℕ
hex2 x = digit_of (x / 16 % 16) ∷ digit_of (x % 16) ∷ []

-- '4 digits'
unfoldable pub hex4 : ℕ → List ℕ
hex4 x = hex2 (x / 256) ++ hex2 x

-- the digits of words, one after the other
unfoldable pub hex_all : List ℕ → List ℕ
hex_all [] = []
hex_all (w ∷ ws) = hex4 w ++ hex_all ws
