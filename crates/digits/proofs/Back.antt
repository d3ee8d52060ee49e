-- Digits that were written are read back. Assumes nothing.
use mathlib.Core.Path.{◌≡◌, refl, sym, ap, ◌∙◌}
use mathlib.Core.Bool.{Bool, true, false, cond, ◌&&◌}
use mathlib.Core.List.{List, [], ◌∷◌, ◌++◌, append_assoc}
use Prim.Native.Nat.{ℕ, zero, suc, ◌+◌, ◌*◌, ◌/◌, ◌%◌, ◌<◌, ◌≤◌}
use native.Mathlib.Omega.{arith}
use lib.Dec.{ltb}
use lib.ListN.{length, get_or, take, length-append}
use lib.Seq.{get_or-append-add, take-suc, take-length}
use borrow.Author.Tests.{ltb-true, ltb-false}
use Rattle.word.specs.Every.{every}
use Rattle.digits.specs.Digits.{is_digit, value_of, all_digits, byte_at, word_at, words_from, digit_of, hex2, hex4, hex_all}
use Rattle.digits.proofs.Digits.{in_range, over, length_hex2, length_hex4, length_hex_all}

-- ---- one digit

digit_read : (n : ℕ) → n < 16 → (is_digit (digit_of n) ≡ true) × (value_of (digit_of n) ≡ n)
digit_read n h = go (ltb n 10) refl
  where
    go : (b : Bool) → ltb n 10 ≡ b → (is_digit (cond b (48 + n) (55 + n)) ≡ true) × (value_of (cond b (48 + n) (55 + n)) ≡ n)
    go true e =
        let l = ltb-true n 10 e in
        rw (in_range 48 57 (48 + n) (omega arith) (omega arith)) (refl, omega arith)
    go false e =
        let l = ltb-false n 10 e in
        rw (over 48 57 (55 + n) (omega arith) (omega arith), in_range 65 70 (55 + n) (omega arith) (omega arith)) (refl, omega arith)

-- ---- a byte and a word

pub hex2_read : (x : ℕ) (r : List ℕ) → x < 256 → byte_at (hex2 x ++ r) 0 ≡ x
unfolding byte_at hex2
hex2_read x r h = rw ((digit_read (x / 16 % 16) (omega arith)).1, (digit_read (x % 16) (omega arith)).1) (omega arith)

hex4_read : (w : ℕ) (r : List ℕ) → w < 65536 → word_at (hex4 w ++ r) 0 ≡ w
unfolding word_at byte_at hex4 hex2
hex4_read w r h =
    rw ((digit_read (w / 256 / 16 % 16) (omega arith)).1, (digit_read (w / 256 % 16) (omega arith)).1, (digit_read (w / 16 % 16) (omega arith)).1, (digit_read (w % 16) (omega arith)).1)
    (omega arith)

-- what stands behind other bytes
module _ (p q : List ℕ) where
  pub byte_behind : (i : ℕ) → byte_at (p ++ q) (length p + i) ≡ byte_at q i
  unfolding byte_at
  byte_behind i =
      let e : length p + i + 1 ≡ length p + (i + 1) = omega arith in
      rw (e, get_or-append-add p q i 0, get_or-append-add p q (i + 1) 0)

  word_behind : (i : ℕ) → word_at (p ++ q) (length p + i) ≡ word_at q i
  unfolding word_at
  word_behind i =
      let e : length p + i + 2 ≡ length p + (i + 2) = omega arith in
      rw (e, byte_behind i, byte_behind (i + 2))

-- ---- words one after the other

-- 'words have 16 bits'
abbrev pub Small : List ℕ → Type 0
Small [] = Unit
Small (w ∷ ws) = (w < 65536) × Small ws

word_read : (p ws : List ℕ) (i : ℕ) → Small ws → i < length ws → word_at (p ++ hex_all ws) (length p + 4 * i) ≡ get_or ws i 0
unfolding hex_all
word_read p [] i s h = absurd (omega arith)
word_read p (w ∷ ws) zero s h = word_behind p (hex4 w ++ hex_all ws) 0 ∙ hex4_read w (hex_all ws) s.0
word_read p (w ∷ ws) (suc i) s h =
    let e : length p + 4 * suc i ≡ length (p ++ hex4 w) + 4 * i = omega (arith, length-append p (hex4 w), length_hex4 w) in
    rw (e, ← append_assoc p (hex4 w) (hex_all ws)) (word_read (p ++ hex4 w) ws i s.1 (omega arith))

words_read : (p ws : List ℕ) (n : ℕ) → Small ws → n ≤ length ws → words_from (length p) n (p ++ hex_all ws) ≡ take n ws
unfolding words_from
words_read p ws zero s h = refl
words_read p ws (suc n) s h =
    ap (λ (l : List ℕ). l ++ word_at (p ++ hex_all ws) (length p + 4 * n) ∷ []) (words_read p ws n s (omega arith))
    ∙ ap (λ (w : ℕ). take n ws ++ w ∷ []) (word_read p ws n s h)
    ∙ sym (take-suc ws n 0 h)

-- ---- digits alone

every_append : (test : ℕ → Bool) (a b : List ℕ) → every test a ≡ true → every test b ≡ true → every test (a ++ b) ≡ true
unfolding every
every_append test [] b p q = q
every_append test (x ∷ a) b p q = go (test x) (every test a) p (λ e. every_append test a b e q)
  where
    go : (t u : Bool) → t && u ≡ true → (u ≡ true → every test (a ++ b) ≡ true) → t && every test (a ++ b) ≡ true
    go true u p r = r p
    go false u p r = p

hex2_digits : (x : ℕ) → all_digits (hex2 x) ≡ true
unfolding every hex2
hex2_digits x = rw ((digit_read (x / 16 % 16) (omega arith)).0, (digit_read (x % 16) (omega arith)).0)

hex4_digits : (x : ℕ) → all_digits (hex4 x) ≡ true
unfolding hex4
hex4_digits x = every_append is_digit (hex2 (x / 256)) (hex2 x) (hex2_digits (x / 256)) (hex2_digits x)

hex_all_digits : (ws : List ℕ) → all_digits (hex_all ws) ≡ true
unfolding hex_all every
hex_all_digits [] = refl
hex_all_digits (w ∷ ws) = every_append is_digit (hex4 w) (hex_all ws) (hex4_digits w) (hex_all_digits ws)

-- a name, a word, and words after it: the name and the words are read back, and all of it is digits
module _ (name first : ℕ) (ws : List ℕ) where
  pub text_digits : all_digits (hex2 name ++ (hex4 first ++ hex_all ws)) ≡ true
  text_digits = every_append is_digit _ _ (hex2_digits name) (every_append is_digit _ _ (hex4_digits first) (hex_all_digits ws))

  pub text_first : first < 65536 → word_at (hex2 name ++ (hex4 first ++ hex_all ws)) 2 ≡ first
  unfolding hex2
  text_first h = word_behind (hex2 name) (hex4 first ++ hex_all ws) 0 ∙ hex4_read first (hex_all ws) h

  pub text_length : length (hex2 name ++ (hex4 first ++ hex_all ws)) ≡ 6 + 4 * length ws
  text_length =
      length-append (hex2 name) _
      ∙ omega (arith, length_hex2 name, length-append (hex4 first) (hex_all ws), length_hex4 first, length_hex_all ws)

  pub text_words : Small ws → words_from 6 (length ws) (hex2 name ++ (hex4 first ++ hex_all ws)) ≡ ws
  unfolding hex2 hex4
  text_words s =
      rw (← append_assoc (hex2 name) (hex4 first) (hex_all ws))
      (words_read (hex2 name ++ hex4 first) ws (length ws) s (omega arith) ∙ take-length ws)
