-- Digits read and written, and runs of stores. Assumes nothing.
use mathlib.Core.Path.{◌≡◌, ◌∙◌, ap, sym, refl}
use mathlib.Core.Bool.{Bool, true, false}
use mathlib.Core.List.{List, [], ◌∷◌, ◌++◌, append-nil, append_assoc}
use Prim.Native.Nat.{ℕ, zero, suc, ◌+◌, ◌*◌, ◌≤◌, ◌<◌, min}
use native.Mathlib.Numerals.{add-one}
use native.Mathlib.Omega.{arith}
use borrow.Author.Tests.{ltb-true, ltb-false, le-leb, lt-leb}
use lib.Dec.{ltb}
use lib.ListN.{length, set, get_or, take, drop, length-append, length-set, get_or-eq_default}
use lib.Seq.{set_out, sets, sets-eq, take-suc, take_all, take_at, length-take-le}
use Rattle.digits.specs.Digits.{inside, byte_at, word_at, words_from, hex2, hex4, hex_all}

-- ---- a byte among the digits

pub in_range : (lo hi b : ℕ) → lo ≤ b → b ≤ hi → inside lo hi b ≡ true
in_range lo hi b p q = rw (le-leb lo b p, le-leb b hi q)

pub under : (lo hi b : ℕ) → b < lo → inside lo hi b ≡ false
under lo hi b p = rw (lt-leb lo b p)

pub over : (lo hi b : ℕ) → lo ≤ b → hi < b → inside lo hi b ≡ false
over lo hi b p q = rw (le-leb lo b p, lt-leb b hi q)

-- ---- runs of stores

pub sets_append : (l : List ℕ) (i : ℕ) (a b : List ℕ) → sets l i (a ++ b) ≡ sets (sets l i a) (i + length a) b
sets_append l i [] b = ap (λ (k : ℕ). sets l k b) (omega arith)
sets_append l i (x ∷ a) b = sets_append (set l i x) (suc i) a b ∙ ap (λ (k : ℕ). sets (sets (set l i x) (suc i) a) k b) (omega arith)

-- one piece after another
pub then_at : (o : List ℕ) (at : ℕ) (a b : List ℕ) {o₁ o₂ : List ℕ} {to : ℕ} → o₁ ≡ sets o at a → o₂ ≡ sets o₁ to b → to ≡ at + length a → o₂ ≡ sets o at (a ++ b)
then_at o at a b {o₁} {o₂} {to} p q e =
    q ∙ ap (λ (l : List ℕ). sets l to b) p ∙ ap (λ (n : ℕ). sets (sets o at a) n b) e ∙ sym (sets_append o at a b)

-- what a run of stores from 0 leaves at the front
pub take_sets : (d a : List ℕ) (n : ℕ) → length a ≡ n → n ≤ length d → take n (sets d 0 a) ≡ a
take_sets d a n e h =
    let b : 0 + length a ≤ length d = omega arith in
    ap (take n) (sets-eq a d 0 b) ∙ take_at a (drop (0 + length a) d) n e

-- past the end nothing is stored, and zeros are read
pub sets_past : (l : List ℕ) (i : ℕ) (a : List ℕ) → length l ≤ i → l ≡ sets l i a
sets_past l i [] h = refl
sets_past l i (x ∷ a) h = sym (set_out l i x h) ∙ sets_past (set l i x) (suc i) a (omega (arith, length-set l i x))

pub byte_past : (s : List ℕ) (i : ℕ) → length s ≤ i → 0 ≡ byte_at s i
unfolding byte_at
byte_past s i h =
    let a : get_or s i 0 ≡ 0 = get_or-eq_default s 0 {n = i} h in
    let b : get_or s (i + 1) 0 ≡ 0 = get_or-eq_default s 0 {n = i + 1} (omega arith) in
    rw (a, b)

pub word_past : (s : List ℕ) (i : ℕ) → length s ≤ i → 0 ≡ word_at s i
unfolding word_at
word_past s i h = rw (← byte_past s i h, ← byte_past s (i + 2) (omega arith))

-- beyond the end there is nothing to take
pub take_min : (n : ℕ) (l : List ℕ) → take (min n (length l)) l ≡ take n l
take_min n l = go _ refl
  where
    go : (q : Bool) → ltb n (length l) ≡ q → take (min n (length l)) l ≡ take n l
    go true e = let h : n < length l = ltb-true _ _ e in let m : min n (length l) ≡ n = omega arith in ap (λ (k : ℕ). take k l) m
    go false e =
        let h : length l ≤ n = ltb-false _ _ e in
        let m : min n (length l) ≡ length l = omega arith in
        let z : length l ≤ length l = omega arith in
        ap (λ (k : ℕ). take k l) m ∙ take_all (length l) l z ∙ sym (take_all n l h)

-- ---- words read

pub length_words : (at n : ℕ) (s : List ℕ) → length (words_from at n s) ≡ n
unfolding words_from
length_words at zero s = refl
length_words at (suc n) s = length-append (words_from at n s) _ ∙ omega (arith, length_words at n s)

-- a turn of the loop that reads them
pub words_more : (d s : List ℕ) (at i : ℕ) → set (sets d 0 (words_from at i s)) i (word_at s (at + 4 * i)) ≡ sets d 0 (words_from at (i + 1) s)
unfolding words_from
words_more d s at i =
    ap (λ (k : ℕ). set (sets d 0 (words_from at i s)) k (word_at s (at + 4 * i))) (omega (arith, length_words at i s))
    ∙ sym (sets_append d 0 (words_from at i s) (word_at s (at + 4 * i) ∷ []))
    ∙ ap (λ (k : ℕ). sets d 0 (words_from at k s)) (sym (add-one i))

-- ---- digits written

pub length_hex2 : (x : ℕ) → length (hex2 x) ≡ 2
unfolding hex2
length_hex2 x = refl

pub length_hex4 : (x : ℕ) → length (hex4 x) ≡ 4
unfolding hex2 hex4
length_hex4 x = refl

pub length_hex_all : (a : List ℕ) → length (hex_all a) ≡ 4 * length a
unfolding hex_all
length_hex_all [] = refl
length_hex_all (w ∷ a) = length-append (hex4 w) (hex_all a) ∙ omega (arith, length_hex4 w, length_hex_all a)

hex_all_append : (a b : List ℕ) → hex_all (a ++ b) ≡ hex_all a ++ hex_all b
unfolding hex_all
hex_all_append [] b = refl
hex_all_append (w ∷ a) b = ap (λ (l : List ℕ). hex4 w ++ l) (hex_all_append a b) ∙ sym (append_assoc (hex4 w) (hex_all a) (hex_all b))

hex_all_one : (w : ℕ) → hex_all (w ∷ []) ≡ hex4 w
unfolding hex_all
hex_all_one w = append-nil (hex4 w)

-- one word more, behind the n that are written
pub hex_all_next : (o : List ℕ) (at : ℕ) (ws : List ℕ) (n w : ℕ) → length ws ≡ n → sets (sets o at (hex_all ws)) (at + 4 * n) (hex4 w) ≡ sets o at (hex_all (ws ++ w ∷ []))
hex_all_next o at ws n w e =
    ap (λ (k : ℕ). sets (sets o at (hex_all ws)) k (hex4 w)) (omega (arith, length_hex_all ws))
    ∙ sym (sets_append o at (hex_all ws) (hex4 w))
    ∙ ap (λ (l : List ℕ). sets o at (hex_all ws ++ l)) (sym (hex_all_one w))
    ∙ ap (λ (l : List ℕ). sets o at l) (sym (hex_all_append ws (w ∷ [])))

-- a turn of the loop that writes words
pub hex_all_more : (o : List ℕ) (at : ℕ) (ws : List ℕ) (i : ℕ) → i < length ws
    → sets (sets o at (hex_all (take i ws))) (at + 4 * i) (hex4 (get_or ws i 0)) ≡ sets o at (hex_all (take (i + 1) ws))
hex_all_more o at ws i h =
    hex_all_next o at (take i ws) i (get_or ws i 0) (length-take-le i ws (omega arith))
    ∙ ap (λ (l : List ℕ). sets o at (hex_all l)) (sym (take-suc ws i 0 h))
    ∙ ap (λ (k : ℕ). sets o at (hex_all (take k ws))) (sym (add-one i))
