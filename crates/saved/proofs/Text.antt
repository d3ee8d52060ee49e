-- The lines of frames: how long they are, and what a turn of each loop that writes them adds. Assumes nothing.
use mathlib.Core.Path.{◌≡◌, ◌∙◌, ap, sym, refl, subst}
use mathlib.Core.List.{List, [], ◌∷◌, ◌++◌, append-nil, append_assoc}
use mathlib.Core.Logic.{⊎_elim}
use Prim.Native.Nat.{ℕ, zero, suc, ◌+◌, ◌-◌, ◌*◌, ◌/◌, ◌%◌, ◌≤◌, ◌<◌, min}
use native.Mathlib.Numerals.{add-one}
use native.Mathlib.Nat.{le_of_suc-le-suc, not-suc-le-zero, eq-or-lt_of_le}
use native.Mathlib.Omega.{arith}
use lib.Dec.{eqb, eqb→eq}
use lib.ListN.{length, get_or, set, take, drop, length-append, take-append-drop}
use lib.Seq.{sets, take-suc, drop-cons}
use Rattle.word.proofs.Place.{at_place}
use Rattle.digits.specs.Digits.{digit_of, hex2, hex4, hex_all}
use Rattle.digits.proofs.Digits.{then_at, length_hex2, length_hex4, length_hex_all}
use Rattle.saved.specs.declared.Span.{Span}
use Rattle.saved.specs.Saved.{span, piece, pieces, cut, frames_of, words_at, frame_text, line_text, text_of, Laid}
use Rattle.saved.specs.Laws.{bytes_in}

-- ---- words

pub length_words_at : (s : List ℕ) (a n : ℕ) → length (words_at s a n) ≡ n
unfolding words_at
length_words_at s a zero = refl
length_words_at s a (suc n) = ap suc (length_words_at s (suc a) n)

-- they are those that a slice of the settings has
taken : (s : List ℕ) (a n : ℕ) → a + n ≤ length s → take n (drop a s) ≡ words_at s a n
unfolding words_at
taken s a zero h = refl
taken s a (suc n) h = ap (take (suc n)) (drop-cons s a 0 (omega arith)) ∙ ap (λ (l : List ℕ). get_or s a 0 ∷ l) (taken s (suc a) n (omega arith))

pub words_are : (s : List ℕ) (a n : ℕ) → a + n ≤ length s → take (a + n - a) (drop a s) ≡ words_at s a n
words_are s a n h = ap (λ (k : ℕ). take k (drop a s)) (omega arith) ∙ taken s a n h

-- the digits of the numbers below 16, as the code has them
abbrev table : List ℕ
table = 48 ∷ 49 ∷ 50 ∷ 51 ∷ 52 ∷ 53 ∷ 54 ∷ 55 ∷ 56 ∷ 57 ∷ 65 ∷ 66 ∷ 67 ∷ 68 ∷ 69 ∷ 70 ∷ []

looked_up : (n : ℕ) → n < 16 → get_or table n 0 ≡ digit_of n
looked_up n h = eqb→eq (get_or table n 0) (digit_of n) (at_place (λ k x. eqb x (digit_of k)) 0 table tt n h)

-- a word's four digits, looked up and stored one after the other
pub four_stores : (o : List ℕ) (p w : ℕ)
    → set (set (set (set o p (get_or table (w / 256 / 16 % 16) 0)) (p + 1) (get_or table (w / 256 % 16) 0)) (p + 2) (get_or table (w / 16 % 16) 0)) (p + 3) (get_or table (w % 16) 0) ≡ sets o p (hex4 w)
unfolding hex4 hex2
four_stores o p w =
    let e1 : p + 1 ≡ suc p = omega arith in
    let e2 : p + 2 ≡ suc (suc p) = omega arith in
    let e3 : p + 3 ≡ suc (suc (suc p)) = omega arith in
    rw (looked_up (w / 256 / 16 % 16) (omega arith), looked_up (w / 256 % 16) (omega arith), looked_up (w / 16 % 16) (omega arith), looked_up (w % 16) (omega arith), e1, e2, e3)

-- ---- lines

length_line : (s : List ℕ) (x : Span) → length (line_text s x) ≡ 7 + 4 * x.count
unfolding frame_text hex2 hex4
length_line s x =
    let e : length (hex_all (words_at s x.first x.count) ++ 10 ∷ []) ≡ 4 * x.count + 1 =
    length-append (hex_all (words_at s x.first x.count)) (10 ∷ []) ∙ omega (arith, length_hex_all (words_at s x.first x.count), length_words_at s x.first x.count) in
    omega arith

text_append : (s : List ℕ) (l m : List Span) → text_of s (l ++ m) ≡ text_of s l ++ text_of s m
unfolding text_of
text_append s [] m = refl
text_append s (x ∷ l) m = ap (λ (t : List ℕ). line_text s x ++ t) (text_append s l m) ∙ sym (append_assoc (line_text s x) (text_of s l) (text_of s m))

text_one : (s : List ℕ) (x : Span) → text_of s (x ∷ []) ≡ line_text s x
unfolding text_of
text_one s x = append-nil (line_text s x)

pub length_text : (s : List ℕ) (l : List Span) → length (text_of s l) ≡ bytes_in l
unfolding text_of
length_text s [] = refl
length_text s (x ∷ l) = length-append (line_text s x) (text_of s l) ∙ omega (arith, length_line s x, length_text s l)

bytes_append : (l m : List Span) → bytes_in (l ++ m) ≡ bytes_in l + bytes_in m
bytes_append [] m = omega arith
bytes_append (x ∷ l) m = omega (arith, bytes_append l m)

-- ---- the frames of a span, and of several

cut_suc : (x : Span) (j n : ℕ) → cut x j (suc n) ≡ cut x j n ++ piece x (j + n) ∷ []
unfolding cut
cut_suc x j zero = ap (λ (k : ℕ). piece x k ∷ []) (omega arith)
cut_suc x j (suc n) = ap (λ (l : List Span). piece x j ∷ l) (cut_suc x (suc j) n ∙ ap (λ (k : ℕ). cut x (suc j) n ++ piece x k ∷ []) (omega arith))

-- a turn of the loop that writes the frames of a span: frame j comes after the j before it
cut_more : (x : Span) (j : ℕ) → cut x 0 (j + 1) ≡ cut x 0 j ++ piece x j ∷ []
cut_more x j = ap (cut x 0) (add-one j) ∙ cut_suc x 0 j ∙ ap (λ (k : ℕ). cut x 0 j ++ piece x k ∷ []) (omega arith)

frames_append : (l m : List Span) → frames_of (l ++ m) ≡ frames_of l ++ frames_of m
unfolding frames_of
frames_append [] m = refl
frames_append (x ∷ l) m =
    ap (λ (t : List Span). cut x 0 (pieces x) ++ t) (frames_append l m) ∙ sym (append_assoc (cut x 0 (pieces x)) (frames_of l) (frames_of m))

frames_one : (x : Span) → frames_of (x ∷ []) ≡ cut x 0 (pieces x)
unfolding frames_of
frames_one x = append-nil (cut x 0 (pieces x))

-- ---- room: where there is room for all frames of a span, there is for frame j of them; and so for span k of several

pub frame_room : (x : Span) (j n : ℕ) → j < n → bytes_in (cut x 0 j) + (7 + 4 * min 64 (x.count - 64 * j)) ≤ bytes_in (cut x 0 n)
frame_room x j zero h = absurd (not-suc-le-zero h)
frame_room x j (suc n) h = ⊎_elim last (λ l. earlier (frame_room x j n l)) (eq-or-lt_of_le (le_of_suc-le-suc h))
  where
    more : bytes_in (cut x 0 (suc n)) ≡ bytes_in (cut x 0 n) + (7 + 4 * min 64 (x.count - 64 * n))
    more =
        let e : 0 + n ≡ n = omega arith in
        ap bytes_in (cut_suc x 0 n) ∙ bytes_append (cut x 0 n) (piece x (0 + n) ∷ []) ∙ rw e (omega arith)

    last : j ≡ n → bytes_in (cut x 0 j) + (7 + 4 * min 64 (x.count - 64 * j)) ≤ bytes_in (cut x 0 (suc n))
    last e = rw e (omega (arith, more))

    earlier : bytes_in (cut x 0 j) + (7 + 4 * min 64 (x.count - 64 * j)) ≤ bytes_in (cut x 0 n) → bytes_in (cut x 0 j) + (7 + 4 * min 64 (x.count - 64 * j)) ≤ bytes_in (cut x 0 (suc n))
    earlier l = omega (arith, more)

pub span_room : (l : List Span) (k : ℕ) (d : Span) → k < length l → bytes_in (frames_of (take k l)) + bytes_in (cut (get_or l k d) 0 (pieces (get_or l k d))) ≤ bytes_in (frames_of l)
span_room l k d h =
    let x : Span = get_or l k d in
    let e : frames_of l ≡ frames_of (take (suc k) l) ++ frames_of (drop (suc k) l) = ap frames_of (sym (take-append-drop (suc k) l)) ∙ frames_append (take (suc k) l) (drop (suc k) l) in
    let f : frames_of (take (suc k) l) ≡ frames_of (take k l) ++ cut x 0 (pieces x) =
    ap frames_of (take-suc l k d h) ∙ frames_append (take k l) (x ∷ []) ∙ ap (λ (m : List Span). frames_of (take k l) ++ m) (frames_one x) in
    omega (arith, ap bytes_in e, bytes_append (frames_of (take (suc k) l)) (frames_of (drop (suc k) l)), ap bytes_in f, bytes_append (frames_of (take k l)) (cut x 0 (pieces x)))

-- ---- texts in a buffer

-- one text after another
then_laid : (a b : List ℕ) (at : ℕ) (o : List ℕ) {o₁ o₂ : List ℕ} {e to : ℕ} → Laid a at o o₁ e → Laid b e o₁ o₂ to → Laid (a ++ b) at o o₂ to
then_laid a b at o p q = (then_at o at a b p.0 q.0 p.1, omega (arith, p.1, q.1, length-append a b))

-- frame j of a span after the j before it; none is longer than 263 bytes
module _ (s : List ℕ) (x : Span) (j n : ℕ) (m : n ≡ min 64 (x.count - 64 * j)) where
  pub frame_more : (at : ℕ) (o : List ℕ) {o₁ o₂ : List ℕ} {e to : ℕ}
      → Laid (text_of s (cut x 0 j)) at o o₁ e → Laid (line_text s (span (x.first + 64 * j) n)) e o₁ o₂ to → Laid (text_of s (cut x 0 (j + 1))) at o o₂ to
  frame_more at o {o₁} {o₂} {e} {to} p q =
      rw (cut_more x j, text_append s (cut x 0 j) (piece x j ∷ []), text_one s (piece x j))
      (then_laid (text_of s (cut x 0 j)) (line_text s (piece x j)) at o p (subst (λ (k : ℕ). Laid (line_text s (span (x.first + 64 * j) k)) e o₁ o₂ to) m q))

  pub frame_short : (at : ℕ) {e to : ℕ} → e ≤ at + 263 * j → to ≡ e + length (line_text s (span (x.first + 64 * j) n)) → to ≤ at + 263 * (j + 1)
  frame_short at h q = omega (arith, m, length_line s (span (x.first + 64 * j) n))

-- span k of several after the k before it
pub span_more : (s : List ℕ) (l : List Span) (k : ℕ) (d : Span) → k < length l → (x : Span) → x ≡ get_or l k d → (at : ℕ) (o : List ℕ) {o₁ o₂ : List ℕ} {e to : ℕ}
    → Laid (text_of s (frames_of (take k l))) at o o₁ e → Laid (text_of s (cut x 0 (pieces x))) e o₁ o₂ to → Laid (text_of s (frames_of (take (k + 1) l))) at o o₂ to
span_more s l k d h x m at o p q =
    rw (add-one k, take-suc l k d h, ← m, frames_append (take k l) (x ∷ []), frames_one x, text_append s (frames_of (take k l)) (cut x 0 (pieces x)))
    (then_laid (text_of s (frames_of (take k l))) (text_of s (cut x 0 (pieces x))) at o p q)

-- a frame: 01, the start, the words, LF
pub line_laid : (s : List ℕ) (first n at : ℕ) (o : List ℕ) {o₁ o₂ o₃ o₄ : List ℕ} → o₁ ≡ sets o at (hex2 1) → o₂ ≡ sets o₁ (at + 2) (hex4 first)
    → o₃ ≡ sets o₂ (at + 6) (hex_all (words_at s first n)) → o₄ ≡ set o₃ (at + 6 + 4 * n) 10 → Laid (line_text s (span first n)) at o o₄ (at + 6 + 4 * n + 1)
unfolding frame_text
line_laid s first n at o {o₁} p q r e =
    let w : List ℕ = hex_all (words_at s first n) in
    let m : length w ≡ 4 * n = length_hex_all (words_at s first n) ∙ ap (λ (k : ℕ). 4 * k) (length_words_at s first n) in
    let g : length (hex4 first ++ w) ≡ 4 + 4 * n = length-append (hex4 first) w ∙ omega (arith, length_hex4 first, m) in
    let f : length (hex2 1 ++ (hex4 first ++ w)) ≡ 6 + 4 * n = length-append (hex2 1) (hex4 first ++ w) ∙ omega (arith, length_hex2 1, g) in
    let b = then_at o₁ (at + 2) (hex4 first) w q r (omega (arith, length_hex4 first)) in
    let a = then_at o at (hex2 1) (hex4 first ++ w) p b (omega (arith, length_hex2 1)) in
    (then_at o at (hex2 1 ++ (hex4 first ++ w)) (10 ∷ []) a e (omega (arith, f)), omega (arith, length_line s (span first n)))
