-- Document 02, Four: 'Marta wants a bench's settings as a file she can send to another. Write them as 01 frames of the line program'.
use Rattle.std.specs.Prelude.{◌≡◌, cond, List, [], ◌∷◌, ◌++◌, map, ℕ, zero, suc, ◌+◌, ◌-◌, ◌*◌, ◌/◌, min, ltb, length, get_or, Result, Ok, Err}
use Rattle.std.proofs.lemmas.List.Edits.{sets}
use Rattle.digits.specs.Digits.{hex2, hex4, hex_all}
use Rattle.map.specs.Map.{Row, regions}
use Rattle.map.specs.Settings.{is_setting, is_fixed}
use Rattle.saved.specs.declared.Span.{Span}
use Rattle.saved.specs.declared.Refusal.{Refusal}
use Rattle.saved.specs.declared.Refusal.TheVariants.{TooShort}

-- ---- what is saved

-- 'in address order': the regions that hold settings, 'never outputs, counters or triggers'. The words of a region are all of one kind, so
-- the first tells it, on channel 0 as on any
unfoldable pub holding : List Row → List Row
holding [] = []
holding (r ∷ rs) = cond (is_setting (r.meaning 0 0)) (r ∷ holding rs) (holding rs)

-- how many words a region has
abbrev pub size : Row → ℕ
size r = suc r.region.last - r.region.first

-- of its n words from offset o on, how many come before the first that isn't fixed; on every channel the same
unfoldable pub fixed_from : Row → ℕ → ℕ → ℕ
fixed_from r o zero = 0
fixed_from r o (suc n) = cond (is_fixed (r.meaning 0 o)) (suc (fixed_from r (suc o) n)) 0

abbrev pub fixed_in : Row → ℕ
fixed_in r = fixed_from r 0 (size r)

-- words one after the other: the first address, and how many
abbrev pub span : ℕ → ℕ → Span
span first count = record { first = first; count = count }

-- 'each region from its first word that isn't fixed'
abbrev pub span_of : Row → Span
span_of r = span (r.region.first + fixed_in r) (size r - fixed_in r)

unfoldable pub spans : List Span
spans = map span_of (holding regions)

-- ---- the frames

-- '64 words a frame (a region's last may be shorter)': frame j of a span, and how many it has
abbrev pub piece : Span → ℕ → Span
piece x j = span (x.first + 64 * j) (min 64 (x.count - 64 * j))

abbrev pub pieces : Span → ℕ
pieces x = (x.count + 63) / 64

-- n frames of a span, from frame j on
unfoldable pub cut : Span → ℕ → ℕ → List Span
cut x j zero = []
cut x j (suc n) = piece x j ∷ cut x (suc j) n

unfoldable pub frames_of : List Span → List Span
frames_of [] = []
frames_of (x ∷ xs) = cut x 0 (pieces x) ++ frames_of xs

unfoldable pub frames : List Span
frames = frames_of spans

-- ---- the lines

-- n words of the settings, from address a on
unfoldable pub words_at : List ℕ → ℕ → ℕ → List ℕ
words_at s a zero = []
words_at s a (suc n) = get_or s a 0 ∷ words_at s (suc a) n

-- '01, start, 0 to 64 words'
unfoldable pub frame_text : List ℕ → Span → List ℕ
frame_text s x = hex2 0x01 ++ (hex4 x.first ++ hex_all (words_at s x.first x.count))

-- 'LF after each'
abbrev pub line_text : List ℕ → Span → List ℕ
line_text s x = frame_text s x ++ 10 ∷ []

unfoldable pub text_of : List ℕ → List Span → List ℕ
text_of s [] = []
text_of s (x ∷ xs) = line_text s x ++ text_of s xs

-- a bench as lines
unfoldable pub saved_text : List ℕ → List ℕ
saved_text s = text_of s frames

-- ---- the call

-- the lent buffer after it, and its answer
pub record Kept : Type 0 where
  pub buffer : List ℕ
  pub answer : Result ℕ Refusal

abbrev pub kept : List ℕ → Result ℕ Refusal → Kept
kept o a = record { buffer = o; answer = a }

-- '10 exactly if the lent buffer is shorter than the lines need, and then it is unchanged; else bytes past the lines stay'
unfoldable pub save_of : List ℕ → List ℕ → Kept
save_of s o = cond (ltb (length o) (length (saved_text s))) (kept o (Err TooShort)) (kept (sets o 0 (saved_text s)) (Ok (length (saved_text s))))

-- the text x stands in the buffer from `at` on, and where it ends
abbrev pub Laid : List ℕ → ℕ → List ℕ → List ℕ → ℕ → Type 0
Laid x at before after to = (after ≡ sets before at x) × (to ≡ at + length x)

-- the same of a call: the buffer as it is lent and left
abbrev pub Lays : List ℕ → ℕ → List ℕ → List ℕ → ℕ → Type 0
Lays x at out out' to = Laid x at out out' to

-- the answer handed back, and the buffer left
abbrev pub Saves : Kept → Result ℕ Refusal → List ℕ → Type 0
Saves x r out = (r ≡ x.answer) × (out ≡ x.buffer)

-- document 02's number of each answer, and how many bytes were written
abbrev pub saved_number : Result ℕ Refusal → ℕ
saved_number (Ok n) = 0
saved_number (Err TooShort) = 10

abbrev pub bytes_of : Result ℕ Refusal → ℕ
bytes_of (Ok n) = n
bytes_of (Err TooShort) = 0
