-- What the saved lines hold, in which order, and how long they are.
use Rattle.std.specs.Prelude.{◌≡◌, Bool, true, false, not, ◌&&◌, ◌||◌, List, [], ◌∷◌, ◌++◌, map, ℕ, ◌+◌, ◌*◌, leb, ltb, length}
use Rattle.map.specs.Map.{base, register_of}
use Rattle.map.specs.Settings.{is_setting, is_fixed}
use Rattle.saved.specs.declared.Span.{Span}
use Rattle.saved.specs.Saved.{span, spans, frames, saved_text}

-- ---- what they hold

-- an address lies among the words of a span, and of one of several
abbrev pub inside : Span → ℕ → Bool
inside x a = leb x.first a && ltb a (x.first + x.count)

abbrev pub within : List Span → ℕ → Bool
within [] a = false
within (x ∷ xs) a = inside x a || within xs a

-- THE LIST OF SETTINGS: the frames hold every setting that isn't fixed, and nothing else
unfoldable pub SavedAre : Type 0
SavedAre = (a : ℕ) → within frames a ≡ is_setting (register_of a) && not (is_fixed (register_of a))

-- the list written out. 'It covers tables, maps, factors, offsets, delays, sine regions, A01, A00': a channel's, counted from its base
abbrev pub of_channel : List Span
of_channel =
    -- tables
    span 0x080 1920
    -- ramp map, scale map and factors, offset map and offsets, delays
    ∷ span 0x800 32
    ∷ span 0x840 32
    ∷ span 0x861 31
    ∷ span 0x880 32
    ∷ span 0x8A1 31
    ∷ span 0x8E0 32
    -- frequency map and frequencies, phase map and phases
    ∷ span 0x900 32
    ∷ span 0x920 32
    ∷ span 0x940 32
    ∷ span 0x960 32
    -- A00, A01
    ∷ span 0xA00 1
    ∷ span 0xA01 1
    ∷ []

-- 'the trigger map and 0x4200'
abbrev pub of_card : List Span
of_card = span 0x4000 256 ∷ span 0x4200 1 ∷ []

-- channel c's
abbrev pub from : ℕ → List Span
from c = map (λ x. span (base c + x.first) x.count) of_channel

-- ---- the frames: which, in what order, how many, and how long

-- 'in address order': each frame begins past the words of the one before
abbrev pub ascending : ℕ → List Span → Bool
ascending p [] = true
ascending p (x ∷ xs) = leb p x.first && ascending (x.first + x.count) xs

-- how many bytes the lines of frames take: 01, the start, the words and LF
abbrev pub bytes_in : List Span → ℕ
bytes_in [] = 0
bytes_in (x ∷ xs) = 7 + 4 * x.count + bytes_in xs

pub record FramesAre : Type 0 where
  pub list : spans ≡ from 0 ++ (from 1 ++ (from 2 ++ (from 3 ++ of_card)))
  pub order : ascending 0 frames ≡ true
  pub lines : length frames ≡ 173
  pub bytes : bytes_in frames ≡ 38079
  -- whatever the settings are
  pub always : (s : List ℕ) → length (saved_text s) ≡ bytes_in frames
