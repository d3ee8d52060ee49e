-- 'Events and levels': the trigger map among the words by address.
use Rattle.std.specs.Prelude.{◌≡◌, Bool, not, ◌&&◌, cond, List, ℕ, zero, suc, ◌+◌, ◌/◌, ◌<◌, eqb, get_or, set, Option, Some, None}

-- 'level L, slot s is 0x4000 + 8L + s': slot n of the 256 is word 0x4000 + n, and its level is n / 8
abbrev pub slot_of : List ℕ → ℕ → ℕ
slot_of words n = get_or words (0x4000 + n) 0

abbrev pub level_of : ℕ → ℕ
level_of n = n / 8

-- slot n, of another level than `but`, holds the event
abbrev pub holds : List ℕ → ℕ → ℕ → ℕ → Bool
holds words event but n = not (eqb (level_of n) but) && eqb (slot_of words n) event

-- the level of the first such slot, of k slots from slot n on
unfoldable pub holder_from : List ℕ → ℕ → ℕ → ℕ → ℕ → Option ℕ
holder_from words event but zero n = None
holder_from words event but (suc k) n = cond (holds words event but n) (Some (level_of n)) (holder_from words event but k (suc n))

-- the level that holds an event; there is no level 32, so no slot is passed over
abbrev pub holder_of : List ℕ → ℕ → Option ℕ
holder_of words event = holder_from words event 32 256 0

-- a different level that holds it
abbrev pub other_of : List ℕ → ℕ → ℕ → Option ℕ
other_of words event level = holder_from words event level 256 0

abbrev pub InLevels : Option ℕ → Type 0
InLevels (Some l) = l < 32
InLevels None = Unit

-- 'image word of event e: 0x0080 + level if e is not 0xFE and some slot holds it, else 0'
abbrev pub image_at : Option ℕ → ℕ
image_at (Some l) = 0x80 + l
image_at None = 0

abbrev pub image_of : List ℕ → ℕ → ℕ
image_of words event = cond (eqb event 0xFE) 0 (image_at (holder_of words event))

-- the n words from `first` on all become w
unfoldable pub filled : ℕ → List ℕ → ℕ → ℕ → List ℕ
filled zero words first w = words
filled (suc n) words first w = set (filled n words first w) (first + n) w

-- '1 sets every slot to FE'
abbrev pub erased : List ℕ → List ℕ
erased words = filled 256 words 0x4000 0xFE

-- no event but 0xFE is held by slots of two levels
abbrev pub OneLevel : List ℕ → Type 0
OneLevel words = (m n : ℕ) → m < 256 → n < 256 → slot_of words m ≡ slot_of words n → (slot_of words m ≡ 0xFE → ⊥) → level_of m ≡ level_of n
