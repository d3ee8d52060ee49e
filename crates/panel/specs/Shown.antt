-- 'What a word shows on the panel'.
use Rattle.std.specs.Prelude.{true, false, ℕ, suc, ◌*◌, ℤ, pos, negsuc, Float}
use Rattle.std.specs.Float.{binary64}
use Rattle.std.specs.Float.Ieee.{round}
use Rattle.std.specs.Float.Ieee.Exact.{HasValue}
use Rattle.word.specs.Word.{signed_of}
use Rattle.map.specs.declared.Setting.{Setting}
use Rattle.map.specs.declared.Setting.TheVariants as S
use Rattle.map.specs.declared.Field.{Field}
use Rattle.map.specs.declared.Field.TheVariants as F
use Rattle.map.specs.declared.Register.{Register}
use Rattle.map.specs.declared.Register.TheVariants as R
use Rattle.map.specs.Map.{register_of}
use Rattle.panel.specs.declared.Reading.{Reading}
use Rattle.panel.specs.declared.Reading.TheVariants.{Volts, Factor, Micros, Samples, Plain, Nothing}

-- the f64 nearest to z·k/d; negsuc n is −(n + 1)
unfoldable pub ratio : ℤ → ℕ → ℕ → Float
ratio (pos n) k d = round binary64 false (n * k) d
ratio (negsuc n) k d = round binary64 true (suc n * k) d

-- volts: signed word × 10 / 32768
abbrev pub volts_of : ℕ → Float
volts_of w = ratio (signed_of w) 10 32768

-- scale words: signed word / 256
abbrev pub factor_of : ℕ → Float
factor_of w = ratio (signed_of w) 1 256

-- 'exact: shown volts × 32768 is ten times the word': the float is finite, has z's sign, and times d is z·k
abbrev pub Times : Float → ℕ → ℤ → ℕ → Type 0
Times x d (pos n) k = HasValue x false (n * k) d
Times x d (negsuc n) k = HasValue x true (suc n * k) d

-- table V and offset words show volts, scale words factors, delays microseconds, Δt samples, other words a plain number
abbrev pub shown_setting : Setting → ℕ → Reading
shown_setting S.Value w = Volts (volts_of w)
shown_setting S.Step w = Samples (record { 0 = w })
shown_setting S.RampMap w = Plain w
shown_setting S.ScaleMap w = Plain w
shown_setting S.Scale w = Factor (factor_of w)
shown_setting S.OffsetMap w = Plain w
shown_setting S.Offset w = Volts (volts_of w)
shown_setting S.Delay w = Micros (record { 0 = w })
shown_setting S.FrequencyMap w = Plain w
shown_setting S.Frequency w = Plain w
shown_setting S.PhaseMap w = Plain w
shown_setting S.Phase w = Plain w
shown_setting S.WaveformEnable w = Plain w
shown_setting S.WaveformMode w = Plain w
shown_setting S.ClockEnable w = Plain w

-- the loaded offset shows volts too, and the loaded scale factor is a scale word
abbrev pub shown_status : Field → ℕ → Reading
shown_status F.Table w = Plain w
shown_status F.Scale w = Factor (factor_of w)
shown_status F.Offset w = Volts (volts_of w)
shown_status F.Segment w = Plain w
shown_status F.Left w = Plain w

-- the output shows volts; an unlisted address shows nothing
abbrev pub shown : Register → ℕ → Reading
shown (R.Setting s) w = shown_setting s w
shown (R.Fixed s) w = shown_setting s w
shown (R.Output c) w = Volts (volts_of w)
shown (R.Status c f) w = shown_status f w
shown (R.Overflow c) w = Plain w
shown (R.Slot l) w = Plain w
shown (R.Image e) w = Plain w
shown R.Erase w = Plain w
shown R.Manual w = Plain w
shown R.ActiveLevel w = Plain w
shown R.ActiveEvent w = Plain w
shown (R.Count l) w = Plain w
shown R.Unlisted w = Nothing

-- 'what is shown depends on its address alone and the word'
abbrev pub reading_of : ℕ → ℕ → Reading
reading_of a w = shown (register_of a) w
