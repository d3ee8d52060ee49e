-- The accepted values, once the register is known.
use Rattle.std.specs.Prelude.{Bool, true, false, ◌&&◌, ℕ, ◌/◌, ◌%◌, leb, eqb}
use Rattle.map.specs.declared.Setting.{Setting}
use Rattle.map.specs.declared.Setting.TheVariants as S
use Rattle.map.specs.declared.Register.{Register}
use Rattle.map.specs.declared.Register.TheVariants as R

-- 'bit 0 sine, bit 2 free run .. others zero': 0, 1, 4 and 5
abbrev pub is_mode : ℕ → Bool
is_mode v = leb v 5 && eqb (v / 2 % 2) 0

abbrev pub allowed_setting : Setting → ℕ → Bool
allowed_setting S.Value v = true
allowed_setting S.Step v = true
allowed_setting S.RampMap v = leb v 15
allowed_setting S.ScaleMap v = leb v 31
allowed_setting S.Scale v = true
allowed_setting S.OffsetMap v = leb v 31
allowed_setting S.Offset v = true
allowed_setting S.Delay v = true
allowed_setting S.FrequencyMap v = leb v 31
allowed_setting S.Frequency v = true
allowed_setting S.PhaseMap v = leb v 31
allowed_setting S.Phase v = true
allowed_setting S.WaveformEnable v = leb v 1
allowed_setting S.WaveformMode v = is_mode v
allowed_setting S.ClockEnable v = leb v 1

-- a word that is only read accepts nothing
abbrev pub allowed : Register → ℕ → Bool
allowed (R.Setting s) v = allowed_setting s v
allowed (R.Fixed s) v = allowed_setting s v
allowed (R.Output c) v = true
allowed (R.Status c f) v = false
allowed (R.Overflow c) v = true
allowed (R.Slot l) v = leb v 0xFF
allowed (R.Image e) v = false
allowed R.Erase v = leb v 1
allowed R.Manual v = leb v 31
allowed R.ActiveLevel v = false
allowed R.ActiveEvent v = false
allowed (R.Count l) v = true
allowed R.Unlisted v = false
