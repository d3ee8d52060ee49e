-- Which words are settings, and which of them are fixed.
use Rattle.std.specs.Prelude.{Bool, true, false}
use Rattle.map.specs.declared.Register.{Register}
use Rattle.map.specs.declared.Register.TheVariants as R

-- the registers that hold a setting, fixed or not
abbrev pub is_setting : Register → Bool
is_setting (R.Setting s) = true
is_setting (R.Fixed s) = true
is_setting (R.Output c) = false
is_setting (R.Status c f) = false
is_setting (R.Overflow c) = false
is_setting (R.Slot l) = true
is_setting (R.Image e) = false
is_setting R.Erase = false
is_setting R.Manual = false
is_setting R.ActiveLevel = false
is_setting R.ActiveEvent = false
is_setting (R.Count l) = false
is_setting R.Unlisted = false

-- 'table 0 fixed', 'entry 0 fixed': no write alters it
abbrev pub is_fixed : Register → Bool
is_fixed (R.Setting s) = false
is_fixed (R.Fixed s) = true
is_fixed (R.Output c) = false
is_fixed (R.Status c f) = false
is_fixed (R.Overflow c) = false
is_fixed (R.Slot l) = false
is_fixed (R.Image e) = false
is_fixed R.Erase = false
is_fixed R.Manual = false
is_fixed R.ActiveLevel = false
is_fixed R.ActiveEvent = false
is_fixed (R.Count l) = false
is_fixed R.Unlisted = false
