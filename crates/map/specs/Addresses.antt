-- 'The map of words': a channel's words by name. Base is the channel's, levels are 0 to 31, tables 0 to 15.
use Rattle.std.specs.Prelude.{◌≡◌, ℕ, ◌+◌, ◌*◌}
use Rattle.map.specs.declared.Setting.TheVariants as S
use Rattle.map.specs.declared.Register.TheVariants as R
use Rattle.map.specs.Map.{base, register_of}

-- the first word of table r
abbrev pub table_at : ℕ → ℕ → ℕ
table_at c r = base c + 128 * r

abbrev pub ramp_map_at : ℕ → ℕ → ℕ
ramp_map_at c level = base c + 0x800 + level

abbrev pub scale_map_at : ℕ → ℕ → ℕ
scale_map_at c level = base c + 0x840 + level

abbrev pub scale_at : ℕ → ℕ → ℕ
scale_at c entry = base c + 0x860 + entry

abbrev pub offset_map_at : ℕ → ℕ → ℕ
offset_map_at c level = base c + 0x880 + level

abbrev pub offset_at : ℕ → ℕ → ℕ
offset_at c entry = base c + 0x8A0 + entry

abbrev pub delay_at : ℕ → ℕ → ℕ
delay_at c level = base c + 0x8E0 + level

abbrev pub frequency_map_at : ℕ → ℕ → ℕ
frequency_map_at c level = base c + 0x900 + level

abbrev pub frequency_at : ℕ → ℕ → ℕ
frequency_at c entry = base c + 0x920 + entry

abbrev pub phase_map_at : ℕ → ℕ → ℕ
phase_map_at c level = base c + 0x940 + level

abbrev pub phase_at : ℕ → ℕ → ℕ
phase_at c entry = base c + 0x960 + entry

abbrev pub enable_at : ℕ → ℕ
enable_at c = base c + 0xA00

abbrev pub mode_at : ℕ → ℕ
mode_at c = base c + 0xA01

-- 'Channel 2, table 5, point 7, Δt is 0x228F'; 'level 3, slot 2 is 0x401A'
pub record Worked : Type 0 where
  pub step : table_at 2 5 + 2 * 7 + 1 ≡ 0x228F
  pub is : register_of 0x228F ≡ R.Setting S.Step
  pub slot : register_of (0x4000 + 8 * 3 + 2) ≡ R.Slot 3
  pub at : ◌≡◌ {A = ℕ} (0x4000 + 8 * 3 + 2) 0x401A
