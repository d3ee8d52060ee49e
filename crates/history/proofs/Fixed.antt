-- The registers of the fixed words, of the scale factors, of the ramp map and of A01, each found in its row. Assumes nothing.
use mathlib.Core.Path.{◌≡◌, sym}
use mathlib.Core.Bool.{true}
use Prim.Native.Nat.{ℕ, ◌+◌, ◌-◌, ◌%◌, ◌≤◌, ◌<◌}
use native.Mathlib.Omega.{arith}
use borrow.Author.Tests.{lt-ltb}
use Rattle.map.specs.declared.Setting.{Setting}
use Rattle.map.specs.declared.Setting.TheVariants as S
use Rattle.map.specs.declared.Register.TheVariants as R
use Rattle.map.specs.Map.{channel_rows, base, settings, point, register_of, accepted_at}
use Rattle.map.specs.Settings.{is_fixed}
use Rattle.map.specs.Addresses.{table_at, ramp_map_at, scale_at, offset_at, mode_at}
use Rattle.map.proofs.Rows.{found}
use Rattle.map.proofs.Values.{free}
use Rattle.map.proofs.Blocks.{channel_ordered, channel_accepted}
use Rattle.history.proofs.Addresses.{channel_row}

-- a word before the first `n` of a row of settings is fixed
fixed_in_lem : (n : ℕ) (s : ℕ → Setting) (c o : ℕ) → o < n → is_fixed (settings n s c o) ≡ true
fixed_in_lem n s c o h = rw (lt-ltb o n h)

pub table0_fixed : (c i : ℕ) → c < 4 → i < 128 → is_fixed (register_of (table_at c 0 + i)) ≡ true
unfolding channel_rows
table0_fixed c i h l =
    let e : table_at c 0 + i ≡ base c + i = omega arith in
    rw (e, channel_row c i 0 h (omega arith) (omega arith) (omega arith) (omega arith)) (fixed_in_lem 128 point c (i - 0) (omega arith))

pub scale0_fixed : (c : ℕ) → c < 4 → is_fixed (register_of (scale_at c 0)) ≡ true
unfolding channel_rows
scale0_fixed c h =
    let e : scale_at c 0 ≡ base c + 0x860 = omega arith in
    rw (e, channel_row c 0x860 3 h (omega arith) (omega arith) (omega arith) (omega arith))

pub offset0_fixed : (c : ℕ) → c < 4 → is_fixed (register_of (offset_at c 0)) ≡ true
unfolding channel_rows
offset0_fixed c h =
    let e : offset_at c 0 ≡ base c + 0x8A0 = omega arith in
    rw (e, channel_row c 0x8A0 5 h (omega arith) (omega arith) (omega arith) (omega arith))

-- a scale factor accepts any word
pub scale_accepts : (c a v : ℕ) → c < 4 → scale_at c 0 ≤ a → a < scale_at c 0 + 32 → accepted_at a v ≡ true
unfolding channel_rows
scale_accepts c a v h f g =
    rw (channel_accepted a (omega arith) v, found 0 channel_rows channel_ordered 3 (a % 0x1000) (omega arith) (omega arith) (omega arith))

-- the ramp map's word for a level
pub ramp_map_register : (c level : ℕ) → c < 4 → level < 32 → register_of (ramp_map_at c level) ≡ R.Setting S.RampMap
unfolding channel_rows
ramp_map_register c level h l =
    let e : ramp_map_at c level ≡ base c + (0x800 + level) = omega arith in
    rw (e, channel_row c (0x800 + level) 1 h (omega arith) (omega arith) (omega arith) (omega arith)) (sym (free 0 (λ o. S.RampMap) c (0x800 + level - 0x800) (omega arith)))

pub mode_register : (c : ℕ) → c < 4 → register_of (mode_at c) ≡ R.Setting S.WaveformMode
unfolding channel_rows
mode_register c h = channel_row c 0xA01 12 h (omega arith) (omega arith) (omega arith) (omega arith)
