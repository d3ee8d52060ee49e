-- The verdict in the request's words: 'passes a bench exactly when, for every channel and level, every sample of its ramp has a sum in
-- range. Otherwise it names the first channel, then level, that breaks this.'
use Rattle.std.specs.Prelude.{◌≡◌, true, false, List, ℕ, ◌≤◌, ◌<◌, Some, Ok, Err}
use Rattle.word.specs.Table.{steps_before}
use Rattle.sum.specs.declared.Edition.{Edition}
use Rattle.channel.specs.Signal.{overflows}
use Rattle.channel.specs.Channel.{loaded_for}
use Rattle.course.specs.Points.{end_point}
use Rattle.course.specs.Follows.{table_for, total_for, sum_for}
use Rattle.course.specs.Outputs.{latest}
use Rattle.profile.specs.declared.Break.{Break}
use Rattle.profile.specs.Profile.{point_sum, verdict_of}

-- 'every sample of its ramp has a sum in range', for channel c and a level
abbrev pub InRange : Edition → List ℕ → ℕ → ℕ → Type 0
InRange edition s c level = (k : ℕ) → k ≤ total_for s c level → overflows (sum_for edition s c level k) ≡ false

-- 'for every channel and level'
abbrev pub AllInRange : Edition → List ℕ → Type 0
AllInRange edition s = (c level : ℕ) → c < 4 → level < 32 → InRange edition s c level

-- the first channel, then level, that breaks this; and in its table the first point
pub record FirstBreak (edition : Edition) (s : List ℕ) (b : Break) : Type 0 where
  pub channel : b.channel < 4
  pub level : b.level < 32
  pub channels : (c level : ℕ) → c < b.channel → level < 32 → InRange edition s c level
  pub levels : (level : ℕ) → level < b.level → InRange edition s b.channel level
  pub table : b.table ≡ (loaded_for s b.channel b.level).table
  -- a point up to the ramp's end, whose sample is one of the T + 1, and out of range
  pub point : b.point ≤ end_point s (table_for s b.channel b.level)
  pub sample : steps_before s (table_for s b.channel b.level) b.point ≤ total_for s b.channel b.level
  pub out : overflows (point_sum edition s b.channel b.level b.point) ≡ true
  pub points : (n : ℕ) → n < b.point → overflows (point_sum edition s b.channel b.level n) ≡ false

-- of any settings, in an edition
pub record VerdictRight (edition : Edition) (s : List ℕ) : Type 0 where
  pub passes : verdict_of edition s ≡ Ok tt → AllInRange edition s
  pub passes_only : AllInRange edition s → verdict_of edition s ≡ Ok tt
  pub breaks : (b : Break) → verdict_of edition s ≡ Err b → FirstBreak edition s b

-- Document 02, Six: 'Five holds in both', and with one verdict
unfoldable pub OneVerdict : Type 0
OneVerdict = (edition other : Edition) (s : List ℕ) → verdict_of edition s ≡ verdict_of other s

-- so of demand 3's 'rounded sum .. or, where that overflows, the output held just before' the second never comes: after sample k the amplitude,
-- and in plain mode the output, is that sample's own sum, whatever stood there before the start
unfoldable pub NothingHeld : Type 0
NothingHeld =
    (edition : Edition) (s : List ℕ) (c level : ℕ) → InRange edition s c level → (before k : ℕ) → k ≤ total_for s c level
    → sum_for edition s c level k ≡ Some (latest (sum_for edition s c level) before k)
