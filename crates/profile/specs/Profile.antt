-- Document 02, Five: 'The lamp benches get a profile: no overflow of a ramp sum at any level.'
use Rattle.std.specs.Prelude.{Bool, true, not, ◌&&◌, cond, List, ℕ, zero, suc, ◌+◌, Option, Result, Ok, Err}
use Rattle.word.specs.Table.{steps_before}
use Rattle.sum.specs.declared.Edition.{Edition}
use Rattle.channel.specs.Signal.{overflows}
use Rattle.channel.specs.Channel.{loaded_for}
use Rattle.course.specs.Points.{end_point}
use Rattle.course.specs.Follows.{table_for, total_for, sum_for}
use Rattle.profile.specs.declared.Break.{Break}

-- ---- one ramp

-- 'has a sum in range': each of the n samples before sample n
unfoldable pub each_in : (ℕ → Option ℕ) → ℕ → Bool
each_in sums zero = true
each_in sums (suc n) = each_in sums n && not (overflows (sums n))

-- 'every sample of its ramp has a sum in range': T + 1 samples, 0 to T. 'Points beyond the ramp's end do not count'
unfoldable pub keeps : Edition → List ℕ → ℕ → ℕ → Bool
keeps edition s c level = each_in (sum_for edition s c level) (total_for s c level + 1)

-- ---- what is told of one that breaks this

-- the sum at point n: its sample's number is the sum of the time steps before it
abbrev pub point_sum : Edition → List ℕ → ℕ → ℕ → ℕ → Option ℕ
point_sum edition s c level n = sum_for edition s c level (steps_before s (table_for s c level) n)

-- the first point whose sum is out of range, sought from point n on, with f points after it
unfoldable pub first_out : (ℕ → Option ℕ) → ℕ → ℕ → ℕ
first_out sums zero n = n
first_out sums (suc f) n = cond (overflows (sums n)) n (first_out sums f (n + 1))

-- its channel and level, its table, and the first such point up to the ramp's end
abbrev pub break_of : Edition → List ℕ → ℕ → ℕ → Break
break_of edition s c level =
    record {
      channel = c;
      level = level;
      table = (loaded_for s c level).table;
      point = first_out (point_sum edition s c level) (end_point s (table_for s c level)) 0;
    }

-- ---- the check

-- the first verdict that names a ramp: this one, or else that
abbrev pub or_else : Result Unit Break → Result Unit Break → Result Unit Break
or_else (Ok tt) v = v
or_else (Err b) v = Err b

-- the first of n verdicts that does, counted from i
unfoldable pub first_from : (ℕ → Result Unit Break) → ℕ → ℕ → Result Unit Break
first_from f i zero = Ok tt
first_from f i (suc n) = or_else (f i) (first_from f (i + 1) n)

-- one ramp: it keeps the profile, or breaks it
unfoldable pub level_verdict : Edition → List ℕ → ℕ → ℕ → Result Unit Break
level_verdict edition s c level = cond (keeps edition s c level) (Ok tt) (Err (break_of edition s c level))

-- 'for every channel and level'; 'the first channel, then level, that breaks this'
unfoldable pub channel_verdict : Edition → List ℕ → ℕ → Result Unit Break
channel_verdict edition s c = first_from (level_verdict edition s c) 0 32

unfoldable pub verdict_of : Edition → List ℕ → Result Unit Break
verdict_of edition s = first_from (channel_verdict edition s) 0 4
