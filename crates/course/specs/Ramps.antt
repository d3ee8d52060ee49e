-- A table's ramp in order: its samples are the list that the checked examples are stated with.
use Rattle.std.specs.Prelude.{◌≡◌, List, [], ◌∷◌, ℕ, zero, suc, ◌+◌, ◌≤◌, length, get_or, Option, None}
use Rattle.word.specs.Table.{value_at, step_at}
use Rattle.sum.specs.declared.Edition.{Edition}
use Rattle.sum.specs.Ramp.{Point, ramp, ramp_steps}
use Rattle.channel.specs.declared.Loaded.{Loaded}
use Rattle.channel.specs.Ramp.{sample_at}
use Rattle.course.specs.Points.{total, place_of}

abbrev pub point_at : List ℕ → ℕ → ℕ → Point
point_at w first n = record { value = value_at w first n; step = step_at w first n }

-- the f points after point n
abbrev pub points_after : List ℕ → ℕ → ℕ → ℕ → List Point
points_after w first zero n = []
points_after w first (suc f) n = point_at w first (n + 1) ∷ points_after w first f (n + 1)

-- the 64 points of the table at `first`
unfoldable pub points_of : List ℕ → ℕ → List Point
points_of w first = point_at w first 0 ∷ points_after w first 63 0

-- the samples of its ramp, with what a load copied
abbrev pub samples_of : Edition → List ℕ → ℕ → Loaded → List (Option ℕ)
samples_of edition w first l = ramp edition l.scale l.offset (points_of w first)

pub record InOrder (edition : Edition) (w : List ℕ) (first : ℕ) (l : Loaded) : Type 0 where
  -- T is the sum of the time steps before the end point
  pub steps : ramp_steps (points_of w first) ≡ total w first
  -- there are T + 1 samples
  pub many : length (samples_of edition w first l) ≡ total w first + 1
  -- and sample k is the one at its place
  pub each : (k : ℕ) → k ≤ total w first → get_or (samples_of edition w first l) k None ≡ sample_at edition w first l (place_of w first k)
