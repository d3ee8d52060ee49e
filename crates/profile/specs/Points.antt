-- The code's way: points alone, up to the ramp's end, each with the sum of its own V, which is the same in both editions. That it finds what
-- the samples of either say is `by_points`.
use Rattle.std.specs.Prelude.{cond, List, ℕ, zero, suc, ◌+◌, Option, Some, None}
use Rattle.word.specs.Table.{value_at, step_at, is_end}
use Rattle.sum.specs.declared.Edition.TheVariants.{First}
use Rattle.sum.specs.Sample.{sample_of}
use Rattle.channel.specs.declared.Loaded.{Loaded}
use Rattle.channel.specs.Signal.{overflows}

-- point n of the table at `first`, with what a load takes beside it
abbrev pub own_sum : List ℕ → ℕ → Loaded → ℕ → Option ℕ
own_sum w first l n = sample_of First l.scale (value_at w first n) (value_at w first n) 0 0 l.offset

-- f points from point n on
unfoldable pub out_from : List ℕ → ℕ → Loaded → ℕ → ℕ → Option ℕ
out_from w first l zero n = None
out_from w first l (suc f) n =
    cond (overflows (own_sum w first l n)) (Some n) (cond (is_end n (step_at w first n)) None (out_from w first l f (n + 1)))
