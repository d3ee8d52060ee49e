-- 'One tick, one microsecond': a ramp on its way through its table, whose first word is at `first` of the lent words. What a ramp moves
-- is its amplitude; what becomes of it is in `specs/Signal`.
use Rattle.std.specs.Prelude.{ℕ, ◌+◌, ◌-◌, ◌/◌, ◌%◌, Bool, false, cond, ◌&&◌, List, ◌==◌, nat_lt, Option, Some, None}
use Rattle.word.specs.Word.{grown}
use Rattle.word.specs.Table.{value_at, step_at, is_end}
use Rattle.sum.specs.declared.Edition.{Edition}
use Rattle.sum.specs.Sample.{sample_of}
use Rattle.channel.specs.declared.Place.{Place}
use Rattle.channel.specs.declared.Shown.{Shown}
use Rattle.channel.specs.declared.Way.{Way}
use Rattle.channel.specs.declared.Loaded.{Loaded}
use Rattle.channel.specs.declared.Moved.{Moved}
use Rattle.channel.specs.declared.Ramp.{Ramp}
use Rattle.channel.specs.declared.Ramp.TheVariants.{Still, Going, Free}
use Rattle.channel.specs.declared.Gave.TheVariants.{NoSample, OfRamp, OfFreeRun}

-- a sample's place: segment n, m samples left
abbrev pub place : ℕ → ℕ → Place
place n m = record { segment = n; left = record { 0 = m } }

-- the place of point n; at the end point no samples are left: 'A34 is then 0 and A33 the point's number'
unfoldable pub enter : List ℕ → ℕ → ℕ → Place
enter w first n = place n (cond (is_end n (step_at w first n)) 0 (step_at w first n))

-- the samples left go from Δt down to 1: 'next after m = 1 comes point n+1'
unfoldable pub next : List ℕ → ℕ → Place → Place
next w first p = cond (nat_lt 1 p.left.0) (place p.segment (p.left.0 - 1)) (enter w first (grown p.segment))

-- 'in segment n with m samples left', rounded as the card's edition has it; at the end point f is that V
unfoldable pub sample_at : Edition → List ℕ → ℕ → Loaded → Place → Option ℕ
sample_at edition w first l p =
    cond (p.left.0 == 0)
    (sample_of edition l.scale (value_at w first p.segment) (value_at w first p.segment) 0 0 l.offset)
    (sample_of edition l.scale (value_at w first p.segment) (value_at w first (p.segment + 1)) (step_at w first p.segment) p.left.0 l.offset)

-- a sum in range, or where it overflows what was held just before
abbrev pub hold : Option ℕ → ℕ → ℕ
hold (Some v) before = v
hold None before = before

-- 'the ramp's sample becomes an amplitude', 'an amplitude overflow keeps the previous amplitude'; 'A33 and A34 show the last sample's n and m'
abbrev pub put : Option ℕ → Place → Shown → Shown
put x p s = record { amplitude = hold x s.amplitude; place = p }

abbrev pub give : Edition → List ℕ → ℕ → Loaded → Place → Shown → Shown
give edition w first l p s = put (sample_at edition w first l p) p s

-- a ramp on its way: the last sample's place, the microseconds to the next sample, and those from one sample to the next
abbrev pub way : Place → ℕ → ℕ → Way
way p wait period = record { place = p; wait = record { 0 = wait }; period = record { 0 = period } }

-- A01: 'bit 0 sine, bit 2 free run (without bit 0 it does nothing)'
abbrev pub is_sine : ℕ → Bool
is_sine mode = mode % 2 == 1

abbrev pub free_runs : ℕ → Bool
free_runs mode = is_sine mode && mode / 4 % 2 == 1

-- 'at the ramp's end the output holds, or under free run goes on every 10 ticks'
unfoldable pub ended : Loaded → ℕ → Place → Ramp
ended l period p = cond (free_runs l.tone.mode) (Free (way p period period)) Still

-- the sample at p is given: at the end point the ramp rests or free-runs, elsewhere the next sample comes a period later
abbrev pub onward : Loaded → ℕ → Place → Ramp
onward l period p = cond (p.left.0 == 0) (ended l period p) (Going (way p period period))

-- the ramp's first sample, or a later one
unfoldable pub given : Edition → Bool → List ℕ → ℕ → Loaded → ℕ → Place → Shown → Moved
given edition isFirst w first l period p s =
    record {
      ramp = onward l period p;
      shown = give edition w first l p s;
      gave = OfRamp isFirst (sample_at edition w first l p);
    }

-- no sample yet: a microsecond less to the next
abbrev pub sooner : Way → Way
sooner r = way r.place (r.wait.0 - 1) r.period.0

abbrev pub unsampled : Ramp → Shown → Moved
unsampled r s = record { ramp = r; shown = s; gave = NoSample }

-- one tick of a ramp; a free run moves neither the amplitude nor the place: 'A33 and A34 staying'
unfoldable pub advance : Edition → List ℕ → ℕ → Loaded → Ramp → Shown → Moved
advance edition w first l Still s = unsampled Still s
advance edition w first l (Going r) s =
    cond (nat_lt 1 r.wait.0) (unsampled (Going (sooner r)) s) (given edition false w first l r.period.0 (next w first r.place) s)
advance edition w first l (Free r) s =
    cond (nat_lt 1 r.wait.0)
    (unsampled (Free (sooner r)) s)
    (record { ramp = Free (way r.place r.period.0 r.period.0); shown = s; gave = OfFreeRun })
