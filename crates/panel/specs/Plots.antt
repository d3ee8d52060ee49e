-- 'A plotted point gives volts together with microseconds since the start'.
use Rattle.std.specs.Prelude.{Bool, true, not, ◌&&◌, cond, List, ℕ, zero, suc, ◌≤◌, ltb, pos, Option, Some, None}
use Rattle.std.specs.Float.{binary64}
use Rattle.std.specs.Float.Ieee.{of_int}
use Rattle.word.specs.Word.{signed_of, lasting}
use Rattle.word.specs.Table.{value_at, step_at, is_end, steps_before}
use Rattle.map.specs.Addresses.{table_at}
use Rattle.panel.specs.Shown.{volts_of, Times}
use Rattle.panel.specs.declared.Plotted.{Plotted}

-- no point before n ends the ramp
unfoldable pub reached : List ℕ → ℕ → ℕ → Bool
reached words first zero = true
reached words first (suc n) = reached words first n && not (is_end n (step_at words first n))

-- the microseconds from the start to point n
abbrev pub since : List ℕ → ℕ → ℕ → ℕ
since words first n = lasting (steps_before words first n)

-- 'a point past its table's end .. shows nothing'
unfoldable pub plot_from : List ℕ → ℕ → ℕ → Option Plotted
plot_from words first n =
    cond (reached words first n)
    (Some (record { volts = volts_of (value_at words first n); micros = of_int binary64 (pos (since words first n)) }))
    None

-- 'or a channel, table or point that isn't there'
unfoldable pub plot_of : List ℕ → ℕ → ℕ → ℕ → Option Plotted
plot_of words c r n = cond (ltb c 4 && (ltb r 16 && ltb n 64)) (plot_from words (table_at c r) n) None

-- a point's volts and microseconds are exact, and the latter are at most 41,287,050
abbrev pub PointExact : List ℕ → ℕ → ℕ → Option Plotted → Type 0
PointExact words first n (Some p) =
    Times p.volts 32768 (signed_of (value_at words first n)) 10 × Times p.micros 1 (pos (since words first n)) 1 × (since words first n ≤ 41287050)
PointExact words first n None = Unit

abbrev pub PlotExact : List ℕ → ℕ → ℕ → ℕ → Option Plotted → Type 0
PlotExact words c r n p = PointExact words (table_at c r) n p
