-- The samples of a ramp, from its table alone: the end point, T, and where sample k stands. The table's first word is at `first`.
use Rattle.std.specs.Prelude.{◌≡◌, true, false, cond, List, ℕ, zero, suc, ◌+◌, ◌-◌, ◌≤◌, ◌<◌, ltb, get_or}
use Rattle.word.specs.Table.{step_at, is_end, steps_before}
use Rattle.channel.specs.declared.Place.{Place}
use Rattle.channel.specs.Ramp.{place}

-- the end point, sought from point n on, with f points after it
abbrev pub end_from : List ℕ → ℕ → ℕ → ℕ → ℕ
end_from w first zero n = n
end_from w first (suc f) n = cond (is_end n (step_at w first n)) n (end_from w first f (n + 1))

unfoldable pub end_point : List ℕ → ℕ → ℕ
end_point w first = end_from w first 63 0

-- T: 'the sum of its time steps before its end point'
unfoldable pub total : List ℕ → ℕ → ℕ
total w first = steps_before w first (end_point w first)

-- the place of sample k, counted and sought from point n on, with f points after it
abbrev pub place_from : List ℕ → ℕ → ℕ → ℕ → ℕ → Place
place_from w first zero n k = place n 0
place_from w first (suc f) n k =
    cond (is_end n (step_at w first n))
    (place n 0)
    (cond (ltb k (step_at w first n)) (place n (step_at w first n - k)) (place_from w first f (n + 1) (k - step_at w first n)))

unfoldable pub place_of : List ℕ → ℕ → ℕ → Place
place_of w first k = place_from w first 63 0 k

-- two tables have the same 128 words
abbrev pub SameTable : List ℕ → ℕ → List ℕ → ℕ → Type 0
SameTable l at w first = (i : ℕ) → i < 128 → get_or l (at + i) 0 ≡ get_or w (first + i) 0

-- ---- what these are, said of the points

-- point n is the end point: it ends the ramp, and no earlier one does
pub record EndPoint (w : List ℕ) (first n : ℕ) : Type 0 where
  pub here : is_end n (step_at w first n) ≡ true
  pub earlier : (i : ℕ) → i < n → is_end i (step_at w first i) ≡ false

-- sample k stands in a segment before the end point n, and the samples left there lead to the next point
pub record Within (w : List ℕ) (first n k : ℕ) (p : Place) : Type 0 where
  pub inside : p.segment < n
  pub some : 1 ≤ p.left.0
  pub few : p.left.0 ≤ step_at w first p.segment
  pub adds : k + p.left.0 ≡ steps_before w first (suc p.segment)

-- with n the end point: T, the places of the samples before the last, and the last one's
pub record Samples (w : List ℕ) (first n : ℕ) : Type 0 where
  pub all : total w first ≡ steps_before w first n
  pub within : (k : ℕ) → k < total w first → Within w first n k (place_of w first k)
  pub last : place_of w first (total w first) ≡ place n 0
