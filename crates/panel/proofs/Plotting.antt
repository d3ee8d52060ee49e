-- Point by point: what is reached, and the time it takes. Assumes nothing.
use Rattle.std.specs.Prelude.{Some, None}
use mathlib.Core.Path.{◌≡◌, refl, subst}
use mathlib.Core.Bool.{Bool, true, false, not, ◌&&◌}
use mathlib.Core.List.{List}
use mathlib.Core.Logic.{◌⊎◌, inl, inr}
use Prim.Native.Nat.{ℕ, zero, suc, ◌+◌, ◌<◌}
use native.Mathlib.Nat.{not-suc-le-zero, le_of_suc-le-suc, eq-or-lt_of_le}
use native.Mathlib.Numerals.{add-one}
use native.Mathlib.Omega.{arith}
use lib.IntN.{pos}
use lib.Ieee.{binary64, of_int}
use Rattle.word.specs.Word.{lasting}
use Rattle.word.specs.Table.{value_at, step_at, is_end, steps_before}
use Rattle.panel.specs.Shown.{volts_of}
use Rattle.panel.specs.Plots.{reached, since, plot_from}

module _ (words : List ℕ) (first : ℕ) where
  -- one point on
  pub reached_on : (n : ℕ) → reached words first n ≡ true → is_end n (step_at words first n) ≡ false → reached words first (n + 1) ≡ true
  unfolding reached
  reached_on n h e = rw (add-one, h, e)

  pub since_on : (n : ℕ) → since words first (n + 1) ≡ since words first n + lasting (step_at words first n)
  unfolding steps_before
  since_on n = rw add-one (omega arith)

  -- an end point ends the ramp for every later one
  pub ended : (k n : ℕ) → k < n → is_end k (step_at words first k) ≡ true → reached words first n ≡ false
  unfolding reached
  ended k zero h e = absurd (not-suc-le-zero h)
  ended k (suc n) h e = go (eq-or-lt_of_le (le_of_suc-le-suc h)) (λ l. ended k n l e)
    where
      and_no : (b : Bool) → b && false ≡ false
      and_no true = refl
      and_no false = refl

      go : (k ≡ n) ⊎ (k < n) → (k < n → reached words first n ≡ false) → reached words first n && not (is_end n (step_at words first n)) ≡ false
      go (inl p) f = rw (subst (λ (m : ℕ). is_end m (step_at words first m) ≡ true) p e) (and_no (reached words first n))
      go (inr l) f = rw (f l)

  -- the two answers
  pub no_more : (n : ℕ) → reached words first n ≡ false → None ≡ plot_from words first n
  unfolding plot_from
  no_more n e = rw e

  pub there : (n : ℕ) → reached words first n ≡ true
      → Some (record { volts = volts_of (value_at words first n); micros = of_int binary64 (pos (since words first n)) }) ≡ plot_from words first n
  unfolding plot_from
  there n e = rw e
