-- The samples of a whole ramp in an edition, in order, and T, from its points alone.
use Rattle.std.specs.Prelude.{cond, List, [], ◌∷◌, ℕ, zero, suc, ◌+◌, eqb, Option}
use Rattle.sum.specs.Sample.{sample_of}
use Rattle.sum.specs.declared.Edition.{Edition}

-- V and Δt, two words
pub record Point : Type 0 where
  pub value : ℕ
  pub step : ℕ

-- m samples left down to 1, and then what follows
abbrev pub down_to : (ℕ → Option ℕ) → ℕ → List (Option ℕ) → List (Option ℕ)
down_to at zero rest = rest
down_to at (suc m) rest = at (suc m) ∷ down_to at m rest

-- at the end point: f is that V, the sample is given, and the ramp rests
abbrev pub ending : Edition → ℕ → ℕ → Point → List (Option ℕ)
ending edition scale offset p = sample_of edition scale p.value p.value 0 0 offset ∷ []

-- from the point p on, with the points after it: p ends the ramp if its Δt is 0, or if it is the last
abbrev pub ramp_from : Edition → ℕ → ℕ → Point → List Point → List (Option ℕ)
ramp_from edition scale offset p [] = ending edition scale offset p
ramp_from edition scale offset p (q ∷ ps) =
    cond (eqb p.step 0)
    (ending edition scale offset p)
    (down_to (λ m. sample_of edition scale p.value q.value p.step m offset) p.step (ramp_from edition scale offset q ps))

abbrev pub ramp : Edition → ℕ → ℕ → List Point → List (Option ℕ)
ramp edition scale offset [] = []
ramp edition scale offset (p ∷ ps) = ramp_from edition scale offset p ps

-- T, the sum of the time steps before the end point
abbrev pub steps_from : Point → List Point → ℕ
steps_from p [] = 0
steps_from p (q ∷ ps) = cond (eqb p.step 0) 0 (p.step + steps_from q ps)

abbrev pub ramp_steps : List Point → ℕ
ramp_steps [] = 0
ramp_steps (p ∷ ps) = steps_from p ps
