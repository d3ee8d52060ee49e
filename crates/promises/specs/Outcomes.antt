-- 'Any two outcomes allowed by its promise are proved equal.' Every public promise is an equation of the answer, of the lent slices, or of
-- both, some with a further fact of the answer, and one an equation for each edition; `line` has those that are records of equations, and
-- proves them itself.
use Rattle.std.specs.Prelude.{◌≡◌}

-- a promise that allows one outcome
abbrev pub Determines : (A : Type 0) → (A → Type 0) → Type 0
Determines A P = (x y : A) → P x → P y → x ≡ y

-- the answer is what a definition says
abbrev pub Is : (A : Type 0) → A → A → Type 0
Is A d x = x ≡ d

-- a promise of one part of the outcome and one of another: the answer and a lent slice, a slice and another
abbrev pub Both : (A B : Type 0) → (A → Type 0) → (B → Type 0) → A × B → Type 0
Both A B P Q x = P x.0 × Q x.1

-- a promise with a further fact of the same outcome: an f64 that is exact, a level below 32
abbrev pub And : (A : Type 0) → (A → Type 0) → (A → Type 0) → A → Type 0
And A P Q x = P x × Q x

-- an equation for each of some cases: a verdict that is the same in every edition
abbrev pub ForEach : (A B : Type 0) → (B → A) → A → Type 0
ForEach A B d x = (b : B) → x ≡ d b

pub record OneOutcome : Type 1 where
  pub equation : (A : Type 0) (d : A) → Determines A (Is A d)
  pub both : (A B : Type 0) (P : A → Type 0) (Q : B → Type 0) → Determines A P → Determines B Q → Determines (A × B) (Both A B P Q)
  pub fact : (A : Type 0) (P Q : A → Type 0) → Determines A P → Determines A (And A P Q)
  pub each : (A B : Type 0) (d : B → A) → B → Determines A (ForEach A B d)
