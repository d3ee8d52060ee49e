-- Equations allow one outcome, and so do their pairs, what is asked beside them, and one for each case. Assumes nothing.
use mathlib.Core.Path.{◌≡◌, sym, ap, ◌∙◌}
use Rattle.promises.specs.Outcomes.{OneOutcome}

pair : (A B : Type 0) (x y : A × B) → x.0 ≡ y.0 → x.1 ≡ y.1 → x ≡ y
pair A B x y e f = ap (λ (a : A). (a, x.1)) e ∙ ap (λ (b : B). (y.0, b)) f

-- A PROMISE OF THESE SHAPES ALLOWS ONE OUTCOME
pub one_outcome : OneOutcome
one_outcome =
    record {
      equation = λ A d x y p q. p ∙ sym q;
      both = λ A B P Q f g x y p q. pair A B x y (f x.0 y.0 p.0 q.0) (g x.1 y.1 p.1 q.1);
      fact = λ A P Q f x y p q. f x y p.0 q.0;
      each = λ A B d b x y p q. p b ∙ sym (q b);
    }
