-- A ramp reads its table's 128 words and no others: two tables with the same words give the same places and the same samples, as long as
-- a place lies before point 63 or is an end. Assumes nothing.
use Rattle.std.specs.Prelude.{Option}
use mathlib.Core.Path.{◌≡◌, refl}
use mathlib.Core.Bool.{Bool, true, false, cond}
use mathlib.Core.List.{List}
use Prim.Native.Nat.{ℕ, ◌+◌, ◌*◌, ◌≤◌, ◌<◌}
use native.Mathlib.Omega.{arith}
use native.Mathlib.Nat.{mod-eq_of_lt}
use lib.Dec.{eqb}
use borrow.Author.Tests.{eqb-false}
use Rattle.word.specs.Word.{grown}
use Rattle.word.specs.Table.{value_at, step_at}
use Rattle.sum.specs.declared.Edition.{Edition}
use Rattle.sum.specs.Sample.{sample_of}
use Rattle.channel.specs.declared.Place.{Place}
use Rattle.channel.specs.declared.Loaded.{Loaded}
use Rattle.channel.specs.declared.Shown.{Shown}
use Rattle.channel.specs.Ramp.{enter, next, sample_at, give}
use Rattle.course.specs.Points.{SameTable}

-- a place that a ramp comes to
pub record Placed (p : Place) : Type 0 where
  pub most : p.segment ≤ 63
  pub inner : 1 ≤ p.left.0 → p.segment < 63

pub grown_small : (n : ℕ) → n < 63 → grown n ≡ n + 1
grown_small n h = mod-eq_of_lt (omega arith)

-- the sum depends on its words alone
same_sum : (ed : Edition) (ld : Loaded) (m a b s a' b' s' : ℕ) → a ≡ a' → b ≡ b' → s ≡ s'
    → sample_of ed ld.scale a b s m ld.offset ≡ sample_of ed ld.scale a' b' s' m ld.offset
same_sum ed ld m a b s a' b' s' e f g = rw (e, f, g)

same_choice : (b : Bool) (x y x' y' : Option ℕ) → x ≡ x' → (b ≡ false → y ≡ y') → cond b x y ≡ cond b x' y'
same_choice true x y x' y' e f = e
same_choice false x y x' y' e f = f refl

module _ (l : List ℕ) (at : ℕ) (w : List ℕ) (first : ℕ) (h : SameTable l at w first) where
  same_value : (n : ℕ) → n ≤ 63 → value_at l at n ≡ value_at w first n
  same_value n g = h (2 * n) (omega arith)

  same_step : (n : ℕ) → n ≤ 63 → step_at l at n ≡ step_at w first n
  same_step n g =
      let e : at + 2 * n + 1 ≡ at + (2 * n + 1) = omega arith in
      let f : first + (2 * n + 1) ≡ first + 2 * n + 1 = omega arith in
      cc (h (2 * n + 1) (omega arith))

  pub same_enter : (n : ℕ) → n ≤ 63 → enter l at n ≡ enter w first n
  unfolding enter
  same_enter n g = rw (same_step n g)

  pub same_next : (p : Place) → p.segment < 63 → next l at p ≡ next w first p
  unfolding next
  same_next p g = rw (grown_small p.segment g, same_enter (p.segment + 1) (omega arith))

  pub same_sample : (ed : Edition) (ld : Loaded) (p : Place) → Placed p → sample_at ed l at ld p ≡ sample_at ed w first ld p
  unfolding sample_at
  same_sample ed ld p f =
      same_choice (eqb p.left.0 0) _ _ _ _
      (same_sum ed ld 0 _ _ 0 _ _ 0 (same_value p.segment f.most) (same_value p.segment f.most) refl)
      (λ e. let d = eqb-false p.left.0 0 e in
      let g : p.segment < 63 = f.inner (omega arith) in
      same_sum ed ld p.left.0 _ _ _ _ _ _ (same_value p.segment f.most) (same_value (p.segment + 1) (omega arith)) (same_step p.segment f.most))

  pub same_give : (ed : Edition) (ld : Loaded) (p : Place) (s : Shown) → Placed p → give ed l at ld p s ≡ give ed w first ld p s
  same_give ed ld p s f = rw (same_sample ed ld p f)
