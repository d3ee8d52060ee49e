-- The edition is seen in the sums alone (`sums_alone`): a tick asks for the sample at one place at most, and hands on what it is. Assumes nothing.
use mathlib.Core.Path.{◌≡◌, refl, sym, ap, ◌∙◌}
use mathlib.Core.Bool.{Bool, false}
use mathlib.Core.List.{List}
use Prim.Native.Nat.{ℕ}
use Rattle.word.specs.Word.{lasting}
use Rattle.sum.specs.declared.Edition.{Edition}
use Rattle.sum.specs.declared.Edition.TheVariants.{First, Second}
use Rattle.sum.specs.Sample.{sample_of, settled}
use Rattle.sum.proofs.Editions.{two_roundings}
use Rattle.channel.specs.declared.Place.{Place}
use Rattle.channel.specs.declared.Shown.{Shown}
use Rattle.channel.specs.declared.Loaded.{Loaded}
use Rattle.channel.specs.declared.Ramp.{Ramp}
use Rattle.channel.specs.declared.Ramp.TheVariants.{Going, Free}
use Rattle.channel.specs.declared.Phase.{Phase}
use Rattle.channel.specs.declared.Phase.TheVariants.{Rest, Counting, Running, FreeRunning}
use Rattle.channel.specs.declared.Channel.{Channel}
use Rattle.channel.specs.Ramp.{enter, next, sample_at, given, advance}
use Rattle.channel.specs.Channel.{first_of, sounded_side, start, count_to, move_at, tick_of, moved_on}
use Rattle.course.specs.Editions.{SumsAlike, SumsAlone}

module _ (ed ed' : Edition) (l : List ℕ) (first : ℕ) (ld : Loaded) (h : SumsAlike ed ed' l first ld) where
  given_alike : (isFirst : Bool) (period : ℕ) (p : Place) (s : Shown) → given ed isFirst l first ld period p s ≡ given ed' isFirst l first ld period p s
  unfolding given
  given_alike isFirst period p s = rw (h p)

  advance_alike : (r : Ramp) (s : Shown) → advance ed l first ld r s ≡ advance ed' l first ld r s
  unfolding advance
  advance_alike (Going r) s = rw (given_alike false r.period.0 (next l first r.place) s)
  advance_alike _ s = refl

module _ (ed ed' : Edition) (s l : List ℕ) (c : ℕ) (ch : Channel) (h : SumsAlike ed ed' l (first_of c) ch.loaded) where
  start_alike : start ed s l c ch ≡ start ed' s l c ch
  unfolding start
  start_alike = rw (given_alike ed ed' l (first_of c) ch.loaded h _ (lasting 1) (enter l (first_of c) 0) ch.shown)

  ramp_alike : (r : Ramp) → advance ed l (first_of c) ch.loaded r ch.shown ≡ advance ed' l (first_of c) ch.loaded r ch.shown
  ramp_alike r = advance_alike ed ed' l (first_of c) ch.loaded h r ch.shown

  move_alike : (p : Phase) → move_at ed p s l c ch ≡ move_at ed' p s l c ch
  unfolding move_at count_to
  move_alike Rest = refl
  move_alike (Counting n older) = rw (start_alike, ramp_alike older)
  move_alike (Running w) = ap (moved_on ch l) (ramp_alike (Going w))
  move_alike (FreeRunning w) = ap (moved_on ch l) (ramp_alike (Free w))

tick_alike : (ed ed' : Edition) (s w l : List ℕ) (c : ℕ) (ch : Channel) → SumsAlike ed ed' l (first_of c) ch.loaded → tick_of ed s w l c ch ≡ tick_of ed' s w l c ch
unfolding tick_of
tick_alike ed ed' s w l c ch h = ap (sounded_side w c) (move_alike ed ed' s l c ch h ch.phase)

-- ---- a scale factor of 0x0100

as_first : (ed : Edition) (from to step left offset : ℕ) → sample_of ed 0x0100 from to step left offset ≡ sample_of First 0x0100 from to step left offset
as_first First from to step left offset = refl
as_first Second from to step left offset = ap settled (sym (two_roundings.one from to step left offset))

one_first : (ed : Edition) (l : List ℕ) (first : ℕ) (ld : Loaded) → ld.scale ≡ 0x0100 → SumsAlike ed First l first ld
unfolding sample_at
one_first ed l first ld e p = rw (e, as_first ed _ _ 0 0 _, as_first ed _ _ _ _ _)

one_alike : (ed ed' : Edition) (l : List ℕ) (first : ℕ) (ld : Loaded) → ld.scale ≡ 0x0100 → SumsAlike ed ed' l first ld
one_alike ed ed' l first ld e p = one_first ed l first ld e p ∙ sym (one_first ed' l first ld e p)

-- THE EDITION IS SEEN IN THE SUMS ALONE
pub sums_alone : SumsAlone
sums_alone =
    record {
      tick = tick_alike;
      one = λ ed ed' s w l c ch e. tick_alike ed ed' s w l c ch (one_alike ed ed' l (first_of c) ch.loaded e);
    }
