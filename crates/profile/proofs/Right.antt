-- The verdict is the request's (`verdict_right`): it passes exactly where every sample of every ramp is in range, and names the first channel,
-- then level, where one is not. So of demand 3's samples none is held (`nothing_held`). Assumes nothing.
use Rattle.std.specs.Prelude.{Option, Some, None, Result, Ok, Err}
use mathlib.Core.Path.{◌≡◌, refl, sym, ap, fun_ext, ◌∙◌, subst}
use mathlib.Core.Bool.{Bool, true, false, cond}
use mathlib.Core.List.{List}
use Prim.Native.Nat.{ℕ, zero, suc, ◌+◌, ◌<◌}
use native.Mathlib.Omega.{arith}
use Rattle.sum.specs.declared.Edition.{Edition}
use Rattle.channel.specs.Ramp.{hold}
use Rattle.channel.specs.Signal.{overflows}
use Rattle.course.specs.Follows.{table_for, total_for, sum_for}
use Rattle.profile.specs.declared.Break.{Break}
use Rattle.profile.specs.Profile.{keeps, break_of, first_from, level_verdict, channel_verdict, verdict_of}
use Rattle.profile.specs.Laws.{InRange, AllInRange, FirstBreak, VerdictRight, OneVerdict, NothingHeld}
use Rattle.profile.proofs.Search.{each_in_lem, in_each, Named, all_pass, each_passes, first_named}
use Rattle.profile.proofs.Points.{by_points, broken, steps_most}

module _ (ed : Edition) (s : List ℕ) where
  -- ---- one ramp

  level_in : (c level : ℕ) → level_verdict ed s c level ≡ Ok tt → InRange ed s c level
  unfolding level_verdict keeps
  level_in c level e k h = in_each (sum_for ed s c level) (total_for s c level + 1) (go (keeps ed s c level) refl e) k (omega arith)
    where
      go : (x : Bool) → keeps ed s c level ≡ x → cond x (Ok (tt {0})) (Err (break_of ed s c level)) ≡ Ok tt → keeps ed s c level ≡ true
      go true q u = q
      go false q u = let z : ◌≡◌ {A = ℕ} 0 1 = cc in absurd (omega arith)

  in_level : (c level : ℕ) → InRange ed s c level → level_verdict ed s c level ≡ Ok tt
  unfolding level_verdict keeps
  in_level c level h = rw (each_in_lem (sum_for ed s c level) (total_for s c level + 1) (λ k g. h k (omega arith)))

  -- ---- a channel, and all four

  channel_in : (c : ℕ) → channel_verdict ed s c ≡ Ok tt → (level : ℕ) → level < 32 → InRange ed s c level
  unfolding channel_verdict
  channel_in c e level h = level_in c level (each_passes (level_verdict ed s c) 0 32 e level (omega arith) (omega arith))

  all_in : verdict_of ed s ≡ Ok tt → AllInRange ed s
  unfolding verdict_of
  all_in e c level h g = channel_in c (each_passes (channel_verdict ed s) 0 4 e c (omega arith) (omega arith)) level g

  in_all : AllInRange ed s → verdict_of ed s ≡ Ok tt
  unfolding verdict_of channel_verdict
  in_all h = all_pass (channel_verdict ed s) 0 4 (λ c l g. all_pass (level_verdict ed s c) 0 32 (λ level m f. in_level c level (h c level (omega arith) (omega arith))))

  -- ---- the first that breaks

  first_level : (b : Break) (x : Named (channel_verdict ed s) 0 4 b) → Named (level_verdict ed s x.place) 0 32 b → FirstBreak ed s b
  first_level b x y =
      let c = x.place in
      let level = y.place in
      let r = broken ed s c level b y.names in
      subst (FirstBreak ed s) (sym r.is) (record {
        channel = omega (arith, x.below);
        level = omega (arith, y.below);
        channels = λ d v l g. channel_in d (x.earlier d (omega arith) l) v g;
        levels = λ v l. level_in c v (y.earlier v (omega arith) l);
        table = refl;
        point = r.point;
        sample = steps_most s (table_for s c level) b.point r.point;
        out = r.out;
        points = r.earlier;
      })

  first_break : (b : Break) → verdict_of ed s ≡ Err b → FirstBreak ed s b
  unfolding verdict_of channel_verdict
  first_break b e = let x = first_named (channel_verdict ed s) 0 4 b e in first_level b x (first_named (level_verdict ed s x.place) 0 32 b x.names)

  -- THE VERDICT IS THE REQUEST'S
  pub verdict_right : VerdictRight ed s
  verdict_right = record { passes = all_in; passes_only = in_all; breaks = first_break }

-- ---- one verdict for both editions

level_same : (ed ed' : Edition) (s : List ℕ) (c level : ℕ) → level_verdict ed s c level ≡ level_verdict ed' s c level
level_same ed ed' s c level = by_points ed s c level ∙ sym (by_points ed' s c level)

channel_same : (ed ed' : Edition) (s : List ℕ) (c : ℕ) → channel_verdict ed s c ≡ channel_verdict ed' s c
unfolding channel_verdict
channel_same ed ed' s c = ap (λ (f : ℕ → Result Unit Break). first_from f 0 32) (fun_ext (λ level. level_same ed ed' s c level))

-- POINTS DECIDE, AND THERE THE EDITIONS AGREE
pub one_verdict : OneVerdict
unfolding OneVerdict verdict_of
one_verdict ed ed' s = ap (λ (f : ℕ → Result Unit Break). first_from f 0 4) (fun_ext (λ c. channel_same ed ed' s c))

-- ---- nothing is held

own_word : (u : Option ℕ) (before : ℕ) → overflows u ≡ false → u ≡ Some (hold u before)
own_word (Some v) before e = refl
own_word None before e = let z : ◌≡◌ {A = ℕ} 0 1 = cc in absurd (omega arith)

pub nothing_held : NothingHeld
unfolding NothingHeld
nothing_held ed s c level h before zero l = own_word (sum_for ed s c level 0) before (h 0 l)
nothing_held ed s c level h before (suc k) l = own_word (sum_for ed s c level (suc k)) _ (h (suc k) l)
