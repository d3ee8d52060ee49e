-- Points up to the ramp's end decide (`by_points`): each of them is a sample, and the sums between two go one way, so where both are in range
-- all between them are. Assumes nothing.
use Rattle.std.specs.Prelude.{Option, Some, None, is_some, Result, Ok, Err}
use mathlib.Core.Path.{◌≡◌, refl, ap, sym, ◌∙◌, subst}
use mathlib.Core.Bool.{Bool, true, false, cond}
use mathlib.Core.List.{List}
use Prim.Native.Nat.{ℕ, zero, suc, ◌+◌, ◌-◌, ◌≤◌, ◌<◌}
use native.Mathlib.Omega.{arith}
use lib.Dec.{ltb}
use lib.IntN.{ℤ}
use borrow.Author.Tests.{ltb-true, ltb-false, ne_eqb}
use Rattle.word.specs.Table.{value_at, step_at, is_end, steps_before}
use Rattle.map.specs.Addresses.{table_at}
use Rattle.sum.specs.declared.Edition.{Edition}
use Rattle.sum.specs.declared.Edition.TheVariants.{First}
use Rattle.sum.specs.declared.Side.{Side}
use Rattle.sum.specs.declared.Side.TheVariants.{Below, Within, Above}
use Rattle.sum.specs.Sample.{side_of, on_side, settled, total_of, sample_of}
use Rattle.sum.proofs.Samples.{point_sample, own_sample}
use Rattle.sum.proofs.Sides.{points_decide}
use Rattle.channel.specs.declared.Place.{Place}
use Rattle.channel.specs.declared.Loaded.{Loaded}
use Rattle.channel.specs.Ramp.{sample_at}
use Rattle.channel.specs.Signal.{overflows}
use Rattle.channel.specs.Channel.{loaded_for}
use Rattle.course.specs.Points.{end_point, total, place_of, EndPoint, Samples}
use Rattle.course.specs.Points as points
use Rattle.course.specs.Follows.{table_for}
use Rattle.course.proofs.Walk.{on, end_63}
use Rattle.course.proofs.Points.{the_end, steps_suc, at_end, not_end, samples}
use Rattle.profile.specs.declared.Break.{Break}
use Rattle.profile.specs.Profile.{keeps, point_sum, first_out, each_in, level_verdict}
use Rattle.profile.specs.Points.{own_sum, out_from}
use Rattle.profile.proofs.Search.{from_on, each_in_lem, in_each, first_out_lem}

-- ---- a sum in range

side_in : (t : Side) (z : ℤ) → overflows (on_side t z) ≡ false → t ≡ Within
side_in Within z e = refl
side_in Below z e = let n : ◌≡◌ {A = ℕ} 0 1 = cc in absurd (omega arith)
side_in Above z e = let n : ◌≡◌ {A = ℕ} 0 1 = cc in absurd (omega arith)

in_side : (z : ℤ) → side_of z ≡ Within → overflows (settled z) ≡ false
in_side z e = rw e

-- a sample between two points that are in range
between_in : (ed : Edition) (scale from to step left offset : ℕ) → 1 ≤ step → left ≤ step
    → overflows (sample_of ed scale from from 0 0 offset) ≡ false → overflows (sample_of ed scale to to 0 0 offset) ≡ false
    → overflows (sample_of ed scale from to step left offset) ≡ false
between_in ed scale from to step left offset h l a b =
    in_side (total_of ed scale from to step left offset)
    (points_decide ed scale from to step left offset h l (side_in _ (total_of ed scale from from 0 0 offset) a) (side_in _ (total_of ed scale to to 0 0 offset) b))

module _ (w : List ℕ) (first : ℕ) where
  -- ---- time steps before a point

  more_steps : (n d : ℕ) → steps_before w first n ≤ steps_before w first (d + n)
  more_steps n zero = let e : 0 + n ≡ n = omega arith in rw e (omega arith)
  more_steps n (suc d) = let e : suc d + n ≡ suc (d + n) = omega arith in rw e (omega (arith, more_steps n d, steps_suc w first (d + n)))

  steps_mono : (m n : ℕ) → m ≤ n → steps_before w first m ≤ steps_before w first n
  steps_mono m n h = let e : n - m + m ≡ n = omega arith in rw e at (more_steps m (n - m))

  abbrev e : ℕ
  e = end_point w first

  end : EndPoint w first e
  end = the_end w first

  all : Samples w first e
  all = samples w first e end

  -- before the end point every point has a time step
  some_step : (n : ℕ) → n < e → 1 ≤ step_at w first n
  some_step n h = (on n (step_at w first n) (end.earlier n h)).1

  -- POINT n IS THE SAMPLE THAT COMES AFTER THE TIME STEPS BEFORE IT
  pub steps_most : (n : ℕ) → n ≤ e → steps_before w first n ≤ total w first
  steps_most n h = omega (arith, steps_mono n e h, all.all)

  -- the sample after the time steps before point n stands at that point, with all of its segment left
  segment_is : (n : ℕ) (p : Place) → 1 ≤ step_at w first n → points.Within w first e (steps_before w first n) p → p.segment ≡ n
  segment_is n p i y = go (ltb p.segment n) refl (ltb n p.segment) refl
    where
      go : (a : Bool) → ltb p.segment n ≡ a → (b : Bool) → ltb n p.segment ≡ b → p.segment ≡ n
      go true f b g = absurd (omega (arith, steps_mono (suc p.segment) n (omega (arith, ltb-true)), y.adds, y.some))
      go false f true g = absurd (omega (arith, steps_mono (suc n) p.segment (omega (arith, ltb-true)), steps_suc w first n, steps_suc w first p.segment, y.adds, y.few))
      go false f false g = omega (arith, ltb-false)

  left_is : (n : ℕ) (p : Place) → p.segment ≡ n → points.Within w first e (steps_before w first n) p → p.left.0 ≡ step_at w first n
  left_is n p s y =
      let g : steps_before w first n + p.left.0 ≡ steps_before w first (suc n) = y.adds ∙ ap (λ (i : ℕ). steps_before w first (suc i)) s in
      omega (arith, steps_suc w first n)

  module _ (l : Loaded) where
    -- the sum of point n's own V, the same in every edition
    abbrev own : ℕ → Option ℕ
    own n = own_sum w first l n

    -- ---- what a walk over the points finds, from point n on

    data Found (n : ℕ) : Option ℕ → Type 0 where
      at : (m : ℕ) → n ≤ m → m ≤ e → overflows (own m) ≡ true → ((i : ℕ) → n ≤ i → i < m → overflows (own i) ≡ false) → Found n (Some m)
      nowhere : ((i : ℕ) → n ≤ i → i ≤ e → overflows (own i) ≡ false) → Found n None

    one_more : (n : ℕ) (o : Option ℕ) → overflows (own n) ≡ false → Found (n + 1) o → Found n o
    one_more n o f (at m a b p d) = at m (omega arith) b p (λ i j k. from_on (λ x. x < m → overflows (own x) ≡ false) n i j (λ h. f) (d i) k)
    one_more n o f (nowhere d) = nowhere (λ i j k. from_on (λ x. x ≤ e → overflows (own x) ≡ false) n i j (λ h. f) (d i) k)

    walk : (f n : ℕ) → f + n ≡ 63 → n ≤ e → Found n (out_from w first l (suc f) n)
    unfolding out_from
    walk zero n h g = go (overflows (own n)) refl
      where
        go : (a : Bool) → overflows (own n) ≡ a → Found n (cond a (Some n) (cond (is_end n (step_at w first n)) None None))
        go true p = at n (omega arith) g p (λ i j k. absurd (omega arith))
        go false p =
            rw (end_63 n (step_at w first n) (omega arith))
            (nowhere (λ i j k. let s : i ≡ n = omega (arith, at_end w first e end n g (end_63 n (step_at w first n) (omega arith))) in rw s p))
    walk (suc f) n h g = go (overflows (own n)) refl (is_end n (step_at w first n)) refl (walk f (n + 1) (omega arith))
      where
        go : (a : Bool) → overflows (own n) ≡ a → (b : Bool) → is_end n (step_at w first n) ≡ b → (n + 1 ≤ e → Found (n + 1) (out_from w first l (suc f) (n + 1)))
            → Found n (cond a (Some n) (cond b None (out_from w first l (suc f) (n + 1))))
        go true p b q ih = at n (omega arith) g p (λ i j k. absurd (omega arith))
        go false p true q ih = nowhere (λ i j k. let s : i ≡ n = omega (arith, at_end w first e end n g q) in rw s p)
        go false p false q ih = one_more n _ p (ih (omega (arith, not_end w first e end n g q)))

  -- ---- the samples of an edition

  module _ (ed : Edition) (l : Loaded) where
    abbrev sums : ℕ → Option ℕ
    sums k = sample_at ed w first l (place_of w first k)

    -- the sample of a place at a point, with all of its segment left
    point_own : (n : ℕ) (p : Place) → p.segment ≡ n → p.left.0 ≡ step_at w first n → 1 ≤ step_at w first n → sample_at ed w first l p ≡ own l n
    unfolding sample_at
    point_own n p a b h =
        rw (b, ne_eqb (step_at w first n) 0 (λ q. absurd (omega arith)), a)
        (point_sample ed l.scale (value_at w first n) (value_at w first (n + 1)) (step_at w first n) l.offset (value_at w first n) 0
        ∙ own_sample ed l.scale (value_at w first n) l.offset)

    last_own : sums (total w first) ≡ own l e
    unfolding sample_at
    last_own = rw all.last (own_sample ed l.scale (value_at w first e) l.offset)

    pub own_sum_lem : (n : ℕ) → n ≤ e → sums (steps_before w first n) ≡ own l n
    own_sum_lem n h = go (ltb n e) refl
      where
        go : (b : Bool) → ltb n e ≡ b → sums (steps_before w first n) ≡ own l n
        go false q =
            let s : n ≡ e = omega (arith, ltb-false) in
            ap (λ (i : ℕ). sums (steps_before w first i)) s ∙ ap sums (sym all.all) ∙ last_own ∙ ap (own l) (sym s)
        go true q =
            let u : n < e = omega (arith, ltb-true) in
            let i = some_step n u in
            let y = all.within (steps_before w first n) (omega (arith, steps_suc w first n, steps_mono (suc n) e (omega arith), all.all)) in
            let s = segment_is n (place_of w first (steps_before w first n)) i y in
            point_own n (place_of w first (steps_before w first n)) s (left_is n (place_of w first (steps_before w first n)) s y) i

    place_in : (p : Place) (k : ℕ) → points.Within w first e k p → ((n : ℕ) → n ≤ e → overflows (own l n) ≡ false) → overflows (sample_at ed w first l p) ≡ false
    unfolding sample_at
    place_in p k y h =
        rw (ne_eqb p.left.0 0 (λ z. absurd (omega (arith, y.some))))
        (between_in ed l.scale (value_at w first p.segment) (value_at w first (p.segment + 1)) (step_at w first p.segment) p.left.0 l.offset
        (omega (arith, y.some, y.few)) y.few (in_own p.segment (omega (arith, y.inside))) (in_own (p.segment + 1) (omega (arith, y.inside))))
      where
        in_own : (n : ℕ) → n ≤ e → overflows (sample_of ed l.scale (value_at w first n) (value_at w first n) 0 0 l.offset) ≡ false
        in_own n g = ap overflows (own_sample ed l.scale (value_at w first n) l.offset) ∙ h n g

    -- WHERE EVERY POINT UP TO THE END IS IN RANGE, EVERY SAMPLE IS
    points_in : ((n : ℕ) → n ≤ e → overflows (own l n) ≡ false) → (k : ℕ) → k ≤ total w first → overflows (sums k) ≡ false
    points_in h k g = go (ltb k (total w first)) refl
      where
        go : (b : Bool) → ltb k (total w first) ≡ b → overflows (sums k) ≡ false
        go false q = let s : k ≡ total w first = omega (arith, ltb-false) in ap (λ (i : ℕ). overflows (sums i)) s ∙ ap overflows last_own ∙ h e (omega arith)
        go true q = place_in (place_of w first k) k (all.within k (omega (arith, ltb-true))) h

-- ---- a loop over the points: what is left from point n on is the whole

-- a sample is none exactly where its sum overflows
missed : (r : Option ℕ) → is_some r ≡ false → overflows r ≡ true
missed None e = refl
missed (Some x) e = sym e

given : (r : Option ℕ) → is_some r ≡ true → overflows r ≡ false
given None e = sym e
given (Some x) e = refl

module _ (w : List ℕ) (first : ℕ) (l : Loaded) (n : ℕ) (h : n < 64) where
  left_one : 64 - n ≡ suc (64 - (n + 1))
  left_one = omega arith

  -- V is read, and its sample made
  module _ {v : ℕ} {r : Option ℕ} (read : v ≡ value_at w first n) (made : r ≡ sample_of First l.scale v v 0 0 l.offset) where
    own_is : own_sum w first l n ≡ r
    own_is = rw (← read) (sym made)

    pub here : is_some r ≡ false → out_from w first l (64 - n) n ≡ Some n
    unfolding out_from
    here e = rw (left_one, own_is, missed r e)

    -- and Δt, which ends the ramp or not
    module _ {d : ℕ} {b : Bool} (e : is_some r ≡ true) (step : d ≡ step_at w first n) (ends : b ≡ is_end n d) where
      end_is : is_end n (step_at w first n) ≡ b
      end_is = rw (← step) (sym ends)

      pub end_here : b ≡ true → out_from w first l (64 - n) n ≡ None
      unfolding out_from
      end_here f = rw (left_one, own_is, given r e, end_is, f)

      pub not_here : b ≡ false → out_from w first l (64 - n) n ≡ out_from w first l (64 - (n + 1)) (n + 1)
      unfolding out_from
      not_here f = rw (left_one, own_is, given r e, end_is, f)

-- ---- the verdict on one ramp

-- what a walk over the points of its table makes of it
abbrev pub told : ℕ → ℕ → ℕ → Option ℕ → Result Unit Break
told c level table None = Ok tt
told c level table (Some n) = Err (record { channel = c; level = level; table = table; point = n })

module _ (ed : Edition) (s : List ℕ) (c level : ℕ) where
  abbrev start : ℕ
  start = table_for s c level

  abbrev ld : Loaded
  ld = loaded_for s c level

  keeps_not : (k : ℕ) → k ≤ total s start → overflows (sums s start ed ld k) ≡ true → keeps ed s c level ≡ false
  unfolding keeps
  keeps_not k h o = go (each_in (sums s start ed ld) (total s start + 1)) refl
    where
      go : (b : Bool) → each_in (sums s start ed ld) (total s start + 1) ≡ b → b ≡ false
      go false q = refl
      go true q = absurd (cc (o, in_each (sums s start ed ld) (total s start + 1) q k (omega arith)))

  found_told : (o : Option ℕ) → Found s start ld 0 o → level_verdict ed s c level ≡ told c level ld.table o
  unfolding level_verdict keeps
  found_told _ (at m a b p d) =
      let k : overflows (sums s start ed ld (steps_before s start m)) ≡ true = ap overflows (own_sum_lem s start ed ld m b) ∙ p in
      let f : first_out (λ n. sums s start ed ld (steps_before s start n)) (end_point s start) 0 ≡ m =
      first_out_lem (λ n. sums s start ed ld (steps_before s start n)) (end_point s start) 0 m (omega arith) (omega arith) k
      (λ i j g. ap overflows (own_sum_lem s start ed ld i (omega arith)) ∙ d i j g) in
      rw (keeps_not (steps_before s start m) (steps_most s start m b) k, f)
  found_told _ (nowhere d) =
      rw (each_in_lem (sums s start ed ld) (total s start + 1) (λ k h. points_in s start ed ld (λ n g. d n (omega arith) g) k (omega arith)))

  -- POINTS UP TO THE RAMP'S END DECIDE
  pub by_points : level_verdict ed s c level ≡ told c level ld.table (out_from s start ld 64 0)
  by_points = found_told _ (walk s start ld 63 0 (omega arith) (omega arith))

  -- of a call: what the maps give is read, and its points are walked over
  pub walked : {x : Loaded} {o : Option ℕ} → x ≡ ld → o ≡ out_from s (table_at c x.table) x 64 0 → (r : Option ℕ) → o ≡ r → told c level x.table r ≡ level_verdict ed s c level
  walked e f r g =
      ap (λ (x : Loaded). told c level x.table r) e
      ∙ ap (told c level ld.table) (sym g ∙ f ∙ ap (λ (x : Loaded). out_from s (table_at c x.table) x 64 0) e)
      ∙ sym by_points

  -- ---- what is told of a ramp that breaks the profile

  pub record Broken (b : Break) : Type 0 where
    pub is : b ≡ record { channel = c; level = level; table = ld.table; point = b.point }
    pub point : b.point ≤ end_point s start
    pub out : overflows (point_sum ed s c level b.point) ≡ true
    pub earlier : (n : ℕ) → n < b.point → overflows (point_sum ed s c level n) ≡ false

  found_broken : (o : Option ℕ) → Found s start ld 0 o → (b : Break) → told c level ld.table o ≡ Err b → Broken b
  found_broken _ (at m x y p d) b q =
      let e : ◌≡◌ {A = Break} (record { channel = c; level = level; table = ld.table; point = m }) b = cc in
      subst Broken e (record {
        is = refl;
        point = y;
        out = ap overflows (own_sum_lem s start ed ld m y) ∙ p;
        earlier = λ n h. ap overflows (own_sum_lem s start ed ld n (omega arith)) ∙ d n (omega arith) h;
      })
  found_broken _ (nowhere d) b q = let z : ◌≡◌ {A = ℕ} 0 1 = cc in absurd (omega arith)

  pub broken : (b : Break) → level_verdict ed s c level ≡ Err b → Broken b
  broken b e = found_broken _ (walk s start ld 63 0 (omega arith) (omega arith)) b (sym by_points ∙ e)
