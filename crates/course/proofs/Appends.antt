-- Acts after acts: the channel, the ticks, the acts before a tick, the settings held on it and its wave tables, of two lists of acts one after the other,
-- by the first list. For a card, each of whose acts is a few acts of a channel. Assumes nothing.
use mathlib.Core.Path.{◌≡◌, refl, ap, ◌∙◌}
use mathlib.Core.List.{List, [], ◌∷◌, ◌++◌}
use Prim.Native.Nat.{ℕ, zero, suc, ◌+◌, ◌≤◌}
use native.Mathlib.Omega.{arith}
use native.Mathlib.Nat.{zero-add, suc-add}
use Rattle.sum.specs.declared.Edition.{Edition}
use Rattle.channel.specs.Channel.{Side}
use Rattle.course.specs.Course.{Act, Tick, act, run, ticks_in, until, held_on, waves_on}

pub run_append : (ed : Edition) (c : ℕ) (x : Side) (xs ys : List Act) → run ed c x (xs ++ ys) ≡ run ed c (run ed c x xs) ys
run_append ed c x [] ys = refl
run_append ed c x (y ∷ xs) ys = run_append ed c (act ed c x y) xs ys

pub ticks_append : (xs ys : List Act) → ticks_in (xs ++ ys) ≡ ticks_in xs + ticks_in ys
ticks_append [] ys = omega arith
ticks_append (Tick s w ∷ xs) ys = ap suc (ticks_append xs ys) ∙ omega arith
ticks_append (y ∷ xs) ys = ticks_append xs ys

-- ---- a tick of the first list

pub held_first : (s z : List ℕ) (n : ℕ) (xs ys : List Act) → suc n ≤ ticks_in xs → held_on s z (suc n) (xs ++ ys) ≡ held_on s z (suc n) xs
held_first s z n [] ys h = absurd (omega arith)
held_first s z zero (Tick u w ∷ xs) ys h = refl
held_first s z (suc n) (Tick u w ∷ xs) ys h = held_first s z n xs ys (omega arith)
held_first s z n (y ∷ xs) ys h = held_first s z n xs ys h

pub waves_first : (z : List ℕ) (n : ℕ) (xs ys : List Act) → suc n ≤ ticks_in xs → waves_on z (suc n) (xs ++ ys) ≡ waves_on z (suc n) xs
waves_first z n [] ys h = absurd (omega arith)
waves_first z zero (Tick u w ∷ xs) ys h = refl
waves_first z (suc n) (Tick u w ∷ xs) ys h = waves_first z n xs ys (omega arith)
waves_first z n (y ∷ xs) ys h = waves_first z n xs ys h

pub before_first : (n : ℕ) (xs ys : List Act) → suc n ≤ ticks_in xs → until (suc n) (xs ++ ys) ≡ until (suc n) xs
before_first n [] ys h = absurd (omega arith)
before_first zero (Tick u w ∷ xs) ys h = refl
before_first (suc n) (Tick u w ∷ xs) ys h = cc (before_first n xs ys (omega arith))
before_first n (y ∷ xs) ys h = cc (before_first n xs ys h)

-- ---- a tick of the second

pub held_later : (s z : List ℕ) (n : ℕ) (xs ys : List Act) → held_on s z (suc (ticks_in xs + n)) (xs ++ ys) ≡ held_on s z (suc n) ys
held_later s z n [] ys = rw zero-add
held_later s z n (Tick u w ∷ xs) ys = rw suc-add (held_later s z n xs ys)
held_later s z n (y ∷ xs) ys = held_later s z n xs ys

pub waves_later : (z : List ℕ) (n : ℕ) (xs ys : List Act) → waves_on z (suc (ticks_in xs + n)) (xs ++ ys) ≡ waves_on z (suc n) ys
waves_later z n [] ys = rw zero-add
waves_later z n (Tick u w ∷ xs) ys = rw suc-add (waves_later z n xs ys)
waves_later z n (y ∷ xs) ys = waves_later z n xs ys

pub before_later : (n : ℕ) (xs ys : List Act) → until (suc (ticks_in xs + n)) (xs ++ ys) ≡ xs ++ until (suc n) ys
before_later n [] ys = rw zero-add
before_later n (Tick u w ∷ xs) ys = rw suc-add (cc (before_later n xs ys))
before_later n (y ∷ xs) ys = cc (before_later n xs ys)
