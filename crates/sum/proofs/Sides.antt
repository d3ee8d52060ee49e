-- The range: what a sum within it looks like, and that a sum between two others lies on no side but theirs. Assumes nothing.
use Rattle.std.specs.Prelude.{Some}
use mathlib.Core.Path.{◌≡◌, refl, sym, ap, ◌∙◌}
use mathlib.Core.Bool.{Bool, true, false, cond, true≢false}
use mathlib.Core.Logic.{◌⊎◌, inl, inr}
use Prim.Native.Nat.{ℕ, zero, suc, ◌+◌, ◌≤◌, ◌<◌, ◌^◌}
use native.Mathlib.Omega.{arith}
use lib.Dec.{T, eqb-suc-zero}
use lib.IntN.{ℤ, pos, negsuc}
use lib.Signed.{◌≤ℤ◌, lt_z}
use Rattle.word.specs.Word.{signed_of, word_of}
use Rattle.word.proofs.Split.{le_split, lt_split, lt_join}
use Rattle.word.proofs.Number.{signed_of_word}
use Rattle.sum.specs.Sample.{side_of, settled, total_of}
use Rattle.sum.specs.declared.Edition.{Edition}
use Rattle.sum.specs.declared.Side.{Side}
use Rattle.sum.specs.declared.Side.TheVariants.{Below, Within, Above}
use Rattle.sum.specs.Order.{Rises, Falls, Between}
use Rattle.sum.proofs.Samples.{one_way, between_points}

-- ---- within the range

within_is : (l h : Bool) → cond l Below (cond h Above Within) ≡ Within → (l ≡ false) × (h ≡ false)
within_is false false e = (refl, refl)
within_is false true e = let z : ◌≡◌ {A = ℕ} 0 1 = cc in absurd (omega arith)
within_is true h e = let z : ◌≡◌ {A = ℕ} 0 1 = cc in absurd (omega arith)

pub in_range : (z : ℤ) → side_of z ≡ Within → (lt_z z (negsuc 32767) ≡ false) × (lt_z (pos 32767) z ≡ false)
unfolding side_of
in_range z e = within_is (lt_z z (negsuc 32767)) (lt_z (pos 32767) z) e

-- THE WORD OF A SUM WITHIN THE RANGE STANDS FOR THE SUM
pub exact : (z : ℤ) → side_of z ≡ Within → (settled z ≡ Some (word_of z)) × (signed_of (word_of z) ≡ z) × (word_of z < 2 ^ 16)
exact z e = let r = in_range z e in let w = signed_of_word z r.0 r.1 in (rw e, w.0, w.1)

-- ---- the order of sides

abbrev pub rank : Side → ℕ
rank Below = 0
rank Within = 1
rank Above = 2

is_true : (b : Bool) → T b → b ≡ true
is_true true t = refl
is_true false t = absurd t

-- what is below k stays so further down, and what is above k further up
lower : (x y k : ℤ) → x ≤ℤ y → lt_z y k ≡ true → lt_z x k ≡ true
lower x y k l h = is_true (lt_z x k) (lt_join x k (omega (arith, le_split x y l, lt_split y k (record { lt = rw h tt })))).lt

upper : (x y k : ℤ) → x ≤ℤ y → lt_z k x ≡ true → lt_z k y ≡ true
upper x y k l h = is_true (lt_z k y) (lt_join k y (omega (arith, le_split x y l, lt_split k x (record { lt = rw h tt })))).lt

ranked : (lx hx ly hy : Bool) → (ly ≡ true → lx ≡ true) → (hx ≡ true → hy ≡ true) → rank (cond lx Below (cond hx Above Within)) ≤ rank (cond ly Below (cond hy Above Within))
ranked true hx ly hy a b = omega arith
ranked false hx true hy a b = absurd (true≢false (sym (a refl)))
ranked false true false hy a b = rw (b refl) (omega arith)
ranked false false false true a b = omega arith
ranked false false false false a b = omega arith

-- a larger sum lies on the same side or a higher one
pub side_mono : (x y : ℤ) → x ≤ℤ y → rank (side_of x) ≤ rank (side_of y)
unfolding side_of
side_mono x y l = ranked (lt_z x (negsuc 32767)) (lt_z (pos 32767) x) (lt_z y (negsuc 32767)) (lt_z (pos 32767) y) (lower x y (negsuc 32767) l) (upper x y (pos 32767) l)

named : (s t : Side) → rank s ≡ rank t → s ≡ t
named Below Below e = refl
named Within Within e = refl
named Above Above e = refl
named Below Within e = absurd (omega arith)
named Below Above e = absurd (omega arith)
named Within Below e = absurd (omega arith)
named Within Above e = absurd (omega arith)
named Above Below e = absurd (omega arith)
named Above Within e = absurd (omega arith)

between : (x y z : ℤ) → x ≤ℤ y → y ≤ℤ z → side_of x ≡ side_of z → side_of y ≡ side_of x
between x y z l m e = named _ _ (omega (arith, side_mono x y l, side_mono y z m, ap rank e))

convex : (g : ℕ → ℤ) → Rises g ⊎ Falls g → (m i e : ℕ) → side_of (g m) ≡ side_of (g (m + i + e)) → side_of (g (m + i)) ≡ side_of (g m)
convex g (inl r) m i e h = between (g m) (g (m + i)) (g (m + i + e)) (r.up_to m i) (r.up_to (m + i) e) h
convex g (inr f) m i e h = between (g (m + i + e)) (g (m + i)) (g m) (f.down_to (m + i) e) (f.down_to m i) (sym h) ∙ sym h

-- WHERE TWO SAMPLES OF A SEGMENT SHARE THEIR SIDE, EACH BETWEEN THEM HAS IT TOO
pub segment_side : (ed : Edition) (scale from to step offset m i e : ℕ)
    → side_of (total_of ed scale from to step m offset) ≡ side_of (total_of ed scale from to step (m + i + e) offset)
    → side_of (total_of ed scale from to step (m + i) offset) ≡ side_of (total_of ed scale from to step m offset)
segment_side ed scale from to step offset = convex (λ m. total_of ed scale from to step m offset) (one_way ed (signed_of scale) (signed_of offset) (signed_of from) (signed_of to) step)

-- WHERE BOTH POINTS OF A SEGMENT ARE IN RANGE, EVERY SAMPLE BETWEEN THEM IS
both_within : (x y z : ℤ) → Between x y z → side_of x ≡ Within → side_of z ≡ Within → side_of y ≡ Within
both_within x y z (inl (l, m)) a b = between x y z l m (a ∙ sym b) ∙ a
both_within x y z (inr (l, m)) a b = between z y x l m (b ∙ sym a) ∙ b

pub points_decide : (ed : Edition) (scale from to step left offset : ℕ) → 1 ≤ step → left ≤ step
    → side_of (total_of ed scale from from 0 0 offset) ≡ Within → side_of (total_of ed scale to to 0 0 offset) ≡ Within
    → side_of (total_of ed scale from to step left offset) ≡ Within
points_decide ed scale from to zero left offset h l a b = absurd (omega arith)
points_decide ed scale from to (suc d) left offset h l a b =
    rw (eqb-suc-zero d)
    (both_within _ _ _ (between_points ed (signed_of scale) (signed_of offset) (signed_of from) (signed_of to) (suc d) left (omega arith) l) a b)
