-- A load's copy, word by word: channel c's 128 words are the table's, every other word stays, and none is added. So a tick and a
-- trigger change the loaded tables at the channel's own words only. Assumes nothing.
use mathlib.Core.Path.{◌≡◌, refl, ◌∙◌}
use mathlib.Core.Bool.{Bool, true, false, cond}
use mathlib.Core.List.{List}
use Prim.Native.Nat.{ℕ, zero, suc, ◌+◌, ◌-◌, ◌≤◌, ◌<◌}
use native.Mathlib.Omega.{arith}
use lib.Dec.{eqb}
use lib.ListN.{length, set, length-set}
use lib.Seq.{set-get_or, get_or-set_same, get_or-set_other}
use borrow.Author.Tests.{eqb-true, eqb-false}
use Rattle.std.proofs.lemmas.Bool.{cond_both}
use Rattle.word.specs.Copy.{copied}
use Rattle.sum.specs.declared.Edition.{Edition}
use Rattle.map.specs.Addresses.{table_at, ramp_map_at, enable_at}
use Rattle.channel.specs.declared.Phase.{Phase}
use Rattle.channel.specs.declared.Phase.TheVariants.{Counting}
use Rattle.channel.specs.declared.Ramp.{Ramp}
use Rattle.channel.specs.declared.Channel.{Channel}
use Rattle.channel.specs.Channel.{Side, Move, word, first_of, loads_at, load, start, count_to, move_at, tick_of, countdown, triggered}

-- what is so on both sides of a test
pub choose : {A : Type 0} (P : A → Type 0) (b : Bool) (x y : A) → P x → P y → P (cond b x y)
choose P b x y p q = cond_both b x y P (λ e. p) (λ e. q)

-- ---- n words copied

pub copied_length : (n : ℕ) (s : List ℕ) (from : ℕ) (l : List ℕ) (to : ℕ) → length (copied n s from l to) ≡ length l
unfolding copied
copied_length zero s from l to = refl
copied_length (suc n) s from l to = length-set (copied n s from l to) (to + n) _ ∙ copied_length n s from l to

-- a word of the copy
pub copied_in : (n : ℕ) (s : List ℕ) (from : ℕ) (l : List ℕ) (to i : ℕ) → i < n → to + i < length l → word (copied n s from l to) (to + i) ≡ word s (from + i)
unfolding copied
copied_in zero s from l to i h g = absurd (omega arith)
copied_in (suc n) s from l to i h g = go (eqb i n) refl (λ k. copied_in n s from l to i k g)
  where
    go : (b : Bool) → eqb i n ≡ b → (i < n → word (copied n s from l to) (to + i) ≡ word s (from + i))
        → word (set (copied n s from l to) (to + n) (word s (from + n))) (to + i) ≡ word s (from + i)
    go true e r = rw (eqb-true i n e) (get_or-set_same (copied n s from l to) (to + n) _ 0 (rw (copied_length n s from l to) (omega (arith, eqb-true i n e))))
    go false e r =
        let d = eqb-false i n e in
        get_or-set_other (copied n s from l to) (to + n) (to + i) _ 0 (λ q. d (omega arith)) ∙ r (omega arith)

-- a word beside it
pub copied_out : (n : ℕ) (s : List ℕ) (from : ℕ) (l : List ℕ) (to at : ℕ) → (to ≤ at → at < to + n → ⊥) → word (copied n s from l to) at ≡ word l at
unfolding copied
copied_out zero s from l to at o = refl
copied_out (suc n) s from l to at o =
    get_or-set_other (copied n s from l to) (to + n) at _ 0 (λ q. o (omega arith) (omega arith)) ∙ copied_out n s from l to at (λ f g. o f (omega arith))

-- words that are the same already
pub copied_same : (n : ℕ) (s : List ℕ) (from : ℕ) (l : List ℕ) (to : ℕ) → ((i : ℕ) → i < n → word l (to + i) ≡ word s (from + i)) → copied n s from l to ≡ l
unfolding copied
copied_same zero s from l to h = refl
copied_same (suc n) s from l to h =
    rw (copied_same n s from l to (λ i k. h i (omega arith)), ← (h n (omega arith))) (set-get_or l (to + n) 0)

-- ---- the load, a tick and a trigger

module _ (s l : List ℕ) (c : ℕ) (ch : Channel) where
  -- a fact of the tables that is so before the load and after it
  module _ (P : List ℕ → Type 0) (p : P l) where
    abbrev Moved : Move → Type 0
    Moved x = P x.tables

    load_tables : (level : ℕ) → ((from : ℕ) → P (copied 128 s from l (first_of c))) → P (load s l c ch level).tables
    unfolding load
    load_tables level q = q (table_at c (word s (ramp_map_at c level)))

    start_tables : (ed : Edition) → P (start ed s l c ch).tables
    unfolding start
    start_tables ed = choose Moved (eqb (word s (enable_at c)) 1) _ _ p p

    count_tables : (ed : Edition) (m : ℕ) (older : Ramp) → ((from : ℕ) → P (copied 128 s from l (first_of c))) → P (count_to ed m older s l c ch).tables
    unfolding count_to
    count_tables ed m older q = choose Moved (eqb m 0) _ _ (start_tables ed) (choose Moved (loads_at m) _ _ (load_tables ch.level q) p)

    move_tables : (ed : Edition) (f : Phase) → ((from : ℕ) → P (copied 128 s from l (first_of c))) → P (move_at ed f s l c ch).tables
    unfolding move_at
    move_tables ed (Counting n older) q = count_tables ed (n.0 - 1) older q
    move_tables ed _ q = p

    tick_tables : (ed : Edition) (w : List ℕ) → ((from : ℕ) → P (copied 128 s from l (first_of c))) → P (tick_of ed s w l c ch).tables
    unfolding tick_of
    tick_tables ed w q = move_tables ed ch.phase q

    trigger_tables : (level : ℕ) → ((from : ℕ) → P (copied 128 s from l (first_of c))) → P (triggered s l c ch level).tables
    unfolding triggered
    trigger_tables level q = choose (λ (x : Side). P x.tables) (loads_at (countdown s c level)) _ _ (load_tables level q) p

  pub tick_length : (ed : Edition) (w : List ℕ) → length (tick_of ed s w l c ch).tables ≡ length l
  tick_length ed w = tick_tables (λ x. length x ≡ length l) refl ed w (λ from. copied_length 128 s from l (first_of c))

  pub trigger_length : (level : ℕ) → length (triggered s l c ch level).tables ≡ length l
  trigger_length level = trigger_tables (λ x. length x ≡ length l) refl level (λ from. copied_length 128 s from l (first_of c))

  -- a word of another channel
  pub tick_out : (ed : Edition) (w : List ℕ) (at : ℕ) → (first_of c ≤ at → at < first_of c + 128 → ⊥) → word (tick_of ed s w l c ch).tables at ≡ word l at
  tick_out ed w at o = tick_tables (λ x. word x at ≡ word l at) refl ed w (λ from. copied_out 128 s from l (first_of c) at o)

  pub trigger_out : (level at : ℕ) → (first_of c ≤ at → at < first_of c + 128 → ⊥) → word (triggered s l c ch level).tables at ≡ word l at
  trigger_out level at o = trigger_tables (λ x. word x at ≡ word l at) refl level (λ from. copied_out 128 s from l (first_of c) at o)
