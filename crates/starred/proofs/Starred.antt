-- Every starred case of the paper, in one theorem: the samples by `sum`, the delays and transfers by computation on any state.
-- Assumes nothing.
use Rattle.std.specs.Prelude.{Option, None}
use mathlib.Core.Path.{◌≡◌, refl, ◌∙◌}
use mathlib.Core.Bool.{true}
use mathlib.Core.List.{List, [], ◌∷◌, ◌++◌, map}
use Prim.Native.Nat.{ℕ, zero, suc, ◌+◌, ◌-◌, ◌≤◌}
use native.Mathlib.Nat.{zero-add, suc-add}
use native.Mathlib.Omega.{arith}
use lib.ListN.{set}
use lib.Seq.{get_or-set_other}
use Rattle.sum.specs.declared.Edition.{Edition}
use Rattle.sum.specs.Starred as samples
use Rattle.sum.proofs.Starred.{as_starred}
use Rattle.map.specs.Map.{channel_rows, card_rows, block, regions, scan}
use Rattle.map.specs.Addresses.{delay_at}
use Rattle.slots.specs.Slots.{other_of}
use Rattle.slots.proofs.Holders.{nobody_if, held_some, SomeLevel}
use Rattle.channel.specs.declared.Channel.{Channel}
use Rattle.channel.specs.Channel.{Side, word, load, start, count_to, move_at, sounded_side, tick_of, triggered}
use Rattle.channel.specs.Ramp.{advance}
use Rattle.channel.specs.Signal.{make_of}
use Rattle.channel.proofs.Counts.{at_once, later}
use Rattle.card.specs.Card.{State}
use Rattle.transfer.specs.Word.{is_level, judge_of, write_word}
use Rattle.transfer.specs.Transfer.{write_of, write_words}
use Rattle.starred.specs.Starred.{Comes, ticked, Holding, Answers, Case, ramp, Each, others, starred}

-- ---- delays

module _ (ed : Edition) (s w l : List ℕ) (c : ℕ) (ch : Channel) (level : ℕ) where
  -- from a load at once
  from_load : (d : ℕ) → word s (delay_at c level) ≡ d → d ≤ 10 → ticked ed 0 s w c (triggered s l c ch level) ≡ load s l c ch level
  unfolding ticked
  from_load d e h = at_once s l c ch level (omega arith)

  -- from 11 the first tick loads
  first_tick : word s (delay_at c level) ≡ 11 → ticked ed 1 s w c (triggered s l c ch level) ≡ load s l c ch level
  unfolding ticked tick_of move_at count_to load make_of
  first_tick e = rw (later s l c ch level (omega arith), e)

-- ticks add up
ticked_add : (ed : Edition) (a b : ℕ) (s w : List ℕ) (c : ℕ) (x : Side) → ticked ed (a + b) s w c x ≡ ticked ed b s w c (ticked ed a s w c x)
unfolding ticked
ticked_add ed zero b s w c x = cc (zero-add b)
ticked_add ed (suc a) b s w c x = cc (suc-add a b, ticked_add ed a b s w c (tick_of ed s w x.tables c x.channel))

-- ten ticks after a load the channel starts
abbrev started : Edition → List ℕ → List ℕ → ℕ → List ℕ → Side → Side
started ed s w c l x = sounded_side w c (start ed s l c x.channel)

ten_more : (ed : Edition) (s w l : List ℕ) (c : ℕ) (ch : Channel) (level : ℕ)
    → ticked ed 10 s w c (load s l c ch level) ≡ started ed s w c (load s l c ch level).tables (ticked ed 9 s w c (load s l c ch level))
unfolding ticked tick_of move_at count_to advance load make_of
ten_more ed s w l c ch level = refl

-- a load on tick n leads to a start on tick n + 10
comes : (d n : ℕ) → ((ed : Edition) (s w l : List ℕ) (c : ℕ) (ch : Channel) (level : ℕ) → word s (delay_at c level) ≡ d → ticked ed n s w c (triggered s l c ch level) ≡ load s l c ch level)
    → Comes (record { delay = d; loads = n; starts = n + 10 })
comes d n f = record {
  load_on = f;
  start_on = λ ed s w l c ch level e.
      let x = triggered s l c ch level in
      let y = load s l c ch level in
      let q = f ed s w l c ch level e in
      let m : n + 10 - 1 ≡ n + 9 = omega arith in
      let nine : ticked ed (n + 10 - 1) s w c x ≡ ticked ed 9 s w c y = cc (ticked_add ed n 9 s w c x) in
      cc (ticked_add ed n 10 s w c x, ten_more ed s w l c ch level, nine);
}

-- ---- transfers

is_level_lem : (r : Option ℕ) → SomeLevel r → is_level r ≡ true
is_level_lem r x = rw x.is

-- no slot holds 0x11, so level 1 may have it; slot 0 of level 0 holds 0x10 still, so level 1 may not
module _ (st : State) (h : Holding st) where
  free : other_of st.settings 0x11 1 ≡ None
  free = nobody_if st.settings 0x11 1 (λ n l e. absurd (h.no_eleven n l e))

  taken : is_level (other_of (set st.settings 0x4008 0x11) 0x10 1) ≡ true
  taken =
      let s = set st.settings 0x4008 0x11 in
      is_level_lem (other_of s 0x10 1) (held_some s 0x10 1 0 (omega arith) (get_or-set_other st.settings 0x4008 0x4000 0x11 0 (λ e. absurd (omega arith)) ∙ h.ten) (λ e. absurd (omega arith)))

  third : Answers 0x4008 (0x11 ∷ 0x10 ∷ 0x12 ∷ []) 7 1 0x4009 st
  unfolding write_of write_words write_word judge_of regions block channel_rows card_rows scan
  third = record {
    number_is = rw (free, taken);
    processed_is = rw (free, taken);
    stays = rw (free, taken) (get_or-set_other st.settings 0x4008 0x4009 0x11 0 (λ e. absurd (omega arith)));
  }

first : (st : State) → Answers 0x07FE (1 ∷ 0 ∷ 1 ∷ 1 ∷ []) 4 2 0x0800 st
unfolding write_of write_words write_word judge_of regions block channel_rows card_rows scan
first st = let s = st.settings in record {
  number_is = refl;
  processed_is = refl;
  stays = get_or-set_other (set s 0x07FE 1) 0x07FF 0x0800 0 0 (λ e. absurd (omega arith)) ∙ get_or-set_other s 0x07FE 0x0800 1 0 (λ e. absurd (omega arith));
}

second : (v : ℕ) (st : State) → Answers 0x007F (v ∷ []) 5 0 0x007F st
unfolding write_of write_words write_word judge_of regions block channel_rows card_rows scan
second v st = record { number_is = refl; processed_is = refl; stays = refl }

-- ---- the table

-- the samples' part, row by row
each_sample : (cs : List samples.Case) (rest : List Case) → map samples.samples_given cs ≡ cs → Each rest → Each (map ramp cs ++ rest)
each_sample [] rest e h = h
each_sample (c ∷ cs) rest e h = (cc, each_sample cs rest (cc) h)

-- EVERY STARRED CASE
pub as_stated : (v : ℕ) → Each (starred v)
as_stated v =
    each_sample samples.starred_samples (others v) as_starred
    (comes 0 0 (λ ed s w l c ch level e. from_load ed s w l c ch level 0 e (omega arith)), (comes 10 0 (λ ed s w l c ch level e. from_load ed s w l c ch level 10 e (omega arith)), (comes 11 1 first_tick, ((λ st g. first st), ((λ st g. second v st), (third, tt))))))
