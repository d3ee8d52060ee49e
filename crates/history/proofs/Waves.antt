-- The wave tables: the answer to one goes by its two tests, and what a copy and a fill leave at each place goes through a history act by act,
-- together with the channel's last table (`Shows`), whose words are in range by the first test. Assumes nothing.
use Rattle.std.specs.Prelude.{Ok, Err}
use mathlib.Core.Path.{◌≡◌, refl, sym, ap, ◌∙◌}
use mathlib.Core.Bool.{Bool, true, false, not, ◌||◌, cond}
use mathlib.Core.List.{List, [], ◌∷◌}
use Prim.Native.Nat.{ℕ, zero, suc, ◌+◌, ◌≤◌, ◌<◌}
use native.Mathlib.Omega.{arith}
use lib.Dec.{T, ltb, eqb, not_T}
use lib.Ieee.Fits.{and_i, and_l, and_r}
use lib.IntN.{ℤ, pos, neg_ℤ}
use lib.ListN.{length, get_or, replicate, get_or-replicate}
use lib.Signed.{◌≤ℤ◌, lt_z, lt_z_yes, lt_z_no, le_z_yes, clash_ℤ}
use borrow.Author.Tests.{ltb-false, le-ltb, eqb-true, eqb-false, eq-eqb}
use Rattle.word.specs.Word.{signed_of}
use Rattle.word.specs.Copy.{copied}
use Rattle.word.specs.Every.{every}
use Rattle.sum.specs.declared.Edition.{Edition}
use Rattle.slots.proofs.Fills.{filled_length, filled_in}
use Rattle.wave.specs.Sine.{entries, wave_of, wave_at}
use Rattle.wave.specs.Laws.{InWave}
use Rattle.channel.specs.Channel.{runs_of}
use Rattle.course.proofs.Copies.{copied_length, copied_in, copied_out}
use Rattle.card.specs.declared.Card.{Card}
use Rattle.card.specs.Card.{State, channel_of}
use Rattle.card.specs.Reset.{waves_reset, fresh_of}
use Rattle.wavetable.specs.Hand.{Handed, handed, in_wave, all_in_wave, bad_table, hand_of}
use Rattle.history.specs.History.{Act, Tick, Write, Ask, HandIn, Renew, act, is_reset, ticks_in, until, waves_on}
use Rattle.history.specs.Waves.{GoodTable, HandedIn, WaveTables, waves_after, waves_in, LentAsLeft, taken_for, table_by, last_table, RunsThrough, WavesRight}
use Rattle.wavetable.specs.declared.Refusal.TheVariants.{Bad, Running}

-- ---- the words of a table

not_less : (x y : ℤ) → x ≤ℤ y → T (not (lt_z y x))
not_less x y h = not_T (lt_z y x) (λ t. clash_ℤ (lt_z_yes t) h)

abbrev not_below : ℕ → Bool
not_below v = not (lt_z (signed_of v) (neg_ℤ (pos 16384)))

abbrev not_above : ℕ → Bool
not_above v = not (lt_z (pos 16384) (signed_of v))

in_wave_lem : (v : ℕ) → T (in_wave v) → InWave (signed_of v)
in_wave_lem v t = record { least = lt_z_no (and_l (not_below v) (not_above v) t); most = lt_z_no (and_r (not_below v) (not_above v) t) }

in_wave_only : (v : ℕ) → InWave (signed_of v) → T (in_wave v)
in_wave_only v h = and_i (not_below v) (not_above v) (not_less (neg_ℤ (pos 16384)) (signed_of v) h.least) (not_less (signed_of v) (pos 16384) h.most)

all_in : (ws : List ℕ) → T (all_in_wave ws) → (i : ℕ) → i < length ws → InWave (signed_of (get_or ws i 0))
unfolding every
all_in [] t i h = absurd (omega arith)
all_in (v ∷ vs) t zero h = in_wave_lem v (and_l (in_wave v) (all_in_wave vs) t)
all_in (v ∷ vs) t (suc i) h = all_in vs (and_r (in_wave v) (all_in_wave vs) t) i (omega arith)

all_only : (ws : List ℕ) → ((i : ℕ) → i < length ws → InWave (signed_of (get_or ws i 0))) → T (all_in_wave ws)
unfolding every
all_only [] h = tt
all_only (v ∷ vs) h = and_i (in_wave v) (all_in_wave vs) (in_wave_only v (h 0 (omega arith))) (all_only vs (λ i k. h (suc i) (omega arith)))

-- ---- a table that is not bad

none : (a b d : Bool) → a || (not b || not d) ≡ false → (a ≡ false) × (b ≡ true) × T d
none false true true e = (refl, refl, tt)
none _ b d e = absurd cc

all_three : (a b d : Bool) → a ≡ false → b ≡ true → T d → a || (not b || not d) ≡ false
all_three true b d e f t = e
all_three false true true e f t = refl
all_three false true false e f t = absurd t
all_three false false d e f t = sym f

good : (c : ℕ) (ws : List ℕ) → bad_table c ws ≡ false → GoodTable c ws
good c ws e =
    let n = none (ltb 3 c) (eqb (length ws) entries) (all_in_wave ws) e in
    let l = eqb-true (length ws) entries n.1 in
    record {
      there = ltb-false 3 c n.0;
      whole = l;
      inside = λ i h. all_in ws n.2 i (omega arith);
    }

good_only : (c : ℕ) (ws : List ℕ) → GoodTable c ws → bad_table c ws ≡ false
good_only c ws g =
    let l = g.whole in
    all_three (ltb 3 c) (eqb (length ws) entries) (all_in_wave ws) (le-ltb 3 c g.there) (eq-eqb (length ws) entries l) (all_only ws (λ i h. g.inside i (omega arith)))

-- ---- one table handed in

-- a word of a copy of the whole list
copied_word : (n : ℕ) (s l : List ℕ) (to i : ℕ) → i < n → to + i < length l → get_or (copied n s 0 l to) (to + i) 0 ≡ get_or s i 0
copied_word n s l to i h g = copied_in n s 0 l to i h g ∙ ap (λ j. get_or s j 0) (omega arith)

module _ (k : Card) (w : List ℕ) (c : ℕ) (ws : List ℕ) where
  -- by the two tests
  hand_ind : (P : Handed → Type 0) → (bad_table c ws ≡ true → P (handed w (Err Bad))) → (bad_table c ws ≡ false → runs_of (channel_of k c) ≡ true → P (handed w (Err Running)))
      → (bad_table c ws ≡ false → runs_of (channel_of k c) ≡ false → P (handed (copied entries ws 0 w (wave_of c)) (Ok tt))) → P (hand_of k w c ws)
  unfolding hand_of
  hand_ind P f g h = grind arith

  answered : HandedIn k w c ws (hand_of k w c ws)
  answered = hand_ind (HandedIn k w c ws) bad running taken
    where
      bad : bad_table c ws ≡ true → HandedIn k w c ws (handed w (Err Bad))
      bad e = record { number = rw e; refused = λ n. refl; taken = λ z. absurd (omega arith); others = λ i o. refl; many = refl }

      running : bad_table c ws ≡ false → runs_of (channel_of k c) ≡ true → HandedIn k w c ws (handed w (Err Running))
      running e r = record { number = rw (e, r); refused = λ n. refl; taken = λ z. absurd (omega arith); others = λ i o. refl; many = refl }

      taken : bad_table c ws ≡ false → runs_of (channel_of k c) ≡ false → HandedIn k w c ws (handed (copied entries ws 0 w (wave_of c)) (Ok tt))
      taken e r =
          record {
            number = rw (e, r);
            refused = λ n. absurd (n refl);
            taken = λ z l i h. let b = (good c ws e).there in copied_word entries ws w (wave_of c) i h (omega arith);
            others = λ i o. copied_out entries ws 0 w (wave_of c) i o;
            many = copied_length entries ws 0 w (wave_of c);
          }

-- ---- in a history

-- channel c's words of w are those of t
record Shows (c : ℕ) (w t : List ℕ) : Type 0 where
  long : length w ≡ 4096
  same : (i : ℕ) → i < entries → get_or w (wave_of c + i) 0 ≡ get_or t i 0

abbrev Inside : List ℕ → Type 0
Inside t = (i : ℕ) → i < entries → InWave (signed_of (get_or t i 0))

zeros_inside : Inside (replicate 1024 0)
unfolding signed_of
zeros_inside i h = rw (get_or-replicate {A = ℕ} 1024 i 0 0 h) (record { least = le_z_yes tt; most = le_z_yes tt })

reset_shows : (c : ℕ) → c < 4 → (w : List ℕ) → length w ≡ 4096 → Shows c (waves_reset w) (replicate 1024 0)
unfolding waves_reset
reset_shows c b w l =
    record {
      long = filled_length 4096 w 0 0 ∙ l;
      same = λ i h. filled_in 4096 w 0 0 (wave_of c + i) (omega arith) (omega arith) (omega arith) ∙ sym (get_or-replicate {A = ℕ} 1024 i 0 0 h);
    }

-- a place of channel c is in no other channel's table
apart : (c to i : ℕ) → (c ≡ to → ⊥) → i < entries → wave_of to ≤ wave_of c + i → wave_of c + i < wave_of to + entries → ⊥
apart c to i d h f g = omega arith

hand_shows : (c : ℕ) → c < 4 → (k : Card) (w : List ℕ) (to : ℕ) (ws t : List ℕ) → Shows c w t
    → Shows c (hand_of k w to ws).waves (taken_for c to ws (hand_of k w to ws).reply t)
hand_shows c b k w to ws t s = hand_ind k w to ws (λ o. Shows c o.waves (taken_for c to ws o.reply t)) (λ e. s) (λ e r. s) (λ e r. go (eqb c to) refl)
  where
    go : (q : Bool) → eqb c to ≡ q → Shows c (copied entries ws 0 w (wave_of to)) (cond q ws t)
    go true q =
        let e = eqb-true c to q in
        let l = s.long in
        record {
          long = copied_length entries ws 0 w (wave_of to) ∙ l;
          same = λ i h. rw e (copied_word entries ws w (wave_of to) i h (omega arith));
        }
    go false q =
        record {
          long = copied_length entries ws 0 w (wave_of to) ∙ s.long;
          same = λ i h. copied_out entries ws 0 w (wave_of to) (wave_of c + i) (apart c to i (eqb-false c to q) h) ∙ s.same i h;
        }

shows_after : (c : ℕ) → c < 4 → (st : State) (w : List ℕ) (x : Act) (t : List ℕ) → Shows c w t → Shows c (waves_after st w x) (table_by c st w x t)
shows_after c b st w (HandIn to ws) t s = hand_shows c b st.card w to ws t s
shows_after c b st w (Renew how) t s = reset_shows c b w s.long
shows_after c b st w _ t s = s

shows_in : (c : ℕ) → c < 4 → (st : State) (w : List ℕ) (xs : List Act) (t : List ℕ) → Shows c w t → Shows c (waves_in st w xs) (last_table c st w xs t)
shows_in c b st w [] t s = s
shows_in c b st w (x ∷ xs) t s = shows_in c b (act st x) (waves_after st w x) xs (table_by c st w x t) (shows_after c b st w x t s)

hand_inside : (c : ℕ) (k : Card) (w : List ℕ) (to : ℕ) (ws t : List ℕ) → Inside t → Inside (taken_for c to ws (hand_of k w to ws).reply t)
hand_inside c k w to ws t p = hand_ind k w to ws (λ o. Inside (taken_for c to ws o.reply t)) (λ e. p) (λ e r. p) (λ e r. go (eqb c to) (good to ws e).inside)
  where
    go : (q : Bool) → Inside ws → Inside (cond q ws t)
    go true g = g
    go false g = p

inside_after : (c : ℕ) (st : State) (w : List ℕ) (x : Act) (t : List ℕ) → Inside t → Inside (table_by c st w x t)
inside_after c st w (HandIn to ws) t p = hand_inside c st.card w to ws t p
inside_after c st w (Renew how) t p = zeros_inside
inside_after c st w _ t p = p

inside_in : (c : ℕ) (st : State) (w : List ℕ) (xs : List Act) (t : List ℕ) → Inside t → Inside (last_table c st w xs t)
inside_in c st w [] t p = p
inside_in c st w (x ∷ xs) t p = inside_in c (act st x) (waves_after st w x) xs (table_by c st w x t) (inside_after c st w x t p)

-- a table handed in for a channel that goes on is refused, and one for another channel is beside its words
hand_kept : (k : Card) (w : List ℕ) (to : ℕ) (ws : List ℕ) (c : ℕ) → runs_of (channel_of k c) ≡ true → (i : ℕ) → i < entries
    → get_or (hand_of k w to ws).waves (wave_of c + i) 0 ≡ get_or w (wave_of c + i) 0
hand_kept k w to ws c g i h = hand_ind k w to ws (λ o. get_or o.waves (wave_of c + i) 0 ≡ get_or w (wave_of c + i) 0) (λ e. refl) (λ e r. refl) taken
  where
    taken : bad_table to ws ≡ false → runs_of (channel_of k to) ≡ false → get_or (copied entries ws 0 w (wave_of to)) (wave_of c + i) 0 ≡ get_or w (wave_of c + i) 0
    taken e r =
        let other : c ≡ to → ⊥ = λ q. cc in
        copied_out entries ws 0 w (wave_of to) (wave_of c + i) (apart c to i other h)

kept : (st : State) (w : List ℕ) (x : Act) → is_reset x ≡ false → (c : ℕ) → c < 4 → runs_of (channel_of st.card c) ≡ true
    → (i : ℕ) → i < entries → get_or (waves_after st w x) (wave_of c + i) 0 ≡ get_or w (wave_of c + i) 0
kept st w (HandIn to ws) e c b g i h = hand_kept st.card w to ws c g i h
kept st w (Renew how) e c b g i h = absurd cc
kept st w _ e c b g i h = refl

whole : (st : State) (w : List ℕ) (xs : List Act) (c : ℕ) → c < 4 → RunsThrough c st xs → (i : ℕ) → i < entries
    → get_or (waves_in st w xs) (wave_of c + i) 0 ≡ get_or w (wave_of c + i) 0
whole st w [] c b r i h = refl
whole st w (x ∷ xs) c b r i h = whole (act st x) (waves_after st w x) xs c b r.2 i h ∙ kept st w x r.0 c b r.1 i h

last : (ed : Edition) (s l w : List ℕ) → length w ≡ 4096 → (xs : List Act) (c : ℕ) → c < 4 → (i : ℕ) → i < entries
    → get_or (waves_in (fresh_of ed s l) (waves_reset w) xs) (wave_of c + i) 0 ≡ get_or (last_table c (fresh_of ed s l) (waves_reset w) xs (replicate 1024 0)) i 0
last ed s l w n xs c b i h = (shows_in c b (fresh_of ed s l) (waves_reset w) xs (replicate 1024 0) (reset_shows c b w n)).same i h

inside : (ed : Edition) (s l w : List ℕ) → length w ≡ 4096 → (xs : List Act) (c : ℕ) → c < 4 → (i : ℕ) → i < entries
    → InWave (wave_at (waves_in (fresh_of ed s l) (waves_reset w) xs) c i)
inside ed s l w n xs c b i h = rw (last ed s l w n xs c b i h) (inside_in c (fresh_of ed s l) (waves_reset w) xs (replicate 1024 0) zeros_inside i h)

-- ---- what a tick reads

read : (st : State) (w z : List ℕ) (xs : List Act) → LentAsLeft st w xs → (n : ℕ) → n < ticks_in xs → waves_on z (suc n) xs ≡ waves_in st w (until (suc n) xs)
read st w z [] h n k = absurd (omega arith)
read st w z (Tick waves event ∷ xs) h zero k = h.0
read st w z (Tick waves event ∷ xs) h (suc n) k = read (act st (Tick waves event)) w z xs h.1 n (omega arith)
read st w z (Write start count ws ∷ xs) h n k = read (act st (Write start count ws)) w z xs h n k
read st w z (Ask what ∷ xs) h n k = read st w z xs h n k
read st w z (HandIn to ws ∷ xs) h n k = read st (waves_after st w (HandIn to ws)) z xs h n k
read st w z (Renew how ∷ xs) h n k = read (act st (Renew how)) (waves_after st w (Renew how)) z xs h n k

pub wave_tables : WaveTables
wave_tables = record { answered = answered; good = good; good_only = good_only }

pub waves_right : WavesRight
waves_right = record { last = last; inside = inside; read = read; kept = kept; whole = whole }
