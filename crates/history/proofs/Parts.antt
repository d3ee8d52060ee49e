-- A write that is no trigger is a few acts of each channel, and no tick (`write_part`); it leaves phase, copy and pending level
-- (`part_keeps`). Assumes nothing.
use Rattle.std.specs.Prelude.{None}
use mathlib.Core.Path.{◌≡◌, refl, sym, ◌∙◌}
use mathlib.Core.Bool.{Bool, true, false}
use mathlib.Core.List.{List, [], ◌∷◌, ◌++◌}
use Prim.Native.Nat.{ℕ, ◌+◌, ◌<◌}
use native.Mathlib.Omega.{arith}
use lib.Dec.{eqb}
use lib.ListN.{length, set}
use borrow.Author.Tests.{eqb-true, eqb-false}
use Rattle.sum.specs.declared.Edition.{Edition}
use Rattle.sum.specs.declared.Edition.TheVariants.{First}
use Rattle.slots.specs.Slots.{erased}
use Rattle.channel.specs.Channel.{runs_of, output_to, overflow_cleared}
use Rattle.card.specs.declared.Card.{Card}
use Rattle.card.specs.Card.{State, state, channel_of, with_channel, with_count}
use Rattle.transfer.specs.Transfer.{write_of}
use Rattle.course.specs.Course as C
use Rattle.course.proofs.Acts.{untimed_ramp}
use Rattle.course.proofs.Appends.{run_append, ticks_append}
use Rattle.history.specs.History.{words_done, manual_among}
use Rattle.history.specs.Effects.{Does, Keeps, Outputs, ClearsOverflow, ClearsCount, Erases, Idles, Triggers}
use Rattle.history.specs.Demand3.{side_at}
use Rattle.history.proofs.Cards.{channel_same, channel_other, channel_many, count_channels}
use Rattle.history.proofs.Effects.{passed_does}
use Rattle.history.proofs.Writing.{write_by}

-- acts of the channel, no tick among them
pub record Part (c : ℕ) (x y : State) : Type 0 where
  pub acts : List C.Act
  pub none : C.ticks_in acts ≡ 0
  pub runs : (ed : Edition) → C.run ed c (side_at x c) acts ≡ side_at y c
  pub settled : length y.card.channels ≡ 4

nothing : (c : ℕ) (x : State) → length x.card.channels ≡ 4 → Part c x x
nothing c x f = record { acts = []; none = refl; runs = λ ed. refl; settled = f }

then : (c : ℕ) (x y z : State) → Part c x y → Part c y z → Part c x z
then c x y z p q =
    record {
      acts = p.acts ++ q.acts;
      none = ticks_append p.acts q.acts ∙ omega (arith, p.none, q.none);
      runs = λ ed. cc (run_append ed c (side_at x c) p.acts q.acts, p.runs ed, q.runs ed);
      settled = q.settled;
    }

module _ (c : ℕ) (inside : c < 4) (st : State) (four : length st.card.channels ≡ 4) where
  output_part : (d v : ℕ) → runs_of (channel_of st.card d) ≡ false
      → Part c st (state (with_channel st.card d (output_to (channel_of st.card d) v)) st.settings st.tables)
  unfolding C.written
  output_part d v e = go (eqb c d) refl
    where
      new : Card
      new = with_channel st.card d (output_to (channel_of st.card d) v)

      many : length new.channels ≡ 4
      many = channel_many st.card d (output_to (channel_of st.card d) v) ∙ four

      mine : c ≡ d → C.written v (channel_of st.card c) ≡ channel_of new c
      mine f = rw (f, e) (sym (channel_same st.card d (output_to (channel_of st.card d) v) (rw f at inside) four))

      go : (b : Bool) → eqb c d ≡ b → Part c st (state new st.settings st.tables)
      go true f =
          record {
            acts = C.Output v ∷ [];
            none = refl;
            runs = λ ed. cc (mine (eqb-true c d f));
            settled = many;
          }
      go false f =
          record {
            acts = [];
            none = refl;
            runs = λ ed. cc (channel_other st.card d (output_to (channel_of st.card d) v) c (eqb-false c d f));
            settled = many;
          }

  clear_part : (d : ℕ) → Part c st (state (with_channel st.card d (overflow_cleared (channel_of st.card d))) st.settings st.tables)
  clear_part d = go (eqb c d) refl
    where
      new : Card
      new = with_channel st.card d (overflow_cleared (channel_of st.card d))

      many : length new.channels ≡ 4
      many = channel_many st.card d (overflow_cleared (channel_of st.card d)) ∙ four

      mine : c ≡ d → overflow_cleared (channel_of st.card c) ≡ channel_of new c
      mine f = rw f (sym (channel_same st.card d (overflow_cleared (channel_of st.card d)) (rw f at inside) four))

      go : (b : Bool) → eqb c d ≡ b → Part c st (state new st.settings st.tables)
      go true f = record { acts = C.Clear ∷ []; none = refl; runs = λ ed. cc (mine (eqb-true c d f)); settled = many }
      go false f =
          record {
            acts = [];
            none = refl;
            runs = λ ed. cc (channel_other st.card d (overflow_cleared (channel_of st.card d)) c (eqb-false c d f));
            settled = many;
          }

  count_part : (level : ℕ) → Part c st (state (with_count st.card level 0) st.settings st.tables)
  count_part level =
      let e = count_channels st.card level 0 in
      record { acts = []; none = refl; runs = λ ed. rw e; settled = rw e four }

  still : (s : List ℕ) → Part c st (state st.card s st.tables)
  still s = record { acts = []; none = refl; runs = λ ed. refl; settled = four }

  word_part : (a v : ℕ) (y : State) → (a ≡ 0x4202 → ⊥) → Does st a v y → Part c st y
  word_part a v y n (Keeps i e) = rw e (still (set st.settings a v))
  word_part a v y n (Outputs d h i f e) = rw e (output_part d v f)
  word_part a v y n (ClearsOverflow d h i e) = rw e (clear_part d)
  word_part a v y n (ClearsCount l h i e) = rw e (count_part l)
  word_part a v y n (Erases i f e) = rw e (still (erased st.settings))
  word_part a v y n (Idles i f e) = rw e (nothing c st four)
  word_part a v y n (Triggers i f e) = absurd (n i)

-- no word done at 0x4202: the first is elsewhere, and so are the others
pub none_first : (a v : ℕ) (vs : List ℕ) → manual_among a (v ∷ vs) ≡ None → (a ≡ 0x4202 → ⊥) × (manual_among (a + 1) vs ≡ None)
none_first a v vs = grind arith

-- A WRITE THAT DOES NO WORD AT 0x4202 IS A FEW ACTS OF EACH CHANNEL, AND NO TICK
pub write_part : (c : ℕ) → c < 4 → (st : State) (start count : ℕ) (ws : List ℕ) → length st.card.channels ≡ 4
    → manual_among start (words_done st start count ws) ≡ None → Part c st (write_of st start count ws).state
write_part c h =
    write_by (λ st a vs z. length st.card.channels ≡ 4 → manual_among a vs ≡ None → Part c st z) (λ st a f q. nothing c st f)
    (λ st a v vs z p r f q. let y = none_first a v vs q in
    let w = word_part c h st f a v _ y.0 (passed_does st a v p) in
    then c st _ z w (r w.settled y.1))

-- what acts without a tick leave of a channel
pub record PartKept (c : ℕ) (x y : State) : Type 0 where
  pub phase : (channel_of y.card c).phase ≡ (channel_of x.card c).phase
  pub loaded : (channel_of y.card c).loaded ≡ (channel_of x.card c).loaded
  pub level : (channel_of y.card c).level ≡ (channel_of x.card c).level

pub part_keeps : (c : ℕ) (x y : State) → Part c x y → PartKept c x y
part_keeps c x y p =
    let r = untimed_ramp First c (side_at x c) p.acts p.none in
    record {
      phase = cc (p.runs First);
      loaded = cc (p.runs First);
      level = cc (p.runs First);
    }
