-- The four channels take their turns, each over the tables that the one before left. So for one of them what the others do is done
-- elsewhere in the tables, before its turn or after it. Assumes nothing.
use mathlib.Core.Path.{◌≡◌, refl}
use mathlib.Core.List.{List, [], ◌∷◌}
use Prim.Native.Nat.{ℕ, zero, suc, ◌<◌}
use native.Mathlib.Omega.{arith}
use lib.ListN.{length}
use Rattle.sum.specs.declared.Edition.{Edition}
use Rattle.sum.specs.declared.Edition.TheVariants.{First}
use Rattle.channel.specs.declared.Channel.{Channel}
use Rattle.channel.specs.Channel.{Side, side}
use Rattle.card.specs.declared.Card.{Card}
use Rattle.card.specs.Card.{channel_of, with_channels, on_all}
use Rattle.course.specs.Course as C
use Rattle.course.proofs.Acts.{run_length}

-- what happens on each channel, f, leaves the other channels' words of the tables
module _ (f : ℕ → List ℕ → Channel → Side)
    (beside : (b c : ℕ) (l : List ℕ) (ch : Channel) → (b ≡ c → ⊥) → C.elsewhere c l (f b l ch).tables ≡ (f b l ch).tables) (k : Card) (l : List ℕ) where
  -- channel c's turn comes over the tables mid
  pub record Turn (c : ℕ) : Type 0 where
    pub before : List C.Act
    pub after : List C.Act
    pub mid : List ℕ
    pub none : C.ticks_in before ≡ 0
    pub none_after : C.ticks_in after ≡ 0
    pub comes : (ed : Edition) → C.run ed c (side (channel_of k c) l) before ≡ side (channel_of k c) mid
    pub same : (f c mid (channel_of k c)).channel ≡ channel_of (with_channels k (on_all f k l).channels) c
    pub goes : (ed : Edition) → C.run ed c (f c mid (channel_of k c)) after ≡ side (channel_of (with_channels k (on_all f k l).channels) c) (on_all f k l).tables

  -- whichever the edition: no act before the turn is a tick
  pub mid_length : (c : ℕ) (y : Turn c) → length y.mid ≡ length l
  mid_length c y = cc (y.comes First, run_length First c (side (channel_of k c) l) y.before)

  -- the four turns
  abbrev one : Side
  one = f 0 l (channel_of k 0)

  abbrev two : Side
  two = f 1 one.tables (channel_of k 1)

  abbrev three : Side
  three = f 2 two.tables (channel_of k 2)

  abbrev four : Side
  four = f 3 three.tables (channel_of k 3)

  pub turn : (c : ℕ) → c < 4 → Turn c
  unfolding on_all
  turn zero h =
      record {
        before = [];
        after = C.Elsewhere two.tables ∷ C.Elsewhere three.tables ∷ C.Elsewhere four.tables ∷ [];
        mid = l;
        none = refl;
        none_after = refl;
        comes = λ ed. refl;
        same = refl;
        goes =
            λ ed. rw (
              beside 1 0 one.tables (channel_of k 1) (λ e. omega arith),
              beside 2 0 two.tables (channel_of k 2) (λ e. omega arith),
              beside 3 0 three.tables (channel_of k 3) (λ e. omega arith),
            );
      }
  turn (suc zero) h =
      record {
        before = C.Elsewhere one.tables ∷ [];
        after = C.Elsewhere three.tables ∷ C.Elsewhere four.tables ∷ [];
        mid = one.tables;
        none = refl;
        none_after = refl;
        comes = λ ed. rw (beside 0 1 l (channel_of k 0) (λ e. omega arith));
        same = refl;
        goes = λ ed. rw (beside 2 1 two.tables (channel_of k 2) (λ e. omega arith), beside 3 1 three.tables (channel_of k 3) (λ e. omega arith));
      }
  turn (suc (suc zero)) h =
      record {
        before = C.Elsewhere one.tables ∷ C.Elsewhere two.tables ∷ [];
        after = C.Elsewhere four.tables ∷ [];
        mid = two.tables;
        none = refl;
        none_after = refl;
        comes = λ ed. rw (beside 0 2 l (channel_of k 0) (λ e. omega arith), beside 1 2 one.tables (channel_of k 1) (λ e. omega arith));
        same = refl;
        goes = λ ed. rw (beside 3 2 three.tables (channel_of k 3) (λ e. omega arith));
      }
  turn (suc (suc (suc zero))) h =
      record {
        before = C.Elsewhere one.tables ∷ C.Elsewhere two.tables ∷ C.Elsewhere three.tables ∷ [];
        after = [];
        mid = three.tables;
        none = refl;
        none_after = refl;
        comes =
            λ ed. rw (
              beside 0 3 l (channel_of k 0) (λ e. omega arith),
              beside 1 3 one.tables (channel_of k 1) (λ e. omega arith),
              beside 2 3 two.tables (channel_of k 2) (λ e. omega arith),
            );
        same = refl;
        goes = λ ed. refl;
      }
  turn (suc (suc (suc (suc c)))) h = absurd (omega arith)
