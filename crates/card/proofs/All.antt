-- Four channels, one after the other, each over the tables that the one before left; and both passes of a tick are four whole ticks, one
-- channel's after the other's (`two_passes`). Assumes nothing.
use Rattle.std.proofs.Common.{◌≡◌, refl, ap, subst, ◌∙◌, ℕ, zero, suc, ◌+◌, List, [], ◌∷◌, length, add-one, arith, get_or}
use Rattle.std.proofs.Math.ListN.{set}
use Rattle.channel.specs.declared.Channel.{Channel}
use Rattle.channel.specs.Channel.{Side, tick_of}
use Rattle.card.specs.declared.Card.{Card}
use Rattle.card.specs.Card.{State, All, no_channel, with_channels, on_all}
use Rattle.card.specs.Tick.{first_pass, second_pass, both_passes}

-- a channel and its tables are those of a side
pub record Made (ch : Channel) (l : List ℕ) (s : Side) : Type 0 where
  pub channel : ch ≡ s.channel
  pub tables : l ≡ s.tables

module _ (f : ℕ → List ℕ → Channel → Side) where
  -- the first n of some channels done
  unfoldable pub done : List Channel → List ℕ → ℕ → All
  done chs l zero = record { channels = chs; tables = l }
  done chs l (suc n) =
      let a : All = done chs l n in
      let s : Side = f n a.tables (get_or a.channels n no_channel) in
      record { channels = set a.channels n s.channel; tables = s.tables }

  module _ (k : Card) (l : List ℕ) where
    -- a card and the tables, the first n of the channels done
    pub record Done (k' : Card) (l' : List ℕ) (n : ℕ) : Type 0 where
      pub card : k' ≡ with_channels k (done k.channels l n).channels
      pub tables : l' ≡ (done k.channels l n).tables

    pub none : Done k l 0
    unfolding done
    none = record { card = refl; tables = refl }

    pub more : (n : ℕ) {k' : Card} {m m' : List ℕ} {ch : Channel} → Done k' m n → Made ch m' (f n m (get_or k'.channels n no_channel)) → Done (with_channels k' (set k'.channels n ch)) m' (n + 1)
    unfolding done
    more n {k'} {m} {m'} {ch} d s =
        let g = λ (x : Card). λ (t : List ℕ). f n t (get_or x.channels n no_channel) in
        let e : g k' m ≡ g (with_channels k (done k.channels l n).channels) (done k.channels l n).tables = rw (d.card, d.tables) in
        rw add-one
        (record {
          card = ap (λ (x : Card). with_channels x (set x.channels n ch)) d.card ∙ ap (λ (x : Channel). with_channels k (set (done k.channels l n).channels n x)) (s.channel ∙ ap (λ (x : Side). x.channel) e);
          tables = s.tables ∙ ap (λ (x : Side). x.tables) e;
        })

    four : (chs : List Channel) → length chs ≡ 4 → done chs l 4 ≡ on_all f (with_channels k chs) l
    unfolding done on_all
    four (a ∷ b ∷ c ∷ d ∷ []) h = refl
    four [] h = absurd (omega (arith, h))
    four (a ∷ []) h = absurd (omega (arith, h))
    four (a ∷ b ∷ []) h = absurd (omega (arith, h))
    four (a ∷ b ∷ c ∷ []) h = absurd (omega (arith, h))
    four (a ∷ b ∷ c ∷ d ∷ e ∷ r) h = absurd (omega (arith, h))

    pub all_four : {k' : Card} {l' : List ℕ} {n : ℕ} → length k.channels ≡ 4 → n ≡ 4 → Done k' l' n → (k' ≡ with_channels k (on_all f k l).channels) × (l' ≡ (on_all f k l).tables)
    unfolding on_all
    all_four {k'} {l'} h e x =
        let P : ℕ → Type 0 = λ m. Done k' l' m in
        let d : Done k' l' 4 = subst P e x in
        let g = four k.channels h in
        (d.card ∙ ap (λ (x : All). with_channels k x.channels) g, d.tables ∙ ap (λ (x : All). x.tables) g)

-- both passes: a channel's output is made of its own sample, so it does not matter that the other ramps move in between
pub two_passes : (w : List ℕ) (st : State) → both_passes w st ≡ on_all (λ c l ch. tick_of st.card.edition st.settings w l c ch) st.card st.tables
unfolding first_pass second_pass on_all tick_of
two_passes w st = refl
