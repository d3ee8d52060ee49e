-- The card: its edition, four channels, the level counts, the active trigger and the pending one; beside it the lent words. The wave tables,
-- which only ticks read, are beside the state.
use Rattle.std.specs.Prelude.{◌≡◌, Bool, ◌||◌, cond, List, [], ◌∷◌, ℕ, ltb, get_or, set}
use Rattle.channel.specs.declared.Channel.{Channel}
use Rattle.channel.specs.declared.Phase.TheVariants.{Rest}
use Rattle.channel.specs.Ramp.{place}
use Rattle.channel.specs.Channel.{Side, no_tone}
use Rattle.card.specs.declared.Card.{Card}

-- the whole state: the card, the settings by address, and the four loaded tables
pub record State : Type 0 where
  pub card : Card
  pub settings : List ℕ
  pub tables : List ℕ

abbrev pub state : Card → List ℕ → List ℕ → State
state k s l = record { card = k; settings = s; tables = l }

-- ---- a call: the state that it finds, and the one that it leaves

-- the card handed over, the settings and the tables lent
abbrev pub before : Card → List ℕ → List ℕ → State
before k settings tables = state k settings tables

-- the card handed back and the tables left are those of a state; the settings stay
abbrev pub Leaves : State → Card → List ℕ → Type 0
Leaves st k tables = (k ≡ st.card) × (tables ≡ st.tables)

-- the same of a call that may write the settings too
abbrev pub LeavesWhole : State → Card → List ℕ → List ℕ → Type 0
LeavesWhole st k settings tables = (k ≡ st.card) × (settings ≡ st.settings) × (tables ≡ st.tables)

-- ---- the card's parts

-- a channel that is not there
abbrev pub no_channel : Channel
no_channel =
    record {
      phase = Rest;
      level = 0;
      loaded = record { table = 0; scale = 0; offset = 0; tone = no_tone };
      shown = record { amplitude = 0; place = place 0 0 };
      signal = record { output = 0; overflow = 0; counter = 0 };
    }

-- channel c
abbrev pub channel_of : Card → ℕ → Channel
channel_of k c = cond (ltb c 4) (get_or k.channels c no_channel) no_channel

-- the card with another channel c, with another count, with other channels
abbrev pub with_channel : Card → ℕ → Channel → Card
with_channel k c ch = cond (ltb c 4) (record { edition = k.edition; channels = set k.channels c ch; counts = k.counts; active = k.active; pending = k.pending }) k

abbrev pub count_of : Card → ℕ → ℕ
count_of k level = cond (ltb level 32) (get_or k.counts level 0) 0

abbrev pub with_count : Card → ℕ → ℕ → Card
with_count k level n = cond (ltb level 32) (record { edition = k.edition; channels = k.channels; counts = set k.counts level n; active = k.active; pending = k.pending }) k

abbrev pub with_channels : Card → List Channel → Card
with_channels k chs = record { edition = k.edition; channels = chs; counts = k.counts; active = k.active; pending = k.pending }

-- what happens on each channel, one after the other, over the loaded tables
pub record All : Type 0 where
  pub channels : List Channel
  pub tables : List ℕ

unfoldable pub on_all : (ℕ → List ℕ → Channel → Side) → Card → List ℕ → All
on_all f k l =
    let a : Side = f 0 l (channel_of k 0) in
    let b : Side = f 1 a.tables (channel_of k 1) in
    let c : Side = f 2 b.tables (channel_of k 2) in
    let d : Side = f 3 c.tables (channel_of k 3) in
    record { channels = a.channel ∷ b.channel ∷ c.channel ∷ d.channel ∷ []; tables = d.tables }

-- what is so of some channel: 'on whichever channel'
abbrev pub on_some : (ℕ → Bool) → Bool
on_some f = f 0 || f 1 || f 2 || f 3

-- the four channels handed back, in a card that is else `k`, and the tables left
abbrev pub LeavesAll : All → Card → Card → List ℕ → Type 0
LeavesAll x k r tables = (r ≡ with_channels k x.channels) × (tables ≡ x.tables)
