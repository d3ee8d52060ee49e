-- What a write in channel c's block may alter: that channel's output and amplitude, its overflow count, and the settings of the block.
use Rattle.std.specs.Prelude.{◌≡◌, List, ℕ, ◌+◌, ◌≤◌, ◌<◌, length}
use Rattle.map.specs.Map.{base}
use Rattle.channel.specs.Channel.{word}
use Rattle.card.specs.Card.{State, channel_of}
use Rattle.transfer.specs.Transfer.{write_of}

-- an address of channel c
abbrev pub InBlock : ℕ → ℕ → Type 0
InBlock c a = (base c ≤ a) × (a < base c + 0x1000)

-- y is x but for channel c, and of that channel the ramp, the pending level, what is loaded, the last place and the counter are as they were
pub record But (c : ℕ) (x y : State) : Type 0 where
  pub others : (j : ℕ) → (j ≡ c → ⊥) → channel_of y.card j ≡ channel_of x.card j
  pub phase : (channel_of y.card c).phase ≡ (channel_of x.card c).phase
  pub level : (channel_of y.card c).level ≡ (channel_of x.card c).level
  pub loaded : (channel_of y.card c).loaded ≡ (channel_of x.card c).loaded
  pub place : (channel_of y.card c).shown.place ≡ (channel_of x.card c).shown.place
  pub counter : (channel_of y.card c).signal.counter ≡ (channel_of x.card c).signal.counter
  pub counts : y.card.counts ≡ x.card.counts
  pub active : y.card.active ≡ x.card.active
  pub pending : y.card.pending ≡ x.card.pending
  pub tables : y.tables ≡ x.tables
  pub settings : (a : ℕ) → (InBlock c a → ⊥) → word y.settings a ≡ word x.settings a

-- a write that starts in channel c's block touches that channel alone
unfoldable pub Frame : Type 0
Frame = (c : ℕ) → c < 4 → (st : State) (start count : ℕ) (ws : List ℕ) → InBlock c start → But c st (write_of st start count ws).state

-- a write anywhere keeps the lengths
pub record SameLengths (x y : State) : Type 0 where
  pub settings : length y.settings ≡ length x.settings
  pub tables : length y.tables ≡ length x.tables

unfoldable pub LengthsKept : Type 0
LengthsKept = (st : State) (start count : ℕ) (ws : List ℕ) → SameLengths st (write_of st start count ws).state
