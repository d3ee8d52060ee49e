-- 'Checked examples': every starred case in one table. The samples are those of `sum`.
use Rattle.std.specs.Prelude.{◌≡◌, List, [], ◌∷◌, ◌++◌, map, ℕ, zero, suc, ◌-◌, ◌<◌, length, get_or}
use Rattle.sum.specs.declared.Edition.{Edition}
use Rattle.sum.specs.Starred as samples
use Rattle.slots.specs.Slots.{slot_of}
use Rattle.map.specs.Addresses.{delay_at}
use Rattle.channel.specs.declared.Channel.{Channel}
use Rattle.channel.specs.Channel.{Side, word, load, start, sounded_side, tick_of, triggered}
use Rattle.card.specs.Card.{State}
use Rattle.transfer.specs.Transfer.{number_of, processed_of, write_of}

-- ---- a delay: the ticks after the trigger on which the channel loads and starts

pub record Delay : Type 0 where
  pub delay : ℕ
  pub loads : ℕ
  pub starts : ℕ

-- n ticks of one channel of a card of an edition, under settings s and wave tables w that stay
unfoldable pub ticked : Edition → ℕ → List ℕ → List ℕ → ℕ → Side → Side
ticked edition zero s w c x = x
ticked edition (suc n) s w c x = ticked edition n s w c (tick_of edition s w x.tables c x.channel)

-- whatever the channel does, a trigger of a level with this delay leads to a load on its tick and to a start on its tick
pub record Comes (d : Delay) : Type 0 where
  pub load_on : (edition : Edition) (s w l : List ℕ) (c : ℕ) (ch : Channel) (level : ℕ) → word s (delay_at c level) ≡ d.delay
      → ticked edition d.loads s w c (triggered s l c ch level) ≡ load s l c ch level
  pub start_on : (edition : Edition) (s w l : List ℕ) (c : ℕ) (ch : Channel) (level : ℕ) → word s (delay_at c level) ≡ d.delay
      → ticked edition d.starts s w c (triggered s l c ch level)
      ≡ sounded_side w c (start edition s (load s l c ch level).tables c (ticked edition (d.starts - 1) s w c (triggered s l c ch level)).channel)

-- ---- a transfer: words written from a start on, to a state of which something is given

-- '0x4000 holds 0x10', and no slot holds 0x11
pub record Holding (st : State) : Type 0 where
  pub ten : slot_of st.settings 0 ≡ 0x10
  pub no_eleven : (n : ℕ) → n < 256 → slot_of st.settings n ≡ 0x11 → ⊥

pub data Given : Type 0 where
  nothing : Given
  held : Given

abbrev pub Of : Given → State → Type 0
Of nothing st = Unit
Of held st = Holding st

-- the number and the words processed, and an address that is left as it was
pub record Answers (start : ℕ) (words : List ℕ) (number processed untouched : ℕ) (st : State) : Type 0 where
  pub number_is : number_of (write_of st start (length words) words).answer ≡ number
  pub processed_is : processed_of (write_of st start (length words) words).answer ≡ processed
  pub stays : get_or (write_of st start (length words) words).state.settings untouched 0 ≡ get_or st.settings untouched 0

-- ---- the table

pub data Case : Type 0 where
  ramp : samples.Case → Case
  delay : ℕ → ℕ → ℕ → Case
  write : Given → ℕ → List ℕ → ℕ → ℕ → ℕ → Case

-- v is the word written at 0x007F, whatever it is
abbrev pub others : ℕ → List Case
others v =
    delay 0 0 10
    ∷ delay 10 0 10
    ∷ delay 11 1 11
    ∷ write nothing 0x07FE (1 ∷ 0 ∷ 1 ∷ 1 ∷ []) 4 2 0x0800
    ∷ write nothing 0x007F (v ∷ []) 5 0 0x007F
    ∷ write held 0x4008 (0x11 ∷ 0x10 ∷ 0x12 ∷ []) 7 1 0x4009
    ∷ []

abbrev pub starred : ℕ → List Case
starred v = map ramp samples.starred_samples ++ others v

-- ---- what a case says

abbrev pub Holds : Case → Type 0
Holds (ramp c) = samples.samples_given c ≡ c
Holds (delay d l s) = Comes (record { delay = d; loads = l; starts = s })
Holds (write g a ws n p u) = (st : State) → Of g st → Answers a ws n p u st

abbrev pub Each : List Case → Type 0
Each [] = Unit
Each (c ∷ cs) = Holds c × Each cs
