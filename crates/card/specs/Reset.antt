-- 'After a reset'; and document 02, Six: 'The edition is chosen with the fresh card and survives a reset'.
use Rattle.std.specs.Prelude.{List, [], ◌∷◌, ℕ, replicate}
use Rattle.slots.specs.Slots.{filled, erased}
use Rattle.sum.specs.declared.Edition.{Edition}
use Rattle.map.specs.Addresses.{scale_at}
use Rattle.channel.specs.Channel.{reset_channel}
use Rattle.card.specs.declared.Card.{Card}
use Rattle.card.specs.Card.{State, state}
use Rattle.card.specs.Active.{cause}

-- 'scale factors 0x0100', of channel c
abbrev pub scales_reset : ℕ → List ℕ → List ℕ
scales_reset c s = filled 32 s (scale_at c 0) 0x0100

-- 'scale factors 0x0100', 'trigger slots .. are 0xFE', 'all else 0': 0x4240 words, one for every address up to the map's last
unfoldable pub settings_reset : List ℕ → List ℕ
settings_reset s = erased (scales_reset 3 (scales_reset 2 (scales_reset 1 (scales_reset 0 (filled 0x4240 s 0 0)))))

unfoldable pub tables_reset : List ℕ → List ℕ
tables_reset l = filled 512 l 0 0

-- the wave table 'resets to zeros', on each channel
unfoldable pub waves_reset : List ℕ → List ℕ
waves_reset w = filled 4096 w 0 0

-- '0x4211 .. 0xFE', 'all else 0', 'no countdown, no ramp'
unfoldable pub card_reset : Edition → Card
card_reset edition =
    record {
      edition = edition;
      channels = reset_channel ∷ reset_channel ∷ reset_channel ∷ reset_channel ∷ [];
      counts = replicate 32 0;
      active = cause 0 0xFE;
      pending = cause 0 0xFE;
    }

-- a fresh card of an edition, whatever the lent words were before
abbrev pub fresh_of : Edition → List ℕ → List ℕ → State
fresh_of edition s l = state (card_reset edition) (settings_reset s) (tables_reset l)

-- a reset makes a card fresh and keeps its edition
abbrev pub reset_of : State → State
reset_of st = fresh_of st.card.edition st.settings st.tables
