-- Document 02, Two: 'the wave table is handed in whole as 1,024 words, each −16384 to 16384'.
use Rattle.std.specs.Prelude.{◌≡◌, Bool, not, ◌&&◌, ◌||◌, cond, List, ℕ, ltb, eqb, pos, neg_ℤ, length, Result, Ok, Err}
use Rattle.std.specs.Int.Signed.{lt_z}
use Rattle.word.specs.Word.{signed_of}
use Rattle.word.specs.Copy.{copied}
use Rattle.word.specs.Every.{every}
use Rattle.wave.specs.Sine.{entries, wave_of}
use Rattle.channel.specs.Channel.{runs_of}
use Rattle.card.specs.declared.Card.{Card}
use Rattle.card.specs.Card.{channel_of}
use Rattle.wavetable.specs.declared.Refusal.{Refusal}
use Rattle.wavetable.specs.declared.Refusal.TheVariants.{Bad, Running}

-- 'each −16384 to 16384'
abbrev pub in_wave : ℕ → Bool
in_wave v = not (lt_z (signed_of v) (neg_ℤ (pos 16384))) && not (lt_z (pos 16384) (signed_of v))

abbrev pub all_in_wave : List ℕ → Bool
all_in_wave ws = every in_wave ws

-- 9: 'for a channel above 3, a wrong length or a word out of range'
abbrev pub bad_table : ℕ → List ℕ → Bool
bad_table c ws = ltb 3 c || (not (eqb (length ws) entries) || not (all_in_wave ws))

-- the wave tables after it, and its answer
pub record Handed : Type 0 where
  pub waves : List ℕ
  pub reply : Result Unit Refusal

abbrev pub handed : List ℕ → Result Unit Refusal → Handed
handed w r = record { waves = w; reply = r }

-- 'first 9, .. then 8', for a channel that 'runs or free-runs'; 'neither changes anything'
unfoldable pub hand_of : Card → List ℕ → ℕ → List ℕ → Handed
hand_of k w c ws = cond (bad_table c ws) (handed w (Err Bad)) (cond (runs_of (channel_of k c)) (handed w (Err Running)) (handed (copied entries ws 0 w (wave_of c)) (Ok tt)))

-- the answer handed back, and the wave tables left
abbrev pub Hands : Handed → Result Unit Refusal → List ℕ → Type 0
Hands x r waves = (r ≡ x.reply) × (waves ≡ x.waves)

-- document 02's number of each answer
abbrev pub reply_number : Result Unit Refusal → ℕ
reply_number (Ok tt) = 0
reply_number (Err Bad) = 9
reply_number (Err Running) = 8
