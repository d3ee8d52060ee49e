-- The wave tables in a history: only a table that is taken and a reset write them, every tick reads them as they are then, and a channel that
-- runs or free-runs keeps its own.
use Rattle.std.specs.Prelude.{◌≡◌, true, false, cond, List, [], ◌∷◌, ℕ, suc, ◌+◌, ◌≤◌, ◌<◌, eqb, length, get_or, replicate, Result, Ok, Err}
use Rattle.word.specs.Word.{signed_of}
use Rattle.sum.specs.declared.Edition.{Edition}
use Rattle.wave.specs.Sine.{entries, wave_of, wave_at}
use Rattle.wave.specs.Laws.{InWave}
use Rattle.channel.specs.Channel.{runs_of}
use Rattle.card.specs.declared.Card.{Card}
use Rattle.card.specs.Card.{State, channel_of}
use Rattle.card.specs.Reset.{waves_reset, fresh_of}
use Rattle.wavetable.specs.Hand.{Handed, bad_table, hand_of, reply_number}
use Rattle.history.specs.History.{Act, Tick, Write, Ask, HandIn, Renew, act, is_reset, ticks_in, until, waves_on}
use Rattle.history.specs.Numbers.{case, first}
use Rattle.wavetable.specs.declared.Refusal.{Refusal}
use Rattle.wavetable.specs.declared.Refusal.TheVariants.{Bad, Running}

-- ---- one wave table handed in: 'first 9, for a channel above 3, a wrong length or a word out of range, then 8; neither changes anything'

-- the case of 9, in the paper's words: what is not bad
pub record GoodTable (c : ℕ) (ws : List ℕ) : Type 0 where
  pub there : c ≤ 3
  pub whole : length ws ≡ entries
  pub inside : (i : ℕ) → i < entries → InWave (signed_of (get_or ws i 0))

-- a table for channel c comes to o
pub record HandedIn (k : Card) (w : List ℕ) (c : ℕ) (ws : List ℕ) (o : Handed) : Type 0 where
  pub number : reply_number o.reply ≡ first (case 9 (bad_table c ws) ∷ case 8 (runs_of (channel_of k c)) ∷ [])
  -- refused: nothing changes
  pub refused : (reply_number o.reply ≡ 0 → ⊥) → o.waves ≡ w
  -- taken: the channel's 1,024 words are these, and every other word stays
  pub taken : reply_number o.reply ≡ 0 → length w ≡ 4096 → (i : ℕ) → i < entries → get_or o.waves (wave_of c + i) 0 ≡ get_or ws i 0
  pub others : (i : ℕ) → (wave_of c ≤ i → i < wave_of c + entries → ⊥) → get_or o.waves i 0 ≡ get_or w i 0
  pub many : length o.waves ≡ length w

pub record WaveTables : Type 0 where
  pub answered : (k : Card) (w : List ℕ) (c : ℕ) (ws : List ℕ) → HandedIn k w c ws (hand_of k w c ws)
  pub good : (c : ℕ) (ws : List ℕ) → bad_table c ws ≡ false → GoodTable c ws
  pub good_only : (c : ℕ) (ws : List ℕ) → GoodTable c ws → bad_table c ws ≡ false

-- ---- in a history

-- what an act in the state st leaves of the wave tables w
abbrev pub waves_after : State → List ℕ → Act → List ℕ
waves_after st w (Tick waves event) = w
waves_after st w (Write start count ws) = w
waves_after st w (Ask what) = w
waves_after st w (HandIn to ws) = (hand_of st.card w to ws).waves
waves_after st w (Renew how) = waves_reset w

abbrev pub waves_in : State → List ℕ → List Act → List ℕ
waves_in st w [] = w
waves_in st w (x ∷ xs) = waves_in (act st x) (waves_after st w x) xs

-- every tick is lent the wave tables as the acts before it left them
abbrev pub LentAsLeft : State → List ℕ → List Act → Type 0
LentAsLeft st w [] = Unit
LentAsLeft st w (Tick waves event ∷ xs) = (waves ≡ w) × LentAsLeft (act st (Tick waves event)) w xs
LentAsLeft st w (Write start count ws ∷ xs) = LentAsLeft (act st (Write start count ws)) w xs
LentAsLeft st w (Ask what ∷ xs) = LentAsLeft st w xs
LentAsLeft st w (HandIn to ws ∷ xs) = LentAsLeft st (waves_after st w (HandIn to ws)) xs
LentAsLeft st w (Renew how ∷ xs) = LentAsLeft (act st (Renew how)) (waves_after st w (Renew how)) xs

-- channel c's last wave table: a taken one, zeros after a reset, t before the acts
abbrev pub taken_for : ℕ → ℕ → List ℕ → Result Unit Refusal → List ℕ → List ℕ
taken_for c to ws (Ok tt) t = cond (eqb c to) ws t
taken_for c to ws (Err Bad) t = t
taken_for c to ws (Err Running) t = t

abbrev pub table_by : ℕ → State → List ℕ → Act → List ℕ → List ℕ
table_by c st w (Tick waves event) t = t
table_by c st w (Write start count ws) t = t
table_by c st w (Ask what) t = t
table_by c st w (HandIn to ws) t = taken_for c to ws (hand_of st.card w to ws).reply t
table_by c st w (Renew how) t = replicate entries 0

abbrev pub last_table : ℕ → State → List ℕ → List Act → List ℕ → List ℕ
last_table c st w [] t = t
last_table c st w (x ∷ xs) t = last_table c (act st x) (waves_after st w x) xs (table_by c st w x t)

-- channel c runs or free-runs before each of the acts, and none is a reset
abbrev pub RunsThrough : ℕ → State → List Act → Type 0
RunsThrough c st [] = Unit
RunsThrough c st (x ∷ xs) = (is_reset x ≡ false) × (runs_of (channel_of st.card c) ≡ true) × RunsThrough c (act st x) xs

-- of 4,096 words, as every call has them by type
pub record WavesRight : Type 0 where
  -- after any history of a fresh card a channel's wave table is the last one taken, zeros where there is none
  pub last : (edition : Edition) (s l w : List ℕ) → length w ≡ 4096 → (xs : List Act) (c : ℕ) → c < 4 → (i : ℕ) → i < entries
      → get_or (waves_in (fresh_of edition s l) (waves_reset w) xs) (wave_of c + i) 0 ≡ get_or (last_table c (fresh_of edition s l) (waves_reset w) xs (replicate entries 0)) i 0
  -- and all its words are in range
  pub inside : (edition : Edition) (s l w : List ℕ) → length w ≡ 4096 → (xs : List Act) (c : ℕ) → c < 4 → (i : ℕ) → i < entries
      → InWave (wave_at (waves_in (fresh_of edition s l) (waves_reset w) xs) c i)
  -- where every tick is lent them as they were left, tick n + 1 reads what the acts before it left
  pub read : (st : State) (w z : List ℕ) (xs : List Act) → LentAsLeft st w xs → (n : ℕ) → n < ticks_in xs → waves_on z (suc n) xs ≡ waves_in st w (until (suc n) xs)
  -- no ramp that runs or free-runs sees its wave table change
  pub kept : (st : State) (w : List ℕ) (x : Act) → is_reset x ≡ false → (c : ℕ) → c < 4 → runs_of (channel_of st.card c) ≡ true
      → (i : ℕ) → i < entries → get_or (waves_after st w x) (wave_of c + i) 0 ≡ get_or w (wave_of c + i) 0
  -- so all samples of a ramp, and of its free run, read one table
  pub whole : (st : State) (w : List ℕ) (xs : List Act) (c : ℕ) → c < 4 → RunsThrough c st xs → (i : ℕ) → i < entries
      → get_or (waves_in st w xs) (wave_of c + i) 0 ≡ get_or w (wave_of c + i) 0
