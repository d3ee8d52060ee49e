-- Document 02, Seven: 'Each transfer's answer shall also carry the address of the first word not done; for numbers 1 to 3 this is the
-- start, and for 0 the address after the last word.' So a refused write is mended by writing on from there.
use Rattle.std.specs.Prelude.{◌≡◌, true, ◌&&◌, List, ◌++◌, ℕ, ◌+◌, ◌-◌, ◌≤◌, ◌<◌, leb, ltb, length, get_or, take, Some}
use Rattle.map.specs.declared.Region.{Region}
use Rattle.map.specs.Map.{region_of, register_of}
use Rattle.map.specs.Settings.{is_setting}
use Rattle.card.specs.Card.{State, state}
use Rattle.transfer.specs.declared.Reply.{Reply}
use Rattle.transfer.specs.declared.Written.{Written}
use Rattle.transfer.specs.Transfer.{out, filled, number_of, processed_of, Wrote, Reads}
use Rattle.history.specs.History.{read_back, done_from}
use Rattle.history.specs.Numbers.{first, to_write, WriteAnswered, ReadAnswered}
use Rattle.history.specs.Counted.{WordDone}
use Rattle.history.specs.Counts.{does_at}

-- ---- the address

-- the reply r to a transfer of count words from `start` on
pub record StopsAt (start count : ℕ) (r : Reply) : Type 0 where
  pub once : 1 ≤ number_of r.answer → number_of r.answer ≤ 3 → r.address ≡ start
  pub all : number_of r.answer ≡ 0 → r.address ≡ start + count
  -- 4: the address after the region's last
  pub beyond : (q : Region) → region_of start ≡ Some q → number_of r.answer ≡ 4 → r.address ≡ q.last + 1
  -- in every case
  pub sum : r.address ≡ start + processed_of r.answer
  pub fits : start < 65536 → r.address < 65536

-- ---- what a write has done, by address

-- the words of ws that a transfer has done, by its reply
abbrev pub done_by : Reply → List ℕ → List ℕ
done_by r ws = take (processed_of r.answer) ws

-- of a write of ws from `start` on: its word for address a, and the state that this word finds, those for the addresses below it done
abbrev pub word_for : ℕ → List ℕ → ℕ → ℕ
word_for start ws a = get_or ws (a - start) 0

abbrev pub below : State → ℕ → List ℕ → ℕ → State
below st start ws a = done_from st start (take (a - start) ws)

-- a write of ws from `start` on finds the state st, replies r and leaves the state y
pub record DoneBelow (st : State) (start : ℕ) (ws : List ℕ) (r : Reply) (y : State) : Type 0 where
  -- a word is done at each address from the start to before the one given, and at no other
  pub addresses : (a : ℕ) → does_at a start (done_by r ws) ≡ leb start a && ltb a r.address
  -- each with all its effects; there are 16,960 words of settings, by the type of what a call is lent
  pub each : length st.settings ≡ 16960 → (a : ℕ) → start ≤ a → a < r.address
      → WordDone (below st start ws a) a (word_for start ws a) (below st start ws (a + 1))
  pub leaves : y ≡ below st start ws r.address
  -- a setting at the address given reads as before
  pub kept : length st.settings ≡ 16960 → is_setting (register_of r.address) ≡ true → read_back y r.address ≡ read_back st r.address
  -- 4 to 8: the word for the address given is the one refused
  pub refused : 4 ≤ number_of r.answer → first (to_write (region_of start) y r.address (word_for start ws r.address)) ≡ number_of r.answer

-- and a read that leaves the words vs: each word from the start to before the address given stands in its place
abbrev pub ReadBelow : State → ℕ → Reply → List ℕ → Type 0
ReadBelow st start r vs = (a : ℕ) → start ≤ a → a < r.address → get_or vs (a - start) 0 ≡ read_back st a

-- ---- a call of a write, by its promise: what it hands back and leaves

pub record Call : Type 0 where
  pub back : Written
  pub settings : List ℕ
  pub tables : List ℕ

-- it is the write of the first count of ws, from `start` on, in the state st; of all of ws
abbrev pub Writes : State → ℕ → ℕ → List ℕ → Call → Type 0
Writes st start count ws x = Wrote st start count ws x.back x.settings x.tables

abbrev pub WritesAll : State → ℕ → List ℕ → Call → Type 0
WritesAll st start ws x = Writes st start (length ws) ws x

abbrev pub reply : Call → Reply
reply x = x.back.reply

abbrev pub after : Call → State
after x = state x.back.card x.settings x.tables

-- ---- writing on from there

-- the write of vs from the address that x gave
abbrev pub WritesOn : Call → List ℕ → Call → Type 0
WritesOn x vs y = WritesAll (after x) (reply x).address vs y

-- some words vs after n words from `start` on: they begin in the start's region, and all are no more than a transfer may have
pub record Follow (start n : ℕ) (vs : List ℕ) : Type 0 where
  pub some : 1 ≤ length vs
  pub count : n + length vs ≤ 16381
  pub region : Region
  pub found : region_of start ≡ Some region
  pub inside : start + n ≤ region.last

-- one write z is x and y, one after the other: it leaves the same, with the same number at the same address, and the words counted on
pub record Both (z x y : Call) : Type 0 where
  pub leaves : after z ≡ after y
  pub number : number_of (reply z).answer ≡ number_of (reply y).answer
  pub address : (reply z).address ≡ (reply y).address
  pub processed : processed_of (reply z).answer ≡ processed_of (reply x).answer + processed_of (reply y).answer

-- ---- of every transfer

-- a write: demand 1's answer, where it stopped, and what it has done
pub record WriteStops (st : State) (start count : ℕ) (ws : List ℕ) (x : Call) : Type 0 where
  pub answered : WriteAnswered st start count ws (out (after x) (reply x).answer)
  pub at : StopsAt start count (reply x)
  pub done : DoneBelow st start ws (reply x) (after x)

-- a read into ws that leaves vs
pub record ReadStops (st : State) (start count : ℕ) (ws : List ℕ) (r : Reply) (vs : List ℕ) : Type 0 where
  pub answered : ReadAnswered st start count ws (filled vs r.answer)
  pub at : StopsAt start count r
  pub done : ReadBelow st start r vs

-- a write z of ws and then vs is the write x of ws and, that being answered 0, the write of vs from the address it gave
pub record InParts (vs : List ℕ) (z x : Call) : Type 0 where
  pub on : number_of (reply x).answer ≡ 0 → (y : Call) → WritesOn x vs y → Both z x y
  pub stopped : 1 ≤ number_of (reply x).answer → (reply z ≡ reply x) × (after z ≡ after x)

pub record Stops : Type 0 where
  pub write : (st : State) (start count : ℕ) (ws : List ℕ) (x : Call) → Writes st start count ws x → WriteStops st start count ws x
  pub read : (st : State) (start count : ℕ) (ws : List ℕ) (r : Reply) (vs : List ℕ) → Reads st.settings st.card start count ws r vs → ReadStops st start count ws r vs
  -- in one region
  pub parts : (st : State) (start : ℕ) (ws vs : List ℕ) → 1 ≤ length ws → Follow start (length ws) vs
      → (z x : Call) → WritesAll st start (ws ++ vs) z → WritesAll st start ws x → InParts vs z x
  -- so a refused write is mended: vs, written from the address that x gave, are as if they had followed the words that x did
  pub mended : (st : State) (start count : ℕ) (ws vs : List ℕ) (x : Call) → Writes st start count ws x → Follow start (processed_of (reply x).answer) vs
      → (y z : Call) → WritesOn x vs y → WritesAll st start (done_by (reply x) ws ++ vs) z → Both z x y
