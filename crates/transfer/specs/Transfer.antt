-- 'Transfers and their numbers'.
use Rattle.std.specs.Prelude.{◌≡◌, Bool, true, false, ◌||◌, cond, List, [], ◌∷◌, ℕ, zero, suc, ◌+◌, ltb, eqb, set, length, take, Option, Some, None, Result, Ok, Err}
use Rattle.map.specs.declared.Access.{Access}
use Rattle.map.specs.declared.Access.TheVariants as A
use Rattle.map.specs.Map.{region_of}
use Rattle.card.specs.declared.Card.{Card}
use Rattle.card.specs.Card.{State}
use Rattle.transfer.specs.declared.Why.{Why}
use Rattle.transfer.specs.declared.Why.TheVariants.{Fixed, Value, Held, Running}
use Rattle.transfer.specs.declared.Reply.{Reply}
use Rattle.transfer.specs.declared.Written.{Written}
use Rattle.transfer.specs.Word.{write_word, read_word}
use Rattle.map.specs.declared.Region.{Region}
use Rattle.transfer.specs.declared.Refusal.{Refusal}
use Rattle.transfer.specs.declared.Refusal.TheVariants.{BadCount, NoRegion, NoAccess, Beyond, Word}

-- ---- the paper's number of each answer, the words processed, and the address of the first word not done

abbrev pub why_number : Why → ℕ
why_number Fixed = 5
why_number Value = 6
why_number Held = 7
why_number Running = 8

abbrev pub number_of : Result ℕ Refusal → ℕ
number_of (Ok n) = 0
number_of (Err BadCount) = 1
number_of (Err NoRegion) = 2
number_of (Err NoAccess) = 3
number_of (Err (Beyond n)) = 4
number_of (Err (Word why n)) = why_number why

abbrev pub processed_of : Result ℕ Refusal → ℕ
processed_of (Ok n) = n
processed_of (Err BadCount) = 0
processed_of (Err NoRegion) = 0
processed_of (Err NoAccess) = 0
processed_of (Err (Beyond n)) = n
processed_of (Err (Word why n)) = n

-- of a transfer from `start` on: 'for numbers 1 to 3 this is the start, and for 0 the address after the last word', else the refused word's
abbrev pub address_of : ℕ → Result ℕ Refusal → ℕ
address_of start (Ok n) = start + n
address_of start (Err BadCount) = start
address_of start (Err NoRegion) = start
address_of start (Err NoAccess) = start
address_of start (Err (Beyond n)) = start + n
address_of start (Err (Word why n)) = start + n

-- 'Each transfer's answer shall also carry the address'
abbrev pub reply_of : ℕ → Result ℕ Refusal → Reply
reply_of start w = record { answer = w; address = address_of start w }

-- ---- 'order: 1, 2, 3 once'

-- 1: 'count 0, above 16,381, or above the slice's length'
abbrev pub bad_count : ℕ → ℕ → Bool
bad_count count len = eqb count 0 || (ltb 16381 count || ltb len count)

-- 3: 'region lacks this access'
abbrev pub writable : Access → Bool
writable A.ReadWrite = true
writable A.Read = false
writable A.Write = true

abbrev pub readable : Access → Bool
readable A.ReadWrite = true
readable A.Read = true
readable A.Write = false

-- ---- a write: 'word by word, upwards, and stops at the first word refused'

pub record Out : Type 0 where
  pub state : State
  pub answer : Result ℕ Refusal

abbrev pub out : State → Result ℕ Refusal → Out
out st w = record { state = st; answer = w }

-- after a word: the rest, or the stop with i words done
abbrev pub go_on : Result Unit Why → State → ℕ → Out → Out
go_on (Ok tt) st i rest = rest
go_on (Err why) st i rest = out st (Err (Word why i))

-- the words from address a on, after i words, in a region up to `last`; 4 where the next word lies beyond it
unfoldable pub write_words : State → ℕ → ℕ → ℕ → List ℕ → Out
write_words st a last i [] = out st (Ok i)
write_words st a last i (v ∷ vs) =
    cond (ltb last a)
    (out st (Err (Beyond i)))
    (go_on (write_word st a v).verdict (write_word st a v).state i (write_words (write_word st a v).state (a + 1) last (i + 1) vs))

abbrev pub write_in : State → ℕ → ℕ → List ℕ → Option Region → Out
write_in st start count ws None = out st (Err NoRegion)
write_in st start count ws (Some r) = cond (writable r.access) (write_words st start r.last 0 (take count ws)) (out st (Err NoAccess))

unfoldable pub write_of : State → ℕ → ℕ → List ℕ → Out
write_of st start count ws = cond (bad_count count (length ws)) (out st (Err BadCount)) (write_in st start count ws (region_of start))

-- what the words of a write come to by value, and the settings and the tables that they leave
abbrev pub Ends : Out → Card → Result ℕ Refusal → List ℕ → List ℕ → Type 0
Ends o k w settings tables = (k ≡ o.state.card) × (w ≡ o.answer) × (settings ≡ o.state.settings) × (tables ≡ o.state.tables)

-- what a write from `start` on hands back by value
abbrev pub written : ℕ → Out → Written
written start o = record { card = o.state.card; reply = reply_of start o.answer }

-- a write of the first `count` of ws from `start` on: what it hands back, and the settings and tables that it leaves
abbrev pub Wrote : State → ℕ → ℕ → List ℕ → Written → List ℕ → List ℕ → Type 0
Wrote st start count ws r settings tables =
    (r ≡ written start (write_of st start count ws))
    × (settings ≡ (write_of st start count ws).state.settings)
    × (tables ≡ (write_of st start count ws).state.tables)

-- ---- a read: 'fills the slice's first processed words and has no other effect; the rest of the slice stays'

pub record Filled : Type 0 where
  pub words : List ℕ
  pub answer : Result ℕ Refusal

abbrev pub filled : List ℕ → Result ℕ Refusal → Filled
filled ws w = record { words = ws; answer = w }

-- n words from address a on, into place i of ws and on
unfoldable pub read_words : List ℕ → Card → ℕ → ℕ → ℕ → ℕ → List ℕ → Filled
read_words s k a last i zero ws = filled ws (Ok i)
read_words s k a last i (suc n) ws = cond (ltb last a) (filled ws (Err (Beyond i))) (read_words s k (a + 1) last (i + 1) n (set ws i (read_word s k a)))

abbrev pub read_in : List ℕ → Card → ℕ → ℕ → List ℕ → Option Region → Filled
read_in s k start count ws None = filled ws (Err NoRegion)
read_in s k start count ws (Some r) = cond (readable r.access) (read_words s k start r.last 0 count ws) (filled ws (Err NoAccess))

unfoldable pub read_of : List ℕ → Card → ℕ → ℕ → List ℕ → Filled
read_of s k start count ws = cond (bad_count count (length ws)) (filled ws (Err BadCount)) (read_in s k start count ws (region_of start))

-- the answer that the words come to, and the words left in the slice
abbrev pub Fills : Filled → Result ℕ Refusal → List ℕ → Type 0
Fills f w words = (w ≡ f.answer) × (words ≡ f.words)

-- a read of `count` words from `start` on, into the first of ws: what it hands back, and the words that it leaves
abbrev pub Reads : List ℕ → Card → ℕ → ℕ → List ℕ → Reply → List ℕ → Type 0
Reads s k start count ws r words = (r ≡ reply_of start (read_of s k start count ws).answer) × (words ≡ (read_of s k start count ws).words)
