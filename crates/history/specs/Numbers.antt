-- 'Order: 1, 2, 3 once; then 4 to 8 for each word. Each number is given exactly in its case.'
use Rattle.std.specs.Prelude.{◌≡◌, Bool, false, not, cond, List, [], ◌∷◌, ℕ, ◌+◌, ◌≤◌, ◌<◌, ltb, length, get_or, take, Option, Some, None, Result}
use Rattle.map.specs.declared.Access.{Access}
use Rattle.map.specs.Map.{region_of, register_of, accepted_at, in_region}
use Rattle.map.specs.Settings.{is_fixed}
use Rattle.card.specs.Card.{State}
use Rattle.transfer.specs.Word.{held_at, running_at}
use Rattle.transfer.specs.Transfer.{Out, Filled, number_of, processed_of, bad_count, writable, readable}
use Rattle.history.specs.History.{read_back, done_from}
use Rattle.map.specs.declared.Region.{Region}
use Rattle.transfer.specs.declared.Refusal.{Refusal}

-- ---- the table

-- a row: its number, and whether its case holds
pub record Case : Type 0 where
  pub number : ℕ
  pub holds : Bool

abbrev pub case : ℕ → Bool → Case
case n b = record { number = n; holds = b }

-- the number of the first row, in the order given, whose case holds; 0 if none does
abbrev pub first : List Case → ℕ
first [] = 0
first (x ∷ xs) = cond x.holds x.number (first xs)

-- 'region lacks this access'; 'next word lies beyond the start's region'
abbrev pub lacks : (Access → Bool) → Option Region → Bool
lacks may (Some r) = not (may r.access)
lacks may None = false

abbrev pub beyond : Option Region → ℕ → Bool
beyond (Some r) a = ltb r.last a
beyond None a = false

-- 1, 2, 3: of a transfer whose start is in the region r
abbrev pub once : (Access → Bool) → Option Region → ℕ → List ℕ → List Case
once may r count ws = case 1 (bad_count count (length ws)) ∷ case 2 (not (in_region r)) ∷ case 3 (lacks may r) ∷ []

-- 4 to 8: of a word v that comes to be written at address a
abbrev pub to_write : Option Region → State → ℕ → ℕ → List Case
to_write r st a v =
    case 4 (beyond r a)
    ∷ case 5 (is_fixed (register_of a))
    ∷ case 6 (not (accepted_at a v))
    ∷ case 7 (held_at st.settings (register_of a) v)
    ∷ case 8 (running_at st.card (register_of a))
    ∷ []

-- of a word to be read: 5 to 8 are of writes
abbrev pub to_read : Option Region → ℕ → List Case
to_read r a = case 4 (beyond r a) ∷ []

-- ---- a transfer

-- the number that word i of a write is refused with, the words before it done; 0 if it is done
abbrev pub write_refusal : Option Region → State → ℕ → List ℕ → ℕ → ℕ
write_refusal r st start ws i = first (to_write r (done_from st start (take i ws)) (start + i) (get_or ws i 0))

abbrev pub read_refusal : Option Region → ℕ → ℕ → ℕ
read_refusal r start i = first (to_read r (start + i))

-- number n and p words processed, of a transfer of count words that is refused with o at once and whose word i is refused with f i
pub data Given (o : ℕ) (f : ℕ → ℕ) (count n p : ℕ) : Type 0 where
  -- 1, 2, 3: nothing is processed
  Once : o ≡ n → 1 ≤ n → p ≡ 0 → Given o f count n p
  -- 4 to 8: word p is the first refused
  Stopped : o ≡ 0 → p < count → ((i : ℕ) → i < p → f i ≡ 0) → f p ≡ n → 1 ≤ n → Given o f count n p
  -- 0: every word done
  All : o ≡ 0 → ((i : ℕ) → i < count → f i ≡ 0) → n ≡ 0 → p ≡ count → Given o f count n p

-- an answer is given in its case, and in no other
pub record Exact (o : ℕ) (f : ℕ → ℕ) (count : ℕ) (w : Result ℕ Refusal) : Type 0 where
  pub given : Given o f count (number_of w) (processed_of w)
  pub only : (n p : ℕ) → Given o f count n p → (n ≡ number_of w) × (p ≡ processed_of w)

-- a write comes to o. 'Words before the stopping word are done with all their effects, and nothing else changes.'
pub record WriteAnswered (st : State) (start count : ℕ) (ws : List ℕ) (o : Out) : Type 0 where
  pub exact : Exact (first (once writable (region_of start) count ws)) (write_refusal (region_of start) st start ws) count o.answer
  pub done : o.state ≡ done_from st start (take (processed_of o.answer) ws)
  -- with 8 nothing is processed
  pub eight : number_of o.answer ≡ 8 → processed_of o.answer ≡ 0

-- a read comes to o. 'A read fills the slice's first processed words and has no other effect; the rest of the slice stays.'
pub record ReadAnswered (st : State) (start count : ℕ) (ws : List ℕ) (o : Filled) : Type 0 where
  pub exact : Exact (first (once readable (region_of start) count ws)) (read_refusal (region_of start) start) count o.answer
  pub long : length o.words ≡ length ws
  pub words : (i : ℕ) → i < processed_of o.answer → get_or o.words i 0 ≡ read_back st (start + i)
  pub rest : (i : ℕ) → processed_of o.answer ≤ i → get_or o.words i 0 ≡ get_or ws i 0
