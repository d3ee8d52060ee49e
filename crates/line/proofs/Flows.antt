-- The stream's flow, byte by byte. Assumes nothing.
use mathlib.Core.Path.{◌≡◌, ◌∙◌, ap, sym, refl, subst}
use mathlib.Core.Bool.{Bool, true, false, cond}
use mathlib.Core.List.{List, [], ◌∷◌, ◌++◌, append-nil, append_assoc}
use Prim.Native.Nat.{ℕ, suc, ◌+◌, ◌-◌, ◌≤◌, ◌<◌, min}
use native.Mathlib.Numerals.{add-one}
use native.Mathlib.Omega.{arith}
use borrow.Author.Tests.{eq-eqb, ne_eqb, le-leb, lt-leb}
use lib.Dec.{eqb, ltb, leb}
use Rattle.std.proofs.lemmas.Bool.{cond_both}
use lib.ListN.{length, set, get_or, take, drop, length-append, length-drop, drop_of_length-le}
use lib.Seq.{sets, take-suc, drop-cons}
use Rattle.std.proofs.lemmas.List.{take-append-drop, take-set-le, drop-set-add, take_rest}
use Rattle.card.specs.declared.Card.{Card}
use Rattle.card.specs.Card.{State, state}
use Rattle.line.specs.declared.Answered.{Answered}
use Rattle.line.specs.Answer.{Step, step_of, Answers}
use Rattle.line.specs.Session.{Flow, flow, bare, after, most, longest, ended, kept, byte_of, feed_of, taken_of, Feeds, Keeps}
use Rattle.digits.proofs.Digits.{take_min, then_at}

-- ---- one byte

kept_cond : (q : Bool) (st : State) (l l' : List ℕ) (h h' : ℕ) (x : List ℕ)
    → cond q (flow st l h x) (flow st l' h' x) ≡ flow st (cond q l l') (cond q h h') x
kept_cond true st l l' h h' x = refl
kept_cond false st l l' h h' x = refl

pub kept_is : (st : State) (l : List ℕ) (h : ℕ) (x : List ℕ) (b : ℕ)
    → kept (flow st l h x) b ≡ flow st (cond (ltb h most) (set l h b) l) (cond (ltb h most) (h + 1) h) x
unfolding kept
kept_is st l h x b = kept_cond (ltb h most) st (set l h b) l (h + 1) h x

byte_cond : (w : List ℕ) (q : Bool) (t : Flow) (b : ℕ) → cond q (ended w t) (kept t b) ≡ after t.text (cond q (ended w (bare t)) (kept (bare t) b))
unfolding ended
byte_cond w true t b = refl
byte_cond w false t b =
    kept_is t.state t.line t.held t.text b
    ∙ ap (λ (y : List ℕ). flow t.state (cond (ltb t.held most) (set t.line t.held b) t.line) (cond (ltb t.held most) (t.held + 1) t.held) y) (sym (append-nil t.text))
    ∙ ap (after t.text) (sym (kept_is t.state t.line t.held [] b))

-- a byte's answer comes after those before it
pub byte_after : (w : List ℕ) (t : Flow) (b : ℕ) → byte_of w t b ≡ after t.text (byte_of w (bare t) b)
unfolding byte_of
byte_after w t b = byte_cond w (eqb b 10) t b

-- ---- the two kinds of byte

pub byte_ends : (w : List ℕ) (t : Flow) (b : ℕ) → b ≡ 10 → byte_of w t b ≡ ended w t
unfolding byte_of
byte_ends w t b e = rw (eq-eqb b 10 e)

pub byte_keeps : (w : List ℕ) (t : Flow) (b : ℕ) → (b ≡ 10 → ⊥) → byte_of w t b ≡ kept t b
unfolding byte_of
byte_keeps w t b e = rw (ne_eqb b 10 e)

pub keeps_feeds : (w S L l l' o : List ℕ) (b n end : ℕ) (k : Card) (h : ℕ) → (b ≡ 10 → ⊥) → Keeps l h b l' n
    → Feeds (byte_of w (flow (state k S L) l h []) b) end o o S L l' k n end
keeps_feeds w S L l l' o b n end k h e q =
    rw (byte_keeps w (flow (state k S L) l h []) b e, kept_is (state k S L) l h [] b)
    (record { same = refl; lined = q.lined; holds = q.holds; at_most = q.at_most; buffer = refl; ends = omega arith })

-- ---- bytes one after the other

-- what is fed in two parts is fed in one
pub feed_append : (w : List ℕ) (t : Flow) (a b : List ℕ) → feed_of w t (a ++ b) ≡ feed_of w (feed_of w t a) b
unfolding feed_of
feed_append w t [] b = refl
feed_append w t (x ∷ a) b = feed_append w (byte_of w t x) a b

pub feed_more : (w : List ℕ) (t : Flow) (s : List ℕ) (i : ℕ) → i < length s → feed_of w t (take (i + 1) s) ≡ byte_of w (feed_of w t (take i s)) (get_or s i 0)
unfolding feed_of
feed_more w t s i h =
    ap (λ (k : ℕ). feed_of w t (take k s)) (add-one i)
    ∙ ap (feed_of w t) (take-suc s i 0 h)
    ∙ feed_append w t (take i s) (get_or s i 0 ∷ [])

-- the answers of a flow that goes on come after those before it
pub feed_after : (w s : List ℕ) (t : Flow) → feed_of w t s ≡ after t.text (feed_of w (bare t) s)
unfolding feed_of
feed_after w [] t = ap (λ (y : List ℕ). flow t.state t.line t.held y) (sym (append-nil t.text))
feed_after w (b ∷ s) t =
    let u = byte_of w (bare t) b in
    ap (λ (k : Flow). feed_of w k s) (byte_after w t b)
    ∙ feed_after w s (after t.text u)
    ∙ ap (λ (y : List ℕ). flow (feed_of w (bare u) s).state (feed_of w (bare u) s).line (feed_of w (bare u) s).held y) (append_assoc t.text u.text (feed_of w (bare u) s).text)
    ∙ ap (after t.text) (sym (feed_after w s u))

-- a turn of the loop that feeds
pub feeds_more : (w : List ℕ) (t : Flow) (b : ℕ) {o₀ o o' S L l S' L' l' : List ℕ} {k k' : Card} {h h' n n' : ℕ}
    → Feeds t 0 o₀ o S L l k h n
    → Feeds (byte_of w (flow (state k S L) l h []) b) n o o' S' L' l' k' h' n'
    → Feeds (byte_of w t b) 0 o₀ o' S' L' l' k' h' n'
feeds_more w t b {o₀} {o} {o'} {S} {L} {l} {S'} {L'} {l'} {k} {k'} {h} {h'} {n} {n'} p q =
    let e : flow (state k S L) l h [] ≡ bare t =
    ap (λ (y : State). flow y l h []) p.same ∙ ap (λ (x : List ℕ). flow t.state x h []) p.lined
    ∙ ap (λ (x : ℕ). flow t.state t.line x []) p.holds in
    let f : byte_of w (flow (state k S L) l h []) b ≡ byte_of w (bare t) b = ap (λ (x : Flow). byte_of w x b) e in
    let m = byte_of w (bare t) b in
    rw (byte_after w t b)
    (record {
      same = q.same ∙ ap (λ (x : Flow). x.state) f;
      lined = q.lined ∙ ap (λ (x : Flow). x.line) f;
      holds = q.holds ∙ ap (λ (x : Flow). x.held) f;
      at_most = q.at_most;
      buffer = then_at o₀ 0 t.text m.text p.buffer (q.buffer ∙ ap (λ (x : Flow). sets o n x.text) f) p.ends;
      ends = q.ends ∙ omega (arith, p.ends, length-append t.text m.text, ap (λ (x : Flow). length x.text) f);
    })

-- ---- how many bytes are taken

-- none taken of none
pub taken_none : (w : List ℕ) (room : ℕ) (t : Flow) (s : List ℕ) (i : ℕ) → length s ≤ i → taken_of w room t (drop i s) ≡ 0
unfolding taken_of
taken_none w room t s i h = ap (taken_of w room t) (drop_of_length-le s {i = i} h)

-- one more: the flow so far has room for its answer
pub taken_more : (w : List ℕ) (room : ℕ) (t : Flow) (s : List ℕ) (i : ℕ) → i < length s → length t.text + longest ≤ room
    → taken_of w room t (drop i s) ≡ suc (taken_of w room (byte_of w t (get_or s i 0)) (drop (i + 1) s))
unfolding taken_of
taken_more w room t s i h r =
    ap (taken_of w room t) (drop-cons s i 0 h)
    ∙ rw (le-leb (length t.text + longest) room r) (ap (λ (j : ℕ). suc (taken_of w room (byte_of w t (get_or s i 0)) (drop j s))) (sym (add-one i)))

-- no room
pub taken_stop : (w : List ℕ) (room : ℕ) (t : Flow) (s : List ℕ) (i : ℕ) → i < length s → room < length t.text + longest → taken_of w room t (drop i s) ≡ 0
unfolding taken_of
taken_stop w room t s i h r = ap (taken_of w room t) (drop-cons s i 0 h) ∙ rw (lt-leb (length t.text + longest) room r)

-- a turn of the loop that feeds: one more is taken
pub taken_turn : (w : List ℕ) (room : ℕ) (t : Flow) (s : List ℕ) (i : ℕ) → i < length s → length (feed_of w t (take i s)).text + longest ≤ room
    → taken_of w room t s ≡ i + taken_of w room (feed_of w t (take i s)) (drop i s)
    → taken_of w room t s ≡ i + 1 + taken_of w room (feed_of w t (take (i + 1) s)) (drop (i + 1) s)
taken_turn w room t s i h r e =
    e ∙ omega (arith, taken_more w room (feed_of w t (take i s)) s i h r, ap (λ (u : Flow). taken_of w room u (drop (i + 1) s)) (feed_more w t s i h))

-- no more is taken than there is, and where there is room for an answer, something is
pub taken_most : (w : List ℕ) (room : ℕ) (s : List ℕ) (t : Flow) → taken_of w room t s ≤ length s
unfolding taken_of
taken_most w room [] t = omega arith
taken_most w room (b ∷ s) t =
    cond_both (leb (length t.text + longest) room) _ 0 (λ (n : ℕ). n ≤ suc (length s)) (λ _. omega (arith, taken_most w room s (byte_of w t b))) (λ _. omega arith)

pub taken_some : (w : List ℕ) (room : ℕ) (t : Flow) (s : List ℕ) → t.text ≡ [] → longest ≤ room → 0 < length s → 0 < taken_of w room t s
unfolding taken_of
taken_some w room t [] e r h = h
taken_some w room t (b ∷ s) e r h =
    let n : length t.text + longest ≤ room = omega (arith, ap length e) in
    rw (le-leb (length t.text + longest) room n) (omega arith)

-- ---- the end of a line, and of the input

-- stores from place i of the rest of a buffer are stores from place at + i of the buffer
rest_sets : (o : List ℕ) (at i : ℕ) (x : List ℕ) → take at o ++ sets (drop at o) i x ≡ sets o (at + i) x
rest_sets o at i [] = take-append-drop at o
rest_sets o at i (v ∷ x) =
    ap (λ (l : List ℕ). l ++ sets (set (drop at o) i v) (suc i) x) (sym (take-set-le at o (at + i) v (omega arith)))
    ∙ ap (λ (l : List ℕ). take at (set o (at + i) v) ++ sets l (suc i) x) (sym (drop-set-add at o i v))
    ∙ rest_sets (set o (at + i) v) at (suc i) x
    ∙ ap (λ (k : ℕ). sets (set o (at + i) v) k x) (omega arith)

-- what is laid into the rest of a buffer, from place `at` on, as the prover has that rest
pub laid_in_rest : (d : Step) (at : ℕ) {a : Answered} (o : List ℕ) {p s t : List ℕ} → Answers d 0 (take (length o - at) (drop at o)) p s t a
    → Answers d at o (take at o ++ (p ++ drop (length o - at) (drop at o))) s t (record { card = a.card; end = at + a.end })
laid_in_rest d at {a} o {p} A =
    let none : drop (length o - at) (drop at o) ≡ [] = drop_of_length-le (drop at o) {i = length o - at} (omega (arith, length-drop at o)) in
    record {
      same = A.same;
      puts = record {
        buffer =
            ap (λ (l : List ℕ). take at o ++ (p ++ l)) none
            ∙ ap (λ (l : List ℕ). take at o ++ l) (append-nil p ∙ A.puts.buffer ∙ ap (λ (l : List ℕ). sets l 0 d.text) (take_rest o at))
            ∙ rest_sets o at 0 d.text
            ∙ ap (λ (k : ℕ). sets o k d.text) (omega arith);
        ends = omega (arith, A.puts.ends);
        short = omega (arith, A.puts.short);
      };
    }

pub end_feeds : (w : List ℕ) (st : State) (l : List ℕ) (held n at : ℕ) {a : Answered} {o o₁ o₂ s t : List ℕ}
    → n ≡ min held (length l) → Answers (step_of w st (take n l)) at o o₁ s t a → o₂ ≡ set o₁ a.end 10
    → Feeds (ended w (flow st l held [])) at o o₂ s t l a.card 0 (a.end + 1) × (a.end + 1 ≤ at + longest)
unfolding ended
end_feeds w st l held n at {a} {o} {o₁} {o₂} {s} {t} e A p =
    let f : take n l ≡ take held l = ap (λ (k : ℕ). take k l) e ∙ take_min held l in
    let B : Answers (step_of w st (take held l)) at o o₁ s t a = subst (λ (x : List ℕ). Answers (step_of w st x) at o o₁ s t a) f A in
    let x : List ℕ = (step_of w st (take held l)).text in (
      record {
        same = B.same;
        lined = refl;
        holds = refl;
        at_most = omega arith;
        buffer = then_at o at x (10 ∷ []) B.puts.buffer p B.puts.ends;
        ends = omega (arith, B.puts.ends, length-append x (10 ∷ []));
      },
      omega (arith, B.puts.short),
    )
