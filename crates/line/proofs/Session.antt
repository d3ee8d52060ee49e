-- However its input is cut into chunks, and whatever the room for answers, the program writes the session's answers,
-- one line for each line. Assumes nothing.
use Rattle.std.specs.Prelude.{None, Option, Some}
use mathlib.Core.Path.{◌≡◌, ◌∙◌, ap, sym, refl, subst}
use mathlib.Core.Bool.{Bool, true, false, cond}
use mathlib.Core.List.{List, [], ◌∷◌, ◌++◌, append-nil, append_assoc}
use Prim.Native.Nat.{ℕ, zero, suc, ◌+◌, ◌/◌, ◌%◌, ◌≤◌, ◌<◌, min}
use native.Mathlib.Numerals.{add-one}
use native.Mathlib.Omega.{arith}
use borrow.Author.Tests.{eq-eqb, ne_eqb, ltb-true, ltb-false, le-leb}
use lib.Dec.{eqb, ltb, leb}
use Rattle.std.proofs.lemmas.Bool.Decides.{nat_tests}
use Rattle.std.proofs.lemmas.List.{take-append-drop}
use lib.ListN.{length, set, take, drop, replicate, length-append, length-set, length-take, length-drop}
use lib.Seq.{take-suc-set, take_all, take-append-le, length-take-le}
use Rattle.word.specs.Every.{every}
use Rattle.digits.specs.Digits.{byte_at, word_at, hex2, hex4, hex_all}
use Rattle.sum.specs.declared.Edition.TheVariants.{First}
use Rattle.card.specs.declared.Card.{Card}
use Rattle.card.specs.Card.{State, state}
use Rattle.card.specs.Reset.{waves_reset, fresh_of}
use Rattle.card.specs.Tick.{tick_with, ticks}
use Rattle.transfer.specs.Transfer.{Out, Filled, number_of, processed_of, write_of, read_of}
use Rattle.line.specs.declared.Frame.{Frame}
use Rattle.line.specs.declared.Frame.TheVariants.{Write, Read, Ticks, Event}
use Rattle.line.specs.declared.Answered.{Answered}
use Rattle.line.specs.declared.Stream.{Stream}
use Rattle.line.specs.Frame.{words_of, frame_of, write_frame, read_frame, ticks_frame, event_frame}
use Rattle.line.specs.Answer.{head_of, outputs_of, outputs_text, Step, on_frame, step_of, Answers}
use Rattle.line.specs.Session.{lines_from, lines_of, answers_of, played_of, session, Flow, flow, bare, after, most, longest, ended, kept, byte_of, feed_of, taken_of, finish_of, Feeds, stream_of, Fed, Finished, serve_of, written_of, joined, ends_in}
use Rattle.digits.proofs.Digits.{take_sets}
use Rattle.line.proofs.Frames.{step_is}
use Rattle.line.proofs.Flows.{kept_is, feed_append, feed_after, taken_some}

-- ---- a line that is too long is no frame, and no more of it than 263 bytes is looked at

pub frame_long : (s : List ℕ) → most ≤ length s → frame_of s ≡ None
unfolding frame_of write_frame read_frame ticks_frame event_frame
frame_long s h = grind (arith, nat_tests)

clip_by : (w : List ℕ) (st : State) (p : List ℕ) (q : Bool) → ltb most (length p) ≡ q → step_of w st (take most p) ≡ step_of w st p
clip_by w st p true e =
    let h : most < length p = ltb-true _ _ e in
    let k : most ≤ length (take most p) = omega (arith, length-take-le most p (omega arith)) in
    step_is w st (take most p) None (frame_long (take most p) k) ∙ sym (step_is w st p None (frame_long p (omega arith)))
clip_by w st p false e = ap (step_of w st) (take_all most p (ltb-false _ _ e))

-- 263 KEPT BYTES DECIDE A LINE
pub clip : (w : List ℕ) (st : State) (p : List ℕ) → step_of w st (take most p) ≡ step_of w st p
clip w st p = clip_by w st p _ refl

-- and a longer line answers FF, and changes nothing
pub long_line : (w : List ℕ) (st : State) (p : List ℕ) → most ≤ length p → ((step_of w st p).text ≡ 70 ∷ 70 ∷ []) × ((step_of w st p).state ≡ st)
unfolding hex2
long_line w st p h = let e : step_of w st p ≡ on_frame w st p None = step_is w st p None (frame_long p h) in (ap (λ (d : Step). d.text) e, ap (λ (d : Step). d.state) e)

-- ---- the buffer holds the line that has begun, up to 263 bytes of it

record Holds (t : Flow) (p : List ℕ) : Type 0 where
  size : most ≤ length t.line
  fits : t.held ≤ most
  same : take t.held t.line ≡ take most p

held_is : (t : Flow) (p : List ℕ) → Holds t p → t.held ≡ min most (length p)
held_is t p h =
    sym (length-take-le t.held t.line (omega (arith, h.size, h.fits))) ∙ ap length h.same ∙ length-take most p

kept_by : (st : State) (l : List ℕ) (h : ℕ) (x : List ℕ) (p : List ℕ) (b : ℕ) (q : Bool) → ltb h most ≡ q → Holds (flow st l h x) p
    → Holds (flow st (cond q (set l h b) l) (cond q (h + 1) h) x) (p ++ b ∷ [])
kept_by st l h x p b true e H =
    let i : h < most = ltb-true _ _ e in
    let n : h ≡ min most (length p) = held_is _ p H in
    let j : length p ≤ most = omega arith in
    let k : length (p ++ b ∷ []) ≡ length p + 1 = length-append p (b ∷ []) in
    record {
      size = omega (arith, length-set l h b, H.size);
      fits = omega arith;
      same =
          ap (λ (m : ℕ). take m (set l h b)) (add-one h)
          ∙ take-suc-set l h b (omega (arith, H.size))
          ∙ ap (λ (s : List ℕ). s ++ b ∷ []) (H.same ∙ take_all most p j)
          ∙ sym (take_all most (p ++ b ∷ []) (omega arith));
    }
kept_by st l h x p b false e H =
    let i : most ≤ h = ltb-false _ _ e in
    let n : h ≡ min most (length p) = held_is _ p H in
    let j : most ≤ length p = omega arith in
    record { size = H.size; fits = H.fits; same = H.same ∙ sym (take-append-le most p (b ∷ []) j) }

ended_holds : (w : List ℕ) (t : Flow) (p : List ℕ) → Holds t p → Holds (ended w t) []
unfolding ended
ended_holds w t p H = record { size = H.size; fits = omega arith; same = refl }

-- ---- byte by byte

ended_text : (w : List ℕ) (t : Flow) (p : List ℕ) → Holds t p → ((ended w t).text ≡ t.text ++ ((step_of w t.state p).text ++ 10 ∷ [])) × ((ended w t).state ≡ (step_of w t.state p).state)
unfolding ended
ended_text w t p H =
    let e : step_of w t.state (take t.held t.line) ≡ step_of w t.state p = ap (step_of w t.state) H.same ∙ clip w t.state p in
    (ap (λ (d : Step). t.text ++ (d.text ++ 10 ∷ [])) e, ap (λ (d : Step). d.state) e)

-- the flow d is t after lines: their answers follow, and they leave its state
abbrev Plays : List ℕ → Flow → List (List ℕ) → Flow → Type 0
Plays w t ls d = (d.text ≡ t.text ++ answers_of w t.state ls) × (d.state ≡ played_of w t.state ls)

finish_all : (w : List ℕ) (room : ℕ) → longest ≤ room → (t : Flow) (p : List ℕ) → Holds t p → Plays w t (lines_from p []) (finish_of w room t)
unfolding finish_of answers_of played_of lines_from
finish_all w room r t [] H =
    let z : t.held ≡ 0 = held_is t [] H in
    rw (eq-eqb t.held 0 z) (sym (append-nil t.text), refl)
finish_all w room r t (a ∷ p) H =
    let n : t.held ≡ min most (suc (length p)) = held_is t (a ∷ p) H in
    let z : (t.held ≡ 0 → ⊥) = λ e. omega arith in
    rw (ne_eqb t.held 0 z, le-leb longest room r)
    ((ended_text w t (a ∷ p) H).0 ∙ ap (λ (y : List ℕ). t.text ++ y) (sym (append-nil _)), (ended_text w t (a ∷ p) H).1)

module _ (st : State) (l : List ℕ) (h : ℕ) (x : List ℕ) where
  kept_holds : (p : List ℕ) (b : ℕ) → Holds (flow st l h x) p → Holds (kept (flow st l h x) b) (p ++ b ∷ [])
  kept_holds p b H = rw (kept_is st l h x b) (kept_by st l h x p b _ refl H)

  kept_text : (b : ℕ) → (kept (flow st l h x) b).text ≡ x
  kept_text b = ap (λ (u : Flow). u.text) (kept_is st l h x b)

  kept_state : (b : ℕ) → (kept (flow st l h x) b).state ≡ st
  kept_state b = ap (λ (u : Flow). u.state) (kept_is st l h x b)

module _ (w : List ℕ) (room : ℕ) (r : longest ≤ room) where
  -- what the rest of the input gives, after a byte b
  fed_by : (s : List ℕ) → ((t : Flow) (p : List ℕ) → Holds t p → Plays w t (lines_from p s) (finish_of w room (feed_of w t s)))
      → (q : Bool) (b : ℕ) (t : Flow) (p : List ℕ) → Holds t p
      → Plays w t (cond q (p ∷ lines_from [] s) (lines_from (p ++ b ∷ []) s)) (finish_of w room (feed_of w (cond q (ended w t) (kept t b)) s))
  unfolding answers_of played_of
  fed_by s ih true b t p H =
      let e = ended_text w t p H in
      let r = ih (ended w t) [] (ended_holds w t p H) in (
        r.0
            ∙ ap (λ (y : List ℕ). y ++ answers_of w (ended w t).state (lines_from [] s)) e.0
            ∙ ap (λ (z : State). (t.text ++ ((step_of w t.state p).text ++ 10 ∷ [])) ++ answers_of w z (lines_from [] s)) e.1
            ∙ append_assoc t.text ((step_of w t.state p).text ++ 10 ∷ []) (answers_of w (step_of w t.state p).state (lines_from [] s)),
        r.1 ∙ ap (λ (z : State). played_of w z (lines_from [] s)) e.1,
      )
  fed_by s ih false b t p H =
      let r = ih (kept t b) (p ++ b ∷ []) (kept_holds t.state t.line t.held t.text p b H) in
      let e = kept_state t.state t.line t.held t.text b in (
        r.0
            ∙ ap (λ (y : List ℕ). y ++ answers_of w (kept t b).state (lines_from (p ++ b ∷ []) s)) (kept_text t.state t.line t.held t.text b)
            ∙ ap (λ (z : State). t.text ++ answers_of w z (lines_from (p ++ b ∷ []) s)) e,
        r.1 ∙ ap (λ (z : State). played_of w z (lines_from (p ++ b ∷ []) s)) e,
      )

  fed_all : (s : List ℕ) (t : Flow) (p : List ℕ) → Holds t p → Plays w t (lines_from p s) (finish_of w room (feed_of w t s))
  unfolding feed_of byte_of lines_from
  fed_all [] t p H = finish_all w room r t p H
  fed_all (b ∷ s) t p H = fed_by s (fed_all s) (eqb b 10) b t p H

  -- THE CARD AFTER THE INPUT is the one that its lines leave
  pub input_leaves : (st : State) (line s : List ℕ) → most ≤ length line → (finish_of w room (feed_of w (flow st line 0 []) s)).state ≡ played_of w st (lines_of s)
  input_leaves st line s h = (fed_all s (flow st line 0 []) [] (record { size = h; fits = omega arith; same = refl })).1

-- ---- chunk by chunk

finish_by : (w : List ℕ) (q o : Bool) (t : Flow) → (cond q t (cond o (ended w t) t)).text ≡ t.text ++ (cond q (bare t) (cond o (ended w (bare t)) (bare t))).text
unfolding ended
finish_by w true o t = sym (append-nil t.text)
finish_by w false true t = refl
finish_by w false false t = sym (append-nil t.text)

finish_after : (w : List ℕ) (room : ℕ) (t : Flow) → (finish_of w room t).text ≡ t.text ++ (finish_of w room (bare t)).text
unfolding finish_of
finish_after w room t = finish_by w (eqb t.held 0) (leb longest room) t

module _ (w : List ℕ) (room : ℕ) (r : longest ≤ room) where
  -- each call leaves less
  shorter : (n : ℕ) (t : Flow) (s : List ℕ) → t.text ≡ [] → length s ≤ suc n → length (drop (taken_of w room t s) s) ≤ n
  shorter n t [] e h = omega (arith, length-drop {A = ℕ} (taken_of w room t []) [])
  shorter n t (b ∷ s) e h =
      let z : 0 < suc (length s) = omega arith in
      omega (arith, length-drop (taken_of w room t (b ∷ s)) (b ∷ s), taken_some w room t (b ∷ s) e r z)

  -- A CHUNK FED AGAIN AND AGAIN, whatever the room for answers, is fed whole
  pub serve_all : (n : ℕ) (t : Flow) (s : List ℕ) → length s ≤ n → serve_of w n room t s ≡ feed_of w t s
  unfolding serve_of feed_of
  serve_all zero t [] h = refl
  serve_all zero t (b ∷ s) h = absurd (omega arith)
  serve_all (suc n) t s h =
      let k : ℕ = taken_of w room (bare t) s in
      serve_all n (after t.text (feed_of w (bare t) (take k s))) (drop k s) (shorter n (bare t) s refl h)
      ∙ ap (λ (x : Flow). feed_of w x (drop k s)) (sym (feed_after w (take k s) t))
      ∙ sym (feed_append w t (take k s) (drop k s))
      ∙ ap (feed_of w t) (take-append-drop k s)

  written_is : (cs : List (List ℕ)) (t : Flow) → written_of w room t cs ≡ (finish_of w room (feed_of w t (joined cs))).text
  unfolding written_of joined feed_of
  written_is [] t = sym (finish_after w room t)
  written_is (c ∷ cs) t =
      let z : length c ≤ length c = omega arith in
      ap (λ (u : Flow). written_of w room u cs) (serve_all (length c) t c z)
      ∙ written_is cs (feed_of w t c)
      ∙ ap (λ (u : Flow). (finish_of w room u).text) (sym (feed_append w t c (joined cs)))

-- THE SESSION: whatever the chunks, what is written is the session's answers to the whole input; the open line has room for 263 bytes,
-- as every call's has by type
pub chunks_give_session : (room : ℕ) → longest ≤ room → (cs : List (List ℕ)) (settings tables waves line : List ℕ) → most ≤ length line
    → written_of (waves_reset waves) room (flow (fresh_of First settings tables) line 0 []) cs ≡ session settings tables waves (joined cs)
unfolding session
chunks_give_session room r cs settings tables waves line h =
    let w : List ℕ = waves_reset waves in
    let t : Flow = flow (fresh_of First settings tables) line 0 [] in
    written_is w room r cs t ∙ (fed_all w room r (joined cs) t [] (record { size = h; fits = omega arith; same = refl })).0

-- ---- one answer line for each line

ends_by : (q : Bool) (n m k : ℕ) → n ≡ m + k → cond q (suc n) n ≡ cond q (suc m) m + k
ends_by true n m k e = omega arith
ends_by false n m k e = e

ends_append : (a b : List ℕ) → ends_in (a ++ b) ≡ ends_in a + ends_in b
unfolding ends_in
ends_append [] b = omega arith
ends_append (x ∷ a) b = ends_by (eqb x 10) _ _ (ends_in b) (ends_append a b)

digit_by : (q : Bool) (n : ℕ) → eqb (cond q (48 + n) (55 + n)) 10 ≡ false
digit_by true n = ne_eqb (48 + n) 10 (λ (e : 48 + n ≡ 10). omega arith)
digit_by false n = ne_eqb (55 + n) 10 (λ (e : 55 + n ≡ 10). omega arith)

ends_hex2 : (x : ℕ) → ends_in (hex2 x) ≡ 0
unfolding ends_in hex2
ends_hex2 x = rw (digit_by (ltb (x / 16 % 16) 10) (x / 16 % 16), digit_by (ltb (x % 16) 10) (x % 16))

ends_hex4 : (x : ℕ) → ends_in (hex4 x) ≡ 0
unfolding hex4
ends_hex4 x = ends_append (hex2 (x / 256)) (hex2 x) ∙ omega (arith, ends_hex2 (x / 256), ends_hex2 x)

ends_hex_all : (ws : List ℕ) → ends_in (hex_all ws) ≡ 0
unfolding hex_all ends_in
ends_hex_all [] = refl
ends_hex_all (w ∷ ws) = ends_append (hex4 w) (hex_all ws) ∙ omega (arith, ends_hex4 w, ends_hex_all ws)

ends_head : (a b c : ℕ) → ends_in (head_of a b c) ≡ 0
unfolding head_of
ends_head a b c =
    ends_append (hex2 a) (hex2 b ++ hex4 c) ∙ omega (arith, ends_hex2 a, ends_append (hex2 b) (hex4 c), ends_hex2 b, ends_hex4 c)

ends_read : (a b c : ℕ) (ws : List ℕ) → ends_in (head_of a b c ++ hex_all ws) ≡ 0
ends_read a b c ws = ends_append (head_of a b c) (hex_all ws) ∙ omega (arith, ends_head a b c, ends_hex_all ws)

ends_outputs : (name : ℕ) (k : Card) → ends_in (outputs_text name k) ≡ 0
unfolding outputs_text
ends_outputs name k = ends_append (hex2 name) (hex_all (outputs_of k)) ∙ omega (arith, ends_hex2 name, ends_hex_all (outputs_of k))

ends_frame : (w : List ℕ) (st : State) (s : List ℕ) (f : Option Frame) → ends_in (on_frame w st s f).text ≡ 0
ends_frame w st s (Some (Write start n)) = let o : Out = write_of st start n (words_of n s) in ends_head 0x81 (number_of o.answer) (processed_of o.answer)
ends_frame w st s (Some (Read start n)) =
    let f : Filled = read_of st.settings st.card start n (replicate 64 0) in
    ends_read 0x82 (number_of f.answer) (processed_of f.answer) (take (processed_of f.answer) f.words)
ends_frame w st s (Some (Ticks n)) = ends_outputs 0x83 (ticks w n st).card
ends_frame w st s (Some (Event e)) = ends_outputs 0x84 (tick_with w st e).card
ends_frame w st s None = ends_hex2 0xFF

ends_step : (w : List ℕ) (st : State) (s : List ℕ) → ends_in (step_of w st s).text ≡ 0
unfolding step_of
ends_step w st s = ends_frame w st s (frame_of s)

pub ends_answers : (w : List ℕ) (st : State) (ls : List (List ℕ)) → ends_in (answers_of w st ls) ≡ length ls
unfolding answers_of ends_in
ends_answers w st [] = refl
ends_answers w st (l ∷ ls) =
    ends_append ((step_of w st l).text ++ 10 ∷ []) (answers_of w (step_of w st l).state ls)
    ∙ omega (arith, ends_append (step_of w st l).text (10 ∷ []), ends_step w st l, ends_answers w (step_of w st l).state ls)

-- EACH LINE GETS AN ANSWER: as many answer lines as lines
pub line_for_line : (settings tables waves s : List ℕ) → ends_in (session settings tables waves s) ≡ length (lines_of s)
unfolding session
line_for_line settings tables waves s = ends_answers (waves_reset waves) (fresh_of First settings tables) (lines_of s)

-- ---- the promises determine all that a caller sees

-- the answers stand at the front of the buffer
pub answers_in_front : (d : Flow) {before after settings tables line : List ℕ} {k : Card} {held end : ℕ}
    → Feeds d 0 before after settings tables line k held end → end ≤ length before → take end after ≡ d.text
answers_in_front d {before} {end = end} f h = ap (take end) f.buffer ∙ take_sets before d.text end (omega (arith, f.ends)) h

-- any two outcomes that a promise allows are the same: buffer, settings, tables, line, and the answer
feeds_once : (d : Flow) (at : ℕ) (before a a' s s' l l' n n' : List ℕ) (r r' : Stream)
    → Feeds d at before a s l n r.card r.held r.end → Feeds d at before a' s' l' n' r'.card r'.held r'.end → r.taken ≡ r'.taken
    → (a ≡ a') × (s ≡ s') × (l ≡ l') × (n ≡ n') × (r ≡ r')
feeds_once d at before a a' s s' l l' n n' r r' f g t =
    let v : state r.card s l ≡ state r'.card s' l' = f.same ∙ sym g.same in
    let c : r.card ≡ r'.card = ap (λ (x : State). x.card) v in
    let h : r.held ≡ r'.held = f.holds ∙ sym g.holds in
    let e : r.end ≡ r'.end = f.ends ∙ sym g.ends in (
      f.buffer ∙ sym g.buffer,
      ap (λ (x : State). x.settings) v,
      ap (λ (x : State). x.tables) v,
      f.lined ∙ sym g.lined,
      ap (λ (x : Card). stream_of x r.held r.end r.taken) c ∙ ap (λ (x : ℕ). stream_of r'.card x r.end r.taken) h
          ∙ ap (λ (x : ℕ). stream_of r'.card r'.held x r.taken) e
          ∙ ap (λ (x : ℕ). stream_of r'.card r'.held r'.end x) t,
    )

pub fed_once : (w : List ℕ) (t : Flow) (chunk before a a' s s' l l' n n' : List ℕ) (r r' : Stream)
    → Fed w t chunk before a s l n r → Fed w t chunk before a' s' l' n' r' → (a ≡ a') × (s ≡ s') × (l ≡ l') × (n ≡ n') × (r ≡ r')
fed_once w t chunk before a a' s s' l l' n n' r r' f g =
    let e : r.taken ≡ r'.taken = f.took ∙ sym g.took in
    feeds_once (feed_of w t (take r'.taken chunk)) 0 before a a' s s' l l' n n' r r'
    (subst (λ (x : ℕ). Feeds (feed_of w t (take x chunk)) 0 before a s l n r.card r.held r.end) e f.feeds)
    g.feeds
    e

pub finished_once : (w : List ℕ) (t : Flow) (before a a' s s' l l' n n' : List ℕ) (r r' : Stream)
    → Finished w t before a s l n r → Finished w t before a' s' l' n' r' → (a ≡ a') × (s ≡ s') × (l ≡ l') × (n ≡ n') × (r ≡ r')
finished_once w t before a a' s s' l l' n n' r r' f g =
    feeds_once (finish_of w (length before) t) 0 before a a' s s' l l' n n' r r' f.feeds g.feeds (f.took ∙ sym g.took)

pub answered_once : (d : Step) (at : ℕ) (before a a' s s' l l' : List ℕ) (r r' : Answered)
    → Answers d at before a s l r → Answers d at before a' s' l' r' → (a ≡ a') × (s ≡ s') × (l ≡ l') × (r ≡ r')
answered_once d at before a a' s s' l l' r r' f g =
    let v : state r.card s l ≡ state r'.card s' l' = f.same ∙ sym g.same in
    let e : r.end ≡ r'.end = f.puts.ends ∙ sym g.puts.ends in (
      f.puts.buffer ∙ sym g.puts.buffer,
      ap (λ (x : State). x.settings) v,
      ap (λ (x : State). x.tables) v,
      ap (λ (x : State). record { card = x.card; end = r.end }) v ∙ ap (λ (x : ℕ). record { card = r'.card; end = x }) e,
    )

-- ---- a few lines, read

-- 020A330002, 0142020001, 03000A, 0410; a lower-case a, and an empty line
pub frames_read :
    (frame_of (48 ∷ 50 ∷ 48 ∷ 65 ∷ 51 ∷ 51 ∷ 48 ∷ 48 ∷ 48 ∷ 50 ∷ []) ≡ Some (Read 0x0A33 2))
    × (frame_of (48 ∷ 49 ∷ 52 ∷ 50 ∷ 48 ∷ 50 ∷ 48 ∷ 48 ∷ 48 ∷ 49 ∷ []) ≡ Some (Write 0x4202 1))
    × (frame_of (48 ∷ 51 ∷ 48 ∷ 48 ∷ 48 ∷ 65 ∷ []) ≡ Some (Ticks 10))
    × (frame_of (48 ∷ 52 ∷ 49 ∷ 48 ∷ []) ≡ Some (Event 16))
    × (frame_of (48 ∷ 51 ∷ 48 ∷ 48 ∷ 48 ∷ 97 ∷ []) ≡ None)
    × (frame_of [] ≡ None)
unfolding frame_of every byte_at word_at write_frame read_frame ticks_frame event_frame
frames_read = (refl, refl, refl, refl, refl, refl)

-- an empty line, a bad one and a last one with no LF have an answer each: LF, "G" LF, "03"
pub bad_session : (settings tables waves : List ℕ) → session settings tables waves (10 ∷ 71 ∷ 10 ∷ 48 ∷ 51 ∷ []) ≡ 70 ∷ 70 ∷ 10 ∷ 70 ∷ 70 ∷ 10 ∷ 70 ∷ 70 ∷ 10 ∷ []
unfolding session lines_from answers_of step_of frame_of every byte_at word_at ticks_frame hex2
bad_session settings tables waves = refl
