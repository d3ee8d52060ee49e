-- A turn of the loop that serves a chunk. Assumes nothing.
use mathlib.Core.Path.{◌≡◌, ◌∙◌, ap, sym, refl, subst}
use mathlib.Core.List.{List, []}
use Prim.Native.Nat.{ℕ, ◌+◌, ◌-◌, ◌≤◌, ◌<◌, min}
use native.Mathlib.Omega.{arith}
use lib.ListN.{length, take, drop, length-drop}
use lib.Seq.{take-add, take_all}
use Rattle.std.proofs.lemmas.List.{drop-drop}
use Rattle.card.specs.declared.Card.{Card}
use Rattle.card.specs.Card.{State}
use Rattle.line.specs.declared.Stream.{Stream}
use Rattle.line.specs.Session.{Flow, flow, bare, after, most, longest, opened, feed_of, Fed}
use Rattle.line.proofs.Flows.{feed_append, feed_after, taken_most, taken_some}
use Rattle.rampcard.specs.Served.{Taken}

-- x is left of the chunk s, its end, and the bytes before it are taken; the wave tables v are still w
pub record Left (w : List ℕ) (t : Flow) (s x v S L l : List ℕ) (k : Card) (h : ℕ) : Type 0 where
  pub end : x ≡ drop (length s - length x) s
  pub some : length x ≤ length s
  pub same_waves : v ≡ w
  pub taken : Taken w t s S L l k h (length s - length x)

-- before the first byte
pub none_taken : (w : List ℕ) (k : Card) (S L l : List ℕ) (h : ℕ) (s : List ℕ) → Taken w (opened k S L l h) s S L l k h 0
unfolding feed_of
none_taken w k S L l h s = record { same = refl; lined = refl; holds = refl; within = omega arith }

pub all_left : (w : List ℕ) (k : Card) (S L l : List ℕ) (h : ℕ) (s : List ℕ) → Left w (opened k S L l h) s s w S L l k h
all_left w k S L l h s =
    let z : 0 ≡ length s - length s = omega arith in
    record {
      end = ap (λ (n : ℕ). drop n s) z;
      some = omega arith;
      same_waves = refl;
      taken = subst (Taken w (opened k S L l h) s S L l k h) z (none_taken w k S L l h s);
    }

module _ {w v s x S L l S' L' l' o o' : List ℕ} {t : Flow} {k : Card} {h : ℕ} {r : Stream} (p : Left w t s x v S L l k h) (q : Fed v (opened k S L l h) x o o' S' L' l' r) where
  -- no more is taken than is left, and something is, where there is room
  pub turn_most : r.taken ≤ length x
  turn_most = omega (arith, taken_most v (length o) x (opened k S L l h), q.took)

  pub turn_some : 0 < length x → longest ≤ length o → 0 < r.taken
  turn_some z room = omega (arith, taken_some v (length o) (opened k S L l h) x refl room z, q.took)

  -- the bytes taken are served
  pub turn_taken : Taken w t s S' L' l' r.card r.held (length s - length x + r.taken)
  turn_taken =
      let i : ℕ = length s - length x in
      let n : ℕ = r.taken in
      let u : Flow = feed_of w t (take i s) in
      let a : Taken w t s S L l k h i = p.taken in
      let e : opened k S L l h ≡ bare u =
      ap (λ (y : State). flow y l (min h most) []) a.same ∙ ap (λ (y : List ℕ). flow u.state y (min h most) []) a.lined
      ∙ ap (λ (y : ℕ). flow u.state u.line y []) a.holds in
      let f : after u.text (feed_of v (opened k S L l h) (take n x)) ≡ feed_of w t (take (i + n) s) =
      ap (λ (y : List ℕ). after u.text (feed_of y (opened k S L l h) (take n x))) p.same_waves
      ∙ ap (λ (y : List ℕ). after u.text (feed_of w (opened k S L l h) (take n y))) p.end
      ∙ ap (λ (y : Flow). after u.text (feed_of w y (take n (drop i s)))) e
      ∙ sym (ap (feed_of w t) (take-add i n s) ∙ feed_append w t (take i s) (take n (drop i s)) ∙ feed_after w (take n (drop i s)) u) in
      let m : min r.held most ≡ r.held = omega (arith, q.feeds.at_most) in
      record {
        same = q.feeds.same ∙ ap (λ (y : Flow). y.state) f;
        lined = q.feeds.lined ∙ ap (λ (y : Flow). y.line) f;
        holds = m ∙ q.feeds.holds ∙ ap (λ (y : Flow). y.held) f;
        within = omega (arith, turn_most, p.some);
      }

  -- what is left then
  module _ {y : List ℕ} (ye : y ≡ take (length x - r.taken) (drop r.taken x)) where
    all : y ≡ drop r.taken x
    all = ye ∙ take_all (length x - r.taken) (drop r.taken x) (omega (arith, length-drop r.taken x))

    pub turn_length : length y + r.taken ≡ length x
    turn_length = omega (arith, ap length all, length-drop r.taken x, turn_most)

    pub turn_left : Left w t s y v S' L' l' r.card r.held
    turn_left =
        let i : length s - length x + r.taken ≡ length s - length y = omega (arith, turn_length, p.some) in
        record {
          end = all ∙ ap (drop r.taken) p.end ∙ drop-drop r.taken (length s - length x) s ∙ ap (λ (n : ℕ). drop n s) i;
          some = omega (arith, turn_length, p.some);
          same_waves = p.same_waves;
          taken = subst (Taken w t s S' L' l' r.card r.held) i turn_taken;
        }
