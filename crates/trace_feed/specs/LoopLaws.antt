-- What the loops over a piece go by: from what was put, the rest of the piece comes to what the whole piece comes to. Assumes nothing.
use Rattle.std.specs.Prelude.{◌≡◌, refl, Bool, true, false, not, List, ℕ, ◌+◌, ◌-◌, ◌≤◌, ◌<◌, drop, leb}
use Rattle.std.proofs.Math.Path.{sym, ap}
use Rattle.std.proofs.Common.{ap₂, ◌∙◌, zero-add, arith, length-append}
use Rattle.std.proofs.Math.ListN.{length}
use Rattle.std.proofs.lemmas.List.Edits.{sets}
use borrow.Author.Tests.{le-leb, lt-leb, leb-true, leb-false, not-true, not-false}
use Rattle.endian.specs.SetsLaws.{sets_sets}
use Rattle.text.specs.Text.{Put}
use Rattle.text.specs.TextLaws.{put_length}
use Rattle.trace.specs.declared.Trace.{Trace}
use Rattle.trace.specs.declared.Fed.{Fed}
use Rattle.trace.specs.Trace.{state_of, lines_of}
use Rattle.trace.specs.Feed.{fed_of, fed_put}
use Rattle.trace.proofs.TraceLaws.{Turn, lines_past, state_past}
use Rattle.trace.proofs.FeedLaws.{put_front, short_front}

-- ## A piece taken or not, in the words of the code

module _ (line : ℕ → List ℕ → List ℕ) (t : Trace) (p out : List ℕ) (fits : Bool)
    (is : fits ≡ leb (length (lines_of line t p)) (length out)) where
  pub fits_elim : not fits ≡ false → length (lines_of line t p) ≤ length out
  fits_elim e = leb-true (length (lines_of line t p)) (length out) (sym is ∙ not-false fits e)

  pub not_taken : not fits ≡ true
      → (◌≡◌ {A = Fed} (record { number = 11; written = 0; state = t }) (fed_of line t p (length out))) × (out ≡ fed_put line t p out)
  unfolding fed_of
  not_taken e =
      let short = sym is ∙ not-true fits e in
      (rw short, short_front (lines_of line t p) out (leb-false (length (lines_of line t p)) (length out) short))

-- ## The loop that puts lines

-- out₀ and t₀ are those before the piece p
module _ (line : ℕ → List ℕ → List ℕ) (p out₀ : List ℕ) (t₀ : Trace) where
  pub record Putting (out : List ℕ) (t : Trace) (at i : ℕ) : Type 0 where
    pub inside : i ≤ length p
    pub same_room : length out ≡ length out₀
    pub fits : length (lines_of line t₀ p) ≤ length out₀
    pub place : at + length (lines_of line t (drop i p)) ≡ length (lines_of line t₀ p)
    pub lines : sets out at (lines_of line t (drop i p)) ≡ sets out₀ 0 (lines_of line t₀ p)
    pub state : state_of t (drop i p) ≡ state_of t₀ p

  pub putting_start : length (lines_of line t₀ p) ≤ length out₀ → Putting out₀ t₀ 0 0
  putting_start fits = record { inside = omega arith; same_room = refl; fits = fits; place = zero-add _; lines = refl; state = refl }

  pub putting_more : {out : List ℕ} {t : Trace} {at i : ℕ} → Putting out t at i
      → {text out' : List ℕ} {t' : Trace} {at' j : ℕ} → Turn line t p i text t' j → j ≤ length p → Put out at text out' at'
      → Putting out' t' at' j
  putting_more {out} {t} {at} {i} so_far {text} {out'} {t'} {at'} {j} turn h put =
      let rest = lines_of line t' (drop j p) in
      let l = ap length turn.lines ∙ length-append text rest in
      let next : at' ≡ at + length text = omega (arith, put.place, l, so_far.same_room, so_far.fits, so_far.place) in
      record {
        inside = h;
        same_room = put_length put ∙ so_far.same_room;
        fits = so_far.fits;
        place = omega (arith, l, next, so_far.place);
        lines =
            ap₂ (λ (o : List ℕ) (k : ℕ). sets o k rest) put.stored next
            ∙ sets_sets out at text rest
            ∙ ap (sets out at) (sym turn.lines)
            ∙ so_far.lines;
        state = sym turn.state ∙ so_far.state;
      }

  pub record Done (out : List ℕ) (t : Trace) (at : ℕ) : Type 0 where
    pub answer : ◌≡◌ {A = Fed} (record { number = 0; written = at; state = t }) (fed_of line t₀ p (length out₀))
    pub room : out ≡ fed_put line t₀ p out₀

  pub putting_done : {out : List ℕ} {t : Trace} {at i : ℕ} → Putting out t at i → length p ≤ i → Done out t at
  unfolding fed_of
  putting_done {out} {t} {at} {i} so_far h =
      let none = lines_past line t p i h in
      let place : at ≡ length (lines_of line t₀ p) = omega (arith, ap length none, so_far.place) in
      let state : t ≡ state_of t₀ p = sym (state_past line t p i h) ∙ so_far.state in
      record {
        answer = rw (le-leb (length (lines_of line t₀ p)) (length out₀) so_far.fits, place, state);
        room = ap (sets out at) (sym none) ∙ so_far.lines ∙ put_front (lines_of line t₀ p) out₀ so_far.fits;
      }

-- ## The loop that measures them

module _ (line : ℕ → List ℕ → List ℕ) (p : List ℕ) (room : ℕ) (t₀ : Trace) where
  pub record Measuring (t : Trace) (sum i : ℕ) : Type 0 where
    pub inside : i ≤ length p
    pub fits : sum ≤ room
    pub size : sum + length (lines_of line t (drop i p)) ≡ length (lines_of line t₀ p)

  pub measuring_start : Measuring t₀ 0 0
  measuring_start = record { inside = omega arith; fits = omega arith; size = zero-add _ }

  module _ {t t' : Trace} {text : List ℕ} {sum i size : ℕ} (so_far : Measuring t sum i) (h : i < length p)
      (turn : Turn line t p i text t' (i + 1))
      (is : size ≡ length text) where
    measured_turn : length (lines_of line t (drop i p)) ≡ size + length (lines_of line t' (drop (i + 1) p))
    measured_turn = ap length turn.lines ∙ length-append text (lines_of line t' (drop (i + 1) p)) ∙ rw is

    pub measuring_more : size ≤ room - sum → Measuring t' (sum + size) (i + 1)
    measuring_more fits =
        record { inside = omega arith; fits = omega (arith, so_far.fits); size = omega (arith, measured_turn, so_far.size) }

    pub measured_short : room - sum < size → false ≡ leb (length (lines_of line t₀ p)) room
    measured_short short = sym (lt-leb (length (lines_of line t₀ p)) room (omega (arith, measured_turn, so_far.size, so_far.fits)))

  pub measured_all : {t : Trace} {sum i : ℕ} → Measuring t sum i → length p ≤ i → true ≡ leb (length (lines_of line t₀ p)) room
  measured_all {t} {sum} {i} so_far h =
      sym (le-leb (length (lines_of line t₀ p)) room (omega (arith, ap length (lines_past line t p i h), so_far.size, so_far.fits)))
