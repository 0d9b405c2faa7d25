-- What the walk has seen at its end: the first item that runs out of the pool, and the most room lost. An item's record is never 0, so
-- that nobody says "none yet"; and an open pool ends below 2^52, so that an end told up to 2^62 decides as the whole one. Assumes nothing.
use Rattle.std.specs.Prelude.{◌≡◌, Bool, false, ◌&&◌, ◌||◌, ℕ, suc, ◌<◌, eqb, ltb}
use Rattle.std.proofs.Math.Path.{refl, sym, ap}
use Rattle.std.proofs.Common.{◌∙◌, arith, ltb-false, ne_eqb}
use Rattle.std.proofs.Math.Logic.{⊎_elim}
use Rattle.std.proofs.Math.Bool.{true, cond}
use mathlib.Core.List.{List, [], ◌∷◌}
use Rattle.arith.specs.BoolLaws.{true_or_false}
use Rattle.lists.specs.Lists.{All, keep}
use Rattle.plan_rule.specs.Pools.{Pool, same_pool}
use Rattle.plan_rule.specs.Records.{Host, Function, Sized}
use Rattle.plan_rule.specs.Pieces.{pieces}
use Rattle.plan_rule.proofs.PieceLaws.{pieces_owner}
use Rattle.plan_rule.specs.Placing.{from_bases}
use Rattle.plan_rule.specs.Cap.{cap}
use Rattle.plan_rule.proofs.CapLaws.{cap_past}
use Rattle.plan_good.specs.Boards.{OpenEndsLow}
use Rattle.plan_needs.specs.Bases.{is_closed, laid_host}
use Rattle.finding.specs.declared.Party.{Party}
use Rattle.finding.specs.First.{first}
use Rattle.plan_items.specs.declared.Watched.{Watched}
use Rattle.plan_items.specs.declared.Seen.{Seen}
use Rattle.plan_items.specs.Items.{Item, items_of, party_of, item_end, runs_out, first_out, most_lost_from, most_lost}
use Rattle.plan_items.specs.Walk.{watched_of, nothing_seen, ends_out, see, see_all, told_of}
use Rattle.plan_items.specs.ItemsLaws.{told_in, all_items}

same_either : {A : Type 0} (t : Bool) (x : A) → cond t x x ≡ x
same_either true x = refl
same_either false x = refl

-- what is found after z was: z, unless it is nobody
abbrev unless_nobody : (Party → Party) → Party → Party
unless_nobody r z = cond (eqb z.number 0) (r z) z

-- one more item: a is its record and place, o is what was found before it, r what is found after that
out_step : (n t u : Bool) (a o : Party) (r : Party → Party) → eqb o.number 0 ≡ n → eqb a.number 0 ≡ false
    → unless_nobody r (cond (n && (t && u)) a o) ≡ cond n (cond (t && true && u) a (r o)) o
out_step true true true a o r e f = rw f
out_step true true false a o r e f = rw e
out_step true false u a o r e f = rw e
out_step false t u a o r e f = rw e

module _ (h : Host) (q : Pool) (low : OpenEndsLow h q) where
  abbrev w : Watched
  w = watched_of h q

  ends_out_lem : (x : ℕ) → ends_out w (cap x) ≡ (is_closed h q || ltb (suc (h.last q)) x)
  ends_out_lem x = go (is_closed h q) refl
    where
      go : (t : Bool) → is_closed h q ≡ t → (t || ltb (suc (h.last q)) (cap x)) ≡ (t || ltb (suc (h.last q)) x)
      go true e = refl
      go false e = cap_past (h.last q) x (low (ltb-false (h.last q) (h.base q) e))

  other_pool : (x : Item) → same_pool x.piece.pool q ≡ false → runs_out h q x ≡ false
  other_pool x e = rw e (go (eqb x.piece.bus 0))
    where
      go : (t : Bool) → (t && false && (is_closed h q || ltb (suc (h.last q)) (item_end x))) ≡ false
      go true = refl
      go false = refl

  abbrev Owned : Item → Type 0
  Owned x = 0 < x.piece.owner

  abbrev found : Seen → List Item → Party
  found s xs = unless_nobody (λ z. first (runs_out h q) party_of z xs) s.out

  stepped : (s : Seen) (x : Item) (next : Party → Party) → Owned x
      → unless_nobody next (see w s (told_of x)).out
      ≡ cond (eqb s.out.number 0)
      (cond (eqb x.piece.bus 0 && true && (is_closed h q || ltb (suc (h.last q)) (item_end x))) (party_of x) (next s.out))
      s.out
  unfolding see
  stepped s x next o =
      out_step (eqb s.out.number 0) (eqb x.piece.bus 0) (ends_out w (cap (item_end x))) (party_of x) s.out next refl
      (ne_eqb x.piece.owner 0 (λ e. omega arith))
      ∙ ap (λ (u : Bool). cond (eqb s.out.number 0) (cond (eqb x.piece.bus 0 && true && u) (party_of x) (next s.out)) s.out)
      (ends_out_lem (item_end x))

  out_told : (s : Seen) (xs : List Item) → All Owned xs → (see_all w s (told_in q xs)).out ≡ found s xs
  unfolding see_all first keep
  out_told s [] o = sym (same_either (eqb s.out.number 0) s.out)
  out_told s (x ∷ xs) o =
      ⊎_elim
      (λ (e : same_pool x.piece.pool q ≡ true). rw e (out_told (see w s (told_of x)) xs o.1 ∙ here e))
      (λ (e : same_pool x.piece.pool q ≡ false). rw (other_pool x e, e) (out_told s xs o.1))
      (true_or_false (same_pool x.piece.pool q))
    where
      next : Party → Party
      next z = first (runs_out h q) party_of z xs

      here : same_pool x.piece.pool q ≡ true → found (see w s (told_of x)) xs
          ≡ cond (eqb s.out.number 0)
          (cond (eqb x.piece.bus 0 && true && (is_closed h q || ltb (suc (h.last q)) (item_end x))) (party_of x) (next s.out))
          s.out
      here e = stepped s x next o.0

  most_told : (s : Seen) (xs : List Item) → (see_all w s (told_in q xs)).most ≡ most_lost_from q s.most xs
  unfolding see_all see most_lost_from keep
  most_told s [] = refl
  most_told s (x ∷ xs) =
      ⊎_elim
      (λ (e : same_pool x.piece.pool q ≡ true). rw e (most_told (see w s (told_of x)) xs))
      (λ (e : same_pool x.piece.pool q ≡ false). rw e (most_told s xs))
      (true_or_false (same_pool x.piece.pool q))

  pub seen_all : (fs : List Function) → Sized fs
      → see_all w nothing_seen (told_in q (items_of h fs)) ≡ record { out = first_out h fs q; most = most_lost h fs q }
  unfolding items_of first_out most_lost
  seen_all fs sized =
      let xs = items_of h fs in
      let owned = all_items (λ p. 0 < p.owner) (from_bases (laid_host h)) (pieces 1 fs) (pieces_owner 1 fs sized) in
      let out = out_told nothing_seen xs owned in
      let most = most_told nothing_seen xs in
      λ i. record { out = out i; most = most i }
