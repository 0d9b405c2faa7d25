-- Who is named where a pool runs out: an item really does, and none before it does; and the item named as the one before which most room is
-- lost really loses it, and no item loses more. Assumes nothing.
use Rattle.std.specs.Prelude.{◌≡◌, ◌⊎◌, Bool, cond, ◌&&◌, ◌||◌, ℕ, suc, ◌≤◌, ◌<◌}
use Rattle.std.proofs.Math.Path.{refl, sym, ap}
use Rattle.std.proofs.Common.{ap₂, ◌∙◌, arith}
use Rattle.std.proofs.Math.Logic.{inl, inr, ⊎_elim}
use Rattle.std.proofs.Math.Bool.{true, false, and-true}
use Rattle.std.proofs.lemmas.Bool.{false≢true}
use mathlib.Core.List.{List, [], ◌∷◌}
use Rattle.std.proofs.Math.Dec.{eqb, ltb}
use borrow.Author.Tests.{ltb-true, ltb-false, lt-ltb, eq-eqb, ne_eqb}
use Rattle.lists.specs.Lists.{All, any, keep}
use Rattle.lists.specs.KeepLaws.{all_keep}
use Rattle.plan_rule.specs.Pools.{Pool, same_pool}
use Rattle.plan_rule.specs.Records.{Host, Function, Lawful}
use Rattle.plan_rule.specs.Layout.{Piece, Placed, is_on, select, start_at, layout_end, largest_align}
use Rattle.plan_rule.specs.Pieces.{pieces}
use Rattle.plan_rule.proofs.PieceLaws.{Shaped, has_align, pieces_shaped}
use Rattle.plan_rule.specs.Placing.{Cursors, moved, from_bases, place, placed}
use Rattle.plan_rule.specs.Refusals.{is_past, out_of_pool}
use Rattle.plan_rule.proofs.RefusalLaws.{out_of_pool_end}
use Rattle.planner.specs.MeasureLaws.{past_base}
use Rattle.finding.specs.declared.Party.{Party}
use Rattle.finding.specs.Places.{nobody}
use Rattle.finding.specs.FirstLaws.{FirstOf, first_of_any, first_is}
use Rattle.plan_needs.specs.Bases.{is_closed, layout_base, laid_host}
use Rattle.plan_items.specs.declared.Loss.{Loss}
use Rattle.plan_items.specs.Items.{Item, items_from, items_of, party_of, runs_out, first_out, lost_before, no_loss}
use Rattle.plan_items.specs.Items.{most_lost_from, most_lost}

-- ## Some item runs out exactly when the pool does

abbrev as_placed : Item → Placed
as_placed x = record { piece = x.piece; start = x.start }

any_placed : (t : Placed → Bool) (c : Cursors) (ps : List Piece) → any t (place c ps) ≡ any (λ x. t (as_placed x)) (items_from c ps)
unfolding any place items_from
any_placed t c [] = refl
any_placed t c (p ∷ ps) =
    let s = start_at (c p.bus p.pool) p in
    ap (t (record { piece = p; start = s }) ||◌) (any_placed t (moved c p s) ps)

any_piece : (t : Piece → Bool) (c : Cursors) (ps : List Piece) → any (λ x. t x.piece) (items_from c ps) ≡ any t ps
unfolding any items_from
any_piece t c [] = refl
any_piece t c (p ∷ ps) = ap (t p ||◌) (any_piece t (moved c p (start_at (c p.bus p.pool) p)) ps)

any_same : {A : Type 0} (t u : A → Bool) → ((x : A) → t x ≡ u x) → (xs : List A) → any t xs ≡ any u xs
unfolding any
any_same t u e [] = refl
any_same t u e (x ∷ xs) = ap₂ (λ (a b : Bool). a || b) (e x) (any_same t u e xs)

-- the root bus has an item of the pool
some_root : (q : Pool) (ps : List Piece) → All Shaped ps → any (is_on 0 q) ps ≡ ltb 0 (largest_align (select 0 q ps))
unfolding any keep largest_align
some_root q [] shaped = refl
some_root q (p ∷ ps) shaped = go (is_on 0 q p) (some_root q ps shaped.1)
  where
    go : (t : Bool) → any (is_on 0 q) ps ≡ ltb 0 (largest_align (select 0 q ps))
        → (t || any (is_on 0 q) ps) ≡ ltb 0 (largest_align (cond t (p ∷ select 0 q ps) (select 0 q ps)))
    go true ih = sym (lt-ltb 0 (largest_align (p ∷ select 0 q ps)) (omega (arith, has_align p shaped.0)))
    go false ih = ih

module _ (h : Host) (fs : List Function) (lawful : Lawful fs) (q : Pool) where
  abbrev content : List Piece
  content = select 0 q (pieces 1 fs)

  shaped : All Shaped (pieces 1 fs)
  shaped = pieces_shaped 1 fs lawful.sized

  out_open : is_closed h q ≡ false → any (runs_out h q) (items_of h fs) ≡ out_of_pool h fs q
  unfolding items_of out_of_pool placed
  out_open e =
      any_same (runs_out h q) (λ x. is_past (laid_host h) q (as_placed x)) (λ x. rw e) (items_of h fs)
      ∙ sym (any_placed (is_past (laid_host h) q) (from_bases (laid_host h)) (pieces 1 fs))
      ∙ out_of_pool_end (laid_host h) fs lawful q
      ∙ ap (λ (b : ℕ). ltb 0 (largest_align content) && ltb (suc (h.last q)) (layout_end b content)) base
      ∙ sym (out_of_pool_end h fs lawful q)
    where
      base : layout_base h q ≡ h.base q
      base = rw e

  out_closed : is_closed h q ≡ true → any (runs_out h q) (items_of h fs) ≡ out_of_pool h fs q
  unfolding items_of
  out_closed e =
      any_same (runs_out h q) (λ x. is_on 0 q x.piece) (λ x. rw e (and-true (is_on 0 q x.piece))) (items_of h fs)
      ∙ any_piece (is_on 0 q) (from_bases (laid_host h)) (pieces 1 fs)
      ∙ some_root q (pieces 1 fs) shaped
      ∙ sym (past_base (suc (h.last q)) (h.base q) (omega (arith, ltb-true (h.last q) (h.base q) e)) content
      (all_keep (is_on 0 q) Shaped (pieces 1 fs) shaped))
      ∙ sym (out_of_pool_end h fs lawful q)

  some_out : any (runs_out h q) (items_of h fs) ≡ out_of_pool h fs q
  some_out = go (is_closed h q) refl
    where
      go : (t : Bool) → is_closed h q ≡ t → any (runs_out h q) (items_of h fs) ≡ out_of_pool h fs q
      go true e = out_closed e
      go false e = out_open e

  -- the root bus item named is the first that runs out of its pool
  pub record NamedOut (party : Party) : Type 0 where
    pub is_first_out : FirstOf (runs_out h q) (items_of h fs)
    pub party_is : party ≡ party_of is_first_out.one

  pub named_out : out_of_pool h fs q ≡ true → NamedOut (first_out h fs q)
  unfolding first_out
  named_out e =
      let f = first_of_any (runs_out h q) (items_of h fs) (some_out ∙ e) in
      record { is_first_out = f; party_is = first_is (runs_out h q) party_of nobody (items_of h fs) f }

-- ## The most room lost

-- of pool q, and so much is lost before it
abbrev pub loses_in : Pool → ℕ → Item → Bool
loses_in q room x = same_pool x.piece.pool q && eqb (lost_before x) room

-- the first item before which so much is lost
pub record NamedLoss (q : Pool) (xs : List Item) (loss : Loss) : Type 0 where
  pub first_lost : FirstOf (loses_in q loss.room) xs
  pub party_is : loss.party ≡ party_of first_lost.one

pub record Most (q : Pool) (xs : List Item) (from loss : Loss) : Type 0 where
  pub grown : from.room ≤ loss.room
  pub no_more : All (λ x. same_pool x.piece.pool q ≡ true → lost_before x ≤ loss.room) xs
  pub named : (loss ≡ from) ⊎ ((from.room < loss.room) × NamedLoss q xs loss)

module _ (q : Pool) where
  most_is : (from : Loss) (xs : List Item) → Most q xs from (most_lost_from q from xs)
  unfolding most_lost_from
  most_is from [] = record { grown = omega arith; no_more = tt; named = inl refl }
  most_is from (x ∷ xs) = go (λ l. most_is l xs) (same_pool x.piece.pool q) refl (ltb from.room (lost_before x)) refl
    where
      -- x is passed over: it is of another pool, or loses no more
      over : (x_same : Bool) → same_pool x.piece.pool q ≡ x_same → (x_same ≡ true → lost_before x ≤ from.room)
          → (r : Loss) → Most q xs from r → Most q (x ∷ xs) from r
      over b same small r m =
          record {
            grown = m.grown;
            no_more = ((λ e. omega (arith, small (sym same ∙ e), m.grown)), m.no_more);
            named = ⊎_elim inl (λ l. inr (l.0, later l.0 l.1)) m.named;
          }
        where
          not_here : from.room < r.room → (t : Bool) → same_pool x.piece.pool q ≡ t → (t && eqb (lost_before x) r.room) ≡ false
          not_here l true e = ne_eqb (lost_before x) r.room (λ g. omega (arith, small (sym same ∙ e), l, g))
          not_here l false e = refl

          later : from.room < r.room → NamedLoss q xs r → NamedLoss q (x ∷ xs) r
          later l n =
              let f = n.first_lost in
              record {
                first_lost =
                    record {
                      one = f.one;
                      before = x ∷ f.before;
                      after = f.after;
                      splits = ap (x ∷◌) f.splits;
                      passes = f.passes;
                      none_before = (not_here l (same_pool x.piece.pool q) refl, f.none_before);
                    };
                party_is = n.party_is;
              }

      here : Loss
      here = record { party = party_of x; room = lost_before x }

      -- x loses more than all before it
      taken : same_pool x.piece.pool q ≡ true → from.room < lost_before x → (r : Loss) → Most q xs here r → Most q (x ∷ xs) from r
      taken same more r m =
          record {
            grown = omega (arith, m.grown, more);
            no_more = ((λ _. m.grown), m.no_more);
            named = inr (omega (arith, m.grown, more), ⊎_elim stays later m.named);
          }
        where
          stays : r ≡ here → NamedLoss q (x ∷ xs) r
          stays e =
              rw e
              (record {
                first_lost =
                    record {
                      one = x;
                      before = [];
                      after = xs;
                      splits = refl;
                      passes = rw (same, eq-eqb (lost_before x) (lost_before x) refl);
                      none_before = tt;
                    };
                party_is = refl;
              })

          later : (lost_before x < r.room) × NamedLoss q xs r → NamedLoss q (x ∷ xs) r
          later (l, n) =
              let f = n.first_lost in
              record {
                first_lost =
                    record {
                      one = f.one;
                      before = x ∷ f.before;
                      after = f.after;
                      splits = ap (x ∷◌) f.splits;
                      passes = f.passes;
                      none_before = (rw (same, ne_eqb (lost_before x) r.room (λ g. omega (arith, l, g))), f.none_before);
                    };
                party_is = n.party_is;
              }

      go : ((l : Loss) → Most q xs l (most_lost_from q l xs)) → (s : Bool) → same_pool x.piece.pool q ≡ s
          → (t : Bool) → ltb from.room (lost_before x) ≡ t
          → Most q (x ∷ xs) from (most_lost_from q (cond s (cond t here from) from) xs)
      go rest true same true more =
          taken same (ltb-true from.room (lost_before x) more) (most_lost_from q here xs) (rest here)
      go rest true same false less =
          over true same (λ _. ltb-false from.room (lost_before x) less) (most_lost_from q from xs) (rest from)
      go rest false same t more = over false same (λ e. absurd (false≢true e)) (most_lost_from q from xs) (rest from)

-- no item of the pool loses more room to alignment than the one named, and that one does, the first of those; nobody where none is lost
pub record LosesMost (h : Host) (fs : List Function) (q : Pool) (party : Party) : Type 0 where
  pub room : ℕ
  pub no_more : All (λ x. same_pool x.piece.pool q ≡ true → lost_before x ≤ room) (items_of h fs)
  pub named : 0 < room → NamedLoss q (items_of h fs) (record { party = party; room = room })
  pub nobody_for_none : room ≡ 0 → party ≡ nobody

pub loses_most : (h : Host) (fs : List Function) (q : Pool) → LosesMost h fs q (most_lost h fs q).party
unfolding most_lost
loses_most h fs q =
    let m = most_is q no_loss (items_of h fs) in
    record {
      room = (most_lost_from q no_loss (items_of h fs)).room;
      no_more = m.no_more;
      named = λ l. ⊎_elim (λ e. absurd (omega (arith, l, ap (λ (x : Loss). x.room) e))) (λ n. n.1) m.named;
      nobody_for_none = λ z. ⊎_elim (λ e. ap (λ (x : Loss). x.party) e) (λ n. absurd (omega (arith, n.0, z))) m.named;
    }
