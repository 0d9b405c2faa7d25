-- What one record claims, slot by slot and window by window, in the words of the code: a slot or a window makes one claim if it holds the
-- address. Assumes nothing.
use Rattle.std.specs.Prelude.{◌≡◌, refl, Bool, true, false, List, [], ◌∷◌, ◌++◌, ℕ, ◌+◌, ◌<◌, ◌≤◌, length, drop}
use Rattle.std.proofs.Common.{sym, ap, ◌∙◌, true≢false}
use Rattle.std.proofs.lemmas.Bool.{false≢true}
use Rattle.lists.specs.Lists.{one_if}
use Rattle.pools.specs.declared.Pool.{Pool}
use Rattle.pools.specs.declared.Pool.TheVariants.{Low, High, Io}
use Rattle.pools.specs.declared.Space.{Space}
use Rattle.pools.specs.declared.Space.TheVariants.{Memory, Io as Ports}
use Rattle.bar.specs.declared.Slot.{Slot}
use Rattle.bar.specs.Bar.{slot_here, slots, is_bad, any_bad, span}
use Rattle.bar.specs.BarLaws.{any_bad_of_bad, any_bad_step}
use Rattle.bar.specs.Values.{value_here}
use Rattle.window.specs.declared.Window.{Window}
use Rattle.window.specs.Window as windows
use Rattle.walk.specs.Registers.{window, Claim}
use Rattle.walk.specs.Tally as tallies
use Rattle.walk.specs.Tally.{join, hits_of}
use Rattle.walk.proofs.TallyLaws.{join_append, join_several}
use Rattle.walk.proofs.SearchLaws.{hits_nil, hits_append}
use Rattle.sheet_record.specs.Spaces.{bar_here, bar_holds, open_range}
use Rattle.sheet_record.specs.Entry.{header_of, is_bridge, secondary_of, window_of, entry_of}
use Rattle.sheet_record.specs.SpacesLaws.{bars_at, bars_step, bars_end_lem, bar_hits, window_hits}
use Rattle.claims.specs.declared.Tally.{Tally}
use Rattle.claims.specs.declared.Tally.TheVariants.{Nothing, One, Several}
use Rattle.claims.specs.Claims.{tally_of, is_several}
use Rattle.claims.specs.Search.{window_claim, window_claims}

pub join_nil : (t : tallies.Tally) → join t [] ≡ t
unfolding join
join_nil t = refl

-- the second claim ends the search
pub several_end : (u : Tally) (b : Bool) (cs : List Claim) (t : tallies.Tally) → b ≡ is_several u → b ≡ true → join (tally_of u) cs ≡ t
    → tally_of u ≡ t
several_end Nothing b cs t e y j = absurd (false≢true (sym e ∙ y))
several_end (One x) b cs t e y j = absurd (false≢true (sym e ∙ y))
several_end Several b cs t e y j = sym (join_several cs) ∙ j

-- ## Windows, in the words of the code: w is the registers that were read, b the test of them

module _ (t : tallies.Tally) (address k : ℕ) (q : Pool) (p : List ℕ) (w : Window) (b : Bool) (e : w ≡ window_of q p)
    (f : b ≡ windows.holds q w address) where
  window_claim_is : (x : Bool) → b ≡ x → window_claim q address k p ≡ one_if x (window k (secondary_of p))
  window_claim_is x y =
      window_hits q (window_of q p) address (window k (secondary_of p))
      ∙ ap (λ (z : Bool). one_if z (window k (secondary_of p))) (sym (f ∙ ap (λ (z : Window). windows.holds q z address) e) ∙ y)

  pub window_hit : (u : tallies.Tally) (secondary : ℕ) → u ≡ join t (window k secondary ∷ []) → secondary ≡ secondary_of p → b ≡ true
      → u ≡ join t (window_claim q address k p)
  window_hit u secondary g h y =
      g ∙ ap (λ (x : ℕ). join t (window k x ∷ [])) h ∙ sym (ap (join t) (window_claim_is true y))

  pub window_miss : b ≡ false → t ≡ join t (window_claim q address k p)
  window_miss n = sym (ap (join t) (window_claim_is false n) ∙ join_nil t)

-- the windows that a function has, low before high
module _ (address k : ℕ) (p : List ℕ) (t : tallies.Tally) where
  pub windows_none : (space : Space) → is_bridge (header_of p) ≡ false → t ≡ join t (window_claims space address k p)
  unfolding entry_of
  windows_none space e = rw (e, hits_nil address (window k 0)) (sym (join_nil t))

  windows_memory_are : is_bridge (header_of p) ≡ true
      → window_claims Memory address k p ≡ window_claim Low address k p ++ window_claim High address k p
  unfolding entry_of
  windows_memory_are e =
      rw e (hits_append address (window k (secondary_of p)) (open_range Low (window_of Low p)) (open_range High (window_of High p)))

  pub windows_memory : (low both : tallies.Tally) → is_bridge (header_of p) ≡ true
      → low ≡ join t (window_claim Low address k p) → both ≡ join low (window_claim High address k p)
      → both ≡ join t (window_claims Memory address k p)
  windows_memory low both e l h =
      h ∙ ap (λ (u : tallies.Tally). join u (window_claim High address k p)) l
      ∙ sym (ap (join t) (windows_memory_are e) ∙ join_append t _ _)

  pub windows_ports : (u : tallies.Tally) → is_bridge (header_of p) ≡ true
      → u ≡ join t (window_claim Io address k p) → u ≡ join t (window_claims Ports address k p)
  unfolding entry_of
  windows_ports u e h = rw e h

-- ## BARs, from a place of the set on

abbrev pub LawfulFrom : List ℕ → ℕ → Type 0
LawfulFrom rs i = any_bad (slots (drop i rs)) ≡ false

-- x is the slot at i, n the places that it takes
module _ (rs : List ℕ) (i : ℕ) (x : Slot) (n : ℕ) (h : i < length rs) (e : x ≡ slot_here (drop i rs)) (m : n ≡ span x)
    (lawful : LawfulFrom rs i) where
  pub not_bad : is_bad x ≡ false
  not_bad = go (is_bad x) refl
    where
      go : (b : Bool) → is_bad x ≡ b → b ≡ false
      go true q = absurd (true≢false (sym (any_bad_of_bad rs i x h e q) ∙ lawful))
      go false q = refl

  pub lawful_next : LawfulFrom rs (i + n)
  lawful_next = ap (λ (j : ℕ). any_bad (slots (drop (i + j) rs))) m ∙ any_bad_step rs i x h e not_bad ∙ lawful

  -- v is the number in its registers, b the test of it
  module _ (space : Space) (vs : List ℕ) (v address : ℕ) (b : Bool) (g : v ≡ value_here x (drop i vs)) (f : b ≡ bar_holds space x v address)
      (t : tallies.Tally) (c : Claim) (rest : List Claim) where
    hits_step : hits_of address c (bars_at space rs vs i) ≡ one_if b c ++ hits_of address c (bars_at space rs vs (i + n))
    hits_step =
        let later = hits_of address c (bars_at space rs vs (i + n)) in
        ap (hits_of address c) (bars_step space rs vs i x h e not_bad
        ∙ ap (λ (j : ℕ). bar_here space x (drop i vs) ++ bars_at space rs vs (i + j)) (sym m))
        ∙ hits_append address c (bar_here space x (drop i vs)) (bars_at space rs vs (i + n))
        ∙ ap (λ (cs : List Claim). cs ++ later) (bar_hits space x (drop i vs) address c)
        ∙ ap (λ (y : Bool). one_if y c ++ later) (ap (λ (u : ℕ). bar_holds space x u address) (sym g) ∙ sym f)

    -- u is the tally with its claim
    pub bar_hit : (u : tallies.Tally) → u ≡ join t (c ∷ []) → b ≡ true
        → join u (hits_of address c (bars_at space rs vs (i + n)) ++ rest) ≡ join t (hits_of address c (bars_at space rs vs i) ++ rest)
    bar_hit u w y =
        let cs = hits_of address c (bars_at space rs vs (i + n)) in
        ap (λ (z : tallies.Tally). join z (cs ++ rest)) w
        ∙ sym (ap (λ (ds : List Claim). join t (ds ++ rest)) (hits_step ∙ ap (λ (z : Bool). one_if z c ++ cs) y)
        ∙ join_append t (c ∷ []) (cs ++ rest))

    pub bar_miss : b ≡ false
        → join t (hits_of address c (bars_at space rs vs (i + n)) ++ rest) ≡ join t (hits_of address c (bars_at space rs vs i) ++ rest)
    bar_miss z =
        let cs = hits_of address c (bars_at space rs vs (i + n)) in
        sym (ap (λ (ds : List Claim). join t (ds ++ rest)) (hits_step ∙ ap (λ (y : Bool). one_if y c ++ cs) z))

-- after the last slot: the windows, and then what is left
pub windows_turn : (space : Space) (address : ℕ) (c : Claim) (rs vs : List ℕ) (i : ℕ) (t u : tallies.Tally) (windows rest : List Claim)
    → length rs ≤ i → u ≡ join t windows → join u rest ≡ join t (hits_of address c (bars_at space rs vs i) ++ (windows ++ rest))
windows_turn space address c rs vs i t u windows rest h e =
    let past = ap (hits_of address c) (bars_end_lem space rs vs i h) ∙ hits_nil address c in
    ap (λ (z : tallies.Tally). join z rest) e
    ∙ sym (ap (λ (cs : List Claim). join t (cs ++ (windows ++ rest))) past ∙ join_append t windows rest)
