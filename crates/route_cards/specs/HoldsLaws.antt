-- BARs slot by slot and windows one by one, in the words of the code: does one of them hold the address? Assumes nothing.
use Rattle.std.specs.Prelude.{◌≡◌, refl, Bool, true, false, cond, List, [], ◌∷◌, ◌++◌, map, ℕ, ◌+◌, ◌≤◌, ◌<◌, length, take, drop}
use Rattle.std.proofs.Math.Path.{sym, ap₂}
use Rattle.std.proofs.Common.{ap, ◌∙◌}
use Rattle.std.proofs.Math.Bool.{◌||◌}
use Rattle.endian.specs.Endian.{be, le}
use Rattle.lists.specs.Lists.{keep, any}
use Rattle.pools.specs.declared.Pool.{Pool}
use Rattle.pools.specs.declared.Pool.TheVariants.{Low, High, Io}
use Rattle.pools.specs.declared.Space.{Space}
use Rattle.pools.specs.declared.Space.TheVariants.{Memory, Io as Ports}
use Rattle.bar.specs.declared.Slot.{Slot}
use Rattle.bar.specs.Bar.{slot_here, any_bad, span}
use Rattle.bar.specs.Values.{value_here}
use Rattle.window.specs.declared.Window.{Window}
use Rattle.window.specs.Window as windows
use Rattle.walk.specs.Ranges.{Range, holds}
use Rattle.walk.specs.Registers.{Claim, bar}
use Rattle.walk.specs.Tally.{hits_of}
use Rattle.sheet_record.specs.Places.{values_at, readbacks_at}
use Rattle.sheet_record.specs.Entry.{dwords, header_of, is_bridge, slot_count, window_of, entry_of}
use Rattle.sheet_record.specs.EntryLaws.{bars_entry}
use Rattle.sheet_record.specs.Spaces.{slots_of, bar_here, bar_holds, bars_of, open_range, windows_of}
use Rattle.sheet_record.specs.SpacesLaws.{bars_at, bars_step, bars_end_lem, bar_hits, window_hits}
use Rattle.claims.specs.HitsLaws.{LawfulFrom, not_bad}
use Rattle.route_cards.specs.Search.{any_holds}

-- ## One of several ranges holds the address exactly where these make a claim

abbrev not_none : List Claim → Bool
not_none [] = false
not_none (c ∷ cs) = true

any_hits : (address : ℕ) (c : Claim) (rs : List Range) → any_holds address rs ≡ not_none (hits_of address c rs)
unfolding any_holds any hits_of keep
any_hits address c [] = refl
any_hits address c (r ∷ rs) = go (holds r address) (any_hits address c rs)
  where
    go : (b : Bool) → any (λ s. holds s address) rs ≡ not_none (map (λ (s : Range). c) (keep (λ s. holds s address) rs))
        → (b || any (λ s. holds s address) rs)
        ≡ not_none (map (λ (s : Range). c) (cond b (r ∷ keep (λ s. holds s address) rs) (keep (λ s. holds s address) rs)))
    go true e = refl
    go false e = e

any_of_one : (address : ℕ) (rs : List Range) (b : Bool) → hits_of address (bar 0) rs ≡ cond b (bar 0 ∷ []) [] → any_holds address rs ≡ b
any_of_one address rs b e = any_hits address (bar 0) rs ∙ ap not_none e ∙ go b
  where
    go : (b : Bool) → not_none (cond b (bar 0 ∷ []) []) ≡ b
    go true = refl
    go false = refl

any_append : (address : ℕ) (rs ss : List Range) → any_holds address (rs ++ ss) ≡ (any_holds address rs || any_holds address ss)
unfolding any_holds any
any_append address [] ss = refl
any_append address (r ∷ rs) ss = go (holds r address) (any_append address rs ss)
  where
    go : (b : Bool) → any (λ s. holds s address) (rs ++ ss) ≡ (any (λ s. holds s address) rs || any (λ s. holds s address) ss)
        → (b || any (λ s. holds s address) (rs ++ ss)) ≡ ((b || any (λ s. holds s address) rs) || any (λ s. holds s address) ss)
    go true e = refl
    go false e = e

any_none : (address : ℕ) → any_holds address [] ≡ false
unfolding any_holds any
any_none address = refl

-- ## Windows

-- w is the registers that were read, b the test of them
pub window_any : (q : Pool) (p : List ℕ) (address : ℕ) (w : Window) (b : Bool) → w ≡ window_of q p → b ≡ windows.holds q w address
    → b ≡ any_holds address (open_range q (window_of q p))
window_any q p address w b e f =
    f ∙ ap (λ (z : Window). windows.holds q z address) e
    ∙ sym (any_of_one address (open_range q (window_of q p)) _ (window_hits q (window_of q p) address (bar 0)))

module _ (p : List ℕ) (address : ℕ) (bridge : is_bridge (header_of p) ≡ true) where
  pub windows_memory : (l h : Bool) → l ≡ any_holds address (open_range Low (window_of Low p))
      → h ≡ any_holds address (open_range High (window_of High p))
      → (l || h) ≡ any_holds address (windows_of Memory (entry_of p))
  unfolding entry_of
  windows_memory l h e f =
      ap₂ ◌||◌ e f ∙ sym (any_append address (open_range Low (window_of Low p)) (open_range High (window_of High p))) ∙ rw bridge

  pub windows_ports : (b : Bool) → b ≡ any_holds address (open_range Io (window_of Io p)) → b ≡ any_holds address (windows_of Ports (entry_of p))
  unfolding entry_of
  windows_ports b e = rw bridge e

-- ## BARs, from a place of the set on

module _ (p : List ℕ) (set values : List ℕ) (m : ℕ) (r : set ≡ dwords (be 4) 6 p readbacks_at) (v : values ≡ dwords (le 4) 6 p values_at)
    (n : m ≡ slot_count (header_of p)) where
  pub bars_lawful : any_bad (slots_of (entry_of p)) ≡ false → LawfulFrom (take m set) 0
  unfolding entry_of
  bars_lawful lawful = rw (r, n) lawful

  pub bars_start : (space : Space) (address : ℕ)
      → any_holds address (bars_at space (take m set) (take m values) 0) ≡ any_holds address (bars_of space (entry_of p))
  bars_start space address = rw (r, v, n) (ap (any_holds address) (sym (bars_entry p space)))

-- x is the slot at i, n the places that it takes, v the number in its registers, b the test of it
module _ (space : Space) (address : ℕ) (rs vs : List ℕ) (i : ℕ) (x : Slot) (n : ℕ) (h : i < length rs) (e : x ≡ slot_here (drop i rs))
    (m : n ≡ span x) (lawful : LawfulFrom rs i) (v : ℕ) (g : v ≡ value_here x (drop i vs)) (b : Bool) (f : b ≡ bar_holds space x v address)
  where
    any_step : any_holds address (bars_at space rs vs i) ≡ (b || any_holds address (bars_at space rs vs (i + n)))
    any_step =
        ap (any_holds address) (bars_step space rs vs i x h e (not_bad rs i x n h e m lawful)
        ∙ ap (λ (j : ℕ). bar_here space x (drop i vs) ++ bars_at space rs vs (i + j)) (sym m))
        ∙ any_append address (bar_here space x (drop i vs)) (bars_at space rs vs (i + n))
        ∙ ap (λ (y : Bool). y || any_holds address (bars_at space rs vs (i + n)))
        (any_of_one address (bar_here space x (drop i vs)) _ (bar_hits space x (drop i vs) address (bar 0))
        ∙ ap (λ (u : ℕ). bar_holds space x u address) (sym g)
        ∙ sym f)

    pub bar_found : b ≡ true → true ≡ any_holds address (bars_at space rs vs i)
    bar_found y = sym (any_step ∙ ap (λ (z : Bool). z || any_holds address (bars_at space rs vs (i + n))) y)

    pub bar_passed : b ≡ false → any_holds address (bars_at space rs vs (i + n)) ≡ any_holds address (bars_at space rs vs i)
    bar_passed y = sym (any_step ∙ ap (λ (z : Bool). z || any_holds address (bars_at space rs vs (i + n))) y)

pub bars_over : (space : Space) (address : ℕ) (rs vs : List ℕ) (i : ℕ) → length rs ≤ i → false ≡ any_holds address (bars_at space rs vs i)
bars_over space address rs vs i h = sym (ap (any_holds address) (bars_end_lem space rs vs i h) ∙ any_none address)
