-- BARs slot by slot and windows one by one, in the words of a search: which of them claims an address; and bits of the command word.
-- Assumes nothing.
use Rattle.std.specs.Prelude.{◌≡◌, refl, Bool, true, false, cond, ◌&&◌, List, [], ◌∷◌, ◌++◌, map, ℕ, ◌+◌, ◌-◌, ◌^◌, ◌≤◌, ◌<◌, length, drop, leb, ltb}
use Rattle.std.proofs.Common.{sym, ap, ◌∙◌, arith, drop_of_length-le, drop-drop, ltb-true, ltb-false, lt-ltb, le-ltb, leb-true, le-leb}
use Rattle.std.proofs.Math.Nat.{zero-div}
use Rattle.std.proofs.lemmas.Bool.{lt-leb}
use Rattle.pools.specs.declared.Pool.{Pool}
use Rattle.pools.specs.declared.Space.{Space}
use Rattle.pools.specs.declared.Space.TheVariants.{Memory, Io as Ports}
use Rattle.pools.specs.Pools.{in_space}
use Rattle.bar.specs.declared.Slot.{Slot}
use Rattle.bar.specs.declared.Slot.TheVariants.{Unused, Bar, Upper, Bad}
use Rattle.bar.specs.Bar.{slot_here, slots, is_bad, takes_next, span}
use Rattle.bar.specs.BarLaws.{slots_at_step}
use Rattle.bar.specs.Values.{value_here, base_of}
use Rattle.window.specs.declared.Window.{Window}
use Rattle.window.specs.Window as windows
use Rattle.walk.specs.Ranges.{Range, holds}
use Rattle.walk.specs.Registers.{Claim}
use Rattle.lists.specs.Lists.{keep}
use Rattle.walk.specs.Tally.{hits_of}
use Rattle.sheet_record.specs.Spaces.{bar_range, bar_here, bars_from, bar_holds, pool_of, open_range, command_bit, space_bit}

-- ## BARs

-- what is left of a search from slot i on
abbrev pub bars_at : Space → List ℕ → List ℕ → ℕ → List Range
bars_at space rs vs i = bars_from space (slots (drop i rs)) (drop i vs)

pub bars_step : (space : Space) (rs vs : List ℕ) (i : ℕ) (x : Slot) → i < length rs → x ≡ slot_here (drop i rs) → is_bad x ≡ false
    → bars_at space rs vs i ≡ bar_here space x (drop i vs) ++ bars_at space rs vs (i + span x)
unfolding bars_from
bars_step space rs vs i x h e l =
    ap (λ (xs : List Slot). bars_from space xs (drop i vs)) (slots_at_step rs i x h e l)
    ∙ ap (bar_here space x (drop i vs) ++◌) (go (takes_next x))
  where
    two : i + 1 + 1 ≡ i + 2
    two = omega arith

    go : (b : Bool) → bars_from space (cond b (Upper ∷ slots (drop (i + 2) rs)) (slots (drop (i + 1) rs))) (drop 1 (drop i vs))
        ≡ bars_at space rs vs (i + cond b 2 1)
    go true = rw (drop-drop 1 i vs, drop-drop 1 (i + 1) vs, two)
    go false = rw (drop-drop 1 i vs)

pub bars_end_lem : (space : Space) (rs vs : List ℕ) (i : ℕ) → length rs ≤ i → bars_at space rs vs i ≡ []
unfolding bars_from slots
bars_end_lem space rs vs i h = rw (drop_of_length-le rs h)

-- a range that is there under a condition has one claim where it is there and holds the address
hits_of_one : (b : Bool) (r : Range) (address : ℕ) (c : Claim) → hits_of address c (cond b (r ∷ []) [])
    ≡ cond (b && holds r address) (c ∷ []) []
unfolding hits_of keep
hits_of_one false r address c = refl
hits_of_one true r address c = go (holds r address)
  where
    go : (b : Bool) → map (λ (s : Range). c) (cond b (r ∷ []) []) ≡ cond b (c ∷ []) []
    go true = refl
    go false = refl

pub bar_hits : (space : Space) (x : Slot) (vs : List ℕ) (address : ℕ) (c : Claim)
    → hits_of address c (bar_here space x vs) ≡ cond (bar_holds space x (value_here x vs) address) (c ∷ []) []
unfolding hits_of keep
bar_hits space Unused vs address c = refl
bar_hits space Upper vs address c = refl
bar_hits space Bad vs address c = refl
bar_hits space (Bar q wide size) vs address c =
    hits_of_one (in_space space q) (bar_range q (base_of (Bar q wide size) (value_here (Bar q wide size) vs)) size) address c

-- ## Windows: a closed one holds nothing

open_of_held : (start stop a : ℕ) → (ltb start stop && (leb start a && ltb a stop)) ≡ (leb start a && ltb a stop)
open_of_held start stop a = go (ltb start stop) refl (leb start a) refl
  where
    go : (b : Bool) → ltb start stop ≡ b → (d : Bool) → leb start a ≡ d → (b && (d && ltb a stop)) ≡ (d && ltb a stop)
    go true e d g = refl
    go false e false g = refl
    go false e true g = sym (le-ltb a stop (omega (arith, ltb-false start stop e, leb-true start a g)))

pub window_hits : (q : Pool) (w : Window) (address : ℕ) (c : Claim) → hits_of address c (open_range q w)
    ≡ cond (windows.holds q w address) (c ∷ []) []
window_hits q w address c =
    hits_of_one (windows.is_open q w) (record { pool = pool_of q; start = windows.start q w; stop = windows.stop q w }) address c
    ∙ ap (λ (b : Bool). cond b (c ∷ []) []) (open_of_held (windows.start q w) (windows.stop q w) address)

-- ## The test of one BAR, in the words of the code

held_by_size : (base size address : ℕ) → base ≤ address → ltb (address - base) size ≡ ltb address (base + size)
held_by_size base size address h = go (ltb (address - base) size) refl
  where
    go : (b : Bool) → ltb (address - base) size ≡ b → b ≡ ltb address (base + size)
    go true e = sym (lt-ltb address (base + size) (omega (arith, ltb-true (address - base) size e)))
    go false e = sym (le-ltb address (base + size) (omega (arith, ltb-false (address - base) size e)))

module _ (space : Space) (x : Slot) (q : Pool) (wide : Bool) (size : ℕ) (e : x ≡ Bar q wide size) (base v address : ℕ)
    (b : base ≡ base_of (Bar q wide size) v) where
  pub bar_of_other_space : in_space space q ≡ false → bar_holds space x v address ≡ false
  bar_of_other_space h = rw (e, h)

  pub bar_above : in_space space q ≡ true → address < base → bar_holds space x v address ≡ false
  bar_above h l = rw (e, h, ← b, lt-leb base address l)

  pub bar_by_size : in_space space q ≡ true → base ≤ address → ltb (address - base) size ≡ bar_holds space x v address
  bar_by_size h l = rw (e, h, ← b, le-leb base address l) (held_by_size base size address l)

-- ## Bits of the command word

pub space_bit_lt : (space : Space) → space_bit space < 16
space_bit_lt Memory = omega arith
space_bit_lt Ports = omega arith

-- a word of zeros has none
pub no_bit_of_zero : (bit : ℕ) → command_bit bit 0 ≡ false
no_bit_of_zero bit = rw (zero-div (2 ^ bit))
