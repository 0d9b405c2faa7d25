-- A BAR on a sheet is as long as a power of two says, and a record has at most six of them in both spaces. Assumes nothing.
use Rattle.std.specs.Prelude.{◌≡◌, ◌⊎◌, Bool, true, false, cond, List, [], ◌∷◌, ℕ, suc, ◌+◌, ◌^◌, ◌≤◌, ◌<◌, length, get_or, take, drop}
use Rattle.std.proofs.Common.{inl, inr, zero-lt-suc, arith, length-append, length-take}
use mathlib.Core.List.Memᴰ
use Rattle.std.proofs.Math.Nat.{one-le-pow}
use Rattle.lists.specs.Lists.{◌∈◌}
use Rattle.lists.specs.ListLaws.{mem_cond_elim}
use Rattle.pools.specs.declared.Pool.{Pool}
use Rattle.pools.specs.declared.Pool.TheVariants.{Low, High, Io}
use Rattle.pools.specs.declared.Space.{Space}
use Rattle.pools.specs.declared.Space.TheVariants.{Memory, Io as Ports}
use Rattle.pools.specs.Pools.{in_space}
use Rattle.bar.specs.declared.Slot.{Slot}
use Rattle.bar.specs.declared.Slot.TheVariants.{Unused, Bar, Upper, Bad}
use Rattle.bar.specs.Bar.{SizedSlot, width, slots}
use Rattle.bar.specs.BarLaws.{sized_slots, length_slots}
use Rattle.bar.specs.Header.{is_bridge, slot_count}
use Rattle.walk.specs.Ranges.{Range}
use Rattle.sheet_record.specs.Entry.{Entry}
use Rattle.sheet_record.specs.Spaces.{bar_here, bars_from, slots_of, bars_of}

-- ## How long

pub record Powered (start stop : ℕ) : Type 0 where
  pub bit : ℕ
  pub below_64 : bit < 64
  pub stop_is : stop ≡ start + 2 ^ bit

width_le : (q : Pool) (wide : Bool) → width q wide ≤ 64
width_le Low true = omega arith
width_le Low false = omega arith
width_le High true = omega arith
width_le High false = omega arith
width_le Io wide = omega arith

powered_here : (space : Space) (x : Slot) (vs : List ℕ) → SizedSlot x → (r : Range) → r ∈ bar_here space x vs → Powered r.start r.stop
powered_here space Unused vs h r m = absurd (Memᴰ.not-nil m)
powered_here space Upper vs h r m = absurd (Memᴰ.not-nil m)
powered_here space Bad vs h r m = absurd (Memᴰ.not-nil m)
powered_here space (Bar q wide size) vs h r m =
    let (_, only) = mem_cond_elim (in_space space q) (_ ∷ []) m in
    let e = Memᴰ.eq_of_singleton only in
    rw e (record { bit = h.bit; below_64 = omega (arith, h.most, width_le q wide); stop_is = omega (arith, h.power) })

powered_from : (space : Space) (xs : List Slot) (vs : List ℕ) → ((i : ℕ) → SizedSlot (get_or xs i Unused)) → (r : Range)
    → r ∈ bars_from space xs vs → Powered r.start r.stop
unfolding bars_from
powered_from space [] vs h r m = absurd (Memᴰ.not-nil m)
powered_from space (x ∷ xs) vs h r m =
    go (Memᴰ.append_cases (bar_here space x vs) m) (powered_from space xs (drop 1 vs) (λ i. h (suc i)) r)
  where
    go : (r ∈ bar_here space x vs) ⊎ (r ∈ bars_from space xs (drop 1 vs))
        → (r ∈ bars_from space xs (drop 1 vs) → Powered r.start r.stop) → Powered r.start r.stop
    go (inl n) rest = powered_here space x vs (h 0) r n
    go (inr n) rest = rest n

pub powered_bars : (space : Space) (e : Entry) (r : Range) → r ∈ bars_of space e → Powered r.start r.stop
powered_bars space e r m = powered_from space (slots_of e) e.values (sized_slots _) r m

-- so none is empty
pub filled : (start stop : ℕ) → Powered start stop → start < stop
filled start stop p = omega (arith, p.stop_is, one-le-pow p.bit 2 (zero-lt-suc 1))

-- ## How many

few_here : (x : Slot) (vs : List ℕ) → length (bar_here Memory x vs) + length (bar_here Ports x vs) ≤ 1
few_here Unused vs = omega arith
few_here Upper vs = omega arith
few_here Bad vs = omega arith
few_here (Bar Low wide size) vs = omega arith
few_here (Bar High wide size) vs = omega arith
few_here (Bar Io wide size) vs = omega arith

few_from : (xs : List Slot) (vs : List ℕ) → length (bars_from Memory xs vs) + length (bars_from Ports xs vs) ≤ length xs
unfolding bars_from
few_from [] vs = omega arith
few_from (x ∷ xs) vs =
    omega (
      arith,
      few_here x vs,
      few_from xs (drop 1 vs),
      length-append (bar_here Memory x vs) (bars_from Memory xs (drop 1 vs)),
      length-append (bar_here Ports x vs) (bars_from Ports xs (drop 1 vs)),
    )

slots_at_most : (n : ℕ) (s : List ℕ) → length (slots (take n s)) ≤ n
slots_at_most n s = omega (arith, length_slots (take n s), length-take n s)

slot_count_le : (header : ℕ) → slot_count header ≤ 6
slot_count_le header = go (is_bridge header)
  where
    go : (b : Bool) → cond b 2 6 ≤ 6
    go true = omega arith
    go false = omega arith

pub few_bars : (e : Entry) → length (bars_of Memory e) + length (bars_of Ports e) ≤ 6
few_bars e =
    omega (arith, few_from (slots_of e) e.values, slots_at_most (slot_count e.header) e.readbacks, slot_count_le e.header)
