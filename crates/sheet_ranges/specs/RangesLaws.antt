-- A function's BARs and open windows are those of both address spaces together: in a space they are the ones of its pools. And the tests of
-- two ranges as statements. Assumes nothing.
use Rattle.std.specs.Prelude.{◌≡◌, refl, Bool, true, false, cond, ◌&&◌, List, [], ◌∷◌, ◌++◌, ℕ, drop, eqb, ltb}
use Rattle.std.proofs.Common.{sym, ap, ap₂, ◌∙◌, inl, inr, append-nil, arith, eqb-true, eq-eqb, ltb-false, le-ltb}
use Rattle.std.proofs.Math.Bool.{and-false}
use Rattle.lists.specs.Lists.{All, keep}
use Rattle.lists.specs.ListLaws.{all_append}
use Rattle.lists.specs.KeepLaws.{keep_append}
use Rattle.pools.specs.declared.Pool.{Pool}
use Rattle.pools.specs.declared.Pool.TheVariants.{Low, High, Io}
use Rattle.pools.specs.declared.Space.{Space}
use Rattle.pools.specs.declared.Space.TheVariants.{Memory, Io as Ports}
use Rattle.pools.specs.Pools.{in_space}
use Rattle.bar.specs.declared.Slot.{Slot}
use Rattle.bar.specs.declared.Slot.TheVariants.{Unused, Bar, Upper, Bad}
use Rattle.window.specs.declared.Window.{Window}
use Rattle.window.specs.Window as windows
use Rattle.board_record.specs.declared.Host.{Host}
use Rattle.board_record.specs.Host as hosts
use Rattle.walk.specs.Ranges as ranges
use Rattle.walk.specs.Ranges.{Range, Apart}
use Rattle.walk.specs.Registers.{open_windows}
use Rattle.sheet_record.specs.Entry.{Entry, bridges}
use Rattle.sheet_record.specs.Spaces as spaces
use Rattle.sheet_record.specs.Spaces.{pool_of, slots_of, open_range, windows_of, function_of}
use Rattle.sheet_ranges.specs.Ranges.{bar_here, bars_from, windows_in, ranges_of, open_pool, pools_of, pools_in, pool_number, space_number}
use Rattle.sheet_ranges.specs.Ranges.{overlap}

-- ## The ranges of a space

abbrev number_of : Space → ℕ
number_of Memory = 1
number_of Ports = 2

abbrev pub of_space : Space → Range → Bool
of_space sp r = eqb (space_number r.pool) (number_of sp)

-- the range's pool lies in the space that its kind does
space_agree : (sp : Space) (q : Pool) → eqb (space_number (pool_of q)) (number_of sp) ≡ in_space sp q
space_agree Memory Low = refl
space_agree Memory High = refl
space_agree Memory Io = refl
space_agree Ports Low = refl
space_agree Ports High = refl
space_agree Ports Io = refl

-- a range that is there under a condition
abbrev there : Pool → Bool → ℕ → ℕ → List Range
there q b start stop = cond b (record { pool = pool_of q; start = start; stop = stop } ∷ []) []

keep_there : (sp : Space) (q : Pool) (b : Bool) (start stop : ℕ)
    → keep (of_space sp) (there q b start stop) ≡ cond (in_space sp q) (there q b start stop) []
unfolding keep
keep_there sp q true start stop =
    ap (λ (t : Bool). cond t (record { pool = pool_of q; start = start; stop = stop } ∷ []) []) (space_agree sp q)
keep_there sp q false start stop = go (in_space sp q)
  where
    go : (t : Bool) → ◌≡◌ {A = List Range} [] (cond t [] [])
    go true = refl
    go false = refl

keep_bar : (sp : Space) (x : Slot) (vs : List ℕ) → keep (of_space sp) (bar_here x vs) ≡ spaces.bar_here sp x vs
unfolding keep
keep_bar sp Unused vs = refl
keep_bar sp Upper vs = refl
keep_bar sp Bad vs = refl
keep_bar sp (Bar q wide size) vs = keep_there sp q true _ _

keep_bars : (sp : Space) (xs : List Slot) (vs : List ℕ) → keep (of_space sp) (bars_from xs vs) ≡ spaces.bars_from sp xs vs
unfolding keep bars_from spaces.bars_from
keep_bars sp [] vs = refl
keep_bars sp (x ∷ xs) vs =
    keep_append (of_space sp) (bar_here x vs) (bars_from xs (drop 1 vs)) ∙ ap₂ ◌++◌ (keep_bar sp x vs) (keep_bars sp xs (drop 1 vs))

-- low, high and I/O
keep_three : (sp : Space) (low high io : List Range) → keep (of_space sp) low ≡ cond (in_space sp Low) low []
    → keep (of_space sp) high ≡ cond (in_space sp High) high [] → keep (of_space sp) io ≡ cond (in_space sp Io) io []
    → keep (of_space sp) ((low ++ high) ++ io) ≡ cond (in_space sp Low) (low ++ high) io
keep_three sp low high io l h i =
    keep_append (of_space sp) (low ++ high) io ∙ ap₂ ◌++◌ (keep_append (of_space sp) low high ∙ ap₂ ◌++◌ l h) i ∙ go sp
  where
    go : (sp : Space) → (cond (in_space sp Low) low [] ++ cond (in_space sp High) high []) ++ cond (in_space sp Io) io []
        ≡ cond (in_space sp Low) (low ++ high) io
    go Memory = append-nil (low ++ high)
    go Ports = refl

pub keep_windows : (sp : Space) (e : Entry) → keep (of_space sp) (windows_in e) ≡ windows_of sp e
keep_windows sp e =
    keep_three sp (open_range Low e.low) (open_range High e.high) (open_range Io e.io)
    (keep_there sp Low (windows.is_open Low e.low) _ _)
    (keep_there sp High (windows.is_open High e.high) _ _)
    (keep_there sp Io (windows.is_open Io e.io) _ _)
    ∙ go sp
  where
    go : (sp : Space) → cond (in_space sp Low) (open_range Low e.low ++ open_range High e.high) (open_range Io e.io) ≡ windows_of sp e
    go Memory = refl
    go Ports = refl

pub keep_pools : (sp : Space) (h : Host) → keep (of_space sp) (pools_in h) ≡ pools_of sp h
keep_pools sp h =
    keep_three sp (open_pool Low h.low) (open_pool High h.high) (open_pool Io h.io)
    (keep_there sp Low (hosts.is_open h.low) _ _)
    (keep_there sp High (hosts.is_open h.high) _ _)
    (keep_there sp Io (hosts.is_open h.io) _ _)
    ∙ go sp
  where
    go : (sp : Space) → cond (in_space sp Low) (open_pool Low h.low ++ open_pool High h.high) (open_pool Io h.io) ≡ pools_of sp h
    go Memory = refl
    go Ports = refl

-- what the walk has of a function in a space
pub keep_ranges : (sp : Space) (k : ℕ) (e : Entry)
    → keep (of_space sp) (ranges_of e) ≡ (function_of sp k e).bars ++ open_windows (function_of sp k e)
unfolding ranges_of keep
keep_ranges sp k e =
    keep_append (of_space sp) (bars_from (slots_of e) e.values) (cond (bridges e) (windows_in e) [])
    ∙ ap₂ ◌++◌ (keep_bars sp (slots_of e) e.values) (go (bridges e))
  where
    go : (b : Bool) → keep (of_space sp) (cond b (windows_in e) []) ≡ cond b (windows_of sp e) []
    go true = keep_windows sp e
    go false = refl

pub of_same_space : (sp : Space) (r s : Range) → of_space sp r ≡ true → space_number r.pool ≡ space_number s.pool → of_space sp s ≡ true
of_same_space sp r s of same = ap (λ (n : ℕ). eqb n (number_of sp)) (sym same) ∙ of

-- ## Every range is of a space

abbrev OfSome : Range → Type 0
OfSome r = (sp : Space) × (of_space sp r ≡ true)

of_pool_lem : (q : Pool) → (sp : Space) × (eqb (space_number (pool_of q)) (number_of sp) ≡ true)
of_pool_lem Low = (Memory, refl)
of_pool_lem High = (Memory, refl)
of_pool_lem Io = (Ports, refl)

some_open : (q : Pool) (w : Window) → All OfSome (open_range q w)
some_open q w = go (windows.is_open q w)
  where
    go : (b : Bool) → All OfSome (there q b (windows.start q w) (windows.stop q w))
    go true = (of_pool_lem q, tt)
    go false = tt

some_bar : (x : Slot) (vs : List ℕ) → All OfSome (bar_here x vs)
some_bar Unused vs = tt
some_bar Upper vs = tt
some_bar Bad vs = tt
some_bar (Bar q wide size) vs = (of_pool_lem q, tt)

some_bars : (xs : List Slot) (vs : List ℕ) → All OfSome (bars_from xs vs)
unfolding bars_from
some_bars [] vs = tt
some_bars (x ∷ xs) vs = all_append OfSome (bar_here x vs) (bars_from xs (drop 1 vs)) (some_bar x vs) (some_bars xs (drop 1 vs))

pub some_ranges : (e : Entry) → All OfSome (ranges_of e)
unfolding ranges_of
some_ranges e =
    all_append OfSome (bars_from (slots_of e) e.values) (cond (bridges e) (windows_in e) [])
    (some_bars (slots_of e) e.values) (go (bridges e))
  where
    memory : All OfSome (windows_of Memory e)
    memory =
        all_append OfSome (open_range Low e.low) (open_range High e.high)
        (some_open Low e.low) (some_open High e.high)

    go : (b : Bool) → All OfSome (cond b (windows_in e) [])
    go true = all_append OfSome (windows_of Memory e) (windows_of Ports e) memory (some_open Io e.io)
    go false = tt

-- ## The tests

pub pool_of_number : (p q : ranges.Pool) → pool_number p ≡ pool_number q → p ≡ q
pool_of_number ranges.buses ranges.buses e = refl
pool_of_number ranges.buses ranges.low e = absurd (omega arith)
pool_of_number ranges.buses ranges.high e = absurd (omega arith)
pool_of_number ranges.buses ranges.io e = absurd (omega arith)
pool_of_number ranges.low ranges.buses e = absurd (omega arith)
pool_of_number ranges.low ranges.low e = refl
pool_of_number ranges.low ranges.high e = absurd (omega arith)
pool_of_number ranges.low ranges.io e = absurd (omega arith)
pool_of_number ranges.high ranges.buses e = absurd (omega arith)
pool_of_number ranges.high ranges.low e = absurd (omega arith)
pool_of_number ranges.high ranges.high e = refl
pool_of_number ranges.high ranges.io e = absurd (omega arith)
pool_of_number ranges.io ranges.buses e = absurd (omega arith)
pool_of_number ranges.io ranges.low e = absurd (omega arith)
pool_of_number ranges.io ranges.high e = absurd (omega arith)
pool_of_number ranges.io ranges.io e = refl

-- ranges of one space that do not overlap are apart
module _ (sp : Space) (r s : Range) (of_r : of_space sp r ≡ true) (of_s : of_space sp s ≡ true) where
  pub same_space : space_number r.pool ≡ space_number s.pool
  same_space = eqb-true (space_number r.pool) (number_of sp) of_r ∙ sym (eqb-true (space_number s.pool) (number_of sp) of_s)

  pub apart_of_overlap : overlap r s ≡ false → Apart r s
  apart_of_overlap e = go (ltb r.start s.stop) refl (rw (eq-eqb (space_number r.pool) (space_number s.pool) same_space) at e)
    where
      go : (b : Bool) → ltb r.start s.stop ≡ b → (b && ltb s.start r.stop) ≡ false → Apart r s
      go true p q = inl (ltb-false s.start r.stop q)
      go false p q = inr (ltb-false r.start s.stop p)

pub overlap_of_apart : (r s : Range) → (space_number r.pool ≡ space_number s.pool → Apart r s) → overlap r s ≡ false
overlap_of_apart r s apart = go (eqb (space_number r.pool) (space_number s.pool)) refl
  where
    by : Apart r s → (ltb r.start s.stop && ltb s.start r.stop) ≡ false
    by (inl l) = rw (le-ltb s.start r.stop l) (and-false (ltb r.start s.stop))
    by (inr l) = rw (le-ltb r.start s.stop l)

    go : (b : Bool) → eqb (space_number r.pool) (space_number s.pool) ≡ b
        → (b && (ltb r.start s.stop && ltb s.start r.stop)) ≡ false
    go true e = by (apart (eqb-true _ _ e))
    go false e = refl
