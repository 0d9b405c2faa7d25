-- Widths from bytes, header types and lengths (24), read-backs (25) and the host's edges (26) of a board that is accepted. Assumes nothing.
use Rattle.std.specs.Prelude.{◌≡◌, refl, Bool, true, false, cond, not, ◌&&◌, ◌||◌, List, [], ◌∷◌, map, ℕ, zero, suc, ◌+◌, ◌%◌, ◌^◌, ◌≤◌, ◌<◌, length, get_or, drop, eqb, leb, ltb}
use Rattle.std.proofs.Common.{true≢false, arith, eqb-true, le-leb, ltb-false, leb-false}
use Rattle.arith.specs.BoolLaws.{false_of_or}
use Rattle.endian.specs.Endian.{Bytes, be}
use Rattle.endian.specs.BytesLaws.{bytes_take, bytes_drop}
use Rattle.endian.specs.EndianLaws.{be_lt}
use Rattle.pools.specs.declared.Pool.{Pool}
use Rattle.pools.specs.declared.Pool.TheVariants.{Low, High, Io}
use Rattle.pools.specs.Pools.{granule}
use Rattle.records.specs.declared.Next.{Next}
use Rattle.records.specs.declared.Next.TheVariants.{End, Record, Broken}
use Rattle.records.specs.Records.{next_of, step, parts_over, parts_of, any_part}
use Rattle.lists.specs.Lists.{All, any}
use Rattle.bar.specs.Header.{header_type, is_bridge as is_bridge_header}
use Rattle.board_record.specs.declared.Span.{Span}
use Rattle.board_record.specs.declared.Function.{Function}
use Rattle.board_record.specs.Host.{host_of_part, is_open, outside, off_edges, pool_wrong, host_wrong}
use Rattle.board_record.specs.Function.{length_for, readbacks_for, function_of_part, wrong_in, header_wrong, readbacks_wrong}
use Rattle.board.specs.ToPlacing.{to_host, devfn_of}
use Rattle.sheet.specs.Sheet.{all_zero}
use Rattle.plan_good.specs.Boards.{HostEdges}
use Rattle.plan_sheet.specs.Fits.{FunctionFits}

-- ## Parts are bytes

bytes_parts_over : (n : ℕ) (s : List ℕ) → Bytes s → All Bytes (parts_over n s).parts
unfolding parts_over
bytes_parts_over zero s b = tt
bytes_parts_over (suc n) s b = go (next_of s) (λ t bt. bytes_parts_over n t bt)
  where
    go : (q : Next) → ((t : List ℕ) → Bytes t → All Bytes (parts_over n t).parts) → All Bytes (step q s (parts_over n)).parts
    go End rest = tt
    go Broken rest = tt
    go (Record m) rest = (bytes_take m (drop 2 s) (bytes_drop 2 s b), rest (drop (2 + m) s) (bytes_drop (2 + m) s b))

pub bytes_parts : (s : List ℕ) → Bytes s → All Bytes (parts_of s).parts
unfolding parts_of
bytes_parts s b = bytes_parts_over (suc (length s)) s b

-- ## One function

-- numbers of four bytes, so told that a list is known by its proof
record Dwords (rs : List ℕ) : Type 0 where
  each : (i : ℕ) → get_or rs i 0 < 2 ^ 32

none : Dwords []
none = record { each = λ i. omega arith }

one : {x : ℕ} {rs : List ℕ} → x < 2 ^ 32 → Dwords rs → Dwords (x ∷ rs)
one {x} {rs} h d = record { each = at }
  where
    at : (i : ℕ) → get_or (x ∷ rs) i 0 < 2 ^ 32
    at zero = h
    at (suc i) = d.each i

-- what a set of read-backs keeps that has n slots
record Readbacks (n : ℕ) (rs : List ℕ) : Type 0 where
  six : length rs ≡ 6
  dwords : Dwords rs
  rest_zero : all_zero (drop n rs) ≡ true

readbacks_of_bytes : (header : ℕ) (p : List ℕ) → Bytes p → Readbacks (cond (is_bridge_header header) 2 6) (readbacks_for header p)
unfolding all_zero
readbacks_of_bytes header p b = go (is_bridge_header header)
  where
    word : (at : ℕ) → be 4 p at < 2 ^ 32
    word at = be_lt 4 p at b

    unused : zero < 2 ^ 32
    unused = omega arith

    go : (t : Bool)
        → Readbacks (cond t 2 6)
        (cond t (be 4 p 6 ∷ be 4 p 10 ∷ 0 ∷ 0 ∷ 0 ∷ 0 ∷ []) (be 4 p 6 ∷ be 4 p 10 ∷ be 4 p 14 ∷ be 4 p 18 ∷ be 4 p 22 ∷ be 4 p 26 ∷ []))
    go true =
        let zeros = one unused (one unused (one unused (one unused none))) in
        record { six = refl; dwords = one (word 6) (one (word 10) zeros); rest_zero = refl }
    go false =
        let later = one (word 14) (one (word 18) (one (word 22) (one (word 26) none))) in
        record { six = refl; dwords = one (word 6) (one (word 10) later); rest_zero = refl }

-- 24: the header type is 0 or 1
type_of_version : (version : ℕ) (p : List ℕ) → wrong_in version p ≡ false → get_or p 3 0 % 128 ≤ 1
unfolding wrong_in
type_of_version version p e =
    let header = get_or p 3 0 in
    let right = eqb (length p) (length_for version header) in
    let tests = false_of_or (not (eqb (header_type header) 0) && not (is_bridge_header header)) (not right) e in
    go (eqb (header_type header) 0) refl (is_bridge_header header) refl tests.0
  where
    go : (a : Bool) → eqb (get_or p 3 0 % 128) 0 ≡ a → (c : Bool) → eqb (get_or p 3 0 % 128) 1 ≡ c → (not a && not c) ≡ false
        → get_or p 3 0 % 128 ≤ 1
    go true h c k t = omega (arith, eqb-true (get_or p 3 0 % 128) 0 h)
    go false h true k t = omega (arith, eqb-true (get_or p 3 0 % 128) 1 k)
    go false h false k t = absurd (true≢false t)

type_of_header : (p : List ℕ) → header_wrong p ≡ false → get_or p 3 0 % 128 ≤ 1
unfolding header_wrong
type_of_header p e = go (wrong_in 1 p) (wrong_in 2 p) refl refl e
  where
    go : (s t : Bool) → wrong_in 1 p ≡ s → wrong_in 2 p ≡ t → s && t ≡ false → get_or p 3 0 % 128 ≤ 1
    go false t w u h = type_of_version 1 p w
    go true false w u h = type_of_version 2 p u
    go true true w u h = absurd (true≢false h)

function_fits : (p : List ℕ) → Bytes p → header_wrong p ≡ false → readbacks_wrong (function_of_part p) ≡ false
    → FunctionFits (function_of_part p)
unfolding function_of_part readbacks_wrong
function_fits p b e r =
    let s = readbacks_of_bytes (get_or p 3 0) p b in
    record {
      devfn = b 2;
      header = b 3;
      header_type_lem = type_of_header p e;
      command = be_lt 2 p 4 b;
      six = s.six;
      readbacks = s.dwords.each;
      lawful = r;
      rest_zero = s.rest_zero;
    }

pub functions_fit : (ps : List (List ℕ)) → All Bytes ps → any_part header_wrong ps ≡ false
    → any readbacks_wrong (map function_of_part ps) ≡ false
    → All FunctionFits (map function_of_part ps)
unfolding any_part any
functions_fit [] b e r = tt
functions_fit (p ∷ ps) b e r =
    let h = false_of_or (header_wrong p) (any_part header_wrong ps) e in
    let k = false_of_or (readbacks_wrong (function_of_part p)) (any readbacks_wrong (map function_of_part ps)) r in
    (function_fits p b.0 h.0 k.0, functions_fit ps b.1 h.1 k.1)

-- a record's device/function is a byte, and past the end of the list 0
devfn_at_lt : (fs : List Function) → All FunctionFits fs → (i : ℕ) → get_or (map (λ (f : Function). f.devfn) fs) i 0 < 256
devfn_at_lt [] fit zero = omega arith
devfn_at_lt [] fit (suc i) = omega arith
devfn_at_lt (f ∷ fs) fit zero = fit.0.devfn
devfn_at_lt (f ∷ fs) fit (suc i) = devfn_at_lt fs fit.1 i

pub devfn_lt : (fs : List Function) → All FunctionFits fs → (k : ℕ) → devfn_of fs k < 256
devfn_lt fs fit k = devfn_at_lt fs fit _

-- ## The host's edges

-- an open pool is not outside its bounds
inside_of_right : (q : Pool) (x : Span) → pool_wrong q x ≡ false → x.base ≤ x.last → outside q x ≡ false
unfolding pool_wrong
inside_of_right q x e l =
    let opens : is_open x ≡ true = le-leb x.base x.last l in
    let rest : (outside q x || off_edges (granule q) x) ≡ false = rw opens at e in
    (false_of_or (outside q x) (off_edges (granule q) x) rest).0

pub edges_of_right : (p : List ℕ) → Bytes p → host_wrong (host_of_part p) ≡ false → HostEdges (to_host (host_of_part p))
unfolding host_wrong host_of_part
edges_of_right p b e =
    let h = host_of_part p in
    let io = false_of_or _ (pool_wrong Io h.io) e in
    let high = false_of_or _ (pool_wrong High h.high) io.0 in
    let low = false_of_or _ (pool_wrong Low h.low) high.0 in
    let bounds = false_of_or (ltb h.high.base 4294967296) (leb 4503599627370496 h.high.last) in
    record {
      buses_rise = ltb-false h.last_bus h.first_bus low.0;
      last_bus_is_byte = b 1;
      low_ends_below_4_Gi_b = λ _. be_lt 4 p 6 b;
      high_starts_at_4_Gi_b = λ l. ltb-false _ _ (bounds (inside_of_right High h.high high.1 l)).0;
      high_ends_below_2^52 = λ l. leb-false _ _ (bounds (inside_of_right High h.high high.1 l)).1;
      io_ends_below_64_Ki_b = λ _. be_lt 2 p 28 b;
    }
