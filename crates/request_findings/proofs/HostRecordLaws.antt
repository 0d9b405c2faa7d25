-- A host record as bytes, and a board with another one put in: every host that 26 does not refuse has a record, and may be the record 0 of
-- any lawful board. Assumes nothing.
use Rattle.std.specs.Prelude.{◌≡◌, true, false, not, ◌||◌, ℕ, suc, ◌+◌, ◌-◌, ◌%◌, ◌≤◌, ◌<◌, eqb, leb, ltb, length, get_or, take, drop}
use Rattle.std.proofs.Math.Path.{refl, sym, ap}
use Rattle.std.proofs.Common.{subst, ◌∙◌, true≢false, arith, eqb-true, eq-eqb, le-ltb, le-leb}
use Rattle.std.proofs.Math.Bool.{and-false}
use mathlib.Core.List.{List, [], ◌∷◌, ◌++◌, map}
use Rattle.std.proofs.Math.ListN.{length-append}
use Rattle.std.proofs.Math.Seq.{take-append_seam, drop-append_seam}
use Rattle.std.proofs.lemmas.Bool.{not-false}
use Rattle.arith.specs.Align.{Multiple}
use Rattle.arith.specs.AlignLaws.{multiple_add}
use Rattle.arith.specs.BoolLaws.{false_of_or, past_test}
use Rattle.endian.specs.Endian.{Bytes, be_bytes}
use Rattle.endian.specs.BytesLaws.{bytes_cons, bytes_append, bytes_take, bytes_drop}
use Rattle.endian.specs.EndianLaws.{be_lt, bytes_be_bytes, be_be_bytes_at}
use Rattle.records.specs.Limits.{most_functions}
use Rattle.records.specs.declared.Next.TheVariants.{Record}
use Rattle.records.specs.Records.{Parts, next_of, after, parts_of, any_part}
use Rattle.records.specs.RecordsLaws.{fits_at, length_part, parts_record}
use Rattle.plan_rule.specs.Pools.{Pool, low, high, io, granule, same_pool}
use Rattle.board_record.specs.declared.Host as boards
use Rattle.board_record.specs.declared.Span.{Span}
use Rattle.board_record.specs.Host.{host_length, host_at, functions_at, host_of_part, is_open, off_edges, outside, pool_wrong, host_wrong}
use Rattle.board_record.specs.Function.{is_short, function_of_part, wrong_in}
use Rattle.board.specs.Board.{misframed, from_order, from_edges, from_headers, from_count, from_frame, board_number, host_of, functions_of}
use Rattle.board.proofs.BoardLaws.{past_version, accepted_of_zero}
use Rattle.board.specs.ToPlacing.{pool_span}
use Rattle.request_findings.specs.WhatFits.{IsHostRecord, SpanFits, HostFits, host_bytes, on_host, with_pool, SameBoard}

-- ## Edges

-- an open pool's edges, which 26 looks at
pub edges_of_open : (q : Pool) (x : Span) → pool_wrong q x ≡ false → x.base ≤ x.last
    → Multiple (granule q) x.base × Multiple (granule q) (suc x.last)
unfolding pool_wrong
edges_of_open q x e l =
    let opens : is_open x ≡ true = le-leb x.base x.last l in
    let rest : (outside q x || off_edges (granule q) x) ≡ false = rw opens at e in
    let first = eqb (x.base % granule q) 0 in
    let last = eqb ((x.last + 1) % granule q) 0 in
    let both = false_of_or (not first) (not last) (false_of_or (outside q x) (off_edges (granule q) x) rest).1 in
    let next : suc x.last ≡ x.last + 1 = omega arith in (
      eqb-true (x.base % granule q) 0 (not-false first both.0),
      ap (λ (n : ℕ). n % granule q) next ∙ eqb-true ((x.last + 1) % granule q) 0 (not-false last both.1),
    )

-- what 26 looks at is right each for itself
pub parts_right : (x : boards.Host) → host_wrong x ≡ false
    → (ltb x.last_bus x.first_bus ≡ false)
    × (pool_wrong low x.low ≡ false)
    × (pool_wrong high x.high ≡ false)
    × (pool_wrong io x.io ≡ false)
unfolding host_wrong
parts_right x e =
    let buses = ltb x.last_bus x.first_bus in
    let lows = pool_wrong low x.low in
    let highs = pool_wrong high x.high in
    let third = false_of_or (buses || lows || highs) (pool_wrong io x.io) e in
    let second = false_of_or (buses || lows) highs third.0 in
    let first = false_of_or buses lows second.0 in
    (first.0, first.1, second.1, third.1)

-- a pool on its granule's edges is right, if it is where its kind has addresses
pub right_edges : (q : Pool) (base n : ℕ) → 0 < n → Multiple (granule q) base → Multiple (granule q) n
    → outside q (record { base = base; last = base + n - 1 }) ≡ false
    → pool_wrong q (record { base = base; last = base + n - 1 }) ≡ false
unfolding pool_wrong
right_edges q base n some d e inside =
    let all : base + n - 1 + 1 ≡ base + n = omega (arith, some) in
    let last : (base + n - 1 + 1) % granule q ≡ 0 =
    ap (λ (k : ℕ). k % granule q) all ∙ multiple_add (granule q) base n d e in
    rw (inside, eq-eqb (base % granule q) 0 d, eq-eqb ((base + n - 1 + 1) % granule q) 0 last) (and-false (leb base (base + n - 1)))

-- ## A host as bytes

module _ (x : boards.Host) (fits : HostFits x) where
  -- what follows each number
  abbrev after_io_base : List ℕ
  after_io_base = be_bytes 2 x.io.last

  abbrev after_high_last : List ℕ
  after_high_last = be_bytes 2 x.io.base ++ after_io_base

  abbrev after_high_base : List ℕ
  after_high_base = be_bytes 8 x.high.last ++ after_high_last

  abbrev after_low_last : List ℕ
  after_low_last = be_bytes 8 x.high.base ++ after_high_base

  abbrev after_low_base : List ℕ
  after_low_base = be_bytes 4 x.low.last ++ after_low_last

  abbrev after_buses : List ℕ
  after_buses = be_bytes 4 x.low.base ++ after_low_base

  host_bytes_lem : Bytes (host_bytes x)
  unfolding host_bytes be_bytes
  host_bytes_lem =
      bytes_cons x.first_bus (x.last_bus ∷ after_buses) fits.first
      (bytes_cons x.last_bus after_buses fits.last
      (bytes_append (be_bytes 4 x.low.base) after_low_base (bytes_be_bytes 4 x.low.base)
      (bytes_append (be_bytes 4 x.low.last) after_low_last (bytes_be_bytes 4 x.low.last)
      (bytes_append (be_bytes 8 x.high.base) after_high_base (bytes_be_bytes 8 x.high.base)
      (bytes_append (be_bytes 8 x.high.last) after_high_last (bytes_be_bytes 8 x.high.last)
      (bytes_append (be_bytes 2 x.io.base) after_io_base (bytes_be_bytes 2 x.io.base) (bytes_be_bytes 2 x.io.last)))))))

  host_sized : length (host_bytes x) ≡ host_length
  unfolding host_bytes be_bytes
  host_sized = refl

  host_read : host_of_part (host_bytes x) ≡ x
  unfolding host_of_part host_bytes be_bytes
  host_read =
      let a = x.first_bus ∷ x.last_bus ∷ [] in
      let b = a ++ be_bytes 4 x.low.base in
      let c = b ++ be_bytes 4 x.low.last in
      let d = c ++ be_bytes 8 x.high.base in
      let e = d ++ be_bytes 8 x.high.last in
      let f = e ++ be_bytes 2 x.io.base in
      λ i. record {
        first_bus = x.first_bus;
        last_bus = x.last_bus;
        low =
            record {
              base = be_be_bytes_at 4 x.low.base a after_low_base fits.lows.0 i;
              last = be_be_bytes_at 4 x.low.last b after_low_last fits.lows.1 i;
            };
        high =
            record {
              base = be_be_bytes_at 8 x.high.base c after_high_base fits.highs.0 i;
              last = be_be_bytes_at 8 x.high.last d after_high_last fits.highs.1 i;
            };
        io =
            record {
              base = be_be_bytes_at 2 x.io.base e after_io_base fits.ios.0 i;
              last = be_be_bytes_at 2 x.io.last f [] fits.ios.1 i;
            };
      }

  pub host_record_of : host_wrong x ≡ false → IsHostRecord (host_bytes x) × (host_of_part (host_bytes x) ≡ x)
  host_record_of right =
      (record { bytes = host_bytes_lem; sized = host_sized; edges = ap host_wrong host_read ∙ right }, host_read)

-- the record of a lawful board has such numbers
pub own_fits : (b : List ℕ) → Bytes b → board_number b ≡ 0 → HostFits (host_of b)
unfolding host_of_part
own_fits b bytes z = subst HostFits (sym (accepted_of_zero b z).host_read) fits
  where
    part : List ℕ
    part = take host_length (drop 3 b)

    within : Bytes part
    within = bytes_take host_length (drop 3 b) (bytes_drop 3 b bytes)

    fits : HostFits (host_of_part part)
    fits =
        record {
          first = within 0;
          last = within 1;
          lows = (be_lt 4 part 2 within, be_lt 4 part 6 within);
          highs = (be_lt 8 part 10 within, be_lt 8 part 18 within);
          ios = (be_lt 2 part 26 within, be_lt 2 part 28 within);
        }

-- ## One pool of another size

pub span_with : (x : boards.Host) (q : Pool) (s : Span) → pool_span (with_pool x q s) q ≡ s
span_with x low s = refl
span_with x high s = refl
span_with x io s = refl

pub buses_with : (x : boards.Host) (q : Pool) (s : Span)
    → ((with_pool x q s).first_bus ≡ x.first_bus) × ((with_pool x q s).last_bus ≡ x.last_bus)
buses_with x low s = (refl, refl)
buses_with x high s = (refl, refl)
buses_with x io s = (refl, refl)

pub others_with : (x : boards.Host) (q : Pool) (s : Span) (p : Pool) → same_pool p q ≡ false → pool_span (with_pool x q s) p ≡ pool_span x p
others_with x low s low d = absurd (true≢false d)
others_with x low s high d = refl
others_with x low s io d = refl
others_with x high s low d = refl
others_with x high s high d = absurd (true≢false d)
others_with x high s io d = refl
others_with x io s low d = refl
others_with x io s high d = refl
others_with x io s io d = absurd (true≢false d)

-- how many bytes the numbers of a pool's kind have
abbrev pub width : Pool → ℕ
width low = 4
width high = 8
width io = 2

pub fits_with : (x : boards.Host) (q : Pool) (s : Span) → HostFits x → SpanFits (width q) s → HostFits (with_pool x q s)
fits_with x low s f e = record { first = f.first; last = f.last; lows = e; highs = f.highs; ios = f.ios }
fits_with x high s f e = record { first = f.first; last = f.last; lows = f.lows; highs = e; ios = f.ios }
fits_with x io s f e = record { first = f.first; last = f.last; lows = f.lows; highs = f.highs; ios = e }

pub right_with : (x : boards.Host) (q : Pool) (s : Span) → host_wrong x ≡ false → pool_wrong q s ≡ false → host_wrong (with_pool x q s) ≡ false
unfolding host_wrong
right_with x low s e right = let r = parts_right x e in rw (r.0, right, r.2, r.3)
right_with x high s e right = let r = parts_right x e in rw (r.0, r.1, right, r.3)
right_with x io s e right = let r = parts_right x e in rw (r.0, r.1, r.2, right)

-- ## Record 0 put in

-- another host part with its edges right changes no number that is 0
count_with : (v : ℕ) (x y : boards.Host) (ps : List (List ℕ)) → host_wrong y ≡ false → from_count v x ps ≡ 0 → from_count v y ps ≡ 0
unfolding from_count from_headers from_edges
count_with v x y ps right e =
    let fs = map function_of_part ps in
    let few = past_test (ltb most_functions (length ps)) 21 (from_headers v x ps) e in
    let headers = past_test (any_part (wrong_in v) ps) 23 (from_edges x fs) few.1 in
    let edges = past_test (host_wrong x) 25 (from_order fs) headers.1 in
    rw (few.0, headers.0, right) edges.1

frame_with : (v : ℕ) (x y : List ℕ) (r : Parts) → length y ≡ length x → host_wrong (host_of_part y) ≡ false → from_frame v (after x r) ≡ 0
    → from_frame v (after y r) ≡ 0
unfolding from_frame misframed
frame_with v x y r long right e =
    let framed = past_test (misframed (after x r)) 19 (from_count v (host_of_part x) r.parts) e in
    let same : misframed (after y r) ≡ misframed (after x r) =
    ap (λ (n : ℕ). not r.whole || not (eqb n host_length) || any_part is_short r.parts) long in
    rw (same ∙ framed.0) (count_with v (host_of_part x) (host_of_part y) r.parts right framed.1)

module _ (b p : List ℕ) (bytes : Bytes b) (z : board_number b ≡ 0) (is_host : IsHostRecord p) where
  abbrev new : List ℕ
  new = on_host p b

  abbrev rest : List ℕ
  rest = drop functions_at b

  new_bytes : Bytes new
  new_bytes =
      bytes_cons (get_or b 0 0) (0 ∷ host_length ∷ p ++ rest) (bytes 0)
      (bytes_cons 0 (host_length ∷ p ++ rest) (omega arith)
      (bytes_cons host_length (p ++ rest) (omega arith) (bytes_append p rest is_host.bytes (bytes_drop functions_at b bytes))))

  new_record : next_of (drop 1 new) ≡ Record host_length
  unfolding next_of
  new_record = rw (le-ltb (length (p ++ rest)) host_length (omega (arith, length-append p rest, is_host.sized)))

  part_is : take host_length (drop 3 new) ≡ p
  part_is = ap (λ (n : ℕ). take n (p ++ rest)) (sym is_host.sized) ∙ take-append_seam p rest

  rest_is : drop functions_at new ≡ rest
  rest_is = ap (λ (n : ℕ). drop n (p ++ rest)) (sym is_host.sized) ∙ drop-append_seam p rest

  own_parts : parts_of (drop 1 b) ≡ after (take host_length (drop 3 b)) (parts_of rest)
  own_parts = parts_record b host_at host_length (accepted_of_zero b z).host_record_lem

  new_parts : parts_of (drop 1 new) ≡ after p (parts_of rest)
  new_parts =
      parts_record new host_at host_length new_record
      ∙ ap (λ (s : List ℕ). after s (parts_of (drop functions_at new))) part_is
      ∙ ap (λ (s : List ℕ). after p (parts_of s)) rest_is

  filled : length b ≡ 0 → ⊥
  filled e = omega (arith, e, fits_at b host_at host_length (accepted_of_zero b z).host_record_lem)

  own_frame : from_frame (get_or b 0 0) (after (take host_length (drop 3 b)) (parts_of rest)) ≡ 0
  own_frame =
      ap (from_frame (get_or b 0 0)) (sym own_parts) ∙ sym (past_version b filled (accepted_of_zero b z).version) ∙ z

  new_lawful : board_number new ≡ 0
  new_lawful =
      let long : length p ≡ length (take host_length (drop 3 b)) =
      is_host.sized ∙ sym (length_part b host_at host_length (accepted_of_zero b z).host_record_lem) in
      past_version new (λ e. omega arith) (accepted_of_zero b z).version
      ∙ ap (from_frame (get_or b 0 0)) new_parts
      ∙ frame_with (get_or b 0 0) (take host_length (drop 3 b)) p (parts_of rest) long is_host.edges own_frame

  new_host : host_of new ≡ host_of_part p
  unfolding host_of
  new_host = ap (λ (r : Parts). host_of_part (get_or r.parts 0 [])) new_parts

  new_functions : functions_of new ≡ functions_of b
  unfolding functions_of
  new_functions =
      ap (λ (r : Parts). map function_of_part (drop 1 r.parts)) new_parts
      ∙ sym (ap (λ (r : Parts). map function_of_part (drop 1 r.parts)) own_parts)

  pub on_host_of : SameBoard b (on_host p b) × (host_of (on_host p b) ≡ host_of_part p)
  on_host_of = (record { bytes = new_bytes; lawful = new_lawful; functions = new_functions }, new_host)
