-- A sheet's bytes are bytes, where every number has its width. Assumes nothing.
use Rattle.std.specs.Prelude.{Bool, true, false, cond, ℕ, zero, suc, ◌+◌, ◌<◌, get_or}
use mathlib.Core.List.{List, [], ◌∷◌, ◌++◌, flat_map}
use Rattle.std.proofs.Common.{arith}
use Rattle.endian.specs.Endian.{Bytes, be_bytes, le_bytes}
use Rattle.endian.specs.BytesLaws.{bytes_nil, bytes_cons, bytes_append}
use Rattle.endian.specs.EndianLaws.{bytes_be_bytes, bytes_le_bytes}
use Rattle.lists.specs.Lists.{All}
use Rattle.sheet_record.specs.Places.{record_size}
use Rattle.sheet_record.specs.Entry.{Entry, is_bridge}
use Rattle.sheet_bytes.specs.Layout.{Planned, Shaped, WellShaped, zeros, dword_bytes, end_bytes, bridge_bytes, body_bytes, common_bytes}
use Rattle.sheet_bytes.specs.Layout.{config_bytes, part_bytes, record_bytes, sheet_bytes}

-- a list of bytes, so told that a list is known by its proof
record Held (s : List ℕ) : Type 0 where
  bytes : Bytes s

none : Held []
none = record { bytes = bytes_nil }

one : {x : ℕ} {s : List ℕ} → x < 256 → Held s → Held (x ∷ s)
one {x} {s} h b = record { bytes = bytes_cons x s h b.bytes }

both : {s t : List ℕ} → Held s → Held t → Held (s ++ t)
both {s} {t} a b = record { bytes = bytes_append s t a.bytes b.bytes }

of_be : (n x : ℕ) → Held (be_bytes n x)
of_be n x = record { bytes = bytes_be_bytes n x }

of_le : (n x : ℕ) → Held (le_bytes n x)
of_le n x = record { bytes = bytes_le_bytes n x }

of_zeros : (n : ℕ) → Held (zeros n)
of_zeros zero = none
of_zeros (suc n) = one (omega arith) (of_zeros n)

of_dwords : (write : ℕ → List ℕ) → ((x : ℕ) → Held (write x)) → (n : ℕ) (vs : List ℕ) (i : ℕ) → Held (dword_bytes write n vs i)
unfolding dword_bytes
of_dwords write b zero vs i = none
of_dwords write b (suc n) vs i = both (b (get_or vs i 0)) (of_dwords write b n vs (i + 1))

of_end : (e : Entry) → Held (end_bytes e)
unfolding end_bytes
of_end e = both (of_dwords (le_bytes 4) (of_le 4) 6 e.values 0) (of_zeros 24)

of_bridge_lem : (e : Entry) → Shaped e → Held (bridge_bytes e)
unfolding bridge_bytes
of_bridge_lem e w =
    let zero_lt : zero < 256 = omega arith in
    let buses = one w.primary (one w.secondary (one w.subordinate (one zero_lt none))) in
    let io = one w.io.base (one w.io.limit (one zero_lt (one zero_lt none))) in
    let low = both (of_le 2 e.low.base) (of_le 2 e.low.limit) in
    let high = both (of_le 2 e.high.base) (of_le 2 e.high.limit) in
    let uppers = both (of_le 4 e.high.upper_base) (of_le 4 e.high.upper_limit) in
    both (both (both (of_dwords (le_bytes 4) (of_le 4) 2 e.values 0) (both buses io)) (both (both low high) uppers)) (of_zeros 16)

of_body : (e : Entry) → Shaped e → Held (body_bytes e)
unfolding body_bytes
of_body e w = go (is_bridge e.header)
  where
    go : (b : Bool) → Held (cond b (bridge_bytes e) (end_bytes e))
    go true = of_bridge_lem e w
    go false = of_end e

of_common : (command header : ℕ) → header < 256 → Held (common_bytes command header)
unfolding common_bytes
of_common command header h = both (both (both (of_zeros 4) (of_le 2 command)) (of_zeros 8)) (one h (one (omega arith) none))

of_record_lem : (p : Planned) → Shaped p.entry → Held (record_bytes p)
unfolding record_bytes part_bytes config_bytes
of_record_lem p w =
    let config = both (of_common p.command p.entry.header w.header) (of_body p.entry w) in
    both (of_be 2 record_size) (both (both (of_be 2 p.entry.id) config) (of_dwords (be_bytes 4) (of_be 4) 6 p.entry.readbacks 0))

of_records : (ps : List Planned) → All WellShaped ps → Held (flat_map record_bytes ps)
unfolding flat_map
of_records [] w = none
of_records (p ∷ ps) w = both (of_record_lem p w.0.entry) (of_records ps w.1)

pub bytes_sheet_bytes : (ps : List Planned) → All WellShaped ps → Bytes (sheet_bytes ps)
unfolding sheet_bytes
bytes_sheet_bytes ps w = bytes_cons 1 (flat_map record_bytes ps) (omega arith) (of_records ps w).bytes
