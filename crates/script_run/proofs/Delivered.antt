-- The walk takes every write of a script to its function at its place in the list, past the bridges above that function, and what it stores
-- is what the sheet has there. Assumes nothing.
use Rattle.std.specs.Prelude.{◌≡◌, ◌⊎◌, Bool, cond, ◌&&◌, get_or, take}
use Rattle.std.proofs.Math.Path.{refl, sym, ap, ap₂}
use Rattle.std.proofs.Common.{subst, ◌∙◌, inl, inr, take_at}
use Rattle.std.proofs.Math.Bool.{true, false}
use mathlib.Core.List.Memᴰ
use mathlib.Core.List.{List, [], ◌∷◌, ◌++◌, map, append-nil}
use mathlib.Core.List.{flat_map, append_assoc}
use Prim.Native.Nat.{ℕ, zero, suc, ◌+◌, ◌-◌, ◌*◌, ◌/◌, ◌%◌, ◌<◌}
use native.Mathlib.Omega.{arith}
use Rattle.std.proofs.Math.Dec.{eqb}
use Rattle.std.proofs.Math.ListN.{length, drop}
use Rattle.std.proofs.lemmas.List.{length-map}
use Rattle.std.proofs.Math.Seq.{drop_at}
use borrow.Author.Tests.{ne_eqb, lt-ltb}
use Rattle.endian.specs.Endian.{Bytes}
use Rattle.endian.specs.EndianLaws.{be_lt}
use Rattle.endian.specs.BytesLaws.{bytes_take, bytes_drop}
use Rattle.pairs.specs.declared.Row.{Row}
use Rattle.pairs.specs.declared.ConfigKind.TheVariants.{CfgWr0, CfgWr1}
use Rattle.pairs.specs.Pairs.{table, first, find_kind, row_of}
use Rattle.packet.specs.declared.Packet.{Packet}
use Rattle.packet.specs.declared.Verdict.TheVariants.{Lawful}
use Rattle.packet.specs.Widths.{length_fits, body_fits, fields_fit}
use Rattle.packet.specs.Rules.{reserved_set, fixed_wrong, upper_zero, enables_wrong, crosses_page, status_wrong, rule_number, from_rule5, from_rule6}
use Rattle.packet.specs.Rules.{from_rule7, from_rule8, from_rule9}
use Rattle.packet.specs.Verdict.{verdict_of}
use Rattle.packet.proofs.VerdictLaws.{lawful_intro}
use Rattle.tlp.specs.declared.Reading.{Reading}
use Rattle.tlp.specs.declared.Reading.TheVariants.{Accepted}
use Rattle.tlp.specs.Reading.{read_of}
use Rattle.tlp.specs.ReadingLaws.{read_layout}
use Rattle.tlp_layout.specs.Layout.{layout}
use Rattle.lists.specs.Lists.{◌∈◌, All}
use Rattle.lists.specs.ListLaws.{all_elim, all_intro, all_left, all_right}
use Rattle.walk.specs.Registers.{Node, root_of}
use Rattle.walk.specs.Walk.{delivered, walk_from}
use Rattle.walk.specs.Above.{Above, above}
use Rattle.walk.proofs.AboveLaws.{above_is}
use Rattle.walk.specs.Good.{Host, BridgesRise, Tree}
use Rattle.walk.proofs.Delivery.{root_is_first}
use Rattle.walk.specs.Ids.{tally_by_id, DistinctIds}
use Rattle.walk.proofs.IdsDelivery.{delivered_by_id}
use Rattle.sheet_record.specs.Places.{record_size}
use Rattle.sheet_record.specs.Entry.{id_of, entry_of}
use Rattle.sheet_record.specs.Spaces.{node_of}
use Rattle.sheet.specs.Sheet.{Framed, entries_from, entries_of, parts_in, part_at, record_at}
use Rattle.sheet.proofs.CheckLaws.{count_entries, entries_past}
use Rattle.sheet.proofs.IndexLaws.{entries_index}
use Rattle.sheet.specs.Spaces.{nodes_from, nodes_of}
use Rattle.claims.specs.declared.Aim.TheVariants.{Id}
use Rattle.route_arrival.specs.Arrival.{kind_wrong, arrived}
use Rattle.route_answer.specs.declared.Delivery.{Delivery}
use Rattle.route_answer.specs.declared.Routing.{Routing}
use Rattle.route_answer.specs.declared.Routing.TheVariants.{Delivered}
use Rattle.route_answer.specs.Routing.{answer}
use Rattle.route.specs.Route.{walked, root, from42, route_packet}
use Rattle.walk_written.specs.Copied.{copied}
use Rattle.walk_written.specs.Partly.{blank, masked, delivered_partly}
use Rattle.script_writes.specs.declared.Boot.{Boot}
use Rattle.script_writes.specs.Writes.{Write, named, data_byte, data_of, three_bytes, two_bytes, four_bytes, writes_of}
use Rattle.script_writes.specs.Script.{kind_for, packet_with, packet_of, four_of, write_part, next_tag}
use Rattle.script_writes.proofs.ScriptLaws.{length_header}
use Rattle.script_run.specs.Model.{model_of, register_place, store_four, performed_as, performed_by, performed, run}
use Rattle.script_run.proofs.Copying.{places_at, places_of, all_places, store_copied}
use Rattle.script_run.proofs.Written.{enables_for, bridge_at, WriteIn, writes_in_lem}
use Rattle.script_run.proofs.StateLaws.{state_of, state_append, hit, hit_intro}
use Rattle.script_run.proofs.Nodes.{nodes_masked, part_byte}
use Rattle.script_run.proofs.Order.{bus_write, bus_before_lem}

-- what is asked of a sheet: its bytes and frame, its bus numbers (27, 50), its IDs (28), and that a bridge's record comes before those
-- below it
pub record Scriptable (host : Host) (final : List ℕ) : Type 0 where
  pub bytes : Bytes final
  pub framed : Framed 1 final
  pub rise : BridgesRise (nodes_of final)
  pub tree : Tree host (nodes_of final)
  pub distinct : DistinctIds (nodes_of final)
  pub earlier : (x : Node) → x ∈ nodes_of final → All (λ b. b.number < x.number) (above host.first (nodes_of final) x.bus)

-- ## Functions by index

module _ (s : List ℕ) (framed : Framed 1 s) where
  abbrev node_at : ℕ → Node
  node_at k = node_of (k + 1) (entry_of (part_at s k))

  node_from : (d k : ℕ) → k + d < length (entries_of s) → node_at (k + d) ∈ nodes_from (k + 1) (entries_from s (record_at k))
  unfolding nodes_from
  node_from zero k h =
      let z : k + 0 ≡ k = omega arith in
      rw (z, entries_index s framed k (omega arith)) (Memᴰ.head refl)
  node_from (suc d) k h =
      let n : k + suc d ≡ k + 1 + d = omega arith in
      rw (n, entries_index s framed k (omega arith)) (Memᴰ.tail (node_from d (k + 1) (omega arith)))

  node_member : (k : ℕ) → k < length (entries_of s) → node_at k ∈ nodes_of s
  node_member k h = let z : 0 + k ≡ k = omega arith in rw z at (node_from k 0 (omega arith))

  elim_from : (m k : ℕ) → k + m ≡ length (entries_of s) → (x : Node) → x ∈ nodes_from (k + 1) (entries_from s (record_at k))
      → (j : ℕ) × (j < length (entries_of s)) × (x ≡ node_at j)
  unfolding nodes_from
  elim_from zero k e x m =
      absurd (Memᴰ.not-nil (rw (entries_past s (record_at k) (omega (arith, count_entries s framed))) at m))
  elim_from (suc n) k e x m =
      go (Memᴰ.cases_cons (rw (entries_index s framed k (omega arith)) at m)) (λ there. elim_from n (k + 1) (omega arith) x there)
    where
      go : (x ≡ node_at k) ⊎ (x ∈ nodes_from (k + 1 + 1) (entries_from s (record_at (k + 1))))
          → (x ∈ nodes_from (k + 1 + 1) (entries_from s (record_at (k + 1))) → (j : ℕ) × (j < length (entries_of s)) × (x ≡ node_at j))
          → (j : ℕ) × (j < length (entries_of s)) × (x ≡ node_at j)
      go (inl same) later = (k, omega arith, same)
      go (inr there) later = later there

  node_elim : (x : Node) → x ∈ nodes_of s → (j : ℕ) × (j < length (entries_of s)) × (x ≡ node_at j)
  node_elim x m = elim_from (length (entries_of s)) 0 (omega arith) x m

-- a way up goes across bridges of the sheet
way_leads : (ns : List Node) (top bus : ℕ) (bs : List Node) → Above top ns bus bs → All (λ b. (b ∈ ns) × (b.bridge ≡ true)) bs
unfolding Above
way_leads ns top bus [] a = tt
way_leads ns top bus (b ∷ bs) (l, a) = ((l.in_sheet, l.is_bridge_lem), way_leads ns top b.bus bs a)

root_masked : (written : ℕ → Bool) (ns : List Node) → root_of (map (masked written) ns) ≡ root_of ns
root_masked written [] = refl
root_masked written (n ∷ ns) = go (written n.number)
  where
    go : (t : Bool) → (cond t n (blank n)).bus ≡ n.bus
    go true = refl
    go false = refl

-- ## One write

module _ {host : Host} {final : List ℕ} (sc : Scriptable host final) (boot : Boot) (root_is : boot.root ≡ host.first)
    (requester : boot.requester < 65536)
    (done : List Write) (w : Write) (rest : List Write) (at : writes_of (parts_in final) ≡ done ++ (w ∷ rest)) where
  abbrev ns : List Node
  ns = nodes_of final

  abbrev state : List ℕ
  state = state_of final done

  abbrev k : ℕ
  k = w.number - 1

  all : All (WriteIn final) (done ++ (w ∷ rest))
  all = subst (All (WriteIn final)) at (writes_in_lem final sc.framed)

  all_done : All (WriteIn final) done
  all_done = all_left _ done (w ∷ rest) all

  pub here : WriteIn final w
  here = (all_right _ done (w ∷ rest) all).0

  below : k < length (entries_of final)
  below = omega (arith, here.in_sheet, here.from_1, count_entries final sc.framed)

  -- its function
  abbrev x : Node
  x = node_of (k + 1) (entry_of (part_at final k))

  member : x ∈ ns
  member = node_member final sc.framed k below

  number_is : k + 1 ≡ w.number
  number_is = omega (arith, here.from_1)

  id_is : w.id ≡ id_of (part_at final k)
  id_is = ap (λ (v : Write). v.id) here.write_is

  -- the bridges above it are written
  above_written : All (λ b. hit b.number 0x18 done ≡ true) (above host.first ns x.bus)
  unfolding entry_of
  above_written =
      all_intro _ (above host.first ns x.bus) (λ b m.
      let way = all_elim _ _ (way_leads ns host.first x.bus _ (above_is sc.rise sc.tree x member)) m in
      let less = all_elim _ _ (sc.earlier x member) m in
      let (j, inside, is) = node_elim final sc.framed b way.0 in
      let bridge : bridge_at final j ≡ true = sym (ap (λ (n : Node). n.bridge) is) ∙ way.1 in
      let number : b.number ≡ j + 1 = ap (λ (n : Node). n.number) is in
      let there = bus_before_lem final sc.framed done w rest at j inside bridge (omega (arith, less, number, number_is)) in
      ap (λ (n : ℕ). hit n 0x18 done) number ∙ hit_intro done (bus_write final sc.framed j) there)

  -- the bridges that it crosses
  abbrev pub crossed : ℕ
  crossed = length (above host.first ns (w.id / 256))

  walk_is : walk_from (tally_by_id (nodes_of state) (w.id / 256) (w.id % 256)) host.first 0 ≡ delivered w.number crossed
  unfolding entry_of
  walk_is =
      ap₂ (λ (ms : List Node) (id : ℕ). walk_from (tally_by_id ms (id / 256) (id % 256)) host.first 0)
      (nodes_masked final sc.framed done all_done) id_is
      ∙ delivered_partly sc.rise sc.tree sc.distinct (λ n. hit n 0x18 done) x member above_written
      ∙ ap₂ (λ (n id : ℕ). delivered n (length (above host.first ns (id / 256)))) number_is (sym id_is)

  -- on the sheet itself the same
  pub final_walk : walk_from (tally_by_id ns (w.id / 256) (w.id % 256)) host.first 0 ≡ delivered w.number crossed
  unfolding entry_of
  final_walk =
      ap (λ (id : ℕ). walk_from (tally_by_id ns (id / 256) (id % 256)) host.first 0) id_is
      ∙ delivered_by_id sc.rise sc.tree sc.distinct x.bus x.devfn x
      (record { in_sheet = member; bus_is = refl; devfn_is = refl })
      ∙ ap₂ (λ (n id : ℕ). delivered n (length (above host.first ns (id / 256)))) number_is (sym id_is)

  root_of_state : root state ≡ boot.root
  root_of_state =
      ap root_of (nodes_masked final sc.framed done all_done) ∙ root_masked (λ n. hit n 0x18 done) ns
      ∙ root_is_first host.first ns sc.tree.first_on_root (some member)
      ∙ sym root_is
    where
      some : {y : Node} {l : List Node} → y ∈ l → 0 < length l
      some {y} {l} m = go l m
        where
          go : (l : List Node) → y ∈ l → 0 < length l
          go [] n = absurd (Memᴰ.not-nil n)
          go (z ∷ l) n = omega arith

  -- ## The router's answer, past the sheet's checks

  filled : ¬ (length (nodes_of state) ≡ 0)
  filled z =
      Memᴰ.not-nil
      (subst (λ (l : List Node). x ∈ l) (nil_of (sym (length-map ns (masked (λ n. hit n 0x18 done)))
      ∙ sym (ap length (nodes_masked final sc.framed done all_done)) ∙ z)) member)
    where
      nil_of : {l : List Node} → length l ≡ 0 → l ≡ []
      nil_of {l} e = go l e
        where
          go : (l : List Node) → length l ≡ 0 → l ≡ []
          go [] e = refl
          go (y ∷ l) e = absurd (omega arith)

  kind_right : (t : Bool) → kind_wrong (cond t CfgWr0 CfgWr1) t ≡ false
  kind_right true = refl
  kind_right false = refl

  -- as it arrives: type 0
  abbrev pub arrival : ℕ → Delivery
  arrival tag = record { owner = w.number; bridges = crossed; packet = packet_with CfgWr0 boot.requester tag w }

  arrives_so : (t : Bool) (tag : ℕ) → arrived (packet_with (cond t CfgWr0 CfgWr1) boot.requester tag w)
      ≡ packet_with CfgWr0 boot.requester tag w
  arrives_so true tag = refl
  arrives_so false tag = refl

  pub write_delivered : (tag : ℕ) → route_packet (packet_of boot tag w) state ≡ Delivered (arrival tag)
  unfolding route_packet from42
  write_delivered tag =
      let test = eqb (w.id / 256) boot.root in
      let right : kind_wrong (kind_for boot.root w.id) (eqb (w.id / 256) (root state)) ≡ false =
      ap (λ (r : ℕ). kind_wrong (kind_for boot.root w.id) (eqb (w.id / 256) r)) root_of_state ∙ kind_right test in
      let walk : walked (Id w.id) state (root state) 0 ≡ delivered w.number crossed =
      ap (λ (r : ℕ). walked (Id w.id) state r 0) (root_of_state ∙ root_is) ∙ walk_is in
      rw (ne_eqb (length (nodes_of state)) 0 filled, right)
      (ap (answer (packet_of boot tag w)) walk
      ∙ ap (λ (q : Packet). Delivered (record { owner = w.number; bridges = crossed; packet = q })) (arrives_so test tag))

  -- ## What is stored

  enables_lt : (b : Bool) (offset : ℕ) → enables_for b offset < 16
  enables_lt b offset = go (eqb offset 0x04) b (eqb offset 0x18) (eqb offset 0x1c)
    where
      go : (s b t u : Bool) → cond s two_bytes (cond (b && t) three_bytes (cond (b && u) two_bytes four_bytes)) < 16
      go true b t u = omega arith
      go false false t u = omega arith
      go false true true u = omega arith
      go false true false true = omega arith
      go false true false false = omega arith

  enables_small : w.enables < 16
  enables_small = omega (arith, here.enables_are, enables_lt (bridge_at final k) w.offset)

  id_small : w.id < 65536
  id_small =
      omega (
        arith,
        id_is,
        be_lt 2 (part_at final k) 0 (bytes_take record_size (drop (record_at k + 2) final) (bytes_drop (record_at k + 2) final sc.bytes)),
      )

  lawful_with : (t : Bool) (tag : ℕ) → tag < 256
      → (row : Row) × (verdict_of (packet_with (cond t CfgWr0 CfgWr1) boot.requester tag w) ≡ Lawful row)
  unfolding row_of table first find_kind fields_fit length_fits body_fits rule_number reserved_set from_rule5 fixed_wrong from_rule6 upper_zero
      from_rule7
      enables_wrong from_rule8 crosses_page from_rule9 status_wrong
  lawful_with true tag small =
      let req = lt-ltb boot.requester 65536 requester in
      let tags = lt-ltb tag 1024 (omega arith) in
      let firsts = lt-ltb w.enables 16 enables_small in
      let ids = lt-ltb w.id 65536 id_small in
      let registers = lt-ltb (w.offset / 4) 1024 (omega (arith, here.register.inside)) in (
        _,
        lawful_intro _ (packet_with CfgWr0 boot.requester tag w)
            (record { carried = refl; fits = rw (req, tags, firsts, ids, registers); rules = refl }),
      )
  lawful_with false tag small =
      let req = lt-ltb boot.requester 65536 requester in
      let tags = lt-ltb tag 1024 (omega arith) in
      let firsts = lt-ltb w.enables 16 enables_small in
      let ids = lt-ltb w.id 65536 id_small in
      let registers = lt-ltb (w.offset / 4) 1024 (omega (arith, here.register.inside)) in (
        _,
        lawful_intro _ (packet_with CfgWr1 boot.requester tag w)
            (record { carried = refl; fits = rw (req, tags, firsts, ids, registers); rules = refl }),
      )

  -- the header is read as the packet that was laid out
  pub header_read : (tag : ℕ) → tag < 256 → read_of (take 12 (write_part boot tag w)) ≡ Accepted (packet_of boot tag w)
  header_read tag small =
      let p = packet_of boot tag w in
      let (row, lawful) = lawful_with (eqb (w.id / 256) boot.root) tag small in
      ap read_of (take_at (layout p) (four_of w.bytes) 12 (length_header boot tag w) ∙ sym (append-nil (layout p)))
      ∙ read_layout p row [] lawful

  -- a named data byte is the sheet's own
  own_byte : (i : ℕ) → i < 4 → named w.enables i ≡ true
      → get_or (four_of w.bytes) i 0 ≡ get_or final (register_place w.number w.offset + i) 0
  own_byte i h n =
      let place : record_at k + 2 + (2 + w.offset + i) ≡ register_place w.number w.offset + i = omega arith in
      byte_is i h
      ∙ ap (λ (t : Bool). cond t (get_or (part_at final k) (2 + w.offset + i) 0) 0) n
      ∙ part_byte final k (2 + w.offset + i) (omega (arith, here.register.inside))
      ∙ ap (λ (j : ℕ). get_or final j 0) place
    where
      bytes_are : w.bytes ≡ data_of (part_at final k) w.offset w.enables
      bytes_are = ap (λ (v : Write). v.bytes) here.write_is

      byte_is : (i : ℕ) → i < 4 → get_or (four_of w.bytes) i 0 ≡ data_byte (part_at final k) w.offset w.enables i
      byte_is zero h = ap (λ (l : List ℕ). get_or (four_of l) 0 0) bytes_are
      byte_is (suc zero) h = ap (λ (l : List ℕ). get_or (four_of l) 1 0) bytes_are
      byte_is (suc (suc zero)) h = ap (λ (l : List ℕ). get_or (four_of l) 2 0) bytes_are
      byte_is (suc (suc (suc zero))) h = ap (λ (l : List ℕ). get_or (four_of l) 3 0) bytes_are
      byte_is (suc (suc (suc (suc i)))) h = absurd (omega arith)

  one_more : copied final (places_at (register_place w.number w.offset) w.enables) state ≡ state_of final (done ++ (w ∷ []))
  unfolding all_places places_of flat_map
  one_more =
      ap (λ (is : List ℕ). copied final is state) (sym (append-nil (places_at (register_place w.number w.offset) w.enables)))
      ∙ sym (state_append final done (w ∷ []))

  -- one record of the script does what its write says
  write_performed : (tag : ℕ) → tag < 256 → performed (write_part boot tag w) state ≡ state_of final (done ++ (w ∷ []))
  unfolding performed
  write_performed tag small =
      let p = packet_of boot tag w in
      let offset : 4 * (w.offset / 4) ≡ w.offset = omega (arith, here.register.aligned) in
      let bytes : drop 12 (write_part boot tag w) ≡ four_of w.bytes = drop_at (layout p) (four_of w.bytes) 12
      (length_header boot tag w) in
      ap₂ (λ (r : Reading) (l : List ℕ). performed_by r l state) (header_read tag small) bytes
      ∙ ap (λ (r : Routing). performed_as r (four_of w.bytes) state) (write_delivered tag)
      ∙ ap (λ (o : ℕ). store_four (register_place w.number o) w.enables (four_of w.bytes) state) offset
      ∙ store_copied final (register_place w.number w.offset) w.enables (four_of w.bytes) own_byte state
      ∙ one_more

-- ## All writes

unfoldable pub write_parts : Boot → ℕ → List Write → List (List ℕ)
write_parts boot tag [] = []
write_parts boot tag (w ∷ ws) = write_part boot tag w ∷ write_parts boot (next_tag tag) ws

module _ {host : Host} {final : List ℕ} (sc : Scriptable host final) (boot : Boot) (root_is : boot.root ≡ host.first)
    (requester : boot.requester < 65536) where
  run_from : (j : ℕ) (done rest : List Write) → writes_of (parts_in final) ≡ done ++ rest → (tag : ℕ) → tag < 256
      → run (take j (write_parts boot tag rest)) (state_of final done) ≡ state_of final (done ++ take j rest)
  unfolding run write_parts
  run_from zero done rest at tag small = ap (state_of final) (sym (append-nil done))
  run_from (suc j) done [] at tag small = ap (state_of final) (sym (append-nil done))
  run_from (suc j) done (w ∷ rest) at tag small =
      ap (run (take j (write_parts boot (next_tag tag) rest))) (write_performed sc boot root_is requester done w rest at tag small)
      ∙ run_from j (done ++ (w ∷ [])) rest (at ∙ sym (append_assoc done (w ∷ []) rest)) (next_tag tag) (omega arith)
      ∙ ap (state_of final) (append_assoc done (w ∷ []) (take j rest))

  -- after j records of the script
  pub run_is : (j tag : ℕ) → tag < 256
      → run (take j (write_parts boot tag (writes_of (parts_in final)))) (model_of final) ≡ state_of final (take j (writes_of (parts_in final)))
  unfolding state_of copied all_places flat_map
  run_is j tag small = run_from j [] (writes_of (parts_in final)) refl tag small
