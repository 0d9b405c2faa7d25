-- Document 02, E13, is proved: no check and no register looks at a command word, so both sheets have the same registers; and by these only
-- the bits of one function differ. Assumes nothing.
use Rattle.std.specs.Prelude.{◌≡◌, ◌⊎◌, Bool, true, false, cond, Option, Some, None, ℕ, suc, ◌-◌, ◌/◌, ◌%◌, eqb, length}
use Rattle.std.proofs.Math.Path.{refl, ap, ap₂}
use Rattle.std.proofs.Common.{sym, subst, ◌∙◌, inl, inr, suc-ne-zero, arith}
use mathlib.Core.List.{List, [], ◌∷◌, ◌++◌, flatten}
use borrow.Author.Tests.{eq-eqb, eqb-true, eqb-false}
use Rattle.endian.specs.Endian.{Bytes}
use Rattle.text.specs.Text.{ascii, decimal}
use Rattle.pairs.specs.declared.MessageRouting.TheVariants.{ToRoot, ByAddress, ById, Broadcast, Local, Gathered}
use Rattle.packet.specs.declared.Packet.{Packet}
use Rattle.packet.specs.declared.Packet.TheVariants.{Memory, Io, Config, Completion, Message}
use Rattle.tlp.specs.declared.Reading.{Reading}
use Rattle.tlp.specs.declared.Reading.TheVariants.{Accepted as Read, Refused as NotRead}
use Rattle.tlp.specs.Reading.{read_of}
use Rattle.lists.specs.Lists.{◌∈◌, All}
use Rattle.lists.specs.ListLaws.{some_of_member}
use Rattle.records.specs.Records.{parts_of}
use Rattle.pools.specs.declared.Space.{Space}
use Rattle.pools.specs.declared.Space.TheVariants.{Memory as memory_space, Io as io_space}
use Rattle.walk.specs.Registers.{Node, Registers, root_of}
use Rattle.walk.proofs.RegistersLaws.{BarOf, WindowOf, item_elim}
use Rattle.walk.specs.Tally.{Tally, tally_on}
use Rattle.walk.specs.Walk.{no_owner, walk_from}
use Rattle.walk.specs.Ids.{tally_by_id}
use Rattle.walk.specs.Climb.{starts, nowhere, start_at, send_from}
use Rattle.walk.specs.Switch.{Clear, SameBut, gone_up}
use Rattle.walk.proofs.Switch.{tallies_agree, send_agree}
use Rattle.sheet_record.specs.Spaces.{command_bit, space_bit, master_bit}
use Rattle.sheet.specs.Sheet.{entries_of, sheet_number}
use Rattle.sheet.specs.Spaces.{registers_of, nodes_of, bit_of, enabled_of, master_of}
use Rattle.sheet.proofs.SheetLaws.{Checked, checked_of_zero, numbered_functions}
use Rattle.sheet.proofs.IndexLaws.{bit_of_command}
use Rattle.sheet.proofs.CommandsLaws.{number_same, registers_same, nodes_same}
use Rattle.claims.specs.declared.Aim.{Aim}
use Rattle.claims.specs.declared.Aim.TheVariants.{Address, Id}
use Rattle.route_arrival.specs.declared.Heading.{Heading}
use Rattle.route_arrival.specs.declared.Heading.TheVariants.{Aimed, Up, Every, Port}
use Rattle.route_arrival.specs.Arrival.{heading_of, type_wrong}
use Rattle.route_answer.specs.declared.Routing.{Routing}
use Rattle.route_answer.specs.declared.Routing.TheVariants.{Refused}
use Rattle.route_answer.specs.Routing.{wrong_type, answer, headed_over, route_over}
use Rattle.route.specs.Route.{walked, root, route_packet, from_sheet, from_reading, route_of}
use Rattle.route.proofs.RouteLaws.{packet_over}
use Rattle.route_cards.specs.Sending.{request_of, sending_of}
use Rattle.route_cards.specs.Sending as sending
use Rattle.route_cards.specs.Search.{function_at, IsType0}
use Rattle.route_cards.specs.RecordLaws.{function_mem, function_elim, type_0_no_bridge, start_of_type_0}
use Rattle.route_cards.specs.RequestLaws.{type_0_or_nowhere}
use Rattle.trace.specs.Annotated.{number_after}
use Rattle.trace_label.specs.Label.{label_of, label_with}
use Rattle.trace_line.specs.Line.{line_with, line_over}
use Rattle.index_search.specs.Search.{search_of}
use Rattle.index_build.specs.Build.{index_after, sound_index_after}
use Rattle.index_alone.specs.Alone.{alone_index_after}
use Rattle.demands.specs.Demand3.{IsRequest}
use Rattle.demands.specs.ById.{GoesById}
use Rattle.requests.specs.Trace.{lines_after, told, Annotates}
use Rattle.requests.proofs.TraceLaws.{trace_annotated}
use Rattle.requests.specs.FastLabels.{IsBuilt}
use Rattle.requests.proofs.FastLabelsLaws.{fast_labels}
use Rattle.requests.specs.SoundLabels.{IsBuiltSound, IsBuiltAlone}
use Rattle.requests.proofs.SoundLabelsLaws.{sound_labels}
use Rattle.requests.specs.CardToCard.{IsCardRequest}
use Rattle.requests.specs.OneSwitch.{DifferAt, LiesIn, StaysClear, CardStaysClear, OneSwitch}

-- ## What goes by an address

request_of_aim : (p : Packet) (sp : Space) (address : ℕ) → heading_of p ≡ Aimed (Address sp address) → IsRequest p sp address
request_of_aim (Memory k h e a) sp address q = (cc, cc)
request_of_aim (Io k h e a) sp address q = (cc, cc)
request_of_aim (Config k h e t) sp address q = suc-ne-zero 0 (cc)
request_of_aim (Completion k h o) sp address q = suc-ne-zero 0 (cc)
request_of_aim (Message k h ToRoot code tail) sp address q = suc-ne-zero 0 (cc)
request_of_aim (Message k h ByAddress code tail) sp address q = (cc, cc)
request_of_aim (Message k h ById code tail) sp address q = suc-ne-zero 0 (cc)
request_of_aim (Message k h Broadcast code tail) sp address q = suc-ne-zero 0 (cc)
request_of_aim (Message k h Local code tail) sp address q = suc-ne-zero 0 (cc)
request_of_aim (Message k h Gathered code tail) sp address q = suc-ne-zero 0 (cc)

-- and by an ID goes nothing that goes by an address
not_by_both : (p : Packet) (id : ℕ) → GoesById p id → (sp : Space) (address : ℕ) → ¬ IsRequest p sp address
not_by_both (Memory k h e a) id by sp address is = by
not_by_both (Io k h e a) id by sp address is = by
not_by_both (Config k h e t) id by sp address is = is
not_by_both (Completion k h o) id by sp address is = is
not_by_both (Message k h ToRoot code tail) id by sp address is = is
not_by_both (Message k h ByAddress code tail) id by sp address is = by
not_by_both (Message k h ById code tail) id by sp address is = is
not_by_both (Message k h Broadcast code tail) id by sp address is = is
not_by_both (Message k h Local code tail) id by sp address is = is
not_by_both (Message k h Gathered code tail) id by sp address is = is

-- one address for one request
one_address : (p : Packet) (sp sp' : Space) (a a' : ℕ) → IsRequest p sp a → IsRequest p sp' a' → (sp ≡ sp') × (a ≡ a')
one_address (Memory k h e x) sp sp' a a' (m, is) (m', is') = (m ∙ sym m', is ∙ sym is')
one_address (Io k h e x) sp sp' a a' (m, is) (m', is') = (m ∙ sym m', is ∙ sym is')
one_address (Config k h e t) sp sp' a a' is is' = absurd is
one_address (Completion k h o) sp sp' a a' is is' = absurd is
one_address (Message k h ToRoot code tail) sp sp' a a' is is' = absurd is
one_address (Message k h ByAddress code tail) sp sp' a a' (m, is) (m', is') = (m ∙ sym m', is ∙ sym is')
one_address (Message k h ById code tail) sp sp' a a' is is' = absurd is
one_address (Message k h Broadcast code tail) sp sp' a a' is is' = absurd is
one_address (Message k h Local code tail) sp sp' a a' is is' = absurd is
one_address (Message k h Gathered code tail) sp sp' a a' is is' = absurd is

card_request : (p : Packet) (sp : Space) (address : ℕ) → request_of p ≡ Some (sp, address) → IsCardRequest p sp address
card_request (Memory k h e a) sp address q =
    let same : ◌≡◌ {A = Space × ℕ} (sp, address) (memory_space, a) = cc in
    (ap (λ (x : Space × ℕ). x.0) same, ap (λ (x : Space × ℕ). x.1) same)
card_request (Io k h e a) sp address q =
    let same : ◌≡◌ {A = Space × ℕ} (sp, address) (io_space, a) = cc in
    (ap (λ (x : Space × ℕ). x.0) same, ap (λ (x : Space × ℕ). x.1) same)
card_request (Config k h e t) sp address q = suc-ne-zero 0 (cc)
card_request (Completion k h o) sp address q = suc-ne-zero 0 (cc)
card_request (Message k h routing code tail) sp address q = suc-ne-zero 0 (cc)

-- ## Two sheets that differ in function k's command word

module _ (k : ℕ) (s t : List ℕ) (d : DifferAt k s t) where
  checked : Checked s
  checked = checked_of_zero s d.passes

  passes : sheet_number t ≡ 0
  passes = number_same d.same_but_commands ∙ d.passes

  nodes_are : nodes_of t ≡ nodes_of s
  nodes_are = nodes_same d.same_but_commands checked.framed

  registers_are : (sp : Space) → registers_of sp t ≡ registers_of sp s
  registers_are sp = registers_same d.same_but_commands checked.framed sp

  -- any bit of the command words
  bits_agree : (bit : ℕ) (sp : Space) → SameBut (registers_of sp s) k (bit_of bit t) (bit_of bit s)
  bits_agree bit sp f m other =
      let n = f.node.number in
      let is : n ≡ suc (n - 1) = omega (arith, (function_elim s checked sp f m).0.from_1) in
      ap (bit_of bit t) is
      ∙ bit_of_command bit t (suc (n - 1))
      ∙ ap (command_bit bit) (sym (d.same_elsewhere (n - 1) (λ e. other (is ∙ e))))
      ∙ sym (bit_of_command bit s (suc (n - 1)))
      ∙ ap (bit_of bit s) (sym is)

  enabled_agree : (sp : Space) → SameBut (registers_of sp s) k (enabled_of sp t) (enabled_of sp s)
  enabled_agree sp = bits_agree (space_bit sp) sp

  clear_of : (sp : Space) (address : ℕ) → ¬ LiesIn s sp address k → Clear (registers_of sp s) address k
  clear_of sp address outside i m is held = go (item_elim (registers_of sp s) m)
    where
      go : BarOf (registers_of sp s) i ⊎ WindowOf (registers_of sp s) i → ⊥
      go (inl b) =
          outside (record {
            function = i.owner;
            in_sheet = b.in_sheet;
            number_is = is;
            holds_it = inl (some_of_member _ i.owner.bars b.in_bars held);
          })
      go (inr w) =
          outside (record {
            function = i.owner;
            in_sheet = w.in_sheet;
            number_is = is;
            holds_it = inr (w.is_bridge_lem, some_of_member _ i.owner.windows w.in_windows held);
          })

  -- ## From the host

  by_address : (sp : Space) (address : ℕ) → ¬ LiesIn s sp address k
      → walked (Address sp address) t (root t) 0 ≡ walked (Address sp address) s (root s) 0
  by_address sp address outside =
      ap (λ (fs : List Registers). walk_from (tally_on (enabled_of sp t) fs address) (root t) 0) (registers_are sp)
      ∙ ap (λ (tally : ℕ → Tally). walk_from tally (root t) 0)
      (tallies_agree (enabled_of sp t) (enabled_of sp s) (registers_of sp s) address k (enabled_agree sp) (clear_of sp address outside))
      ∙ ap (λ (ns : List Node). walk_from (tally_on (enabled_of sp s) (registers_of sp s) address) (root_of ns) 0) nodes_are

  by_id_lem : (id : ℕ) → walked (Id id) t (root t) 0 ≡ walked (Id id) s (root s) 0
  by_id_lem id = ap (λ (ns : List Node). walk_from (tally_by_id ns (id / 256) (id % 256)) (root_of ns) 0) nodes_are

  -- where the packet's own aim has one outcome
  packet_agree : (p : Packet)
      → ((aim : Aim) → heading_of p ≡ Aimed aim → walked aim t (root t) 0 ≡ walked aim s (root s) 0)
      → route_packet p t ≡ route_packet p s
  packet_agree p same =
      packet_over p t
      ∙ ap (λ (ns : List Node). route_over (length ns) (root_of ns) (λ aim. walked aim t (root t) 0) p) nodes_are
      ∙ ap (λ (r : Routing). cond (eqb (length (nodes_of s)) 0) (Refused no_owner) (cond (type_wrong (root s) p) (Refused wrong_type) r))
      (go (heading_of p) refl)
      ∙ sym (packet_over p s)
    where
      go : (h : Heading) → heading_of p ≡ h
          → headed_over (length (nodes_of s)) (λ aim. walked aim t (root t) 0) h p
          ≡ headed_over (length (nodes_of s)) (λ aim. walked aim s (root s) 0) h p
      go (Aimed aim) e = ap (answer p) (same aim e)
      go Up e = refl
      go Every e = refl
      go Port e = refl

  -- what stays clear gets one answer: the law that all others come from
  routes_agree : (header : List ℕ) → StaysClear s k header → route_of header t ≡ route_of header s
  unfolding route_of from_sheet
  routes_agree header clear = go (read_of header) refl
    where
      go : (r : Reading) → read_of header ≡ r → from_reading r t ≡ from_reading r s
      go (NotRead n) e = refl
      go (Read p) e =
          rw (eq-eqb (sheet_number t) 0 passes, eq-eqb (sheet_number s) 0 d.passes) (packet_agree p aimed)
        where
          aimed : (aim : Aim) → heading_of p ≡ Aimed aim → walked aim t (root t) 0 ≡ walked aim s (root s) 0
          aimed (Address sp address) q = by_address sp address (clear p sp address e (request_of_aim p sp address q))
          aimed (Id id) q = by_id_lem id

  host_agrees : (header : List ℕ) (p : Packet) → read_of header ≡ Read p → (sp : Space) (address : ℕ) → IsRequest p sp address
      → ¬ LiesIn s sp address k → route_of header t ≡ route_of header s
  host_agrees header p read sp address is outside =
      routes_agree header (λ q sp' address' e is' lies.
      let same : p ≡ q = let x : Read p ≡ Read q = sym read ∙ e in cc in
      let one = one_address p sp sp' address address' is (subst (λ (z : Packet). IsRequest z sp' address') (sym same) is') in
      outside (rw (one.0, one.1) lies))

  others_agree : (header : List ℕ) → ((p : Packet) (sp : Space) (address : ℕ) → read_of header ≡ Read p → ¬ IsRequest p sp address)
      → route_of header t ≡ route_of header s
  others_agree header never = routes_agree header (λ p sp address e is lies. never p sp address e is)

  ids_agree : (header : List ℕ) (p : Packet) → read_of header ≡ Read p → (id : ℕ) → GoesById p id → route_of header t ≡ route_of header s
  ids_agree header p read id by =
      others_agree header (λ q sp address e is.
      let same : p ≡ q = let x : Read p ≡ Read q = sym read ∙ e in cc in
      not_by_both p id by sp address (subst (λ (z : Packet). IsRequest z sp address) (sym same) is))

  -- ## The annotator and the index

  line_agrees : (n : ℕ) (header : List ℕ) → route_of header t ≡ route_of header s → line_over t n header ≡ line_over s n header
  unfolding line_over line_with label_with
  line_agrees n header e = ap (λ (r : Routing). decimal n ++ (label_of (read_of header) r ++ ascii "\n")) e

  records_agree : (n : ℕ) (headers : List (List ℕ)) → All (StaysClear s k) headers → lines_after t n headers ≡ lines_after s n headers
  unfolding lines_after
  records_agree n [] clear = refl
  records_agree n (header ∷ headers) (here, later) =
      ap₂ ◌++◌ (line_agrees (number_after n) header (routes_agree header here)) (records_agree (number_after n) headers later)

  lines_agree : (pieces : List (List ℕ))
      → ((records : List ℕ) → flatten pieces ≡ 1 ∷ records → All (StaysClear s k) (parts_of records).parts)
      → told (line_over t) pieces ≡ told (line_over s) pieces
  lines_agree pieces clear = go (flatten pieces) refl
    where
      over_t : Annotates t pieces
      over_t = trace_annotated.annotates t pieces

      over_s : Annotates s pieces
      over_s = trace_annotated.annotates s pieces

      framed : (records : List ℕ) → flatten pieces ≡ 1 ∷ records → (w : Bool) → (parts_of records).whole ≡ w
          → told (line_over t) pieces ≡ told (line_over s) pieces
      framed records e true w =
          over_t.whole_trace records e w ∙ records_agree 0 (parts_of records).parts (clear records e)
          ∙ sym (over_s.whole_trace records e w)
      framed records e false w =
          over_t.cut_trace records e w
          ∙ ap (λ (lines : List ℕ). lines ++ ascii "cut\n") (records_agree 0 (parts_of records).parts (clear records e))
          ∙ sym (over_s.cut_trace records e w)

      by_version : (v : ℕ) (records : List ℕ) → flatten pieces ≡ v ∷ records → (b : Bool) → eqb v 1 ≡ b
          → told (line_over t) pieces ≡ told (line_over s) pieces
      by_version v records e true q =
          framed records (e ∙ ap (λ (n : ℕ). n ∷ records) (eqb-true v 1 q)) (parts_of records).whole refl
      by_version v records e false q =
          over_t.other_version v records e (eqb-false v 1 q) ∙ sym (over_s.other_version v records e (eqb-false v 1 q))

      go : (trace : List ℕ) → flatten pieces ≡ trace → told (line_over t) pieces ≡ told (line_over s) pieces
      go [] e = over_t.no_trace e ∙ sym (over_s.no_trace e)
      go (v ∷ records) e = by_version v records e (eqb v 1) refl

  -- by two slices that are searched as the sheets are walked
  finds_agree : (index index' : List ℕ) (header : List ℕ) → search_of header index ≡ route_of header s
      → search_of header index' ≡ route_of header t → StaysClear s k header → search_of header index' ≡ search_of header index
  finds_agree index index' header is is' clear = is' ∙ routes_agree header clear ∙ sym is

  searches_agree : Bytes s → Bytes t → (host host' room room' : List ℕ) → Bytes host → Bytes host' → IsBuilt host s room
      → IsBuilt host' t room' → (header : List ℕ) → StaysClear s k header
      → search_of header (index_after host' t room') ≡ search_of header (index_after host s room)
  searches_agree bytes bytes' host host' room room' host_bytes_lem host_bytes' built built' header clear =
      finds_agree (index_after host s room) (index_after host' t room') header
      (fast_labels.answers_equal host s room host_bytes_lem bytes built header)
      (fast_labels.answers_equal host' t room' host_bytes' bytes' built' header) clear

  sound_searches_agree : Bytes s → Bytes t → (host host' room room' : List ℕ) → Bytes host → Bytes host' → IsBuiltSound host s room
      → IsBuiltSound host' t room' → (header : List ℕ) → StaysClear s k header
      → search_of header (sound_index_after host' t room') ≡ search_of header (sound_index_after host s room)
  sound_searches_agree bytes bytes' host host' room room' host_bytes_lem host_bytes' built built' header clear =
      finds_agree (sound_index_after host s room) (sound_index_after host' t room') header
      (sound_labels.labels.answers_equal host s room host_bytes_lem bytes built header)
      (sound_labels.labels.answers_equal host' t room' host_bytes' bytes' built' header) clear

  alone_searches_agree : Bytes s → Bytes t → (room room' : List ℕ) → IsBuiltAlone s room → IsBuiltAlone t room'
      → (header : List ℕ) → StaysClear s k header
      → search_of header (alone_index_after t room') ≡ search_of header (alone_index_after s room)
  alone_searches_agree bytes bytes' room room' built built' header clear =
      finds_agree (alone_index_after s room) (alone_index_after t room') header
      (sound_labels.alone_answers s room bytes built header) (sound_labels.alone_answers t room' bytes' built' header) clear

  -- ## From a card

  function_is : (sp : Space) (j : ℕ) → IsType0 s j → start_at (registers_of sp t) j ≡ starts (function_at sp s j)
  function_is sp j type_0 = ap (λ (fs : List Registers). start_at fs j) (registers_are sp) ∙ start_of_type_0 s checked sp j type_0

  -- the function of record j is one on both
  function_same : (sp : Space) (j : ℕ) → IsType0 s j → function_at sp t j ≡ function_at sp s j
  function_same sp j type_0 = go (type_0_or_nowhere t (checked_of_zero t passes) j)
    where
      go : IsType0 t j ⊎ ((sp : Space) → start_at (registers_of sp t) j ≡ nowhere) → function_at sp t j ≡ function_at sp s j
      go (inl there) =
          let x : starts (function_at sp t j) ≡ starts (function_at sp s j) =
          sym (start_of_type_0 t (checked_of_zero t passes) sp j there) ∙ function_is sp j type_0 in
          cc
      go (inr none_there) =
          let x : nowhere ≡ starts (function_at sp s j) = sym (none_there sp) ∙ function_is sp j type_0 in absurd (suc-ne-zero 0 (cc))

  sent_agree : (p : Packet) (sp : Space) (address j : ℕ) → CardStaysClear k s t sp address j
      → sending.send_request p t sp address (start_at (registers_of sp t) j)
      ≡ sending.send_request p s sp address (start_at (registers_of sp s) j)
  sent_agree p sp address j clear = go (type_0_or_nowhere s checked j)
    where
      go : IsType0 s j ⊎ ((sp : Space) → start_at (registers_of sp s) j ≡ nowhere)
          → sending.send_request p t sp address (start_at (registers_of sp t) j)
          ≡ sending.send_request p s sp address (start_at (registers_of sp s) j)
      go (inr none_there) =
          ap (sending.send_request p t sp address) (ap (λ (fs : List Registers). start_at fs j) (registers_are sp) ∙ none_there sp)
          ∙ sym (ap (sending.send_request p s sp address) (none_there sp))
      go (inl type_0) =
          let f = function_at sp s j in
          let up_t' : ¬ (k ∈ gone_up (enabled_of sp t) (master_of t) (registers_of sp s) address (root s) f) = λ m.
          clear.goes_beside_too (rw (function_same sp j type_0, registers_are sp, nodes_are) m) in
          ap (sending.send_request p t sp address) (function_is sp j type_0)
          ∙ ap (λ (fs : List Registers). sending.answer p (send_from (enabled_of sp t) (master_of t) fs address (root t) f)) (registers_are sp)
          ∙ ap (λ (ns : List Node). sending.answer p (send_from (enabled_of sp t) (master_of t) (registers_of sp s) address (root_of ns) f))
          nodes_are
          ∙ ap (sending.answer p)
          (send_agree (enabled_of sp t) (enabled_of sp s) (master_of t) (master_of s) (registers_of sp s) address (root s) k
          (numbered_functions sp 1 (entries_of s)) (enabled_agree sp) (bits_agree master_bit sp)
          (clear_of sp address clear.lies_elsewhere) f
          (function_mem s checked sp j type_0.is_record) (type_0_no_bridge s sp j type_0) clear.starts_elsewhere_lem up_t'
          clear.goes_beside)
          ∙ sym (ap (sending.send_request p s sp address) (start_of_type_0 s checked sp j type_0))

  cards_agree : (j : ℕ) (header : List ℕ)
      → ((p : Packet) (sp : Space) (address : ℕ) → read_of header ≡ Read p → IsCardRequest p sp address → CardStaysClear k s t sp address j)
      → sending_of j header t ≡ sending_of j header s
  unfolding sending_of sending.from_sheet sending.send_packet
  cards_agree j header clear = go (read_of header) refl
    where
      by_request : (p : Packet) → read_of header ≡ Read p → (r : Option (Space × ℕ)) → request_of p ≡ r
          → sending.on_request j p t r ≡ sending.on_request j p s r
      by_request p e None q = refl
      by_request p e (Some (sp, address)) q =
          sent_agree p sp address j (clear p sp address e (card_request p sp address q))

      go : (r : Reading) → read_of header ≡ r → sending.from_reading j r t ≡ sending.from_reading j r s
      go (NotRead n) e = refl
      go (Read p) e =
          rw (eq-eqb (sheet_number t) 0 passes, eq-eqb (sheet_number s) 0 d.passes) (by_request p e (request_of p) refl)

pub one_switch : OneSwitch
one_switch =
    record {
      pass_alike = passes;
      host_agrees = host_agrees;
      ids_agree = ids_agree;
      others_agree = others_agree;
      lines_agree = lines_agree;
      searches_agree = searches_agree;
      sound_searches_agree = sound_searches_agree;
      alone_searches_agree = alone_searches_agree;
      cards_agree = cards_agree;
    }
