-- The climb, the request from a type 0 function and the checks before it, one step each in the words of the code. Assumes nothing.
use Rattle.std.specs.Prelude.{◌≡◌, refl, Bool, true, false, Option, Some, None, List, ℕ, ◌+◌, ◌<◌}
use Rattle.std.proofs.Math.Path.{sym, ap}
use Rattle.std.proofs.Common.{◌∙◌}
use borrow.Author.Tests.{eq-eqb, ne_eqb}
use Rattle.endian.specs.Endian.{Bytes}
use Rattle.packet.specs.declared.Packet.{Packet}
use Rattle.tlp.specs.declared.Reading.{Reading}
use Rattle.tlp.specs.declared.Reading.TheVariants.{Accepted, Refused as NotRead}
use Rattle.tlp.specs.Reading.{number_of as reading_number, read_of}
use Rattle.pools.specs.declared.Space.{Space}
use Rattle.walk.specs.Walk.{Outcome, no_owner, contested}
use Rattle.walk.specs.Climb as climb
use Rattle.walk.specs.Climb.{Sent, arrives, leaves, stops, not_master, bar_holds, settle_up, go_up, up_from, send_from}
use Rattle.walk.specs.Climb.{sent_of as outcome_sent}
use Rattle.walk.proofs.ClimbLaws.{Falling, falling_of_bridges, climb_step, from_bus_lem, further, walk_shift}
use Rattle.sheet_record.specs.Entry.{entry_of, bus_of, command_of}
use Rattle.sheet_record.specs.Spaces.{bars_of, command_bit, master_bit}
use Rattle.sheet.specs.Sheet.{entries_of, sheet_number}
use Rattle.sheet.specs.Spaces.{registers_of, enabled_of, master_of}
use Rattle.sheet.proofs.SheetLaws.{Checked, zero_of_checked, passes_of_zero, numbered_functions}
use Rattle.claims.specs.declared.Aim.{Aim}
use Rattle.claims.specs.declared.Aim.TheVariants.{Address}
use Rattle.claims.specs.declared.Claim.{Claim}
use Rattle.claims.specs.declared.Claim.TheVariants.{Bar, Window}
use Rattle.claims.specs.declared.Tally.{Tally}
use Rattle.claims.specs.declared.Tally.TheVariants.{Nothing, One, Several}
use Rattle.claims.specs.Claims.{tally_of, tally_for}
use Rattle.route.specs.declared.Walked.{Walked}
use Rattle.route.specs.declared.Walked.TheVariants.{Delivered as WalkedTo, Refused as WalkRefused}
use Rattle.route.specs.Route.{outcome_of, walked, root}
use Rattle.route_cards.specs.declared.Up.{Up}
use Rattle.route_cards.specs.declared.Up.TheVariants.{Host as ToHost, Across, Halts}
use Rattle.route_cards.specs.declared.Climbed.{Climbed}
use Rattle.route_cards.specs.declared.Climbed.TheVariants.{Arrives, Leaves, Stops}
use Rattle.route_cards.specs.declared.Sending.{Sending}
use Rattle.route_cards.specs.declared.Sending.TheVariants.{Delivered, Host, Refused}
use Rattle.route_cards.specs.Sending.{request_of, answer, send_request, climbed, on_request, send_packet, from_sheet}
use Rattle.route_cards.specs.Sending.{from_reading, sending_of}
use Rattle.route_cards.specs.Search.{part_of, function_at, IsType0, Type0Told, start_answer, any_holds, up_of, sent_of}
use Rattle.route_cards.specs.RecordLaws.{function_mem, start_of_type_0, type_0_no_bridge, master_is, bus_is}

-- ## Down: document 01's walk, with the bridges crossed before it added

module _ (aim : Aim) (s : List ℕ) (bus crossed : ℕ) (w : Walked) (e : outcome_of w ≡ walked aim s bus 0) where
  shifted : (x : Walked) → w ≡ x → outcome_sent (further crossed (outcome_of x)) ≡ outcome_sent (walked aim s bus crossed)
  shifted x q =
      ap (λ (o : Outcome). outcome_sent (further crossed o)) (ap outcome_of (sym q) ∙ e)
      ∙ ap outcome_sent (sym (walk_shift (tally_for aim s) bus crossed))

  pub down_delivered : (number bridges : ℕ) → w ≡ WalkedTo number bridges
      → arrives number (crossed + bridges) ≡ outcome_sent (walked aim s bus crossed)
  down_delivered number bridges q = shifted (WalkedTo number bridges) q

  pub down_refused : (n : ℕ) → w ≡ WalkRefused n → stops n ≡ outcome_sent (walked aim s bus crossed)
  down_refused n q = shifted (WalkRefused n) q

-- ## The climb

module _ (space : Space) (address : ℕ) (s : List ℕ) (bytes : Bytes s) (c : Checked s) (top : ℕ) where
  falling : Falling (up_from (master_of s) (registers_of space s) address top)
  falling =
      let p = passes_of_zero s bytes (zero_of_checked s c) in
      falling_of_bridges (master_of s) (registers_of space s) address top (rw (p.nodes_are space) p.bridges_rise)

  -- t is the tally of the bus
  module _ (bus crossed : ℕ) (t : Tally) (e : tally_of t ≡ tally_for (Address space address) s bus) where
    on_bus_lem : (x : Tally) → t ≡ x → (u : climb.Up) → up_from (master_of s) (registers_of space s) address top bus ≡ u
        → climbed space address s top bus crossed
        ≡ settle_up (tally_of x) crossed (λ b. walked (Address space address) s b (crossed + 1))
        (go_up u crossed (λ number b. climbed space address s top b (crossed + 1)))
    on_bus_lem x q u f =
        climb_step falling (tally_for (Address space address) s) bus crossed (tally_of x) u (sym e ∙ ap tally_of q) f

    pub climb_several : t ≡ Several → stops contested ≡ climbed space address s top bus crossed
    climb_several q = sym (on_bus_lem Several q _ refl)

    pub climb_bar : (claim : Claim) → t ≡ One claim → (number : ℕ) → claim ≡ Bar number
        → arrives number crossed ≡ climbed space address s top bus crossed
    climb_bar claim q number f = sym (on_bus_lem (One (Bar number)) (q ∙ ap One f) _ refl)

    module _ (claim : Claim) (q : t ≡ One claim) (number secondary : ℕ) (f : claim ≡ Window number secondary) where
      pub climb_window : (o : Sent) → o ≡ outcome_sent (walked (Address space address) s secondary (crossed + 1))
          → o ≡ climbed space address s top bus crossed
      climb_window o r = r ∙ sym (on_bus_lem (One (Window number secondary)) (q ∙ ap One f) _ refl)

    -- u is the way up
    module _ (q : t ≡ Nothing) (u : Up) (f : up_of u ≡ up_from (master_of s) (registers_of space s) address top bus) where
      up_as : (x : Up) → u ≡ x → climbed space address s top bus crossed
          ≡ go_up (up_of x) crossed (λ number b. climbed space address s top b (crossed + 1))
      up_as x r = on_bus_lem Nothing q (up_of x) (sym f ∙ ap up_of r)

      pub climb_host : u ≡ ToHost → leaves crossed ≡ climbed space address s top bus crossed
      climb_host r = sym (up_as ToHost r)

      pub climb_halts : (n : ℕ) → u ≡ Halts n → stops n ≡ climbed space address s top bus crossed
      climb_halts n r = sym (up_as (Halts n) r)

      pub climb_across : (number own : ℕ) → u ≡ Across number own → (o : Sent) → o ≡ climbed space address s top own (crossed + 1)
          → o ≡ climbed space address s top bus crossed
      climb_across number own r o g = g ∙ sym (up_as (Across number own) r)

      -- the bus number falls at the bridge
      pub bus_falls : (number own : ℕ) → u ≡ Across number own → own < bus
      bus_falls number own r = falling.falls bus number own (sym f ∙ ap up_of r)

-- ## A request from a type 0 function

-- p is the record's part
module _ (packet : Packet) (s : List ℕ) (c : Checked s) (number : ℕ) (type_0 : IsType0 s number) (space : Space) (address : ℕ) (p : List ℕ)
    (e : p ≡ part_of s number) where
  abbrev sent : Sending
  sent = send_request packet s space address (start_answer space s number)

  -- m the test of its bus master
  module _ (m : Bool) (t : m ≡ command_bit master_bit (command_of p)) where
    master_here : master_of s number ≡ m
    master_here = master_is s c number type_0.is_record p e ∙ sym t

    pub start_unmastered : m ≡ false → Refused not_master ≡ sent
    unfolding send_from
    start_unmastered n = rw (master_here ∙ n)

    -- b the test of its BARs
    module _ (y : m ≡ true) (b : Bool) (h : b ≡ any_holds address (bars_of space (entry_of p))) where
      bars_are : bar_holds address (function_at space s number) ≡ b
      unfolding any_holds
      bars_are = rw (← e) (sym h)

      pub own_bar : b ≡ true → Refused no_owner ≡ sent
      unfolding send_from
      own_bar o = rw (master_here ∙ y, bars_are ∙ o)

      module _ (o : b ≡ false) (top : ℕ) (first : top ≡ root s) (bus : ℕ) (at : bus ≡ bus_of p) (r : Climbed)
          (done : sent_of r ≡ climbed space address s top bus 0) where
        sent_is : answer packet (climbed space address s top bus 0) ≡ sent
        unfolding send_from
        sent_is =
            rw (
              master_here ∙ y,
              bars_are ∙ o,
              first,
              at ∙ sym
                  (bus_is s c number type_0.is_record p e space),
            )
            (ap (answer packet) (sym (from_bus_lem (enabled_of space s) (master_of s) (registers_of space s) address (root s)
            (numbered_functions space 1 (entries_of s)) (function_at space s number) (function_mem s c space number type_0.is_record)
            (type_0_no_bridge s space number type_0) (bars_are ∙ o))))

        climbed_as : (x : Climbed) → r ≡ x → answer packet (sent_of x) ≡ sent
        climbed_as x q = ap (λ (z : Climbed). answer packet (sent_of z)) (sym q) ∙ ap (answer packet) done ∙ sent_is

        pub sent_delivered : (owner bridges : ℕ) → r ≡ Arrives owner bridges
            → Delivered (record { owner = owner; bridges = bridges; packet = packet }) ≡ sent
        sent_delivered owner bridges q = climbed_as (Arrives owner bridges) q

        pub sent_to_host : (bridges : ℕ) → r ≡ Leaves bridges → Host bridges packet ≡ sent
        sent_to_host bridges q = climbed_as (Leaves bridges) q

        pub sent_refused : (n : ℕ) → r ≡ Stops n → Refused n ≡ sent
        sent_refused n q = climbed_as (Stops n) q

-- ## A packet over a sheet that passes its checks

module _ (packet : Packet) (s : List ℕ) (c : Checked s) (number : ℕ) (r : Option (Space × ℕ)) (e : r ≡ request_of packet) where
  request_as : (x : Option (Space × ℕ)) → r ≡ x → on_request number packet s x ≡ send_packet number packet s
  unfolding send_packet
  request_as x q = ap (on_request number packet s) (sym q ∙ e)

  pub no_request : r ≡ None → Refused 45 ≡ send_packet number packet s
  no_request q = request_as None q

  -- b tells whether the record is a type 0 function
  module _ (space : Space) (address : ℕ) (q : r ≡ Some (space, address)) (b : Bool) (told : Type0Told s number b) where
    pub no_start : b ≡ false → Refused 45 ≡ send_packet number packet s
    no_start n = ap (send_request packet s space address) (sym (told.no n space)) ∙ request_as (Some (space, address)) q

    pub from_type_0 : b ≡ true → (x : Sending) → x ≡ send_request packet s space address (start_answer space s number)
        → x ≡ send_packet number packet s
    from_type_0 y x f =
        f ∙ ap (send_request packet s space address) (sym (start_of_type_0 s c space number (told.yes y))) ∙ request_as (Some (space, address)) q

-- ## A header over a sheet

module _ (number : ℕ) (header s : List ℕ) (reading : Reading) (e : reading ≡ read_of header) where
  pub header_refused : (n m : ℕ) → reading ≡ NotRead n → m ≡ reading_number reading → Refused m ≡ sending_of number header s
  unfolding sending_of
  header_refused n m f g = ap Refused (g ∙ ap reading_number f) ∙ ap (λ (r : Reading). from_reading number r s) (sym f ∙ e)

  -- n is the sheet's number
  module _ (p : Packet) (f : reading ≡ Accepted p) (n : ℕ) (g : n ≡ sheet_number s) where
    header_accepted : from_sheet number p s ≡ sending_of number header s
    unfolding sending_of
    header_accepted = ap (λ (x : Reading). from_reading number x s) (sym f ∙ e)

    refused_by_sheet : ¬ (n ≡ 0) → Refused n ≡ from_sheet number p s
    unfolding from_sheet
    refused_by_sheet h = rw (← g, ne_eqb n 0 h)

    passed_by_sheet : n ≡ 0 → send_packet number p s ≡ from_sheet number p s
    unfolding from_sheet
    passed_by_sheet z = rw (← g, eq-eqb n 0 z)

    pub sheet_refused : ¬ (n ≡ 0) → Refused n ≡ sending_of number header s
    sheet_refused h = refused_by_sheet h ∙ header_accepted

    pub packet_sent : (r : Sending) → n ≡ 0 → r ≡ send_packet number p s → r ≡ sending_of number header s
    packet_sent r z q = q ∙ passed_by_sheet z ∙ header_accepted
