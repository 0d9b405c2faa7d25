-- The climb and the calls around it, one step each in the words of the code. Assumes nothing.
use Rattle.std.specs.Prelude.{◌≡◌, refl, List, ℕ, ◌+◌, ◌/◌, ◌<◌, length}
use Rattle.std.proofs.Common.{sym, ap₂, ◌∙◌}
use Rattle.std.proofs.Math.Path.{ap}
use borrow.Author.Tests.{eq-eqb, ne_eqb}
use Rattle.endian.specs.Endian.{Bytes}
use Rattle.packet.specs.declared.Packet.{Packet}
use Rattle.tlp.specs.declared.Reading.{Reading}
use Rattle.tlp.specs.declared.Reading.TheVariants.{Accepted, Refused as NotRead}
use Rattle.tlp.specs.Reading.{number_of as reading_number, read_of}
use Rattle.walk.specs.Tally as tallies
use Rattle.walk.specs.Walk.{Outcome, no_owner, contested, walk_from, walk_over}
use Rattle.walk.specs.Climb as climb
use Rattle.walk.specs.Climb.{Sent, arrives, leaves, stops, settle_up, go_up}
use Rattle.walk.specs.Climb.{sent_of as outcome_sent}
use Rattle.walk.proofs.ClimbLaws.{Falling, climb_step, further, walk_shift}
use Rattle.climb_ids.specs.ById.{nothing, sent_to_other, sent_up, sent_by_id}
use Rattle.climb_ids.proofs.ByIdLaws.{falling_unless, sent_climb, sent_own}
use Rattle.sheet.specs.Sheet.{sheet_number}
use Rattle.sheet.specs.Spaces.{nodes_of}
use Rattle.sheet.proofs.SheetLaws.{Checked, zero_of_checked, passes_of_zero}
use Rattle.claims.specs.declared.Claim.{Claim}
use Rattle.claims.specs.declared.Claim.TheVariants.{Bar, Window}
use Rattle.claims.specs.declared.Tally.{Tally}
use Rattle.claims.specs.declared.Tally.TheVariants.{Nothing, One, Several}
use Rattle.claims.specs.Claims.{tally_of}
use Rattle.route_arrival.specs.declared.Heading.{Heading}
use Rattle.route_arrival.specs.Arrival.{heading_of}
use Rattle.route.specs.declared.Walked.{Walked}
use Rattle.route_answer.specs.declared.Routing.{Routing}
use Rattle.route_answer.specs.Listed as routing
use Rattle.route.specs.Route.{outcome_of, root, route_packet}
use Rattle.route_sent.specs.declared.climb.Going.{Going}
use Rattle.route_sent.specs.declared.climb.Going.TheVariants.{ById, OnlyUp}
use Rattle.route_cards.specs.declared.Up.{Up}
use Rattle.route_cards.specs.declared.Up.TheVariants.{Host as ToHost, Across, Halts}
use Rattle.route_cards.specs.declared.Climbed.{Climbed}
use Rattle.route_sent.specs.declared.Fate.{Fate}
use Rattle.route_sent.specs.declared.Fate.TheVariants.{Refused}
use Rattle.route_sent.specs.declared.BothEnds.{BothEnds}
use Rattle.route_sent.specs.declared.BothEnds.TheVariants.{FromHost, FromFunction, Refused as NotSent}
use Rattle.route_sender.specs.declared.Sender.{Sender}
use Rattle.route_sender.specs.declared.Sender.TheVariants.{Host as HostSends, Function as FunctionSends}
use Rattle.route_sender.specs.Sender.{named_by, sender_of}
use Rattle.route_sent.specs.BothEnds.{answer, on_heading, from_function, from_sender, ends_of, from_sheet, from_reading, both_ends_of}
use Rattle.route_sent.specs.BothEnds.{on_room, listed_after}
use Rattle.route_sent.specs.Going.{tally_going, stays_going, up_going, climbed, IsSender, up_of, sent_of}

-- ## Down: document 01's walk, with the bridges crossed before it added

module _ (tally : ℕ → tallies.Tally) (bus crossed : ℕ) (w : Walked) (e : outcome_of w ≡ walk_from tally bus 0) where
  pub down_as : (x : Walked) → w ≡ x → outcome_sent (further crossed (outcome_of x)) ≡ outcome_sent (walk_from tally bus crossed)
  down_as x q =
      ap (λ (o : Outcome). outcome_sent (further crossed o)) (ap outcome_of (sym q) ∙ e) ∙ ap outcome_sent (sym (walk_shift tally bus crossed))

pub down_nowhere : (bus crossed : ℕ) → stops no_owner ≡ outcome_sent (walk_from nothing bus crossed)
unfolding walk_from walk_over
down_nowhere bus crossed = refl

-- ## The climb

module _ (going : Going) (s : List ℕ) (bytes : Bytes s) (c : Checked s) (top : ℕ) where
  falling : Falling (up_going going s top)
  falling = falling_unless (stays_going going) (nodes_of s) top (passes_of_zero s bytes (zero_of_checked s c)).bridges_rise

  -- t is the tally of the bus
  module _ (bus crossed : ℕ) (t : Tally) (e : tally_of t ≡ tally_going going s bus) where
    on_bus_lem : (x : Tally) → t ≡ x → (u : climb.Up) → up_going going s top bus ≡ u
        → climbed going s top bus crossed
        ≡ settle_up (tally_of x) crossed (λ b. walk_from (tally_going going s) b (crossed + 1))
        (go_up u crossed (λ number b. climbed going s top b (crossed + 1)))
    on_bus_lem x q u f = climb_step falling (tally_going going s) bus crossed (tally_of x) u (sym e ∙ ap tally_of q) f

    pub climb_several : t ≡ Several → stops contested ≡ climbed going s top bus crossed
    climb_several q = sym (on_bus_lem Several q _ refl)

    pub climb_bar : (claim : Claim) → t ≡ One claim → (number : ℕ) → claim ≡ Bar number
        → arrives number crossed ≡ climbed going s top bus crossed
    climb_bar claim q number f = sym (on_bus_lem (One (Bar number)) (q ∙ ap One f) _ refl)

    module _ (claim : Claim) (q : t ≡ One claim) (number secondary : ℕ) (f : claim ≡ Window number secondary) where
      pub climb_window : (o : Sent) → o ≡ outcome_sent (walk_from (tally_going going s) secondary (crossed + 1))
          → o ≡ climbed going s top bus crossed
      climb_window o r = r ∙ sym (on_bus_lem (One (Window number secondary)) (q ∙ ap One f) _ refl)

    -- u is the way up
    module _ (q : t ≡ Nothing) (u : Up) (f : up_of u ≡ up_going going s top bus) where
      up_as : (x : Up) → u ≡ x → climbed going s top bus crossed
          ≡ go_up (up_of x) crossed (λ number b. climbed going s top b (crossed + 1))
      up_as x r = on_bus_lem Nothing q (up_of x) (sym f ∙ ap up_of r)

      pub climb_host : u ≡ ToHost → leaves crossed ≡ climbed going s top bus crossed
      climb_host r = sym (up_as ToHost r)

      pub climb_halts : (n : ℕ) → u ≡ Halts n → stops n ≡ climbed going s top bus crossed
      climb_halts n r = sym (up_as (Halts n) r)

      pub climb_across : (number own : ℕ) → u ≡ Across number own → (o : Sent) → o ≡ climbed going s top own (crossed + 1)
          → o ≡ climbed going s top bus crossed
      climb_across number own r o g = g ∙ sym (up_as (Across number own) r)

      -- the bus number falls at the bridge
      pub bus_falls : (number own : ℕ) → u ≡ Across number own → own < bus
      bus_falls number own r = falling.falls bus number own (sym f ∙ ap up_of r)

-- ## From a function

module _ (host_id : ℕ) (p : Packet) (s : List ℕ) (number own id : ℕ) where
  pub hosts_id : id ≡ host_id → (f : Fate) → f ≡ answer p (sent_up (nodes_of s) (root s) own)
      → f ≡ answer p (sent_by_id host_id (nodes_of s) (root s) number own id)
  unfolding sent_by_id
  hosts_id e f is = rw (eq-eqb id host_id e) is

  pub not_hosts_id : ¬ (id ≡ host_id) → (f : Fate) → f ≡ answer p (sent_to_other (nodes_of s) (root s) number own id)
      → f ≡ answer p (sent_by_id host_id (nodes_of s) (root s) number own id)
  unfolding sent_by_id
  not_hosts_id e f is = rw (ne_eqb id host_id e) is

module _ (p : Packet) (s : List ℕ) (bytes : Bytes s) (zero : sheet_number s ≡ 0) (number own id : ℕ) (sender : IsSender s number own) where
  pub own_id : id ≡ own → Refused no_owner ≡ answer p (sent_to_other (nodes_of s) (root s) number own id)
  own_id e =
      let ps = passes_of_zero s bytes zero in
      ap (answer p) (sym (sent_own (nodes_of s) ps.bridges_rise ps.distinct_ids (root s) number own id sender e))

  pub climbed_by_id : ¬ (id ≡ own) → (top bus : ℕ) → top ≡ root s → bus ≡ own / 256
      → (r : Climbed) → sent_of r ≡ climbed (ById id) s top bus 0 → (f : Fate) → f ≡ answer p (sent_of r)
      → f ≡ answer p (sent_to_other (nodes_of s) (root s) number own id)
  climbed_by_id other top bus at on r done f is =
      let ps = passes_of_zero s bytes zero in
      is
      ∙ ap (answer p) (done
      ∙ ap₂ (λ (t b : ℕ). climbed (ById id) s t b 0) at on
      ∙ sym (sent_climb (nodes_of s) ps.bridges_rise ps.distinct_ids (root s) number own id sender other))

pub climbed_up : (p : Packet) (s : List ℕ) (own top bus : ℕ) → top ≡ root s → bus ≡ own / 256
    → (r : Climbed) → sent_of r ≡ climbed OnlyUp s top bus 0 → (f : Fate) → f ≡ answer p (sent_of r)
    → f ≡ answer p (sent_up (nodes_of s) (root s) own)
unfolding sent_up
climbed_up p s own top bus at on r done f is =
    is ∙ ap (answer p) (done ∙ ap₂ (λ (t b : ℕ). climbed OnlyUp s t b 0) at on)

module _ (host_id number own : ℕ) (p : Packet) (s : List ℕ) (h : Heading) (e : h ≡ heading_of p) where
  pub headed_as : (x : Heading) → h ≡ x → on_heading host_id number own p s x ≡ from_function host_id number own p s
  unfolding from_function
  headed_as x q = ap (on_heading host_id number own p s) (sym q ∙ e)

-- ## A packet over a sheet that passes its checks

module _ (host_id : ℕ) (p : Packet) (s : List ℕ) (r : Sender) (e : r ≡ sender_of host_id p s) where
  sent_as : (x : Sender) → r ≡ x → from_sender host_id p s x ≡ ends_of host_id p s
  unfolding ends_of
  sent_as x q = ap (from_sender host_id p s) (sym q ∙ e)

  pub sent_by_host : r ≡ HostSends → (x : Routing) → x ≡ route_packet p s → FromHost x ≡ ends_of host_id p s
  sent_by_host q x f = ap FromHost f ∙ sent_as HostSends q

  pub sent_by_function : (number : ℕ) → r ≡ FunctionSends number → (own : ℕ) → own ≡ named_by p
      → (x : Fate) → x ≡ from_function host_id number own p s → FromFunction number x ≡ ends_of host_id p s
  sent_by_function number q own named x f =
      ap (FromFunction number) (f ∙ ap (λ (n : ℕ). from_function host_id number n p s) named) ∙ sent_as (FunctionSends number) q

-- ## A header over a sheet

module _ (host_id : ℕ) (header s : List ℕ) (reading : Reading) (e : reading ≡ read_of header) where
  pub header_refused : (n m : ℕ) → reading ≡ NotRead n → m ≡ reading_number reading → NotSent m ≡ both_ends_of host_id header s
  unfolding both_ends_of
  header_refused n m f g = ap NotSent (g ∙ ap reading_number f) ∙ ap (λ (r : Reading). from_reading host_id r s) (sym f ∙ e)

  -- n is the sheet's number
  module _ (p : Packet) (f : reading ≡ Accepted p) (n : ℕ) (g : n ≡ sheet_number s) where
    header_accepted : from_sheet host_id p s ≡ both_ends_of host_id header s
    unfolding both_ends_of
    header_accepted = ap (λ (x : Reading). from_reading host_id x s) (sym f ∙ e)

    refused_by_sheet : ¬ (n ≡ 0) → NotSent n ≡ from_sheet host_id p s
    unfolding from_sheet
    refused_by_sheet h = rw (← g, ne_eqb n 0 h)

    passed_by_sheet : n ≡ 0 → ends_of host_id p s ≡ from_sheet host_id p s
    unfolding from_sheet
    passed_by_sheet z = rw (← g, eq-eqb n 0 z)

    pub sheet_refused : ¬ (n ≡ 0) → NotSent n ≡ both_ends_of host_id header s
    sheet_refused h = refused_by_sheet h ∙ header_accepted

    pub packet_ends : (r : BothEnds) → n ≡ 0 → r ≡ ends_of host_id p s → r ≡ both_ends_of host_id header s
    packet_ends r z q = q ∙ passed_by_sheet z ∙ header_accepted

-- ## A broadcast's list

-- x is the answer without the list, as told
module _ (whole x : BothEnds) (is : x ≡ whole) (list : List ℕ) where
  -- what was answered, and what the slice holds after
  abbrev pub Listed : BothEnds → List ℕ → Type 0
  Listed y after = (y ≡ on_room whole (length list)) × (after ≡ listed_after y list)

  on_room_lem : (y : BothEnds) → x ≡ y → on_room y (length list) ≡ on_room whole (length list)
  on_room_lem y e = ap (λ (z : BothEnds). on_room z (length list)) (sym e ∙ is)

  pub listed_host : (r : Routing) → x ≡ FromHost r
      → (y : Routing) (after : List ℕ) → (y ≡ routing.on_room r (length list)) × (after ≡ routing.listed_after y list)
      → Listed (FromHost y) after
  listed_host r e y after (f, g) = (ap FromHost f ∙ on_room_lem (FromHost r) e, g)

  pub listed_function : (number : ℕ) (f : Fate) → x ≡ FromFunction number f → Listed (FromFunction number f) list
  listed_function number f e = (on_room_lem (FromFunction number f) e, refl)

  pub listed_refused : (n : ℕ) → x ≡ NotSent n → Listed (NotSent n) list
  listed_refused n e = (on_room_lem (NotSent n) e, refl)
