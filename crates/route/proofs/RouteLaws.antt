-- The walk and the checks before it, one step each in the words of the code. Assumes nothing.
use Rattle.std.specs.Prelude.{◌≡◌, ℕ, suc, ◌+◌, ◌/◌, ◌<◌, ◌≤◌}
use Rattle.std.proofs.Math.Path.{refl, sym, ap}
use Rattle.std.proofs.Common.{◌∙◌, suc-ne-zero, arith}
use mathlib.Core.List.{List, [], ◌∷◌}
use Rattle.std.proofs.Math.ListN.{length}
use borrow.Author.Tests.{eq-eqb, ne_eqb}
use Rattle.endian.specs.Endian.{Bytes}
use Rattle.packet.specs.declared.Packet.{Packet}
use Rattle.tlp.specs.declared.Reading.{Reading}
use Rattle.tlp.specs.declared.Reading.TheVariants.{Accepted, Refused as NotRead}
use Rattle.tlp.specs.Reading.{number_of as reading_number, read_of}
use Rattle.walk.specs.Registers.{root_of}
use Rattle.walk.proofs.TallyLaws.{rising_of_bridges}
use Rattle.walk.specs.Walk.{Outcome, delivered, refused, settle, Rising}
use Rattle.walk.proofs.WalkLaws.{walk_step}
use Rattle.walk.proofs.IdsLaws.{rising_by_id}
use Rattle.sheet_record.specs.Places.{record_size}
use Rattle.sheet_record.specs.Entry.{Entry, entry_of, bus_of}
use Rattle.sheet.specs.Sheet.{entries_of, part_at, sheet_length, sheet_number}
use Rattle.sheet.proofs.IndexLaws.{record_fits, length_part, entries_index}
use Rattle.sheet.proofs.SheetLaws.{Checked, zero_of_checked, passes_of_zero}
use Rattle.sheet.specs.Spaces.{nodes_from, nodes_of, registers_of, enabled_of}
use Rattle.claims.specs.declared.Aim.{Aim}
use Rattle.claims.specs.declared.Aim.TheVariants.{Address, Id}
use Rattle.claims.specs.declared.Claim.{Claim}
use Rattle.claims.specs.declared.Claim.TheVariants.{Bar, Window}
use Rattle.claims.specs.declared.Tally.{Tally}
use Rattle.claims.specs.declared.Tally.TheVariants.{Nothing, One, Several}
use Rattle.claims.specs.Claims.{tally_of, tally_for}
use Rattle.route_answer.specs.declared.Routing.{Routing}
use Rattle.route_answer.specs.declared.Routing.TheVariants.{Delivered, Refused}
use Rattle.route_answer.specs.Routing.{arrives, answer, route_over}
use Rattle.route.specs.declared.Walked.{Walked}
use Rattle.route.specs.declared.Walked.TheVariants.{Delivered as WalkedTo, Refused as WalkRefused}
use Rattle.route.specs.Route.{outcome_of, walked, root, from42, route_packet, from_sheet, from_reading, route_of}

-- ## The walk

-- Check 27: a window leads to a greater bus number, by address and by ID.
pub rising_for : (aim : Aim) (s : List ℕ) → Bytes s → Checked s → Rising (tally_for aim s)
rising_for (Address space address) s b c =
    let p = passes_of_zero s b (zero_of_checked s c) in
    rising_of_bridges (enabled_of space s) (registers_of space s) address (rw (p.nodes_are space) p.bridges_rise)
rising_for (Id id) s b c =
    let p = passes_of_zero s b (zero_of_checked s c) in
    rising_by_id (nodes_of s) p.bridges_rise p.distinct_ids (id / 256) _

-- t is the tally of the bus
module _ (aim : Aim) (s : List ℕ) (bytes : Bytes s) (c : Checked s) (bus crossed : ℕ) (small : bus < 256) (t : Tally)
    (e : tally_of t ≡ tally_for aim s bus) where
  on_bus_lem : (u : Tally) → t ≡ u → walked aim s bus crossed ≡ settle (tally_of u) crossed (λ b. walked aim s b (crossed + 1))
  on_bus_lem u q = walk_step (rising_for aim s bytes c) bus crossed (tally_of u) small (sym e ∙ ap tally_of q)

  pub walk_nothing : t ≡ Nothing → refused 40 ≡ walked aim s bus crossed
  walk_nothing q = sym (on_bus_lem Nothing q)

  pub walk_several : t ≡ Several → refused 41 ≡ walked aim s bus crossed
  walk_several q = sym (on_bus_lem Several q)

  module _ (claim : Claim) (q : t ≡ One claim) where
    pub walk_bar : (number : ℕ) → claim ≡ Bar number → delivered number crossed ≡ walked aim s bus crossed
    walk_bar number f = sym (on_bus_lem (One (Bar number)) (q ∙ ap One f))

    module _ (number secondary : ℕ) (f : claim ≡ Window number secondary) where
      pub walk_window : (o : Outcome) → o ≡ walked aim s secondary (crossed + 1) → o ≡ walked aim s bus crossed
      walk_window o r = r ∙ sym (on_bus_lem (One (Window number secondary)) (q ∙ ap One f))

      -- the bus number rises at the bridge
      pub bus_rises : (bus < secondary) × (secondary < 256)
      bus_rises = (rising_for aim s bytes c).rises bus number secondary (sym e ∙ ap tally_of (q ∙ ap One f))

-- w is where the walk ended
module _ (p : Packet) (w : Walked) (o : Outcome) (e : outcome_of w ≡ o) where
  answered_as : (x : Walked) → w ≡ x → answer p (outcome_of x) ≡ answer p o
  answered_as x f = ap (λ (y : Walked). answer p (outcome_of y)) (sym f) ∙ ap (answer p) e

  pub walk_delivered : (number crossed : ℕ) → w ≡ WalkedTo number crossed → (r : Routing) → r ≡ Delivered (arrives p number crossed)
      → r ≡ answer p o
  walk_delivered number crossed f r g = g ∙ answered_as (WalkedTo number crossed) f

  pub walk_refused : (number : ℕ) → w ≡ WalkRefused number → Refused number ≡ answer p o
  walk_refused number f = answered_as (WalkRefused number) f

-- ## The root bus

-- m records
module _ (s : List ℕ) (m : ℕ) (count : m ≡ length (entries_of s)) where
  pub root_of_none : m ≡ 0 → 0 ≡ root s
  unfolding nodes_from
  root_of_none z = go (entries_of s) (sym count ∙ z)
    where
      go : (es : List Entry) → length es ≡ 0 → 0 ≡ root_of (nodes_from 1 es)
      go [] e = refl
      go (x ∷ es) e = absurd (suc-ne-zero _ e)

  module _ (c : Checked s) (some : ¬ (m ≡ 0)) where
    first_inside : 0 < length (entries_of s)
    first_inside = omega arith

    pub first_fits : sheet_length (0 + 1) ≤ length s
    first_fits = record_fits s c.framed 0 first_inside

    -- f is the first record's part
    module _ (f : List ℕ) (first : f ≡ part_at s 0) where
      pub first_sized : length f ≡ record_size
      first_sized = ap length first ∙ length_part s 0 first_fits

      pub root_of_first : (top : ℕ) → top ≡ bus_of f → top ≡ root s
      unfolding nodes_from entry_of
      root_of_first top own =
          own ∙ ap bus_of first
          ∙ sym (ap (λ (es : List Entry). root_of (nodes_from 1 es)) (entries_index s c.framed 0 first_inside))

-- ## A packet over a sheet that passes its checks

pub length_nodes : (k : ℕ) (es : List Entry) → length (nodes_from k es) ≡ length es
unfolding nodes_from
length_nodes k [] = refl
length_nodes k (e ∷ es) = ap suc (length_nodes (k + 1) es)

pub packet_over : (p : Packet) (s : List ℕ) → route_packet p s
    ≡ route_over (length (nodes_of s)) (root s) (λ aim. walked aim s (root s) 0) p
unfolding route_packet from42
packet_over p s = refl

-- with m records and a root bus
pub over_sheet_lem : (p : Packet) (s : List ℕ) (m top : ℕ) → m ≡ length (entries_of s) → top ≡ root s
    → route_over m top (λ aim. walked aim s top 0) p ≡ route_packet p s
over_sheet_lem p s m top count first =
    ap (λ (n : ℕ). route_over n top (λ aim. walked aim s top 0) p) (count ∙ sym (length_nodes 1 (entries_of s)))
    ∙ ap (λ (b : ℕ). route_over (length (nodes_of s)) b (λ aim. walked aim s b 0) p) first
    ∙ sym (packet_over p s)

-- ## A header over a sheet

module _ (header s : List ℕ) (reading : Reading) (e : reading ≡ read_of header) where
  pub header_refused : (n m : ℕ) → reading ≡ NotRead n → m ≡ reading_number reading → Refused m ≡ route_of header s
  unfolding route_of
  header_refused n m f g = ap Refused (g ∙ ap reading_number f) ∙ ap (λ (r : Reading). from_reading r s) (sym f ∙ e)

  -- n is the sheet's number
  module _ (p : Packet) (f : reading ≡ Accepted p) (n : ℕ) (g : n ≡ sheet_number s) where
    header_accepted : from_sheet p s ≡ route_of header s
    unfolding route_of
    header_accepted = ap (λ (x : Reading). from_reading x s) (sym f ∙ e)

    refused_by_sheet : ¬ (n ≡ 0) → Refused n ≡ from_sheet p s
    unfolding from_sheet
    refused_by_sheet h = rw (← g, ne_eqb n 0 h)

    passed_by_sheet : n ≡ 0 → route_packet p s ≡ from_sheet p s
    unfolding from_sheet
    passed_by_sheet z = rw (← g, eq-eqb n 0 z)

    pub sheet_refused : ¬ (n ≡ 0) → Refused n ≡ route_of header s
    sheet_refused h = refused_by_sheet h ∙ header_accepted

    pub packet_routed : (r : Routing) → n ≡ 0 → r ≡ route_packet p s → r ≡ route_of header s
    packet_routed r z q = q ∙ passed_by_sheet z ∙ header_accepted
