-- A line with both ends has at most 51 bytes, and a header is labelled by its front. Assumes nothing.
use Rattle.std.specs.Prelude.{ℕ, ◌+◌, ◌≤◌, ◌<◌, ◌≡◌, length, take}
use Rattle.std.proofs.Common.{sym, ap, ◌∙◌}
use mathlib.Core.List.{List, [], ◌∷◌, ◌++◌, append_assoc}
use native.Mathlib.Omega.{arith}
use Rattle.std.proofs.Math.ListN.{length-append}
use borrow.Author.Tests.{eq-eqb, ne_eqb}
use Rattle.text.specs.Text.{Put, ascii, decimal}
use Rattle.text.specs.TextLaws.{put_append}
use Rattle.packet.specs.declared.Packet.{Packet}
use Rattle.packet.specs.Fields.{kind_of}
use Rattle.packet_text.specs.Labels.{kind_text, named}
use Rattle.tlp.specs.declared.Reading.{Reading}
use Rattle.tlp.specs.declared.Reading.TheVariants.{Accepted, Refused as NotRead}
use Rattle.tlp.specs.Reading.{read_of}
use Rattle.tlp.specs.FrontLaws.{read_front}
use Rattle.sheet.specs.Sheet.{sheet_number}
use Rattle.route_answer.specs.declared.Routing.{Routing}
use Rattle.route_answer.specs.declared.Routing.TheVariants.{Delivered as RoutedTo, Broadcast, Port as RoutedToPort, Refused as NotRouted}
use Rattle.route_sent.specs.declared.Fate.{Fate}
use Rattle.route_sent.specs.declared.Fate.TheVariants.{Delivered, Host, Port, Refused}
use Rattle.route_sent.specs.declared.BothEnds.{BothEnds}
use Rattle.route_sent.specs.declared.BothEnds.TheVariants.{FromHost, FromFunction, Refused as NotSent}
use Rattle.route_sent.specs.BothEnds.{ends_of, from_sheet, from_reading, both_ends_of}
use Rattle.trace_label.specs.Label.{kind_read}
use Rattle.trace_line.specs.Bounds.{SmallRouting}
use Rattle.trace_line.specs.LineLaws.{decimal_le_20, decimal_le_5, decimal_le_3, kind_le}
use Rattle.trace_ends.specs.Ends.{routed_text, fate_text, ends_text, label_ends, line_ends}
use Rattle.trace_ends.specs.Bounds.{SmallFate, SmallEnds, small_ends}

-- ## Lengths

routed_le : (r : Routing) → SmallRouting r → length (routed_text r) ≤ 12
unfolding ascii
routed_le (RoutedTo d) s = omega (arith, decimal_le_5 d.owner s)
routed_le (Broadcast functions p) s = omega arith
routed_le (RoutedToPort p) s = omega arith
routed_le (NotRouted n) s = omega (arith, decimal_le_3 n s)

fate_le : (f : Fate) → SmallFate f → length (fate_text f) ≤ 12
unfolding ascii
fate_le (Delivered d) s = omega (arith, decimal_le_5 d.owner s)
fate_le (Host bridges p) s = omega arith
fate_le (Port p) s = omega arith
fate_le (Refused n) s = omega (arith, decimal_le_3 n s)

ends_le : (e : BothEnds) → SmallEnds e → length (ends_text e) ≤ 23
unfolding ascii
ends_le (FromHost r) s = omega (arith, routed_le r s)
ends_le (FromFunction number f) s =
    omega (arith, length-append (named " from " number) (fate_text f), decimal_le_5 number s.0, fate_le f s.1)
ends_le (NotSent n) s = omega (arith, decimal_le_3 n s)

module _ (host_id : ℕ) (sheet : List ℕ) where
  label_le : (header : List ℕ) → length (label_ends host_id sheet header) ≤ 30
  unfolding label_ends ascii
  label_le header =
      omega (
        arith,
        length-append (kind_read (read_of header)) (ends_text (both_ends_of host_id header sheet)),
        kind_le (read_of header),
        ends_le (both_ends_of host_id header sheet) (small_ends host_id header sheet),
      )

  pub line_ends_le : (n : ℕ) (header : List ℕ) → n < 18446744073709551616 → length (line_ends host_id sheet n header) ≤ 51
  unfolding line_ends ascii
  line_ends_le n header h =
      omega (
        arith,
        decimal_le_20 n h,
        label_le header,
        length-append (decimal n) (label_ends host_id sheet header ++ (10 ∷ [])),
        length-append (label_ends host_id sheet header) (10 ∷ []),
      )

-- ## In the words of the code

module _ (host_id : ℕ) (p : Packet) (sheet : List ℕ) (n : ℕ) (number : n ≡ sheet_number sheet) where
  pub sheet_refused : (n ≡ 0 → ⊥) → NotSent n ≡ from_sheet host_id p sheet
  unfolding from_sheet
  sheet_refused h = rw (← number, ne_eqb n 0 h)

  pub sheet_passed : n ≡ 0 → (r : BothEnds) → r ≡ ends_of host_id p sheet → r ≡ from_sheet host_id p sheet
  unfolding from_sheet
  sheet_passed h r e = rw (← number, eq-eqb n 0 h) e

module _ (host_id : ℕ) (sheet header : List ℕ) (reading : Reading) (is : reading ≡ read_of header) where
  label_read : (p : Packet) → reading ≡ Accepted p → (e : BothEnds) → e ≡ from_sheet host_id p sheet
      → (ascii " " ++ kind_text (kind_of p)) ++ ends_text e ≡ label_ends host_id sheet header
  unfolding label_ends both_ends_of
  label_read p q e ends =
      append_assoc (ascii " ") (kind_text (kind_of p)) (ends_text e) ∙ rw (sym is ∙ q, ends)

  pub label_put : (p : Packet) → reading ≡ Accepted p → (e : BothEnds) → e ≡ from_sheet host_id p sheet
      → {o o₁ o₂ : List ℕ} {at next r : ℕ} → Put o at (ascii " " ++ kind_text (kind_of p)) o₁ next → Put o₁ next (ends_text e) o₂ r
      → Put o at (label_ends host_id sheet header) o₂ r
  label_put p q e ends kind text = rw (← label_read p q e ends) (put_append kind text)

  pub label_refused : (n : ℕ) → reading ≡ NotRead n → ascii " - refused " ++ decimal n ≡ label_ends host_id sheet header
  unfolding label_ends both_ends_of ascii
  label_refused n q = rw (sym is ∙ q)

-- ## The front

pub ends_front : (host_id : ℕ) (header sheet : List ℕ) → both_ends_of host_id (take 16 header) sheet ≡ both_ends_of host_id header sheet
unfolding both_ends_of
ends_front host_id header sheet = ap (λ (r : Reading). from_reading host_id r sheet) (read_front header)

-- a header over 16 bytes has the line of its front
pub line_ends_front : (host_id : ℕ) (sheet : List ℕ) (n : ℕ) (header : List ℕ)
    → line_ends host_id sheet n (take 16 header) ≡ line_ends host_id sheet n header
unfolding line_ends label_ends
line_ends_front host_id sheet n header = rw (read_front header, ends_front host_id header sheet)
