-- A record number that no sheet has is answered as 0 is, which is no record either: the header's number, the sheet's, 45. Assumes nothing.
use Rattle.std.specs.Prelude.{ℕ, ◌<◌, ◌≡◌, refl, Bool, true, false, List, eqb}
use Rattle.std.proofs.Common.{arith, sym, ◌∙◌, eqb-true}
use Rattle.std.proofs.lemmas.Bool.{eqb-false}
use Rattle.packet.specs.declared.Packet.{Packet}
use Rattle.tlp.specs.declared.Reading.{Reading}
use Rattle.tlp.specs.declared.Reading.TheVariants.{Accepted, Refused}
use Rattle.tlp.specs.Reading.{read_of}
use Rattle.records.specs.Limits.{most_functions}
use Rattle.sheet.specs.Sheet.{sheet_number}
use Rattle.sheet.proofs.SheetLaws.{checked_of_zero}
use Rattle.route_cards.specs.Sending.{sending_of}
use Rattle.route_cards.specs.RequestLaws.{header_first, sheet_next, no_start_45}

pub past_records : (number : ℕ) (header s : List ℕ) → most_functions < number → sending_of 0 header s ≡ sending_of number header s
past_records number header s past = by_reading (read_of header) refl
  where
    by_sheet : (p : Packet) → read_of header ≡ Accepted p → (b : Bool) → eqb (sheet_number s) 0 ≡ b
        → sending_of 0 header s ≡ sending_of number header s
    by_sheet p read true e =
        let passes : sheet_number s ≡ 0 = eqb-true _ _ e in
        no_start_45 0 header s p read passes (λ type_0. omega (arith, type_0.is_record.from_1))
        ∙ sym (no_start_45 number header s p read passes
        (λ type_0. omega (arith, past, type_0.is_record.in_sheet, (checked_of_zero s passes).count)))
    by_sheet p read false e =
        let fails : ¬ (sheet_number s ≡ 0) = eqb-false _ _ e in
        sheet_next 0 header s p read fails ∙ sym (sheet_next number header s p read fails)

    by_reading : (r : Reading) → read_of header ≡ r → sending_of 0 header s ≡ sending_of number header s
    by_reading (Refused n) read = header_first 0 header s n read ∙ sym (header_first number header s n read)
    by_reading (Accepted p) read = by_sheet p read (eqb (sheet_number s) 0) refl
