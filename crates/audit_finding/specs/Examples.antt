-- Worked examples of findings, as one table under one claim: P10's sheet, and P10's spoiled under each number. Assumes nothing.
use Rattle.std.specs.Prelude.{◌≡◌, refl, ℕ, set, take}
use mathlib.Core.List.{List, [], ◌∷◌, ◌++◌, flat_map}
use Rattle.endian.specs.Endian.{be, be_bytes, le}
use Rattle.bar.specs.Bar.{size_from, sized, io_slot, narrow_slot, wide_slot, slot_here, slots}
use Rattle.bar.specs.Values.{is_bar_value, values_fit}
use Rattle.window.specs.Window.{closed, start, stop, is_nibbled}
use Rattle.records.specs.Records.{next_of, parts_over, parts_of}
use Rattle.lists.specs.Lists.{All, keep, any}
use Rattle.board_record.specs.Host.{host_of_part, pool_wrong, host_wrong}
use Rattle.sheet_record.specs.Entry.{dwords, window_of, entry_of}
use Rattle.sheet.specs.Sheet.{all_sized, is_framed, entries_from, all_zero, read_backs_wrong, breaks, any_breaks, has_id, id_twice}
use Rattle.sheet.specs.Sheet.{from29, from25, from28, from27, from24, from22, from20, from21, sheet_number}
use Rattle.sheet.specs.Examples.{p10, p10_bridge, p10_end, typed, sunk, doubled, shifted, nibbled}
use Rattle.sheet_ranges.specs.Ranges as rule
use Rattle.sheet_ranges.specs.Ranges.{ranges_of}
use Rattle.audit_rule.specs.Audit.{any_pair, not_tree, ranges_above, not_nested, not_disjoint, from52, from51, from50, from_sheet, from26}
use Rattle.audit_rule.specs.Audit.{number_by, audit_number}
use Rattle.audit_rule.specs.Examples.{host, host_buses, moved, beyond, sibling, disabled}
use Rattle.finding.specs.declared.Finding.{Finding}
use Rattle.finding.specs.First.{first}
use Rattle.audit_finding.specs.Placed.{numbered_from, bars_from, placed_of, placed_in}
use Rattle.audit_finding.specs.Fails.{least_met, fails}
use Rattle.audit_finding.specs.Where.{slot_marks, rest_marks, read_back_marks, least_meeting, place_in, other_of}
use Rattle.audit_finding.specs.Finding.{under_host, check_of, first_failing, finding_of}

pub record Row : Type 0 where
  pub for : List ℕ
  pub sheet : List ℕ
  pub finding : Finding

abbrev pub Holds : Row → Type 0
Holds r = finding_of r.for r.sheet ≡ r.finding

-- a number, a record and its place, another record and its place
abbrev pub row : List ℕ → List ℕ → ℕ → ℕ → ℕ → ℕ → ℕ → Row
row host s n k p j q =
    record {
      for = host;
      sheet = s;
      finding = record { number = n; party = record { number = k; place = p }; other = record { number = j; place = q } };
    }

-- P10's function on the root bus, as device 2
abbrev pub upstairs : List ℕ
upstairs = set (set p10_end 2 0) 3 16

abbrev pub examples : List Row
examples =
    row host p10 0 0 0 0 0
    -- of the host record, or of the sheet as a whole: nobody
    ∷ row (take 29 host) p10 20 0 0 0 0
    ∷ row (host_buses 1 0) p10 26 0 0 0 0
    ∷ row host (take 184 p10) 20 0 0 0 0
    -- the bridge's header type, its bus registers, its ID and the function's
    ∷ row host (typed (sunk p10)) 24 1 10 0 0
    ∷ row host (sunk (doubled p10)) 27 1 9 0 0
    ∷ row host (doubled (shifted p10)) 28 1 10 2 10
    -- the function's first BAR; a value in its unused slot 4; the last of the bridge's last four read-backs
    ∷ row host (shifted (nibbled p10)) 25 2 0 0 0
    ∷ row host (set p10 130 1) 25 2 4 0 0
    ∷ row host (set p10 92 1) 25 1 5 0 0
    -- the bridge's low window, and its I/O window
    ∷ row host (nibbled p10) 29 1 6 0 0
    ∷ row host (set p10 33 0x41) 29 1 8 0 0
    -- the first record off the host's first bus; a bridge's buses past its last; a bus that no bridge leads to
    ∷ row (host_buses 1 255) p10 50 1 10 0 0
    ∷ row (host_buses 0 0) p10 50 1 9 0 0
    ∷ row host (moved 2 (beyond p10)) 50 2 10 0 0
    -- siblings; the same two bridges after a function below both
    ∷ row host (1 ∷ p10_bridge ++ sibling 1 1 ++ p10_end) 50 1 9 2 9
    ∷ row host (1 ∷ upstairs ++ p10_end ++ p10_bridge ++ sibling 1 1) 50 2 10 3 9
    -- a BAR past the window above
    ∷ row host (beyond p10) 51 2 0 0 0
    -- a disabled function's BARs over another's; windows of siblings
    ∷ row host (p10 ++ disabled) 52 2 0 3 0
    ∷ row host (1 ∷ p10_bridge ++ sibling 2 2) 52 1 6 2 6
    ∷ []

pub examples_hold : All Holds examples
unfolding finding_of first_failing check_of under_host place_in other_of least_meeting read_back_marks rest_marks slot_marks fails least_met placed_in
    placed_of bars_from numbered_from first flat_map audit_number number_by from26 from_sheet from50 from51 from52 not_tree not_nested not_disjoint
    any_pair any
    keep ranges_of ranges_above rule.bars_from host_of_part host_wrong pool_wrong be_bytes sheet_number from21 from20 from22 from24 from27 from28
    from25 from29 is_framed all_sized entries_from breaks any_breaks all_zero read_backs_wrong has_id id_twice entry_of dwords window_of be le next_of
    parts_over parts_of closed start stop is_nibbled is_bar_value values_fit slots slot_here wide_slot narrow_slot io_slot sized size_from
examples_hold = (
  refl,
  (
    refl,
    (
      refl,
      (
        refl,
        (
          refl,
          (
            refl,
            (
              refl,
              (
                refl,
                (
                  refl,
                  (refl, (refl, (refl, (refl, (refl, (refl, (refl, (refl, (refl, (refl, (refl, tt))))))))))),
                ),
              ),
            ),
          ),
        ),
      ),
    ),
  ),
)
