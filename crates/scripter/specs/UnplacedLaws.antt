-- What the bus part and the command part of a script write of a record: its bus numbers, its ID and its command word, wherever it is placed.
-- Assumes nothing.
use Rattle.std.specs.Prelude.{◌≡◌, Bool, ℕ, suc, ◌+◌, ◌*◌, ◌/◌, ◌%◌, ◌≤◌, length}
use Rattle.std.proofs.Math.Path.{refl}
use Rattle.std.proofs.Common.{◌∙◌}
use Rattle.std.proofs.Math.Bool.{true, false, cond}
use mathlib.Core.List.{List, [], ◌∷◌, ◌++◌}
use Rattle.endian.specs.Endian.{be, be_bytes, le_bytes}
use Rattle.endian.specs.EndianLaws.{be_be_bytes}
use Rattle.bar.specs.Header.{is_bridge as is_bridge_type}
use Rattle.board_record.specs.declared.Function.{Function}
use Rattle.board_record.specs.Function.{is_bridge}
use Rattle.sheet_record.specs.Entry.{id_of}
use Rattle.sheet_bytes.specs.Layout.{Planned, planned_of, dword_bytes, bridge_bytes, body_bytes, common_bytes, config_bytes, part_bytes}
use Rattle.sheet_bytes.proofs.ReadBack.{header_of_part_bytes}
use Rattle.plan_sizing.specs.Memo.{laid_at}
use Rattle.plan_pass.specs.Step.{number_in, bus_in, NumberFits, leaf_registers, bridge_registers, registers_of}
use Rattle.script_writes.specs.declared.Boot.{Boot}
use Rattle.script_writes.specs.Writes.{Write, three_bytes, two_bytes, bus_writes, command_writes}

-- ## Of a planned record

module _ (k : ℕ) (p : Planned) where
  id_planned_lem : id_of (part_bytes p) ≡ p.entry.id % 65536
  unfolding part_bytes be be_bytes
  id_planned_lem = be_be_bytes 2 p.entry.id

  command_planned : command_writes k (part_bytes p)
      ≡ record {
        number = k;
        id = p.entry.id % 65536;
        offset = 0x04;
        enables = two_bytes;
        bytes = (p.command % 256) ∷ (p.command / 256 % 256) ∷ 0 ∷ 0 ∷ [];
      } ∷ []
  unfolding part_bytes config_bytes common_bytes be_bytes le_bytes
  command_planned = rw id_planned_lem

  part_of_bridge : is_bridge_type p.entry.header ≡ true
      → part_bytes p
      ≡ be_bytes 2 p.entry.id
      ++ (common_bytes p.command p.entry.header ++ bridge_bytes p.entry)
      ++ dword_bytes (be_bytes 4) 6 p.entry.readbacks 0
  unfolding part_bytes config_bytes body_bytes
  part_of_bridge h = rw h

  buses_planned : is_bridge_type p.entry.header ≡ true
      → bus_writes k (part_bytes p)
      ≡ record {
        number = k;
        id = p.entry.id % 65536;
        offset = 0x18;
        enables = three_bytes;
        bytes = p.entry.primary ∷ p.entry.secondary ∷ p.entry.subordinate ∷ 0 ∷ [];
      } ∷ []
  unfolding bridge_bytes common_bytes dword_bytes be_bytes le_bytes
  buses_planned h = rw (header_of_part_bytes p, h, id_planned_lem, part_of_bridge h)

  no_buses_planned : is_bridge_type p.entry.header ≡ false → bus_writes k (part_bytes p) ≡ []
  no_buses_planned h = rw (header_of_part_bytes p, h)

-- ## Of a board's record i + 1, whatever the cursors are

module _ (k : ℕ) (boot : Boot) (counts : List ℕ) (f : Function) where
  abbrev id_planned : ℕ
  id_planned = (bus_in boot.root counts f.parent * 256 + f.devfn) % 65536

  abbrev pub command_part : List Write
  command_part =
      record {
        number = k;
        id = id_planned;
        offset = 0x04;
        enables = two_bytes;
        bytes = (f.command % 256) ∷ (f.command / 256 % 256) ∷ 0 ∷ 0 ∷ [];
      } ∷ []

  module _ (memo : List ℕ) (i : ℕ) where
    abbrev pub buses_write : Write
    buses_write =
        record {
          number = k;
          id = id_planned;
          offset = 0x18;
          enables = three_bytes;
          bytes =
              bus_in boot.root counts f.parent
              ∷ bus_in boot.root counts (suc i)
              ∷ number_in boot.root counts (laid_at memo i).next f.parent
              ∷ 0
              ∷ [];
        }

    module _ (c : List ℕ) where
      abbrev placed : Planned
      placed = planned_of (registers_of boot.root counts memo c i f)

      pub command_placed : command_writes k (part_bytes placed) ≡ command_part
      unfolding planned_of leaf_registers bridge_registers
      command_placed = go (is_bridge f)
        where
          go : (t : Bool)
              → command_writes k (part_bytes (planned_of
              (cond t (bridge_registers boot.root counts memo c i f) (leaf_registers boot.root counts c f)))) ≡ command_part
          go true = command_planned k (planned_of (bridge_registers boot.root counts memo c i f))
          go false = command_planned k (planned_of (leaf_registers boot.root counts c f))

      pub buses_placed : bus_writes k (part_bytes placed) ≡ cond (is_bridge f) (buses_write ∷ []) []
      unfolding planned_of leaf_registers bridge_registers
      buses_placed = go (is_bridge f) refl
        where
          go : (t : Bool) → is_bridge f ≡ t
              → bus_writes k (part_bytes (planned_of
              (cond t (bridge_registers boot.root counts memo c i f) (leaf_registers boot.root counts c f))))
              ≡ cond t (buses_write ∷ []) []
          go true e = buses_planned k (planned_of (bridge_registers boot.root counts memo c i f)) e ∙ rw e
          go false e = no_buses_planned k (planned_of (leaf_registers boot.root counts c f)) e

abbrev pub bus_part : ℕ → Boot → List ℕ → List ℕ → ℕ → Function → List Write
bus_part k boot counts memo i f = cond (is_bridge f) (buses_write k boot counts f memo i ∷ []) []

-- what its bus numbers ask of the arrays
pub record Numbered (boot : Boot) (counts memo : List ℕ) (i : ℕ) (f : Function) : Type 0 where
  pub own : NumberFits boot.root counts f.parent f.parent
  pub below : is_bridge f ≡ true → NumberFits boot.root counts (suc i) (suc i)
  pub stored : is_bridge f ≡ true → 7 * i + 7 ≤ length memo
  pub last : is_bridge f ≡ true → NumberFits boot.root counts (laid_at memo i).next f.parent
