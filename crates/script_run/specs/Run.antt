-- Document 02, E14: the registers while a script's records are performed one after another, and a record that is taken to its function.
-- Assumes nothing.
use Rattle.std.specs.Prelude.{◌≡◌, List, [], ℕ, ◌+◌, ◌%◌, length, get_or, take, drop}
use Rattle.pairs.specs.declared.ConfigKind.TheVariants.{CfgWr0}
use Rattle.records.specs.Records.{parts_of}
use Rattle.plan_rule.specs.Above.{above_by_parents}
use Rattle.board.specs.Board.{functions_of}
use Rattle.board.specs.ToPlacing.{to_placing}
use Rattle.tlp.specs.declared.Reading.TheVariants.{Accepted}
use Rattle.tlp.specs.Reading.{read_of}
use Rattle.route_answer.specs.declared.Routing.TheVariants.{Delivered}
use Rattle.route.specs.Route.{route_packet}
use Rattle.script_writes.specs.Writes.{Write}
use Rattle.script_writes.specs.Script.{packet_with, packet_of, four_of}
use Rattle.scripter.specs.Scripting.{planned_sheet, boot_of, script_of}
use Rattle.script_run.specs.Model.{model_of, run}

-- ## The script's records

abbrev pub script_parts : List ℕ → ℕ → ℕ → List (List ℕ)
script_parts b requester tag = (parts_of (script_of b requester tag)).parts

-- the registers after the first j records, from the model on
abbrev pub state_after : List ℕ → ℕ → ℕ → ℕ → List ℕ
state_after b requester tag j = run (take j (script_parts b requester tag)) (model_of (planned_sheet b))

-- "the first tag (a byte, one up each write, wrapping)"
abbrev pub tag_at : ℕ → ℕ → ℕ
tag_at tag j = (tag + j) % 256

-- "Bridges above a function", by parent records
abbrev pub bridges_above : List ℕ → ℕ → List ℕ
bridges_above b k = above_by_parents (to_placing (functions_of b)) k

-- Record j of the script, which has the write w
pub record TakenInPlace (b : List ℕ) (requester tag j : ℕ) (w : Write) : Type 0 where
  -- "12 header bytes": the reader reads them as the write's packet
  pub header_read : read_of (take 12 (get_or (script_parts b requester tag) j [])) ≡ Accepted (packet_of (boot_of b requester) (tag_at tag j) w)
  -- "and 4 data bytes in register order"
  pub bytes_are : drop 12 (get_or (script_parts b requester tag) j []) ≡ four_of w.bytes
  -- "With the sheet checks left out, the walk takes every write to its function at its place in the list": with type 0, across just the
  -- bridges above it
  pub delivered : route_packet (packet_of (boot_of b requester) (tag_at tag j) w) (state_after b requester tag j)
      ≡ Delivered (record {
        owner = w.number;
        bridges = length (bridges_above b w.number);
        packet = packet_with CfgWr0 requester (tag_at tag j) w;
      })
