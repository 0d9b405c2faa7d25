-- What a board's bytes and checks give the planned sheet: every number has its width, and numbering, placing and order are lawful. Assumes
-- nothing.
use Rattle.std.specs.Prelude.{◌≡◌, true, false, List, ℕ, ◌%◌, ◌^◌, ◌≤◌, ◌<◌, length, get_or, take, drop}
use Rattle.records.specs.Limits.{most_functions, most_above}
use Rattle.bar.specs.Bar.{slots, any_bad}
use Rattle.lists.specs.Lists.{All}
use Rattle.plan_rule.specs.Above.{above_by_parents}
use Rattle.board_record.specs.declared.Host.{Host}
use Rattle.board_record.specs.declared.Function.{Function}
use Rattle.board_record.specs.Function.{slot_count}
use Rattle.board.specs.ToPlacing.{to_host, to_placing, devfn_of}
use Rattle.sheet.specs.Sheet.{all_zero}
use Rattle.plan_good.specs.Boards.{Board}
use Rattle.plan_good.specs.Ids.{SiblingsRise}

-- one function: its numbers' widths, header type (24), and read-backs (25)
pub record FunctionFits (f : Function) : Type 0 where
  pub devfn : f.devfn < 256
  pub header : f.header < 256
  pub header_type_lem : f.header % 128 ≤ 1
  pub command : f.command < 2 ^ 16
  pub six : length f.readbacks ≡ 6
  pub readbacks : (i : ℕ) → get_or f.readbacks i 0 < 2 ^ 32
  pub lawful : any_bad (slots (take (slot_count f) f.readbacks)) ≡ false
  pub rest_zero : all_zero (drop (slot_count f) f.readbacks) ≡ true

pub record BoardFits (h : Host) (fs : List Function) : Type 0 where
  pub board : Board (to_host h) (to_placing fs)
  pub functions : All FunctionFits fs
  pub few : length fs ≤ most_functions
  pub siblings_rise : SiblingsRise (to_placing fs) (devfn_of fs)
  pub shallow : (k : ℕ) → length (above_by_parents (to_placing fs) k) ≤ most_above
