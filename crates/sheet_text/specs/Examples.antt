-- P10's board and its sheet printed as document 01 prints them, P8's sheet, a sheet that fails its checks, and a refusal. Assumes nothing.
use Rattle.std.specs.Prelude.{◌≡◌, ℕ}
use mathlib.Core.List.{List}
use Rattle.text.specs.Text.{ascii}
use Rattle.board.specs.Examples.{p10 as p10_board}
use Rattle.sheet.specs.Sheet.{full_sheet}
use Rattle.sheet.specs.Examples.{p8, p10, nibbled}
use Rattle.sheet_text.specs.Listing.{sheet_text}
use Rattle.sheet_text.specs.BoardText.{board_text}

-- document 01's three lines
unfoldable pub p10_text : List ℕ
p10_text = ascii "plan 2\n0000 bridge 00000000 00000000 00 01 01 40 40 F900 F900 4001 43F1 00000002 00000002\n0100 end F9000000 4000000C 00000002 00004001 00000000 00000000\n"

pub record Printed : Type 0 where
  pub p10_planned : board_text p10_board full_sheet ≡ p10_text
  pub p10_short_room : board_text p10_board 184 ≡ ascii "refused 11\n"
  pub p10_sheet : sheet_text p10 ≡ p10_text
  pub p8_sheet : sheet_text p8 ≡ ascii "plan 0\n"
  pub bad_sheet : sheet_text (nibbled p10) ≡ ascii "refused 29\n"
