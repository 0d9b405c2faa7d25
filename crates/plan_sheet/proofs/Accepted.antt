-- A board that is accepted fits: the planner's theorems and the sheet's layout hold of it. Assumes nothing.
use Rattle.std.specs.Prelude.{◌≡◌, List, map, ℕ, ◌≤◌, drop}
use Rattle.std.proofs.Common.{sym, ◌∙◌, arith}
use Rattle.std.proofs.Math.Path.{ap, subst}
use Rattle.std.proofs.Math.Bool.{false}
use Rattle.std.proofs.Math.ListN.{length, take, length-map}
use Rattle.endian.specs.Endian.{Bytes}
use Rattle.endian.specs.BytesLaws.{bytes_take, bytes_drop}
use Rattle.records.specs.Limits.{most_functions}
use Rattle.records.specs.Records.{parts_from}
use Rattle.lists.specs.Lists.{All, any}
use Rattle.board_record.specs.declared.Host.{Host}
use Rattle.board_record.specs.Host.{host_of_part, host_wrong, host_length, functions_at}
use Rattle.board_record.specs.Function.{function_of_part, readbacks_wrong}
use Rattle.board.specs.Board.{board_number, host_of, functions_of}
use Rattle.board.proofs.BoardLaws.{Accepted, accepted_of_zero}
use Rattle.board.specs.ToPlacing.{to_host, to_placing}
use Rattle.board.proofs.ToPlacingLaws.{lawful_of_accepted}
use Rattle.board.proofs.Depth.{few_above_of_accepted}
use Rattle.plan_good.specs.Boards.{HostEdges, Board}
use Rattle.plan_sheet.specs.Fits.{FunctionFits, BoardFits}
use Rattle.plan_sheet.proofs.FitsLaws.{bytes_parts, functions_fit, edges_of_right}
use Rattle.plan_sheet.proofs.Rising.{siblings_rise_of_placed}

module _ (b : List ℕ) (bytes : Bytes b) (accepted : board_number b ≡ 0) where
  a : Accepted b
  a = accepted_of_zero b accepted

  -- the host's edges are 26's, the functions' order is 23's
  pub board_of_accepted : Board (to_host (host_of b)) (to_placing (functions_of b))
  unfolding a
  board_of_accepted =
      let part = take host_length (drop 3 b) in
      let right : host_wrong (host_of_part part) ≡ false = ap host_wrong (sym a.host_read) ∙ a.edges in
      let edges = edges_of_right part (bytes_take host_length (drop 3 b) (bytes_drop 3 b bytes)) right in
      record { lawful = lawful_of_accepted b accepted; edges = subst (λ (h : Host). HostEdges (to_host h)) (sym a.host_read) edges }

  functions : All FunctionFits (functions_of b)
  unfolding a
  functions =
      let parts = parts_from b functions_at in
      let right : any readbacks_wrong (map function_of_part parts) ≡ false = ap (any readbacks_wrong) (sym a.functions_read)
      ∙ a.readbacks in
      subst (All FunctionFits) (sym a.functions_read)
      (functions_fit parts (bytes_parts (drop functions_at b) (bytes_drop functions_at b bytes)) a.headers right)

  few : length (functions_of b) ≤ most_functions
  unfolding a
  few = omega (arith, ap length a.functions_read, length-map (parts_from b functions_at) function_of_part, a.few)

  pub fits_of_accepted : BoardFits (host_of b) (functions_of b)
  unfolding a
  fits_of_accepted =
      record {
        board = board_of_accepted;
        functions = functions;
        few = few;
        siblings_rise = siblings_rise_of_placed (functions_of b) a.order;
        shallow = few_above_of_accepted b accepted;
      }
