-- The number of the first check that a board fails is one of 1 to 99. Assumes nothing.
use Rattle.std.specs.Prelude.{List, [], map, ℕ, length, get_or, drop, eqb, ltb}
use Rattle.std.proofs.Common.{arith}
use Rattle.lists.specs.Lists.{any}
use Rattle.refusals.specs.Refusals.{IsNumber}
use Rattle.refusals.specs.RefusalsLaws.{either}
use Rattle.records.specs.Limits.{most_functions}
use Rattle.records.specs.Records.{parts_of, any_part}
use Rattle.board_record.specs.declared.Host.{Host}
use Rattle.board_record.specs.declared.Function.{Function}
use Rattle.board_record.specs.Host.{host_of_part, host_wrong}
use Rattle.board_record.specs.Function.{function_of_part, wrong_in, readbacks_wrong}
use Rattle.board_order.specs.Order.{any_misplaced}
use Rattle.board.specs.Board.{misframed, is_version, from_readbacks, from_order, from_edges, from_headers, from_count, from_frame}
use Rattle.board.specs.Board.{from_version, board_number}

functions_number : (h : Host) (fs : List Function) → IsNumber (from_edges h fs)
unfolding from_edges from_order from_readbacks
functions_number h fs =
    either IsNumber (host_wrong h) 26 (from_order fs) (omega arith)
    (either IsNumber (any_misplaced 0 [] fs) 23 (from_readbacks fs) (omega arith)
    (either IsNumber (any readbacks_wrong fs) 25 0 (omega arith) (omega arith)))

parts_number : (v : ℕ) (h : Host) (ps : List (List ℕ)) → IsNumber (from_count v h ps)
unfolding from_count from_headers
parts_number v h ps =
    let fs = map function_of_part ps in
    either IsNumber (ltb most_functions (length ps)) 22 (from_headers v h ps) (omega arith)
    (either IsNumber (any_part (wrong_in v) ps) 24 (from_edges h fs) (omega arith) (functions_number h fs))

pub board_number_lem : (b : List ℕ) → IsNumber (board_number b)
unfolding board_number from_version from_frame
board_number_lem b =
    let v = get_or b 0 0 in
    let r = parts_of (drop 1 b) in
    let h = host_of_part (get_or r.parts 0 []) in
    let ps = drop 1 r.parts in
    either IsNumber (eqb (length b) 0) 20 (from_version b) (omega arith)
    (either IsNumber (is_version v) (from_frame v r) 21
    (either IsNumber (misframed r) 20 (from_count v h ps) (omega arith) (parts_number v h ps)) (omega arith))
