-- A board that is not planned is refused with 1 to 99. Assumes nothing.
use Rattle.std.specs.Prelude.{refl, cond, List, ℕ, length, ltb}
use Rattle.std.proofs.Common.{arith}
use Rattle.pools.specs.declared.Pool.TheVariants.{Low, High, Io}
use Rattle.refusals.specs.Refusals.{IsRefusal, IsNumber}
use Rattle.refusals.specs.RefusalsLaws.{refusal, either, unless_zero}
use Rattle.plan_rule.specs.Records as placing
use Rattle.plan_rule.specs.Refusals.{out_of_buses, out_of_pool, refusal_of}
use Rattle.board.specs.Board.{board_number, host_of, functions_of}
use Rattle.board.proofs.NumberLaws.{board_number_lem}
use Rattle.board.specs.ToPlacing.{to_host, to_placing}
use Rattle.sheet.specs.Sheet.{sheet_length}
use Rattle.plan_answer.specs.declared.Planning.{Planning}
use Rattle.plan_answer.specs.declared.Planning.TheVariants.{Planned, Refused}
use Rattle.plan_answer.specs.Plan.{on_room, on_board, planning}

-- 30 to 33
placing_number : (h : placing.Host) (fs : List placing.Function) → IsNumber (refusal_of h fs)
unfolding refusal_of
placing_number h fs =
    let third : ℕ = cond (out_of_pool h fs Io) 33 0 in
    let second : ℕ = cond (out_of_pool h fs High) 32 third in
    either IsNumber (out_of_buses h fs) 30 (cond (out_of_pool h fs Low) 31 second) (omega arith)
    (either IsNumber (out_of_pool h fs Low) 31 second (omega arith)
    (either IsNumber (out_of_pool h fs High) 32 third (omega arith)
    (either IsNumber (out_of_pool h fs Io) 33 0 (omega arith) (omega arith))))

abbrev pub Numbered : Planning → Type 0
Numbered (Planned n) = Unit {0}
Numbered (Refused n) = IsRefusal n

pub numbered_planning : (b : List ℕ) (room : ℕ) → Numbered (planning b room)
unfolding planning on_board on_room
numbered_planning b room =
    let fs = functions_of b in
    let ps = to_placing fs in
    let out = refusal_of (to_host (host_of b)) ps in
    let size = sheet_length (length fs) in
    let fits = either Numbered (ltb room size) (Refused 11) (Planned size) (refusal 11 refl) tt in
    let placed =
    unless_zero Numbered out (on_room size room) (Refused out) (placing_number (to_host (host_of b)) ps) fits (λ h. h) in
    unless_zero Numbered (board_number b) (on_board (host_of b) fs room) (Refused (board_number b)) (board_number_lem b) placed (λ h. h)
