-- The longest script: at most 512 functions, of which at most 255 are bridges, since each bridge takes a bus number after the host's first.
-- A bridge has at most nine writes, any other function at most seven. Assumes nothing.
use Rattle.std.specs.Prelude.{◌≡◌, Bool, true, false, cond, List, [], ◌∷◌, ℕ, suc, ◌+◌, ◌*◌, ◌≤◌, length}
use Rattle.std.proofs.Common.{ap, arith}
use Rattle.std.proofs.lemmas.List.{length-map}
use Rattle.endian.specs.Endian.{Bytes}
use Rattle.records.specs.Records.{parts_from}
use Rattle.plan_rule.specs.Numbering.{bridges, bridge_count}
use Rattle.plan_rule.proofs.NumberingLaws.{bridges_and_spares}
use Rattle.board_record.specs.Host.{functions_at}
use Rattle.plan_good.proofs.Kept.{kept_of_planned}
use Rattle.board_record.specs.declared.Function.{Function}
use Rattle.board_record.specs.Function.{is_bridge, function_of_part}
use Rattle.board.specs.Board.{host_of, functions_of}
use Rattle.board.proofs.BoardLaws.{accepted_of_zero}
use Rattle.board.specs.ToPlacing.{to_host, to_placing}
use Rattle.sheet.specs.Sheet.{full_sheet}
use Rattle.plan_answer.specs.declared.Planning.TheVariants.{Planned}
use Rattle.plan_answer.specs.Plan.{planning}
use Rattle.plan_sheet.proofs.Accepted.{fits_of_accepted}
use Rattle.plan_sheet.proofs.Answer.{planned_of_answer}
use Rattle.scripter.specs.Scripting.{board_writes, script_length}
use Rattle.scripter.specs.Counting.{used_in, write_count, count_in}
use Rattle.scripter.specs.CountingLaws.{used_le, count_is}

-- 4,094 writes of 18 bytes
abbrev pub longest_script : ℕ
longest_script = 73692

writes_le : (f : Function) → write_count f ≤ 7 + 2 * cond (is_bridge f) 1 0
unfolding write_count
writes_le f = go (is_bridge f)
  where
    go : (t : Bool) → used_in (cond t 2 6) f.readbacks 0 + cond t 7 1 ≤ 7 + 2 * cond t 1 0
    go true = omega (arith, used_le 2 f.readbacks 0)
    go false = omega (arith, used_le 6 f.readbacks 0)

count_by_bridges : (fs : List Function) → count_in fs ≤ 7 * length fs + 2 * bridge_count (to_placing fs)
unfolding count_in bridge_count
count_by_bridges [] = omega arith
count_by_bridges (f ∷ fs) = go (cond (is_bridge f) 1 0) (writes_le f) (count_by_bridges fs)
  where
    go : (k : ℕ) → write_count f ≤ 7 + 2 * k → count_in fs ≤ 7 * length fs + 2 * bridge_count (to_placing fs)
        → write_count f + count_in fs ≤ 7 * suc (length fs) + 2 * (k + bridge_count (to_placing fs))
    go k own later = omega arith

pub script_length_le : (b : List ℕ) (n : ℕ) → Bytes b → planning b full_sheet ≡ Planned n → script_length b ≤ longest_script
script_length_le b n bytes planned =
    let answer = planned_of_answer b full_sheet n planned in
    let fs = functions_of b in
    let a = accepted_of_zero b answer.accepted in
    let fits = fits_of_accepted b bytes answer.accepted in
    let few : length fs ≤ 512 = omega (arith, ap length a.functions_read, length-map (parts_from b functions_at) function_of_part, a.few) in
    let kept = kept_of_planned (to_host (host_of b)) (to_placing fs) answer.not_refused in
    let taken : bridges (to_placing fs) ≤ 255 = omega (arith, kept.buses, fits.board.edges.last_bus_is_byte) in
    let numbered : bridge_count (to_placing fs) ≤ 255 = omega (arith, taken, bridges_and_spares (to_placing fs)) in
    let count : length (board_writes b) ≤ 7 * length fs + 2 * bridge_count (to_placing fs) =
    omega (arith, count_is b bytes answer.accepted answer.not_refused, count_by_bridges fs) in
    omega (arith, few, numbered, count)
