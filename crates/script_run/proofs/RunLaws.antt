-- A planned board's script, record by record: each is taken to its function at its place in the list, the registers end as the sheet has
-- them, and at any stop each address has its final owner or none. Assumes nothing.
use Rattle.std.specs.Prelude.{◌≡◌, ◌⊎◌, true, List, [], ◌∷◌, ◌++◌, ℕ, zero, suc, ◌+◌, ◌≤◌, ◌<◌, length, get_or, take, drop}
use Rattle.std.proofs.Math.Path.{refl}
use Rattle.std.proofs.Common.{sym, ap, subst, ◌∙◌, arith, length-append, length-drop, take-append-drop, take_at, drop_at, length-take-le, le-ltb}
use Rattle.std.proofs.Math.Seq.{take-length}
use Rattle.endian.specs.Endian.{Bytes, be_bytes}
use Rattle.records.specs.declared.Next.TheVariants.{End, Record}
use Rattle.records.specs.Records.{next_of, Parts, parts_of}
use Rattle.records.specs.RecordsLaws.{parts_of_step}
use Rattle.pairs.specs.declared.ConfigKind.TheVariants.{CfgWr0}
use Rattle.pools.specs.declared.Space.{Space}
use Rattle.pools.specs.declared.Space.TheVariants.{Memory as memory_space}
use Rattle.board.specs.Board.{host_of}
use Rattle.board.specs.ToPlacing.{to_host}
use Rattle.tlp.specs.Reading.{read_of}
use Rattle.tlp_layout.specs.Layout.{layout}
use Rattle.walk.specs.Walk.{delivered, refused, no_owner}
use Rattle.sheet.specs.Sheet.{full_sheet, parts_in}
use Rattle.plan_good.specs.Registers.{plan_host}
use Rattle.plan_answer.specs.declared.Planning.TheVariants.{Planned}
use Rattle.plan_answer.specs.Plan.{planning}
use Rattle.plan_sheet.proofs.Answer.{AnswersPlanned, planned_of_answer}
use Rattle.plan_sheet.specs.Delivery.{sheet_outcome}
use Rattle.route_answer.specs.declared.Delivery.{Delivery}
use Rattle.route_answer.specs.declared.Routing.TheVariants.{Delivered}
use Rattle.route.specs.Route.{route_packet}
use Rattle.script_writes.specs.declared.Boot.{Boot}
use Rattle.script_writes.specs.Writes.{Write, writes_of}
use Rattle.script_writes.specs.Script.{packet_with, packet_of, four_of, write_part, write_bytes, next_tag, script_from, tag_after}
use Rattle.script_writes.proofs.ScriptLaws.{length_header, length_write_part, length_write_bytes, tag_is}
use Rattle.scripter.specs.Scripting.{planned_sheet, board_writes, boot_of}
use Rattle.script_run.specs.Model.{model_of, run}
use Rattle.script_run.proofs.StateLaws.{state_of}
use Rattle.script_run.proofs.Delivered.{Scriptable, write_delivered, header_read, final_walk, write_parts, run_is}
use Rattle.script_run.proofs.Ends.{ends_as_sheet}
use Rattle.script_run.proofs.Safe.{owner_or_none}
use Rattle.script_run.proofs.Planned.{sheet, scriptable, endable}
use Rattle.script_run.specs.Run.{script_parts, state_after, tag_at, TakenInPlace}

-- ## A script's records

next_of_write : (boot : Boot) (tag : ℕ) (w : Write) (rest : List ℕ) → next_of (write_bytes boot tag w ++ rest) ≡ Record 16
unfolding next_of write_bytes be_bytes
next_of_write boot tag w rest =
    let part = write_part boot tag w in
    let l : length (write_part boot tag w ++ rest) ≡ 16 + length rest =
    length-append (write_part boot tag w) rest ∙ rw (length_write_part boot tag w) in
    rw (le-ltb (length (write_part boot tag w ++ rest)) 16 (omega arith))

take_of_write : (boot : Boot) (tag : ℕ) (w : Write) (rest : List ℕ) → take 16 (drop 2 (write_bytes boot tag w ++ rest))
    ≡ write_part boot tag w
unfolding write_bytes be_bytes
take_of_write boot tag w rest = take_at (write_part boot tag w) rest 16 (length_write_part boot tag w)

drop_of_write : (boot : Boot) (tag : ℕ) (w : Write) (rest : List ℕ) → drop (2 + 16) (write_bytes boot tag w ++ rest) ≡ rest
drop_of_write boot tag w rest = drop_at (write_bytes boot tag w) rest 18 (length_write_bytes boot tag w)

pub parts_of_script : (boot : Boot) (tag : ℕ) (ws : List Write)
    → parts_of (script_from boot tag ws) ≡ record { parts = write_parts boot tag ws; whole = true }
unfolding script_from write_parts next_of
parts_of_script boot tag [] = parts_of_step [] End refl
parts_of_script boot tag (w ∷ ws) =
    let rest = script_from boot (next_tag tag) ws in
    parts_of_step (write_bytes boot tag w ++ rest) (Record 16) (next_of_write boot tag w rest)
    ∙ rw (take_of_write boot tag w rest, drop_of_write boot tag w rest, parts_of_script boot (next_tag tag) ws)

pub length_parts : (boot : Boot) (tag : ℕ) (ws : List Write) → length (write_parts boot tag ws) ≡ length ws
unfolding write_parts
length_parts boot tag [] = refl
length_parts boot tag (w ∷ ws) = ap suc (length_parts boot (next_tag tag) ws)

part_at : (boot : Boot) (tag : ℕ) (ws : List Write) (j : ℕ) (w : Write) (rest : List Write) → drop j ws ≡ w ∷ rest
    → get_or (write_parts boot tag ws) j [] ≡ write_part boot (tag_after tag (take j ws)) w
unfolding write_parts tag_after
part_at boot tag [] zero w rest e = absurd (let z : ◌≡◌ {A = ℕ} 0 1 = cc in omega arith)
part_at boot tag [] (suc j) w rest e = absurd (let z : ◌≡◌ {A = ℕ} 0 1 = cc in omega arith)
part_at boot tag (v ∷ ws) zero w rest e = let same : v ≡ w = cc in ap (write_part boot tag) same
part_at boot tag (v ∷ ws) (suc j) w rest e = part_at boot (next_tag tag) ws j w rest e

-- ## What its records do

module _ (b : List ℕ) (n requester tag : ℕ) (bytes : Bytes b) (planned : planning b full_sheet ≡ Planned n)
    (requester_fits : requester < 65536) (tag_Fits : tag < 256) where
  answer : AnswersPlanned b n
  answer = planned_of_answer b full_sheet n planned

  abbrev boot : Boot
  boot = boot_of b requester

  can : Scriptable (plan_host memory_space (to_host (host_of b))) (planned_sheet b)
  can = scriptable b bytes answer.accepted answer.not_refused

  writes_are : board_writes b ≡ writes_of (parts_in (planned_sheet b))
  unfolding board_writes
  writes_are = refl

  parts_are : script_parts b requester tag ≡ write_parts (boot_of b requester) tag (board_writes b)
  parts_are = ap (λ (p : Parts). p.parts) (parts_of_script (boot_of b requester) tag (board_writes b))

  state_is : (j : ℕ) → state_after b requester tag j ≡ state_of (planned_sheet b) (take j (board_writes b))
  state_is j =
      ap (λ (ps : List (List ℕ)). run (take j ps) (model_of (planned_sheet b))) parts_are
      ∙ ap (λ (ws : List Write). run (take j (write_parts (boot_of b requester) tag ws)) (model_of (planned_sheet b))) writes_are
      ∙ run_is can (boot_of b requester) refl requester_fits j tag tag_Fits
      ∙ ap (λ (ws : List Write). state_of (planned_sheet b) (take j ws)) (sym writes_are)

  pub taken_in_place : (j : ℕ) (w : Write) (rest : List Write) → drop j (board_writes b) ≡ w ∷ rest → TakenInPlace b requester tag j w
  taken_in_place j w rest e =
      let ws = board_writes b in
      let done = take j (board_writes b) in
      let at : writes_of (parts_in (planned_sheet b)) ≡ take j (board_writes b) ++ (w ∷ rest) =
      sym writes_are ∙ sym (take-append-drop j (board_writes b)) ∙ ap (take j (board_writes b) ++◌) e in
      let inside : j ≤ length (board_writes b) = omega (arith, ap length e, length-drop j (board_writes b)) in
      let so_far : length (take j (board_writes b)) ≡ j = length-take-le j (board_writes b) inside in
      let tag_now : tag_after tag (take j (board_writes b)) ≡ tag_at tag j =
      tag_is tag (take j (board_writes b)) tag_Fits ∙ ap (tag_at tag) so_far in
      let part : get_or (script_parts b requester tag) j [] ≡ write_part (boot_of b requester) (tag_at tag j) w =
      ap (λ (ps : List (List ℕ)). get_or ps j []) parts_are ∙ part_at (boot_of b requester) tag (board_writes b) j w rest e
      ∙ ap (λ (t : ℕ). write_part (boot_of b requester) t w) tag_now in
      let walk = final_walk can (boot_of b requester) refl requester_fits done w rest at in
      let count = ((((sheet b bytes answer.accepted answer.not_refused).delivers_by_id w.id).delivered_exactly
      w.number _).0 walk).1 in
      let arrival : ℕ → Delivery =
      λ c. record { owner = w.number; bridges = c; packet = packet_with CfgWr0 requester (tag_at tag j) w } in
      record {
        header_read =
            ap (λ (p : List ℕ). read_of (take 12 p)) part
            ∙ header_read can (boot_of b requester) refl requester_fits done w rest at (tag_at tag j) (omega arith);
        bytes_are =
            ap (drop 12) part
            ∙ drop_at (layout (packet_of (boot_of b requester) (tag_at tag j) w)) (four_of w.bytes) 12
            (length_header (boot_of b requester) (tag_at tag j) w);
        delivered =
            ap (route_packet (packet_of (boot_of b requester) (tag_at tag j) w)) (state_is j)
            ∙ write_delivered can (boot_of b requester) refl requester_fits done w rest at (tag_at tag j)
            ∙ ap (λ (c : ℕ). Delivered (arrival c)) count;
      }

  pub ends_as_planned : state_after b requester tag (length (board_writes b)) ≡ planned_sheet b
  ends_as_planned =
      state_is (length (board_writes b)) ∙ ap (state_of (planned_sheet b)) (take-length (board_writes b) ∙ writes_are)
      ∙ ends_as_sheet (planned_sheet b) (endable b bytes answer.accepted answer.not_refused)

  pub owner_or_none_after : (j : ℕ) (sp : Space) (address : ℕ)
      → (sheet_outcome sp (state_after b requester tag j) address ≡ sheet_outcome sp (planned_sheet b) address)
      ⊎ (sheet_outcome sp (state_after b requester tag j) address ≡ refused no_owner)
  owner_or_none_after j sp address =
      subst (λ (s : List ℕ). (sheet_outcome sp s address ≡ sheet_outcome sp (planned_sheet b) address)
      ⊎ (sheet_outcome sp s address ≡ refused no_owner))
      (sym (state_is j))
      (owner_or_none (planned_sheet b) (endable b bytes answer.accepted answer.not_refused) (take j (board_writes b))
      (drop j (board_writes b))
      (sym writes_are ∙ sym (take-append-drop j (board_writes b))) sp
      ((sheet b bytes answer.accepted answer.not_refused).good sp) address)
