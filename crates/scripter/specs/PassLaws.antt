-- One part of a script over a board's records, turn by turn. The placing pass's own laws carry it: they speak of the sheet that the pass
-- would have written, which is no array here. Assumes nothing.
use Rattle.std.specs.Prelude.{◌≡◌, refl, Bool, true, false, cond, ℕ, suc, ◌+◌, ◌*◌, ◌≤◌, ◌<◌, length, take, drop, set, replicate}
use Rattle.std.proofs.Common.{sym, subst, ◌∙◌, arith, length-append, take-append-drop, take_at}
use Rattle.std.proofs.Math.Path.{ap}
use mathlib.Core.List.{List, [], ◌∷◌, ◌++◌, map, map-append}
use Rattle.std.proofs.lemmas.List.{length-map}
use Rattle.std.proofs.lemmas.List.Edits.{sets, sets-eq}
use Rattle.std.proofs.Math.Seq.{length-sets}
use Rattle.endian.specs.Endian.{be_bytes}
use Rattle.records.specs.declared.Next.TheVariants.{Record, Broken}
use Rattle.records.specs.Limits.{most_functions}
use Rattle.records.specs.Records.{next_of, parts_from}
use Rattle.board_record.specs.declared.Host.{Host}
use Rattle.board_record.specs.declared.Function.{Function}
use Rattle.board_record.specs.Function.{is_bridge, function_of_part, header_wrong}
use Rattle.board_record.specs.Host.{functions_at}
use Rattle.board.specs.Board.{functions_of}
use Rattle.board.proofs.BoardLaws.{accepted_of_zero}
use Rattle.sheet.specs.Sheet.{sheet_length, parts_in}
use Rattle.sheet_bytes.specs.Layout.{Planned, planned_of, part_bytes, record_bytes}
use Rattle.sheet_bytes.proofs.LayoutLaws.{length_part_bytes, length_record_bytes}
use Rattle.sheet_bytes.proofs.ReadBack.{parts_in_sheet_bytes}
use Rattle.plan_pass.specs.Step.{ends_list, bars_in, windows_in, leaf_next, bridge_next, registers_of, cursors_next, Placeable, Bridged}
use Rattle.plan_function.specs.declared.Cursors.{Cursors}
use Rattle.plan_pass.specs.Loop.{most_buses, plan_on, Ready, Standing, bases_for, Filled, Placing}
use Rattle.plan_pass.specs.LoopLaws.{standing_start, standing_turn, header_right, inside, turn_placeable, turn_bridged, plan_turn, plan_end}
use Rattle.plan_pass.specs.LoopLaws.{plan_broken, ready_of_placing}
use Rattle.script_writes.specs.declared.Pass.{Pass}
use Rattle.script_writes.specs.declared.Pass.TheVariants.{Buses, Registers, Commands}
use Rattle.script_writes.specs.declared.Boot.{Boot}
use Rattle.script_writes.specs.declared.Place.{Place}
use Rattle.script_writes.specs.Writes.{Write, writes_in, pass_writes}
use Rattle.script_writes.proofs.WritesLaws.{length_of_number, pass_append, pass_snoc}
use Rattle.script_writes.specs.Script.{write_stride}
use Rattle.script_writes.specs.Wrote.{Wrote}
use Rattle.script_writes.proofs.Wrote.{wrote_nothing, wrote_append, wrote_length}
use Rattle.scripter.specs.Scripting.{planned_sheet}
use Rattle.scripter.specs.UnplacedLaws.{command_placed, buses_placed}

-- room for the sheet that is not written
abbrev pub ghost_sheet : List ℕ → List ℕ
ghost_sheet b = replicate (sheet_length (length (functions_of b))) 0

abbrev pub versioned : List ℕ → List ℕ
versioned b = set (ghost_sheet b) 0 1

-- record i + 1 as it is placed from these cursors: its part
abbrev pub placed_part : Boot → List ℕ → List ℕ → List ℕ → ℕ → Function → List ℕ
placed_part boot counts memo c i f = part_bytes (planned_of (registers_of boot.root counts memo c i f))

-- the cursors that a part leaves after a record: only registers are placed
abbrev pub cursors_after : Pass → List ℕ → List ℕ → ℕ → Function → List ℕ
cursors_after Buses memo c i f = c
cursors_after Registers memo c i f = cursors_next memo c i f
cursors_after Commands memo c i f = c

-- the cursors that a part goes by: the array's, or those that a pass which places would have
abbrev pub cursors_of : Pass → List ℕ → List ℕ → List ℕ
cursors_of Buses c placed = placed
cursors_of Registers c placed = c
cursors_of Commands c placed = placed

-- the writes of the first i records, and all
abbrev pub writes_up_to : Pass → List ℕ → ℕ → List Write
writes_up_to pass b i = pass_writes pass 1 (map part_bytes (take i (plan_on b)))

abbrev pub pass_of : Pass → List ℕ → List Write
pass_of pass b = pass_writes pass 1 (parts_in (planned_sheet b))

-- what comes before the command words
abbrev pub front_of : List ℕ → List Write
front_of b = pass_of Buses b ++ pass_of Registers b

-- what a pass asks
pub record Passing (pass : Pass) (b : List ℕ) (boot : Boot) (counts memo c : List ℕ) (from : Place) (room : List ℕ) : Type 0 where
  pub ready : Ready b boot.root counts memo c (versioned b)
  pub fits : from.at + write_stride * length (pass_of pass b) ≤ length room

-- how far it has come
pub record Passed (pass : Pass) (b : List ℕ) (boot : Boot) (c₀ : List ℕ) (from : Place) (room₀ c room : List ℕ) (at i : ℕ) (next : Place)
    : Type 0 where
  pub sheet : List ℕ
  pub cursors : List ℕ
  pub held : cursors_of pass c cursors ≡ cursors
  pub same_length : length c ≡ length cursors
  pub standing : Standing b c₀ (versioned b) cursors sheet at i
  pub wrote : Wrote boot room₀ from (writes_up_to pass b i) room next

pass_of_lem : (pass : Pass) (b : List ℕ) → pass_of pass b ≡ pass_writes pass 1 (map part_bytes (plan_on b))
pass_of_lem pass b = ap (pass_writes pass 1) (parts_in_sheet_bytes (plan_on b))

up_to_le : (pass : Pass) (b : List ℕ) (i : ℕ) → length (writes_up_to pass b i) ≤ length (pass_of pass b)
up_to_le pass b i =
    let before = map part_bytes (take i (plan_on b)) in
    let after = map part_bytes (drop i (plan_on b)) in
    let e : pass_of pass b ≡ pass_writes pass 1 (before ++ after) =
    pass_of_lem pass b ∙ ap (λ (ps : List Planned). pass_writes pass 1 (map part_bytes ps)) (sym (take-append-drop i (plan_on b)))
    ∙ ap (pass_writes pass 1) (map-append part_bytes (take i (plan_on b)) (drop i (plan_on b))) in
    omega (
      arith,
      ap length (e ∙ pass_append pass 1 before after),
      length-append (pass_writes pass 1 before) (pass_writes pass (1 + length before) after),
    )

length_next : (memo c : List ℕ) (i : ℕ) (f : Function) → length (cursors_next memo c i f) ≡ length c
unfolding leaf_next bridge_next
length_next memo c i f = go (is_bridge f)
  where
    own : Cursors
    own = (windows_in memo c i f).cursors

    go : (t : Bool) → length (cond t (bridge_next memo c i f) (leaf_next c f)) ≡ length c
    go true =
        length-sets (sets c (3 * f.parent) (ends_list own)) (3 * suc i) (ends_list (windows_in memo c i f).below)
        ∙ length-sets c (3 * f.parent) (ends_list own)
    go false = length-sets c (3 * f.parent) (ends_list (bars_in c f).cursors)

held_same : (pass : Pass) (c : List ℕ) → cursors_of pass c c ≡ c
held_same Buses c = refl
held_same Registers c = refl
held_same Commands c = refl

-- a part that does not place writes the same wherever a record lies
writes_held : (pass : Pass) (k : ℕ) (boot : Boot) (counts memo c placed : List ℕ) (i : ℕ) (f : Function) → cursors_of pass c placed ≡ placed
    → writes_in pass k (placed_part boot counts memo c i f) ≡ writes_in pass k (placed_part boot counts memo placed i f)
writes_held Buses k boot counts memo c placed i f e =
    buses_placed k boot counts f memo i c ∙ sym (buses_placed k boot counts f memo i placed)
writes_held Registers k boot counts memo c placed i f e = ap (λ (x : List ℕ). writes_in Registers k (placed_part boot counts memo x i f)) e
writes_held Commands k boot counts memo c placed i f e =
    command_placed k boot counts f memo i c ∙ sym (command_placed k boot counts f memo i placed)

pub passed_start : (pass : Pass) (b : List ℕ) {boot : Boot} {counts memo c room : List ℕ} {from : Place}
    → Passing pass b boot counts memo c from room → Passed pass b boot c from room c room functions_at 0 from
unfolding pass_writes
passed_start pass b {c = c} {from = from} p =
    record {
      sheet = versioned b;
      cursors = c;
      held = held_same pass c;
      same_length = refl;
      standing = standing_start b p.ready;
      wrote = wrote_nothing from;
    }

module _ {pass : Pass} {b : List ℕ} {boot : Boot} {counts memo c₀ room₀ c room : List ℕ} {from next : Place} {at i : ℕ}
    (p : Passing pass b boot counts memo c₀ from room₀) (s : Passed pass b boot c₀ from room₀ c room at i next) where
  pub pass_length : length c ≡ length c₀
  pass_length = s.same_length ∙ s.standing.cursors_length

  -- a record stands there
  module _ (n : ℕ) (e : next_of (drop at b) ≡ Record n) where
    abbrev pub here : Function
    here = function_of_part (take n (drop (at + 2) b))

    abbrev pub planned : Planned
    planned = planned_of (registers_of boot.root counts memo s.cursors i here)

    pub pass_header : header_wrong (take n (drop (at + 2) b)) ≡ false
    pass_header = header_right p.ready s.standing n e

    pub pass_placeable : Placeable boot.root counts c here
    pass_placeable =
        let t = turn_placeable p.ready s.standing n e in
        record { numbered = t.numbered; room = omega (arith, t.room, s.same_length); readable = t.readable }

    pub pass_bridged : is_bridge here ≡ true → Bridged boot.root counts memo c i here.parent
    pass_bridged bridge =
        let t = turn_bridged p.ready s.standing n e bridge in
        record {
          numbered = t.numbered;
          room = omega (arith, t.room, s.same_length);
          stored = t.stored;
          last_numbered = t.last_numbered;
          aligned = t.aligned;
        }

    pub pass_few : i < most_functions
    pass_few =
        let a = accepted_of_zero b p.ready.accepted in
        omega (
          arith,
          inside p.ready s.standing n e,
          ap length a.functions_read,
          length-map (parts_from b functions_at) function_of_part,
          a.few,
        )

    number : ℕ
    number = 1 + length (map part_bytes (take i (plan_on b)))

    next_writes : writes_up_to pass b (suc i) ≡ writes_up_to pass b i ++ writes_in pass number (part_bytes planned)
    unfolding number
    next_writes =
        ap (λ (ps : List Planned). pass_writes pass 1 (map part_bytes ps)) (plan_turn p.ready s.standing n e)
        ∙ ap (pass_writes pass 1) (map-append part_bytes (take i (plan_on b)) (planned ∷ []))
        ∙ pass_snoc pass 1 (map part_bytes (take i (plan_on b))) (part_bytes planned)

    writes_here : (k : ℕ) → writes_in pass k (placed_part boot counts memo c i here) ≡ writes_in pass k (part_bytes planned)
    writes_here k = writes_held pass k boot counts memo c s.cursors i here s.held

    pub pass_room : next.at + write_stride * length (writes_in pass 0 (placed_part boot counts memo c i here)) ≤ length room
    pass_room =
        let more = ap length next_writes ∙ length-append (writes_up_to pass b i) (writes_in pass number (part_bytes planned)) in
        let at_is = ap (λ (x : Place). x.at) s.wrote.next_is in
        omega (
          arith,
          at_is,
          wrote_length s.wrote,
          more,
          length_of_number pass number 0 (part_bytes planned),
          ap length (writes_here 0),
          up_to_le pass b (suc i),
          p.fits,
        )

    moved : {c' : List ℕ} → c' ≡ cursors_after pass memo c i here → cursors_of pass c' (cursors_next memo s.cursors i here)
        ≡ cursors_next memo s.cursors i here
    moved {c'} m = go pass s.held m
      where
        go : (q : Pass) → cursors_of q c s.cursors ≡ s.cursors → c' ≡ cursors_after q memo c i here
            → cursors_of q c' (cursors_next memo s.cursors i here) ≡ cursors_next memo s.cursors i here
        go Buses h m = refl
        go Registers h m = m ∙ ap (λ (x : List ℕ). cursors_next memo x i here) h
        go Commands h m = refl

    pub passed_turn : {c' room' : List ℕ} {next' : Place} → c' ≡ cursors_after pass memo c i here → length c' ≡ length c
        → ((k : ℕ) → Wrote boot room next (writes_in pass k (placed_part boot counts memo c i here)) room' next')
        → Passed pass b boot c₀ from room₀ c' room' (at + 2 + n) (suc i) next'
    passed_turn {c'} {room'} {next'} m same w =
        record {
          sheet = sets s.sheet (sheet_length i) (record_bytes planned);
          cursors = cursors_next memo s.cursors i here;
          held = moved m;
          same_length = same ∙ s.same_length ∙ sym (length_next memo s.cursors i here);
          standing = standing_turn p.ready s.standing n e refl refl (length_next memo s.cursors i here);
          wrote =
              subst (λ (ws : List Write). Wrote boot room₀ from ws room' next') (sym next_writes)
              (wrote_append (writes_up_to pass b i) (writes_in pass number (part_bytes planned)) s.wrote
              (subst (λ (ws : List Write). Wrote boot room next ws room' next') (writes_here number) (w number)));
        }

  -- none does
  whole : take i (plan_on b) ≡ plan_on b → Wrote boot room₀ from (pass_of pass b) room next
  whole e =
      subst (λ (ws : List Write). Wrote boot room₀ from ws room next)
      (ap (λ (ps : List Planned). pass_writes pass 1 (map part_bytes ps)) e ∙ sym (pass_of_lem pass b)) s.wrote

  pub passed_end : ((n : ℕ) → next_of (drop at b) ≡ Record n → ⊥) → Wrote boot room₀ from (pass_of pass b) room next
  passed_end none = whole (plan_end p.ready s.standing none)

  pub passed_broken : next_of (drop at b) ≡ Broken → Wrote boot room₀ from (pass_of pass b) room next
  passed_broken e = whole (plan_broken p.ready s.standing e)

-- ## A record laid out in an array of its own

pub laid_out : (q : Planned) (bytes : List ℕ) → bytes ≡ sets (replicate 92 0) 0 (record_bytes q) → take 90 (drop 2 bytes) ≡ part_bytes q
unfolding record_bytes be_bytes
laid_out q bytes e =
    let l : length (record_bytes q) ≡ 92 = length_record_bytes q in
    let s : sets (replicate 92 0) 0 (record_bytes q) ≡ record_bytes q ++ drop (0 + length (record_bytes q)) (replicate 92 0) =
    sets-eq (record_bytes q) (replicate 92 0) 0 (omega (arith, l)) in
    ap (λ (x : List ℕ). take 90 (drop 2 x)) (e ∙ s) ∙ take_at (part_bytes q) _ 90 (length_part_bytes q)

-- ## One part, from its arrays

pub passing_of : {h : Host} {counts memo : List ℕ} (pass : Pass) (b : List ℕ) (boot : Boot) (c : List ℕ) (base : Cursors) (from : Place)
    (room : List ℕ) → Placing b h counts memo (ghost_sheet b) → boot.root ≡ h.first_bus → base ≡ bases_for h → Filled base most_buses c
    → length c ≡ 3 * most_buses → from.at + write_stride * length (pass_of pass b) ≤ length room
    → Passing pass b boot counts memo c from room
passing_of {h} {counts} {memo} pass b boot c base from room p root base_is filled long fits =
    record {
      ready = subst (λ (first : ℕ). Ready b first counts memo c (versioned b)) (sym root) (ready_of_placing c base p base_is filled long);
      fits = fits;
    }
