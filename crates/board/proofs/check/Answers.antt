-- `board::check` meets its contract: one lemma for each check that is passed, then each number by the test that gave it. Assumes nothing.
use Prim.Native.Nat.{ℕ}
use mathlib.Core.Path.{◌≡◌, sym, ap, ◌∙◌}
use mathlib.Core.Bool.{true, false}
use mathlib.Core.List.{List, [], map}
use lib.ListN.{length, get_or, take, drop}
use lib.Dec.{ltb}
use Rattle.records.specs.Limits.{most_functions}
use Rattle.std.proofs.Common.{Bool, true≢false, eqb, eq-eqb, eqb-true}
use Rattle.lists.specs.Lists.{any}
use Rattle.records.specs.Records.{parts_of, parts_from, any_part}
use Rattle.records.specs.RecordsLaws.{fits_at, length_part}
use Rattle.board_record.specs.declared.Host.{Host}
use Rattle.board_record.specs.declared.Function.{Function}
use Rattle.board_record.specs.declared.Rule.TheVariants.{Header, ReadBacks}
use Rattle.board_record.specs.Host.{host_of_part, host_wrong, host_length, host_at, functions_at}
use Rattle.board_record.specs.Function.{function_of_part, wrong_in, header_wrong, readbacks_wrong}
use Rattle.board.proofs.PassLaws.{any_never}
use Rattle.board_order.specs.Order.{any_misplaced}
use Rattle.board.specs.Board.{is_version, misframed, from_readbacks, from_order, from_edges, from_headers, from_count, from_frame}
use Rattle.board.specs.Board.{board_number}
use Rattle.board.proofs.BoardLaws.{any_map, host_of_framed, breaks_of_framed, framed, past_version, past_count, past_headers}
use Rattle.board.proofs.BoardLaws.{other_version, right_parts, past_edges, past_order, misplaced_by_first}
use Rattle.board.proofs.check.Goals as goal
use Rattle.board.proofs.check.Goals.{After-any_breaks, After-any_breaks-2, After-host_wrong, Else-any_breaks, Else-is_some, Else-host_wrong, Else-misframed, Else-not-is_version, Else-too_many}

-- a board's version, its host and its functions
abbrev version : List ℕ → ℕ
version s = get_or s 0 0

abbrev host : List ℕ → Host
host s = host_of_part (take host_length (drop 3 s))

abbrev parts : List ℕ → List (List ℕ)
parts s = parts_from s functions_at

abbrev functions : List ℕ → List Function
functions s = map function_of_part (parts s)

-- what each check that is passed leaves of the number
module _ (s : List ℕ) (some : length s ≡ 0 → ⊥) (right : is_version (version s) ≡ true) where
  after-version : board_number s ≡ from_frame (version s) (parts_of (drop 1 s))
  after-version = past_version s some right

  module _ (whole : misframed (parts_of (drop 1 s)) ≡ false) where
    after-frame : board_number s ≡ from_count (version s) (host s) (parts s)
    after-frame = after-version ∙ framed s (version s) whole

    module _ (few : ltb most_functions (length (parts s)) ≡ false) where
      after-count : board_number s ≡ from_headers (version s) (host s) (parts s)
      after-count = after-frame ∙ past_count _ _ _ few

      module _ (headers : any_part (wrong_in (version s)) (parts s) ≡ false) where
        after-headers : board_number s ≡ from_edges (host s) (functions s)
        after-headers = after-count ∙ past_headers _ _ _ headers

        module _ (edges : host_wrong (host s) ≡ false) where
          after-edges : board_number s ≡ from_order (functions s)
          after-edges = after-headers ∙ past_edges _ _ edges

          after-order : any_misplaced 0 [] (functions s) ≡ false → board_number s ≡ from_readbacks (functions s)
          after-order order = after-edges ∙ past_order _ order

-- the same of the call's own tests
some : {b : Bool} (s : List ℕ) → b ≡ eqb (length s) 0 → b ≡ false → length s ≡ 0 → ⊥
some s e f z = true≢false (sym (e ∙ eq-eqb (length s) 0 z) ∙ f)

right-2 : (c : Else-not-is_version) → is_version (version c.args.board.now) ≡ true
right-2 c = sym c.is_version.ensures ∙ c.if-not-is_version.false

past-2 : (c : Else-not-is_version) → board_number c.args.board.now ≡ from_frame (version c.args.board.now) (parts_of (drop 1 c.args.board.now))
past-2 c = after-version _ (some c.args.board.now c.is_empty.ensures c.if-is_empty.false) (right-2 c)

whole : (c : Else-misframed) → misframed (parts_of (drop 1 c.args.board.now)) ≡ false
whole c = sym c.misframed.ensures ∙ c.if-misframed.false

past-3 : (c : Else-misframed)
    → board_number c.args.board.now ≡ from_count (version c.args.board.now) (host c.args.board.now) (parts c.args.board.now)
past-3 c = after-frame _ (some c.args.board.now c.is_empty.ensures c.if-is_empty.false) (sym c.is_version.ensures ∙ c.if-not-is_version.false) (whole c)

past-4 : (c : Else-too_many)
    → board_number c.args.board.now ≡ from_headers (version c.args.board.now) (host c.args.board.now) (parts c.args.board.now)
past-4 c =
    after-count _ (some c.args.board.now c.is_empty.ensures c.if-is_empty.false) (sym c.is_version.ensures ∙ c.if-not-is_version.false) (sym c.misframed.ensures ∙ c.if-misframed.false)
    (sym c.too_many.ensures ∙ c.if-too_many.false)

headers : (c : After-any_breaks) → c.any_breaks.result ≡ any_part (wrong_in (version c.args.board.now)) (parts c.args.board.now)
headers c =
    c.any_breaks.ensures
    ∙ breaks_of_framed c.args.board.now (Header (version c.args.board.now)) (sym c.misframed.ensures ∙ c.if-misframed.false)

headers-5 : (c : Else-any_breaks) → any_part (wrong_in (version c.args.board.now)) (parts c.args.board.now) ≡ false
headers-5 c =
    sym (c.any_breaks.ensures
    ∙ breaks_of_framed c.args.board.now (Header (version c.args.board.now)) (sym c.misframed.ensures ∙ c.if-misframed.false))
    ∙ c.if-any_breaks.false

-- every record is one of some version
records-right : (c : Else-any_breaks) → any_part header_wrong (parts c.args.board.now) ≡ false
records-right c = right_parts (version c.args.board.now) (parts c.args.board.now) (headers-5 c)

past-5 : (c : Else-any_breaks) → board_number c.args.board.now ≡ from_edges (host c.args.board.now) (functions c.args.board.now)
past-5 c =
    after-headers _ (some c.args.board.now c.is_empty.ensures c.if-is_empty.false) (sym c.is_version.ensures ∙ c.if-not-is_version.false) (sym c.misframed.ensures ∙ c.if-misframed.false)
    (sym c.too_many.ensures ∙ c.if-too_many.false) (headers-5 c)

edges : (c : After-host_wrong) → c.host_wrong.result ≡ host_wrong (host c.args.board.now)
edges c = c.host_wrong.ensures ∙ ap host_wrong (c.host_of.ensures ∙ ap host_of_part c.part_at.ensures)

past-6 : (c : Else-host_wrong) → board_number c.args.board.now ≡ from_order (functions c.args.board.now)
past-6 c =
    after-edges _ (some c.args.board.now c.is_empty.ensures c.if-is_empty.false) (sym c.is_version.ensures ∙ c.if-not-is_version.false) (sym c.misframed.ensures ∙ c.if-misframed.false)
    (sym c.too_many.ensures ∙ c.if-too_many.false)
    (sym (c.any_breaks.ensures
    ∙ breaks_of_framed c.args.board.now (Header (version c.args.board.now)) (sym c.misframed.ensures ∙ c.if-misframed.false))
    ∙ c.if-any_breaks.false)
    (sym (c.host_wrong.ensures ∙ ap host_wrong (c.host_of.ensures ∙ ap host_of_part c.part_at.ensures)) ∙ c.if-host_wrong.false)

past-7 : (c : Else-is_some) → board_number c.args.board.now ≡ from_readbacks (functions c.args.board.now)
past-7 c =
    after-order _ (some c.args.board.now c.is_empty.ensures c.if-is_empty.false) (sym c.is_version.ensures ∙ c.if-not-is_version.false) (sym c.misframed.ensures ∙ c.if-misframed.false)
    (sym c.too_many.ensures ∙ c.if-too_many.false)
    (sym (c.any_breaks.ensures
    ∙ breaks_of_framed c.args.board.now (Header (version c.args.board.now)) (sym c.misframed.ensures ∙ c.if-misframed.false))
    ∙ c.if-any_breaks.false)
    (sym (c.host_wrong.ensures ∙ ap host_wrong (c.host_of.ensures ∙ ap host_of_part c.part_at.ensures)) ∙ c.if-host_wrong.false)
    (sym (misplaced_by_first _ _ c.first_misplaced.ensures) ∙ sym c.is_some.ensures ∙ c.if-is_some.false)

readbacks : (c : After-any_breaks-2) → c.any_breaks-2.result ≡ any readbacks_wrong (functions c.args.board.now)
readbacks c =
    c.any_breaks-2.ensures ∙ breaks_of_framed c.args.board.now ReadBacks (sym c.misframed.ensures ∙ c.if-misframed.false)
    ∙ sym (any_map readbacks_wrong function_of_part (parts c.args.board.now))

pub returns-then-is_empty : goal.returns-then-is_empty
unfolding board_number
returns-then-is_empty c = sym (rw (eq-eqb (length c.args.board.now) 0 (eqb-true (length c.args.board.now) 0 (sym c.is_empty.ensures ∙ c.if-is_empty.true))))

pub returns-then-not-is_version : goal.returns-then-not-is_version
returns-then-not-is_version c = sym (other_version c.args.board.now (some c.args.board.now c.is_empty.ensures c.if-is_empty.false)
    (sym c.is_version.ensures ∙ c.if-not-is_version.true))

pub returns-then-misframed : goal.returns-then-misframed
unfolding from_frame
returns-then-misframed c = sym (past-2 (goal.at.returns-then-misframed c).Else-not-is_version ∙ rw (sym c.misframed.ensures ∙ c.if-misframed.true))

pub returns-then-too_many : goal.returns-then-too_many
unfolding from_count
returns-then-too_many c = sym (past-3 (goal.at.returns-then-too_many c).Else-misframed ∙ rw (sym c.too_many.ensures ∙ c.if-too_many.true))

pub any_breaks-requires : goal.any_breaks-requires
any_breaks-requires c = any_never (parts_from c.args.board.now functions_at)

pub returns-then-any_breaks : goal.returns-then-any_breaks
unfolding from_headers
returns-then-any_breaks c = sym (past-4 (goal.at.returns-then-any_breaks c).Else-too_many ∙ rw (sym (headers (goal.at.returns-then-any_breaks c).After-any_breaks) ∙ c.if-any_breaks.true))

pub part_at-requires : goal.part_at-requires
part_at-requires c = let s = c.args.board.now in fits_at s host_at host_length (host_of_framed s (whole (goal.at.part_at-requires c).Else-misframed))

pub host_of-requires : goal.host_of-requires
host_of-requires c = let s = c.args.board.now in
    ap length c.part_at.ensures ∙ length_part s host_at host_length (host_of_framed s (whole (goal.at.host_of-requires c).Else-misframed))

pub returns-then-host_wrong : goal.returns-then-host_wrong
unfolding from_edges
returns-then-host_wrong c = sym (past-5 (goal.at.returns-then-host_wrong c).Else-any_breaks ∙ rw (sym (edges (goal.at.returns-then-host_wrong c).After-host_wrong) ∙ c.if-host_wrong.true))

pub first_misplaced-requires : goal.first_misplaced-requires
first_misplaced-requires c = records-right (goal.at.first_misplaced-requires c).Else-any_breaks

pub returns-then-is_some : goal.returns-then-is_some
unfolding from_order
returns-then-is_some c = sym (past-6 (goal.at.returns-then-is_some c).Else-host_wrong ∙ rw (sym (misplaced_by_first _ _ c.first_misplaced.ensures) ∙ sym c.is_some.ensures ∙ c.if-is_some.true))

pub any_breaks-requires-2 : goal.any_breaks-requires-2
any_breaks-requires-2 c = records-right (goal.at.any_breaks-requires-2 c).Else-any_breaks

pub returns-then-any_breaks-2 : goal.returns-then-any_breaks-2
unfolding from_readbacks
returns-then-any_breaks-2 c = sym (past-7 (goal.at.returns-then-any_breaks-2 c).Else-is_some ∙ rw (sym (readbacks (goal.at.returns-then-any_breaks-2 c).After-any_breaks-2) ∙ c.if-any_breaks-2.true))

pub returns : goal.returns
unfolding from_readbacks
returns c = sym (past-7 (goal.at.returns c).Else-is_some ∙ rw (sym (readbacks (goal.at.returns c).After-any_breaks-2) ∙ c.if-any_breaks-2.false))
