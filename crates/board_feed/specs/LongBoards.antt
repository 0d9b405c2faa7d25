-- An input longer than any lawful board: fed in pieces, wherever the cuts fall, it comes to document 01's number. Assumes nothing.
use Rattle.std.specs.Prelude.{ℕ, ◌+◌, ◌-◌, ◌*◌, min, ◌≤◌, ◌<◌, ◌≡◌, refl, Bool, true, false, cond, ◌||◌, eqb, ltb, length}
use Rattle.std.proofs.Common.{sym, ap, ap₂, ◌∙◌, arith, ne_eqb, lt-ltb, le-ltb, ltb-true, ltb-false, eqb-true}
use Rattle.std.proofs.Math.Bool.{or-false, or_assoc}
use mathlib.Core.List.{List, [], ◌∷◌, ◌++◌, foldl}
use Rattle.std.proofs.lemmas.Bool.{not-false}
use Rattle.arith.specs.BoolLaws.{false_of_or}
use Rattle.records.specs.declared.frame.Stage.{Stage}
use Rattle.records.specs.declared.frame.Stage.TheVariants.{Other, Between}
use Rattle.records.specs.declared.frame.Event.TheVariants.{Version, Foreign}
use Rattle.records.specs.declared.frame.Ending.{Ending}
use Rattle.records.specs.declared.frame.Ending.TheVariants.{Whole, Cut}
use Rattle.records.specs.Records.{parts_of, any_part, total}
use Rattle.records.specs.RecordsLaws.{length_of_whole}
use Rattle.records.specs.Frame.{version_of, stage_after, stage_of, heard_of, ending_of, heard_bytes, heard_part}
use Rattle.records.specs.FrameLaws.{stage_other, heard_whole, ending_parts}
use Rattle.board_record.specs.Host.{host_length}
use Rattle.records.specs.Limits.{most_functions}
use Rattle.board.specs.Board.{is_version, no_host, misframed, board_number, from_version, from_frame, from_count, from_headers}
use Rattle.board_record.specs.Function.{is_short, wrong_in}
use Rattle.board_record.specs.FunctionLaws.{length_le, right_of_version}
use Rattle.board_feed.specs.declared.Feed.{Feed}
use Rattle.board_feed.specs.declared.Tally.{Tally}
use Rattle.board_feed.specs.Tally.{longest_function, shortest_function, most_bytes, most_counted, fresh}
use Rattle.board_feed.specs.Tally.{misfits_of, counted_of, begun_of, heard_by, whole_number, number_at}
use Rattle.board_feed.specs.ShownLaws.{board_stage_append, board_heard_append, shown_version}
use Rattle.board_feed.specs.Feed.{started, fed_of, frame_number}

-- ## The tally of whole records

-- the bytes of a record do not matter
tally_bytes : (left : ℕ) (t : Tally) (p : List ℕ) → heard_bytes heard_by left t p ≡ t
unfolding heard_bytes
tally_bytes left t [] = refl
tally_bytes left t (b ∷ p) = tally_bytes (left - 1) t p

tally_part : (t : Tally) (p : List ℕ) → heard_part heard_by t p ≡ begun_of t (length p)
unfolding heard_part
tally_part t p = tally_bytes (length p) (begun_of t (length p)) p

abbrev tally_over : Tally → List (List ℕ) → Tally
tally_over t ps = foldl (heard_part heard_by) t ps

tally_more : (t : Tally) (p : List ℕ) (ps : List (List ℕ)) → tally_over t (p ∷ ps) ≡ tally_over (begun_of t (length p)) ps
tally_more t p ps = ap (λ (u : Tally). tally_over u ps) (tally_part t p)

counted_min : (c : ℕ) → c ≤ most_counted → counted_of c ≡ min (c + 1) most_counted
unfolding counted_of
counted_min c h = go (ltb c most_counted) refl
  where
    go : (t : Bool) → ltb c most_counted ≡ t → cond t (c + 1) c ≡ min (c + 1) most_counted
    go true t = omega (arith, ltb-true c most_counted t)
    go false t = omega (arith, ltb-false c most_counted t)

tally_records : (t : Tally) (ps : List (List ℕ)) → t.records ≤ most_counted
    → (tally_over t ps).records ≡ min (t.records + length ps) most_counted
unfolding begun_of
tally_records t [] h = omega arith
tally_records t (p ∷ ps) h =
    let e = counted_min t.records h in
    ap (λ (u : Tally). u.records) (tally_more t p ps) ∙ tally_records (begun_of t (length p)) ps (omega arith) ∙ rw e (omega arith)

-- after the host every record is a function
tally_misframed : (t : Tally) (ps : List (List ℕ)) → 1 ≤ t.records → t.records ≤ most_counted
    → (tally_over t ps).misframed ≡ t.misframed || any_part is_short ps
unfolding begun_of any_part misfits_of
tally_misframed t [] h l = sym (or-false t.misframed)
tally_misframed t (p ∷ ps) h l =
    let e = counted_min t.records l in
    ap (λ (u : Tally). u.misframed) (tally_more t p ps)
    ∙ tally_misframed (begun_of t (length p)) ps (omega arith) (omega arith)
    ∙ rw (ne_eqb t.records 0 (λ z. omega arith)) (or_assoc t.misframed (ltb (length p) shortest_function) (any_part is_short ps))

-- ## Its number, as the board's checks have it

past_most : (n : ℕ) → ltb (1 + most_functions) (min (1 + n) most_counted) ≡ ltb most_functions n
past_most n = go (ltb most_functions n) refl
  where
    go : (t : Bool) → ltb most_functions n ≡ t → ltb (1 + most_functions) (min (1 + n) most_counted) ≡ t
    go true t = lt-ltb (1 + most_functions) (min (1 + n) most_counted) (omega (arith, ltb-true most_functions n t))
    go false t = le-ltb (1 + most_functions) (min (1 + n) most_counted) (omega (arith, ltb-false most_functions n t))

number_counted : (t : Tally) (n : ℕ) (b : Bool) → t.records ≡ min (1 + n) most_counted → t.misframed ≡ b
    → whole_number t ≡ cond b 20 (cond (ltb most_functions n) 22 24)
unfolding whole_number
number_counted t n b r m = rw (r, m, ne_eqb (min (1 + n) most_counted) 0 (λ z. omega arith), past_most n)

-- of whole records, a host first: 20 or 22, or else 24
number_whole : (p : List ℕ) (ps : List (List ℕ))
    → whole_number (tally_over fresh (p ∷ ps)) ≡ cond (no_host (p ∷ ps) || any_part is_short ps) 20 (cond (ltb most_functions (length ps)) 22 24)
unfolding begun_of misfits_of counted_of
number_whole p ps =
    let t : Tally = begun_of fresh (length p) in
    ap whole_number (tally_more fresh p ps)
    ∙ number_counted (tally_over t ps) (length ps) (no_host (p ∷ ps) || any_part is_short ps) (tally_records t ps (omega arith))
    (tally_misframed t ps (omega arith) (omega arith))

total_of_right : (v : ℕ) (ps : List (List ℕ)) → any_part (wrong_in v) ps ≡ false → total ps ≤ (2 + longest_function) * length ps
unfolding total any_part
total_of_right v [] h = omega arith
total_of_right v (p ∷ ps) h =
    let right = false_of_or (wrong_in v p) (any_part (wrong_in v) ps) h in
    let a = length_le p (right_of_version v p right.0) in
    let b = total_of_right v ps right.1 in
    omega arith

-- records that pass 20 and 22 and come to more than a lawful board has have one of a wrong length
wrong_of_long : (v : ℕ) (p : List ℕ) (ps : List (List ℕ)) → most_bytes ≤ total (p ∷ ps) → no_host (p ∷ ps) ≡ false
    → ltb most_functions (length ps) ≡ false → any_part (wrong_in v) ps ≡ true
unfolding total
wrong_of_long v p ps l h c = go (any_part (wrong_in v) ps) refl
  where
    go : (t : Bool) → any_part (wrong_in v) ps ≡ t → t ≡ true
    go true t = refl
    go false t =
        let host = eqb-true (length p) host_length (not-false (eqb (length p) host_length) h) in
        absurd (omega (arith, total_of_right v ps t, ltb-false most_functions (length ps) c))

-- the tally's number is the board's
long_whole : (v : ℕ) (ps : List (List ℕ)) → most_bytes ≤ total ps
    → whole_number (tally_over fresh ps) ≡ from_frame v (record { parts = ps; whole = true })
unfolding from_frame misframed from_count from_headers whole_number
long_whole v [] l = refl
long_whole v (p ∷ ps) l = number_whole p ps ∙ go (no_host (p ∷ ps) || any_part is_short ps) refl (ltb most_functions (length ps)) refl
  where
    go : (b : Bool) → no_host (p ∷ ps) || any_part is_short ps ≡ b → (t : Bool) → ltb most_functions (length ps) ≡ t
        → cond b 20 (cond t 22 24) ≡ from_frame v (record { parts = p ∷ ps; whole = true })
    go true b t c = rw b
    go false b true c = rw (b, c)
    go false b false c = rw (b, c, wrong_of_long v p ps l (false_of_or (no_host (p ∷ ps)) (any_part is_short ps) b).0 c)

long_frame : (v : ℕ) (w : Bool) (ps : List (List ℕ)) (t : Tally) → (w ≡ true → t ≡ tally_over fresh ps) → (w ≡ true → most_bytes ≤ total ps)
    → number_at (cond w Whole Cut) t ≡ from_frame v (record { parts = ps; whole = w })
unfolding from_frame misframed
long_frame v false ps t e l = refl
long_frame v true ps t e l = ap whole_number (e refl) ∙ long_whole v ps (l refl)

-- ## The theorem

-- fed byte by byte, an input longer than any lawful board comes to the board's number
pub long_board_number : (s : List ℕ) → most_bytes < length s → frame_number (fed_of started s) ≡ board_number s
unfolding board_number from_version frame_number stage_of heard_of version_of
long_board_number [] h = absurd (omega arith)
long_board_number (v ∷ r) h =
    let n : eqb (length (v ∷ r)) 0 ≡ false = ne_eqb (length (v ∷ r)) 0 (λ z. omega arith) in
    rw n (ap numbered (shown_version v) ∙ go (is_version v))
  where
    -- of a version that is known, or not
    numbered : Bool → ℕ
    numbered t =
        number_at (ending_of (stage_of (stage_after (cond t Version Foreign)) r))
        (heard_of heard_by (stage_after (cond t Version Foreign)) (heard_by fresh (cond t Version Foreign)) r)

    go : (t : Bool) → numbered t ≡ cond t (from_frame v (parts_of r)) 21
    go true =
        ap (λ (e : Ending). number_at e (heard_of heard_by Between fresh r)) (ending_parts r)
        ∙ long_frame v (parts_of r).whole (parts_of r).parts (heard_of heard_by Between fresh r)
        (λ w. heard_whole heard_by (λ t b. refl) r w fresh)
        (λ w. omega (arith, length_of_whole r w))
    go false = ap (λ (g : Stage). number_at (ending_of g) (heard_of heard_by Other fresh r)) (stage_other r)

-- two pieces in a row are one
fed_append : (f : Feed) (a b : List ℕ) → frame_number (fed_of (fed_of f a) b) ≡ frame_number (fed_of f (a ++ b))
unfolding frame_number
fed_append f a b =
    ap₂ (λ (g : Stage) (t : Tally). number_at (ending_of g) t) (sym (board_stage_append f.stage a b))
    (sym (board_heard_append f.stage f.tally a b))

-- and in pieces, wherever the cuts fall
pub long_board_pieces : (a b : List ℕ) → most_bytes < length (a ++ b) → frame_number (fed_of (fed_of started a) b) ≡ board_number (a ++ b)
long_board_pieces a b h = fed_append started a b ∙ long_board_number (a ++ b) h
