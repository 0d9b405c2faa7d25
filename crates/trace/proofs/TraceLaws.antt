-- From a fresh state, wherever the cuts fall, the lines and the end's are those of the whole trace, and the end state is that of one piece.
-- Assumes nothing.
use Rattle.std.specs.Prelude.{◌≡◌, ℕ, suc, ◌+◌, ◌-◌, ◌<◌, ◌≤◌, min, Bool, true, false, cond, List, [], ◌∷◌, ◌++◌, length, take, drop, replicate, ◌==◌, nat_lt, slice_index, slice_set}
use Rattle.std.proofs.Math.Path.{refl, sym, ap, ap₂}
use Rattle.std.proofs.Common.{◌∙◌, add-one, length-set, drop_of_length-le, drop-cons, drop-drop, take-suc-set, take_all, ltb-true, ltb-false, ne_eqb}
use mathlib.Core.List.{append_assoc, append-nil, foldl, flatten}
use native.Mathlib.Omega.{arith}
use Rattle.std.proofs.Math.ListN.{length-take}
use Rattle.std.proofs.Math.Seq.{set_out}
use Rattle.std.proofs.lemmas.List.{take-append-le}
use Rattle.records.specs.declared.frame.Stage.{Stage}
use Rattle.records.specs.declared.Next.TheVariants.{Record}
use Rattle.records.specs.declared.frame.Stage.TheVariants.{Start, Other, Between, Length, Inside}
use Rattle.records.specs.declared.frame.Event.{Event}
use Rattle.records.specs.declared.frame.Event.TheVariants.{Version, Foreign, Passed, Half, Begins, Byte}
use Rattle.records.specs.declared.frame.Ending.{Ending}
use Rattle.records.specs.declared.frame.Ending.TheVariants.{Unread, Whole, Cut}
use Rattle.records.specs.Records.{next_of, parts_of}
use Rattle.records.specs.RecordsLaws.{fits_at}
use Rattle.records.specs.Frame.{version_of, event_of, stage_after, stage_of, heard_of, heard_bytes, heard_part, end_of}
use Rattle.records.specs.FrameLaws.{stage_append, heard_append, heard_other, stage_record, heard_record, look_parts, ending_agree}
use Rattle.trace.specs.declared.Emits.{Emits}
use Rattle.trace.specs.declared.Emits.TheVariants.{Nothing, Refusal, Line}
use Rattle.trace.specs.declared.Trace.{Trace}
use Rattle.trace.specs.Annotated.{front_length, front_of, number_after, version_line, cut_line, record_lines, framed_lines, annotated}
use Rattle.trace.specs.Trace.{tracing, no_bytes, fresh, between}
use Rattle.trace.specs.Trace.{Account, account_of, trace_at, line_at, emitted_by, number_by, kept_by, head_by}
use Rattle.trace.specs.Trace.{kept_after, head_after, heard_by, next_in, state_of, Told, text_of, text_by, told_by, lines_of, end_text, end_line}

-- ## Two accounts of the same bytes

-- what holds of two accounts after each event, if it held before
pub heard_related : {A B : Type 0} (hear : A → Event → A) (hear' : B → Event → B) (R : A → B → Type 0)
    → ((a : A) (b : B) (e : Event) → R a b → R (hear a e) (hear' b e)) → (g : Stage) (a : A) (b : B) (s : List ℕ) → R a b
    → R (heard_of hear g a s) (heard_of hear' g b s)
unfolding heard_of
heard_related hear hear' R on g a b [] r = r
heard_related hear hear' R on g a b (x ∷ s) r =
    let e = event_of g x in heard_related hear hear' R on (stage_after e) (hear a e) (hear' b e) s (on a b e r)

-- one of which is a view of the other
heard_map : {A B : Type 0} (hear : A → Event → A) (hear' : B → Event → B) (f : A → B) → ((a : A) (e : Event) → f (hear a e) ≡ hear' (f a) e)
    → (g : Stage) (a : A) (s : List ℕ) → f (heard_of hear g a s) ≡ heard_of hear' g (f a) s
heard_map {A} {B} hear hear' f on g a s =
    heard_related hear hear' (λ (x : A) (y : B). f x ≡ y) (λ x y e r. on x e ∙ ap (λ (z : B). hear' z e) r) g a (f a) s refl

-- ## Two pieces in a row are one

pub state_append : (t : Trace) (s r : List ℕ) → state_of t (s ++ r) ≡ state_of (state_of t s) r
unfolding state_of
state_append t s r = ap₂ trace_at (stage_append t.stage s r) (heard_append heard_by t.stage (account_of t) s r)

module _ (line : ℕ → List ℕ → List ℕ) where
  abbrev hear : Told → Event → Told
  hear = told_by line

  abbrev told_from : Stage → Account → List ℕ → List ℕ → Told
  told_from g a x s = heard_of hear g (record { account = a; lines = x }) s

  -- lines that were given before
  abbrev onto : List ℕ → Told → Told
  onto x t = record { account = t.account; lines = x ++ t.lines }

  onto_told : (x : List ℕ) (t : Told) (e : Event) → onto x (hear t e) ≡ hear (onto x t) e
  onto_told x t e =
      ap (λ (l : List ℕ). record { account = heard_by t.account e; lines = l })
      (sym (append_assoc x t.lines (text_by line e t.account)))

  told_account : (g : Stage) (t : Told) (s : List ℕ) → (heard_of hear g t s).account ≡ heard_of heard_by g t.account s
  told_account g t s = heard_map hear heard_by (λ (x : Told). x.account) (λ x e. refl) g t s

  told_lines : (g : Stage) (a : Account) (x s : List ℕ) → (told_from g a x s).lines ≡ x ++ (told_from g a [] s).lines
  told_lines g a x s =
      ap (λ (l : List ℕ). (told_from g a l s).lines) (sym (append-nil x))
      ∙ sym (ap (λ (t : Told). t.lines) (heard_map hear hear (onto x) (onto_told x) g (record { account = a; lines = [] }) s))

  lines_append : (t : Trace) (s r : List ℕ) → lines_of line t (s ++ r) ≡ lines_of line t s ++ lines_of line (state_of t s) r
  unfolding lines_of state_of
  lines_append t s r =
      let first = told_from t.stage (account_of t) [] s in
      ap (λ (x : Told). x.lines) (heard_append hear t.stage (record { account = account_of t; lines = [] }) s r)
      ∙ told_lines (stage_of t.stage s) first.account first.lines r
      ∙ ap (λ (a : Account). first.lines ++ (told_from (stage_of t.stage s) a [] r).lines)
      (told_account t.stage (record { account = account_of t; lines = [] }) s)

-- ## One record

-- a byte more at the front of a header
front_more : (h : List ℕ) (k b : ℕ) (q : List ℕ) → length h ≡ front_length → k ≤ front_length
    → front_of (take (min (k + 1) (length h)) (slice_set h k b) ++ q) ≡ front_of (take k h ++ (b ∷ q))
front_more h k b q l le = go (nat_lt k 16) refl
  where
    go : (t : Bool) → nat_lt k 16 ≡ t → front_of (take (min (k + 1) (length h)) (slice_set h k b) ++ q) ≡ front_of (take k h ++ (b ∷ q))
    go true e =
        let small = ltb-true k 16 e in
        let m : min (k + 1) (length h) ≡ suc k = omega arith in
        ap (λ (x : List ℕ). front_of (x ++ q)) (ap (λ (n : ℕ). take n (slice_set h k b)) m ∙ take-suc-set h k b (omega arith))
        ∙ ap front_of (append_assoc (take k h) (b ∷ []) q)
    go false e =
        let large = ltb-false k 16 e in
        let same : k ≡ 16 = omega arith in
        let m : min (k + 1) (length h) ≡ 16 = omega arith in
        let whole = take_all 16 h (omega arith) in
        ap (λ (n : ℕ). front_of (take n (slice_set h k b) ++ q)) m
        ∙ ap (λ (x : List ℕ). front_of (take 16 x ++ q)) (set_out h k b (omega arith))
        ∙ ap (λ (x : List ℕ). front_of (x ++ q)) whole
        ∙ take-append-le 16 h q (omega arith)
        ∙ sym (take-append-le 16 h (b ∷ q) (omega arith))
        ∙ ap (λ (x : List ℕ). front_of (x ++ (b ∷ q))) (sym (ap (λ (n : ℕ). take n h) same ∙ whole))

pub line_suc : (n : ℕ) → line_at (suc n) ≡ Nothing
unfolding line_at
line_suc n = rw (ne_eqb (suc n) 0 (λ e. omega arith))

abbrev accounting : ℕ → ℕ → List ℕ → Account
accounting number kept head = record { number = number; kept = kept; head = head }

abbrev telling : ℕ → ℕ → List ℕ → List ℕ → Told
telling number kept head lines = record { account = accounting number kept head; lines = lines }

module _ (line : ℕ → List ℕ → List ℕ) where
  -- an event that gives no line
  quiet : (e : Emits) → e ≡ Nothing → (n k : ℕ) (h x : List ℕ)
      → telling (number_by e n) (kept_after e k) (head_after e h) (x ++ text_of line e (number_by e n) (take k h)) ≡ telling n k h x
  quiet e z n k h x =
      ap (λ (f : Emits). telling (number_by f n) (kept_after f k) (head_after f h) (x ++ text_of line f (number_by f n) (take k h))) z
      ∙ ap (telling n k h) (append-nil x)

  begins_quiet : (m n k : ℕ) (h x : List ℕ) → told_by line (telling n k h x) (Begins (suc m)) ≡ telling n 0 h x
  begins_quiet m n k h x = quiet (line_at (suc m)) (line_suc m) n 0 h x

  byte_quiet : (b m n k : ℕ) (h x : List ℕ)
      → told_by line (telling n k h x) (Byte b (suc m)) ≡ telling n (min (k + 1) (length h)) (slice_set h k b) x
  byte_quiet b m n k h x = quiet (line_at (suc m)) (line_suc m) n (min (k + 1) (length h)) (slice_set h k b) x

  -- after record n, a record's number and line, with no bytes kept
  abbrev lined : ℕ → List ℕ → List ℕ → Told
  lined n x header = telling (number_after n) 0 no_bytes (x ++ line (number_after n) header)

  bytes_lined : (b n k : ℕ) (h x q : List ℕ) → length h ≡ front_length → k ≤ front_length
      → heard_bytes (told_by line) (suc (length q)) (telling n k h x) (b ∷ q) ≡ lined n x (front_of (take k h ++ (b ∷ q)))
  unfolding heard_bytes line_at
  bytes_lined b n k h x [] l le =
      ap (lined n x)
      (sym (take_all 16 (take (min (k + 1) (length h)) (slice_set h k b)) (omega (arith, length-take (min (k + 1) (length h)) (slice_set h k b))))
      ∙ ap front_of (sym (append-nil (take (min (k + 1) (length h)) (slice_set h k b))))
      ∙ front_more h k b [] l le)
  bytes_lined b n k h x (c ∷ q) l le =
      let e : suc (suc (length q)) - 1 ≡ suc (length q) = omega arith in
      ap (λ (m : ℕ). heard_bytes (told_by line) m (told_by line (telling n k h x) (Byte b m)) (c ∷ q)) e
      ∙ ap (λ (t : Told). heard_bytes (told_by line) (suc (length q)) t (c ∷ q)) (byte_quiet b (length q) n k h x)
      ∙ bytes_lined c n (min (k + 1) (length h)) (slice_set h k b) x q (length-set h k b ∙ l) (omega arith)
      ∙ ap (lined n x) (front_more h k b (c ∷ q) l le)

  part_lined : (n k : ℕ) (h x p : List ℕ) → length h ≡ front_length
      → heard_part (told_by line) (telling n k h x) p ≡ lined n x (front_of p)
  unfolding heard_part heard_bytes line_at
  part_lined n k h x [] l = refl
  part_lined n k h x (b ∷ q) l =
      ap (λ (t : Told). heard_bytes (told_by line) (suc (length q)) t (b ∷ q)) (begins_quiet (length q) n k h x)
      ∙ bytes_lined b n 0 h x q l (omega arith)

  -- ## The whole trace

  parts_lined : (t : Told) (ps : List (List ℕ)) → length t.account.head ≡ front_length
      → (foldl (heard_part (told_by line)) t ps).lines ≡ t.lines ++ record_lines line t.account.number ps
  unfolding record_lines
  parts_lined t [] l = sym (append-nil t.lines)
  parts_lined t (p ∷ ps) l =
      let n = t.account.number in
      ap (λ (r : Told). (foldl (heard_part (told_by line)) r ps).lines) (part_lined n t.account.kept t.account.head t.lines p l)
      ∙ parts_lined (lined n t.lines (front_of p)) ps refl
      ∙ append_assoc t.lines (line (number_after n) (front_of p)) (record_lines line (number_after n) ps)

  half_quiet : (t : Told) (b : ℕ) → told_by line t (Half b) ≡ t
  half_quiet t b = ap (λ (x : List ℕ). record { account = t.account; lines = x }) (append-nil t.lines)

  passed_quiet : (t : Told) → told_by line t Passed ≡ t
  passed_quiet t = half_quiet t 0

  between_lines : (t : Told) (s : List ℕ) → length t.account.head ≡ front_length
      → (heard_of (told_by line) Between t s).lines ≡ t.lines ++ record_lines line t.account.number (parts_of s).parts
  between_lines t s l =
      look_parts (told_by line) half_quiet (λ (x : Told). x.lines)
      (λ x n. ap (λ (y : Told). y.lines) (begins_quiet n x.account.number x.account.kept x.account.head x.lines))
      (λ x b n. ap (λ (y : Told). y.lines) (byte_quiet b n x.account.number x.account.kept x.account.head x.lines))
      s t
      ∙ parts_lined t (parts_of s).parts l

  -- a whole trace and its end, from a fresh state
  told_fresh : (s : List ℕ) → lines_of line fresh s ++ end_line (state_of fresh s) ≡ annotated line s
  unfolding lines_of state_of annotated stage_of heard_of version_of end_of
  told_fresh [] = refl
  told_fresh (v ∷ s) = ap (λ (e : Ending). lines_of line fresh (v ∷ s) ++ end_text e) (ending_agree (v ∷ s)) ∙ go (v == 1)
    where
      start : Told
      start = telling 0 0 (replicate front_length 0) []

      line_end : Bool → Ending
      line_end t = cond t (cond (parts_of s).whole Whole Cut) Unread

      whole : (b : Bool) → end_text (cond b Whole Cut) ≡ cond b [] cut_line
      whole true = refl
      whole false = refl

      told : Event → Told
      told e = heard_of (told_by line) (stage_after e) (told_by line start e) s

      go : (t : Bool) → (told (cond t Version Foreign)).lines ++ end_text (line_end t) ≡ cond t (framed_lines line (parts_of s)) version_line
      go true = ap₂ ◌++◌ (between_lines start s refl) (whole (parts_of s).whole)
      go false =
          append-nil (heard_of (told_by line) Other (told_by line start Foreign) s).lines
          ∙ ap (λ (t : Told). t.lines) (heard_other (told_by line) passed_quiet (told_by line start Foreign) s)

-- ## Pieces

unfoldable pub state_all : Trace → List (List ℕ) → Trace
state_all t [] = t
state_all t (piece ∷ pieces) = state_all (state_of t piece) pieces

-- the end state is that of one piece
pub state_all_lem : (t : Trace) (pieces : List (List ℕ)) → state_all t pieces ≡ state_of t (flatten pieces)
unfolding state_all flatten state_of stage_of heard_of
state_all_lem t [] = refl
state_all_lem t (piece ∷ pieces) = state_all_lem (state_of t piece) pieces ∙ sym (state_append t piece (flatten pieces))

module _ (line : ℕ → List ℕ → List ℕ) where
  unfoldable pub lines_all : Trace → List (List ℕ) → List ℕ
  lines_all t [] = []
  lines_all t (piece ∷ pieces) = lines_of line t piece ++ lines_all (state_of t piece) pieces

  lines_all_lem : (t : Trace) (pieces : List (List ℕ)) → lines_all t pieces ≡ lines_of line t (flatten pieces)
  unfolding lines_all flatten lines_of heard_of
  lines_all_lem t [] = refl
  lines_all_lem t (piece ∷ pieces) =
      ap (λ (x : List ℕ). lines_of line t piece ++ x) (lines_all_lem (state_of t piece) pieces) ∙ sym (lines_append line t piece (flatten pieces))

  -- wherever the cuts fall, the pieces' lines and the end's are those of the whole trace
  pub pieces_told : (pieces : List (List ℕ)) → lines_all fresh pieces ++ end_line (state_all fresh pieces) ≡ annotated line (flatten pieces)
  pieces_told pieces =
      ap₂ (λ (x : List ℕ) (t : Trace). x ++ end_line t) (lines_all_lem fresh pieces) (state_all_lem fresh pieces) ∙ told_fresh line (flatten pieces)

-- ## A loop over a piece: one byte more, a whole record more, and none left

pub length_head : (e : Event) (kept : ℕ) (head : List ℕ) → length (head_by e kept head) ≡ length head
length_head Version kept head = refl
length_head Foreign kept head = refl
length_head Passed kept head = refl
length_head (Half high) kept head = refl
length_head (Begins size) kept head = refl
length_head (Byte byte left) kept head = length-set head kept byte

pub length_settled : (m : Emits) (head : List ℕ) → length head ≡ front_length → length (head_after m head) ≡ front_length
length_settled Nothing head l = l
length_settled Refusal head l = l
length_settled Line head l = refl

-- a record starts only between records
pub between_elim : (P : Stage → Type 0) (g : Stage) (s : List ℕ) (size : ℕ) → next_in g s ≡ Record size
    → (next_of s ≡ Record size → P Between) → P g
between_elim P Start s size is at = absurd (let z : ◌≡◌ {A = ℕ} 0 1 = cc in omega arith)
between_elim P Other s size is at = absurd (let z : ◌≡◌ {A = ℕ} 0 1 = cc in omega arith)
between_elim P Between s size is at = at is
between_elim P (Length high) s size is at = absurd (let z : ◌≡◌ {A = ℕ} 0 1 = cc in omega arith)
between_elim P (Inside left) s size is at = absurd (let z : ◌≡◌ {A = ℕ} 0 1 = cc in omega arith)

-- the front of the record at a place
abbrev pub header_at : List ℕ → ℕ → ℕ → List ℕ
header_at p i size = front_of (take size (drop (i + 2) p))

module _ (line : ℕ → List ℕ → List ℕ) where
  -- what stands between two places gives this text, and the state after it
  pub record Turn (t : Trace) (p : List ℕ) (i : ℕ) (text : List ℕ) (t' : Trace) (j : ℕ) : Type 0 where
    pub lines : lines_of line t (drop i p) ≡ text ++ lines_of line t' (drop j p)
    pub state : state_of t (drop i p) ≡ state_of t' (drop j p)

  module _ (t : Trace) (p : List ℕ) (i : ℕ) where
    abbrev event : Event
    event = event_of t.stage (slice_index p i)

    abbrev after : Account
    after = heard_by (account_of t) event

    turn_by_byte : i < length p → Turn t p i (text_by line event (account_of t)) (trace_at (stage_after event) after) (i + 1)
    unfolding lines_of state_of stage_of heard_of
    turn_by_byte h =
        let e : drop i p ≡ slice_index p i ∷ drop (i + 1) p = rw (add-one i) (drop-cons p i 0 h) in
        record {
          lines = rw e (told_lines line (stage_after event) after (text_by line event (account_of t)) (drop (i + 1) p));
          state = rw e;
        }

    -- in the words of the code
    pub turn : i < length p → (e : Event) → e ≡ event → (m : Emits) → m ≡ emitted_by e → (g : Stage) (n k : ℕ) (h header : List ℕ)
        → g ≡ stage_after e → n ≡ number_by m t.number → k ≡ kept_by e t.kept (length t.head) → h ≡ head_by e t.kept t.head
        → header ≡ take k h → (k' : ℕ) (h' : List ℕ) → k' ≡ kept_after m k → h' ≡ head_after m h
        → Turn t p i (text_of line m n header) (tracing g n k' h') (i + 1)
    turn l e e_is m m_is g n k h header g_is n_is k_is h_is header_is k' h' k'_is h'_is =
        let moved : m ≡ emitted_by event = m_is ∙ ap emitted_by e_is in
        let staged : g ≡ stage_after event = g_is ∙ ap stage_after e_is in
        let numbered : n ≡ after.number = n_is ∙ ap (λ (x : Emits). number_by x t.number) moved in
        let kept : k ≡ kept_by event t.kept (length t.head) = k_is ∙ ap (λ (x : Event). kept_by x t.kept (length t.head)) e_is in
        let headed : h ≡ head_by event t.kept t.head = h_is ∙ ap (λ (x : Event). head_by x t.kept t.head) e_is in
        rw (header_is, k'_is, h'_is, moved, staged, numbered, kept, headed) (turn_by_byte l)

  -- a record that is whole: its line at once, whatever was kept
  module _ (n k : ℕ) (h p : List ℕ) (i size : ℕ) (places : length h ≡ front_length) (is : next_of (drop i p) ≡ Record size) where
    abbrev header : List ℕ
    header = header_at p i size

    record_heard : heard_of (told_by line) Between (telling n k h []) (drop i p)
        ≡ heard_of (told_by line) Between (lined line n [] header) (drop (i + 2 + size) p)
    record_heard =
        let e : i + (2 + size) ≡ i + 2 + size = omega arith in
        heard_record (told_by line) (half_quiet line) (drop i p) size is (telling n k h [])
        ∙ ap₂ (heard_of (told_by line) Between)
        (part_lined line n k h [] (take size (drop 2 (drop i p))) places
        ∙ ap (λ (s : List ℕ). lined line n [] (front_of (take size s))) (drop-drop 2 i p))
        (drop-drop (2 + size) i p ∙ ap (λ (j : ℕ). drop j p) e)

    turn_record : Turn (tracing Between n k h) p i (line (number_after n) header) (between (number_after n)) (i + 2 + size)
    unfolding lines_of state_of
    turn_record =
        let e : i + (2 + size) ≡ i + 2 + size = omega arith in
        record {
          lines =
              ap (λ (t : Told). t.lines) record_heard
              ∙ told_lines line Between (accounting (number_after n) 0 no_bytes) (line (number_after n) header) (drop (i + 2 + size) p);
          state =
              ap₂ trace_at
              (stage_record (drop i p) size is ∙ ap (stage_of Between) (drop-drop (2 + size) i p ∙ ap (λ (j : ℕ). drop j p) e))
              (sym (told_account line Between (telling n k h []) (drop i p))
              ∙ ap (λ (t : Told). t.account) record_heard
              ∙ told_account line Between (lined line n [] header) (drop (i + 2 + size) p));
        }

  -- in the words of the code
  pub turn_whole : (t : Trace) (p : List ℕ) (i size : ℕ) → length t.head ≡ front_length → next_in t.stage (drop i p) ≡ Record size
      → (n : ℕ) (header part : List ℕ) → n ≡ number_after t.number → part ≡ take size (drop (i + 2) p) → header ≡ front_of part
      → Turn t p i (line n header) (tracing t.stage n 0 no_bytes) (i + 2 + size)
  turn_whole t p i size l is n header part n_is part_is header_is =
      rw (header_is, part_is, n_is)
      (between_elim
      (λ (g : Stage). Turn (tracing g t.number t.kept t.head) p i (line (number_after t.number) (header_at p i size))
      (tracing g (number_after t.number) 0 no_bytes) (i + 2 + size))
      t.stage (drop i p) size is (turn_record t.number t.kept t.head p i size l))

  module _ (t : Trace) (p : List ℕ) (i : ℕ) where
    pub lines_past : length p ≤ i → lines_of line t (drop i p) ≡ []
    unfolding lines_of heard_of
    lines_past h = rw (drop_of_length-le p h)

    pub state_past : length p ≤ i → state_of t (drop i p) ≡ t
    unfolding state_of stage_of heard_of
    state_past h = rw (drop_of_length-le p h)

pub whole_fits : (g : Stage) (p : List ℕ) (i size : ℕ) → next_in g (drop i p) ≡ Record size → i + 2 + size ≤ length p
whole_fits g p i size is = between_elim (λ (g : Stage). i + 2 + size ≤ length p) g (drop i p) size is (fits_at p i size)
